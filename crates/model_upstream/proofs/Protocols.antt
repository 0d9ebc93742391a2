-- Upstream's protocol: `protocol_valid` holds after every protocol history.
-- Assumes nothing.
use Prim.Native.Nat.{ℕ, suc, ◌≤◌, ◌<◌}
use mathlib.Core.Path.{◌≡◌, refl, sym, ap, ◌∙◌}
use mathlib.Core.Bool.{Bool, true, false, true≢false}
use mathlib.Core.Option.{Option, none, some}
use mathlib.Core.List.{List, [], ◌∷◌}
use native.Mathlib.Omega.{arith}
use native.Mathlib.Decide.{ℕ_discrete}
use Rattle.base_lists.specs.Table.{update}
use Rattle.base_lists.proofs.TableLaws.{update_same, update_other, update-elim}
use Rattle.base_lists.proofs.ListLaws.{is_false}
use Rattle.model_upstream.specs.Protocol.{Protocol, Action, Start, End, Snapshot, Publish, protocol_initial, Allowed, after_action, protocol_after}
use Rattle.model_upstream.specs.Protocol.{ProtocolHistory, ProtocolValid}

-- none is not some
pub none-some : {A : Type 0} {x : A} {B : Type 0} (o : Option A) → o ≡ none → o ≡ some x → B
none-some o e f = let z : ◌≡◌ {A = ℕ} 0 1 = cc in absurd (omega arith)

valid-initial : (clock : ℕ) → 1 ≤ clock → ProtocolValid (protocol_initial clock)
valid-initial clock l = record {
  clock-pos = l;
  disjoint = λ n e. absurd (true≢false (sym e));
  active-below = λ n e. absurd (true≢false (sym e));
  ended-below = λ n e. absurd (true≢false (sym e));
  published-ended = λ n stamp e. none-some none refl e;
  observed-below = λ n who e. none-some none refl e;
  observed-later = λ n m stamp who e. none-some none refl e;
}

valid-action : (p : Protocol) (a : Action) → ProtocolValid p → Allowed p a → ProtocolValid (after_action p a)
valid-action p (Start n) v h = record {
  clock-pos = omega arith;
  disjoint = λ m. update-elim (λ b. b ≡ true → p.ended m ≡ false) p.active n true m
      (λ e f. is_false (p.ended m) (λ t. omega (arith, (v.ended-below m t).1))) (λ d. v.disjoint m);
  active-below = λ m. update-elim (λ b. b ≡ true → (1 ≤ m) × (m < suc n)) p.active n true m (λ e f. (omega (arith, v.clock-pos), omega arith))
      (λ d f. let w = v.active-below m f in (w.0, omega arith));
  ended-below = λ m f. let w = v.ended-below m f in (w.0, omega arith);
  published-ended = λ m stamp f. let w = v.published-ended m stamp f in (w.0, w.1, omega arith);
  observed-below = λ m who f. let w = v.observed-below m who f in (w.0, omega arith);
  observed-later = v.observed-later;
}
valid-action p (End n) v h = record {
  clock-pos = v.clock-pos;
  disjoint = λ m. elim (ℕ_discrete m n) [
    | yes e ↦ rw (e, update_same p.active n false) (λ f. absurd (true≢false (sym f)))
    | no d ↦ rw
        (update_other p.active n false m d, update_other p.ended n true m d) (v.disjoint m)
  ];
  active-below = λ m. update-elim (λ b. b ≡ true → (1 ≤ m) × (m < p.clock)) p.active n false m (λ e f. absurd (true≢false (sym f)))
      (λ d. v.active-below m);
  ended-below = λ m. update-elim (λ b. b ≡ true → (1 ≤ m) × (m < p.clock)) p.ended n true m (λ e f. rw e (v.active-below n h)) (λ d. v.ended-below m);
  published-ended = λ m stamp f. let w = v.published-ended m stamp f in (update-elim (λ b. b ≡ true) p.ended n true m (λ e. refl) (λ d. w.0), w.1, w.2);
  observed-below = v.observed-below;
  observed-later = v.observed-later;
}
valid-action p (Snapshot n) v h = record {
  clock-pos = v.clock-pos;
  disjoint = v.disjoint;
  active-below = v.active-below;
  ended-below = v.ended-below;
  published-ended = v.published-ended;
  observed-below = λ m who. update-elim (λ o. o ≡ some who → (1 ≤ m) × (m < p.clock)) p.observed n _ m (λ e f. rw e (v.active-below n h))
      (λ d. v.observed-below m who);
  observed-later = λ m k stamp who. update-elim (λ o. o ≡ some who → who k ≡ true → p.published k ≡ some stamp → m < stamp) p.observed n _ m
      (λ e f t q. absurd (true≢false (sym (v.published-ended k stamp q).0 ∙ v.disjoint k (was-active k (taken who f) t))))
      (λ d. v.observed-later m k stamp who);
}
  where
    taken : (who : ℕ → Bool) → some (update p.active n false) ≡ some who → update p.active n false ≡ who
    taken who f = cc

    was-active : {who : ℕ → Bool} (k : ℕ) → update p.active n false ≡ who → who k ≡ true → p.active k ≡ true
    was-active k e t = update-elim (λ b. b ≡ true → p.active k ≡ true) p.active n false k (λ f z. absurd (true≢false (sym z))) (λ d z. z)
        (ap (λ f. f k) e ∙ t)
valid-action p (Publish n stamp) v h = record {
  clock-pos = omega arith;
  disjoint = v.disjoint;
  active-below = λ m f. let w = v.active-below m f in (w.0, omega arith);
  ended-below = λ m f. let w = v.ended-below m f in (w.0, omega arith);
  published-ended = λ m st. update-elim (λ o. o ≡ some st → (p.ended m ≡ true) × (m < st) × (st < suc stamp)) p.published n (some stamp) m
      (λ e f. let q : stamp ≡ st = cc in (rw e h.0, omega (arith, (v.ended-below n h.0).1), omega arith))
      (λ d f. let w = v.published-ended m st f in (w.0, w.1, omega arith));
  observed-below = λ m who f. let w = v.observed-below m who f in (w.0, omega arith);
  observed-later = λ m k st who f t. update-elim (λ o. o ≡ some st → m < st) p.published n (some stamp) k
      (λ e q. let r : stamp ≡ st = cc in omega (arith, (v.observed-below m who f).1))
      (λ d. v.observed-later m k st who f t);
}

pub protocol-valid : (clock : ℕ) (acts : List Action) → ProtocolHistory clock acts → ProtocolValid (protocol_after clock acts)
protocol-valid clock [] h = valid-initial clock h
protocol-valid clock (a ∷ older) h = valid-action (protocol_after clock older) a (protocol-valid clock older h.1) h.0
