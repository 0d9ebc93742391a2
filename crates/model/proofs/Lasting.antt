-- A version once made lasts: over any steps its xmin, next, key and payload stay, and its xmax changes once, from 0. Assumes nothing.
use mathlib.Core.Path.{◌≡◌, refl, sym, ap, ◌∙◌}
use mathlib.Core.Logic.{◌⊎◌, inl, inr, ⊎_elim}
use mathlib.Core.Option.{some}
use mathlib.Core.List.{List, [], ◌∷◌}
use Prim.Native.Nat.{ℕ, ◌≤◌}
use native.Mathlib.Omega.{arith}
use Rattle.base_lists.specs.Lists.{pick, Among}
use Rattle.base_lists.proofs.ListLaws.{map-among, pick-which}
use Rattle.model.specs.Store.{Chains, Snapshot, ReadRecord, Store, same_key}
use Rattle.model.specs.Seeing.{version_of, key_at, record_of, shows}
use Rattle.model.specs.Steps.{installed}
use Rattle.model.specs.Refusals.{Step}
use Rattle.model.specs.Machine.{step, run}
use Rattle.model.specs.Demands.{KeptVersion}
use Rattle.model.proofs.Move.{Move, stay, did-begin, did-mark, did-capture, did-collect, did-rows, did_write, did-prepare, did-install, did-end}
use Rattle.model.proofs.Move.{did-publish, did-abort}
use Rattle.model.proofs.Moving.{run-inv}
use Rattle.model.proofs.Chained.{Chained}
use Rattle.model.proofs.SeeingLaws.{same-key, key_at-pos, key_at-key, version-in}
use Rattle.model.proofs.Written.{installs}
use Rattle.model.proofs.Good.{Good, good-move}

-- every version of c is kept in c'
abbrev pub Lasts : Chains → Chains → Type 0
Lasts c c' = (p : ℕ) → 1 ≤ p → p ≤ c.used → KeptVersion c c' p

pub lasts-all : (c : Chains) → Lasts c c
lasts-all c p l u = record { in_use = u; same = record { xmin-stays = refl; next-stays = refl; key-stays = refl; payload-stays = refl }; xmax-once = inl refl }

module _ (c₀ : Chains) where
  -- an install keeps them: only a head ends, and a head was open
  lasts-install : (s : Store) (i : ℕ) → Chained s.chains → Lasts c₀ s.chains → Lasts c₀ (installed s i).chains
  lasts-install s i ch h p l u =
      let k = h p l u in
      let g = installs s i ch in
      record {
        in_use = omega (arith, k.in_use, g.used-up);
        same = record {
          xmin-stays = g.xmin-old p k.in_use ∙ k.same.xmin-stays;
          next-stays = g.next-old p k.in_use ∙ k.same.next-stays;
          key-stays = g.key-old p k.in_use ∙ k.same.key-stays;
          payload-stays = g.payload-old p k.in_use ∙ k.same.payload-stays;
        };
        xmax-once = ⊎_elim
            (λ w. inr (was-open k.xmax-once (ap s.chains.xmax (sym w.1.2) ∙ ch.head-open w.1.0 (λ e. omega (arith, w.1.2)))))
            (λ w. ⊎_elim (λ e. inl (w.0 ∙ e)) inr k.xmax-once)
            (g.xmax-old p k.in_use);
      }
    where
      was-open : (s.chains.xmax p ≡ c₀.xmax p) ⊎ (c₀.xmax p ≡ 0) → s.chains.xmax p ≡ 0 → c₀.xmax p ≡ 0
      was-open (inl e) z = sym e ∙ z
      was-open (inr e) z = e

  lasts-move : (s s' : Store) {a : ℕ} → Good s → Lasts c₀ s.chains → Move s a s' → Lasts c₀ s'.chains
  lasts-move s s' = go s'
    where
      go : {a : ℕ} (s' : Store) → Good s → Lasts c₀ s.chains → Move s a s' → Lasts c₀ s'.chains
      go s' g h (stay i) = h
      go s' g h (did-begin i a b c d) = h
      go s' g h (did-mark i a b) = h
      go s' g h (did-capture i k a b c) = h
      go s' g h (did-collect i a b) = h
      go s' g h (did-rows i a b c) = h
      go s' g h (did_write i w a b c d) = h
      go s' g h (did-prepare i a b c) = h
      go s' g h (did-install i a b) = lasts-install s i g.chained h
      go s' g h (did-end i a b) = h
      go s' g h (did-publish i a b) = h
      go s' g h (did-abort i a b) = h

  -- over any steps, and over one
  pub lasts_on : (s : Store) → Good s × Lasts c₀ s.chains → (more : List Step) → Good (run s more) × Lasts c₀ (run s more).chains
  lasts_on s h more = run-inv (λ w. Good w × Lasts c₀ w.chains) (λ w w' i p m. (good-move w w' p.0 m, lasts-move w w' p.0 p.1 m)) s more h

  pub lasts-step : (s : Store) (a : Step) → Good s × Lasts c₀ s.chains → Good (step s a).store × Lasts c₀ (step s a).store.chains
  unfolding run
  lasts-step s a h = lasts_on s h (a ∷ [])

pub lasts-run : (s : Store) → Good s → (more : List Step) → Lasts s.chains (run s more).chains
lasts-run s g more = (lasts_on s.chains s (g, lasts-all s.chains) more).1

-- what a snapshot shows for a key are versions in use that carry it
pub shown-in : (c : Chains) (n : ℕ) (v : Snapshot) (k : ℕ) (q : ReadRecord) → Among q (shows c n v k)
    → (1 ≤ q.ptr) × (q.ptr ≤ c.used) × (c.key q.ptr ≡ some k)
unfolding shows
shown-in c n v k q m =
    let w = map-among (record_of c v) (pick (λ r. same_key (key_at c (version_of c v r)) (some k)) 0 n) q m in
    let e = same-key _ _ (pick-which (λ r. same_key (key_at c (version_of c v r)) (some k)) 0 n w.0 w.1).2 in
    let z = key_at-pos c (version_of c v w.0) k e in
    let u = version-in c v w.0 z in
    rw w.2 (u.0, u.1, sym (key_at-key c (version_of c v w.0) z) ∙ e)
