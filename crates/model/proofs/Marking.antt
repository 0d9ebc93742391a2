-- The mark: a stale stamp sets it and nothing else, and no step takes it from a transaction that goes on. Assumes nothing.
use mathlib.Core.Path.{◌≡◌, refl, sym, ap, ◌∙◌}
use mathlib.Core.Bool.{true, false, true≢false}
use mathlib.Core.Logic.{◌↔◌, ◌≢◌, ◌⊎◌, inl, inr, ⊎_elim}
use mathlib.Core.List.{List}
use Prim.Native.Nat.{ℕ}
use native.Mathlib.Omega.{arith}
use native.Mathlib.Decide.{ℕ_discrete}
use Rattle.base_lists.proofs.TableLaws.{update_same, update_other}
use Rattle.model.specs.Store.{Txn, Store}
use Rattle.model.specs.Seeing.{Live}
use Rattle.model.specs.Refusals.{Refusal, Step, begin, capture, txn_of}
use Rattle.model.specs.Machine.{Answer, Done, Number, Stamp, Count, Rows, Judged, Refused, answer_number, lent_after, at, actor, step}
use Rattle.model.specs.Given.{number, StaleStamp}
use Rattle.model.specs.Leaves.{part, MarksOnly}
use Rattle.model.specs.Demands.{MarkLives}
use Rattle.model.proofs.Ruled.{Marks, may-mark, never, begins, ends, goes_on, Lasts, ruled}
use Rattle.model.proofs.Refused.{capture-8}
use Rattle.model.proofs.Outcomes.{unchanged, stale-marks, lent-kept, free-place}
use Rattle.model.proofs.Exact.{only-stale-marks}
use Rattle.model.proofs.Leaving.{leaves}

-- a stale stamp marks, and nothing else
pub marks-only : (s : Store) (a : Step) → StaleStamp s a → MarksOnly s (step s a).store (at s (actor a))
marks-only s a w = rw (stale-marks s a ((only-stale-marks s a).1 w)) (record {
  sizes-stay = refl;
  clock-stays = refl;
  chains-stay = refl;
  index_stays = refl;
  held_stays = refl;
  others-stay = λ j d. update_other s.txns (at s (actor a)) _ j d;
  marked = rw update_same;
  number-stays = rw update_same;
  snapshot-stays = rw update_same;
  phase-stays = rw update_same;
  reads-stay = rw update_same;
  writes-stay = rw update_same;
  records-stay = rw update_same;
  candidates-stay = rw update_same;
})

pub stale-eight : (s : Store) (a : Step) → StaleStamp s a → number s a ≡ 8
stale-eight s a w = ap answer_number ((only-stale-marks s a).1 w)

-- a step meets a stale stamp or it does not
pub stale-or-not : (s : Store) (a : Step) → StaleStamp s a ⊎ (StaleStamp s a → ⊥)
stale-or-not s a = by a (ruled s a).marks
  where
    by : (b : Step) → Marks s b → StaleStamp s b ⊎ (StaleStamp s b → ⊥)
    by b (may-mark t k) = elim (ℕ_discrete (number s (capture t k)) 8) [
      | yes e ↦ let w = (capture-8 s t k).0 e in ⊎_elim (λ m. inr (λ p. true≢false (sym m ∙ p.1.0))) (λ p. inl (w.0, p)) w.1
      | no d ↦ inr (λ w. d (stale-eight s (capture t k) w))
    ]
    by b (never p q) = inr q

-- a refusal says which
refusal_is : (a : Answer) → answer_number a ≢ 0 → (r : Refusal) × (a ≡ Refused r)
refusal_is Done d = absurd (d refl)
refusal_is (Number n) d = absurd (d refl)
refusal_is (Stamp n) d = absurd (d refl)
refusal_is (Count n) d = absurd (d refl)
refusal_is (Rows rs) d = absurd (d refl)
refusal_is (Judged v) d = absurd (d refl)
refusal_is (Refused r) d = (r, refl)

pub refused-by : (s : Store) (a : Step) → number s a ≢ 0 → (r : Refusal) × ((step s a).answer ≡ Refused r)
refused-by s a d = refusal_is (step s a).answer d

-- what refuses without a stale stamp leaves all as found, the lent list always
pub refused-as-found : (s : Store) (a : Step) → number s a ≢ 0 → (StaleStamp s a → ⊥) → (step s a).store ≡ s
refused-as-found s a d n = let r = refused-by s a d in unchanged s a r.0 r.1 (λ e. n ((only-stale-marks s a).0 (r.1 ∙ ap Refused e)))

pub refused-list : (s : Store) (a : Step) → number s a ≢ 0 → (lent : List ℕ) → lent_after (step s a).answer lent ≡ lent
refused-list s a d lent = let r = refused-by s a d in lent-kept s a r.0 lent r.1

-- the one who asks keeps its mark, unless its record began or ended
kept-part : (a : Step) (x : Txn) → Lasts a → (a ≡ begin → x.number ≡ 0) → Live x → (clock : ℕ) → part clock 0 x.number a ≡ x.number
    → part false false x.marked a ≡ x.marked
kept-part a x begins f l clock n = absurd (omega (arith, f refl))
kept-part a x (ends e) f l clock n = absurd (omega (arith, e clock x.number))
kept-part a x (goes_on k) f l clock n = k x.marked

asker-mark : (s : Store) (a : Step) → number s a ≡ 0 → Live (txn_of s (actor a))
    → ((step s a).store.txns (at s (actor a))).number ≡ (txn_of s (actor a)).number
    → ((step s a).store.txns (at s (actor a))).marked ≡ (txn_of s (actor a)).marked
asker-mark s a z l n =
    let h = (leaves s a z).asker-is in
    ap (λ (y : Txn). y.marked) h
    ∙ kept-part a (txn_of s (actor a)) (ruled s a).lasts
    (λ e. ap (λ (b : Step). (txn_of s (actor b)).number) e ∙ free-place s (ap (number s) (sym e) ∙ z)) l s.clock
    (sym (ap (λ (y : Txn). y.number) h) ∙ n)

-- a mark lives as long as its transaction
module _ (s : Store) (i : ℕ) (l : Live (s.txns i)) where
  done-mark : (a : Step) → number s a ≡ 0 → ((step s a).store.txns i).number ≡ (s.txns i).number → ((step s a).store.txns i).marked ≡ (s.txns i).marked
  done-mark a z n = elim (ℕ_discrete i (at s (actor a))) [
    | yes e ↦ rw e (asker-mark s a z (rw e at l) (rw e at n))
    | no d ↦ ap (λ (y : Txn). y.marked) ((leaves s a z).others-stay i d)
  ]

  same-mark : (a : Step) → (StaleStamp s a → ⊥) → ((step s a).store.txns i).marked ≡ (s.txns i).marked → ((step s a).store.txns i).marked ≡ true
      ↔ ((s.txns i).marked ≡ true) ⊎ ((i ≡ at s (actor a)) × StaleStamp s a)
  same-mark a n e = (λ m. inl (sym e ∙ m), λ w. ⊎_elim (λ m. e ∙ m) (λ p. absurd (n p.1)) w)

pub mark-lives : (s : Store) (a : Step) (i : ℕ) → MarkLives s a i
mark-lives s a i l n = ⊎_elim met (λ none-met. same-mark s i l a none-met (kept none-met)) (stale-or-not s a)
  where
    met : StaleStamp s a → ((step s a).store.txns i).marked ≡ true ↔ ((s.txns i).marked ≡ true) ⊎ ((i ≡ at s (actor a)) × StaleStamp s a)
    met w =
        let h = marks-only s a w in
        elim (ℕ_discrete i (at s (actor a))) [
          | yes e ↦ ((λ m. inr (e, w)), (λ m. rw e h.marked))
          | no d ↦ let k = ap (λ (y : Txn). y.marked) (h.others-stay i d) in ((λ m. inl (sym k ∙ m)), (λ p. ⊎_elim (λ m. k ∙ m) (λ q. absurd (d q.0)) p))
        ]

    kept : (StaleStamp s a → ⊥) → ((step s a).store.txns i).marked ≡ (s.txns i).marked
    kept none-met = elim (ℕ_discrete (number s a) 0)
        [ yes z ↦ done-mark s i l a z n | no d ↦ ap (λ (w : Store). (w.txns i).marked) (refused-as-found s a d none-met) ]
