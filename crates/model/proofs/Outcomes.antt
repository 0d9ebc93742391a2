-- What a refusal leaves and what an accepted step answers. Assumes nothing.
use mathlib.Core.Path.{◌≡◌, refl, sym, ap, ◌∙◌}
use mathlib.Core.Bool.{Bool, true, false, cond, true≢false}
use mathlib.Core.Logic.{◌↔◌, ◌≢◌, ◌⊎◌, inl, inr, ⊎_elim}
use mathlib.Core.Option.{Option, none, some}
use mathlib.Core.List.{List}
use Prim.Native.Nat.{ℕ, ◌≤◌}
use native.Mathlib.Omega.{arith}
use lib.Dec.{eqb}
use lib.ListN.{length, take, drop}
use lib.Seq.{take_at, drop_at}
use Rattle.base_limits.specs.Limits.{most_live}
use Rattle.base_lists.proofs.TableLaws.{cond-elim}
use Rattle.base_lists.proofs.ListLaws.{first-free}
use Rattle.model.specs.Store.{Store}
use Rattle.model.specs.Steps.{stale}
use Rattle.model.specs.Refusals.{Refusal, WrongSize, NoNumbers, Full, NoSuch, WrongPhase, NoRow, Taken, Stale, Marked, ManyReads, NoRoom, ManyRecords}
use Rattle.model.specs.Refusals.{ManyWrites, NoVersions, Conflict, Malformed, WrongShape, Step, begin, capture, txn_of, refusal, live_count, place_of}
use Rattle.model.specs.Shape.{right_shape}
use Rattle.model.specs.Machine.{Rows, Refused, answer_number, lent_after, at, actor, is_stale, gives, checks, accepted, after_refusal, carried, step, step_in}
use Rattle.model.specs.Given.{◌and◌, number, Ready, Free, bucket_for, stamp_for, documented}
use Rattle.model.proofs.Tests.{place-number, lives-test, stale-test, bucket-test}
use Rattle.model.proofs.Ruled.{refuses, ruled}
use Rattle.model.proofs.Unrefused.{is-accepted}
use Rattle.model.proofs.Conditions.{zero-unless, unless-zero}
use Rattle.model.proofs.Refused.{begin-0, capture-8}

-- WHAT A REFUSAL LEAVES

-- one equation for every refusal: the store is as found, unless the refusal marks
pub refused-leaves : (s : Store) (a : Step) (r : Refusal) → (step s a).answer ≡ Refused r → (step s a).store ≡ cond (is_stale r) (stale s (at s (actor a))) s
unfolding step step_in carried after_refusal
refused-leaves s a r = go (right_shape s) (refusal (checks s a))
  where
    go : (b : Bool) (o : Option Refusal) → let w = cond b (carried s a o) (gives s (Refused WrongShape)) in
        w.answer ≡ Refused r → w.store ≡ cond (is_stale r) (stale s (at s (actor a))) s
    go true none e = absurd (true≢false (sym (ap refuses e) ∙ (ruled s a).answered))
    go true (some q) e = let p : q ≡ r = cc in rw p
    go false o e = let p : WrongShape ≡ r = cc in rw (← p)

pub refused-store : (s : Store) (a : Step) → number s a ≢ 0 → ((step s a).store ≡ s) ⊎ ((step s a).store ≡ stale s (at s (actor a)))
unfolding step step_in carried after_refusal
refused-store s a = go (right_shape s) (refusal (checks s a))
  where
    go : (b : Bool) (o : Option Refusal) → let w = cond b (carried s a o) (gives s (Refused WrongShape)) in
        answer_number w.answer ≢ 0 → (w.store ≡ s) ⊎ (w.store ≡ stale s (at s (actor a)))
    go true none d = absurd (d (zero-unless (accepted s a).answer (ruled s a).answered))
    go true (some r) d = cond-elim (λ w. (w ≡ s) ⊎ (w ≡ stale s (at s (actor a)))) (is_stale r) (stale s (at s (actor a))) s (λ t. inr refl) (λ t. inl refl)
    go false o d = inl refl

-- every refusal but a stale 8 leaves the store as found
only-stale : (r : Refusal) → r ≢ Stale → is_stale r ≡ false
only-stale WrongSize d = refl
only-stale NoNumbers d = refl
only-stale Full d = refl
only-stale NoSuch d = refl
only-stale WrongPhase d = refl
only-stale NoRow d = refl
only-stale Taken d = refl
only-stale Stale d = absurd (d refl)
only-stale Marked d = refl
only-stale ManyReads d = refl
only-stale NoRoom d = refl
only-stale ManyRecords d = refl
only-stale ManyWrites d = refl
only-stale NoVersions d = refl
only-stale Conflict d = refl
only-stale Malformed d = refl
only-stale WrongShape d = refl

pub unchanged : (s : Store) (a : Step) (r : Refusal) → (step s a).answer ≡ Refused r → r ≢ Stale → (step s a).store ≡ s
unchanged s a r e d = rw (only-stale r d) at (refused-leaves s a r e)

-- a stale 8 sets the mark of its transaction and nothing else
pub stale-marks : (s : Store) (a : Step) → (step s a).answer ≡ Refused Stale → (step s a).store ≡ stale s (at s (actor a))
stale-marks s a e = refused-leaves s a Stale e

-- a refusal leaves the lent list as found; rows writes the found ones to its front and leaves the rest
pub lent-kept : (s : Store) (a : Step) (r : Refusal) (lent : List ℕ) → (step s a).answer ≡ Refused r → lent_after (step s a).answer lent ≡ lent
lent-kept s a r lent e = rw e

pub lent-front : (rs lent : List ℕ) → take (length rs) (lent_after (Rows rs) lent) ≡ rs
lent-front rs lent = take_at rs (drop (length rs) lent) (length rs) refl

pub lent-rest : (rs lent : List ℕ) → drop (length rs) (lent_after (Rows rs) lent) ≡ drop (length rs) lent
lent-rest rs lent = drop_at rs (drop (length rs) lent) (length rs) refl

-- the two kinds of 8: the mark, and a stale stamp
marked-answer : (s : Store) (t k : ℕ) → Ready s (capture t k) → (txn_of s t).marked ≡ true → (step s (capture t k)).answer ≡ Refused Marked
unfolding step step_in carried checks refusal
marked-answer s t k r m = rw (r.0, (lives-test s t).if_no r.1, (ruled s (capture t k)).phase-test.if_yes r.2, m)

stale-answer : (s : Store) (t k : ℕ) → Ready s (capture t k) → ((txn_of s t).marked ≡ false) and Free s.held.holder t (bucket_for s k)
    and (t ≤ stamp_for s k) → (step s (capture t k)).answer ≡ Refused Stale
unfolding step step_in carried checks refusal
stale-answer s t k r p = rw (
  r.0,
  (lives-test s t).if_no r.1,
  (ruled s (capture t k)).phase-test.if_yes r.2,
  p.0,
  (bucket-test s t k r.1).if_no
      p.1.0,
  (stale-test s t k r.1).if_yes p.1.1,
)

pub capture-marked : (s : Store) (t k : ℕ) → (step s (capture t k)).answer ≡ Refused Marked ↔ Ready s (capture t k) and ((txn_of s t).marked ≡ true)
capture-marked s t k = (
  λ e. let w = (capture-8 s t k).0 (ap answer_number e) in
      (w.0, ⊎_elim (λ m. m) (λ p. absurd (apart (stale-answer s t k w.0 p) e)) w.1),
  λ w. marked-answer s t k w.0 w.1,
)
  where
    apart : (step s (capture t k)).answer ≡ Refused Stale → (step s (capture t k)).answer ≡ Refused Marked → ⊥
    apart e f = let z : ◌≡◌ {A = ℕ} 0 1 = cc in omega arith

pub capture-stale : (s : Store) (t k : ℕ) → (step s (capture t k)).answer ≡ Refused Stale
    ↔ Ready s (capture t k) and ((txn_of s t).marked ≡ false) and Free s.held.holder t (bucket_for s k) and (t ≤ stamp_for s k)
capture-stale s t k = (
  λ e. let w = (capture-8 s t k).0 (ap answer_number e) in
      (w.0, ⊎_elim (λ m. absurd (apart (marked-answer s t k w.0 m) e)) (λ p. p) w.1),
  λ w. stale-answer s t k w.0 w.1,
)
  where
    apart : (step s (capture t k)).answer ≡ Refused Marked → (step s (capture t k)).answer ≡ Refused Stale → ⊥
    apart e f = let z : ◌≡◌ {A = ℕ} 0 1 = cc in omega arith

-- WHAT AN ACCEPTED STEP ANSWERS AND LEAVES

-- 0 is given exactly where the step is carried out
pub done-does : (s : Store) (a : Step) → number s a ≡ 0 → step s a ≡ accepted s a
done-does s a e = (is-accepted s a (unless-zero (step s a).answer e)).does

pub unrefused : (s : Store) (a : Step) → number s a ≡ 0 → refusal (checks s a) ≡ none
unrefused s a e = (is-accepted s a (unless-zero (step s a).answer e)).tests

pub answers : (s : Store) (a : Step) → number s a ≡ 0 → (step s a).answer ≡ documented s a
answers s a e = ap (λ w. w.answer) (done-does s a e) ∙ (ruled s a).as-documented

-- the place that begin takes is free
pub free-place : (s : Store) → number s begin ≡ 0 → (s.txns (at s 0)).number ≡ 0
unfolding live_count place_of
free-place s z = place-number s 0 (first-free (λ i. eqb (s.txns i).number 0) 0 most_live ((begin-0 s).0 z).1.0)
