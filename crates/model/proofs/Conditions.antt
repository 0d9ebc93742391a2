-- The conditions of document 01's table of numbers, as facts, and how a step's number is read off its tests. Assumes nothing.
use mathlib.Core.Path.{◌≡◌, refl, sym, ap, ◌∙◌}
use mathlib.Core.Bool.{Bool, true, false, cond, not, true≢false}
use mathlib.Core.Logic.{◌↔◌, ◌≢◌, ◌⊎◌, inl, inr, ⊎_elim}
use mathlib.Core.Option.{Option, none, some}
use mathlib.Core.List.{List, [], ◌∷◌}
use Prim.Native.Nat.{ℕ, zero, suc, ◌≤◌, ◌<◌}
use native.Mathlib.Omega.{arith}
use native.Mathlib.Decide.{ℕ_discrete}
use lib.Dec.{eqb, ltb}
use borrow.Author.Tests.{eq-eqb, ltb-true, ltb-false, not-true, not-false}
use Rattle.base_limits.specs.Limits.{most_rows, most_versions, most_buckets, most_live}
use Rattle.base_lists.specs.Lists.{every}
use Rattle.base_lists.proofs.ListLaws.{and_l, and_r, or_cases, or_r}
use Rattle.model.specs.Store.{Sizes, Store}
use Rattle.model.specs.Refusals.{Refusal, WrongSize, NoNumbers, Full, NoSuch, WrongPhase, NoRow, Taken, Stale, Marked, ManyReads, NoRoom, ManyRecords}
use Rattle.model.specs.Refusals.{ManyWrites, NoVersions, Conflict, Malformed, WrongShape, refusal_number, Step, place_of, found, refusal}
use Rattle.model.specs.Shape.{within, good_sizes, distinct_numbers, right_shape}
use Rattle.model.specs.Machine.{Answer, Done, Number, Stamp, Count, Rows, Judged, Refused, answer_number, actor, gives, checks, accepted, carried, step}
use Rattle.model.specs.Machine.{step_in, can_open, rule}
use Rattle.model.specs.Given.{◌and◌, number, Outside, Shaped, Lives, Ready, Names}
use Rattle.model.proofs.FirstTest.{Test, opposite, both, at_most, code, skip}
use Rattle.model.proofs.Tests.{lives-test, lives-number, shape-test}
use Rattle.model.proofs.Move.{live_test}
use Rattle.model.proofs.Ruled.{refuses, ruled, phase-of, own-tests, all-tests}

-- HOW A STEP'S NUMBER IS READ OFF ITS TESTS

-- what a refusal is told as: its number, and 0 for none
abbrev told : Option Refusal → ℕ
told none = 0
told (some r) = refusal_number r

code-refusal : (cs : List (Bool × Refusal)) → code cs ≡ told (refusal cs)
unfolding refusal code
code-refusal [] = refl
code-refusal (c ∷ cs) = go c.0 (code-refusal cs)
  where
    go : (b : Bool) → code cs ≡ told (refusal cs) → cond b (refusal_number c.1) (code cs) ≡ told (cond b (some c.1) (refusal cs))
    go true later = refl
    go false later = later

-- what is no refusal has number 0, and a refusal has none below 1
pub zero-unless : (a : Answer) → refuses a ≡ false → answer_number a ≡ 0
zero-unless Done e = refl
zero-unless (Number n) e = refl
zero-unless (Stamp n) e = refl
zero-unless (Count n) e = refl
zero-unless (Rows rs) e = refl
zero-unless (Judged v) e = refl
zero-unless (Refused r) e = absurd (true≢false e)

refusal-pos : (r : Refusal) → 1 ≤ refusal_number r
refusal-pos WrongSize = omega arith
refusal-pos NoNumbers = omega arith
refusal-pos Full = omega arith
refusal-pos NoSuch = omega arith
refusal-pos WrongPhase = omega arith
refusal-pos NoRow = omega arith
refusal-pos Taken = omega arith
refusal-pos Stale = omega arith
refusal-pos Marked = omega arith
refusal-pos ManyReads = omega arith
refusal-pos NoRoom = omega arith
refusal-pos ManyRecords = omega arith
refusal-pos ManyWrites = omega arith
refusal-pos NoVersions = omega arith
refusal-pos Conflict = omega arith
refusal-pos Malformed = omega arith
refusal-pos WrongShape = omega arith

pub unless-zero : (a : Answer) → answer_number a ≡ 0 → refuses a ≡ false
unless-zero Done e = refl
unless-zero (Number n) e = refl
unless-zero (Stamp n) e = refl
unless-zero (Count n) e = refl
unless-zero (Rows rs) e = refl
unless-zero (Judged v) e = refl
unless-zero (Refused r) e = absurd (omega (arith, refusal-pos r))

pub number_is : (s : Store) (a : Step) → number s a ≡ code (all-tests s a)
unfolding step step_in carried code
number_is s a = go (right_shape s)
  where
    carried-number : (o : Option Refusal) → answer_number (carried s a o).answer ≡ told o
    carried-number none = zero-unless (accepted s a).answer (ruled s a).answered
    carried-number (some r) = refl

    go : (b : Bool) → answer_number (cond b (carried s a (refusal (checks s a))) (gives s (Refused WrongShape))).answer ≡ cond (not b) 16 (code (checks s a))
    go true = carried-number (refusal (checks s a)) ∙ sym (code-refusal (checks s a))
    go false = refl

-- the shape's live numbers differ, so the one found is the only one
pub each_below : (n : ℕ) (test : ℕ → Bool) → every n test ≡ true → (i : ℕ) → i < n → test i ≡ true
unfolding every
each_below zero test e i l = absurd (omega arith)
each_below (suc n) test e i l =
    elim (ℕ_discrete i n) [ yes d ↦ rw d (and_r (every n test) (test n) e) | no d ↦ each_below n test (and_l (every n test) (test n) e) i (omega arith) ]

apart : (s : Store) → Shaped s → (i j : ℕ) → i < most_live → j < i → 1 ≤ (s.txns i).number → (s.txns i).number ≢ (s.txns j).number
unfolding right_shape distinct_numbers
apart s e i j l m p q =
    let d : distinct_numbers s.txns ≡ true = search (and_l, and_r) depth 8 in
    let w = each_below i _ (each_below most_live _ d i l) j m in
    ⊎_elim (λ dead. true≢false (sym (live_test (s.txns i) p) ∙ not-true _ dead)) (λ differ. true≢false (sym (eq-eqb _ _ q) ∙ not-true _ differ))
    (or_cases _ _ w)

pub the_one : (s : Store) (t : ℕ) → Shaped s → (w : Lives s t) → place_of s.txns t ≡ w.0
the_one s t e w = go (ltb p w.0) refl (ltb w.0 p) refl
  where
    p : ℕ
    p = place_of s.txns t

    n : (s.txns p).number ≡ t
    n = lives-number s t w

    l : p < most_live
    l = ltb-true _ _ (not-false _ (or_r (eqb t 0) _ ((lives-test s t).if_no w)))

    go : (a : Bool) → ltb p w.0 ≡ a → (b : Bool) → ltb w.0 p ≡ b → p ≡ w.0
    go true f b g = absurd (apart s e w.0 p w.1 (ltb-true _ _ f) (omega (arith, w.2, w.3)) (w.2 ∙ sym n))
    go false f true g = absurd (apart s e p w.0 l (ltb-true _ _ g) (omega (arith, n, w.3)) (n ∙ sym w.2))
    go false f false g = omega (arith, ltb-false p w.0 f, ltb-false w.0 p g)

-- the number of a step that names a transaction, off its tests
pub number-found : (s : Store) (a : Step) → Names a
    → number s a ≡ code ((not (right_shape s), WrongShape) ∷ found s (actor a) ((rule a).right (phase-of s a)) (own-tests s a))
number-found s a named = number_is s a ∙ ap (λ cs. code ((not (right_shape s), WrongShape) ∷ cs)) ((ruled s a).finds-first named)

-- past 16, 4 and 5: the shape is right, the transaction lives and its phase is right
pub past : (n : ℕ) {P : Type 0} (s : Store) (a : Step) → Names a → (n ≢ 16) × (n ≢ 4) × (n ≢ 5) → (Lives s (actor a) → code (own-tests s a) ≡ n ↔ P)
    → number s a ≡ n ↔ Ready s a and P
past n s a named d later =
    let w = skip n _ WrongShape _ (shape-test s) (λ e. d.0 (sym e))
    (λ sh. skip n _ NoSuch _ (lives-test s (actor a)) (λ e. d.1 (sym e))
    (λ l. skip n _ WrongPhase _ (opposite (ruled s a).phase-test) (λ e. d.2 (sym e)) (λ ph. later l))) in
    rw (number-found s a named) (λ e. let q = w.0 e in ((q.0, q.1.0, q.1.1.0), q.1.1.1), λ q. w.1 (q.0.0, (q.0.1, (q.0.2, q.1))))

-- a step with no test of its own
pub ready-only : (s : Store) (a : Step) → Names a → own-tests s a ≡ [] → number s a ≡ 0 ↔ Ready s a
unfolding code
ready-only s a named e =
    let w = past 0 s a named (omega arith) (λ l. ((λ z. z), (λ z. z))) in
    (λ z. (w.0 z).0, λ r. w.1 (r, ap code e))

-- a size within its range, and the test of open
inside : (n most : ℕ) → Test (within n most) ((1 ≤ n) × (n ≤ most)) (Outside n most)
inside n most = both (at_most 1 n) (at_most n most)

pub cannot-open : (z : Sizes) (clock : ℕ) → can_open z clock ≡ false
    ↔ Outside z.rows most_rows ⊎ Outside z.versions most_versions ⊎ Outside z.buckets most_buckets ⊎ (clock ≡ 0)
unfolding can_open good_sizes
cannot-open z clock =
    let t = both (both (both (inside z.rows most_rows) (inside z.versions most_versions)) (inside z.buckets most_buckets)) (at_most 1 clock) in
    (λ e. right (t.fails e), λ o. t.if_no (left o))
  where
    right : {A B C : Type 0} → ((A ⊎ B) ⊎ C) ⊎ (clock < 1) → A ⊎ B ⊎ C ⊎ (clock ≡ 0)
    right (inl (inl (inl a))) = inl a
    right (inl (inl (inr b))) = inr (inl b)
    right (inl (inr c)) = inr (inr (inl c))
    right (inr d) = inr (inr (inr (omega arith)))

    left : {A B C : Type 0} → A ⊎ B ⊎ C ⊎ (clock ≡ 0) → ((A ⊎ B) ⊎ C) ⊎ (clock < 1)
    left (inl a) = inl (inl (inl a))
    left (inr (inl b)) = inl (inl (inr b))
    left (inr (inr (inl c))) = inl (inr c)
    left (inr (inr (inr d))) = inr (omega arith)
