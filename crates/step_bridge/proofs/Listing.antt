-- Numbers listed in lent words with room for them are that list; tests of a list and of all numbers below a bound, entry by entry.
-- Assumes nothing.
use Prim.Native.Nat.{ℕ, zero, suc, ◌+◌, ◌≤◌, ◌<◌}
use mathlib.Core.Path.{◌≡◌, refl, ◌∙◌}
use mathlib.Core.Bool.{Bool, true}
use mathlib.Core.Logic.{inl, inr}
use mathlib.Core.List.{List, [], ◌∷◌}
use native.Mathlib.Decide.{dec_lt}
use native.Mathlib.Omega.{arith}
use lib.ListN.{length, take, set, replicate, length-set}
use lib.Seq.{take_all}
use Rattle.base_lists.specs.Lists.{every, some_of, all_of, Among}
use Rattle.base_lists.proofs.ListLaws.{and_l, and_r}
use Rattle.txn_needs.specs.Needs.{Listed, push_all}
use Rattle.txn_needs.proofs.Laws.{push-room, push-none, listed-cut}

pub listed-count : (xs : List ℕ) (st : Listed) → st.n + length xs ≤ length st.out → (push_all st xs).n ≡ st.n + length xs
listed-count [] st h = rw (push-none st [] refl) (omega arith)
listed-count (x ∷ xs) st h =
    let l : st.n < length st.out = omega arith in
    rw (push-room x xs st l) (listed-count xs (record { out = set st.out st.n x; n = st.n + 1 }) (rw length-set (omega arith)) ∙ omega arith)

-- in a list of zeros
pub listed-all : (room : ℕ) (xs : List ℕ) → length xs ≤ room
    → take (push_all (record { out = replicate room 0; n = 0 }) xs).n (push_all (record { out = replicate room 0; n = 0 }) xs).out ≡ xs
listed-all room xs h = listed-cut room xs ∙ take_all room xs h

pub some_same : {A : Type 0} (test also : A → Bool) (xs : List A) → ((x : A) → Among x xs → test x ≡ also x) → some_of test xs ≡ some_of also xs
unfolding some_of
some_same test also [] h = refl
some_same test also (x ∷ xs) h = rw (h x (inl refl), some_same test also xs (λ y m. h y (inr m)))

-- what a test of all says of each
pub all-each : {A : Type 0} (test : A → Bool) (xs : List A) → all_of test xs ≡ true → (x : A) → Among x xs → test x ≡ true
unfolding all_of
all-each test (y ∷ xs) e x (inl d) = rw d (and_l (test y) (all_of test xs) e)
all-each test (y ∷ xs) e x (inr m) = all-each test xs (and_r (test y) (all_of test xs) e) x m
all-each {A = A} test [] e x x4 = elim x4 [ ]

pub every-at : (n : ℕ) (test : ℕ → Bool) → every n test ≡ true → (i : ℕ) → i < n → test i ≡ true
unfolding every
every-at zero test e i h = absurd (omega arith)
every-at (suc n) test e i h =
    elim (dec_lt i n) [
      | yes l ↦ every-at n test (and_l (every n test) (test n) e) i l
      | no l ↦ let d : i ≡ n = omega (arith, l) in
          rw d (and_r (every n test) (test n) e)
    ]
