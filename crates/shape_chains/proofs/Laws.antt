-- Tests of every number below a bound, and how the loops go through them.
-- Assumes nothing.
use Prim.Native.Nat.{ℕ, zero, suc, ◌+◌, ◌*◌, ◌<◌, ◌≤◌}
use mathlib.Core.Path.{◌≡◌, refl, sym, ap, ◌∙◌}
use mathlib.Core.List.{List}
use mathlib.Core.Bool.{Bool, true, false, ◌&&◌, and-false, and-true}
use native.Mathlib.Decide.{dec_lt}
use native.Mathlib.Numerals.{add-one}
use native.Mathlib.Omega.{arith}
use borrow.Author.Tests.{le-leb, lt-ltb}
use Rattle.std.specs.List.{list_all, range_with_len, FoldsTo}
use Rattle.std.specs.Iterator.{YieldsThen}
use Rattle.std.specs.Fn.{Called}
use Rattle.std.specs.Option.{MatchOption}
use Rattle.std.proofs.lemmas.Iterator.{YieldsList-from_range}
use Rattle.std.proofs.lemmas.Iterator.Search.{all_from_yields_List}
use Rattle.std.proofs.iter.Yields.{nat_range_steps}
use Rattle.std.specs.declared.option.Option.{Option}
use Rattle.std.specs.declared.ops.Range.{Range}
use denote.Param.Members.{Mut}
use Rattle.base_lists.proofs.ListLaws.{every-each}
use native.Mathlib.Nat.{add-zero, zero-add}
use lib.Dec.{leb, ltb}
use lib.ListN.{length, get_or-eq_default}
use Rattle.base_lists.specs.Lists.{every}
use Rattle.table.specs.Words.{field}
use Rattle.table.specs.Fields.{row_words, version_words, head_of, next_of}

-- none, one more, all past one, fewer that fail, and one that fails
pub every-none : (test : ℕ → Bool) → every 0 test ≡ true
unfolding every
every-none test = refl

module _ (test : ℕ → Bool) (i : ℕ) where
  pub every-next : every i test ≡ true → test i ≡ true → every (i + 1) test ≡ true
  unfolding every
  every-next e t = rw (add-one, e, t)

  pub every-past : (n : ℕ) → i ≤ n → ((j : ℕ) → i ≤ j → j < n → test j ≡ true) → every i test ≡ every n test
  unfolding every
  every-past zero a b = let d : i ≡ zero = omega arith in rw d
  every-past (suc n) a b = elim (dec_lt n i) [
    | yes l ↦ let d : i ≡ suc n = omega (arith, l) in rw d
    | no l ↦ rw (← every-past n (omega (arith, l)) (λ j h k. b j h (omega arith)), b n (omega (arith, l)) (omega arith), and-true)
  ]

  pub every-fewer : (n : ℕ) → i ≤ n → every i test ≡ false → false ≡ every n test
  unfolding every
  every-fewer zero h e = let d : i ≡ zero = omega arith in sym e ∙ ap (λ (j : ℕ). every j test) d
  every-fewer (suc n) h e = elim (dec_lt n i) [
    | yes l ↦ let d : i ≡ suc n = omega (arith, l) in sym e ∙ ap (λ (j : ℕ). every j test) d
    | no l ↦ rw (← every-fewer n (omega (arith, l)) e)
  ]

pub every-fails : (test : ℕ → Bool) (i n : ℕ) → i < n → test i ≡ false → false ≡ every n test
unfolding every
every-fails test i n h e = every-fewer test (suc i) n (omega arith) (rw (e, and-false))

-- what was told of the numbers below a bound: that the test holds at each, or one at which it fails
pub every-told : (test : ℕ → Bool) (n : ℕ) (r : Bool) → (r ≡ true → (i : ℕ) → i < n → test i ≡ true)
    → (r ≡ false → (i : ℕ) × (i < n) × (test i ≡ false)) → r ≡ every n test
every-told test n true holds fails = sym (every-each n test (holds refl))
every-told test n false holds fails = let w = fails refl in every-fails test w.0 n w.1 w.2

-- the first number's test, and those of the numbers behind it
pub every-first : (test : ℕ → Bool) (n : ℕ) → every (suc n) test ≡ test 0 && every n (λ i. test (suc i))
unfolding every
every-first test zero = by (test 0)
  where
    by : (b : Bool) → true && b ≡ b && true
    by true = refl
    by false = refl
every-first test (suc n) = rw (every-first test n) (by (test 0))
  where
    by : (b : Bool) → (b && every n (λ i. test (suc i))) && test (suc n) ≡ b && (every n (λ i. test (suc i)) && test (suc n))
    by true = refl
    by false = refl

every-from : (n a : ℕ) (test also : ℕ → Bool) → ((i : ℕ) → test (a + i) ≡ also i) → list_all test (range_with_len a n) ≡ every n also
unfolding every
every-from zero a test also h = refl
every-from (suc n) a test also h =
    let first = rw add-zero at (h 0) in
    let rest = every-from n (a + 1) test (λ i. also (suc i)) (λ i. let e : a + 1 + i ≡ a + suc i = omega arith in rw e (h (suc i))) in
    rw (first, rest) (sym (every-first also n))

-- what `all` answers over the numbers below a bound, where its closure makes the test
pub every-all : {F : Type 0} {g : Mut F (ℕ × Unit {0}) Bool} {s : Range ℕ} (test : ℕ → Bool) (n : ℕ) (u : Range ℕ) (f : F) (r : Bool)
    → (xs : List ℕ) × (o : Option ℕ) × (j : F) × YieldsThen nat_range_steps s xs o u × FoldsTo (λ p x q. Called g p (x, tt) true q) f xs j
    × MatchOption o (r ≡ true) (λ x. (r ≡ false) × ((h : F) × Called g j (x, tt) false h))
    → s ≡ record { start = 0; end = n } → ((x : ℕ) (b : Bool) (q : F) → Called g f (x, tt) b q → (q ≡ f) × (b ≡ test x)) → r ≡ every n test
every-all test n u f r ran e told =
    all_from_yields_List test u f r ran (YieldsList-from_range 0 n n e (omega arith)) told ∙ every-from n 0 test test (λ i. rw zero-add refl)

-- a row past the table has head 0, a version past it next 0
pub head-past : (rows : List ℕ) (r used : ℕ) → length rows ≤ row_words * r → leb (head_of rows r) used ≡ true
unfolding field
head-past rows r used h = rw (get_or-eq_default rows 0 {n = row_words * r + 0} (omega arith)) (le-leb 0 used (omega arith))

pub next_past : (versions : List ℕ) (p : ℕ) → length versions ≤ version_words * p + 2 → 0 < p → ltb (next_of versions p) p ≡ true
unfolding field
next_past versions p h k = rw (get_or-eq_default versions 0 {n = version_words * p + 2} h) (lt-ltb 0 p k)
