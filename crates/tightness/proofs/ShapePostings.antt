-- Wrong bodies of the crate `shape_postings`.
-- Assumes nothing.
use Prim.Native.Nat.{ℕ, zero, suc, ◌+◌, ◌*◌}
use mathlib.Core.Path.{◌≡◌, refl}
use mathlib.Core.Bool.{Bool, true, ◌&&◌, ◌||◌}
use mathlib.Core.List.{List, [], ◌∷◌}
use lib.Dec.{eqb, leb}
use lib.ListN.{length, get_or, replicate}
use Rattle.base_limits.specs.Limits.{most_rows}
use Rattle.base_lists.specs.Lists.{every}
use Rattle.base_lists.proofs.ListLaws.{every-each}
use Rattle.table.specs.Words.{field}
use Rattle.table.specs.Fields.{row_words, posted_of, posted_key_of}
use Rattle.table_postings.specs.Postings.{list_for}
use Rattle.table_postings.specs.Links.{link_at, last_in, named_before, ends_at, lists_tell}
use Rattle.shape_postings.specs.Told.{told_within}
use Rattle.tightness.specs.Wrong.{Excludes}
use Rattle.tightness.proofs.Apart.{apart, bit}
use Rattle.tightness.proofs.Computes.{computes}

-- what lists_tell is given: rows, and how many
abbrev Given : Type 0
Given = List ℕ × ℕ

abbrev tells : Given → Bool
tells (rows, n) = told_within rows n

-- no more rows than their limit, and a table that holds them
abbrev sized : Given → Bool
sized (rows, n) = leb n most_rows && leb (row_words * n) (length rows)

-- row 0 with this posting and link, alone, and the first row of its list; row 1 behind it, posted in the same list
abbrev one_row : ℕ → ℕ → ℕ → List ℕ
one_row posted later first = 0 ∷ 0 ∷ posted ∷ 7 ∷ later ∷ first ∷ []

abbrev two_rows : ℕ → ℕ → List ℕ
two_rows later first = 0 ∷ 0 ∷ 1 ∷ 7 ∷ later ∷ first ∷ 0 ∷ 0 ∷ 1 ∷ 7 ∷ 0 ∷ 0 ∷ []

-- `lists_tell`: where a list ends is not tested: a row may be behind itself
pub lists-tell-ends-untested : Excludes tells (λ (rows, n). sized (rows, n) && every n (named_before rows n))
unfolding computes
lists-tell-ends-untested = apart (one_row 1 1 1, 1) bit refl

-- `lists_tell`: only that lists end is tested
pub lists-tell-names-untested : Excludes tells (λ (rows, n). sized (rows, n) && every n (ends_at rows n))
unfolding computes
lists-tell-names-untested = apart (one_row 1 0 0, 1) bit refl

-- `lists_tell`: a link over a posted row to a later one is taken
pub lists-tell-row-skipped : Excludes tells (λ (rows, n).
    sized (rows, n)
    && every n (λ r. eqb (posted_of rows r) 0
    || leb (suc r) (link_at rows (list_for n (posted_key_of rows r)) (last_in rows n (list_for n (posted_key_of rows r)) r)))
    && every n (ends_at rows n))
unfolding computes
lists-tell-row-skipped = apart (two_rows 2 2, 2) bit refl

-- `lists_tell`: a list may name a row that is not posted
pub lists-tell-unposted-named : Excludes tells (λ (rows, n).
    sized (rows, n) && every n (named_before rows n) && every n (λ i. ends_at rows n i || eqb (last_in rows n i n) 0))
unfolding computes
lists-tell-unposted-named = apart (one_row 0 0 1, 1) bit refl

-- `lists_tell`: of a posted row only that its list names some row
pub lists-tell-any-named : Excludes tells (λ (rows, n).
    sized (rows, n) && every n (λ r. eqb (posted_of rows r) 0 || leb 1 (link_at rows (list_for n (posted_key_of rows r)) 0)) && every n (ends_at rows n))
unfolding computes
lists-tell-any-named = apart (two_rows 0 1, 2) bit refl

-- `lists_tell`: a row may stand in the list of its own number, whatever its key
pub lists-tell-own-list : Excludes tells (λ (rows, n).
    sized (rows, n)
    && every n (λ r. eqb (posted_of rows r) 0 || eqb (link_at rows r 0) (suc r)) && every n (λ r. eqb (posted_of rows r) 0 || eqb (link_at rows r (suc r)) 0))
unfolding computes
lists-tell-own-list = apart (0 ∷ 0 ∷ 1 ∷ 6 ∷ 0 ∷ 1 ∷ 0 ∷ 0 ∷ 0 ∷ 0 ∷ 0 ∷ 0 ∷ [], 2) bit refl

-- `lists_tell`: a table shorter than its size is taken
pub lists-tell-table-short : Excludes tells (λ (rows, n). leb n most_rows && lists_tell rows n)
unfolding computes
lists-tell-table-short = apart ([], 1) bit refl

-- where every word is 0 no row is posted, and empty lists tell that, of any number of rows
zeroes : (k i : ℕ) → ◌≡◌ {A = ℕ} (get_or (replicate k 0) i 0) 0
zeroes zero zero = refl
zeroes zero (suc i) = refl
zeroes (suc k) zero = refl
zeroes (suc k) (suc i) = zeroes k i

none-posted : (k count i n : ℕ) → last_in (replicate k 0) count i n ≡ 0
unfolding last_in field
none-posted k count i zero = refl
none-posted k count i (suc n) = rw (zeroes k (row_words * n + 2)) (none-posted k count i n)

empty-tells : (k n : ℕ) → lists_tell (replicate k 0) n ≡ true
unfolding lists_tell link_at field
empty-tells k n =
    let rows : List ℕ = replicate k 0 in
    rw (
      every-each n (named_before rows n) (λ r l. rw (zeroes k (row_words * r + 2))),
      every-each n (ends_at rows n) (λ i l. rw (none-posted k n i n, zeroes k (row_words * i + 5))),
    )

-- `lists_tell`: more rows than their limit are taken
pub lists-tell-many-rows : Excludes tells (λ (rows, n). leb (row_words * n) (length rows) && lists_tell rows n)
unfolding told_within
lists-tell-many-rows =
    apart (replicate (row_words * suc most_rows) 0, suc most_rows) bit (rw (empty-tells (row_words * suc most_rows) (suc most_rows)))
