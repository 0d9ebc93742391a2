-- The places of the last rows, as the rows are gone through, and what is told then.
-- Assumes nothing.
use Prim.Native.Nat.{ℕ, zero, suc, ◌+◌, ◌≤◌, ◌<◌}
use mathlib.Core.Path.{◌≡◌, refl, sym}
use mathlib.Core.Bool.{Bool, true, false}
use mathlib.Core.Logic.{◌≢◌}
use mathlib.Core.List.{List}
use native.Mathlib.Decide.{ℕ_discrete}
use native.Mathlib.Numerals.{add-one}
use native.Mathlib.Omega.{arith}
use borrow.Author.Tests.{le-leb, eq-eqb, ne_eqb}
use lib.Dec.{eqb}
use lib.ListN.{get_or, set, length-set, replicate, length-replicate, get_or-replicate}
use lib.Seq.{get_or-set_same, get_or-set_other}
use Rattle.base_limits.specs.Limits.{most_rows}
use Rattle.base_lists.specs.Lists.{every}
use Rattle.table.specs.Fields.{posted_of, posted_key_of}
use Rattle.table_postings.specs.Postings.{list_for}
use Rattle.table_postings.specs.Links.{link_at, in_list, last_in, named_before, ends_at, lists_tell}
use Rattle.table_postings.proofs.Relinking.{last-low}
use Rattle.table_postings.proofs.Listing.{last-in}
use Rattle.shape_postings.specs.Told.{told_within}
use Rattle.shape_postings.specs.Kept.{Sized, LastKept}

module _ (rows : List ℕ) (row_count r : ℕ) (last : List ℕ) (k : LastKept rows row_count r last) where
  -- what is kept for a list is a place of at most r
  pub kept_low : (i : ℕ) → i < row_count → get_or last i 0 ≤ r
  kept_low i h = rw (k.kept i h, last-in rows row_count i r) (last-low (in_list rows row_count i) r)

  -- a row that is not posted leaves every last place as it is
  pub kept-unposted : posted_of rows r ≡ 0 → LastKept rows row_count (r + 1) last
  unfolding last_in
  kept-unposted e = record { room = k.room; kept = λ i h. rw (add-one, eq-eqb _ _ e) (k.kept i h) }

  -- a posted one is then the last of its list
  pub kept-posted : posted_of rows r ≢ 0 → list_for row_count (posted_key_of rows r) < row_count
      → LastKept rows row_count (r + 1) (set last (list_for row_count (posted_key_of rows r)) (r + 1))
  unfolding last_in
  kept-posted d l =
      let m = list_for row_count (posted_key_of rows r) in
      record {
        room = simp length-set k.room;
        kept = λ i h. elim (ℕ_discrete i m) [
          | yes e ↦ rw (e, get_or-set_same last m (r + 1) 0 (omega (arith, k.room)), add-one, ne_eqb _ _ d, eq-eqb _ _ refl)
          | no e ↦ rw (get_or-set_other last m i (r + 1) 0 e, add-one, ne_eqb _ _ d, ne_eqb _ _ (λ q. e (sym q))) (k.kept i h)
        ];
      }

-- a posted row is named where the link behind the last place of its list is its own
pub named-posted : (rows : List ℕ) (row_count r link place : ℕ) → posted_of rows r ≢ 0
    → place ≡ last_in rows row_count (list_for row_count (posted_key_of rows r)) r
    → link ≡ link_at rows (list_for row_count (posted_key_of rows r)) place → eqb link (r + 1) ≡ named_before rows row_count r
named-posted rows n r link place d p l = rw (ne_eqb _ _ d, l, p, add-one)

-- what stands behind each kept place is what ends the list
pub every-ends : (rows : List ℕ) (row_count n : ℕ) (last : List ℕ) → n ≤ row_count → LastKept rows row_count row_count last
    → every n (λ i. eqb (link_at rows i (get_or last i 0)) 0) ≡ every n (ends_at rows row_count)
unfolding every
every-ends rows row_count zero last h k = refl
every-ends rows row_count (suc n) last h k = rw (every-ends rows row_count n last (omega arith) k, k.kept n (omega arith))

-- no row is below row 0, so nothing is kept at the start
pub kept-none : (rows : List ℕ) (row_count : ℕ) → row_count ≤ most_rows → LastKept rows row_count 0 (replicate most_rows 0)
unfolding last_in
kept-none rows n h = record { room = rw length-replicate h; kept = λ i l. get_or-replicate most_rows i 0 0 (omega arith) }

module _ (rows : List ℕ) (row_count : ℕ) (z : Sized rows row_count) where
  -- within the limits only the lists are left to be told
  told-sized : told_within rows row_count ≡ lists_tell rows row_count
  unfolding told_within
  told-sized = rw (le-leb _ _ z.few-rows, le-leb _ _ z.rows-held)

  -- a row that is not named leaves them untold
  pub told-unnamed : every row_count (named_before rows row_count) ≡ false → false ≡ told_within rows row_count
  unfolding lists_tell
  told-unnamed e = rw (told-sized, e)

  -- where all are, the ends of the lists tell
  pub told_named : {r : Bool} → every row_count (named_before rows row_count) ≡ true → r ≡ every row_count (ends_at rows row_count)
      → r ≡ told_within rows row_count
  unfolding lists_tell
  told_named e t = rw (told-sized, e, t)
