-- A sweep of the tables is the model's `release`, whatever was freed before it.
-- Assumes nothing.
use Prim.Native.Nat.{ℕ, zero, suc, ◌*◌, ◌≤◌, ◌<◌}
use mathlib.Core.Path.{◌≡◌, refl, sym, ◌∙◌, fun_ext}
use mathlib.Core.Bool.{Bool, true, false, cond}
use mathlib.Core.Logic.{inl, ⊎_elim}
use mathlib.Core.List.{List, [], ◌∷◌, ◌++◌}
use native.Mathlib.Decide.{dec_lt}
use native.Mathlib.Omega.{arith}
use lib.Dec.{eqb}
use lib.ListN.{length}
use Rattle.base_lists.specs.Lists.{member, Among}
use Rattle.base_lists.proofs.TableLaws.{cond-elim}
use Rattle.base_lists.proofs.ListLaws.{among-left, among-right, among-last}
use Rattle.model.specs.Store as model
use Rattle.model.specs.Steps.{release, freed}
use Rattle.table.specs.Words.{clear_field, field, clear_fields, clear_every}
use Rattle.table.proofs.Parts.{part-past}
use Rattle.table_postings.specs.Links.{lists_tell}
use Rattle.txn.specs.View.{rows_part, buckets_part, chains_view, index_view, held_view}
use Rattle.table.specs.Fields.{row_words, bucket_words, clear_holders, clear_claims, release_every, unclaim_every}
use Rattle.step_bridge.proofs.Same.{two-held}
use Rattle.step_bridge.proofs.Tabled.{part, InRange}
use Rattle.step_bridge.proofs.Telling.{tells-kept}
use Rattle.step_bridge.proofs.Freeing.{freed_at, freed-release, clear-all, clear-other, clear-length}

-- the numbers below a bound
abbrev below : ℕ → List ℕ
below zero = []
below (suc n) = below n ++ (n ∷ [])

below_in : (n : ℕ) → InRange n (below n)
below_in zero i m = absurd m
below_in (suc n) i m = ⊎_elim (λ a. omega (arith, below_in n i a)) (λ e. omega arith) (among-last i n (below n) m)

among_below : (n i : ℕ) → i < n → Among i (below n)
among_below zero i h = absurd (omega arith)
among_below (suc n) i h =
    elim (dec_lt i n) [ yes l ↦ among-left i (below n) (n ∷ []) (among_below n i l) | no l ↦ among-right i (below n) (n ∷ []) (inl (omega (arith, l))) ]

-- a sweep frees one after another
clear-append : (w k v : ℕ) (xs is js : List ℕ) → clear_fields w k xs v (is ++ js) ≡ clear_fields w k (clear_fields w k xs v is) v js
unfolding clear_fields
clear-append w k v xs [] js = refl
clear-append w k v xs (i ∷ is) js = clear-append w k v (clear_field w k xs i v) is js

every-below : (w k v n : ℕ) (xs : List ℕ) → clear_every w k xs n v ≡ clear_fields w k xs v (below n)
unfolding clear_every clear_fields
every-below w k v zero xs = refl
every-below w k v (suc n) xs = rw (every-below w k v n xs) (sym (clear-append w k v xs (below n) (n ∷ [])))

-- so of every bucket, and of every row
pub release-all : (v n : ℕ) (xs : List ℕ) → release_every xs n v ≡ clear_holders xs v (below n)
release-all = every-below bucket_words 1

pub unclaim-all-below : (v n : ℕ) (xs : List ℕ) → unclaim_every xs n v ≡ clear_claims xs v (below n)
unclaim-all-below = every-below row_words 1

-- an entry past the part carries no number
part-below : (s k n : ℕ) (xs : List ℕ) (v : ℕ) → 1 ≤ v → (j : ℕ) → field s k (part s n xs) j ≡ v → Among j (below n)
part-below s k n xs v l j e = elim (dec_lt j n) [ yes h ↦ among_below n j h | no h ↦ absurd (omega (arith, part-past s k n xs j (omega (arith, h)))) ]

-- what was freed before does not matter
pub release-freed : (v : ℕ) (f : ℕ → ℕ) (is : List ℕ) → release v (freed_at v f is) ≡ release v f
unfolding release freed_at
release-freed v f is = fun_ext λ j. by j (member j is) (eqb (f j) v) refl
  where
    by : (j : ℕ) (b c : Bool) → eqb (f j) v ≡ c → cond (eqb (cond b (cond c 0 (f j)) (f j)) v) 0 (cond b (cond c 0 (f j)) (f j)) ≡ cond c 0 (f j)
    by j false c e = rw e
    by j true false e = rw e
    by j true true e = cond-elim (λ (y : ℕ). y ≡ 0) (eqb 0 v) 0 0 (λ t. refl) (λ t. refl)

module _ (z : model.Sizes) (v : ℕ) (l : 1 ≤ v) (rows buckets : List ℕ) where
  pub swept-held : row_words * z.rows ≤ length rows → bucket_words * z.buckets ≤ length buckets
      → held_view (rows_part z (unclaim_every rows z.rows v)) (buckets_part z (release_every buckets z.buckets v))
      ≡ freed (held_view (rows_part z rows) (buckets_part z buckets)) v
  swept-held r b =
      rw (release-all v z.buckets buckets, unclaim-all-below v z.rows rows)
      (two-held _ _ _ _
      (clear-all bucket_words 1 (omega arith) z.buckets v buckets (below z.buckets) (below_in z.buckets) b
      ∙ freed-release v _ (below z.buckets) (part-below bucket_words 1 z.buckets buckets v l))
      (clear-all row_words 1 (omega arith) z.rows v rows (below z.rows) (below_in z.rows) r
      ∙ freed-release v _ (below z.rows) (part-below row_words 1 z.rows rows v l)))

  pub swept-chains : (versions : List ℕ) (used : ℕ)
      → chains_view (rows_part z (unclaim_every rows z.rows v)) versions used ≡ chains_view (rows_part z rows) versions used
  swept-chains versions used =
      rw (unclaim-all-below v z.rows rows, clear-other row_words 1 (omega arith) z.rows v rows (below z.rows) 0 (omega arith) (omega arith))

  pub swept-index : index_view (rows_part z (unclaim_every rows z.rows v)) (buckets_part z (release_every buckets z.buckets v))
      ≡ index_view (rows_part z rows) (buckets_part z buckets)
  swept-index = rw (
    release-all v z.buckets buckets,
    unclaim-all-below v z.rows rows,
    clear-other row_words 1 (omega arith) z.rows v rows (below z.rows) 2 (omega arith) (omega arith),
    clear-other row_words 1 (omega arith) z.rows v rows (below z.rows) 3 (omega arith) (omega arith),
    clear-other bucket_words 1 (omega arith) z.buckets v buckets (below z.buckets) 0 (omega arith) (omega arith),
  )

  pub swept-rows-long : length (unclaim_every rows z.rows v) ≡ length rows
  swept-rows-long = rw (unclaim-all-below v z.rows rows) (clear-length row_words 1 v rows (below z.rows))

  pub swept-buckets-long : length (release_every buckets z.buckets v) ≡ length buckets
  swept-buckets-long = rw (release-all v z.buckets buckets) (clear-length bucket_words 1 v buckets (below z.buckets))

  -- the lists tell as before
  pub swept-told : lists_tell rows z.rows ≡ true → lists_tell (unclaim_every rows z.rows v) z.rows ≡ true
  swept-told told =
      rw (unclaim-all-below v z.rows rows)
      (tells-kept _ _ z.rows (λ k lo hi. clear-other row_words 1 (omega arith) z.rows v rows (below z.rows) k hi (λ e. omega arith)) told)
