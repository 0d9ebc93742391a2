-- Words in which nothing stands are the fresh store.
-- Assumes nothing.
use Prim.Native.Nat.{ℕ, zero, suc, ◌+◌, ◌*◌, ◌≤◌, ◌<◌}
use mathlib.Core.Path.{◌≡◌, refl, sym, ap, subst, ◌∙◌, fun_ext}
use mathlib.Core.Bool.{true}
use mathlib.Core.List.{List, []}
use native.Mathlib.Nat.{add-zero, zero-add}
use native.Mathlib.Omega.{arith}
use lib.ListN.{length, get_or}
use Rattle.base_limits.specs.Limits.{most_live, last_number}
use Rattle.model.specs.Store as model
use Rattle.model.specs.Store.{fresh}
use Rattle.model.specs.Machine.{run, can_open}
use Rattle.model.proofs.Good.{Good, opened-good}
use Rattle.base_protocol.specs.View.{sizes_view}
use Rattle.table.specs.Words.{field}
use Rattle.table.specs.Fields.{row_words, version_words, bucket_words}
use Rattle.table.specs.Lists.{lists_words}
use Rattle.table.proofs.Parts.{part_field}
use Rattle.table_postings.proofs.Told.{told-tells, told_fresh}
use Rattle.txn.specs.View.{rows_part, versions_part, buckets_part}
use Rattle.txn.specs.Methods.{idle_of}
use Rattle.txn_places.specs.Places.{free_places, free_from}
use Rattle.step.specs.Words.{Words, view, txn_at, Sized}
use Rattle.step_bridge.proofs.Placed.{idle-view}
use Rattle.step_bridge.proofs.Same.{same_store}
use Rattle.step_bridge.proofs.Running.{Stands}

-- every word of a table is 0
abbrev Zero : List ℕ → Type 0
Zero xs = (i : ℕ) → get_or xs i 0 ≡ 0

-- tables of the sizes that can be opened, all 0 as far as their sizes go, and eight free places
pub record Opened (w : Words) : Type 0 where
  pub opens : can_open (sizes_view w.sizes) w.clock ≡ true
  pub clock-in : w.clock ≤ last_number
  pub unused : w.used ≡ 0
  pub free : w.txns ≡ free_places
  pub rows-zero : Zero (rows_part (sizes_view w.sizes) w.tables.rows)
  pub versions-zero : Zero (versions_part (sizes_view w.sizes) w.tables.versions)
  pub buckets-zero : Zero (buckets_part (sizes_view w.sizes) w.tables.buckets)
  pub rows_long : row_words * w.sizes.rows ≤ length w.tables.rows
  pub versions-long : version_words * suc w.sizes.versions ≤ length w.tables.versions
  pub buckets-long : bucket_words * w.sizes.buckets ≤ length w.tables.buckets
  pub lists-long : lists_words ≤ length w.tables.lists

zero_field : (stride k : ℕ) (xs : List ℕ) → Zero xs → field stride k xs ≡ (λ i. 0)
unfolding field
zero_field stride k xs h = fun_ext λ i. h (stride * i + k)

-- every place is free, and so is what stands past the last
free-idle : (k n i : ℕ) → get_or (free_from k n) i (idle_of (k + i)) ≡ idle_of (k + i)
free-idle k zero i = refl
free-idle k (suc n) zero = sym (ap idle_of (add-zero k))
free-idle k (suc n) (suc i) = let e : k + suc i ≡ suc k + i = omega arith in rw e (free-idle (suc k) n i)

module _ (w : Words) (o : Opened w) where
  abbrev rows_of : List ℕ
  rows_of = rows_part (sizes_view w.sizes) w.tables.rows

  abbrev versions_of : List ℕ
  versions_of = versions_part (sizes_view w.sizes) w.tables.versions

  abbrev buckets_of : List ℕ
  buckets_of = buckets_part (sizes_view w.sizes) w.tables.buckets

  place-idle : (i : ℕ) → txn_at w i ≡ idle_of i
  place-idle i = rw o.free (rw (zero-add i) at (free-idle 0 most_live i))

  row_zero : (k : ℕ) → k < row_words → (r : ℕ) → r < w.sizes.rows → field row_words k w.tables.rows r ≡ 0
  row_zero k hk r h =
      sym (part_field row_words k w.sizes.rows w.tables.rows r hk h) ∙ ap (λ (f : ℕ → ℕ). f r) (zero_field row_words k rows_of o.rows-zero)

  opened-sized : Sized w
  opened-sized = record {
    eight = rw o.free;
    rows = o.rows_long;
    versions = o.versions-long;
    buckets = o.buckets-long;
    lists = o.lists-long;
    txns = λ i h. rw (place-idle i)
        (record {
          slot = refl;
          active = omega arith;
          seven = refl;
          reads = omega arith;
          writes = omega arith;
          records = omega arith;
          candidates = omega arith;
        });
    told = told-tells _ w.sizes.rows (told_fresh _ w.sizes.rows
        (λ r h. (row_zero 2 (omega arith) r h, row_zero 5 (omega arith) r h)));
  }

  -- what they stand for
  pub opened_view : view w ≡ fresh (sizes_view w.sizes) w.clock
  opened_view =
      same_store _ _ refl refl
      (rw (
        o.unused,
        zero_field row_words 0 rows_of o.rows-zero,
        zero_field version_words 0 versions_of o.versions-zero,
        zero_field version_words 1 versions_of o.versions-zero,
        zero_field version_words 2 versions_of o.versions-zero,
        zero_field version_words 3 versions_of o.versions-zero,
        zero_field version_words 5 versions_of o.versions-zero,
      ))
      (rw (zero_field bucket_words 0 buckets_of o.buckets-zero, zero_field row_words 2 rows_of o.rows-zero))
      (rw (zero_field bucket_words 1 buckets_of o.buckets-zero, zero_field row_words 1 rows_of o.rows-zero))
      (fun_ext λ i. rw (place-idle i) (idle-view w.tables.lists i))

  pub opened-stands : Stands w
  unfolding run
  opened-stands = record {
    sized = opened-sized;
    good = subst (λ (v : model.Store). Good v) (sym opened_view) (opened-good (sizes_view w.sizes) w.clock [] o.opens o.clock-in);
  }
