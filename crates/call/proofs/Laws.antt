-- A public step put together from what its callees leave, and the words that an open needs.
-- Assumes nothing.
use Prim.Native.Nat.{ℕ, suc, ◌*◌, ◌≤◌, ◌<◌}
use mathlib.Core.Path.{◌≡◌, refl, sym, ◌∙◌}
use mathlib.Core.Bool.{true, ◌&&◌}
use mathlib.Core.List.{List, []}
use native.Mathlib.Omega.{arith}
use lib.Dec.{leb}
use lib.ListN.{length, get_or, length-map}
use borrow.Author.Tests.{leb-true}
use Rattle.base_limits.specs.Limits.{most_live}
use Rattle.base_lists.proofs.ListLaws.{and_l, and_r}
use Rattle.base_protocol.specs.declared.Step.{Step}
use Rattle.base_protocol.specs.declared.Sizes.{Sizes}
use Rattle.table.specs.Fields.{row_words, version_words, bucket_words}
use Rattle.table.specs.Lists.{slot_words}
use Rattle.txn.specs.Methods.{idle_of}
use Rattle.txn.specs.declared.Transaction.{Transaction}
use Rattle.txn_places.specs.declared.Others.{Others}
use Rattle.txn_places.specs.Places.{wanted_of, place_in}
use Rattle.step.specs.Steps.{Moved, step_of}
use Rattle.step.specs.declared.Place.{Place}
use Rattle.step.specs.Words.{others_in, place_for, extent_in, moved_by}
use Rattle.txn_places.proofs.Laws.{default-any, place-below}
use Rattle.shape.specs.Shape.{tables_lent, tables_fit, shape_of, words_of}
use Rattle.shape.specs.declared.Machine.{Machine}
use Rattle.call.specs.declared.Called.{Called}
use Rattle.call.specs.Calls.{left, asker, Swept, swept_for, call_of, placed_of}

-- the list lent for the rows of a read is no part of the shape
pub shape-found : (rows versions buckets lists found : List ℕ) (m : Machine)
    → shape_of (words_of rows versions buckets lists found m) ≡ shape_of (words_of rows versions buckets lists [] m)
unfolding shape_of tables_fit
shape-found rows versions buckets lists found m = refl

-- a number's place is one of the machine's
pub place-within : (ts : List Transaction) (o : Others) (x p : ℕ) → length ts ≡ most_live → o ≡ others_in ts → p ≡ place_in o.numbers x → p < most_live
place-within ts o x p eight others place =
    let n : length (others_in ts).numbers ≡ most_live = length-map ts _ ∙ eight in
    rw (place, others) (place-below 0 (others_in ts).numbers x most_live (omega arith) (omega (arith, n)))

-- the step of the transaction at its place
module _ (rows versions buckets lists found : List ℕ) (m : Machine) (s : Step) (o : Others) (x p : ℕ) (d : Transaction) (eight : length m.txns ≡ most_live)
    (others : o ≡ others_in m.txns) (asks : x ≡ wanted_of s) (place : p ≡ place_in o.numbers x) (within : p < most_live) where
  place_same : place_for m.txns s ≡ p
  unfolding place_for
  place_same = sym (place ∙ rw (others, asks))

  -- what the code hands to it
  abbrev given : Place
  given = record { extent = extent_in (words_of rows versions buckets lists found m); others = o; txn = get_or m.txns p d }

  moved_same : moved_by (words_of rows versions buckets lists found m) s ≡ step_of (words_of rows versions buckets lists found m).tables given s
  unfolding moved_by
  moved_same = rw (place_same, others, default-any m.txns p (idle_of 0) d (omega arith))

  asker-same : asker (words_of rows versions buckets lists found m) s ≡ get_or m.txns p d
  asker-same = rw place_same (default-any m.txns p (idle_of 0) d (omega arith))

  pub call-done : (mv : Moved) (sw : Swept) (r : Called) → shape_of (words_of rows versions buckets lists found m) ≡ true
      → mv ≡ step_of (words_of rows versions buckets lists found m).tables given s
      → sw ≡ swept_for mv.rows mv.buckets m.sizes (get_or m.txns p d).number mv.stepped.txn.number → r ≡ placed_of m p mv.stepped
      → left r sw.rows mv.versions sw.buckets mv.lists mv.found ≡ call_of (words_of rows versions buckets lists found m) s
  unfolding call_of
  call-done mv sw r shape moved swept placed =
      let e : moved_by (words_of rows versions buckets lists found m) s ≡ mv = moved_same ∙ sym moved in
      rw (shape, e, asker-same, place_same, swept, placed)

-- ---- open

-- the words that a size names are there
pub record Roomy (rows versions buckets lists : List ℕ) (z : Sizes) : Type 0 where
  pub rows-there : row_words * z.rows ≤ length rows
  pub versions-there : version_words * suc z.versions ≤ length versions
  pub buckets-there : bucket_words * z.buckets ≤ length buckets
  pub lists-there : most_live * slot_words ≤ length lists

pub lent-roomy : (rows versions buckets lists : List ℕ) (z : Sizes) → tables_lent rows versions buckets lists z ≡ true → Roomy rows versions buckets lists z
lent-roomy rows versions buckets lists z e =
    let r = leb (row_words * z.rows) (length rows) in
    let v = leb (version_words * suc z.versions) (length versions) in
    let b = leb (bucket_words * z.buckets) (length buckets) in
    let l = leb (most_live * slot_words) (length lists) in
    let three = and_l (r && v && b) l e in
    let two = and_l (r && v) b three in
    record {
      rows-there = leb-true _ _ (and_l r v two);
      versions-there = leb-true _ _ (and_r r v two);
      buckets-there = leb-true _ _ (and_r (r && v) b three);
      lists-there = leb-true _ _ (and_r (r && v && b) l e);
    }
