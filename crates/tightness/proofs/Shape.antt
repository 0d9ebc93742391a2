-- Wrong bodies of the crate `shape`.
-- Assumes nothing.
use Prim.Native.Nat.{suc, ◌*◌}
use mathlib.Core.Path.{refl}
use mathlib.Core.Bool.{Bool, ◌&&◌}
use mathlib.Core.List.{[], ◌∷◌, map}
use lib.Dec.{leb}
use lib.ListN.{length, get_or, replicate, set}
use Rattle.model.specs.Shape.{right_shape}
use Rattle.base_protocol.specs.declared.Sizes.{Sizes}
use Rattle.table.specs.Fields.{row_words, version_words, bucket_words}
use Rattle.table.specs.Lists.{lists_words}
use Rattle.txn.specs.declared.Phase.TheVariants as phase
use Rattle.txn.specs.declared.Transaction.{Transaction}
use Rattle.txn_places.specs.declared.Others.{Others}
use Rattle.txn_places.specs.Places.{free_places}
use Rattle.step.specs.Words.{view, others_in}
use Rattle.shape.specs.Shape.{tables_lent, all_in_place, tables_fit, shape_of}
use Rattle.shape.specs.declared.Machine.{Machine}
use Rattle.call.specs.Calls.{fresh_of, closed_of}
use Rattle.tightness.specs.Wrong.{Excludes}
use Rattle.tightness.proofs.Apart.{apart, bit}
use Rattle.tightness.proofs.Computes.{computes}
use Rattle.tightness.proofs.Small.{live, writer, Lent, over, sizes, lent}

-- what the contracts of `tables_lent` and `right_shape` ask for
abbrev fits : Lent × Sizes → Bool
fits (l, z) = tables_lent l.0 l.1 l.2 l.3 z

abbrev right : Lent × Machine → Bool
right (l, m) = shape_of (over l m)

-- `tables_lent`: no entry for pointer 0
pub tables-lent-no-entry-more : Excludes fits (λ (l, z).
    leb (row_words * z.rows) (length l.0) && leb (version_words * z.versions) (length l.1) && leb (bucket_words * z.buckets) (length l.2)
    && leb lists_words (length l.3))
tables-lent-no-entry-more = apart ((lent.0, replicate version_words 0, lent.2, lent.3), sizes) bit refl

-- `tables_lent`: the lists are not tested
pub tables-lent-lists-untested : Excludes fits (λ (l, z).
    leb (row_words * z.rows) (length l.0) && leb (version_words * suc z.versions) (length l.1) && leb (bucket_words * z.buckets) (length l.2))
tables-lent-lists-untested = apart ((lent.0, lent.1, lent.2, []), sizes) bit refl

-- `others_of`: an Ended transaction is active
pub others-of-ended-active : Excludes others_in
    (λ ts. record { numbers = (others_in ts).numbers; active = (others_in ts).numbers; prepared = (others_in ts).prepared })
others-of-ended-active = apart (set free_places 0 (live 1 phase.Ended)) (λ (o : Others). get_or o.active 0 0) refl

-- `others_of`: every pending write has a version reserved
pub others-of-writes-reserved : Excludes others_in
    (λ ts. record { numbers = (others_in ts).numbers; active = (others_in ts).active; prepared = map (λ (t : Transaction). t.writes_n) ts })
others-of-writes-reserved = apart (set free_places 0 (writer phase.Open)) (λ (o : Others). get_or o.prepared 0 0) refl

-- `right_shape`: only the words' own tests are made
pub right-shape-words-only : Excludes right (λ (l, m). tables_fit (over l m))
unfolding computes shape_of
right-shape-words-only = apart (lent, closed_of) bit refl

-- `right_shape`: the lists of postings are not tested
pub right-shape-lists-untested : Excludes right
    (λ (l, m). tables_lent l.0 l.1 l.2 l.3 m.sizes && all_in_place m.txns && right_shape (view (over l m)))
unfolding computes shape_of
right-shape-lists-untested = apart ((0 ∷ 0 ∷ 0 ∷ 0 ∷ 0 ∷ 1 ∷ [], lent.1, lent.2, lent.3), fresh_of sizes 1) bit refl

-- `right_shape`: the tables may be shorter than their sizes
pub right-shape-tables-short : Excludes right (λ (l, m). right_shape (view (over l m)))
unfolding computes shape_of
right-shape-tables-short = apart (([], [], [], []), fresh_of sizes 1) bit refl
