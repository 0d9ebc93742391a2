-- No call writes past what the sizes name: of any words, and after an accepted open and any calls.
-- Assumes nothing.
use Prim.Native.Nat.{ℕ}
use mathlib.Core.Path.{◌≡◌, refl, sym, ap, subst, ◌∙◌}
use mathlib.Core.Bool.{Bool, true, false}
use mathlib.Core.List.{List, [], ◌∷◌}
use native.Mathlib.Omega.{arith}
use Rattle.base_lists.proofs.ListLaws.{and_l, and_r}
use Rattle.model.specs.Shape.{right_shape}
use Rattle.base_protocol.specs.declared.Sizes.{Sizes}
use Rattle.table.specs.Fields.{row_words, bucket_words}
use Rattle.step.specs.Steps.{Tables, Moved}
use Rattle.step.specs.Words.{Words, view, moved_by, tables_after}
use Rattle.step.specs.Past.{PastKept}
use Rattle.step_bridge.proofs.Running.{Stands}
use Rattle.step_bridge.proofs.Beyond.{every-beyond}
use Rattle.step_bridge.proofs.Slotted.{past-test, still}
use Rattle.step_bridge.proofs.Past.{past-kept, past-then}
use Rattle.shape.specs.Shape.{tables_fit, shape_of}
use Rattle.call.specs.Calls.{asker, has_ended, Swept, swept_for, swept_moved, call_of}
use Rattle.call.proofs.Opened.{fresh_words, fresh-past, open-words, open-stands}
use Rattle.call_promises.specs.Calls.{Call, lending, called, calls, Typed}
use Rattle.call_promises.specs.Demands.{Opening, opened, open_number, after, lent_to, PastCall, PastCalls}
use Rattle.call_promises.proofs.Calls.{fit-sized, shape_is, lent-shape, lent-sized, stands-typed, called-stands}
use Rattle.call_promises.proofs.Answered.{open_done}

-- every claim and every bucket that is freed is below the counts
swept-past : (z : Sizes) (n : ℕ) (b : Tables) (m : Moved) → PastKept z b (tables_after m) → PastKept z b (tables_after (swept_moved z n m))
unfolding swept_for
swept-past z n b m h =
    past-test
    (λ (x : Swept). PastKept z b (record { rows = x.rows; versions = m.versions; buckets = x.buckets; lists = m.lists; found = m.found }))
    (has_ended n m.stepped.txn.number)
    (record {
      rows = every-beyond row_words 1 z.rows (omega arith) n m.rows z.rows (omega arith) ∙ h.rows;
      versions = h.versions;
      buckets = every-beyond bucket_words 1 z.buckets (omega arith) n m.buckets z.buckets (omega arith) ∙ h.buckets;
      lists = h.lists;
    })
    (λ e. record { rows = h.rows; versions = h.versions; buckets = h.buckets; lists = h.lists })

module _ (w : Words) (c : Call) where
  abbrev lent : Words
  lent = lending w c.lent

  -- 16 leaves every word; a step of right shape none past the sizes
  pub calls-kept : Typed w → PastCall w c
  unfolding call_of
  calls-kept t = by (shape_of w) refl
    where
      by : (b : Bool) → shape_of w ≡ b → PastCall w c
      by false e = rw (lent-shape w c.lent ∙ e) (record { rows = refl; versions = refl; buckets = refl; lists = refl })
      by true e =
          let both = sym (shape_is w) ∙ e in
          let z = fit-sized w t (and_l (tables_fit w) (right_shape (view w)) both) in
          let k = swept-past w.sizes (asker lent c.asks).number lent.tables (moved_by lent c.asks)
          (past-kept lent (lent-sized w c.lent z) (and_r (tables_fit w) (right_shape (view w)) both) c.asks) in
          rw (lent-shape w c.lent ∙ e) (record { rows = k.rows; versions = k.versions; buckets = k.buckets; lists = k.lists })

  called-sizes : (called w c).words.sizes ≡ w.sizes
  unfolding call_of
  called-sizes = by (shape_of lent) refl
    where
      by : (b : Bool) → shape_of lent ≡ b → (called w c).words.sizes ≡ w.sizes
      by true e = rw e
      by false e = rw e

-- one call after another
all-sizes : (w : Words) (cs : List Call) → (calls w cs).sizes ≡ w.sizes
unfolding calls
all-sizes w [] = refl
all-sizes w (c ∷ cs) = all-sizes (called w c).words cs ∙ called-sizes w c

all-kept : (w : Words) → Stands w → (cs : List Call) → PastKept w.sizes w.tables (calls w cs).tables
unfolding calls
all-kept w h [] = still w
all-kept w h (c ∷ cs) =
    past-then w.sizes w.tables (called w c).words.tables _ (calls-kept w c (stands-typed w h))
    (subst (λ (z : Sizes). PastKept z (called w c).words.tables (calls (called w c).words cs).tables) (called-sizes w c)
    (all-kept (called w c).words (called-stands w h c) cs))

-- open, and then any calls
module _ (o : Opening) (e : open_number o ≡ 0) where
  open_is : opened o ≡ fresh_words o.rows o.versions o.buckets o.lists o.sizes o.clock []
  open_is = open-words o.rows o.versions o.buckets o.lists o.sizes o.clock (open_done o e)

  open_kept : PastKept o.sizes (lent_to o) (opened o).tables
  open_kept = rw open_is (fresh-past o.rows o.versions o.buckets o.lists o.sizes o.clock [] [])

  open-sizes : (opened o).sizes ≡ o.sizes
  open-sizes = ap (λ (w : Words). w.sizes) open_is

  pub past-calls : (cs : List Call) → PastCalls o cs
  past-calls cs =
      let h = open-stands o.rows o.versions o.buckets o.lists o.sizes o.clock (open_done o e) o.clock-in in
      record {
        sizes = all-sizes (opened o) cs ∙ open-sizes;
        past = past-then o.sizes (lent_to o) (opened o).tables _ open_kept
            (subst (λ (z : Sizes). PastKept z (opened o).tables (after o cs).tables) open-sizes (all-kept (opened o) h cs));
      }
