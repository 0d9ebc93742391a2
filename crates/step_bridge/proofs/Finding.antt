-- Rows over the words is the model's.
-- Assumes nothing.
use Prim.Native.Nat.{ℕ, suc, ◌≤◌, ◌<◌, min}
use mathlib.Core.Path.{◌≡◌, refl, sym, ap, ◌∙◌}
use mathlib.Core.Bool.{Bool, true, false, cond, not}
use mathlib.Core.Option.{none, some}
use mathlib.Core.Logic.{◌≢◌}
use native.Mathlib.Decide.{dec_lt}
use native.Mathlib.Omega.{arith}
use lib.Dec.{eqb, ltb}
use lib.ListN.{length, get_or-eq_default}
use Rattle.base_limits.specs.Limits.{most_live, most_rows, most_records}
use Rattle.base_lists.specs.Table.{update}
use Rattle.model.specs.Store.{phase_collected}
use Rattle.model.specs.Store as model
use Rattle.model.specs.Steps.{found_rows, records_after}
use Rattle.model.specs.Refusals.{WrongPhase, NoRoom, ManyRecords, refusal, txn_of}
use Rattle.model.specs.Machine.{accepted, after_refusal, carried}
use Rattle.model.proofs.Ranges.{good-sized}
use Rattle.base_protocol.specs.declared.Step.TheVariants as ask
use Rattle.base_protocol.specs.View.{asked}
use Rattle.table.specs.Fields.{row_words, version_words}
use Rattle.table.proofs.Parts.{part_field}
use Rattle.txn.specs.View.{txn_view}
use Rattle.txn.specs.Methods.{idle_of}
use Rattle.read_match.proofs.Model.{Shows, shows-parts}
use Rattle.read.specs.Rows.{LeftRows}
use Rattle.read.proofs.Appended.{Stands}
use Rattle.read.proofs.Model.{ReadAs, RowsAs, rows-model}
use Rattle.step.specs.Steps.{in_found}
use Rattle.step.specs.Words.{Words, view, txn_at, extent_in, Sized}
use Rattle.step_bridge.proofs.Shaped.{Shaped}
use Rattle.step_bridge.proofs.Places.{standing, sized-at}
use Rattle.step_bridge.proofs.Placed.{idle-view, txns-set, sized_set}
use Rattle.step_bridge.proofs.Same.{same_store, SameAt, Same, refused-same}
use Rattle.step_bridge.proofs.SameLaws.{by_place}

module _ (w : Words) (z : Sized w) (g : Shaped w) where
  -- the tables show the model's chains
  chains-shown : Shows (view w).chains w.sizes.rows w.tables.rows w.tables.versions w.used
  chains-shown =
      let u = g.versions-left in
      let used-few : w.used ≤ w.sizes.versions = omega arith in
      shows-parts (view w).sizes w.tables.rows w.tables.versions w.used used-few (omega (arith, z.versions))
      (λ r h. rw (part_field row_words 0 w.sizes.rows w.tables.rows r (omega arith) h) at (g.heads-in r))
      (λ p l h. rw (part_field version_words 2 (suc w.sizes.versions) w.tables.versions p (omega arith) (omega arith)) at (g.next-falls p l h))

  lists-stand : (p : ℕ) → p < most_live → Stands w.tables.lists (txn_at w p)
  lists-stand p l =
      let s = sized-at w z p in
      record {
        slot-in = omega (arith, s.slot);
        long = z.lists;
        reads-few = s.reads;
        writes-few = s.writes;
        records-few = s.records;
        candidates-few = s.candidates;
      }

  read-at : (n room : ℕ) → standing w n < most_live → (left : LeftRows) → ReadAs (view w) w.tables.lists w.tables.found (txn_at w (standing w n)) left
      → SameAt w (standing w n) (in_found left w.clock w.used w.tables) (carried (view w) (asked (ask.Rows n room)) none)
  unfolding carried accepted
  read-at n room l left h =
      let q = standing w n in
      let s = sized-at w z q in
      let st = h.stands in
      record {
        store = same_store _ _ refl refl refl refl refl
            (txns-set w z q l left.lists left.reply.txn (λ j d. other j d)
            ∙ ap (λ (y : model.Txn). update (view w).txns q y) h.txn-is);
        answer = h.answer-is;
        lent = h.found-is;
        sized = sized_set w z q l _ _ _ _
            (record {
              slot = h.slot_same ∙ s.slot;
              active = rw h.snapshot-same s.active;
              seven = rw h.snapshot-same s.seven;
              reads = st.reads-few;
              writes = st.writes-few;
              records = st.records-few;
              candidates = st.candidates-few;
            })
            refl refl refl h.long_same z.told;
      }
    where
      other : (j : ℕ) → j ≢ standing w n → txn_view left.lists (txn_at w j) ≡ txn_view w.tables.lists (txn_at w j)
      other j d = elim (dec_lt j most_live) [
        | yes i ↦ h.others (txn_at w j) (λ e. d (sym (sized-at w z j).slot ∙ (e ∙ (sized-at w z (standing w n)).slot))) (lists-stand j i)
        | no i ↦ rw (get_or-eq_default w.txns (idle_of j) {n = j} (omega (arith, z.eight)))
            (idle-view left.lists j ∙ sym (idle-view w.tables.lists j))
      ]

  found_at : (n room : ℕ) → standing w n < most_live → (left : LeftRows) (phase short many : Bool)
      → RowsAs (view w) w.tables.lists w.tables.found (txn_at w (standing w n))
      (cond phase (some WrongPhase) (cond short (some NoRoom) (cond many (some ManyRecords) none))) left
      → SameAt w (standing w n) (in_found left w.clock w.used w.tables)
      (carried (view w) (asked (ask.Rows n room)) (cond phase (some WrongPhase) (cond short (some NoRoom) (cond many (some ManyRecords) none))))
  unfolding carried after_refusal
  found_at n room l left true short many e = rw e (refused-same w z (standing w n) WrongPhase)
  found_at n room l left false true many e = rw e (refused-same w z (standing w n) NoRoom)
  found_at n room l left false false true e = rw e (refused-same w z (standing w n) ManyRecords)
  found_at n room l left false false false h = read-at n room l left h

  -- the matches go to the front of the lent list, where the room asked for is no more than that list
  pub rows_same : (n room : ℕ) → min room most_rows ≤ length w.tables.found → Same w (ask.Rows n room)
  unfolding refusal
  rows_same n room h =
      let x = txn_of (view w) n in
      by_place w z (ask.Rows n room) refl tt
      (λ l d e. found_at n room l _ (not (eqb (model.rank x.phase) phase_collected)) (ltb (min room most_rows) (length (found_rows (view w) x)))
      (ltb most_records (length (records_after (view w) x)))
      (rows-model (view w) w.tables.rows w.tables.versions w.tables.lists (extent_in w) (txn_at w (standing w n)) room refl chains-shown
      (good-sized (view w).sizes g.sizes).rows-most (lists-stand (standing w n) l) w.tables.found h))
