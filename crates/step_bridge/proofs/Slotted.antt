-- The steps that store in their slot, or take or free one bucket, write nothing past what the sizes name: capture, collect, rows, put and erase. And no
-- step changes the length of the lent row list.
-- Assumes nothing.
use Prim.Native.Nat.{ℕ, ◌+◌, ◌%◌, ◌≤◌, ◌<◌}
use mathlib.Core.Path.{◌≡◌, refl, ap}
use mathlib.Core.Bool.{Bool, true, false, cond, not}
use mathlib.Core.List.{[], ◌∷◌}
use native.Mathlib.Nat.{mod-lt}
use native.Mathlib.Omega.{arith}
use lib.Dec.{eqb, ltb, leb}
use lib.ListN.{length, drop, get_or, length-append, length-drop}
use borrow.Author.Tests.{leb-false, ltb-false}
use Rattle.std.specs.Prelude.{Option, Some, None}
use Rattle.base_limits.specs.Limits.{most_live, most_index_reads, most_writes, most_records}
use Rattle.model.specs.Store.{rank, phase_open, phase_holding, phase_collected, bucket_in, key_in}
use Rattle.base_protocol.specs.declared.Step.{Step}
use Rattle.base_protocol.specs.declared.Step.TheVariants as ask
use Rattle.base_protocol.specs.declared.Extent.{Extent}
use Rattle.table.specs.Fields.{bucket_words, stamp_of, holder_of, set_holder}
use Rattle.table.specs.Lists.{lists_words, reads, writes, candidates, place_of}
use Rattle.table.specs.declared.lists.Write.{Write}
use Rattle.table_scans.specs.Scans.{read_prefix}
use Rattle.table_buckets.specs.Buckets.{precedes}
use Rattle.table_postings.specs.Postings.{listed_with}
use Rattle.txn.specs.View.{phase_view}
use Rattle.txn.specs.Methods as methods
use Rattle.txn.specs.Methods.{idle_of, taken_by, too_many, hold_of, held_left, capture_at, collect_of, write_of}
use Rattle.txn.specs.declared.Transaction.{Transaction}
use Rattle.txn_places.specs.Places.{misses_of}
use Rattle.read_match.specs.Matching.{look}
use Rattle.read_record.specs.Recording.{known_pointers}
use Rattle.read.specs.Rows.{LeftRows, matched_rows, new_records, room_for, reading_by, reading_of, rows_of}
use Rattle.step.specs.declared.Place.{Place}
use Rattle.step.specs.Steps.{Tables, Moved, in_buckets, in_lists, in_found, done_by, step_of}
use Rattle.step.specs.Words.{Words, txn_at, place_for, extent_in, beside, moved_by, tables_after, Sized}
use Rattle.step.specs.Past.{PastKept}
use Rattle.step_bridge.proofs.Shaped.{Shaped, count-pos}
use Rattle.step_bridge.proofs.Places.{sized-at}
use Rattle.step_bridge.proofs.Collecting.{posted-same, posted-few}
use Rattle.step_bridge.proofs.Beyond.{sets-beyond, set_beyond, stored-beyond, put-beyond}

-- a test that refuses: what holds of the refusal, and of what is done where it does not refuse, holds
pub past-test : {A : Type 0} (P : A → Type 0) (t : Bool) {x y : A} → P x → (t ≡ false → P y) → P (cond t x y)
past-test P true p q = p
past-test P false p q = q refl

module _ (w : Words) where
  abbrev pub Keeps : Moved → Type 0
  Keeps m = PastKept w.sizes w.tables (tables_after m)

  abbrev pub KeepsHeld : methods.Left → Type 0
  KeepsHeld l = Keeps (in_buckets l w.clock w.used w.tables)

  abbrev pub KeepsWritten : methods.LeftLists → Type 0
  KeepsWritten l = Keeps (in_lists l w.clock w.used w.tables)

  abbrev pub KeepsRead : LeftRows → Type 0
  KeepsRead l = Keeps (in_found l w.clock w.used w.tables)

  pub still : PastKept w.sizes w.tables w.tables
  still = record { rows = refl; versions = refl; buckets = refl; lists = refl }

module _ (w : Words) (z : Sized w) (g : Shaped w) (p : ℕ) (l : p < most_live) where
  abbrev t : Transaction
  t = txn_at w p

  slot-in : t.slot < most_live
  slot-in = omega (arith, (sized-at w z p).slot)

  -- the bucket is below the count, and the index read is one of the slot's
  captured-held : (b k st : ℕ) → b < w.sizes.buckets → (f : Option ℕ) → too_many f t.reads_n ≡ false
      → KeepsHeld w (held_left st (hold_of t w.tables.lists f b k st) (set_holder w.tables.buckets b t.number))
  unfolding hold_of
  captured-held b k st h (Some i) e =
      record { rows = refl; versions = refl; buckets = set_beyond bucket_words 1 _ (omega arith) w.tables.buckets b t.number h; lists = refl }
  captured-held b k st h None e = record {
    rows = refl;
    versions = refl;
    buckets = set_beyond bucket_words 1 _ (omega arith) w.tables.buckets b t.number h;
    lists = stored-beyond reads (omega arith) w.tables.lists t.slot t.reads_n (b ∷ st ∷ []) refl
        (leb-false most_index_reads t.reads_n e) slot-in;
  }

  pub captured : (k : ℕ) → KeepsHeld w (capture_at t w.tables.buckets w.tables.lists (k % w.sizes.buckets) k)
  unfolding capture_at
  captured k =
      let b = k % w.sizes.buckets in
      let P = KeepsHeld w in
      past-test P (not (eqb (rank (phase_view t.phase)) phase_open)) (still w) (λ e.
      past-test P t.marked (still w) (λ e.
      past-test P (taken_by (holder_of w.tables.buckets b) t.number) (still w) (λ e.
      past-test P (not (precedes (stamp_of w.tables.buckets b) t.number)) (still w) (λ e.
      past-test P (too_many (read_prefix w.tables.lists t.slot t.reads_n b) t.reads_n) (still w)
      (captured-held b k _ (mod-lt k (count-pos w g)) (read_prefix w.tables.lists t.slot t.reads_n b))))))

  -- a pending write is one of the slot's
  pub written : (x : Write) → KeepsWritten w (write_of t w.tables.lists w.sizes.rows x)
  unfolding write_of
  written x =
      let P = KeepsWritten w in
      past-test P (not (eqb (rank (phase_view t.phase)) phase_open)) (still w) (λ e.
      past-test P t.marked (still w) (λ e.
      past-test P (not (ltb x.row w.sizes.rows)) (still w) (λ e.
      past-test P (leb most_writes t.writes_n) (still w) (λ e.
      record {
        rows = refl;
        versions = refl;
        buckets = refl;
        lists = stored-beyond writes (omega arith) w.tables.lists t.slot t.writes_n (x.row ∷ x.keyed ∷ x.key ∷ x.payload ∷ []) refl
            (leb-false most_writes t.writes_n e) slot-in;
      }))))

  -- the new records are the slot's
  pub looked : (room : ℕ) → KeepsRead w (rows_of w.tables.rows w.tables.versions w.tables.lists w.tables.found (extent_in w) t room)
  unfolding rows_of reading_of
  looked room =
      let P = KeepsRead w in
      let d = look w.tables.rows w.tables.versions w.tables.lists (reading_by (extent_in w) t room) in
      let rs = matched_rows d w.sizes.rows in
      let new = new_records d (known_pointers w.tables.lists t.slot t.records_n) rs in
      past-test P (not (eqb (rank (phase_view t.phase)) phase_collected)) (still w) (λ e.
      past-test P (ltb (room_for room (length w.tables.found)) (length rs)) (still w) (λ e.
      past-test P (ltb most_records (t.records_n + length new)) (still w) (λ e.
      record {
        rows = refl;
        versions = refl;
        buckets = refl;
        lists = put-beyond w.tables.lists t.slot t.records_n new slot-in (ltb-false most_records _ e);
      })))

  -- the kept rows are the slot's, and the bucket that the phase of one that is live carries is below the count
  pub collected : 1 ≤ t.number → KeepsHeld w (collect_of t w.tables.rows w.tables.buckets w.tables.lists w.sizes.rows)
  unfolding collect_of
  collected a =
      let k = key_in (phase_view t.phase) in
      let rs = listed_with w.tables.rows w.sizes.rows k in
      let few = ap length (posted-same w z g k) in
      past-test (KeepsHeld w) (not (eqb (rank (phase_view t.phase)) phase_holding)) (still w) (λ e. record {
        rows = refl;
        versions = refl;
        buckets = set_beyond bucket_words 1 _ (omega arith) w.tables.buckets (bucket_in (phase_view t.phase)) 0 (g.in-store p a).bucket-in;
        lists = sets-beyond lists_words w.tables.lists (place_of candidates t.slot 0) rs (omega (arith, slot-in, few, posted-few w z g k));
      })

-- ---- the lent row list is as long as it was, whatever the step

looked-long : (b : Tables) (e : Extent) (x : Transaction) (room : ℕ)
    → length (rows_of b.rows b.versions b.lists b.found e x room).found ≡ length b.found
unfolding rows_of reading_of
looked-long b e x room =
    let P : LeftRows → Type 0 = λ l. length l.found ≡ length b.found in
    let d = look b.rows b.versions b.lists (reading_by e x room) in
    let rs = matched_rows d e.sizes.rows in
    let new = new_records d (known_pointers b.lists x.slot x.records_n) rs in
    past-test P (not (eqb (rank (phase_view x.phase)) phase_collected)) refl (λ f.
    past-test P (ltb (room_for room (length b.found)) (length rs)) refl (λ f.
    past-test P (ltb most_records (x.records_n + length new)) refl (λ g.
    rw (length-append rs (drop (length rs) b.found), length-drop) (omega (arith, ltb-false (room_for room (length b.found)) (length rs) f)))))

done-long : (b : Tables) (p : Place) (s : Step) → length (done_by b p s).found ≡ length b.found
done-long b p ask.Begin = refl
done-long b p (ask.Capture n k) = refl
done-long b p (ask.Collect n) = refl
done-long b p (ask.Rows n room) = looked-long b p.extent p.txn room
done-long b p (ask.Put n r k payload) = refl
done-long b p (ask.Erase n r) = refl
done-long b p (ask.Prepare n) = refl
done-long b p (ask.Install n) = refl
done-long b p (ask.End n) = refl
done-long b p (ask.Publish n) = refl
done-long b p (ask.Validate n) = refl
done-long b p (ask.Abort n) = refl

pub found-long : (w : Words) (s : Step) → length (moved_by w s).found ≡ length w.tables.found
unfolding moved_by step_of
found-long w s =
    let p = beside w (get_or w.txns (place_for w.txns s) (idle_of 0)) in
    past-test (λ (m : Moved). length m.found ≡ length w.tables.found) (misses_of p.txn.number s) refl (λ e. done-long w.tables p s)
