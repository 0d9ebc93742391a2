-- A call on any words is the model's public step; so any sequence of calls, the tables handed on as the last call left them, is the model's run.
-- Assumes nothing.
use Prim.Native.Nat.{ℕ, suc, ◌*◌, ◌<◌, min}
use mathlib.Core.Path.{◌≡◌, refl, sym, ap, subst, ◌∙◌}
use mathlib.Core.Bool.{Bool, true, false, ◌&&◌}
use mathlib.Core.List.{List, [], ◌∷◌}
use native.Mathlib.Omega.{arith}
use lib.Dec.{eqb, leb}
use lib.ListN.{length, get_or}
use borrow.Author.Tests.{eq-eqb, le-leb, eqb-true, leb-true}
use Rattle.std.specs.Prelude.{Option, Some, None}
use Rattle.base_limits.specs.Limits.{most_live, most_active, most_index_reads, most_writes, most_records, most_rows}
use Rattle.base_lists.proofs.ListLaws.{and_l, and_r, every-each, pick_same}
use Rattle.model.specs.Store.{Store}
use Rattle.model.specs.Shape.{right_shape}
use Rattle.model.specs.Refusals.{Step as Asked, WrongShape}
use Rattle.base_protocol.specs.View.{refusal_told}
use Rattle.model.specs.Machine as machine
use Rattle.model.specs.Machine.{gives, step, step_in, run}
use Rattle.model.proofs.Good.{Good, good-run, right-shape}
use Rattle.base_protocol.specs.declared.Step.{Step}
use Rattle.base_protocol.specs.declared.Step.TheVariants as ask
use Rattle.base_protocol.specs.declared.Answer.TheVariants as tell
use Rattle.base_protocol.specs.declared.Extent.{Extent}
use Rattle.table.specs.Fields.{row_words, version_words, bucket_words}
use Rattle.table.specs.Lists.{lists_words}
use Rattle.table_scans.specs.Scans.{latest_pending}
use Rattle.txn.specs.Methods.{idle_of}
use Rattle.txn.specs.declared.Transaction.{Transaction}
use Rattle.shape_txn.specs.TxnShape.{counts_fit}
use Rattle.txn_places.specs.Places.{misses_of}
use Rattle.read_match.specs.Matching.{Look, look, match_by, match_of}
use Rattle.read.specs.Rows.{matched_rows, through, new_records, room_for, reading_of, reading_by, rows_of}
use Rattle.step.specs.Steps.{step_of}
use Rattle.step.specs.Words.{Words, view, txn_at, place_for, extent_in, moved_by, SizedTxn, Sized}
use Rattle.step_bridge.proofs.Listing.{every-at}
use Rattle.step_bridge.proofs.Same.{SameAs}
use Rattle.step_bridge.proofs.Running.{Stands}
use Rattle.step_bridge.proofs.Stepping.{Lent}
use Rattle.shape.specs.Shape.{tables_lent, in_place, all_in_place, lists_in, tables_fit, shape_of}
use Rattle.call.specs.Calls.{called_by, words_called, call_of}
use Rattle.call.proofs.Laws.{lent-roomy}
use Rattle.call_promises.specs.Calls.{Call, room_within, asking, lending, called, calls, steps_of, Typed, CalledAs, AnyCall}
use Rattle.call_promises.proofs.Called.{call_same}

-- ---- the room that a call asks for

-- the room is no part of what matches, nor of what is recorded
module _ (rows versions lists : List ℕ) (e : Extent) (t : Transaction) (a b : ℕ) where
  abbrev less : Look
  less = look rows versions lists (reading_by e t a)

  abbrev more : Look
  more = look rows versions lists (reading_by e t b)

  match-any-room : (r : ℕ) → match_of less r ≡ match_of more r
  unfolding match_of
  match-any-room r = by (latest_pending lists t.slot t.writes_n r)
    where
      by : (f : Option ℕ) → match_by less r f ≡ match_by more r f
      by (Some i) = refl
      by None = refl

  rows-any-room : (n : ℕ) → matched_rows less n ≡ matched_rows more n
  unfolding matched_rows
  rows-any-room n = pick_same _ _ 0 (min n most_rows) (λ r h k. rw (match-any-room r))

  records-any-room : (known rs : List ℕ) → new_records less known rs ≡ new_records more known rs
  unfolding new_records
  records-any-room known [] = refl
  records-any-room known (r ∷ rs) = rw (match-any-room r, records-any-room known rs, records-any-room (through more r ∷ known) rs)

  reading-any-room : (found : List ℕ) (n : ℕ) → room_for a (length found) ≡ room_for b (length found) → reading_of less found n ≡ reading_of more found n
  unfolding reading_of
  reading-any-room found n h = rw (h, rows-any-room n, records-any-room _ (matched_rows more n))

-- room above the lent list counts as its length
module _ (w : Words) where
  rows_cut : (n room : ℕ) → moved_by w (ask.Rows n (min room (length w.tables.found))) ≡ moved_by w (ask.Rows n room)
  unfolding moved_by place_for step_of misses_of rows_of
  rows_cut n room =
      let few = min room (length w.tables.found) in
      let t = get_or w.txns (place_for w.txns (ask.Rows n room)) (idle_of 0) in
      rw (reading-any-room w.tables.rows w.tables.versions w.tables.lists (extent_in w) t few room w.tables.found w.sizes.rows (omega arith))

  room_cut : (s : Step) → call_of w (room_within (length w.tables.found) s) ≡ call_of w s
  unfolding call_of place_for
  room_cut ask.Begin = refl
  room_cut (ask.Capture n k) = refl
  room_cut (ask.Collect n) = refl
  room_cut (ask.Rows n room) = rw (rows_cut n room)
  room_cut (ask.Put n r k payload) = refl
  room_cut (ask.Erase n r) = refl
  room_cut (ask.Prepare n) = refl
  room_cut (ask.Install n) = refl
  room_cut (ask.End n) = refl
  room_cut (ask.Publish n) = refl
  room_cut (ask.Validate n) = refl
  room_cut (ask.Abort n) = refl

  cut-lent : (s : Step) → Lent w (room_within (length w.tables.found) s)
  cut-lent ask.Begin = omega arith
  cut-lent (ask.Capture n k) = omega arith
  cut-lent (ask.Collect n) = omega arith
  cut-lent (ask.Rows n room) = omega arith
  cut-lent (ask.Put n r k payload) = omega arith
  cut-lent (ask.Erase n r) = omega arith
  cut-lent (ask.Prepare n) = omega arith
  cut-lent (ask.Install n) = omega arith
  cut-lent (ask.End n) = omega arith
  cut-lent (ask.Publish n) = omega arith
  cut-lent (ask.Validate n) = omega arith
  cut-lent (ask.Abort n) = omega arith

-- ---- what the words' own tests say

sized-txn : (i : ℕ) (t : Transaction) → length t.snapshot.active ≡ most_active → in_place i t ≡ true → SizedTxn i t
sized-txn i t n e =
    let place = and_l (eqb t.slot i && leb t.snapshot.active_n most_active) (counts_fit t) e in
    let four = and_r (eqb t.slot i && leb t.snapshot.active_n most_active) (counts_fit t) e in
    let reads = leb t.reads_n most_index_reads in
    let writes = leb t.writes_n most_writes in
    let records = leb t.records_n most_records in
    let candidates = leb t.candidates_n most_rows in
    let three = and_l (reads && writes && records) candidates four in
    let two = and_l (reads && writes) records three in
    record {
      slot = eqb-true t.slot i (and_l _ (leb t.snapshot.active_n most_active) place);
      active = leb-true _ most_active (and_r (eqb t.slot i) _ place);
      seven = n;
      reads = leb-true _ most_index_reads (and_l reads writes two);
      writes = leb-true _ most_writes (and_r reads writes two);
      records = leb-true _ most_records (and_r (reads && writes) records three);
      candidates = leb-true _ most_rows (and_r (reads && writes && records) candidates four);
    }

pub fit-sized : (w : Words) → Typed w → tables_fit w ≡ true → Sized w
unfolding tables_fit
fit-sized w t e =
    let all-lent = tables_lent w.tables.rows w.tables.versions w.tables.buckets w.tables.lists w.sizes in
    let front = and_l (all-lent && all_in_place w.txns) (lists_in w) e in
    let lent = and_l all-lent (all_in_place w.txns) front in
    let placed = and_r all-lent (all_in_place w.txns) front in
    let room = lent-roomy w.tables.rows w.tables.versions w.tables.buckets w.tables.lists w.sizes lent in
    record {
      eight = t.eight;
      rows = room.rows-there;
      versions = room.versions-there;
      buckets = room.buckets-there;
      lists = room.lists-there;
      txns = λ i l. sized-txn i (txn_at w i) (t.seven i l) (every-at most_live (λ j. in_place j (txn_at w j)) placed i l);
      told = and_r (all-lent && all_in_place w.txns) (lists_in w) e;
    }

sized-typed : (w : Words) → Sized w → Typed w
sized-typed w z = record { eight = z.eight; seven = λ i l. (z.txns i l).seven }

pub sized-fit : (w : Words) → Sized w → tables_fit w ≡ true
unfolding tables_fit
sized-fit w z =
    let placed : (i : ℕ) → i < most_live → in_place i (txn_at w i) ≡ true = λ i l.
    let s = z.txns i l in
    rw (
      eq-eqb (txn_at w i).slot i s.slot,
      le-leb (txn_at w i).snapshot.active_n most_active s.active,
      le-leb (txn_at w i).reads_n most_index_reads s.reads,
      le-leb (txn_at w i).writes_n most_writes s.writes,
      le-leb (txn_at w i).records_n most_records s.records,
      le-leb (txn_at w i).candidates_n most_rows s.candidates,
    ) in
    rw (
      le-leb (row_words * w.sizes.rows) (length w.tables.rows) z.rows,
      le-leb (version_words * suc w.sizes.versions) (length w.tables.versions) z.versions,
      le-leb (bucket_words * w.sizes.buckets) (length w.tables.buckets) z.buckets,
      le-leb lists_words (length w.tables.lists) z.lists,
      every-each most_live (λ i. in_place i (txn_at w i)) placed,
      z.told,
    )

-- ---- one call

-- the shape is the model's, with what only the words can get wrong
pub shape_is : (w : Words) → shape_of w ≡ (tables_fit w && right_shape (view w))
unfolding shape_of
shape_is w = refl

-- the lent list is no part of it
module _ (w : Words) (found : List ℕ) where
  lent-fit : tables_fit (lending w found) ≡ tables_fit w
  unfolding tables_fit
  lent-fit = refl

  pub lent-shape : shape_of (lending w found) ≡ shape_of w
  unfolding shape_of
  lent-shape = ap (λ (b : Bool). b && right_shape (view w)) lent-fit

  pub lent-sized : Sized w → Sized (lending w found)
  lent-sized z = record { eight = z.eight; rows = z.rows; versions = z.versions; buckets = z.buckets; lists = z.lists; txns = z.txns; told = z.told }

-- a store of wrong shape gets 16 in the model too
model-right : (v : Store) (a : Asked) → right_shape v ≡ true → step v a ≡ step_in v a
unfolding step
model-right v a e = rw e

model-wrong : (v : Store) (a : Asked) → right_shape v ≡ false → step v a ≡ gives v (machine.Refused WrongShape)
unfolding step
model-wrong v a e = rw e

module _ (w : Words) (c : Call) where
  abbrev lent : Words
  lent = lending w c.lent

  abbrev cut : Step
  cut = room_within (length c.lent) c.asks

  called-wrong : shape_of w ≡ false → called w c ≡ record { answer = tell.Refused (refusal_told WrongShape); words = lent }
  unfolding call_of
  called-wrong e = rw (lent-shape w c.lent, e)

  call-right : shape_of w ≡ true → call_of lent cut ≡ record { answer = (called_by lent cut).stepped.answer; words = words_called lent cut }
  unfolding call_of
  call-right e = rw (lent-shape w c.lent, e)

  called-right : shape_of w ≡ true → called w c ≡ record { answer = (called_by lent cut).stepped.answer; words = words_called lent cut }
  called-right e = sym (room_cut lent c.asks) ∙ call-right e

  -- of right shape
  module _ (z : Sized w) (e : right_shape (view w) ≡ true) where
    right : shape_of w ≡ true
    right = shape_is w ∙ rw (sized-fit w z, e)

    same : SameAs lent cut (called_by lent cut)
    same = call_same lent (lent-sized w c.lent z) e cut (cut-lent lent c.asks)

    pub right-sized : Sized (called w c).words
    right-sized = rw (called-right right) same.sized

    pub right-as : CalledAs w c
    right-as =
        let m = model-right (view w) (asking c) e in
        record {
          answer = rw (called-right right, m) same.answer;
          store = rw (called-right right, m) same.store;
          found = rw (called-right right, m) same.lent;
        }

  -- of wrong shape
  wrong-as : tables_fit w ≡ true → right_shape (view w) ≡ false → CalledAs w c
  wrong-as f e =
      let d = called-wrong (shape_is w ∙ rw (f, e)) in
      let m = model-wrong (view w) (asking c) e in
      record { answer = rw (d, m); store = rw (d, m); found = rw (d, m) }

  pub any-call : Typed w → AnyCall w c
  any-call t = record {
    fitting = λ f. by f (right_shape (view w)) refl;
    wrong = called-wrong;
    shape = shape_is w;
    typed = left (shape_of w) refl;
  }
    where
      by : tables_fit w ≡ true → (b : Bool) → right_shape (view w) ≡ b → CalledAs w c
      by f true e = right-as (fit-sized w t f) e
      by f false e = wrong-as f e

      left : (b : Bool) → shape_of w ≡ b → Typed (called w c).words
      left false e = rw (called-wrong e) (record { eight = t.eight; seven = t.seven })
      left true e =
          let both = sym (shape_is w) ∙ e in
          sized-typed (called w c).words
          (right-sized (fit-sized w t (and_l (tables_fit w) (right_shape (view w)) both)) (and_r (tables_fit w) (right_shape (view w)) both))

-- ---- any sequence of calls, from words that stand for a reached store

pub stands-typed : (w : Words) → Stands w → Typed w
stands-typed w h = sized-typed w h.sized

pub called-as : (w : Words) → Stands w → (c : Call) → CalledAs w c
called-as w h c = right-as w c h.sized (right-shape (view w) h.good)

pub called-stands : (w : Words) → Stands w → (c : Call) → Stands (called w c).words
unfolding run
called-stands w h c = record {
  sized = right-sized w c h.sized (right-shape (view w) h.good);
  good = subst (λ (v : Store). Good v) (sym (called-as w h c).store) (good-run (view w) h.good (asking c ∷ []));
}

pub calls-stand : (w : Words) → Stands w → (cs : List Call) → Stands (calls w cs)
unfolding calls
calls-stand w h [] = h
calls-stand w h (c ∷ cs) = calls-stand (called w c).words (called-stands w h c) cs

pub calls-view : (w : Words) → Stands w → (cs : List Call) → view (calls w cs) ≡ run (view w) (steps_of cs)
unfolding calls run
calls-view w h [] = refl
calls-view w h (c ∷ cs) = calls-view (called w c).words (called-stands w h c) cs ∙ ap (λ (v : Store). run v (steps_of cs)) (called-as w h c).store
