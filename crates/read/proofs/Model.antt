-- The step rows over the words is the model's, in every store that shows the words.
-- Assumes nothing.
use Prim.Native.Nat.{ℕ, ◌+◌, ◌≤◌, ◌<◌, min}
use mathlib.Core.Path.{◌≡◌, refl, sym, ◌∙◌}
use mathlib.Core.Bool.{Bool, true, false, cond, not, ◌&&◌, ◌||◌, or-false, or_assoc, or_comm}
use mathlib.Core.Logic.{◌≢◌, inl, inr}
use mathlib.Core.Option.{Option, none, some}
use mathlib.Core.List.{List, [], ◌∷◌, ◌++◌, map, append_assoc, append-nil}
use native.Mathlib.Omega.{arith}
use borrow.Author.Tests.{ne_eqb, ltb-false}
use lib.Dec.{eqb, ltb}
use lib.ListN.{length, length-append, length-map}
use Rattle.base_limits.specs.Limits.{most_writes, most_records, most_rows}
use Rattle.base_lists.specs.Lists.{member, some_of, Among}
use Rattle.base_lists.proofs.ListLaws.{pick_same}
use Rattle.model.specs.Store.{Txn, Store, rank, phase_collected, key_in}
use Rattle.model.specs.Store as model
use Rattle.model.specs.Seeing.{version_of, pending, matches}
use Rattle.model.specs.Seeing as seeing
use Rattle.model.specs.Steps.{found_rows, recorded, recording, record_all, records_after, read_txn}
use Rattle.model.specs.Refusals.{Refusal, WrongPhase, NoRoom, ManyRecords, rows_checks, refusal}
use Rattle.model.specs.Machine as machine
use Rattle.model.specs.Machine.{lent_after}
use Rattle.model.proofs.SeeingLaws.{key_at-pos, match-version, version-in, found-which}
use Rattle.base_protocol.specs.View.{told, refusal_told}
use Rattle.base_protocol.specs.declared.Extent.{Extent}
use Rattle.table.specs.Lists.{records, record_of, start_of, writes_of, records_of}
use Rattle.table.proofs.Spans.{list_length}
use Rattle.table.specs.declared.lists.Write.{Write}
use Rattle.table.specs.declared.lists.ReadRecord.{ReadRecord}
use Rattle.table_scans.specs.Scans.{rows_written, pointers}
use Rattle.table_scans.proofs.Laws.{eqb-sym}
use Rattle.txn.specs.declared.Transaction.{Transaction}
use Rattle.txn.specs.View.{write_view, record_view, writes_in, candidates_in, txn_view}
use Rattle.read_match.specs.Matching.{Look, look, match_of, is_match}
use Rattle.read_match.proofs.Model.{Shows, matches-same, through_same}
use Rattle.read_gather.specs.Gathering.{wanted_rows}
use Rattle.read_record.specs.Recording.{known_pointers, record_for, put_records}
use Rattle.read.specs.Rows.{matched_rows, through, new_records, done_txn, room_for, LeftRows, refused_rows, done_rows, reading_of, reading_by, rows_of}
use Rattle.read_record.proofs.Appended.{put-length}
use Rattle.read.proofs.Appended.{Stands, put_view, put-others, put-stands}

-- ---- tests of membership
member-append : (x : ℕ) (xs ys : List ℕ) → member x (xs ++ ys) ≡ (member x xs || member x ys)
unfolding member
member-append x [] ys = refl
member-append x (y ∷ xs) ys = rw (member-append x xs ys) (sym (or_assoc (eqb x y) (member x xs) (member x ys)))

pending-member : (ws : List Write) (r : ℕ) → pending (map write_view ws) r ≡ member r (rows_written ws)
unfolding pending member
pending-member [] r = refl
pending-member (w ∷ ws) r = rw (pending-member ws r, eqb-sym w.row r)

recorded-member : (rs : List ReadRecord) (p : ℕ) → recorded (map record_view rs) p ≡ member p (pointers rs)
unfolding recorded some_of member
recorded-member [] p = refl
recorded-member (r ∷ rs) p = rw (recorded-member rs p, eqb-sym r.ptr p)

recorded-last : (rs : List model.ReadRecord) (q : model.ReadRecord) (p : ℕ) → recorded (rs ++ (q ∷ [])) p ≡ (recorded rs p || eqb q.ptr p)
unfolding recorded some_of
recorded-last [] q p = or-false (eqb q.ptr p)
recorded-last (r ∷ rs) q p = rw (recorded-last rs q p) (sym (or_assoc (eqb r.ptr p) (recorded rs p) (eqb q.ptr p)))

recorded_more : (rs : List model.ReadRecord) (q : model.ReadRecord) (known : List ℕ) (p : ℕ) → recorded rs p ≡ member p known
    → recorded (rs ++ (q ∷ [])) p ≡ member p (q.ptr ∷ known)
unfolding member
recorded_more rs q known p e = rw (recorded-last rs q p, e, eqb-sym q.ptr p) (or_comm (member p known) (eqb p q.ptr))

-- one row of a read, where th is the pointer that it is matched through and q the record that the model would add
one-record : (versions : List ℕ) (all : List model.ReadRecord → List model.ReadRecord) (new : List ℕ → List ReadRecord) (done : List model.ReadRecord)
    (known : List ℕ) (r th : ℕ) (q : model.ReadRecord)
    → recorded done q.ptr ≡ member q.ptr known → (b : Bool) → (b ≡ true → th ≡ 0)
    → (b ≡ false → (th ≡ q.ptr) × (q.ptr ≢ 0) × (record_view (record_for versions r q.ptr) ≡ q))
    → all done ≡ done ++ map record_view (new known) → all (done ++ (q ∷ [])) ≡ (done ++ (q ∷ [])) ++ map record_view (new (q.ptr ∷ known))
    → all (cond b done (recording done q)) ≡ done
    ++ map record_view (cond (eqb th 0 || member th known) (new known) (record_for versions r th ∷ new (th ∷ known)))
unfolding recording
one-record versions all new done known r th q same true pend seen skip add = rw (pend refl) skip
one-record versions all new done known r th q same false pend seen skip add =
    let e = seen refl in
    rw (e.0, ne_eqb q.ptr 0 e.1, same) (by (member q.ptr known) e.2)
  where
    by : (m : Bool) → record_view (record_for versions r q.ptr) ≡ q
        → all (cond m done (done ++ (q ∷ []))) ≡ done ++ map record_view (cond m (new known) (record_for versions r q.ptr ∷ new (q.ptr ∷ known)))
    by true e = skip
    by false e = add ∙ (append_assoc done (q ∷ []) (map record_view (new (q.ptr ∷ known))) ∙ rw e)

-- what an accepted step leaves is what the model's does: the answer, the transaction, the lent list; every other transaction is as it was
pub record ReadAs (s : Store) (lists found : List ℕ) (t : Transaction) (w : LeftRows) : Type 0 where
  pub answer-is : w.reply.answer ≡ told (machine.Rows (found_rows s (txn_view lists t)))
  pub txn-is : txn_view w.lists w.reply.txn ≡ read_txn s (txn_view lists t)
  pub found-is : w.found ≡ lent_after (machine.Rows (found_rows s (txn_view lists t))) found
  pub others : (u : Transaction) → u.slot ≢ t.slot → Stands lists u → txn_view w.lists u ≡ txn_view lists u
  pub stands : Stands w.lists w.reply.txn
  pub slot_same : w.reply.txn.slot ≡ t.slot
  pub snapshot-same : w.reply.txn.snapshot ≡ t.snapshot
  pub long_same : length w.lists ≡ length lists

-- by the model's refusal: its number, with all as it was; or what the step leaves
abbrev pub RowsAs : Store → List ℕ → List ℕ → Transaction → Option Refusal → LeftRows → Type 0
RowsAs s lists found t (some why) w = w ≡ refused_rows lists found t (refusal_told why)
RowsAs s lists found t none w = ReadAs s lists found t w

module _ (s : Store) (rows versions lists : List ℕ) (e : Extent) (t : Transaction) (room : ℕ) (size : e.sizes.rows ≡ s.sizes.rows)
    (g : Shows s.chains s.sizes.rows rows versions e.used) (few : s.sizes.rows ≤ most_rows) (st : Stands lists t) where
  -- what a transaction looks at in its phase
  abbrev seen : Look
  seen = look rows versions lists (reading_by e t room)

  abbrev txn : Txn
  txn = txn_view lists t

  -- ---- the matches
  wanted-same : (r : ℕ) → member r (wanted_rows lists t) ≡ (member r (candidates_in lists t) || pending (writes_in lists t) r)
  wanted-same r =
      let c : min t.candidates_n most_rows ≡ t.candidates_n = omega (arith, st.candidates-few) in
      let w : min t.writes_n most_writes ≡ t.writes_n = omega (arith, st.writes-few) in
      rw (c, w, member-append, pending-member (writes_of lists t.slot t.writes_n) r)

  pub matched-model : matched_rows seen s.sizes.rows ≡ found_rows s txn
  unfolding matched_rows found_rows
  matched-model =
      let n : min s.sizes.rows most_rows ≡ s.sizes.rows = omega arith in
      rw n (pick_same (λ r. member r (wanted_rows lists t) && is_match (match_of seen r))
      (λ r. (member r (candidates_in lists t) || pending (writes_in lists t) r) && matches s.chains txn (key_in txn.phase) r) 0 s.sizes.rows
      (λ r a b. rw (wanted-same r, matches-same s.chains s.sizes.rows seen g st.writes-few r (omega arith))))

  -- ---- the read records
  -- a row that matches through a version: its pointer is not 0, and its record is the model's
  record_same : (r : ℕ) → r < s.sizes.rows → pending (writes_in lists t) r ≡ false → is_match (match_of seen r) ≡ true
      → (version_of s.chains txn.snapshot r ≢ 0)
      × (record_view (record_for versions r (version_of s.chains txn.snapshot r)) ≡ seeing.record_of s.chains txn.snapshot r)
  record_same r h p m =
      let v = version_of s.chains txn.snapshot r in
      let d : v ≢ 0 = key_at-pos s.chains v (key_in txn.phase)
      (match-version s.chains txn (key_in txn.phase) r p (matches-same s.chains s.sizes.rows seen g st.writes-few r h ∙ m)) in
      let i = version-in s.chains txn.snapshot r d in
      (d, rw (g.xmin-same v i.0 i.1))

  -- rows that are in the store and match
  abbrev Matching : List ℕ → Type 0
  Matching rs = (r : ℕ) → Among r rs → (r < s.sizes.rows) × (is_match (match_of seen r) ≡ true)

  record-all : (done : List model.ReadRecord) (known : List ℕ) (rs : List ℕ) → ((p : ℕ) → recorded done p ≡ member p known) → Matching rs
      → record_all s.chains txn done rs ≡ done ++ map record_view (new_records seen known rs)
  unfolding record_all new_records
  record-all done known [] same all = sym (append-nil done)
  record-all done known (r ∷ rs) same all =
      let q = seeing.record_of s.chains txn.snapshot r in
      let here = all r (inl refl) in
      let rest : Matching rs = λ q m. all q (inr m) in
      one-record versions (λ d. record_all s.chains txn d rs) (λ k. new_records seen k rs) done known r (through seen r) q (same q.ptr)
      (pending (writes_in lists t) r)
      (λ e. through_same s.chains s.sizes.rows seen g st.writes-few r here.0 here.1 ∙ rw e)
      (λ e. let k = record_same r here.0 e here.1 in
      (through_same s.chains s.sizes.rows seen g st.writes-few r here.0 here.1 ∙ rw e, k.0, k.1))
      (record-all done known rs same rest)
      (record-all (done ++ (q ∷ [])) (q.ptr ∷ known) rs (λ p. recorded_more done q known p (same p)) rest)

  -- the records that are new to a read
  abbrev new : List ReadRecord
  new = new_records seen (known_pointers lists t.slot t.records_n) (matched_rows seen s.sizes.rows)

  matched-all : Matching (found_rows s txn)
  matched-all r m = let w = found-which s txn r m in (w.0, sym (matches-same s.chains s.sizes.rows seen g st.writes-few r w.0) ∙ w.1)

  pub records-model : records_after s txn ≡ txn.records ++ map record_view new
  records-model =
      let n : min t.records_n most_records ≡ t.records_n = omega (arith, st.records-few) in
      rw (matched-model, n) (record-all txn.records (pointers (records_of lists t.slot t.records_n)) (found_rows s txn)
      (recorded-member (records_of lists t.slot t.records_n)) matched-all)

  -- ---- the tests
  pub room-same : (len : ℕ) → min room most_rows ≤ len
      → ltb (room_for room len) (length (matched_rows seen s.sizes.rows)) ≡ ltb (min room most_rows) (length (found_rows s txn))
  room-same len h = let m : room_for room len ≡ min room most_rows = omega arith in rw (m, matched-model)

  pub count_same : length (records_after s txn) ≡ t.records_n + length new
  count_same = rw (
    records-model,
    length-append,
    length-map (records_of lists t.slot t.records_n) record_view,
    length-map new record_view,
    list_length record_of records.w (start_of records t.slot) lists t.records_n,
  )

  -- ---- what the step leaves
  module _ (h : t.records_n + length new ≤ most_records) where
    pub rows-view : txn_view (put_records lists t.slot t.records_n new) (done_txn t (t.records_n + length new)) ≡ read_txn s txn
    rows-view = put_view lists t new st h ∙ rw records-model

  module _ (found : List ℕ) (lent : min room most_rows ≤ length found) where
    read_as : t.records_n + length new ≤ most_records → ReadAs s lists found t (done_rows lists found (matched_rows seen s.sizes.rows) new t)
    read_as h = record {
      answer-is = rw matched-model;
      txn-is = rows-view h;
      found-is = rw matched-model;
      others = put-others lists t new st h;
      stands = put-stands lists t new st h;
      slot_same = refl;
      snapshot-same = refl;
      long_same = put-length lists t.slot t.records_n new;
    }

    by_tests : (phase short many : Bool) → (many ≡ false → ReadAs s lists found t (done_rows lists found (matched_rows seen s.sizes.rows) new t))
        → RowsAs s lists found t (cond phase (some WrongPhase) (cond short (some NoRoom) (cond many (some ManyRecords) none)))
        (cond phase (refused_rows lists found t (refusal_told WrongPhase))
        (cond short (refused_rows lists found t (refusal_told NoRoom))
        (cond many (refused_rows lists found t (refusal_told ManyRecords)) (done_rows lists found (matched_rows seen s.sizes.rows) new t))))
    by_tests true short many ok = refl
    by_tests false true many ok = refl
    by_tests false false true ok = refl
    by_tests false false false ok = ok refl

    -- the step: where the model refuses it, the words answer its number and are as they were; else they leave what the model does
    pub rows-model : RowsAs s lists found t (refusal ((not (eqb (rank txn.phase) phase_collected), WrongPhase) ∷ rows_checks s txn room))
        (rows_of rows versions lists found e t room)
    unfolding rows_of reading_of refusal
    rows-model =
        rw (size, room-same (length found) lent, count_same)
        (by_tests (not (eqb (rank txn.phase) phase_collected)) (ltb (min room most_rows) (length (found_rows s txn)))
        (ltb most_records (t.records_n + length new)) (λ e. read_as (ltb-false most_records (t.records_n + length new) e)))
