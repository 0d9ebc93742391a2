-- Capture over the words is the model's.
-- Assumes nothing.
use Prim.Native.Nat.{ℕ, ◌+◌, ◌≤◌, ◌<◌, min}
use mathlib.Core.Path.{◌≡◌, refl, sym, ap, ◌∙◌}
use mathlib.Core.Bool.{Bool, true, false, cond, not, ◌&&◌}
use mathlib.Core.Logic.{inl}
use mathlib.Core.Option.{none, some}
use mathlib.Core.List.{List, [], ◌∷◌, ◌++◌, map, map-append}
use native.Mathlib.Omega.{arith}
use lib.Dec.{eqb, ltb, leb}
use lib.ListN.{length}
use lib.Seq.{length-sets}
use borrow.Author.Tests.{leb-false}
use Rattle.std.specs.Prelude.{Option, Some, None}
use Rattle.base_limits.specs.Limits.{most_live, most_index_reads}
use Rattle.base_lists.specs.Table.{update}
use Rattle.base_lists.specs.Lists.{member, some_of}
use Rattle.model.specs.Store as model
use Rattle.model.specs.Store.{bucket_of, phase_open}
use Rattle.model.specs.Steps.{has_read, add_read}
use Rattle.model.specs.Refusals.{WrongPhase, Marked, Taken, Stale, ManyReads, by_another, refusal}
use Rattle.model.specs.Machine.{accepted, after_refusal, carried}
use Rattle.model.proofs.Ranges.{good-sized, bucket-in}
use Rattle.base_protocol.specs.declared.Step.TheVariants as ask
use Rattle.base_protocol.specs.declared.Answer.TheVariants as tell
use Rattle.base_protocol.specs.View.{asked, sizes_view, refusal_told}
use Rattle.table.specs.Fields.{bucket_words, stamp_of, holder_of, set_holder}
use Rattle.table.specs.Lists as lists
use Rattle.table.specs.Lists.{stored, lists_words}
use Rattle.table.specs.declared.lists.IndexRead.{IndexRead}
use Rattle.table.proofs.Laws.{field-length}
use Rattle.table.proofs.Parts.{part_field}
use Rattle.table.proofs.Stored.{same-list, other-list}
use Rattle.table_scans.specs.Scans.{read_prefix, buckets_read}
use Rattle.table_scans.proofs.Laws.{eqb-sym}
use Rattle.table_scans.proofs.Places.{is_place, member-place}
use Rattle.txn.specs.View.{phase_view, txn_view, read_view, reads_in, buckets_part}
use Rattle.txn.specs.Methods.{with_phase, with_mark, with_reads, refused_of, left, too_many, hold_of, held_left, capture_at}
use Rattle.txn.specs.declared.Phase.{Phase}
use Rattle.txn.specs.declared.Phase.TheVariants as phase
use Rattle.txn.specs.declared.Transaction.{Transaction}
use Rattle.step.specs.Steps.{in_buckets}
use Rattle.step.specs.Words.{Words, view, txn_at, SizedTxn, Sized}
use Rattle.step_bridge.proofs.Shaped.{Shaped}
use Rattle.step_bridge.proofs.Places.{standing, sized-at}
use Rattle.step_bridge.proofs.Placed.{slot-view, txns-set, sized_set}
use Rattle.step_bridge.proofs.Same.{same_store, SameAt, Same, refused-same, later-tests}
use Rattle.step_bridge.proofs.SameLaws.{by_place}
use Rattle.step_bridge.proofs.Tabled.{part-update, part-other}
use Rattle.step_bridge.proofs.Judging.{reads-length, taken-same}

-- the words' first index read of a bucket is there exactly where the model has one
has-member : (rs : List IndexRead) (b : ℕ) → has_read (map read_view rs) b ≡ member b (buckets_read rs)
unfolding has_read some_of member
has-member [] b = refl
has-member (r ∷ rs) b = rw (eqb-sym b r.bucket, has-member rs b)

pub has-place : (xs : List ℕ) (t : Transaction) (b : ℕ) → t.reads_n ≤ most_index_reads
    → has_read (reads_in xs t) b ≡ is_place (read_prefix xs t.slot t.reads_n b)
has-place xs t b h =
    let e : min t.reads_n most_index_reads ≡ t.reads_n = omega arith in
    rw e (has-member (lists.reads_of xs t.slot t.reads_n) b ∙ member-place (buckets_read (lists.reads_of xs t.slot t.reads_n)) b)

many-same : (f : Option ℕ) (n : ℕ) → (not (is_place f) && leb most_index_reads n) ≡ too_many f n
many-same (Some i) n = refl
many-same None n = refl

add-held : (rs : List model.IndexRead) (b st : ℕ) → has_read rs b ≡ true → add_read rs b st ≡ rs
unfolding add_read
add-held rs b st h = rw h

add-new : (rs : List model.IndexRead) (b st : ℕ) → has_read rs b ≡ false → add_read rs b st ≡ rs ++ (record { bucket = b; stamp = st } ∷ [])
unfolding add_read
add-new rs b st h = rw h

-- one index read more
read-view : (xs : List ℕ) (p : ℕ) (t : Transaction) → SizedTxn p t → p < most_live → lists_words ≤ length xs → t.reads_n < most_index_reads
    → (ph : Phase) (b st : ℕ)
    → txn_view (stored lists.reads xs t.slot t.reads_n (b ∷ st ∷ [])) (with_reads (with_phase t ph) (t.reads_n + 1))
    ≡ record {
      number = t.number;
      snapshot = (txn_view xs t).snapshot;
      marked = t.marked;
      phase = phase_view ph;
      reads = reads_in xs t ++ (record { bucket = b; stamp = st } ∷ []);
      writes = (txn_view xs t).writes;
      records = (txn_view xs t).records;
      candidates = (txn_view xs t).candidates;
    }
read-view xs p t z l h i ph b st =
    rw (
      same-list lists.read_of lists.reads xs t.slot t.reads_n (b ∷ st ∷ []) refl i (omega arith) (omega (arith, z.slot)) h,
      map-append,
      other-list lists.write_of lists.reads lists.writes xs t.slot t.reads_n t.writes_n (b ∷ st ∷ []) refl i z.writes (inl (omega arith)),
      other-list lists.record_of lists.reads lists.records xs t.slot t.reads_n t.records_n (b ∷ st ∷ []) refl i z.records (inl (omega arith)),
      other-list lists.candidate_of lists.reads lists.candidates xs t.slot t.reads_n t.candidates_n (b ∷ st ∷ []) refl i z.candidates
          (inl (omega arith)),
    )

-- a bucket in range gets a holder: the model's tables
module _ (w : Words) (z : Sized w) (b v : ℕ) (h : b < w.sizes.buckets) where
  pub holder-set : ◌≡◌ {A = model.Held}
      (record { holder = holder_of (buckets_part (sizes_view w.sizes) (set_holder w.tables.buckets b v)); claim = (view w).held.claim })
      (record { holder = update (view w).held.holder b v; claim = (view w).held.claim })
  holder-set = rw (part-update bucket_words 1 w.sizes.buckets w.tables.buckets b v (omega arith) h z.buckets)

  pub stamps-kept : ◌≡◌ {A = model.Index}
      (record { stamp = stamp_of (buckets_part (sizes_view w.sizes) (set_holder w.tables.buckets b v)); posted = (view w).index.posted }) (view w).index
  stamps-kept = rw (part-other bucket_words 1 w.sizes.buckets w.tables.buckets b v 0 (omega arith) (omega arith) (omega arith))

module _ (w : Words) (z : Sized w) (g : Shaped w) (n k : ℕ) (l : standing w n < most_live) where
  pub key-in : bucket_of (view w).sizes k < w.sizes.buckets
  key-in = bucket-in (view w).sizes (good-sized (view w).sizes g.sizes) k

  marked-at : SameAt w (standing w n)
      (in_buckets (left (refused_of (with_mark (txn_at w (standing w n))) (refusal_told Stale)) w.tables.buckets w.tables.lists) w.clock w.used
      w.tables) (carried (view w) (asked (ask.Capture n k)) (some Stale))
  unfolding carried after_refusal
  marked-at = let s = sized-at w z (standing w n) in record {
    store = same_store _ _ refl refl refl refl refl (txns-set w z (standing w n) l w.tables.lists (with_mark (txn_at w (standing w n))) (λ j d. refl));
    answer = refl;
    lent = refl;
    sized = sized_set w z (standing w n) l _ _ _ _
        (record {
          slot = s.slot;
          active = s.active;
          seven = s.seven;
          reads = s.reads;
          writes = s.writes;
          records = s.records;
          candidates = s.candidates;
        }) refl refl refl refl z.told;
  }

  -- the bucket is taken
  held_at : (f : Option ℕ) (st : ℕ) → st ≡ (view w).index.stamp (bucket_of (view w).sizes k)
      → has_read (reads_in w.tables.lists (txn_at w (standing w n))) (bucket_of (view w).sizes k) ≡ is_place f
      → too_many f (txn_at w (standing w n)).reads_n ≡ false
      → SameAt w (standing w n)
      (in_buckets (held_left st (hold_of (txn_at w (standing w n)) w.tables.lists f (bucket_of (view w).sizes k) k st)
      (set_holder w.tables.buckets (bucket_of (view w).sizes k) (txn_at w (standing w n)).number)) w.clock w.used w.tables)
      (carried (view w) (asked (ask.Capture n k)) none)
  unfolding carried accepted hold_of
  held_at (Some i) st e r m =
      let q = standing w n in
      let s = sized-at w z q in
      let b = bucket_of (view w).sizes k in
      record {
        store = same_store _ _ refl refl refl (stamps-kept w z b (txn_at w q).number key-in) (holder-set w z b (txn_at w q).number key-in)
            (txns-set w z q l w.tables.lists (with_phase (txn_at w q) (phase.Holding b k)) (λ j d. refl)
            ∙ ap (λ (y : List model.IndexRead). update (view w).txns q
            (record {
              number = (txn_at w q).number;
              snapshot = ((view w).txns q).snapshot;
              marked = (txn_at w q).marked;
              phase = model.Holding b k;
              reads = y;
              writes = ((view w).txns q).writes;
              records = ((view w).txns q).records;
              candidates = ((view w).txns q).candidates;
            }))
            (sym (add-held (reads_in w.tables.lists (txn_at w q)) b ((view w).index.stamp b) r)));
        answer = ap tell.Stamp e;
        lent = refl;
        sized = sized_set w z q l _ _ _ _
            (record {
              slot = s.slot;
              active = s.active;
              seven = s.seven;
              reads = s.reads;
              writes = s.writes;
              records = s.records;
              candidates = s.candidates;
            }) refl refl (field-length bucket_words 1 w.tables.buckets b (txn_at w q).number) refl z.told;
      }
  held_at None st e r m =
      let q = standing w n in
      let s = sized-at w z q in
      let o = s.slot in
      let b = bucket_of (view w).sizes k in
      let few : (txn_at w q).reads_n < most_index_reads = leb-false most_index_reads (txn_at w q).reads_n m in
      record {
        store = same_store _ _ refl refl refl (stamps-kept w z b (txn_at w q).number key-in) (holder-set w z b (txn_at w q).number key-in)
            (txns-set w z q l _ _ (λ j d. slot-view w.tables.lists q j _ (b ∷ st ∷ []) (txn_at w j) (sized-at w z j) (omega arith) (omega arith) d)
            ∙ (ap (λ (y : model.Txn). update (view w).txns q y) (read-view w.tables.lists q (txn_at w q) s l z.lists few (phase.Holding b k) b st)
            ∙ ap (λ (y : List model.IndexRead). update (view w).txns q
            (record {
              number = (txn_at w q).number;
              snapshot = ((view w).txns q).snapshot;
              marked = (txn_at w q).marked;
              phase = model.Holding b k;
              reads = y;
              writes = ((view w).txns q).writes;
              records = ((view w).txns q).records;
              candidates = ((view w).txns q).candidates;
            }))
            (rw e (sym (add-new (reads_in w.tables.lists (txn_at w q)) b ((view w).index.stamp b) r)))));
        answer = ap tell.Stamp e;
        lent = refl;
        sized = sized_set w z q l _ _ _ _
            (record {
              slot = s.slot;
              active = s.active;
              seven = s.seven;
              reads = omega arith;
              writes = s.writes;
              records = s.records;
              candidates = s.candidates;
            }) refl refl (field-length bucket_words 1 w.tables.buckets b (txn_at w q).number) (length-sets w.tables.lists _ (b ∷ st ∷ []))
            z.told;
      }

  captured-at : (f : Option ℕ) (st : ℕ) → st ≡ (view w).index.stamp (bucket_of (view w).sizes k)
      → has_read (reads_in w.tables.lists (txn_at w (standing w n))) (bucket_of (view w).sizes k) ≡ is_place f
      → (a c d e m : Bool) → too_many f (txn_at w (standing w n)).reads_n ≡ m
      → SameAt w (standing w n)
      (in_buckets
      (cond a (left (refused_of (txn_at w (standing w n)) (refusal_told WrongPhase)) w.tables.buckets w.tables.lists)
      (cond c (left (refused_of (txn_at w (standing w n)) (refusal_told Marked)) w.tables.buckets w.tables.lists)
      (cond d (left (refused_of (txn_at w (standing w n)) (refusal_told Taken)) w.tables.buckets w.tables.lists)
      (cond e (left (refused_of (with_mark (txn_at w (standing w n))) (refusal_told Stale)) w.tables.buckets w.tables.lists)
      (cond m (left (refused_of (txn_at w (standing w n)) (refusal_told ManyReads)) w.tables.buckets w.tables.lists)
      (held_left st (hold_of (txn_at w (standing w n)) w.tables.lists f (bucket_of (view w).sizes k) k st)
      (set_holder w.tables.buckets (bucket_of (view w).sizes k) (txn_at w (standing w n)).number)))))))
      w.clock w.used w.tables)
      (carried (view w) (asked (ask.Capture n k))
      (cond a (some WrongPhase) (cond c (some Marked) (cond d (some Taken) (cond e (some Stale) (cond m (some ManyReads) none))))))
  unfolding carried after_refusal
  captured-at f st q r true c d e m h = refused-same w z (standing w n) WrongPhase
  captured-at f st q r false true d e m h = refused-same w z (standing w n) Marked
  captured-at f st q r false false true e m h = refused-same w z (standing w n) Taken
  captured-at f st q r false false false true m h = marked-at
  captured-at f st q r false false false false true h = refused-same w z (standing w n) ManyReads
  captured-at f st q r false false false false false h = held_at f st q r h

  captured-place : SameAt w (standing w n)
      (in_buckets (capture_at (txn_at w (standing w n)) w.tables.buckets w.tables.lists (bucket_of (view w).sizes k) k) w.clock w.used w.tables)
      (carried (view w) (asked (ask.Capture n k)) (refusal (later-tests (view w) (asked (ask.Capture n k)))))
  unfolding capture_at refusal
  captured-place =
      let q = standing w n in
      let b = bucket_of (view w).sizes k in
      let xs = w.tables.lists in
      let t = txn_at w q in
      let st : stamp_of w.tables.buckets b ≡ (view w).index.stamp b =
      sym (part_field bucket_words 0 w.sizes.buckets w.tables.buckets b (omega arith) key-in) in
      let has = has-place xs t b (sized-at w z q).reads in
      rw (taken-same w z g t.number b key-in, st, has, reads-length xs t, many-same (read_prefix xs t.slot t.reads_n b) t.reads_n)
      (captured-at (read_prefix xs t.slot t.reads_n b) ((view w).index.stamp b) refl has (not (eqb (model.rank (phase_view t.phase)) model.phase_open))
      t.marked (by_another (view w).held.holder t.number b)
      (not (ltb ((view w).index.stamp b) t.number)) (too_many (read_prefix xs t.slot t.reads_n b) t.reads_n) refl)

-- the key's bucket is taken
pub capture-same : (w : Words) → Sized w → Shaped w → (n k : ℕ) → Same w (ask.Capture n k)
unfolding bucket_of
capture-same w z g n k = by_place w z (ask.Capture n k) refl tt (λ l d e. captured-place w z g n k l)
