-- End, put and erase over the words are the model's.
-- Assumes nothing.
use Prim.Native.Nat.{ℕ, ◌+◌, ◌≤◌, ◌<◌}
use mathlib.Core.Path.{◌≡◌, refl, ap, ◌∙◌}
use mathlib.Core.Bool.{Bool, true, false, cond, not}
use mathlib.Core.Logic.{inl, inr}
use mathlib.Core.Option.{none, some}
use mathlib.Core.List.{List, [], ◌∷◌, map-append}
use native.Mathlib.Omega.{arith}
use lib.Dec.{eqb, ltb, leb}
use lib.ListN.{length, length-map}
use lib.Seq.{length-sets}
use borrow.Author.Tests.{leb-false}
use Rattle.base_limits.specs.Limits.{most_live, most_writes}
use Rattle.base_lists.specs.Table.{update}
use Rattle.model.specs.Store.{phase_open, phase_installed}
use Rattle.model.specs.Store as model
use Rattle.model.specs.Steps as does
use Rattle.model.specs.Refusals.{Step as Asked, WrongPhase, Marked, NoRow, ManyWrites, refusal, txn_of, write_checks}
use Rattle.model.specs.Machine.{gives, accepted, after_refusal, carried}
use Rattle.model.specs.Machine as machine
use Rattle.base_protocol.specs.declared.Step.TheVariants as ask
use Rattle.base_protocol.specs.declared.Answer.TheVariants as tell
use Rattle.base_protocol.specs.View.{asked, refusal_told}
use Rattle.table.specs.Lists as lists
use Rattle.table.specs.Lists.{stored, lists_words}
use Rattle.table.specs.declared.lists.Write.{Write}
use Rattle.table.proofs.Stored.{same-list, other-list}
use Rattle.table.proofs.Spans.{list_length}
use Rattle.txn.specs.View.{phase_view, txn_view, write_view, writes_in}
use Rattle.txn.specs.Methods.{with_phase, with_writes, refused_of, write_of}
use Rattle.txn.specs.declared.Phase.TheVariants as phase
use Rattle.txn.specs.declared.Transaction.{Transaction}
use Rattle.finish_publish.specs.Publish.{end_of}
use Rattle.step.specs.Steps.{with_clock, stays, in_lists}
use Rattle.step.specs.Words.{Words, view, txn_at, SizedTxn, Sized}
use Rattle.step_bridge.proofs.Places.{standing, sized-at}
use Rattle.step_bridge.proofs.Placed.{slot-view, txns-set, sized_set}
use Rattle.step_bridge.proofs.Same.{same_store, SameAt, Same, refused-same}
use Rattle.step_bridge.proofs.SameLaws.{by_place}

-- a record whose lists stay: the counts are as they were
pub sized-phase : (p : ℕ) (t : Transaction) (ph : _) → SizedTxn p t → SizedTxn p (with_phase t ph)
sized-phase p t ph z = record {
  slot = z.slot;
  active = z.active;
  seven = z.seven;
  reads = z.reads;
  writes = z.writes;
  records = z.records;
  candidates = z.candidates;
}

-- the pending writes as the model has them: as many as the count says, and one more where one is stored
pub writes-length : (xs : List ℕ) (t : Transaction) → length (writes_in xs t) ≡ t.writes_n
writes-length xs t = length-map (lists.writes_of xs t.slot t.writes_n) write_view
    ∙ list_length lists.write_of (lists.writes).w (lists.start_of lists.writes t.slot) xs t.writes_n

abbrev pub write_words : Write → List ℕ
write_words x = x.row ∷ x.keyed ∷ x.key ∷ x.payload ∷ []

pub written-view : (xs : List ℕ) (p : ℕ) (t : Transaction) → SizedTxn p t → p < most_live → lists_words ≤ length xs → t.writes_n < most_writes → (x : Write)
    → txn_view (stored lists.writes xs t.slot t.writes_n (write_words x)) (with_writes t (t.writes_n + 1))
    ≡ does.written_txn (txn_view xs t) (write_view x)
written-view xs p t z l h i x =
    rw (
      other-list lists.read_of lists.writes lists.reads xs t.slot t.writes_n t.reads_n (write_words x) refl i z.reads (inr (omega arith)),
      same-list lists.write_of lists.writes xs t.slot t.writes_n (write_words x) refl i (omega arith) (omega (arith, z.slot)) h,
      map-append,
      other-list lists.record_of lists.writes lists.records xs t.slot t.writes_n t.records_n (write_words x) refl i z.records (inl (omega arith)),
      other-list lists.candidate_of lists.writes lists.candidates xs t.slot t.writes_n t.candidates_n (write_words x) refl i z.candidates
          (inl (omega arith)),
    )

module _ (w : Words) (z : Sized w) (n : ℕ) (l : standing w n < most_live) where
  ended_at : (b : Bool) → SameAt w (standing w n)
      (stays (with_clock (cond b (refused_of (txn_at w (standing w n)) (refusal_told WrongPhase))
      (record { answer = tell.Done; txn = with_phase (txn_at w (standing w n)) phase.Ended })) w.clock w.used) w.tables)
      (carried (view w) (asked (ask.End n)) (cond b (some WrongPhase) none))
  unfolding carried accepted after_refusal
  ended_at true = refused-same w z (standing w n) WrongPhase
  ended_at false = record {
    store = same_store _ _ refl refl refl refl refl
        (txns-set w z (standing w n) l w.tables.lists (with_phase (txn_at w (standing w n)) phase.Ended) (λ j d. refl));
    answer = refl;
    lent = refl;
    sized = sized_set w z (standing w n) l _ _ _ _ (sized-phase (standing w n) (txn_at w (standing w n)) phase.Ended (sized-at w z (standing w n))) refl
        refl refl refl z.told;
  }

-- one pending write more
module _ (w : Words) (z : Sized w) (p : ℕ) (l : p < most_live) (x : Write) (a : Asked)
    (e : accepted (view w) a ≡ gives (does.written (view w) p (write_view x)) machine.Done) where
  written-at : (b m c d : Bool) → leb most_writes (txn_at w p).writes_n ≡ d
      → SameAt w p
      (in_lists
      (cond b (record { reply = refused_of (txn_at w p) (refusal_told WrongPhase); lists = w.tables.lists })
      (cond m (record { reply = refused_of (txn_at w p) (refusal_told Marked); lists = w.tables.lists })
      (cond c (record { reply = refused_of (txn_at w p) (refusal_told NoRow); lists = w.tables.lists })
      (cond d (record { reply = refused_of (txn_at w p) (refusal_told ManyWrites); lists = w.tables.lists })
      (record {
        reply = record { answer = tell.Done; txn = with_writes (txn_at w p) ((txn_at w p).writes_n + 1) };
        lists = stored lists.writes w.tables.lists (txn_at w p).slot (txn_at w p).writes_n (write_words x);
      })))))
      w.clock w.used w.tables)
      (carried (view w) a (cond b (some WrongPhase) (cond m (some Marked) (cond c (some NoRow) (cond d (some ManyWrites) none)))))
  unfolding carried after_refusal
  written-at true m c d h = refused-same w z p WrongPhase
  written-at false true c d h = refused-same w z p Marked
  written-at false false true d h = refused-same w z p NoRow
  written-at false false false true h = refused-same w z p ManyWrites
  written-at false false false false h = rw e
      (let k : (txn_at w p).writes_n < most_writes = leb-false most_writes (txn_at w p).writes_n h in
      let s = sized-at w z p in
      let q = s.slot in
      record {
        store = same_store _ _ refl refl refl refl refl
            (txns-set w z p l _ _ (λ j d. slot-view w.tables.lists p j _ (write_words x) (txn_at w j) (sized-at w z j) (omega arith) (omega arith) d)
            ∙ ap (λ (y : model.Txn). update (view w).txns p y) (written-view w.tables.lists p (txn_at w p) s l z.lists k x));
        answer = refl;
        lent = refl;
        sized = sized_set w z p l _ _ _ _
            (record {
              slot = s.slot;
              active = s.active;
              seven = s.seven;
              reads = s.reads;
              writes = omega arith;
              records = s.records;
              candidates = s.candidates;
            }) refl refl refl (length-sets w.tables.lists _ (write_words x)) z.told;
      })

-- the number stops being active
pub end_same : (w : Words) → Sized w → (n : ℕ) → Same w (ask.End n)
unfolding end_of refusal
end_same w z n = by_place w z (ask.End n) refl tt
    (λ l d e. ended_at w z n l (not (eqb (model.rank (phase_view (txn_at w (standing w n)).phase)) model.phase_installed)))

-- a pending write is appended, for put and erase alike
module _ (w : Words) (z : Sized w) (n : ℕ) (x : Write) (l : standing w n < most_live) (a : Asked) where
  written-place : accepted (view w) a ≡ gives (does.written (view w) (standing w n) (write_view x)) machine.Done
      → SameAt w (standing w n) (in_lists (write_of (txn_at w (standing w n)) w.tables.lists w.sizes.rows x) w.clock w.used w.tables)
      (carried (view w) a
      (refusal ((not (eqb (model.rank (txn_of (view w) n).phase) phase_open), WrongPhase) ∷ write_checks (view w) (txn_of (view w) n) x.row)))
  unfolding write_of refusal
  written-place e =
      let t = txn_at w (standing w n) in
      rw (writes-length w.tables.lists t)
      (written-at w z (standing w n) l x a e (not (eqb (model.rank (phase_view t.phase)) phase_open)) t.marked (not (ltb x.row w.sizes.rows))
      (leb most_writes t.writes_n) refl)

pub put_same : (w : Words) → Sized w → (n r k payload : ℕ) → Same w (ask.Put n r k payload)
unfolding accepted
put_same w z n r k payload = by_place w z (ask.Put n r k payload) refl tt
    (λ l d e. written-place w z n (record { row = r; keyed = 1; key = k; payload = payload }) l (asked (ask.Put n r k payload)) refl)

pub erase_same : (w : Words) → Sized w → (n r : ℕ) → Same w (ask.Erase n r)
unfolding accepted
erase_same w z n r = by_place w z (ask.Erase n r) refl tt
    (λ l d e. written-place w z n (record { row = r; keyed = 0; key = 0; payload = 0 }) l (asked (ask.Erase n r)) refl)
