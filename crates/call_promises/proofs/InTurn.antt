-- Calls in turn: the accepted calls are the model's accepted steps, read for read, so the payments were as if made in turn. Assumes nothing.
use Prim.Native.Nat.{ℕ, min}
use mathlib.Core.Path.{◌≡◌, refl, sym, ap, ◌∙◌}
use mathlib.Core.Bool.{cond}
use mathlib.Core.Option.{none, some}
use mathlib.Core.List.{List, [], ◌∷◌, ◌++◌, map, map-append}
use native.Mathlib.Omega.{arith}
use lib.Dec.{eqb}
use lib.ListN.{length, drop, length-replicate}
use lib.Seq.{take_at}
use Rattle.model.specs.Store.{Store, fresh}
use Rattle.model.specs.Contents.{Content, shown_to, live_row}
use Rattle.model.specs.Refusals.{Step as Asked, begin, capture, collect, rows, write, prepare, install, end, publish, validate, abort, txn_of}
use Rattle.model.specs.Machine as machine
use Rattle.model.specs.Machine.{lent_after, actor, step, run}
use Rattle.model_in_turn.specs.Done.{returned, Entry, whose, entry_of, entries}
use Rattle.model_in_turn.specs.InTurn.{one_by_one, steps_in, turn_of}
use Rattle.model_in_turn.proofs.Promises.{one-after-another}
use Rattle.base_protocol.specs.View.{told, sizes_view}
use Rattle.report_answers.specs.Answers.{number_of}
use Rattle.step.specs.Words.{Words, view}
use Rattle.step_bridge.proofs.Running.{Stands}
use Rattle.call_promises.specs.Calls.{Call, asking, called, steps_of}
use Rattle.call_promises.specs.Demands.{Opening, opened, open_number, after}
use Rattle.call_promises.specs.InTurn.{call_for, front, handed, told_entry, calls_done, calls_one_by_one, turn_calls, publishing, CallsInTurn}
use Rattle.call.proofs.Opened.{open-stands, open-view}
use Rattle.call_promises.proofs.Calls.{called-as, called-stands}
use Rattle.call_promises.proofs.Answered.{told-number, open_done}
use Rattle.call_promises.proofs.Sequences.{follows}

-- ---- the call for a step asks for that step

-- its list has the room that it asks for
room-lent : (t room : ℕ) → min room (length (call_for (rows t room)).lent) ≡ room
room-lent t room = omega (arith, length-replicate {A = ℕ} room 0)

asks-for : (a : Asked) → asking (call_for a) ≡ a
asks-for begin = refl
asks-for (capture t k) = refl
asks-for (collect t) = refl
asks-for (rows t room) = ap (rows t) (room-lent t room)
asks-for (write t r (some c)) = refl
asks-for (write t r none) = refl
asks-for (prepare t) = refl
asks-for (install t) = refl
asks-for (end t) = refl
asks-for (publish t) = refl
asks-for (validate t) = refl
asks-for (abort t) = refl

all_asked : (steps : List Asked) → steps_of (map call_for steps) ≡ steps
all_asked [] = refl
all_asked (a ∷ more) = rw (asks-for a, all_asked more)

publish-asked : (ts : List ℕ) → steps_of (publishing ts) ≡ map publish ts
publish-asked [] = refl
publish-asked (t ∷ ts) = ap (λ l. publish t ∷ l) (publish-asked ts)

-- ---- an accepted call is the model's accepted step

-- the rows at the front of the list are the ones of the model's answer
front-told : (a : machine.Answer) (lent : List ℕ) (s : Store) (t : ℕ)
    → map (λ r. (r, shown_to s.chains (txn_of s t) r)) (front (told a) (lent_after a lent)) ≡ returned s t a
front-told machine.Done lent s t = refl
front-told (machine.Number n) lent s t = refl
front-told (machine.Stamp n) lent s t = refl
front-told (machine.Count n) lent s t = refl
front-told (machine.Rows rs) lent s t = ap (map (λ r. (r, shown_to s.chains (txn_of s t) r))) (take_at rs (drop (length rs) lent) (length rs) refl)
front-told (machine.Judged v) lent s t = refl
front-told (machine.Refused r) lent s t = refl

-- a list goes on alike where the number, the entry and the rest are the same
goes_on : (n m : ℕ) (e f : Entry) (es fs : List Entry) → n ≡ m → e ≡ f → es ≡ fs → cond (eqb n 0) (e ∷ es) es ≡ cond (eqb m 0) (f ∷ fs) fs
goes_on n m e f es fs p q r = rw (p, q, r)

module _ (w : Words) (h : Stands w) (c : Call) where
  number-told : number_of (called w c).answer ≡ machine.answer_number (step (view w) (asking c)).answer
  number-told = ap number_of (called-as w h c).answer ∙ told-number (step (view w) (asking c)).answer

  handed-told : handed (called w c) ≡ front (told (step (view w) (asking c)).answer) (lent_after (step (view w) (asking c)).answer c.lent)
  handed-told = rw ((called-as w h c).answer, (called-as w h c).found)

  entry-told : told_entry w c ≡ entry_of (view w) (asking c)
  entry-told =
      let read = ap (map (λ r. (r, shown_to (view w).chains (txn_of (view w) (actor (asking c))) r))) handed-told
      ∙ front-told (step (view w) (asking c)).answer c.lent (view w) (actor (asking c)) in
      ap (λ (l : List (ℕ × Content)). record { who = whose (view w) (asking c); what = asking c; read = l }) read

done-told : (w : Words) → Stands w → (cs : List Call) → calls_done w cs ≡ entries (view w) (steps_of cs)
unfolding calls_done entries
done-told w h [] = refl
done-told w h (c ∷ cs) =
    goes_on _ _ _ _ _ _ (number-told w h c) (entry-told w h c) (done-told (called w c).words (called-stands w h c) cs
    ∙ ap (λ (v : Store). entries v (steps_of cs)) (called-as w h c).store)

-- ---- after an accepted open

module _ (o : Opening) (e : open_number o ≡ 0) where
  -- the store that the open leaves
  abbrev start : Store
  start = fresh (sizes_view o.sizes) o.clock

  pub done-after : (cs : List Call) → calls_done (opened o) cs ≡ entries start (steps_of cs)
  done-after cs =
      let d = open_done o e in
      done-told _ (open-stands o.rows o.versions o.buckets o.lists o.sizes o.clock d o.clock-in) cs
      ∙ ap (λ (v : Store). entries v (steps_of cs)) (open-view o.rows o.versions o.buckets o.lists o.sizes o.clock d o.clock-in)

  pub turn-after : (cs : List Call) → calls_one_by_one o cs ≡ one_by_one o.clock (entries start (steps_of cs))
  turn-after cs = ap (one_by_one o.clock) (done-after cs)

  turn-asked : (cs : List Call) → steps_of (turn_calls o cs) ≡ turn_of start (steps_of cs)
  turn-asked cs = all_asked (steps_in (calls_one_by_one o cs)) ∙ ap steps_in (turn-after cs)

  -- the store after the turn's calls, and after the calls and some of publish
  turn-store : (cs : List Call) → view (after o (turn_calls o cs)) ≡ run start (turn_of start (steps_of cs))
  turn-store cs = (follows o e (turn_calls o cs)).stands-for ∙ ap (run start) (turn-asked cs)

  published-store : (cs : List Call) (ts : List ℕ) → view (after o (cs ++ publishing ts)) ≡ run start (steps_of cs ++ map publish ts)
  published-store cs ts = (follows o e (cs ++ publishing ts)).stands-for
      ∙ ap (run start) (map-append asking cs (publishing ts) ∙ ap (λ l. steps_of cs ++ l) (publish-asked ts))

  pub turns : (cs : List Call) → CallsInTurn o cs
  turns cs =
      let m = one-after-another (sizes_view o.sizes) o.clock (steps_of cs) in
      record {
        same_reads = done-after (turn_calls o cs) ∙ (ap (entries start) (turn-asked cs) ∙ (m.same_reads ∙ sym (turn-after cs)));
        none-live = λ i l. ap (λ (s : Store). (s.txns i).number) (turn-store cs) ∙ m.none-live i;
        same_rows = λ published r l. ap (λ (s : Store). live_row s r) (turn-store cs)
            ∙ (m.same_rows published r l ∙ sym (ap (λ (s : Store). live_row s r) (published-store cs published)));
      }
