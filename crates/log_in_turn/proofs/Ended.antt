-- A replay that ends with 0: the log is empty, or an open that was not refused with steps behind it, and the text has a line for each. Assumes nothing.
use mathlib.Core.Path.{◌≡◌, refl, sym, ap, ◌∙◌}
use mathlib.Core.Bool.{Bool, true, false, cond}
use mathlib.Core.Option.{Option, none, some}
use mathlib.Core.List.{List, [], ◌∷◌, ◌++◌, map, append_assoc, append-nil}
use Prim.Native.Nat.{ℕ, zero, suc, ◌+◌, ◌≤◌, min}
use native.Mathlib.Omega.{arith}
use lib.Dec.{leb}
use lib.ListN.{length}
use Rattle.model.specs.Store.{Sizes, Store, fresh}
use Rattle.model.specs.Refusals.{WrongSize, NoRoom, Malformed, refusal_number, Step}
use Rattle.model.specs.Machine.{step, can_open}
use Rattle.model.specs.Log.{Command, Opening, Asking, read_record}
use Rattle.model.specs.Report.{open_word, bad_word, line, answer_line}
use Rattle.model.specs.Replay.{Replayed, stops, write_then, reads, record_then, replay_for, replay_from, most_room, replay}
use Rattle.log_records.specs.Layout.{bytes_of, Bytes, one_byte}
use Rattle.log_records.proofs.Exact.{read-exact}
use Rattle.log_in_turn.specs.Told.{commands_for, commands_in}
use Rattle.log_in_turn.proofs.Spoken.{spoken, written, open_line, written-more, written_none}
use Rattle.log_in_turn.proofs.Laid.{AllFit, rest-short, none_read}

-- a line that was written when the replay ends with 0
went_on : (room : ℕ) (text next : List ℕ) (go : List ℕ → Replayed) → (write_then room text next go).status ≡ 0
    → write_then room text next go ≡ go (text ++ next)
unfolding write_then
went_on room text next go = by (leb (length text + length next) room)
  where
    by : (b : Bool) → (cond b (go (text ++ next)) (stops (refusal_number NoRoom) text)).status ≡ 0
        → cond b (go (text ++ next)) (stops (refusal_number NoRoom) text) ≡ go (text ++ next)
    by true e = refl
    by false e = absurd (omega arith)

-- a line that stops the replay does not end it with 0
stopped : (room : ℕ) (text next : List ℕ) (n : ℕ) → 1 ≤ n → (write_then room text next (stops n)).status ≡ 0 → ⊥
stopped room text next n h e = let f = ap (λ r. r.status) (went_on room text next (stops n) e) in omega arith

bytes_after : (xs ys : List ℕ) → Bytes (xs ++ ys) → Bytes ys
bytes_after [] ys b = b
bytes_after (x ∷ xs) ys (one_byte l b) = bytes_after xs ys b

-- what is left behind a record: bytes, and fewer
module _ (log : List ℕ) (c : Command) (rest : List ℕ) (bs : Bytes log) (e : read_record log ≡ some (c, rest)) where
  rest-bytes : Bytes rest
  rest-bytes = bytes_after (bytes_of c) rest (rw (read-exact log bs c rest e).0 at bs)

  rest-fewer : (k : ℕ) → length log ≤ suc k → length rest ≤ k
  rest-fewer k h = rest-short c rest k (rw (read-exact log bs c rest e).0 at h)

-- steps, each with its line
record Went (k : ℕ) (log : List ℕ) (s : Store) (text out : List ℕ) : Type 0 where
  steps : List Step
  read : commands_for k log ≡ map Asking steps
  fit : AllFit (map Asking steps)
  says : out ≡ text ++ written (spoken s steps)

none_left : (k : ℕ) (s : Store) (text : List ℕ) → Went k [] s text text
unfolding commands_for spoken
none_left zero s text = record { steps = []; read = refl; fit = tt; says = sym (append-nil text) ∙ ap (λ w. text ++ w) (sym written_none) }
none_left (suc k) s text = record { steps = []; read = rw none_read refl; fit = tt; says = sym (append-nil text) ∙ ap (λ w. text ++ w) (sym written_none) }

went : (room k : ℕ) (log : List ℕ) (s : Store) (text : List ℕ) → Bytes log → length log ≤ k → (replay_for room k log (some s) text).status ≡ 0
    → Went k log s text (replay_for room k log (some s) text).text
unfolding replay_for record_then commands_for spoken
went room zero [] s text bs h e = none_left zero s text
went room (suc k) [] s text bs h e = none_left (suc k) s text
went room zero (b ∷ log) s text bs h e = absurd (omega arith)
went room (suc k) (b ∷ log) s text bs h e = go (read_record (b ∷ log)) refl (λ rest s' w. went room k rest s' w) e
  where
    on : List ℕ → Store → List ℕ → Replayed
    on rest s' w = replay_for room k rest (some s') w

    go : (o : Option (Command × List ℕ)) → read_record (b ∷ log) ≡ o
        → ((rest : List ℕ) (s' : Store) (w : List ℕ) → Bytes rest → length rest ≤ k → (on rest s' w).status ≡ 0 → Went k rest s' w (on rest s' w).text)
        → (reads room text (some s) o on).status ≡ 0 → Went (suc k) (b ∷ log) s text (reads room text (some s) o on).text
    go none r ih e = absurd (stopped room text (line bad_word (refusal_number Malformed ∷ [])) 15 (omega arith) e)
    go (some (Opening z clock, rest)) r ih e = absurd (stopped room text (line bad_word (refusal_number Malformed ∷ [])) 15 (omega arith) e)
    go (some (Asking a, rest)) r ih e =
        let next = answer_line a (step s a).answer in
        let s' = (step s a).store in
        let on-is = went_on room text next (on rest s') e in
        let w = ih rest s' (text ++ next) (rest-bytes (b ∷ log) (Asking a) rest bs r) (rest-fewer (b ∷ log) (Asking a) rest bs r k h)
        (sym (ap (λ r. r.status) on-is) ∙ e) in
        record {
          steps = a ∷ w.steps;
          read = rw r (ap (λ cs. Asking a ∷ cs) w.read);
          fit = ((read-exact (b ∷ log) bs (Asking a) rest r).1, w.fit);
          says = ap (λ r. r.text) on-is
              ∙ (w.says ∙ (append_assoc text next (written (spoken s' w.steps)) ∙ ap (λ w. text ++ w) (sym (written-more next (spoken s' w.steps)))));
        }

-- a whole log
pub data Ended (log out : List ℕ) : Type 0 where
  empty : commands_in log ≡ [] → out ≡ [] → Ended log out
  ran : (z : Sizes) (clock : ℕ) (steps : List Step) → commands_in log ≡ Opening z clock ∷ map Asking steps → can_open z clock ≡ true
      → AllFit (Opening z clock ∷ map Asking steps) → out ≡ written (open_line ∷ spoken (fresh z clock) steps) → Ended log out

ended-from : (room : ℕ) (log : List ℕ) → Bytes log → (replay_for room (length log) log none []).status ≡ 0
    → Ended log (replay_for room (length log) log none []).text
unfolding replay_for record_then commands_for commands_in
ended-from room [] bs e = empty refl refl
ended-from room (b ∷ log) bs e = go (read_record (b ∷ log)) refl e
  where
    on : List ℕ → Store → List ℕ → Replayed
    on rest s w = replay_for room (length log) rest (some s) w

    go : (o : Option (Command × List ℕ)) → read_record (b ∷ log) ≡ o → (reads room [] none o on).status ≡ 0 → Ended (b ∷ log) (reads room [] none o on).text
    go none r e = absurd (stopped room [] (line bad_word (refusal_number Malformed ∷ [])) 15 (omega arith) e)
    go (some (Asking a, rest)) r e = absurd (stopped room [] (line bad_word (refusal_number Malformed ∷ [])) 15 (omega arith) e)
    go (some (Opening z clock, rest)) r e = opens (can_open z clock) refl e
      where
        opens : (t : Bool) → can_open z clock ≡ t
            → (cond t (write_then room [] open_line (on rest (fresh z clock)))
            (write_then room [] (line open_word (refusal_number WrongSize ∷ [])) (stops (refusal_number WrongSize)))).status ≡ 0
            → Ended (b ∷ log) (cond t (write_then room [] open_line (on rest (fresh z clock)))
            (write_then room [] (line open_word (refusal_number WrongSize ∷ [])) (stops (refusal_number WrongSize)))).text
        opens true o e =
            let s = fresh z clock in
            let on-is = went_on room [] open_line (on rest s) e in
            let w = went room (length log) rest s open_line (rest-bytes (b ∷ log) (Opening z clock) rest bs r)
            (rest-fewer (b ∷ log) (Opening z clock) rest bs r (length log) (omega arith)) (sym (ap (λ r. r.status) on-is) ∙ e) in
            ran z clock w.steps (rw r (ap (λ cs. Opening z clock ∷ cs) w.read)) o ((read-exact (b ∷ log) bs (Opening z clock) rest r).1, w.fit)
            (ap (λ r. r.text) on-is ∙ (w.says ∙ sym (written-more open_line (spoken s w.steps))))
        opens false o e = absurd (stopped room [] (line open_word (refusal_number WrongSize ∷ [])) 1 (omega arith) e)

pub ended : (log : List ℕ) → Bytes log → (room : ℕ) → (replay log room).status ≡ 0 → Ended log (replay log room).text
unfolding replay replay_from
ended log bs room e = ended-from (min room most_room) log bs e
