-- The model's replay, one record at a time: how many more records it may read makes no difference.
-- Assumes nothing.
use borrow.Author.Tests.{le-leb, lt-leb}
use Prim.Native.Nat.{ℕ, zero, suc, ◌+◌, ◌<◌, ◌≤◌}
use mathlib.Core.Path.{◌≡◌, refl, sym, ap, ◌∙◌}
use mathlib.Core.Bool.{Bool, true, false, cond}
use mathlib.Core.Option.{Option, none, some}
use mathlib.Core.List.{List, [], ◌∷◌, ◌++◌}
use native.Mathlib.Omega.{arith}
use lib.Dec.{leb}
use lib.ListN.{length, drop, length-append, length-drop, drop_of_length-le}
use Rattle.model.specs.Store.{Store, fresh}
use Rattle.model.specs.Refusals.{WrongSize, NoRoom, Malformed, refusal_number}
use Rattle.model.specs.Machine.{step, can_open}
use Rattle.model.specs.Log.{Command, Opening, Asking, length_in, whole, read_record}
use Rattle.model.specs.Report.{open_word, bad_word, line, answer_line}
use Rattle.model.specs.Replay.{Replayed, stops, write_then, obeys, reads, record_then, replay_for, replay_from}
use Rattle.log_records.proofs.Reading.{whole-facts, read_whole, read_none}

-- a record that is read leaves less of the log
less_by : (l : List ℕ) (b : Bool) → whole l ≡ b → (c : Command × List ℕ) → read_record l ≡ some c → length c.1 < length l
less_by l true e c r =
    let f = whole-facts l e in
    let q : c.1 ≡ drop (2 + length_in l) l = cc (r, read_whole l e) in
    rw (q, length-drop (2 + length_in l) l) (omega (arith, f.0))
less_by l false e c r = let z : ◌≡◌ {A = Option (Command × List ℕ)} none (some c) = sym (read_none l e) ∙ r in let n : ◌≡◌ {A = ℕ} 0 1 = cc in
    absurd (omega arith)

read-less : (l : List ℕ) (c : Command × List ℕ) → read_record l ≡ some c → length c.1 < length l
read-less l c r = less_by l (whole l) refl c r

-- what is done with a record depends only on what is done on a shorter log
module _ (room : ℕ) (text : List ℕ) where
  write-agrees : (next : List ℕ) (f g : List ℕ → Replayed) → ((w : List ℕ) → f w ≡ g w) → write_then room text next f ≡ write_then room text next g
  unfolding write_then
  write-agrees next f g e = rw (e (text ++ next))

  obeys-agrees : (so : Option Store) (c : Command) (f g : Store → List ℕ → Replayed) → ((s : Store) (w : List ℕ) → f s w ≡ g s w)
      → obeys room text so c f ≡ obeys room text so c g
  obeys-agrees none (Opening z clock) f g e =
      ap (λ (x : Replayed). cond (can_open z clock) x
      (write_then room text (line open_word (refusal_number WrongSize ∷ [])) (stops (refusal_number WrongSize))))
      (write-agrees (line open_word (0 ∷ [])) (f (fresh z clock)) (g (fresh z clock)) (e (fresh z clock)))
  obeys-agrees none (Asking a) f g e = refl
  obeys-agrees (some s) (Opening z clock) f g e = refl
  obeys-agrees (some s) (Asking a) f g e = write-agrees (answer_line a (step s a).answer) (f (step s a).store) (g (step s a).store) (e (step s a).store)

  reads-agrees : (so : Option Store) (r : Option (Command × List ℕ)) (n : ℕ) → ((c : Command × List ℕ) → r ≡ some c → length c.1 < n)
      → (f g : List ℕ → Store → List ℕ → Replayed) → ((more : List ℕ) (s : Store) (w : List ℕ) → length more < n → f more s w ≡ g more s w)
      → reads room text so r f ≡ reads room text so r g
  reads-agrees so none n h f g e = refl
  reads-agrees so (some c) n h f g e = obeys-agrees so c.0 (f c.1) (g c.1) (λ s w. e c.1 s w (h c refl))

  record-agrees : (f g : List ℕ → Store → List ℕ → Replayed) (log : List ℕ) (so : Option Store)
      → ((more : List ℕ) (s : Store) (w : List ℕ) → length more < length log → f more s w ≡ g more s w)
      → record_then room f log so text ≡ record_then room g log so text
  unfolding record_then
  record-agrees f g [] so e = refl
  record-agrees f g (b ∷ bs) so e = reads-agrees so (read_record (b ∷ bs)) (length (b ∷ bs)) (read-less (b ∷ bs)) f g e

module _ (room : ℕ) where
  enough : (k j : ℕ) (log : List ℕ) (so : Option Store) (text : List ℕ) → length log ≤ k → length log ≤ j
      → replay_for room k log so text ≡ replay_for room j log so text
  unfolding replay_for
  enough zero zero log so text h i = refl
  enough zero (suc j) log so text h i =
      record-agrees room text (λ more s w. stops 0 w) (λ more s w. replay_for room j more (some s) w) log so (λ more s w l. absurd (omega arith))
  enough (suc k) zero log so text h i =
      record-agrees room text (λ more s w. replay_for room k more (some s) w) (λ more s w. stops 0 w) log so (λ more s w l. absurd (omega arith))
  enough (suc k) (suc j) log so text h i =
      record-agrees room text (λ more s w. replay_for room k more (some s) w) (λ more s w. replay_for room j more (some s) w) log so
      (λ more s w l. enough k j more (some s) w (omega arith) (omega arith))

  -- what is done on the rest of the log
  abbrev pub onward : List ℕ → Store → List ℕ → Replayed
  onward more s written = replay_from room more (some s) written

  record-by : (k : ℕ) (log : List ℕ) (so : Option Store) (text : List ℕ) → length log ≡ k → replay_for room k log so text ≡ record_then room onward log so text
  unfolding replay_for replay_from
  record-by zero log so text h = record-agrees room text (λ more s w. stops 0 w) onward log so (λ more s w l. absurd (omega arith))
  record-by (suc k) log so text h =
      record-agrees room text (λ more s w. replay_for room k more (some s) w) onward log so
      (λ more s w l. enough k (length more) more (some s) w (omega arith) (omega arith))

  pub replay-record : (log : List ℕ) (so : Option Store) (text : List ℕ) → replay_from room log so text ≡ record_then room onward log so text
  unfolding replay_from
  replay-record log so text = record-by (length log) log so text refl

  -- the log is at its end, or the next record decides
  pub replay-ends : (log : List ℕ) (at : ℕ) (so : Option Store) (text : List ℕ) → length log ≤ at → replay_from room (drop at log) so text ≡ stops 0 text
  unfolding record_then
  replay-ends log at so text h = replay-record (drop at log) so text ∙ rw (drop_of_length-le log h)

  record-reads : (l : List ℕ) (so : Option Store) (text : List ℕ) → 0 < length l → record_then room onward l so text ≡ reads room text so (read_record l) onward
  unfolding record_then
  record-reads [] so text h = absurd (omega arith)
  record-reads (b ∷ bs) so text h = refl

  pub replay-reads : (log : List ℕ) (at : ℕ) (so : Option Store) (text : List ℕ) (r : Option (Command × List ℕ)) → at < length log
      → read_record (drop at log) ≡ r
      → replay_from room (drop at log) so text ≡ reads room text so r onward
  replay-reads log at so text r h e =
      let n : 0 < length (drop at log) = rw (length-drop at log) (omega arith) in
      replay-record (drop at log) so text ∙ record-reads (drop at log) so text n ∙ rw e

-- a line that fits, and one that does not
module _ (room : ℕ) (text next : List ℕ) (go : List ℕ → Replayed) where
  pub goes_on : length text + length next ≤ room → write_then room text next go ≡ go (text ++ next)
  unfolding write_then
  goes_on h = rw (le-leb (length text + length next) room h)

  pub goes-full : room < length text + length next → write_then room text next go ≡ stops (refusal_number NoRoom) text
  unfolding write_then
  goes-full h = rw (lt-leb (length text + length next) room h)

-- a text that stands is never taken back
module _ (room : ℕ) (text : List ℕ) where
  write-grows : (next : List ℕ) (go : List ℕ → Replayed) → ((w : List ℕ) → length w ≤ length (go w).text)
      → length text ≤ length (write_then room text next go).text
  unfolding write_then
  write-grows next go h = by (leb (length text + length next) room)
    where
      by : (b : Bool) → length text ≤ length (cond b (go (text ++ next)) (stops (refusal_number NoRoom) text)).text
      by true = let l = h (text ++ next) in let e = length-append text next in omega (arith, l, e)
      by false = omega arith

  obeys-grows : (so : Option Store) (c : Command) (on : Store → List ℕ → Replayed) → ((s : Store) (w : List ℕ) → length w ≤ length (on s w).text)
      → length text ≤ length (obeys room text so c on).text
  obeys-grows none (Opening z clock) on h = by (can_open z clock)
    where
      by : (b : Bool) → length text ≤ length
          (cond b (write_then room text (line open_word (0 ∷ [])) (on (fresh z clock)))
          (write_then room text (line open_word (refusal_number WrongSize ∷ [])) (stops (refusal_number WrongSize)))).text
      by true = write-grows (line open_word (0 ∷ [])) (on (fresh z clock)) (h (fresh z clock))
      by false = write-grows (line open_word (refusal_number WrongSize ∷ [])) (stops (refusal_number WrongSize)) (λ w. omega arith)
  obeys-grows none (Asking a) on h = write-grows (line bad_word (refusal_number Malformed ∷ [])) (stops (refusal_number Malformed)) (λ w. omega arith)
  obeys-grows (some s) (Opening z clock) on h =
      write-grows (line bad_word (refusal_number Malformed ∷ [])) (stops (refusal_number Malformed)) (λ w. omega arith)
  obeys-grows (some s) (Asking a) on h = write-grows (answer_line a (step s a).answer) (on (step s a).store) (h (step s a).store)

  reads-grows : (so : Option Store) (r : Option (Command × List ℕ)) (on : List ℕ → Store → List ℕ → Replayed)
      → ((more : List ℕ) (s : Store) (w : List ℕ) → length w ≤ length (on more s w).text)
      → length text ≤ length (reads room text so r on).text
  reads-grows so none on h = write-grows (line bad_word (refusal_number Malformed ∷ [])) (stops (refusal_number Malformed)) (λ w. omega arith)
  reads-grows so (some c) on h = obeys-grows so c.0 (on c.1) (h c.1)

  record-grows : (on : List ℕ → Store → List ℕ → Replayed) → ((more : List ℕ) (s : Store) (w : List ℕ) → length w ≤ length (on more s w).text)
      → (log : List ℕ) (so : Option Store)
      → length text ≤ length (record_then room on log so text).text
  unfolding record_then
  record-grows on h [] so = omega arith
  record-grows on h (b ∷ bs) so = reads-grows so (read_record (b ∷ bs)) on h

for-grows : (room k : ℕ) (log : List ℕ) (so : Option Store) (text : List ℕ) → length text ≤ length (replay_for room k log so text).text
unfolding replay_for
for-grows room zero log so text = record-grows room text (λ more s w. stops 0 w) (λ more s w. omega arith) log so
for-grows room (suc k) log so text =
    record-grows room text (λ more s w. replay_for room k more (some s) w) (λ more s w. for-grows room k more (some s) w) log so

pub replay-grows : (room : ℕ) (log : List ℕ) (so : Option Store) (text : List ℕ) → length text ≤ length (replay_from room log so text).text
unfolding replay_from
replay-grows room log so text = for-grows room (length log) log so text
