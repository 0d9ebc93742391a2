-- The log that runs in turn what another log ran: it is read back, replayed to its end, and told step for step. Assumes nothing.
use mathlib.Core.Path.{◌≡◌, refl, sym, ap, ◌∙◌}
use mathlib.Core.Bool.{Bool, true, false, cond, ◌&&◌}
use mathlib.Core.List.{List, [], ◌∷◌, map, zip, flat_map}
use Prim.Native.Nat.{ℕ, ◌≤◌, min}
use native.Mathlib.Omega.{arith}
use lib.Dec.{eqb}
use lib.ListN.{length, length-map}
use Rattle.base_lists.specs.Lists.{all_of, join}
use Rattle.model.specs.Store.{Sizes, Store, fresh}
use Rattle.model.specs.Refusals.{Step}
use Rattle.model.specs.Machine.{step, can_open}
use Rattle.model.specs.Given.{number}
use Rattle.model.specs.Log.{Command, Opening, Asking}
use Rattle.model.specs.Report.{digits_step, digits_for, decimal, spaced, line}
use Rattle.model.specs.Replay.{stops, record_then, replay_for, replay_from, most_room, replay}
use Rattle.log_records.specs.Layout.{bytes_of, Bytes}
use Rattle.model_in_turn.specs.Done.{Entry, entry_of, entries}
use Rattle.model_in_turn.specs.InTurn.{one_by_one, turn_of}
use Rattle.model_in_turn.proofs.Promises.{one-after-another}
use Rattle.log_in_turn.specs.Told.{commands_for, commands_in, lines_in, told, says_done, ends_told, reads_where, reads_told, reads_in_turn}
use Rattle.log_in_turn.specs.LogInTurn.{asked_in, commands_in_turn, log_in_turn, ReplayedInTurn}
use Rattle.log_in_turn.proofs.Lines.{says-number}
use Rattle.log_in_turn.proofs.Spoken.{spoken, written, said, open_line, each-told, told_is}
use Rattle.log_in_turn.proofs.Laid.{AllFit, laid-read, laid-replay}
use Rattle.log_in_turn.proofs.Ended.{Ended, empty, ran, ended}
use Rattle.log_in_turn.proofs.Fitting.{turn-fit}
use Rattle.log_in_turn.proofs.Readings.{same-said}

-- a record whose line says 0
abbrev done : Command × List ℕ → Bool
done q = says_done q.0 q.1

few-entries : (s : Store) (steps : List Step) → length (entries s steps) ≤ length steps
unfolding entries
few-entries s [] = omega arith
few-entries s (a ∷ more) = go (eqb (number s a) 0) (few-entries (step s a).store more)
  where
    go : (b : Bool) → length (entries (step s a).store more) ≤ length more
        → length (cond b (entry_of s a ∷ entries (step s a).store more) (entries (step s a).store more)) ≤ length (a ∷ more)
    go true h = omega arith
    go false h = omega arith

-- where as many steps are accepted as there are, every line says so
all_said : (s : Store) (steps : List Step) → length steps ≤ length (entries s steps) → all_of done (said s steps) ≡ true
unfolding entries said all_of
all_said s [] h = refl
all_said s (a ∷ more) h = rw (says-number a (step s a).answer) (go (eqb (number s a) 0) (all_said (step s a).store more) h)
  where
    go : (b : Bool) → (length more ≤ length (entries (step s a).store more) → all_of done (said (step s a).store more) ≡ true)
        → length (a ∷ more) ≤ length (cond b (entry_of s a ∷ entries (step s a).store more) (entries (step s a).store more))
        → b && all_of done (said (step s a).store more) ≡ true
    go true later h = later (omega arith)
    go false later h = absurd (omega (arith, few-entries (step s a).store more))

turn-accepted : (z : Sizes) (clock : ℕ) (steps : List Step) → all_of done (said (fresh z clock) (turn_of (fresh z clock) steps)) ≡ true
turn-accepted z clock steps =
    let s = fresh z clock in
    all_said s (turn_of s steps)
    (omega (arith, length-map (one_by_one s.clock (entries s steps)) (λ (e : Entry). e.what), ap length (one-after-another z clock steps).same_reads))

-- the open's line says 0, and is neither an end nor a read
module _ (z : Sizes) (clock : ℕ) where
  abbrev opened : Command × List ℕ
  opened = (Opening z clock, open_line)

  open_done : says_done (Opening z clock) open_line ≡ true
  unfolding says_done line spaced decimal digits_for digits_step
  open_done = refl

  open-all : (qs : List (Command × List ℕ)) → all_of done qs ≡ true → all_of done (opened ∷ qs) ≡ true
  unfolding all_of
  open-all qs h = rw open_done h

  open-reads : (test : ℕ → Bool) (qs : List (Command × List ℕ)) → reads_where test (opened ∷ qs) ≡ reads_where test qs
  unfolding reads_where
  open-reads test qs = refl

  open-ends : (qs : List (Command × List ℕ)) → ends_told (opened ∷ qs) ≡ ends_told qs
  unfolding ends_told
  open-ends qs = rw open_done refl

  open_turn : (qs : List (Command × List ℕ)) → reads_in_turn (opened ∷ qs) ≡ reads_in_turn qs
  unfolding reads_where
  open_turn qs = ap (flat_map (λ t. reads_where (λ n. eqb n t) qs)) (open-ends qs)

asked-again : (steps : List Step) → asked_in (map Asking steps) ≡ steps
unfolding asked_in
asked-again [] = refl
asked-again (a ∷ more) = ap (λ l. a ∷ l) (asked-again more)

-- a log of an open and steps
module _ (log : List ℕ) (z : Sizes) (clock : ℕ) (steps : List Step) (read : commands_in log ≡ Opening z clock ∷ map Asking steps)
    (o : can_open z clock ≡ true) (f : AllFit (Opening z clock ∷ map Asking steps)) where
  abbrev taken : List Step
  taken = turn_of (fresh z clock) steps

  turn_is : commands_in_turn (commands_in log) ≡ Opening z clock ∷ map Asking taken
  unfolding commands_in_turn
  turn_is = rw (read, asked-again steps) refl

  log_is : log_in_turn log ≡ join bytes_of (Opening z clock ∷ map Asking taken)
  unfolding log_in_turn
  log_is = ap (join bytes_of) turn_is

  fits : AllFit (Opening z clock ∷ map Asking taken)
  fits = (f.0, turn-fit z clock steps o f)

  read_back : commands_in (log_in_turn log) ≡ Opening z clock ∷ map Asking taken
  unfolding commands_in
  read_back = rw log_is (laid-read (length (join bytes_of (Opening z clock ∷ map Asking taken))) (Opening z clock ∷ map Asking taken) fits (omega arith))

  abbrev report-is : List ℕ
  report-is = written (open_line ∷ spoken (fresh z clock) taken)

  replays : (more : ℕ) → length report-is ≤ min more most_room → replay (log_in_turn log) more ≡ stops 0 report-is
  unfolding replay replay_from
  replays more l =
      rw log_is (laid-replay (min more most_room) (length (join bytes_of (Opening z clock ∷ map Asking taken))) z clock taken o fits (omega arith) l)

  turned : (room : ℕ) → (replay log room).text ≡ written (open_line ∷ spoken (fresh z clock) steps) → ReplayedInTurn log room
  turned room says =
      let text = (replay log room).text in
      let turn-told : told (log_in_turn log) report-is ≡ opened z clock ∷ said (fresh z clock) taken =
      told_is (log_in_turn log) report-is z clock taken read_back refl in
      let log-told : told log text ≡ opened z clock ∷ said (fresh z clock) steps = told_is log text z clock steps read says in
      record {
        report = report-is;
        ends-well = replays;
        all_told = each-told (log_in_turn log) report-is z clock taken read_back refl;
        all_done = ap (all_of done) turn-told ∙ open-all z clock (said (fresh z clock) taken) (turn-accepted z clock steps);
        run-told = each-told log text z clock steps read says;
        same_reads = ap reads_told turn-told
            ∙ (open-reads z clock (λ n. true) (said (fresh z clock) taken)
            ∙ (same-said z clock steps ∙ sym (ap reads_in_turn log-told ∙ open_turn z clock (said (fresh z clock) steps))));
      }

-- the empty log
module _ (log : List ℕ) (read : commands_in log ≡ []) where
  none-laid : log_in_turn log ≡ []
  unfolding log_in_turn commands_in_turn join
  none-laid = rw read refl

  none-turned : (room : ℕ) → (replay log room).text ≡ [] → ReplayedInTurn log room
  unfolding commands_for commands_in lines_in told zip all_of reads_where ends_told flat_map record_then replay_for replay_from replay
  none-turned room says = record {
    report = [];
    ends-well = λ more l. rw none-laid refl;
    all_told = rw none-laid refl;
    all_done = rw none-laid refl;
    run-told = rw (says, read) refl;
    same_reads = rw (none-laid, says, read) refl;
  }

pub in-turn : (log : List ℕ) → Bytes log → (room : ℕ) → (replay log room).status ≡ 0 → ReplayedInTurn log room
in-turn log bs room e = go (ended log bs room e)
  where
    go : Ended log (replay log room).text → ReplayedInTurn log room
    go (empty read says) = none-turned log read room says
    go (ran z clock steps read o f says) = turned log z clock steps read o f room says

pub turn-read : (log : List ℕ) → Bytes log → (room : ℕ) → (replay log room).status ≡ 0 → commands_in (log_in_turn log) ≡ commands_in_turn (commands_in log)
unfolding commands_in_turn commands_in commands_for
turn-read log bs room e = go (ended log bs room e)
  where
    go : Ended log (replay log room).text → commands_in (log_in_turn log) ≡ commands_in_turn (commands_in log)
    go (empty read says) = rw (none-laid log read, read) refl
    go (ran z clock steps read o f says) = read_back log z clock steps read o f ∙ sym (turn_is log z clock steps read o f)
