-- Records laid one after another: they are read back, and their replay with room enough ends with 0. Assumes nothing.
use mathlib.Core.Path.{◌≡◌, refl, sym, ap, ◌∙◌}
use mathlib.Core.Bool.{true}
use mathlib.Core.Option.{Option, none, some}
use mathlib.Core.List.{List, [], ◌∷◌, ◌++◌, map, append_assoc, append-nil}
use Prim.Native.Nat.{ℕ, zero, suc, ◌+◌, ◌≤◌}
use native.Mathlib.Omega.{arith}
use lib.ListN.{length, length-append}
use borrow.Author.Tests.{le-leb}
use Rattle.base_lists.specs.Lists.{join}
use Rattle.model.specs.Store.{Sizes, Store, fresh}
use Rattle.model.specs.Refusals.{Step}
use Rattle.model.specs.Machine.{step, can_open}
use Rattle.model.specs.Log.{Command, Opening, Asking, whole, read_record}
use Rattle.model.specs.Report.{answer_line}
use Rattle.model.specs.Replay.{Replayed, stops, write_then, reads, record_then, replay_for}
use Rattle.log_records.specs.Layout.{in_bytes, laid_out, kind_of, fields_in, framed, bytes_of, Fit}
use Rattle.log_records.proofs.Exact.{in-long, command-read}
use Rattle.log_in_turn.specs.Told.{commands_for}
use Rattle.log_in_turn.proofs.Spoken.{spoken, written, open_line, written-more, written_none}

-- every number fits its field, in every record
abbrev pub AllFit : List Command → Type 0
AllFit [] = Unit {0}
AllFit (c ∷ cs) = Fit (fields_in c) × AllFit cs

-- a record has a byte at least
record-long : (c : Command) → 1 ≤ length (bytes_of c)
unfolding bytes_of framed
record-long c =
    let size = 2 + length (laid_out (fields_in c)) in
    omega (
      arith,
      length-append (in_bytes 2 size ++ in_bytes 2 (kind_of c)) (laid_out (fields_in c)),
      length-append (in_bytes 2 size) (in_bytes 2 (kind_of c)),
      in-long 2 size,
    )

-- so what is left of the log is shorter
pub rest-short : (c : Command) (rest : List ℕ) (k : ℕ) → length (bytes_of c ++ rest) ≤ suc k → length rest ≤ k
rest-short c rest k h = omega (arith, record-long c, length-append (bytes_of c) rest)

pub none_read : read_record [] ≡ none
unfolding read_record whole
none_read = refl

pub laid-read : (k : ℕ) (cs : List Command) → AllFit cs → length (join bytes_of cs) ≤ k → commands_for k (join bytes_of cs) ≡ cs
unfolding commands_for join
laid-read zero [] f h = refl
laid-read (suc k) [] f h = rw none_read refl
laid-read zero (c ∷ cs) f h = absurd (omega (arith, record-long c, length-append (bytes_of c) (join bytes_of cs)))
laid-read (suc k) (c ∷ cs) f h = rw (command-read c (join bytes_of cs) f.0) (ap (λ ds. c ∷ ds) (laid-read k cs f.1 (rest-short c (join bytes_of cs) k h)))

-- a record at the front decides the recordThen
turn-reads : (room : ℕ) (on : List ℕ → Store → List ℕ → Replayed) (log : List ℕ) (so : Option Store) (text : List ℕ) → 1 ≤ length log
    → record_then room on log so text ≡ reads room text so (read_record log) on
unfolding record_then
turn-reads room on [] so text h = absurd (omega arith)
turn-reads room on (b ∷ bs) so text h = refl

turn-command : (room : ℕ) (on : List ℕ → Store → List ℕ → Replayed) (c : Command) (rest : List ℕ) (so : Option Store) (text : List ℕ) → Fit (fields_in c)
    → record_then room on (bytes_of c ++ rest) so text ≡ reads room text so (some (c, rest)) on
turn-command room on c rest so text f =
    turn-reads room on (bytes_of c ++ rest) so text (omega (arith, record-long c, length-append (bytes_of c) rest))
    ∙ ap (λ r. reads room text so r on) (command-read c rest f)

-- a line that fits is written
fits_on : (room : ℕ) (text next : List ℕ) (go : List ℕ → Replayed) → length text + length next ≤ room → write_then room text next go ≡ go (text ++ next)
unfolding write_then
fits_on room text next go h = rw (le-leb (length text + length next) room h) refl

steps-replay : (room k : ℕ) (s : Store) (text : List ℕ) (steps : List Step) → AllFit (map Asking steps) → length (join bytes_of (map Asking steps)) ≤ k
    → length text + length (written (spoken s steps)) ≤ room
    → replay_for room k (join bytes_of (map Asking steps)) (some s) text ≡ stops 0 (text ++ written (spoken s steps))
unfolding replay_for record_then join spoken
steps-replay room zero s text [] f h l = ap (stops 0) (sym (append-nil text) ∙ ap (λ w. text ++ w) (sym written_none))
steps-replay room (suc k) s text [] f h l = ap (stops 0) (sym (append-nil text) ∙ ap (λ w. text ++ w) (sym written_none))
steps-replay room zero s text (a ∷ more) f h l =
    absurd (omega (arith, record-long (Asking a), length-append (bytes_of (Asking a)) (join bytes_of (map Asking more))))
steps-replay room (suc k) s text (a ∷ more) f h l =
    let next = answer_line a (step s a).answer in
    let s' = (step s a).store in
    let rest = join bytes_of (map Asking more) in
    let long = ap length (written-more next (spoken s' more)) ∙ length-append next (written (spoken s' more)) in
    turn-command room (λ left s written. replay_for room k left (some s) written) (Asking a) rest (some s) text f.0
    ∙ (fits_on room text next (λ w. replay_for room k rest (some s') w) (omega (arith, long))
    ∙ (steps-replay room k s' (text ++ next) more f.1 (rest-short (Asking a) rest k h) (omega (arith, long, length-append text next))
    ∙ ap (stops 0) (append_assoc text next (written (spoken s' more)) ∙ ap (λ w. text ++ w) (sym (written-more next (spoken s' more))))))

-- an open that is not refused, and steps
pub laid-replay : (room k : ℕ) (z : Sizes) (clock : ℕ) (steps : List Step) → can_open z clock ≡ true → AllFit (Opening z clock ∷ map Asking steps)
    → length (join bytes_of (Opening z clock ∷ map Asking steps)) ≤ k → length (written (open_line ∷ spoken (fresh z clock) steps)) ≤ room
    → replay_for room k (join bytes_of (Opening z clock ∷ map Asking steps)) none [] ≡ stops 0 (written (open_line ∷ spoken (fresh z clock) steps))
unfolding replay_for join
laid-replay room zero z clock steps o f h l =
    absurd (omega (arith, record-long (Opening z clock), length-append (bytes_of (Opening z clock)) (join bytes_of (map Asking steps))))
laid-replay room (suc k) z clock steps o f h l =
    let s = fresh z clock in
    let rest = join bytes_of (map Asking steps) in
    let long = ap length (written-more open_line (spoken s steps)) ∙ length-append open_line (written (spoken s steps)) in
    turn-command room (λ left s written. replay_for room k left (some s) written) (Opening z clock) rest none [] f.0
    ∙ (rw o (fits_on room [] open_line (λ w. replay_for room k rest (some s) w) (omega (arith, long)))
    ∙ (steps-replay room k s open_line steps f.1 (rest-short (Opening z clock) rest k h) (omega (arith, long))
    ∙ ap (stops 0) (sym (written-more open_line (spoken s steps)))))
