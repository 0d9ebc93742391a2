-- Whole logs spelled out byte by byte, and what their replay is: each status, each way to stop, a line that just fits and one that does not, the greatest room.
-- Assumes nothing.
use Prim.Native.Nat.{ℕ, ◌≤◌, min}
use mathlib.Core.Path.{◌≡◌, refl}
use mathlib.Core.List.{List, [], ◌∷◌, ◌++◌}
use native.Mathlib.Omega.{arith}
use Rattle.model.specs.Log.{number, widths, total, fields, command_of, whole, read_record}
use Rattle.model.specs.Report.{bytes, digits_step, digits_for, decimal, spaced, line}
use Rattle.model.specs.Replay.{write_then, record_then, replay_for, replay_from, replay, packed, reported}
use Rattle.model.proofs.Computes as model

-- opens every definition that a replay goes through, so that a log of numerals computes
unfoldable computes : Unit {0}
unfolding model.computes number widths total fields command_of whole read_record digits_step digits_for decimal spaced line write_then record_then
    replay_for replay_from
    replay
computes = tt

-- open 4 8 4 1, and opens with a size or a clock out of range
abbrev opens : List ℕ
opens = 22 ∷ 0 ∷ 1 ∷ 0 ∷ 4 ∷ 0 ∷ 0 ∷ 0 ∷ 8 ∷ 0 ∷ 0 ∷ 0 ∷ 4 ∷ 0 ∷ 0 ∷ 0 ∷ 1 ∷ 0 ∷ 0 ∷ 0 ∷ 0 ∷ 0 ∷ 0 ∷ 0 ∷ []

abbrev opens_no_rows : List ℕ
opens_no_rows = 22 ∷ 0 ∷ 1 ∷ 0 ∷ 0 ∷ 0 ∷ 0 ∷ 0 ∷ 8 ∷ 0 ∷ 0 ∷ 0 ∷ 4 ∷ 0 ∷ 0 ∷ 0 ∷ 1 ∷ 0 ∷ 0 ∷ 0 ∷ 0 ∷ 0 ∷ 0 ∷ 0 ∷ []

abbrev opens_many_rows : List ℕ
opens_many_rows = 22 ∷ 0 ∷ 1 ∷ 0 ∷ 1 ∷ 4 ∷ 0 ∷ 0 ∷ 8 ∷ 0 ∷ 0 ∷ 0 ∷ 4 ∷ 0 ∷ 0 ∷ 0 ∷ 1 ∷ 0 ∷ 0 ∷ 0 ∷ 0 ∷ 0 ∷ 0 ∷ 0 ∷ []

abbrev opens_no_clock : List ℕ
opens_no_clock = 22 ∷ 0 ∷ 1 ∷ 0 ∷ 4 ∷ 0 ∷ 0 ∷ 0 ∷ 8 ∷ 0 ∷ 0 ∷ 0 ∷ 4 ∷ 0 ∷ 0 ∷ 0 ∷ 0 ∷ 0 ∷ 0 ∷ 0 ∷ 0 ∷ 0 ∷ 0 ∷ 0 ∷ []

-- begin, and a record of an unknown kind
abbrev begins : List ℕ
begins = 2 ∷ 0 ∷ 2 ∷ 0 ∷ []

abbrev unknown : List ℕ
unknown = 2 ∷ 0 ∷ 14 ∷ 0 ∷ []

-- an empty log writes nothing, whatever the room
pub stops-empty : (room : ℕ) → replay [] room ≡ record { status = 0; text = [] }
unfolding computes
stops-empty room = refl

-- 0 at the end of a log: `open 0`, `begin 0 1`
pub stops-at-end : replay (opens ++ begins) 100 ≡ record { status = 0; text = bytes "open 0\nbegin 0 1\n" }
unfolding computes
stops-at-end = refl

-- 1 for a refused open, and what is behind it is not read: `open 1`
pub stops-no-rows : replay (opens_no_rows ++ begins) 100 ≡ record { status = 1; text = bytes "open 1\n" }
unfolding computes
stops-no-rows = refl

-- rows above 1,024
pub stops-many-rows : replay (opens_many_rows ++ begins) 100 ≡ record { status = 1; text = bytes "open 1\n" }
unfolding computes
stops-many-rows = refl

-- clock 0
pub stops-no-clock : replay (opens_no_clock ++ begins) 100 ≡ record { status = 1; text = bytes "open 1\n" }
unfolding computes
stops-no-clock = refl

-- 15 for a malformed record; earlier lines stand: `open 0`, `bad 15`
pub stops-malformed : replay (opens ++ unknown ++ begins) 100 ≡ record { status = 15; text = bytes "open 0\nbad 15\n" }
unfolding computes
stops-malformed = refl

-- a second open
pub stops-second-open : replay (opens ++ opens) 100 ≡ record { status = 15; text = bytes "open 0\nbad 15\n" }
unfolding computes
stops-second-open = refl

-- a second open whose sizes are out of range is a second open all the same
pub stops-second-refused : replay (opens ++ opens_no_rows) 100 ≡ record { status = 15; text = bytes "open 0\nbad 15\n" }
unfolding computes
stops-second-refused = refl

-- a first record that is no open: `bad 15`
pub stops-unopened : replay (begins ++ opens) 100 ≡ record { status = 15; text = bytes "bad 15\n" }
unfolding computes
stops-unopened = refl

-- a first record that is malformed
pub stops-no-record : replay (unknown ++ opens) 100 ≡ record { status = 15; text = bytes "bad 15\n" }
unfolding computes
stops-no-record = refl

-- an open that is cut
pub stops-cut : replay (22 ∷ 0 ∷ 1 ∷ []) 100 ≡ record { status = 15; text = bytes "bad 15\n" }
unfolding computes
stops-cut = refl

-- a last line that just fits
pub fits-just : replay (opens ++ begins) 17 ≡ record { status = 0; text = bytes "open 0\nbegin 0 1\n" }
unfolding computes
fits-just = refl

-- 10 for a line that does not fit by a byte: it is not begun
pub fits_not : replay (opens ++ begins) 16 ≡ record { status = 10; text = bytes "open 0\n" }
unfolding computes
fits_not = refl

-- the same of `open 0`
pub fits-no-open : replay (opens ++ begins) 6 ≡ record { status = 10; text = [] }
unfolding computes
fits-no-open = refl

-- of `open 1`: 10, and not 1
pub fits-no-refused : replay (opens_no_rows) 6 ≡ record { status = 10; text = [] }
unfolding computes
fits-no-refused = refl

-- `bad 15` that just fits
pub fits-bad : replay (unknown) 7 ≡ record { status = 15; text = bytes "bad 15\n" }
unfolding computes
fits-bad = refl

-- of `bad 15`: 10, and not 15
pub fits-no-bad : replay (unknown) 6 ≡ record { status = 10; text = [] }
unfolding computes
fits-no-bad = refl

-- `bad 15` that does not fit behind a line
pub fits-no-bad-later : replay (opens ++ unknown) 13 ≡ record { status = 10; text = bytes "open 0\n" }
unfolding computes
fits-no-bad-later = refl

-- the number that the host gets: 15 × 4,294,967,296 + 7, and 10 × 4,294,967,296 + 0
pub tells-bad : packed (replay unknown 12) ≡ 64424509447
unfolding computes
tells-bad = refl

pub tells-full : packed (replay unknown 6) ≡ 42949672960
unfolding computes
tells-full = refl

-- bytes behind the last line keep their contents
pub leaves-the-rest : reported (replay unknown 12)
    (201 ∷ 202 ∷ 203 ∷ 204 ∷ 205 ∷ 206 ∷ 207 ∷ 208 ∷ 209 ∷ 210 ∷ 211 ∷ 212 ∷ []) ≡ 98 ∷ 97 ∷ 100 ∷ 32 ∷ 49 ∷ 53 ∷ 10 ∷ 208 ∷ 209 ∷ 210 ∷ 211 ∷ 212 ∷ []
unfolding computes
leaves-the-rest = refl

-- room from 4,294,967,295 bytes on is all the same
pub greatest-room : (log : List ℕ) (room : ℕ) → 4294967295 ≤ room → replay log room ≡ replay log 4294967295
unfolding replay
greatest-room log room h = let e : min room 4294967295 ≡ 4294967295 = omega (arith, h) in rw e
