-- `report::write_line` meets its contract.
-- Assumes nothing.
use Rattle.std.proofs.Common.{◌≡◌, [], ◌∷◌, ◌+◌, ◌-◌, length, take, drop, arith}
use Rattle.model.specs.Report.{line}
use Rattle.report.proofs.Spaced.{number-long, line-long}
use Rattle.report.proofs.Writing.{line-done, written-full, written_next, rest-laid}
use Rattle.report.proofs.write_line.Goals as goal
use Rattle.report.proofs.write_line.Goals.{then-at-room-via-then-at-room, then-at-room-via-else-at-room+then-room-at}

pub returns-then-at-room : goal.returns-then-at-room
returns-then-at-room c =
    let a = c.args in
    let long = line-long a.word.now (a.number ∷ []) in
    let number = number-long a.number in
    let text = line a.word.now (a.number ∷ []) in
    elim c.then-at-room.branch [
      | then-at-room-via-then-at-room w ↦ written-full a.report.now a.at text (omega arith)
      | then-at-room-via-else-at-room+then-room-at w ↦ written-full a.report.now a.at text (omega arith)
    ]

pub put_number-end-requires : goal.put_number-end-requires
put_number-end-requires c = let number = number-long c.args.number in omega arith

pub bounds-rest-end : goal.bounds-rest-end
bounds-rest-end c = let number = number-long c.args.number in omega arith

pub returns : goal.returns
returns c =
    let a = c.args in
    let r = c.room_of-room.ensures in
    let text = line a.word.now (a.number ∷ []) in
    let long = line-long a.word.now (a.number ∷ []) in
    let number = number-long a.number in
    let w = c.put_word-behind_word in
    let d = c.put_number-end in
    let rest = take (length a.report.now - a.at) (drop a.at a.report.now) in
    let done = line-done rest a.word.now (a.number ∷ []) w.new.out d.new.out w.result d.result (omega arith) w.ensures.1 w.ensures.0 d.ensures.1 d.ensures.0 in
    let n : length a.word.now + 1 + c.width.result + 1 ≡ length text = omega arith in
    let l = rest-laid a.report.now a.at text _ (omega arith) done in
    rw (n, l) (written_next a.report.now a.at text (omega arith))
