-- `log_records::command_at` meets its contract.
-- Assumes nothing.
use Rattle.log_records.proofs.Decoding.{opened, captured, roomed, putted, erased}
use Rattle.log_records.proofs.command_at.Goals as goal

pub returns-in-Open : goal.returns-in-Open
returns-in-Open c =
    let a = c.args in
    rw (
      c.in-Open.is,
      opened a.log.now a.at,
      c.number_at.ensures.value,
      c.number_at-in-Open.ensures.value,
      c.number_at-in-Open-2.ensures.value,
      c.number_at-in-Open-3.ensures.value,
    )

pub returns-in-Capture : goal.returns-in-Capture
returns-in-Capture c =
    let a = c.args in
    rw (c.in-Capture.is, captured a.log.now a.at, c.number_at-in-Capture.ensures.value, c.number_at-in-Capture-2.ensures.value)

pub returns-in-Rows : goal.returns-in-Rows
returns-in-Rows c =
    let a = c.args in
    rw (c.in-Rows.is, roomed a.log.now a.at, c.number_at-in-Rows.ensures.value, c.number_at-in-Rows-2.ensures.value)

pub returns-in-Put : goal.returns-in-Put
returns-in-Put c =
    let a = c.args in
    rw (
      c.in-Put.is,
      putted a.log.now a.at,
      c.number_at-in-Put.ensures.value,
      c.number_at-in-Put-2.ensures.value,
      c.number_at-in-Put-3.ensures.value,
      c.number_at-in-Put-4.ensures.value,
    )

pub returns-in-Erase : goal.returns-in-Erase
returns-in-Erase c =
    let a = c.args in
    rw (c.in-Erase.is, erased a.log.now a.at, c.number_at-in-Erase.ensures.value, c.number_at-in-Erase-2.ensures.value)
