-- `replay::replay_open` meets its contract.
-- Assumes nothing.
use Prim.Native.Nat.{◌<◌, ◌≤◌}
use mathlib.Core.Path.{◌≡◌, sym, ap, ◌∙◌}
use borrow.Author.Rules.{rules}
use native.Mathlib.Omega.{arith}
use lib.ListN.{length, replicate}
use Rattle.base_limits.specs.Limits.{most_rows}
use Rattle.step.specs.Steps.{Tables}
use Rattle.call.specs.Calls.{Left}
use borrow.Author.Tests.{eqb-true, eqb-false}
use Rattle.std.proofs.Common.{ℕ, Ok, Bool, true, false, List, ◌==◌}
use Rattle.log_records.specs.declared.Command.TheVariants.{Open}
use Rattle.log_records.proofs.Reading.{NoOpen, ask-only, reader-first}
use Rattle.replay.specs.Lent.{Lent, lent_in, fresh_in, words_from}
use Rattle.replay.proofs.First.{left-empty, left-malformed, opened-fits}
use Rattle.replay.proofs.Lining.{room_in}
use Rattle.replay.proofs.Lending.{unread, unopened, accepted, refused, lent-full, lent-on}
use Rattle.replay.proofs.replay_open.Goals as goal
use Rattle.replay.proofs.replay_open.Goals.{in_default-via-in-Ok+in_default, in_default-via-in_default}

-- ---- what an open leaves, of its tables and for the others
abbrev tables_left : Left → Lent
tables_left x = lent_in x.words

abbrev tables_from : Left → Tables
tables_from x =
    let b = x.words.tables in
    record { rows = b.rows; versions = b.versions; buckets = b.buckets; lists = b.lists; found = replicate most_rows 0 }

-- ---- a log with no bytes, or with some
no_bytes : (log : List ℕ) (b : Bool) → b ≡ (length log == 0) → b ≡ true → length log ≤ 0
no_bytes log b e t = let z = eqb-true (length log) 0 (sym e ∙ t) in omega arith

some_bytes : (log : List ℕ) (b : Bool) → b ≡ (length log == 0) → b ≡ false → 0 < length log
some_bytes log b e f = let n = eqb-false (length log) 0 (sym e ∙ f) in omega (arith, n)

-- ---- an empty log, and the first record of another
pub returns-then-is_empty : goal.returns-then-is_empty
returns-then-is_empty c =
    let a = c.args in
    let lent : Lent = record { rows = a.rows.now; versions = a.versions.now; buckets = a.buckets.now; lists = a.lists.now } in
    let empty = no_bytes a.log.now c.is_empty.result c.is_empty.ensures c.if-is_empty.true in
    let u = unread a.log.now a.report.now lent empty in
    (rw u.0 (left-empty a.log.now a.report.now empty), sym u.1)

-- ---- no open
pub returns-in_default : goal.returns-in_default
returns-in_default c =
    let a = c.args in
    let lent : Lent = record { rows = a.rows.now; versions = a.versions.now; buckets = a.buckets.now; lists = a.lists.now } in
    let first = reader-first a.log c.next.result c.new-reader.result c.next.new.self c.new-reader.ensures c.next.ensures in
    let some = some_bytes a.log.now c.is_empty.result c.is_empty.ensures c.if-is_empty.false in
    let other : NoOpen c.next.result =
    elim c.in_default.branch [
      | in_default-via-in-Ok+in_default w ↦ ask-only c.next.result w.in_default.field-0 w.in_default.is (search rules)
      | in_default-via-in_default w ↦ λ z clock e. cc
    ] in
    let u = unopened a.log.now a.report.now lent first other in
    (rw u.0 (left-malformed a.log.now a.report.now some first other _ c.stop_malformed.ensures), sym u.1)

-- ---- an open that is refused
pub returns-in-Refused : goal.returns-in-Refused
returns-in-Refused c =
    let a = c.args in
    let lent : Lent = record { rows = a.rows.now; versions = a.versions.now; buckets = a.buckets.now; lists = a.lists.now } in
    let first = reader-first a.log c.next.result c.new-reader.result c.next.new.self c.new-reader.ensures c.next.ensures in
    let some = some_bytes a.log.now c.is_empty.result c.is_empty.ensures c.if-is_empty.false in
    let o = c.in-Ok-Open in
    let is : c.next.result ≡ Ok (Open o.sizes o.clock) = cc in
    let answered = sym (ap (λ (x : Left). x.answer) c.open-called.ensures) ∙ c.in-Refused.is in
    let r = refused lent o.sizes o.clock a.log.now a.report.now some first is c.in-Refused.why answered _ (rw c.from.ensures at c.stop_unopened.ensures) in
    (r.0, ap tables_left c.open-called.ensures ∙ r.1)

-- ---- opened: its line is written, or does not fit
pub returns-in_default-open_line : goal.returns-in_default-open_line
returns-in_default-open_line c =
    let a = c.args in
    let lent : Lent = record { rows = a.rows.now; versions = a.versions.now; buckets = a.buckets.now; lists = a.lists.now } in
    let first = reader-first a.log c.next.result c.new-reader.result c.next.new.self c.new-reader.ensures c.next.ensures in
    let some = some_bytes a.log.now c.is_empty.result c.is_empty.ensures c.if-is_empty.false in
    let o = c.in-Ok-Open in
    let is : c.next.result ≡ Ok (Open o.sizes o.clock) = cc in
    let can = accepted lent o.sizes o.clock (λ r e. c.in_default-answer.not-Refused r (ap (λ (x : Left). x.answer) c.open-called.ensures ∙ e)) in
    let r = lent-full lent o.sizes o.clock a.log.now a.report.now some first is can c.open_line.ensures c.in_default-open_line.is in
    rw c.from-in_default-open_line.ensures (r.0, ap tables_left c.open-called.ensures ∙ r.1)

-- ---- and the others: from the call back to the line
pub replay_steps-requires : goal.replay_steps-requires
replay_steps-requires c =
    let a = c.args in
    let lent : Lent = record { rows = a.rows.now; versions = a.versions.now; buckets = a.buckets.now; lists = a.lists.now } in
    let first = reader-first a.log c.next.result c.new-reader.result c.next.new.self c.new-reader.ensures c.next.ensures in
    let some = some_bytes a.log.now c.is_empty.result c.is_empty.ensures c.if-is_empty.false in
    let o = c.in-Ok-Open in
    let is : c.next.result ≡ Ok (Open o.sizes o.clock) = cc in
    let can = accepted lent o.sizes o.clock (λ r e. c.in_default-answer.not-Refused r (ap (λ (x : Left). x.answer) c.open-called.ensures ∙ e)) in (
      record { lent = lent; accepted = can.answer; opened = ap tables_from c.open-called.ensures },
      opened-fits a.log.now a.report.now some first is can.size c.open_line.ensures c.in-Some.is,
    )

pub returns : goal.returns
returns c =
    let a = c.args in
    let lent : Lent = record { rows = a.rows.now; versions = a.versions.now; buckets = a.buckets.now; lists = a.lists.now } in
    let first = reader-first a.log c.next.result c.new-reader.result c.next.new.self c.new-reader.ensures c.next.ensures in
    let some = some_bytes a.log.now c.is_empty.result c.is_empty.ensures c.if-is_empty.false in
    let o = c.in-Ok-Open in
    let is : c.next.result ≡ Ok (Open o.sizes o.clock) = cc in
    let can = accepted lent o.sizes o.clock (λ r e. c.in_default-answer.not-Refused r (ap (λ (x : Left). x.answer) c.open-called.ensures ∙ e)) in
    let on = lent-on lent o.sizes o.clock a.log.now a.report.now some first is can c.open_line.ensures c.in-Some.is in
    on _ _ _ (
      c.replay_steps.ensures.0,
      c.replay_steps.ensures.1 ∙ ap (λ (b : Tables).
          (words_from (room_in c.open_line.new.report) a.log.now c.next.new.self.at c.in-Some.wrote
          (fresh_in b o.sizes o.clock)).tables) (ap tables_from c.open-called.ensures),
    )
