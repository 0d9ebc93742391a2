-- A record that has changed outright, one that the active numbers are left to tell of, and none left.
use Rattle.std.proofs.Common.{◌≡◌, ◌∙◌, true, false, sym, rules, length}
use Rattle.base_limits.specs.Limits.{most_active}
use Rattle.write_verdict.proofs.Laws.{record-next, records-end}
use Rattle.write_verdict.proofs.has_serialization_conflict.Goals as goal

pub returns-then-changed_outright : goal.returns-then-changed_outright
returns-then-changed_outright c =
    let a = c.args in
    let long : length a.t.snapshot.active ≡ most_active = search rules in
    let here = record-next a.versions.now a.lists.now a.t long c.records.i c.record_at-read.result c.ended_by-ended.result
    c.record_at-read.ensures c.ended_by-ended.ensures c.records-test.true true (sym c.changed_outright.ensures ∙ c.if-changed_outright.true) in
    sym (c.records.invariant.1 ∙ here)

pub loop-number-init : goal.loop-number-init
loop-number-init c =
    let a = c.args in
    let long : length a.t.snapshot.active ≡ most_active = search rules in
    let here = record-next a.versions.now a.lists.now a.t long c.records.i c.record_at-read.result c.ended_by-ended.result
    c.record_at-read.ensures c.ended_by-ended.ensures c.records-test.true false (sym c.changed_outright.ensures ∙ c.if-changed_outright.false) in
    (c.records.invariant.0, c.records.invariant.1 ∙ rw (← c.looked_for.ensures) at here)

pub returns-after-records : goal.returns-after-records
returns-after-records c =
    let a = c.args in
    c.records.invariant.0 ∙ sym (c.records.invariant.1 ∙ records-end a.versions.now a.lists.now a.t c.records.i c.records-test.false)
