-- `replay::replay_steps` meets its contract.
-- Assumes nothing.
use Rattle.std.proofs.Common.{◌≡◌, refl, sym, ap, subst, ◌∙◌, false, Ok, arith, rules}
use Rattle.step.specs.Steps.{keeps_of}
use Rattle.step.specs.Words.{Words}
use Rattle.log_records.specs.declared.Command.TheVariants.{Ask}
use Rattle.log_records.proofs.Reading.{NoStep, open-only, reader-taken}
use Rattle.replay.specs.Replay.{opened_from}
use Rattle.replay.specs.Lent.{fresh_in, words_from}
use Rattle.replay.proofs.Lining.{room_in}
use Rattle.replay.proofs.Going.{Going, ends, ends_words, stops-malformed, stops-words, further, slot_kept, stops-full, full-words, goes}
use Rattle.replay.proofs.Zeroes.{words_of, found-room, starts}
use Rattle.replay.proofs.Wholes.{wholes}
use Rattle.replay.proofs.Turning.{Turned, Found, marked, behind, met, below, placed-for, kept-told, placing-moved, placed-told}
use Rattle.replay.proofs.replay_steps.Goals as goal
use Rattle.replay.proofs.replay_steps.Goals.{in_default-via-in-Ok+in_default, in_default-via-in_default, then-keeps, else-keeps}

-- ---- before the loop
pub loop-reader-init : goal.loop-reader-init
loop-reader-init c =
    let a = c.args in
    rw (c.from.ensures, c.idle.ensures, c.new-reader.ensures) (record {
      log = refl;
      numbers-long = refl;
      snapshots-long = refl;
      rests-long = refl;
      besides = refl;
      going = starts a.log.now a.report.now
          (record { rows = a.rows.now; versions = a.versions.now; buckets = a.buckets.now; lists = a.lists.now; found = a.found.now }) a.opened
          c.requires.0 (omega (arith, c.well_formed)) c.requires.1;
    })

-- ---- no step: the record is malformed, or a second open
pub returns-in_default : goal.returns-in_default
returns-in_default c =
    let i = c.loop-reader.invariant in
    let other : NoStep c.next.result =
    elim c.in_default.branch [
      | in_default-via-in-Ok+in_default w ↦ open-only c.next.result w.in_default.field-0 w.in_default.is (search rules)
      | in_default-via-in_default w ↦ λ s e. cc
    ] in
    let d = reader-taken _ _ c.loop-reader.reader c.next.new.self i.log c.next.ensures in (
      stops-malformed i.going c.loop-reader-test.true d.0 other _ c.stop_malformed.ensures,
      ap (λ (w : Words). w.tables) (stops-words i.going c.loop-reader-test.true d.0 other),
    )

-- ---- the log is at its end
pub returns : goal.returns
returns c =
    let g = c.loop-reader.invariant.going in
    (ends g c.loop-reader-test.false, ap (λ (w : Words). w.tables) (ends_words g c.loop-reader-test.false))

-- ---- the next record is further on
pub loop-reader-smaller : goal.loop-reader-smaller
loop-reader-smaller c =
    let i = c.loop-reader.invariant in
    let d = reader-taken _ _ c.loop-reader.reader c.next.new.self i.log c.next.ensures in
    let asks : c.next.result ≡ Ok (Ask c.in-Ok-Ask.s) = cc in
    omega (arith, further i.going c.loop-reader-test.true d.0 asks, c.loop-reader-test.true)

-- ---- the line does not fit
pub returns-in_default-answer_line : goal.returns-in_default-answer_line
returns-in_default-answer_line c =
    let i = c.loop-reader.invariant in
    let l = c.loop-reader in
    let j = c.if-keeps in
    let d = reader-taken _ _ l.reader c.next.new.self i.log c.next.ensures in
    let asks : c.next.result ≡ Ok (Ask c.in-Ok-Ask.s) = cc in
    let room = found-room c.requires.0 l.found l.auto.found in
    let here : Found (record { rows = l.rows; versions = l.versions; buckets = l.buckets; lists = l.lists; found = l.found }) l.extent l.others
    l.snapshots l.rests c.in-Ok-Ask.s c.wanted.result c.place_of-k.result =
    record {
      besides = i.besides;
      numbers-long = i.numbers-long;
      snapshots-long = i.snapshots-long;
      rests-long = i.rests-long;
      wanted = c.wanted.ensures;
      place = c.place_of-k.ensures;
    } in
    let words =
    words_of l.rows l.versions l.buckets l.lists l.found (wholes l.others.numbers l.snapshots l.rests) l.extent.sizes l.extent.clock l.extent.used in
    let t : Turned words
    c.in-Ok-Ask.s c.place_of-k.result j.answer j.extent (marked j.others c.place_of-k.result c.active_number.result c.prepared_count.result) j.snapshots j.rests
    (record { rows = j.rows; versions = j.versions; buckets = j.buckets; lists = j.lists; found = j.found }) =
    elim j.branch [
      | then-keeps w ↦
          met
          (kept-told here _ _ w.step_keeping-kept.result _ c.active_number.result c.prepared_count.result (sym c.keeps.ensures ∙ w.if-keeps.true)
          w.step_keeping-kept.ensures _ w.rests-is w.others-is c.active_number.ensures c.prepared_count.ensures)
          w.rows-is w.versions-is w.buckets-is w.lists-is w.found-is w.snapshots-is refl refl w.extent-is w.answer-is
      | else-keeps w ↦
          let q : keeps_of c.in-Ok-Ask.s ≡ false = sym c.keeps.ensures ∙ w.if-keeps.false in
          let moved = placing-moved here _ _ w.step_placing-u.result _ _ q w.from-else-keeps.result w.from-else-keeps.ensures w.step_placing-u.ensures in
          let slot = slot_kept i.going c.loop-reader-test.true d.0 asks room moved (placed-for here) (below here) in
          met
          (placed-told here _ _ w.step_placing-u.result _ _ q w.from-else-keeps.result w.from-else-keeps.ensures w.step_placing-u.ensures w.from-number.result
          c.active_number.result c.prepared_count.result
          w.from-number.ensures slot _ w.rests-is w.others-is c.active_number.ensures c.prepared_count.ensures)
          w.rows-is w.versions-is w.buckets-is w.lists-is w.found-is w.snapshots-is refl refl w.extent-is w.answer-is
    ] in
    let q = c.in_default-answer_line.is in
    rw c.from-in_default-answer_line.ensures (
      stops-full i.going c.loop-reader-test.true d.0 asks room t.moved c.answer_line.ensures q,
      ap (λ (w : Words). w.tables)
          (behind t ∙ full-words i.going c.loop-reader-test.true d.0 asks room t.moved c.answer_line.ensures q (placed-for here)),
    )

-- ---- it was written: the next turn begins with the words that the step leaves
pub loop-reader-preserved : goal.loop-reader-preserved
loop-reader-preserved c =
    let a = c.args in
    let o = a.opened in
    let i = c.loop-reader.invariant in
    let l = c.loop-reader in
    let j = c.if-keeps in
    let d = reader-taken _ _ l.reader c.next.new.self i.log c.next.ensures in
    let asks : c.next.result ≡ Ok (Ask c.in-Ok-Ask.s) = cc in
    let room = found-room c.requires.0 l.found l.auto.found in
    let here : Found (record { rows = l.rows; versions = l.versions; buckets = l.buckets; lists = l.lists; found = l.found }) l.extent l.others
    l.snapshots l.rests c.in-Ok-Ask.s c.wanted.result c.place_of-k.result =
    record {
      besides = i.besides;
      numbers-long = i.numbers-long;
      snapshots-long = i.snapshots-long;
      rests-long = i.rests-long;
      wanted = c.wanted.ensures;
      place = c.place_of-k.ensures;
    } in
    let words =
    words_of l.rows l.versions l.buckets l.lists l.found (wholes l.others.numbers l.snapshots l.rests) l.extent.sizes l.extent.clock l.extent.used in
    let t : Turned words
    c.in-Ok-Ask.s c.place_of-k.result j.answer j.extent (marked j.others c.place_of-k.result c.active_number.result c.prepared_count.result) j.snapshots j.rests
    (record { rows = j.rows; versions = j.versions; buckets = j.buckets; lists = j.lists; found = j.found }) =
    elim j.branch [
      | then-keeps w ↦
          met
          (kept-told here _ _ w.step_keeping-kept.result _ c.active_number.result c.prepared_count.result (sym c.keeps.ensures ∙ w.if-keeps.true)
          w.step_keeping-kept.ensures _ w.rests-is w.others-is c.active_number.ensures c.prepared_count.ensures)
          w.rows-is w.versions-is w.buckets-is w.lists-is w.found-is w.snapshots-is refl refl w.extent-is w.answer-is
      | else-keeps w ↦
          let q : keeps_of c.in-Ok-Ask.s ≡ false = sym c.keeps.ensures ∙ w.if-keeps.false in
          let moved = placing-moved here _ _ w.step_placing-u.result _ _ q w.from-else-keeps.result w.from-else-keeps.ensures w.step_placing-u.ensures in
          let slot = slot_kept i.going c.loop-reader-test.true d.0 asks room moved (placed-for here) (below here) in
          met
          (placed-told here _ _ w.step_placing-u.result _ _ q w.from-else-keeps.result w.from-else-keeps.ensures w.step_placing-u.ensures w.from-number.result
          c.active_number.result c.prepared_count.result
          w.from-number.ensures slot _ w.rests-is w.others-is c.active_number.ensures c.prepared_count.ensures)
          w.rows-is w.versions-is w.buckets-is w.lists-is w.found-is w.snapshots-is refl refl w.extent-is w.answer-is
    ] in
    let final =
    words_from (room_in a.report.now) a.log.now o.at o.wrote
    (fresh_in (record { rows = a.rows.now; versions = a.versions.now; buckets = a.buckets.now; lists = a.lists.now; found = a.found.now }) o.sizes o.clock) in
    record {
      log = d.1;
      numbers-long = t.numbers-long;
      snapshots-long = t.snapshots-long;
      rests-long = t.rests-long;
      besides = t.besides;
      going = subst
          (λ (w : Words). Going a.log.now a.report.now (opened_from a.log.now a.report.now o) final c.next.new.self.at c.in-Some.end c.answer_line.new.report w)
          (sym (behind t))
          (goes i.going c.loop-reader-test.true d.0 asks room t.moved c.answer_line.ensures (placed-for here) c.in-Some.end c.in-Some.is);
    }
