-- The code's sizes, steps and answers as the model has them.
use Rattle.std.specs.Prelude.{ℕ, length}
use Rattle.model.specs.Store as store
use Rattle.model.specs.Refusals as model
use Rattle.model.specs.Verdict as judged
use Rattle.model.specs.Machine as machine
use Rattle.base_protocol.specs.declared.Sizes.{Sizes}
use Rattle.base_protocol.specs.declared.Step.{Step}
use Rattle.base_protocol.specs.declared.Step.TheVariants as ask
use Rattle.base_protocol.specs.declared.Verdict.{Verdict}
use Rattle.base_protocol.specs.declared.Verdict.TheVariants as verdict
use Rattle.base_protocol.specs.declared.Refusal.{Refusal}
use Rattle.base_protocol.specs.declared.Refusal.TheVariants as why
use Rattle.base_protocol.specs.declared.Answer.{Answer}
use Rattle.base_protocol.specs.declared.Answer.TheVariants as tell

-- the sizes of a store
abbrev pub sizes_view : Sizes → store.Sizes
sizes_view z = record { rows = z.rows; versions = z.versions; buckets = z.buckets }

-- the step that is asked for
abbrev pub asked : Step → model.Step
asked ask.Begin = model.begin
asked (ask.Capture t k) = model.capture t k
asked (ask.Collect t) = model.collect t
asked (ask.Rows t room) = model.rows t room
asked (ask.Put t r k payload) = model.put t r k payload
asked (ask.Erase t r) = model.erase t r
asked (ask.Prepare t) = model.prepare t
asked (ask.Install t) = model.install t
asked (ask.End t) = model.end t
asked (ask.Publish t) = model.publish t
asked (ask.Validate t) = model.validate t
asked (ask.Abort t) = model.abort t

-- how a verdict is told
abbrev pub verdict_told : judged.Verdict → Verdict
verdict_told judged.Clear = verdict.Clear
verdict_told (judged.Bucket b captured present) = verdict.Bucket b captured present
verdict_told (judged.Row r p) = verdict.Row r p
verdict_told judged.Mark = verdict.Mark

-- how a refusal is told
abbrev pub refusal_told : model.Refusal → Refusal
refusal_told model.WrongSize = why.WrongSize
refusal_told model.NoNumbers = why.NoNumbers
refusal_told model.Full = why.Full
refusal_told model.NoSuch = why.NoSuch
refusal_told model.WrongPhase = why.WrongPhase
refusal_told model.NoRow = why.NoRow
refusal_told model.Taken = why.Taken
refusal_told model.Stale = why.Stale
refusal_told model.Marked = why.Marked
refusal_told model.ManyReads = why.ManyReads
refusal_told model.NoRoom = why.NoRoom
refusal_told model.ManyRecords = why.ManyRecords
refusal_told model.ManyWrites = why.ManyWrites
refusal_told model.NoVersions = why.NoVersions
refusal_told model.Conflict = why.Conflict
refusal_told model.Malformed = why.Malformed
refusal_told model.WrongShape = why.WrongShape

-- document 01's number for a refusal as the code has it; any other number is told as it is
abbrev pub number_told : Refusal → ℕ
number_told why.WrongSize = model.refusal_number model.WrongSize
number_told why.NoNumbers = model.refusal_number model.NoNumbers
number_told why.Full = model.refusal_number model.Full
number_told why.NoSuch = model.refusal_number model.NoSuch
number_told why.WrongPhase = model.refusal_number model.WrongPhase
number_told why.NoRow = model.refusal_number model.NoRow
number_told why.Taken = model.refusal_number model.Taken
number_told why.Stale = model.refusal_number model.Stale
number_told why.Marked = model.refusal_number model.Marked
number_told why.ManyReads = model.refusal_number model.ManyReads
number_told why.NoRoom = model.refusal_number model.NoRoom
number_told why.ManyRecords = model.refusal_number model.ManyRecords
number_told why.ManyWrites = model.refusal_number model.ManyWrites
number_told why.NoVersions = model.refusal_number model.NoVersions
number_told why.Conflict = model.refusal_number model.Conflict
number_told why.Malformed = model.refusal_number model.Malformed
number_told why.WrongShape = model.refusal_number model.WrongShape
number_told (why.Other number) = number

-- how an answer is told: of found rows how many they are
abbrev pub told : machine.Answer → Answer
told machine.Done = tell.Done
told (machine.Number n) = tell.Number n
told (machine.Stamp n) = tell.Stamp n
told (machine.Count n) = tell.Count n
told (machine.Rows rs) = tell.Rows (length rs)
told (machine.Judged v) = tell.Judged (verdict_told v)
told (machine.Refused r) = tell.Refused (refusal_told r)
