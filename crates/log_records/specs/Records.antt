-- A record of the log as the code tells it: the model's `read_record` at a place of the bytes.
use Rattle.std.specs.Prelude.{ℕ, ◌+◌, ◌≡◌, Result, Ok, Err, MatchResult, List, drop, get_or}
use Rattle.std.proofs.Math.Option.{Option, none, some}
use Rattle.std.specs.Borrow.{Bor}
use Rattle.base_protocol.specs.declared.Sizes.{Sizes}
use Rattle.base_protocol.specs.declared.Step.{Step}
use Rattle.log_records.specs.declared.Command.{Command}
use Rattle.log_records.specs.declared.Command.TheVariants.{Open, Ask}
use Rattle.log_records.specs.declared.Kind.{Kind}
use Rattle.log_records.specs.declared.Kind.TheVariants as kinds
use Rattle.log_records.specs.declared.Malformed.{Malformed}
use Rattle.log_records.specs.declared.Decoded.{Decoded}
use Rattle.log_records.specs.declared.Reader.{Reader}
use Rattle.model.specs.Store as store
use Rattle.model.specs.Refusals as model
use Rattle.model.specs.Log as bytes
use Rattle.base_protocol.specs.declared.Step.TheVariants as ask

-- how sizes are told
abbrev pub sizes_told : store.Sizes → Sizes
sizes_told z = record { rows = z.rows; versions = z.versions; buckets = z.buckets }

-- how a step is told
abbrev pub step_told : model.Step → Step
step_told model.begin = ask.Begin
step_told (model.capture t k) = ask.Capture t k
step_told (model.collect t) = ask.Collect t
step_told (model.rows t room) = ask.Rows t room
step_told (model.write t r (some c)) = ask.Put t r c.0 c.1
step_told (model.write t r none) = ask.Erase t r
step_told (model.prepare t) = ask.Prepare t
step_told (model.install t) = ask.Install t
step_told (model.end t) = ask.End t
step_told (model.publish t) = ask.Publish t
step_told (model.validate t) = ask.Validate t
step_told (model.abort t) = ask.Abort t

-- how a command is told
abbrev pub command_told : bytes.Command → Command
command_told (bytes.Opening z clock) = Open (sizes_told z) clock
command_told (bytes.Asking a) = Ask (step_told a)

-- a malformed record leaves the place where it was
abbrev pub malformed_at : ℕ → Decoded
malformed_at at = record { command = Err (record {}); next = at }

-- what is read at a place; the next record begins behind the length and what it counts
abbrev pub decoded_as : List ℕ → ℕ → Option (bytes.Command × List ℕ) → Decoded
decoded_as log at none = malformed_at at
decoded_as log at (some c) = record { command = Ok (command_told c.0); next = at + 2 + bytes.length_in (drop at log) }

-- the record at a place of the log
unfoldable pub decoded_of : List ℕ → ℕ → Decoded
decoded_of log at = decoded_as log at (bytes.read_record (drop at log))

-- a reader of these bytes that stands at this place
abbrev pub reader_at : Bor (List ℕ) → ℕ → Reader
reader_at log at = record { log = log; at = at }

-- what a reader takes, and the reader then
pub record Taken : Type 0 where
  pub command : Result Command Malformed
  pub reader : Reader

-- what a reader takes: the command of the record at its place, and the reader moved past that record
abbrev pub taken_by : Reader → Taken
taken_by r = record { command = (decoded_of r.log.now r.at).command; reader = reader_at r.log (decoded_of r.log.now r.at).next }

-- 2 for the kind, and its fields; for an unknown kind a length that two bytes cannot say
abbrev pub length_with : Option (List ℕ) → ℕ
length_with none = 65536
length_with (some ws) = 2 + bytes.total ws

-- the length that a kind's record says
unfoldable pub length_of : ℕ → ℕ
length_of kind = length_with (bytes.widths kind)

-- the fields of a record of this kind, from their bytes
unfoldable pub field_in : ℕ → List ℕ → ℕ → ℕ
field_in kind l i = get_or (bytes.fields_of (bytes.widths kind) l) i 0

-- the command of a kind, from the bytes of its fields
unfoldable pub command_in : ℕ → List ℕ → Command
command_in kind l = command_told (bytes.command_of kind (field_in kind l))

-- the number of a kind
abbrev pub kind_number : Kind → ℕ
kind_number kinds.Open = 1
kind_number kinds.Begin = 2
kind_number kinds.Capture = 3
kind_number kinds.Collect = 4
kind_number kinds.Rows = 5
kind_number kinds.Put = 6
kind_number kinds.Erase = 7
kind_number kinds.Prepare = 8
kind_number kinds.Install = 9
kind_number kinds.End = 10
kind_number kinds.Publish = 11
kind_number kinds.Validate = 12
kind_number kinds.Abort = 13

-- the kind of a number, or that no kind has it
abbrev pub KindOf : ℕ → Result Kind Malformed → Type 0
KindOf number r = MatchResult r (λ kind. kind_number kind ≡ number) (λ _. bytes.widths number ≡ none)
