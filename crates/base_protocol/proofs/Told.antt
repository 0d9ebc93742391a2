-- A refusal as it is told has the model's number, and any number can be told.
-- Assumes nothing.
use Rattle.std.proofs.Common.{◌≡◌, ℕ, refl}
use Rattle.model.specs.Refusals as model
use Rattle.base_protocol.specs.declared.Refusal.TheVariants as why
use Rattle.base_protocol.specs.View.{refusal_told, number_told}

pub refusal-number : (r : model.Refusal) → number_told (refusal_told r) ≡ model.refusal_number r
refusal-number model.WrongSize = refl
refusal-number model.NoNumbers = refl
refusal-number model.Full = refl
refusal-number model.NoSuch = refl
refusal-number model.WrongPhase = refl
refusal-number model.NoRow = refl
refusal-number model.Taken = refl
refusal-number model.Stale = refl
refusal-number model.Marked = refl
refusal-number model.ManyReads = refl
refusal-number model.NoRoom = refl
refusal-number model.ManyRecords = refl
refusal-number model.ManyWrites = refl
refusal-number model.NoVersions = refl
refusal-number model.Conflict = refl
refusal-number model.Malformed = refl
refusal-number model.WrongShape = refl

pub any-number-told : (number : ℕ) → number_told (why.Other number) ≡ number
any-number-told number = refl
