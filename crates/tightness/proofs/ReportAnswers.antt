-- Wrong bodies of the crate `report_answers`.
-- Assumes nothing.
use Prim.Native.Nat.{ℕ}
use mathlib.Core.Path.{refl}
use lib.ListN.{get_or}
use Rattle.base_protocol.specs.View.{number_told}
use Rattle.base_protocol.specs.declared.Refusal.TheVariants as why
use Rattle.base_protocol.specs.declared.Answer.{Answer}
use Rattle.base_protocol.specs.declared.Answer.TheVariants as tell
use Rattle.report_answers.specs.declared.Numbers.{Numbers}
use Rattle.report_answers.specs.Answers.{number_held, value_held, verdict_held, held_of}
use Rattle.tightness.specs.Wrong.{Excludes}
use Rattle.tightness.proofs.Apart.{apart}

-- any answer as the contract of `numbers_of` has it, but for refusals and found rows
abbrev tells : (ℕ → Numbers) → (ℕ → Numbers) → Answer → Numbers
tells refused found tell.Done = number_held 0
tells refused found (tell.Number n) = value_held n 0
tells refused found (tell.Stamp n) = value_held n 0
tells refused found (tell.Count n) = value_held n 0
tells refused found (tell.Rows n) = found n
tells refused found (tell.Judged v) = verdict_held v
tells refused found (tell.Refused r) = refused (number_told r)

-- `numbers_of`: a refusal is 0 with its number as a value
pub numbers-of-refusal-valued : Excludes held_of (tells (λ n. value_held n 0) (λ n. value_held n n))
numbers-of-refusal-valued = apart (tell.Refused why.Taken) (λ (s : Numbers). get_or s.list 0 0) refl

-- `numbers_of`: a number that is none of document 01's is told as 16
pub numbers-of-other-as-16 : Excludes (λ (number : ℕ). held_of (tell.Refused (why.Other number))) (λ number. held_of (tell.Refused why.WrongShape))
numbers-of-other-as-16 = apart 99 (λ (s : Numbers). get_or s.list 0 0) refl

-- `numbers_of`: found rows are counted and not said
pub numbers-of-rows-unsaid : Excludes held_of (tells number_held (λ n. value_held n 0))
numbers-of-rows-unsaid = apart (tell.Rows 1) (λ (s : Numbers). s.rows) refl
