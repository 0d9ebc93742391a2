-- What the code holds of an answer are its number and its values.
-- Assumes nothing.
use Prim.Native.Nat.{ℕ}
use mathlib.Core.List.{List, ◌∷◌}
use mathlib.Core.Path.{◌≡◌, refl}
use Rattle.base_protocol.specs.declared.Verdict.{Verdict}
use Rattle.base_protocol.specs.declared.Verdict.TheVariants as verdict
use Rattle.base_protocol.specs.declared.Answer.{Answer}
use Rattle.base_protocol.specs.declared.Answer.TheVariants as tell
use Rattle.report_answers.specs.Answers.{number_of, verdict_values, values_of, numbers_with, verdict_held, held_of}

verdict-says : (v : Verdict) (rows : List ℕ) → numbers_with (verdict_held v) rows ≡ 0 ∷ verdict_values v
verdict-says verdict.Clear rows = refl
verdict-says (verdict.Bucket bucket captured present) rows = refl
verdict-says (verdict.Row row ptr) rows = refl
verdict-says verdict.Mark rows = refl

-- what is held of an answer are its number and its values
pub says : (a : Answer) (rows : List ℕ) → numbers_with (held_of a) rows ≡ number_of a ∷ values_of a rows
says tell.Done rows = refl
says (tell.Number n) rows = refl
says (tell.Stamp n) rows = refl
says (tell.Count n) rows = refl
says (tell.Rows n) rows = refl
says (tell.Judged v) rows = verdict-says v rows
says (tell.Refused number) rows = refl
