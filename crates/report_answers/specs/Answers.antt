-- Document 01's number and values for each answer, and how the code holds them.
use Rattle.std.specs.Prelude.{ℕ, List, [], ◌∷◌, ◌++◌, take}
use Rattle.base_protocol.specs.declared.Verdict.{Verdict}
use Rattle.base_protocol.specs.declared.Verdict.TheVariants as verdict
use Rattle.base_protocol.specs.declared.Answer.{Answer}
use Rattle.base_protocol.specs.declared.Answer.TheVariants as tell
use Rattle.base_protocol.specs.View.{number_told}
use Rattle.report_answers.specs.declared.Numbers.{Numbers}

-- document 01's number for each answer
abbrev pub number_of : Answer → ℕ
number_of tell.Done = 0
number_of (tell.Number n) = 0
number_of (tell.Stamp n) = 0
number_of (tell.Count n) = 0
number_of (tell.Rows n) = 0
number_of (tell.Judged v) = 0
number_of (tell.Refused r) = number_told r

-- a verdict and its values
abbrev pub verdict_values : Verdict → List ℕ
verdict_values verdict.Clear = 0 ∷ []
verdict_values (verdict.Bucket bucket captured present) = 1 ∷ bucket ∷ captured ∷ present ∷ []
verdict_values (verdict.Row row ptr) = 2 ∷ row ∷ ptr ∷ []
verdict_values verdict.Mark = 3 ∷ []

-- the values that come after 0; the found rows stand at the front of the lent list
abbrev pub values_of : Answer → List ℕ → List ℕ
values_of tell.Done rows = []
values_of (tell.Number n) rows = n ∷ []
values_of (tell.Stamp n) rows = n ∷ []
values_of (tell.Count n) rows = n ∷ []
values_of (tell.Rows n) rows = n ∷ take n rows
values_of (tell.Judged v) rows = verdict_values v
values_of (tell.Refused r) rows = []

-- the first `count` of the list, and then the first `rows` of the lent rows
abbrev pub numbers_with : Numbers → List ℕ → List ℕ
numbers_with s rows = take s.count s.list ++ take s.rows rows

-- 0, the verdict and its values
abbrev pub verdict_held : Verdict → Numbers
verdict_held verdict.Clear = record { list = 0 ∷ 0 ∷ 0 ∷ 0 ∷ 0 ∷ []; count = 2; rows = 0 }
verdict_held (verdict.Bucket bucket captured present) = record { list = 0 ∷ 1 ∷ bucket ∷ captured ∷ present ∷ []; count = 5; rows = 0 }
verdict_held (verdict.Row row ptr) = record { list = 0 ∷ 2 ∷ row ∷ ptr ∷ 0 ∷ []; count = 4; rows = 0 }
verdict_held verdict.Mark = record { list = 0 ∷ 3 ∷ 0 ∷ 0 ∷ 0 ∷ []; count = 2; rows = 0 }

-- a number with nothing after it
abbrev pub number_held : ℕ → Numbers
number_held number = record { list = number ∷ 0 ∷ 0 ∷ 0 ∷ 0 ∷ []; count = 1; rows = 0 }

-- 0 and a value, and then so many rows
abbrev pub value_held : ℕ → ℕ → Numbers
value_held value rows = record { list = 0 ∷ value ∷ 0 ∷ 0 ∷ 0 ∷ []; count = 2; rows = rows }

-- what is held of an answer
abbrev pub held_of : Answer → Numbers
held_of tell.Done = number_held 0
held_of (tell.Number n) = value_held n 0
held_of (tell.Stamp n) = value_held n 0
held_of (tell.Count n) = value_held n 0
held_of (tell.Rows n) = value_held n n
held_of (tell.Judged v) = verdict_held v
held_of (tell.Refused r) = number_held (number_told r)
