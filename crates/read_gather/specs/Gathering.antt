-- The rows that a read looks at, and how they are gathered.
use Rattle.std.specs.Prelude.{ℕ, ◌+◌, min, Bool, cond, List, [], ◌∷◌, ◌++◌, ltb, length, set}
use Rattle.std.proofs.lemmas.List.Edits.{sets}
use Rattle.base_limits.specs.Limits.{most_rows, most_writes}
use Rattle.table.specs.Lists.{candidates_of, writes_of}
use Rattle.table_scans.specs.Scans.{rows_written}
use Rattle.txn.specs.declared.Transaction.{Transaction}

-- the rows kept as candidates, the own pending rows, and both; a count above its list's room acts as the room
abbrev pub candidate_rows : List ℕ → ℕ → ℕ → List ℕ
candidate_rows lists slot n = candidates_of lists slot (min n most_rows)

abbrev pub written_rows : List ℕ → ℕ → ℕ → List ℕ
written_rows lists slot n = rows_written (writes_of lists slot (min n most_writes))

abbrev pub wanted_rows : List ℕ → Transaction → List ℕ
wanted_rows lists t = candidate_rows lists t.slot t.candidates_n ++ written_rows lists t.slot t.writes_n

-- no transaction can want more rows: all candidates and all pending rows
abbrev pub most_wanted : ℕ
most_wanted = most_rows + most_writes

-- the numbers of a list at which the test holds
unfoldable pub only : (ℕ → Bool) → List ℕ → List ℕ
only test [] = []
only test (x ∷ xs) = cond (test x) (x ∷ only test xs) (only test xs)

-- words, and how many of them are in use
pub record Run : Type 0 where
  pub n : ℕ
  pub words : List ℕ

-- a row put behind those before it, where it is below the bound
abbrev pub keep_below : ℕ → ℕ → Run → Run
keep_below bound row st = cond (ltb row bound) (record { n = st.n + 1; words = set st.words st.n row }) st

-- the rows below the bound copied behind the first `from` words
abbrev pub copied : List ℕ → ℕ → ℕ → List ℕ → Run
copied old from bound rs = record { n = from + length (only (λ r. ltb r bound) rs); words = sets old from (only (λ r. ltb r bound) rs) }
