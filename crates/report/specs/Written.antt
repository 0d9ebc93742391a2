-- A line in the lent report.
use Rattle.std.specs.Prelude.{ℕ, ◌+◌, min, cond, Option, Some, None, List, ◌++◌, leb, length, take, drop}
use Rattle.model.specs.Replay.{most_room}

-- old, with the text over it from `at` on
abbrev pub laid : List ℕ → ℕ → List ℕ → List ℕ
laid old at text = take at old ++ text ++ drop (at + length text) old

-- where the next line begins, or that the line does not fit, and the lent report afterwards
pub record Written : Type 0 where
  pub wrote : Option ℕ
  pub report : List ℕ

-- a line from `at` on, or nothing where it does not fit; room beyond 4,294,967,295 bytes is not used
unfoldable pub written_at : List ℕ → ℕ → List ℕ → Written
written_at old at text =
    cond (leb (at + length text) (min (length old) most_room))
    (record { wrote = Some (at + length text); report = laid old at text })
    (record { wrote = None; report = old })
