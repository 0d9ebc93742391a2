-- The read records that a read adds, in row order.
use Rattle.std.specs.Prelude.{ℕ, ◌+◌, min, cond, ◌||◌, List, [], ◌∷◌, eqb, ltb, length, drop, get_or, Option, Some, None}
use Rattle.base_limits.specs.Limits.{most_records}
use Rattle.base_lists.specs.Lists.{member}
use Rattle.table.specs.Fields.{xmin_of}
use Rattle.table.specs.Lists.{records, records_of, stored}
use Rattle.table.specs.declared.lists.ReadRecord.{ReadRecord}
use Rattle.table_scans.specs.Scans.{pointers}

-- the pointers that are recorded; a count above 128 acts as 128
abbrev pub known_pointers : List ℕ → ℕ → ℕ → List ℕ
known_pointers lists slot n = pointers (records_of lists slot (min n most_records))

-- a row and the version that it is matched through, as a read record
abbrev pub record_for : List ℕ → ℕ → ℕ → ReadRecord
record_for versions r p = record { row = r; ptr = p; xmin = xmin_of versions p }

-- of the pointers those that are new, 0 for the others
unfoldable pub planned : List ℕ → List ℕ → List ℕ
planned known [] = []
planned known (p ∷ ps) = cond (eqb p 0 || member p known) (0 ∷ planned known ps) (p ∷ planned (p ∷ known) ps)

-- the read records of rows with their pointers; a pointer 0 has none, and a row that is missing is 0
unfoldable pub records_for : List ℕ → List ℕ → List ℕ → List ReadRecord
records_for versions rs [] = []
records_for versions rs (p ∷ ps) =
    cond (eqb p 0) (records_for versions (drop 1 rs) ps) (record_for versions (get_or rs 0 0) p ∷ records_for versions (drop 1 rs) ps)

-- read records stored one behind the other, from entry n on
unfoldable pub put_records : List ℕ → ℕ → ℕ → List ReadRecord → List ℕ
put_records lists slot n [] = lists
put_records lists slot n (r ∷ rs) = put_records (stored records lists slot n (r.row ∷ r.ptr ∷ r.xmin ∷ [])) slot (n + 1) rs

-- how many read records there are then, or none where they would be too many, the lists, and of the pointers those that are new
pub record LeftRecords : Type 0 where
  pub told : Option ℕ
  pub lists : List ℕ
  pub pointers : List ℕ

-- new records behind the old, unless they are more than 128 then
abbrev pub kept_records : List ℕ → ℕ → ℕ → List ReadRecord → List ℕ → LeftRecords
kept_records lists slot n new ps =
    cond (ltb most_records (n + length new)) (record { told = None; lists = lists; pointers = ps })
    (record { told = Some (n + length new); lists = put_records lists slot n new; pointers = ps })

-- a record for each row whose pointer is new
unfoldable pub recorded_of : List ℕ → List ℕ → List ℕ → List ℕ → ℕ → ℕ → LeftRecords
recorded_of versions lists rows ptrs slot n =
    kept_records lists slot n (records_for versions rows (planned (known_pointers lists slot n) ptrs)) (planned (known_pointers lists slot n) ptrs)
