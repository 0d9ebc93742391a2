-- The log: records from bytes, little-endian. A record is a 2-byte length of what follows, a 2-byte kind, and its fields.
use Rattle.std.specs.Prelude.{ℕ, ◌+◌, ◌*◌, Bool, false, cond, ◌&&◌, List, [], ◌∷◌, eqb, leb, length, take, drop, get_or}
use Rattle.std.proofs.Math.Option.{Option, none, some}
use Rattle.model.specs.Store.{Sizes}
use Rattle.model.specs.Refusals.{Step, begin, capture, collect, rows, put, erase, prepare, install, end, publish, validate, abort}

-- what a record asks for: a store of these sizes with this clock, or a step of the store
pub data Command : Type 0 where
  Opening : Sizes → ℕ → Command
  Asking : Step → Command

-- the number of some bytes, the lowest first
unfoldable pub number : List ℕ → ℕ
number [] = 0
number (b ∷ bs) = b + 256 * number bs

-- the widths of a kind's fields: a transaction number, a key, a payload and the clock have 8 bytes; rows, sizes and room 4
unfoldable pub widths : ℕ → Option (List ℕ)
widths kind =
    cond (eqb kind 1) (some (4 ∷ 4 ∷ 4 ∷ 8 ∷ []))
    (cond (eqb kind 2) (some [])
    (cond (eqb kind 3) (some (8 ∷ 8 ∷ []))
    (cond (eqb kind 5) (some (8 ∷ 4 ∷ []))
    (cond (eqb kind 6) (some (8 ∷ 4 ∷ 8 ∷ 8 ∷ []))
    (cond (eqb kind 7) (some (8 ∷ 4 ∷ []))
    (cond (leb 4 kind && leb kind 13) (some (8 ∷ []))
    none))))))

unfoldable pub total : List ℕ → ℕ
total [] = 0
total (w ∷ ws) = w + total ws

-- the length is that of a known kind: 2 for the kind itself, and its fields
abbrev pub fits : Option (List ℕ) → ℕ → Bool
fits none len = false
fits (some ws) len = eqb len (2 + total ws)

-- the fields, each from its bytes
unfoldable pub fields : List ℕ → List ℕ → List ℕ
fields [] bytes = []
fields (w ∷ ws) bytes = number (take w bytes) ∷ fields ws (drop w bytes)

abbrev pub fields_of : Option (List ℕ) → List ℕ → List ℕ
fields_of none bytes = []
fields_of (some ws) bytes = fields ws bytes

-- kinds 1 to 13 of document 01; f i is field i, counted from 0
unfoldable pub command_of : ℕ → (ℕ → ℕ) → Command
command_of kind f =
    cond (eqb kind 1) (Opening (record { rows = f 0; versions = f 1; buckets = f 2 }) (f 3))
    (Asking
    (cond (eqb kind 2) begin
    (cond (eqb kind 3) (capture (f 0) (f 1))
    (cond (eqb kind 4) (collect (f 0))
    (cond (eqb kind 5) (rows (f 0) (f 1))
    (cond (eqb kind 6) (put (f 0) (f 1) (f 2) (f 3))
    (cond (eqb kind 7) (erase (f 0) (f 1))
    (cond (eqb kind 8) (prepare (f 0))
    (cond (eqb kind 9) (install (f 0))
    (cond (eqb kind 10) (end (f 0))
    (cond (eqb kind 11) (publish (f 0))
    (cond (eqb kind 12) (validate (f 0)) (abort (f 0))))))))))))))

-- the length that the first two bytes give, the kind after it, and the bytes of the fields
abbrev pub length_in : List ℕ → ℕ
length_in log = number (take 2 log)

abbrev pub kind_in : List ℕ → ℕ
kind_in log = number (take 2 (drop 2 log))

-- a record that stands whole at the front of the log, of a known kind and of its length
unfoldable pub whole : List ℕ → Bool
whole log = leb 4 (length log) && leb (2 + length_in log) (length log) && fits (widths (kind_in log)) (length_in log)

-- what it asks for, with the rest of the log; none where the log is malformed
unfoldable pub read_record : List ℕ → Option (Command × List ℕ)
read_record log =
    cond (whole log)
    (some (command_of (kind_in log) (λ i. get_or (fields_of (widths (kind_in log)) (drop 4 log)) i 0), drop (2 + length_in log) log))
    none
