-- The bytes of a record, as document 01 lays them out.
use Rattle.std.specs.Prelude.{ℕ, zero, suc, ◌+◌, ◌/◌, ◌%◌, ◌<◌, ◌^◌, List, [], ◌∷◌, ◌++◌, length}
use Rattle.std.proofs.Math.Option.{none, some}
use Rattle.model.specs.Refusals.{begin, capture, collect, rows, write, prepare, install, end, publish, validate, abort}
use Rattle.model.specs.Log.{Command, Opening, Asking}

-- n in w bytes, the lowest first
unfoldable pub in_bytes : ℕ → ℕ → List ℕ
in_bytes zero n = []
in_bytes (suc w) n = n % 256 ∷ in_bytes w (n / 256)

-- a field: its width in bytes, and its number
abbrev pub Field : Type 0
Field = ℕ × ℕ

-- T, key, payload and clock are 8 bytes; rows, sizes and room are 4
abbrev pub eight : ℕ → Field
eight n = (8, n)

abbrev pub four : ℕ → Field
four n = (4, n)

-- the kinds
abbrev pub kind_of : Command → ℕ
kind_of (Opening z clock) = 1
kind_of (Asking begin) = 2
kind_of (Asking (capture t k)) = 3
kind_of (Asking (collect t)) = 4
kind_of (Asking (rows t room)) = 5
kind_of (Asking (write t r (some c))) = 6
kind_of (Asking (write t r none)) = 7
kind_of (Asking (prepare t)) = 8
kind_of (Asking (install t)) = 9
kind_of (Asking (end t)) = 10
kind_of (Asking (publish t)) = 11
kind_of (Asking (validate t)) = 12
kind_of (Asking (abort t)) = 13

-- the fields behind the kind, in their order
abbrev pub fields_in : Command → List Field
fields_in (Opening z clock) = four z.rows ∷ four z.versions ∷ four z.buckets ∷ eight clock ∷ []
fields_in (Asking begin) = []
fields_in (Asking (capture t k)) = eight t ∷ eight k ∷ []
fields_in (Asking (collect t)) = eight t ∷ []
fields_in (Asking (rows t room)) = eight t ∷ four room ∷ []
fields_in (Asking (write t r (some c))) = eight t ∷ four r ∷ eight c.0 ∷ eight c.1 ∷ []
fields_in (Asking (write t r none)) = eight t ∷ four r ∷ []
fields_in (Asking (prepare t)) = eight t ∷ []
fields_in (Asking (install t)) = eight t ∷ []
fields_in (Asking (end t)) = eight t ∷ []
fields_in (Asking (publish t)) = eight t ∷ []
fields_in (Asking (validate t)) = eight t ∷ []
fields_in (Asking (abort t)) = eight t ∷ []

-- fields one after the other
unfoldable pub laid_out : List Field → List ℕ
laid_out [] = []
laid_out (f ∷ fs) = in_bytes f.0 f.1 ++ laid_out fs

-- a record: 2-byte length of what follows, 2-byte kind, fields
unfoldable pub framed : ℕ → List Field → List ℕ
framed kind fs = in_bytes 2 (2 + length (laid_out fs)) ++ in_bytes 2 kind ++ laid_out fs

-- a command's bytes
unfoldable pub bytes_of : Command → List ℕ
bytes_of c = framed (kind_of c) (fields_in c)

-- every number fits its field
pub data Fit : List Field → Type 0 where
  none_left : Fit []
  one-fits : {f : Field} {fs : List Field} → f.1 < 256 ^ f.0 → Fit fs → Fit (f ∷ fs)

-- a list of bytes
pub data Bytes : List ℕ → Type 0 where
  no_bytes : Bytes []
  one_byte : {b : ℕ} {bs : List ℕ} → b < 256 → Bytes bs → Bytes (b ∷ bs)
