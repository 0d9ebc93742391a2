-- Records spelled out byte by byte, little-endian, and what each is read as: every kind with fields of different bytes, and every way to be malformed.
-- Assumes nothing.
use mathlib.Core.Path.{◌≡◌, refl}
use mathlib.Core.Option.{Option, none, some}
use mathlib.Core.List.{List, [], ◌∷◌}
use Prim.Native.Nat.{ℕ}
use Rattle.model.specs.Refusals.{begin, capture, collect, rows, put, erase, prepare, install, end, publish, validate, abort}
use Rattle.model.specs.Log.{Command, Opening, Asking, number, widths, total, fields, command_of, whole, read_record}
use Rattle.base_protocol.specs.declared.Step.TheVariants.{Collect}
use Rattle.std.proofs.Common.{Ok, Err}
use Rattle.log_records.specs.declared.Command.TheVariants.{Ask}
use Rattle.log_records.specs.Records.{decoded_of}

-- opens every definition that reads a record, so that bytes compute
unfoldable computes : Unit {0}
unfolding number widths total fields command_of whole read_record decoded_of
computes = tt

-- what is read, with the rest of the log; none where the record is malformed
abbrev Read : Type 0
Read = Option (Command × List ℕ)

-- kind 1, with two bytes of the next record behind it
pub reads-open : ◌≡◌ {A = Read}
    (read_record (22 ∷ 0 ∷ 1 ∷ 0 ∷ 1 ∷ 2 ∷ 3 ∷ 4 ∷ 5 ∷ 6 ∷ 7 ∷ 8 ∷ 9 ∷ 10 ∷ 11 ∷ 12 ∷ 13 ∷ 14 ∷ 15 ∷ 16 ∷ 17 ∷ 18 ∷ 19 ∷ 20 ∷ 99 ∷ 98 ∷ []))
    (some (Opening (record { rows = 67305985; versions = 134678021; buckets = 202050057 }) 1446519769809227277, 99 ∷ 98 ∷ []))
unfolding computes
reads-open = refl

-- kind 2, with two bytes of the next record behind it
pub reads-begin : ◌≡◌ {A = Read} (read_record (2 ∷ 0 ∷ 2 ∷ 0 ∷ 99 ∷ 98 ∷ [])) (some (Asking begin, 99 ∷ 98 ∷ []))
unfolding computes
reads-begin = refl

-- kind 3, with two bytes of the next record behind it
pub reads-capture : ◌≡◌ {A = Read} (read_record (18 ∷ 0 ∷ 3 ∷ 0 ∷ 1 ∷ 2 ∷ 3 ∷ 4 ∷ 5 ∷ 6 ∷ 7 ∷ 8 ∷ 9 ∷ 10 ∷ 11 ∷ 12 ∷ 13 ∷ 14 ∷ 15 ∷ 16 ∷ 99 ∷ 98 ∷ []))
    (some (Asking (capture 578437695752307201 1157159078456920585), 99 ∷ 98 ∷ []))
unfolding computes
reads-capture = refl

-- kind 4, with two bytes of the next record behind it
pub reads-collect : ◌≡◌ {A = Read} (read_record (10 ∷ 0 ∷ 4 ∷ 0 ∷ 1 ∷ 2 ∷ 3 ∷ 4 ∷ 5 ∷ 6 ∷ 7 ∷ 8 ∷ 99 ∷ 98 ∷ []))
    (some (Asking (collect 578437695752307201), 99 ∷ 98 ∷ []))
unfolding computes
reads-collect = refl

-- kind 5, with two bytes of the next record behind it
pub reads-rows : ◌≡◌ {A = Read} (read_record (14 ∷ 0 ∷ 5 ∷ 0 ∷ 1 ∷ 2 ∷ 3 ∷ 4 ∷ 5 ∷ 6 ∷ 7 ∷ 8 ∷ 9 ∷ 10 ∷ 11 ∷ 12 ∷ 99 ∷ 98 ∷ []))
    (some (Asking (rows 578437695752307201 202050057), 99 ∷ 98 ∷ []))
unfolding computes
reads-rows = refl

-- kind 6, with two bytes of the next record behind it
pub reads-put : ◌≡◌ {A = Read}
    (read_record (30 ∷ 0 ∷ 6 ∷ 0
    ∷ 1 ∷ 2 ∷ 3 ∷ 4 ∷ 5 ∷ 6 ∷ 7 ∷ 8 ∷ 9 ∷ 10 ∷ 11 ∷ 12 ∷ 13 ∷ 14 ∷ 15 ∷ 16 ∷ 17 ∷ 18 ∷ 19 ∷ 20 ∷ 21 ∷ 22 ∷ 23 ∷ 24 ∷ 25 ∷ 26 ∷ 27 ∷ 28 ∷ 99 ∷ 98 ∷ []))
    (some (Asking (put 578437695752307201 202050057 1446519769809227277 2025241152513840661), 99 ∷ 98 ∷ []))
unfolding computes
reads-put = refl

-- kind 7, with two bytes of the next record behind it
pub reads-erase : ◌≡◌ {A = Read} (read_record (14 ∷ 0 ∷ 7 ∷ 0 ∷ 1 ∷ 2 ∷ 3 ∷ 4 ∷ 5 ∷ 6 ∷ 7 ∷ 8 ∷ 9 ∷ 10 ∷ 11 ∷ 12 ∷ 99 ∷ 98 ∷ []))
    (some (Asking (erase 578437695752307201 202050057), 99 ∷ 98 ∷ []))
unfolding computes
reads-erase = refl

-- kind 8, with two bytes of the next record behind it
pub reads-prepare : ◌≡◌ {A = Read} (read_record (10 ∷ 0 ∷ 8 ∷ 0 ∷ 1 ∷ 2 ∷ 3 ∷ 4 ∷ 5 ∷ 6 ∷ 7 ∷ 8 ∷ 99 ∷ 98 ∷ []))
    (some (Asking (prepare 578437695752307201), 99 ∷ 98 ∷ []))
unfolding computes
reads-prepare = refl

-- kind 9, with two bytes of the next record behind it
pub reads-install : ◌≡◌ {A = Read} (read_record (10 ∷ 0 ∷ 9 ∷ 0 ∷ 1 ∷ 2 ∷ 3 ∷ 4 ∷ 5 ∷ 6 ∷ 7 ∷ 8 ∷ 99 ∷ 98 ∷ []))
    (some (Asking (install 578437695752307201), 99 ∷ 98 ∷ []))
unfolding computes
reads-install = refl

-- kind 10, with two bytes of the next record behind it
pub reads_end : ◌≡◌ {A = Read} (read_record (10 ∷ 0 ∷ 10 ∷ 0 ∷ 1 ∷ 2 ∷ 3 ∷ 4 ∷ 5 ∷ 6 ∷ 7 ∷ 8 ∷ 99 ∷ 98 ∷ []))
    (some (Asking (end 578437695752307201), 99 ∷ 98 ∷ []))
unfolding computes
reads_end = refl

-- kind 11, with two bytes of the next record behind it
pub reads-publish : ◌≡◌ {A = Read} (read_record (10 ∷ 0 ∷ 11 ∷ 0 ∷ 1 ∷ 2 ∷ 3 ∷ 4 ∷ 5 ∷ 6 ∷ 7 ∷ 8 ∷ 99 ∷ 98 ∷ []))
    (some (Asking (publish 578437695752307201), 99 ∷ 98 ∷ []))
unfolding computes
reads-publish = refl

-- kind 12, with two bytes of the next record behind it
pub reads-validate : ◌≡◌ {A = Read} (read_record (10 ∷ 0 ∷ 12 ∷ 0 ∷ 1 ∷ 2 ∷ 3 ∷ 4 ∷ 5 ∷ 6 ∷ 7 ∷ 8 ∷ 99 ∷ 98 ∷ []))
    (some (Asking (validate 578437695752307201), 99 ∷ 98 ∷ []))
unfolding computes
reads-validate = refl

-- kind 13, with two bytes of the next record behind it
pub reads-abort : ◌≡◌ {A = Read} (read_record (10 ∷ 0 ∷ 13 ∷ 0 ∷ 1 ∷ 2 ∷ 3 ∷ 4 ∷ 5 ∷ 6 ∷ 7 ∷ 8 ∷ 99 ∷ 98 ∷ []))
    (some (Asking (abort 578437695752307201), 99 ∷ 98 ∷ []))
unfolding computes
reads-abort = refl

-- kind 0 is unknown
pub reads-no-kind-0 : ◌≡◌ {A = Read} (read_record (2 ∷ 0 ∷ 0 ∷ 0 ∷ [])) none
unfolding computes
reads-no-kind-0 = refl

-- kind 14 is unknown, whatever its length
pub reads-no-kind-14 : ◌≡◌ {A = Read} (read_record (10 ∷ 0 ∷ 14 ∷ 0 ∷ 1 ∷ 2 ∷ 3 ∷ 4 ∷ 5 ∷ 6 ∷ 7 ∷ 8 ∷ [])) none
unfolding computes
reads-no-kind-14 = refl

-- both bytes of the kind count
pub reads-no-kind-258 : ◌≡◌ {A = Read} (read_record (2 ∷ 0 ∷ 2 ∷ 1 ∷ [])) none
unfolding computes
reads-no-kind-258 = refl

-- a length too small for its kind: a capture as long as a collect
pub reads-no-short-length : ◌≡◌ {A = Read} (read_record (10 ∷ 0 ∷ 3 ∷ 0 ∷ 1 ∷ 2 ∷ 3 ∷ 4 ∷ 5 ∷ 6 ∷ 7 ∷ 8 ∷ [])) none
unfolding computes
reads-no-short-length = refl

-- a length too great for its kind: a begin as long as a collect
pub reads-no-long-length : ◌≡◌ {A = Read} (read_record (10 ∷ 0 ∷ 2 ∷ 0 ∷ 1 ∷ 2 ∷ 3 ∷ 4 ∷ 5 ∷ 6 ∷ 7 ∷ 8 ∷ [])) none
unfolding computes
reads-no-long-length = refl

-- both bytes of the length count
pub reads-no-length-258 : ◌≡◌ {A = Read} (read_record (2 ∷ 1 ∷ 2 ∷ 0 ∷ [])) none
unfolding computes
reads-no-length-258 = refl

-- a record cut in its last field
pub reads-no-cut-fields : ◌≡◌ {A = Read} (read_record (18 ∷ 0 ∷ 3 ∷ 0 ∷ 1 ∷ 2 ∷ 3 ∷ 4 ∷ 5 ∷ 6 ∷ 7 ∷ 8 ∷ 9 ∷ 10 ∷ 11 ∷ 12 ∷ 13 ∷ 14 ∷ 15 ∷ [])) none
unfolding computes
reads-no-cut-fields = refl

-- a record cut in its kind
pub reads-no-cut-kind : ◌≡◌ {A = Read} (read_record (2 ∷ 0 ∷ 2 ∷ [])) none
unfolding computes
reads-no-cut-kind = refl

-- a record cut in its length
pub reads-no-cut-length : ◌≡◌ {A = Read} (read_record (2 ∷ [])) none
unfolding computes
reads-no-cut-length = refl

-- a record behind another one, read at its place: the next one begins behind it
pub reads-at-its-place : decoded_of (2 ∷ 0 ∷ 2 ∷ 0 ∷ 10 ∷ 0 ∷ 4 ∷ 0 ∷ 8 ∷ 7 ∷ 6 ∷ 5 ∷ 4 ∷ 3 ∷ 2 ∷ 1 ∷ 2 ∷ 0 ∷ []) 4
    ≡ record { command = Ok (Ask (Collect 72623859790382856)); next = 16 }
unfolding computes
reads-at-its-place = refl

-- a malformed record leaves the place where it was, and so does a place past the end
pub reads-stuck : decoded_of (2 ∷ 0 ∷ 2 ∷ 0 ∷ 2 ∷ 0 ∷ 14 ∷ 0 ∷ []) 4 ≡ record { command = Err (record {}); next = 4 }
unfolding computes
reads-stuck = refl

pub reads-past-the-end : decoded_of (2 ∷ 0 ∷ 2 ∷ 0 ∷ []) 9 ≡ record { command = Err (record {}); next = 9 }
unfolding computes
reads-past-the-end = refl
