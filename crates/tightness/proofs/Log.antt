-- Wrong bodies of the crate `log`.
-- Assumes nothing.
use Prim.Native.Nat.{ℕ, ◌+◌}
use mathlib.Core.Path.{refl}
use mathlib.Core.List.{List, [], ◌∷◌}
use lib.ListN.{length, drop}
use denote.Ref.{Bor}
use Rattle.model.specs.Log.{length_in}
use Rattle.log_records.specs.declared.Decoded.{Decoded}
use Rattle.log_records.specs.declared.Reader.{Reader}
use Rattle.log_records.specs.Records.{decoded_of, reader_at, Taken, taken_by}
use Rattle.tightness.specs.Wrong.{Excludes}
use Rattle.tightness.proofs.Apart.{apart}
use Rattle.tightness.proofs.Computes.{computes}

-- a log of one begin
abbrev one_begin : List ℕ
one_begin = 2 ∷ 0 ∷ 2 ∷ 0 ∷ []

abbrev decode_at : List ℕ × ℕ → Decoded
decode_at (log, at) = decoded_of log at

-- `decode_at`: always the first record
pub decode-at-start : Excludes decode_at (λ (log, at). decoded_of log 0)
unfolding computes
decode-at-start = apart (one_begin, 1) (λ (d : Decoded). d.next) refl

-- `decode_at`: the 2 bytes of the length are not passed over
pub decode-at-next-short : Excludes decode_at (λ (log, at). record { command = (decoded_of log at).command; next = at + length_in (drop at log) })
unfolding computes
decode-at-next-short = apart (one_begin, 0) (λ (d : Decoded). d.next) refl

-- bytes that someone has lent
abbrev lent : List ℕ → Bor (List ℕ)
lent log = record { ref_ptr = (0, 0); now = log }

abbrev new : List ℕ × ℕ → Reader
new (log, at) = reader_at (lent log) at

-- `new`: the reader stands at the start
pub new-at-start : Excludes new (λ (log, at). reader_at (lent log) 0)
new-at-start = apart (one_begin, 1) (λ (r : Reader). r.at) refl

-- `new`: the reader has only the bytes from its place on
pub new-log-cut : Excludes new (λ (log, at). reader_at (lent (drop at log)) at)
new-log-cut = apart (one_begin, 1) (λ (r : Reader). length r.log.now) refl

abbrev next : List ℕ × ℕ → Taken
next (log, at) = taken_by (reader_at (lent log) at)

-- `next`: the reader comes back where it was
pub next-not-moved : Excludes next (λ (log, at). record { command = (decoded_of log at).command; reader = reader_at (lent log) at })
unfolding computes
next-not-moved = apart (one_begin, 0) (λ (t : Taken). t.reader.at) refl

-- `next`: the reader moves on by the record's length alone, and not past the 2 bytes that say it
pub next-moved-short : Excludes next
    (λ (log, at). record { command = (decoded_of log at).command; reader = reader_at (lent log) (at + length_in (drop at log)) })
unfolding computes
next-moved-short = apart (one_begin, 0) (λ (t : Taken). t.reader.at) refl

-- `next`: the reader comes back without the bytes that it has passed
pub next-log-cut : Excludes next
    (λ (log, at). record { command = (decoded_of log at).command; reader = reader_at (lent (drop (decoded_of log at).next log)) (decoded_of log at).next })
unfolding computes
next-log-cut = apart (one_begin, 0) (λ (t : Taken). length t.reader.log.now) refl
