-- What is read at a place of the log, from the length and the kind that stand there.
-- Assumes nothing.
use borrow.Author.Tests.{ne_eqb, eq-eqb, lt-leb, le-leb}
use Prim.Native.Nat.{ℕ, ◌+◌, ◌-◌, ◌≤◌, ◌<◌}
use mathlib.Core.Path.{◌≡◌, ◌∙◌}
use mathlib.Core.Bool.{true, false, ◌&&◌, and-false}
use mathlib.Core.Option.{none}
use mathlib.Core.List.{List}
use native.Mathlib.Omega.{arith}
use lib.Dec.{leb}
use lib.ListN.{length, take, drop, length-drop}
use lib.Seq.{drop-drop}
use Rattle.std.proofs.Common.{Ok}
use Rattle.model.specs.Log.{number, widths, fits, fields, whole, command_of, read_record}
use Rattle.log_records.specs.declared.Command.TheVariants.{Open, Ask}
use Rattle.log_records.specs.Records.{length_of, field_in, command_in, malformed_at, decoded_of}
use Rattle.log_records.proofs.Known.{fits-length}
use Rattle.base_protocol.specs.declared.Step.TheVariants as ask

-- the fields of the records that have more than one, each from its place
module _ (log : List ℕ) (at : ℕ) where
  pub opened : command_in 1 (drop at log)
      ≡ Open
      (record {
        rows = number (take 4 (drop at log));
        versions = number (take 4 (drop (at + 4) log));
        buckets = number (take 4 (drop (at + 8) log));
      })
      (number (take 8 (drop (at + 12) log)))
  unfolding command_in field_in widths fields command_of
  opened =
      let l = drop at log in
      rw (← drop-drop 4 at log, ← drop-drop 8 at log, ← drop-drop 12 at log, ← drop-drop 4 8 l, ← drop-drop 4 4 l)

  pub captured : command_in 3 (drop at log) ≡ Ask (ask.Capture (number (take 8 (drop at log))) (number (take 8 (drop (at + 8) log))))
  unfolding command_in field_in widths fields command_of
  captured = rw (← drop-drop 8 at log)

  pub roomed : command_in 5 (drop at log) ≡ Ask (ask.Rows (number (take 8 (drop at log))) (number (take 4 (drop (at + 8) log))))
  unfolding command_in field_in widths fields command_of
  roomed = rw (← drop-drop 8 at log)

  pub putted : command_in 6 (drop at log)
      ≡ Ask
      (ask.Put (number (take 8 (drop at log))) (number (take 4 (drop (at + 8) log))) (number (take 8 (drop (at + 12) log)))
      (number (take 8 (drop (at + 20) log))))
  unfolding command_in field_in widths fields command_of
  putted =
      let l = drop at log in
      rw (← drop-drop 8 at log, ← drop-drop 12 at log, ← drop-drop 20 at log, ← drop-drop 8 12 l, ← drop-drop 4 8 l)

  pub erased : command_in 7 (drop at log) ≡ Ask (ask.Erase (number (take 8 (drop at log))) (number (take 4 (drop (at + 8) log))))
  unfolding command_in field_in widths fields command_of
  erased = rw (← drop-drop 8 at log)

module _ (log : List ℕ) (at : ℕ) where
  not-whole : whole (drop at log) ≡ false → decoded_of log at ≡ malformed_at at
  unfolding decoded_of read_record
  not-whole e = rw e

  pub decoded-short : length log < at + 4 → decoded_of log at ≡ malformed_at at
  unfolding whole
  decoded-short h = not-whole (rw (lt-leb 4 (length (drop at log)) (rw length-drop (omega arith))))

  -- n is the length that stands there, k the kind
  module _ (n k : ℕ) (en : n ≡ number (take 2 (drop at log))) (ek : k ≡ number (take 2 (drop (at + 2) log))) where
    whole-at : whole (drop at log) ≡ leb 4 (length log - at) && leb (2 + n) (length log - at) && fits (widths k) n
    unfolding whole
    whole-at = rw (drop-drop 2 at log, ← en, ← ek, length-drop)

    pub decoded-cut : length log < at + 2 + n → decoded_of log at ≡ malformed_at at
    decoded-cut h = not-whole (whole-at ∙ rw (lt-leb (2 + n) (length log - at) (omega arith), and-false))

    pub decoded-unknown : widths k ≡ none → decoded_of log at ≡ malformed_at at
    decoded-unknown e = not-whole (whole-at ∙ rw (e, and-false))

    pub decoded-unlike : n < 65536 → (n ≡ length_of k → ⊥) → decoded_of log at ≡ malformed_at at
    decoded-unlike s ne = not-whole (whole-at ∙ rw (fits-length k n s, ne_eqb n (length_of k) ne, and-false))

    pub decoded-whole : at + 4 ≤ length log → n < 65536 → n ≡ length_of k → at + 2 + n ≤ length log
        → decoded_of log at ≡ record { command = Ok (command_in k (drop (at + 4) log)); next = at + 2 + n }
    unfolding decoded_of read_record command_in field_in
    decoded-whole h s e i =
        let w : whole (drop at log) ≡ true = whole-at
        ∙ rw (le-leb 4 (length log - at) (omega arith), le-leb (2 + n) (length log - at) (omega arith), fits-length k n s, eq-eqb n (length_of k) e) in
        rw (w, drop-drop 2 at log, drop-drop 4 at log, ← en, ← ek)
