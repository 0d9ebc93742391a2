-- A line written from where the text ends makes the text longer, and bytes after it stay as found.
-- Assumes nothing.
use Prim.Native.Nat.{ℕ, ◌+◌, ◌<◌, ◌≤◌, min}
use mathlib.Core.Path.{◌≡◌, sym, ◌∙◌}
use mathlib.Core.List.{List, ◌++◌}
use native.Mathlib.Omega.{arith}
use lib.ListN.{length, drop, length-append, length-drop}
use lib.Seq.{take-append_seam, drop-append-add, drop-drop}
use Rattle.model.specs.Replay.{most_room}
use Rattle.std.specs.Prelude.{Some, None}
use Rattle.report.specs.Written.{laid, written_at}
use Rattle.report.proofs.Writing.{written-full, written_next}

-- the lent report with the text from its start
abbrev pub shown : List ℕ → List ℕ → List ℕ
shown text old = text ++ drop (length text) old

module _ (old text next : List ℕ) (h : length text ≤ length old) where
  pub shown-long : length (shown text old) ≡ length old
  shown-long = rw (length-append, length-drop) (omega arith)

  shown-laid : laid (shown text old) (length text) next ≡ shown (text ++ next) old
  shown-laid =
      rw (
        take-append_seam text (drop (length text) old),
        drop-append-add text (drop (length text) old) (length next),
        drop-drop (length next) (length text) old,
        length-append text next,
      )

  pub written_on : length text + length next ≤ min (length old) most_room
      → written_at (shown text old) (length text) next ≡ record { wrote = Some (length (text ++ next)); report = shown (text ++ next) old }
  written_on fits =
      sym (written_next (shown text old) (length text) next (rw shown-long fits)) ∙ rw (shown-laid, ← length-append text next)

  pub written-stop : min (length old) most_room < length text + length next
      → written_at (shown text old) (length text) next ≡ record { wrote = None; report = shown text old }
  written-stop full = sym (written-full (shown text old) (length text) next (rw shown-long full))
