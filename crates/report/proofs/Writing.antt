-- A line written at the front of the rest of the report is laid in the whole report, or it does not fit.
-- Assumes nothing.
use borrow.Author.Tests.{le-leb, lt-leb}
use Prim.Native.Nat.{ℕ, ◌+◌, ◌-◌, ◌<◌, ◌≤◌, min}
use mathlib.Core.Path.{◌≡◌}
use mathlib.Core.List.{List, [], ◌++◌, append_assoc, append-nil}
use native.Mathlib.Omega.{arith}
use lib.ListN.{length, take, drop, set, length-append, length-drop, drop_of_length-le}
use lib.Seq.{take_all, drop-drop}
use Rattle.model.specs.Report.{spaced, line}
use Rattle.model.specs.Replay.{most_room}
use Rattle.std.specs.Prelude.{Some, None}
use Rattle.report.specs.Written.{laid, written_at}
use Rattle.report.proofs.Laid.{then-store, then-text}
use Rattle.report.proofs.Spaced.{two-long, line-long}

pub line-two-long : (w a b : List ℕ) → length (line w (a ++ b)) ≡ length w + length (spaced a) + length (spaced b) + 1
line-two-long w a b = let long = line-long w (a ++ b) in let both = two-long a b in omega arith

-- the word, the numbers, and LF
pub line-done : (old w ns l₁ l₂ : List ℕ) (p₁ p₂ : ℕ) → length (line w ns) ≤ length old → l₁ ≡ laid old 0 w → p₁ ≡ length w
    → l₂ ≡ laid l₁ p₁ (spaced ns) → p₂ ≡ p₁ + length (spaced ns) → set l₂ p₂ 10 ≡ laid old 0 (line w ns)
unfolding line
line-done old w ns l₁ l₂ p₁ p₂ fits e₁ q₁ e₂ q₂ =
    let long = line-long w ns in
    let front : length (w ++ spaced ns) ≡ length w + length (spaced ns) = length-append w (spaced ns) in
    let text = then-text old 0 w l₁ p₁ e₁ (omega arith) (spaced ns) l₂ (omega arith) e₂ in
    then-store old 0 (w ++ spaced ns) l₂ p₂ text (omega arith) 10 (omega arith)

module _ (old : List ℕ) (at : ℕ) (text : List ℕ) where
  pub written-full : min (length old) most_room < at + length text → record { wrote = None; report = old } ≡ written_at old at text
  unfolding written_at
  written-full h = rw (lt-leb (at + length text) (min (length old) most_room) h)

  pub written_next : at + length text ≤ min (length old) most_room
      → record { wrote = Some (at + length text); report = laid old at text } ≡ written_at old at text
  unfolding written_at
  written_next h = rw (le-leb (at + length text) (min (length old) most_room) h)

-- a text laid at the front of the rest is laid in the whole
pub rest-laid : (old : List ℕ) (at : ℕ) (text new : List ℕ) → at ≤ length old
    → new ≡ laid (take (length old - at) (drop at old)) 0 text
    → take at old ++ (new ++ drop (length old - at) (drop at old)) ≡ laid old at text
rest-laid old at text new h e =
    let long : length (drop at old) ≡ length old - at = length-drop at old in
    let short : length (drop at old) ≤ length old - at = omega arith in
    let none : drop (length old - at) (drop at old) ≡ [] = drop_of_length-le (drop at old) short in
    let z : 0 + length text ≡ length text = omega arith in
    rw (e, take_all (length old - at) (drop at old) (omega arith), none, z, drop-drop (length text) at old, append-nil (text ++ drop (at + length text) old))
    (simp append_assoc)
