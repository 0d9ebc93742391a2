-- What a replay leaves of the words, one record at a time.
-- Assumes nothing.
use borrow.Author.Tests.{lt-ltb, le-ltb, le-leb, lt-leb}
use Prim.Native.Nat.{ℕ, zero, suc, ◌+◌, ◌-◌, ◌<◌, ◌≤◌}
use mathlib.Core.Path.{◌≡◌, refl}
use mathlib.Core.Bool.{Bool, true, false, cond}
use mathlib.Core.List.{List}
use native.Mathlib.Omega.{arith}
use lib.Dec.{leb, ltb}
use lib.ListN.{length}
use Rattle.base_protocol.specs.declared.Step.{Step}
use Rattle.step.specs.Words.{Words, words_after}
use Rattle.std.proofs.Common.{Ok, Err}
use Rattle.log_records.specs.declared.Command.TheVariants.{Open, Ask}
use Rattle.log_records.specs.Records.{decoded_of}
use Rattle.log_records.proofs.Reading.{Told, NoStep}
use Rattle.replay.specs.Lent.{line_after, where_asked, words_for}

-- a record that asks for no step leaves the words
none-asked : (c : Told) → NoStep c → (w : Words) (on : Step → Words) → where_asked c w on ≡ w
none-asked (Ok (Open z clock)) other w on = refl
none-asked (Ok (Ask s)) other w on = absurd (other s refl)
none-asked (Err m) other w on = refl

-- a choice between the same
either : (b : Bool) (w : Words) → cond b w w ≡ w
either true w = refl
either false w = refl

module _ (room : ℕ) (log : List ℕ) where
  -- what is done behind a step
  abbrev onward : ℕ → ℕ → ℕ → Words → Step → Words
  onward n at wrote w s =
      cond (leb (wrote + length (line_after w s)) room)
      (words_for room log n (decoded_of log at).next (wrote + length (line_after w s)) (words_after w s))
      (words_after w s)

  -- at the log's end
  pub words-end : (n at wrote : ℕ) (w : Words) → length log ≤ at → words_for room log n at wrote w ≡ w
  unfolding words_for
  words-end zero at wrote w h = refl
  words-end (suc n) at wrote w h = rw (le-ltb at (length log) h)

  -- at a record that asks for no step
  pub words-none : (n at wrote : ℕ) (w : Words) → NoStep (decoded_of log at).command → words_for room log n at wrote w ≡ w
  unfolding words_for
  words-none zero at wrote w other = refl
  words-none (suc n) at wrote w other = rw (none-asked (decoded_of log at).command other w (λ s. onward n at wrote w s)) (either (ltb at (length log)) w)

  -- behind a step whose line does not fit
  pub words-full : (n at wrote : ℕ) (w : Words) → at < length log → length log ≤ at + n → (s : Step) → (decoded_of log at).command ≡ Ok (Ask s)
      → room < wrote + length (line_after w s) → words_for room log n at wrote w ≡ words_after w s
  unfolding words_for
  words-full zero at wrote w h k s e f = absurd (omega arith)
  words-full (suc n) at wrote w h k s e f = rw (lt-ltb at (length log) h, e, lt-leb _ _ f)

  -- behind one whose line fits
  pub words-on : (n at wrote : ℕ) (w : Words) → at < length log → length log ≤ at + n → (s : Step) → (decoded_of log at).command ≡ Ok (Ask s)
      → wrote + length (line_after w s) ≤ room
      → words_for room log n at wrote w ≡ words_for room log (n - 1) (decoded_of log at).next (wrote + length (line_after w s)) (words_after w s)
  unfolding words_for
  words-on zero at wrote w h k s e f = absurd (omega arith)
  words-on (suc n) at wrote w h k s e f = let m : suc n - 1 ≡ n = omega arith in rw (m, lt-ltb at (length log) h, e, le-leb _ _ f)
