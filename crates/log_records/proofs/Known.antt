-- The known kinds, and the lengths of their records.
-- Assumes nothing.
use borrow.Author.Tests.{eqb-true, eqb-false, leb-true, leb-false, ne_eqb, lt-leb}
use Prim.Native.Nat.{ℕ, zero, suc, ◌+◌, ◌≤◌, ◌<◌}
use mathlib.Core.Path.{◌≡◌, refl, sym}
use mathlib.Core.Bool.{Bool, true, false, and-false}
use mathlib.Core.Option.{Option, none, some}
use mathlib.Core.List.{List}
use native.Mathlib.Omega.{arith}
use lib.Dec.{eqb, leb}
use Rattle.model.specs.Log.{widths, total, fits, fields, command_of}
use Rattle.log_records.specs.Records.{length_of, length_with, command_in, field_in}

-- opens every definition that reads a kind and its fields
unfoldable pub kinds_computed : Unit {0}
unfolding length_of command_in field_in widths total fields command_of
kinds_computed = tt

-- P holds of k, and of the n - 1 numbers after it
abbrev pub Each : (ℕ → Type 0) → ℕ → ℕ → Type 0
Each P k zero = Unit {0}
Each P k (suc n) = P k × Each P (suc k) n

module _ (P : ℕ → Type 0) where
  this-or : (k j : ℕ) (b : Bool) → eqb k j ≡ b → P k → ((k ≡ j → ⊥) → P j) → P j
  this-or k j true e p more = rw (sym (eqb-true k j e)) p
  this-or k j false e p more = more (eqb-false k j e)

  pub one_of : (n k j : ℕ) → Each P k n → k ≤ j → j < k + n → P j
  one_of zero k j ps h i = absurd (omega arith)
  one_of (suc n) k j ps h i = this-or k j (eqb k j) refl ps.0 (λ ne. one_of n (suc k) j ps.1 (omega arith) (omega arith))

-- what the last arm of a `match` knows of j: it is none of the n numbers from k on
abbrev NoneOf : ℕ → ℕ → ℕ → Type 0
NoneOf j k zero = Unit {0}
NoneOf j k (suc n) = NoneOf j k n × (j ≡ k + n → ⊥)

-- from k on, it then lies behind them
pub behind : (n k j : ℕ) → NoneOf j k n → k ≤ j → k + n ≤ j
behind zero k j un h = omega arith
behind (suc n) k j un h = let more = behind n k j un.0 h in let ne = un.1 in omega (arith, more, ne)

widths-above : (kind : ℕ) → 13 < kind → widths kind ≡ none
unfolding widths
widths-above kind h =
    rw (
      ne_eqb kind 1 (λ e. omega arith),
      ne_eqb kind 2 (λ e. omega arith),
      ne_eqb kind 3 (λ e. omega arith),
      ne_eqb kind 5 (λ e. omega arith),
      ne_eqb kind 6 (λ e. omega arith),
      ne_eqb kind 7 (λ e. omega arith),
      lt-leb kind 13 h,
      and-false,
    )

length-unwide : (kind : ℕ) → widths kind ≡ none → length_of kind ≡ 65536
unfolding length_of
length-unwide kind e = rw e

widths-zero : widths 0 ≡ none
unfolding widths
widths-zero = refl

length_above : (kind : ℕ) → 13 < kind → length_of kind ≡ 65536
length_above kind h = length-unwide kind (widths-above kind h)

-- a kind that is none of the thirteen
pub widths-unknown : (kind : ℕ) → NoneOf kind 1 13 → widths kind ≡ none
widths-unknown zero un = widths-zero
widths-unknown (suc k) un = widths-above (suc k) (behind 13 1 (suc k) un (omega arith))

above-by : (kind : ℕ) (b : Bool) → leb kind 13 ≡ b → length_of kind < 65536 → kind ≤ 13
above-by kind true e h = leb-true kind 13 e
above-by kind false e h = let z = length_above kind (leb-false kind 13 e) in absurd (omega arith)

-- a length that two bytes can say is that of a known kind
pub known_of : (kind : ℕ) → length_of kind < 65536 → (1 ≤ kind) × (kind ≤ 13)
known_of zero h = let z = length-unwide 0 widths-zero in absurd (omega arith)
known_of (suc k) h = (omega arith, above-by (suc k) (leb (suc k) 13) refl h)

fits_by : (ws : Option (List ℕ)) (n : ℕ) → n < 65536 → fits ws n ≡ eqb n (length_with ws)
fits_by none n h = sym (ne_eqb n 65536 (λ e. omega arith))
fits_by (some ws) n h = refl

-- the code's test of a length is the model's
pub fits-length : (kind n : ℕ) → n < 65536 → fits (widths kind) n ≡ eqb n (length_of kind)
unfolding length_of
fits-length kind n h = fits_by (widths kind) n h
