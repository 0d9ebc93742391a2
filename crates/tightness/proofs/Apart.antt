-- How two outcomes are told apart: by a number that is read off both.
-- Assumes nothing.
use Prim.Native.Nat.{ℕ, suc}
use mathlib.Core.Path.{◌≡◌, sym, ap, ◌∙◌}
use mathlib.Core.Bool.{Bool, false, cond, true≢false}
use lib.Dec.{eqb}
use borrow.Author.Tests.{eq-eqb}
use Rattle.std.specs.Prelude.{Option, Some, None}
use Rattle.base_protocol.specs.View.{number_told}
use Rattle.base_protocol.specs.declared.Answer.{Answer}
use Rattle.base_protocol.specs.declared.Answer.TheVariants as tell
use Rattle.txn_needs.specs.Needs.{Listed}
use Rattle.tightness.specs.Wrong.{Excludes}

-- a number that is read off both outcomes differs
pub apart : {A B : Type 0} {right wrong : A → B} (input : A) (look : B → ℕ) → eqb (look (right input)) (look (wrong input)) ≡ false → Excludes right wrong
apart input look d = record { input = input; differ = λ e. true≢false (sym (eq-eqb _ _ (ap look e)) ∙ d) }

-- what the one function shuts out of the other, the other shuts out of the one
pub either_way : {A B : Type 0} {right wrong : A → B} → Excludes right wrong → Excludes wrong right
either_way x = record { input = x.input; differ = λ e. x.differ (sym e) }

-- a number itself
abbrev pub itself : ℕ → ℕ
itself n = n

-- a test as a number
abbrev pub bit : Bool → ℕ
bit b = cond b 1 0

-- the number in an answer
abbrev pub number_in : Answer → ℕ
number_in tell.Done = 0
number_in (tell.Number n) = n
number_in (tell.Stamp n) = n
number_in (tell.Count n) = n
number_in (tell.Rows n) = n
number_in (tell.Judged v) = 0
number_in (tell.Refused r) = number_told r

-- a place counted from 1, 0 for none
abbrev pub place_found : Option ℕ → ℕ
place_found (Some i) = suc i
place_found None = 0

-- how many numbers are listed
abbrev pub count : Listed → ℕ
count l = l.n
