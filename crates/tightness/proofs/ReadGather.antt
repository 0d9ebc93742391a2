-- Wrong bodies of the crate `read_gather`.
-- Assumes nothing.
use Prim.Native.Nat.{ℕ, suc}
use mathlib.Core.Path.{refl}
use mathlib.Core.List.{List, [], ◌∷◌}
use Rattle.txn.specs.declared.Phase.TheVariants as phase
use Rattle.txn.specs.declared.Transaction.{Transaction}
use Rattle.read_gather.specs.Gathering.{candidate_rows, wanted_rows, Run, copied}
use Rattle.tightness.specs.Wrong.{Excludes}
use Rattle.tightness.proofs.Apart.{apart}
use Rattle.tightness.proofs.Computes.{computes}
use Rattle.tightness.proofs.Small.{writer, puts}

-- what gather is given: lists, the place for the rows, the record and the bound
abbrev Gathered : Type 0
Gathered = List ℕ × List ℕ × Transaction × ℕ

abbrev gathers : Gathered → Run
gathers (lists, out, t, bound) = copied out 0 bound (wanted_rows lists t)

-- one pending write of row 0, and a bound
abbrev one_write : ℕ → Gathered
one_write bound = (puts, 9 ∷ [], writer phase.Open, bound)

-- `gather`: the own pending rows are left out
pub gather-candidates-only : Excludes gathers (λ (lists, out, t, bound). copied out 0 bound (candidate_rows lists t.slot t.candidates_n))
unfolding computes
gather-candidates-only = apart (one_write 1) (λ (r : Run). r.n) refl

-- `gather`: the bound itself is below the bound
pub gather-bound-in : Excludes gathers (λ (lists, out, t, bound). copied out 0 (suc bound) (wanted_rows lists t))
unfolding computes
gather-bound-in = apart (one_write 0) (λ (r : Run). r.n) refl
