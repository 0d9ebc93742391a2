-- Wrong bodies of the crate `txn_begin`.
-- Assumes nothing.
use Prim.Native.Nat.{ℕ}
use mathlib.Core.Path.{refl}
use mathlib.Core.Bool.{cond}
use mathlib.Core.List.{List}
use lib.ListN.{set, replicate}
use Rattle.base_limits.specs.Limits.{most_live}
use Rattle.model.specs.Refusals.{NoNumbers}
use Rattle.base_protocol.specs.View.{refusal_told}
use Rattle.txn.specs.Methods.{idle_of}
use Rattle.txn.specs.declared.Phase.TheVariants as phase
use Rattle.txn.specs.declared.Transaction.{Transaction}
use Rattle.txn_begin.specs.declared.Begun.{Begun}
use Rattle.txn_begin.specs.Begin.{snapshot_of, spent, begun_of, refused_begin, begin_of}
use Rattle.tightness.specs.Wrong.{Excludes}
use Rattle.tightness.proofs.Apart.{apart, number_in}
use Rattle.tightness.proofs.Computes.{computes}
use Rattle.tightness.proofs.Small.{live}

-- what begin is given: the active numbers, how many are live, the clock, and the record of the place
abbrev Given : Type 0
Given = List ℕ × ℕ × ℕ × Transaction

abbrev begins : Given → Begun
begins (active, n, clock, t) = begin_of active n clock t

-- transaction 1 is active, and the clock is 2
abbrev after_one : Transaction → Given
after_one t = (set (replicate most_live 0) 0 1, 1, 2, t)

-- `begin`: a place that is not free is taken
pub begin-takes-any-place : Excludes begins
    (λ (active, n, clock, t). cond (spent clock n) (refused_begin t clock (refusal_told NoNumbers)) (begun_of t (snapshot_of active clock) clock))
unfolding computes
begin-takes-any-place = apart (after_one (live 1 phase.Open)) (λ (b : Begun). number_in b.answer) refl

-- `begin`: the snapshot has no active numbers
pub begin-nobody-active : Excludes begins (λ (active, n, clock, t). begin_of (replicate most_live 0) n clock t)
unfolding computes
begin-nobody-active = apart (after_one (idle_of 1)) (λ (b : Begun). b.txn.snapshot.active_n) refl
