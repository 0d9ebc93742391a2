-- Each turn leaves one pointer more as it is planned.
use native.Mathlib.Nat.{zero-add}
use Rattle.std.proofs.Common.{refl, ◌≡◌, ◌+◌, ◌∙◌, cond, eqb, eq-eqb, ne_eqb, arith}
use Rattle.read_record.specs.Recording.{known_pointers}
use Rattle.read_record.proofs.Laws.{plan-turn, plan-count, plan-done, plan-counted}
use Rattle.read_record.proofs.plan.Goals.{then-new-ne0, else-new-ne0}
use Rattle.read_record.proofs.plan.Goals as goal

pub loop-i-init : goal.loop-i-init
loop-i-init c = record { few = omega arith; left = refl; count = zero-add _ }

pub loop-i-preserved : goal.loop-i-preserved
loop-i-preserved c =
    let a = c.args in
    let l = c.loop-i in
    let p = c.new_pointer-new.result in
    let known = known_pointers a.lists.now a.slot a.records_n in
    let counted : c.if-new-ne0.added ≡ cond (eqb p 0) l.added (l.added + 1) = elim c.if-new-ne0.branch [
      | then-new-ne0 w ↦ rw (ne_eqb p 0 w.if-new-ne0.true, w.added-is)
      | else-new-ne0 w ↦ rw (eq-eqb p 0 w.if-new-ne0.false, w.added-is)
    ] in
    record {
      few = elim c.if-new-ne0.branch [ then-new-ne0 w ↦ omega arith | else-new-ne0 w ↦ omega arith ];
      left = plan-turn known a.through.now l.through l.i p (omega arith) l.invariant.left c.new_pointer-new.ensures;
      count =
          rw counted
          (plan-count known a.through.now l.through l.i p (omega arith) l.invariant.left c.new_pointer-new.ensures l.added l.invariant.count);
    }

pub returns-clause-added : goal.returns-clause-added
returns-clause-added c =
    let a = c.args in
    plan-counted (known_pointers a.lists.now a.slot a.records_n) a.through.now c.loop-i.i (omega arith) c.loop-i.added c.loop-i.invariant.count

pub returns-clause-left : goal.returns-clause-left
returns-clause-left c =
    let a = c.args in
    c.loop-i.invariant.left ∙ plan-done (known_pointers a.lists.now a.slot a.records_n) a.through.now c.loop-i.i (omega arith)
