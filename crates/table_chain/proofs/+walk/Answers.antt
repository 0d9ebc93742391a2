-- `table_chain::walk` meets its contract.
-- Assumes nothing.
use borrow.Author.Tests.{eq-eqb, ne_eqb, lt-ltb, le-ltb}
use mathlib.Core.Path.{◌≡◌, ◌∙◌, sym}
use mathlib.Core.Bool.{cond, false}
use lib.Dec.{ltb, eqb}
use Prim.Native.Nat.{ℕ}
use mathlib.Core.List.{List}
use Rattle.table.specs.Fields.{xmin_of, xmax_of, next_of}
use Rattle.table_chain.specs.Chain.{step_from, visible_to, walk_from}
use Rattle.table_chain.proofs.Laws.{walk_step}
use Rattle.table_chain.proofs.+walk.Goals as goal

-- the version at p is not seen: the walk goes on from the next pointer, if that falls
unseen : (versions active : List ℕ) (xmax p : ℕ) → eqb p 0 ≡ false → visible_to active xmax (xmin_of versions p) (xmax_of versions p) ≡ false
    → walk_from versions active xmax p ≡ cond (ltb (next_of versions p) p) (walk_from versions active xmax (next_of versions p)) 0
unfolding step_from
unseen versions active xmax p nonzero not-seen = rw (walk_step, nonzero, not-seen)

pub returns-then-p-eq0 : goal.returns-then-p-eq0
unfolding step_from
returns-then-p-eq0 t c = rw (walk_step, eq-eqb _ _ c.if-p-eq0.true)

pub returns-then-sees_version : goal.returns-then-sees_version
unfolding step_from
returns-then-sees_version t c = rw (walk_step, ne_eqb _ _ c.if-p-eq0.false, sym c.sees_version.ensures ∙ c.if-sees_version.true)

pub returns-then-next-p : goal.returns-then-next-p
returns-then-next-p t c =
    c.walk.ensures ∙ sym (rw (
      unseen _ _ _ _ (ne_eqb _ _ c.if-p-eq0.false) (sym c.sees_version.ensures ∙ c.if-sees_version.false),
      ← c.word_of-next.ensures,
      lt-ltb _ _ c.if-next-p.true,
    ))

pub returns-else-next-p : goal.returns-else-next-p
returns-else-next-p t c =
    sym (rw (
      unseen _ _ _ _ (ne_eqb _ _ c.if-p-eq0.false) (sym c.sees_version.ensures ∙ c.if-sees_version.false),
      ← c.word_of-next.ensures,
      le-ltb _ _ c.if-next-p.false,
    ))
