-- Words that stand for a good store do so after any step.
-- Assumes nothing.
use mathlib.Core.Path.{◌≡◌, sym, ap, subst, ◌∙◌}
use mathlib.Core.List.{[], ◌∷◌}
use Rattle.model.specs.Store.{Store}
use Rattle.model.specs.Refusals.{Step as Asked}
use Rattle.model.specs.Machine.{step, step_in, run}
use Rattle.model.specs.Machine as machine
use Rattle.model.proofs.Good.{Good, good-run, step-in}
use Rattle.base_protocol.specs.declared.Step.{Step}
use Rattle.base_protocol.specs.View.{asked}
use Rattle.step.specs.Words.{Words, view, words_after, Sized}
use Rattle.step_bridge.proofs.Same.{Same}

good-step : (v : Store) → Good v → (a : Asked) → Good (step_in v a).store
unfolding run
good-step v g a = subst (λ (o : machine.Stepped). Good o.store) (step-in v g a) (good-run v g (a ∷ []))

-- what holds of a store of words that stands for a good one
pub record Stands (w : Words) : Type 0 where
  pub sized : Sized w
  pub good : Good (view w)

pub step-stands : (w : Words) (s : Step) → Good (view w) → Same w s → Stands (words_after w s)
step-stands w s g h = record { sized = h.sized; good = subst (λ (v : Store). Good v) (sym h.store) (good-step (view w) g (asked s)) }

-- the public step, which tests the shape first, is the same there
pub step-view : (w : Words) (s : Step) → Good (view w) → Same w s → view (words_after w s) ≡ (step (view w) (asked s)).store
step-view w s g h = h.store ∙ sym (ap (λ (o : machine.Stepped). o.store) (step-in (view w) g (asked s)))
