-- A step over the words against the model's: the frame that every step shares.
-- Assumes nothing.
use Prim.Native.Nat.{ℕ}
use mathlib.Core.Path.{◌≡◌, refl, sym, ap, subst}
use mathlib.Core.Bool.{Bool, not}
use mathlib.Core.List.{List, ◌∷◌}
use Rattle.model.specs.Store as model
use Rattle.model.specs.Refusals.{Step as Asked, Refusal, WrongPhase}
use Rattle.model.specs.Machine as machine
use Rattle.model.specs.Machine.{rule, actor, gives, lent_after, carried, after_refusal, step_in}
use Rattle.model.proofs.Ruled.{phase-of, own-tests}
use Rattle.base_protocol.specs.declared.Step.{Step}
use Rattle.base_protocol.specs.declared.Answer.{Answer}
use Rattle.base_protocol.specs.declared.Answer.TheVariants as tell
use Rattle.base_protocol.specs.View.{asked, told, refusal_told}
use Rattle.step.specs.Steps.{Moved}
use Rattle.step.specs.Words.{Words, view, place_for, moved_by, Sized}
use Rattle.step_bridge.proofs.Placed.{after, unmoved, unmoved-same}

-- a store is its parts
pub same_store : (s s' : model.Store) → s.sizes ≡ s'.sizes → s.clock ≡ s'.clock → s.chains ≡ s'.chains → s.index ≡ s'.index → s.held ≡ s'.held
    → s.txns ≡ s'.txns → s ≡ s'
same_store s s' a b c d e f =
    parts s.sizes s'.sizes s.clock s'.clock s.chains s'.chains s.index s'.index s.held s'.held s.txns s'.txns a b c d e f
  where
    parts : (z z' : model.Sizes) (n n' : ℕ) (c c' : model.Chains) (x x' : model.Index) (h h' : model.Held) (t t' : ℕ → model.Txn) → z ≡ z' → n ≡ n'
        → c ≡ c' → x ≡ x' → h ≡ h' → t ≡ t'
        → ◌≡◌ {A = model.Store} (record { sizes = z; clock = n; chains = c; index = x; held = h; txns = t })
        (record { sizes = z'; clock = n'; chains = c'; index = x'; held = h'; txns = t' })
    parts z z' n n' c c' x x' h h' t t' a b d e f g = rw (a, b, d, e, f, g)

-- and so is what is held
pub two-held : (f f' h h' : ℕ → ℕ) → f ≡ f' → h ≡ h' → ◌≡◌ {A = model.Held} (record { holder = f; claim = h }) (record { holder = f'; claim = h' })
two-held f f' h h' a b = rw (a, b)

-- what is left at a place is a step's outcome, and is in order
pub record SameAt (w : Words) (p : ℕ) (m : Moved) (out : machine.Stepped) : Type 0 where
  pub store : view (after w p m) ≡ out.store
  pub answer : m.stepped.answer ≡ told out.answer
  pub lent : m.found ≡ lent_after out.answer w.tables.found
  pub sized : Sized (after w p m)

-- what is left of the words after a step is the model's step on what they stand for, and so is what is left of the lent row list
pub record SameAs (w : Words) (s : Step) (m : Moved) : Type 0 where
  pub store : view (after w (place_for w.txns s) m) ≡ (step_in (view w) (asked s)).store
  pub answer : m.stepped.answer ≡ told (step_in (view w) (asked s)).answer
  pub lent : m.found ≡ lent_after (step_in (view w) (asked s)).answer w.tables.found
  pub sized : Sized (after w (place_for w.txns s) m)

-- a step of the words is the model's
abbrev pub Same : Words → Step → Type 0
Same w s = SameAs w s (moved_by w s)

-- an answer that changes nothing, and so every refusal but a stale stamp's
pub unmoved-at : (w : Words) → Sized w → (p : ℕ) (a : Answer) (o : machine.Answer) → a ≡ told o → w.tables.found ≡ lent_after o w.tables.found
    → SameAt w p (unmoved w p a) (gives (view w) o)
unmoved-at w z p a o e f = record {
  store = ap (λ (x : Words). view x) (unmoved-same w p a);
  answer = e;
  lent = f;
  sized = subst (λ (x : Words). Sized x) (sym (unmoved-same w p a)) z;
}

pub refused-same : (w : Words) → Sized w → (p : ℕ) (r : Refusal)
    → SameAt w p (unmoved w p (tell.Refused (refusal_told r))) (gives (view w) (machine.Refused r))
refused-same w z p r = unmoved-at w z p (tell.Refused (refusal_told r)) (machine.Refused r) refl refl

-- the tests of a step once its transaction is found: the phase, and its own
abbrev pub later-tests : model.Store → Asked → List (Bool × Refusal)
later-tests v a = (not ((rule a).right (phase-of v a)), WrongPhase) ∷ own-tests v a
