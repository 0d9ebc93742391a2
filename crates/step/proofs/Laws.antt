-- Begin, publish and abort leave the lent row list alone.
-- Assumes nothing.
use Prim.Native.Nat.{ℕ}
use mathlib.Core.Path.{◌≡◌, refl, ap}
use mathlib.Core.Bool.{Bool, true, false, cond}
use mathlib.Core.List.{List}
use native.Mathlib.Omega.{arith}
use Rattle.base_protocol.specs.declared.Step.{Step}
use Rattle.base_protocol.specs.declared.Step.TheVariants as ask
use Rattle.txn_places.specs.Places.{misses_of}
use Rattle.step.specs.declared.Place.{Place}
use Rattle.step.specs.Steps.{Tables, Moved, done_by, missed, step_of, keeps_of}

-- a step that keeps its transaction is none that does not
pub unkept : ◌≡◌ {A = Bool} true false → ⊥
unkept e = let z : ◌≡◌ {A = ℕ} 1 0 = ap (λ (b : Bool). cond b 1 0) e in absurd (omega arith)

-- begin, publish and abort leave the lent row list alone
module _ (found : List ℕ) where
  abbrev pub beside : Moved → Moved
  beside m = record { stepped = m.stepped; rows = m.rows; versions = m.versions; buckets = m.buckets; lists = m.lists; found = found }

  module _ (b : Tables) (p : Place) where
    abbrev lent : Tables
    lent = record { rows = b.rows; versions = b.versions; buckets = b.buckets; lists = b.lists; found = found }

    found-done : (s : Step) → keeps_of s ≡ false → beside (done_by b p s) ≡ done_by lent p s
    found-done ask.Begin q = refl
    found-done (ask.Capture n k) q = absurd (unkept q)
    found-done (ask.Collect n) q = absurd (unkept q)
    found-done (ask.Rows n room) q = absurd (unkept q)
    found-done (ask.Put n r k payload) q = absurd (unkept q)
    found-done (ask.Erase n r) q = absurd (unkept q)
    found-done (ask.Prepare n) q = absurd (unkept q)
    found-done (ask.Install n) q = absurd (unkept q)
    found-done (ask.End n) q = absurd (unkept q)
    found-done (ask.Publish n) q = refl
    found-done (ask.Validate n) q = absurd (unkept q)
    found-done (ask.Abort n) q = refl

    pub found-kept : (s : Step) → keeps_of s ≡ false → beside (step_of b p s) ≡ step_of lent p s
    unfolding step_of
    found-kept s q = by (misses_of p.txn.number s)
      where
        by : (miss : Bool) → beside (cond miss (missed b p) (done_by b p s)) ≡ cond miss (missed lent p) (done_by lent p s)
        by true = refl
        by false = found-done s q
