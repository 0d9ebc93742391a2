-- What the loop keeps beside the records: their numbers, those that are active, and the reserved versions.
-- Assumes nothing.
use Prim.Native.Nat.{ℕ, zero, suc, ◌<◌}
use mathlib.Core.Path.{◌≡◌, refl, ap, ◌∙◌}
use mathlib.Core.List.{List, [], ◌∷◌, map}
use native.Mathlib.Omega.{arith}
use lib.ListN.{length, get_or, set}
use Rattle.base_protocol.specs.declared.Step.{Step}
use Rattle.txn.specs.Methods.{idle_of}
use Rattle.txn.specs.declared.Transaction.{Transaction}
use Rattle.txn_places.specs.declared.Others.{Others}
use Rattle.txn_places.specs.Places.{wanted_of, place_in, active_number, prepared_count}
use Rattle.step.specs.Steps.{Moved, step_of}
use Rattle.step.specs.Words.{Words, others_in, place_for, extent_in, moved_by}
use Rattle.txn_places.proofs.Laws.{default-any}

map-set : {A B : Type 0} (f : A → B) (l : List A) (i : ℕ) (a : A) → map f (set l i a) ≡ set (map f l) i (f a)
map-set f [] i a = refl
map-set f (x ∷ l) zero a = refl
map-set f (x ∷ l) (suc i) a = ap (λ (m : List _). f x ∷ m) (map-set f l i a)

-- the three arrays as one
abbrev pub others_of : List ℕ → List ℕ → List ℕ → Others
others_of numbers active prepared = record { numbers = numbers; active = active; prepared = prepared }

-- a record stored back, and what is kept of it
pub others-after : (numbers active prepared : List ℕ) (ts : List Transaction) (k : ℕ) (t : Transaction) (a p : ℕ)
    → others_of numbers active prepared ≡ others_in ts
    → a ≡ active_number t.number t.phase → p ≡ prepared_count t.number t.phase t.writes_n
    → others_of (set numbers k t.number) (set active k a) (set prepared k p) ≡ others_in (set ts k t)
others-after numbers active prepared ts k t a p e ea ep =
    rw (
      ea,
      ep,
      map-set (λ (x : Transaction). x.number) ts k t,
      map-set (λ (x : Transaction). active_number x.number x.phase) ts k t,
      map-set (λ (x : Transaction). prepared_count x.number x.phase x.writes_n) ts k t,
      ← ap (λ (o : Others). o.numbers) e,
      ← ap (λ (o : Others). o.active) e,
      ← ap (λ (o : Others). o.prepared) e,
    )

-- the place and the step that the code takes are those of the words
module _ (w : Words) (s : Step) {o : Others} (e : o ≡ others_in w.txns) (eight : length w.txns ≡ 8) {n k : ℕ} (en : n ≡ wanted_of s) (below : k < 8)
    (ek : k ≡ place_in o.numbers n) where
  pub place_of : k ≡ place_for w.txns s
  unfolding place_for
  place_of = ek ∙ rw (e, en)

  pub moved-of : (d : Transaction) (m : Moved) → m ≡ step_of w.tables (record { extent = extent_in w; others = o; txn = get_or w.txns k d }) s
      → m ≡ moved_by w s
  unfolding moved_by
  moved-of d m em = em ∙ rw (e, default-any w.txns k d (idle_of 0) (omega (arith, eight, below)), place_of)
