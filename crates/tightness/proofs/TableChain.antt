-- Wrong bodies of the crate `table_chain`.
-- Assumes nothing.
use Prim.Native.Nat.{ℕ}
use mathlib.Core.Path.{refl}
use mathlib.Core.Bool.{Bool, cond, not, ◌&&◌, ◌||◌}
use mathlib.Core.List.{List, [], ◌∷◌}
use lib.Dec.{eqb, leb, ltb}
use lib.ListN.{take}
use Rattle.std.specs.Prelude.{Option, Some, None}
use Rattle.base_lists.specs.Lists.{member}
use Rattle.table_chain.specs.Chain.{active_of, seen_by, visible_to, walk_from, known, pointer, first_visible}
use Rattle.table_chain.specs.declared.Snapshot.{Snapshot}
use Rattle.txn.specs.declared.Phase.TheVariants as phase
use Rattle.tightness.specs.Wrong.{Excludes}
use Rattle.tightness.proofs.Apart.{apart, bit}
use Rattle.tightness.proofs.Computes.{computes}
use Rattle.tightness.proofs.Small.{live, three_active, three_below, from_xmin}

-- what the contracts of `seen`, `visible` and `first_visible` ask for
abbrev seen : ℕ × List ℕ × ℕ × ℕ → Bool
seen (n, active, active_n, xmax) = seen_by (take active_n active) xmax n

abbrev visible : ℕ × ℕ × List ℕ × ℕ × ℕ → Bool
visible (xminᵥ, xmaxᵥ, active, active_n, xmax) = visible_to (take active_n active) xmax xminᵥ xmaxᵥ

abbrev first : List ℕ × ℕ × Snapshot × ℕ → Option ℕ
first (versions, used, s, p) = first_visible versions used s p

-- `seen`: the number at the snapshot's xmax too
pub seen-at-xmax : Excludes seen (λ (n, active, active_n, xmax). leb n xmax && not (member n (take active_n active)))
unfolding computes
seen-at-xmax = apart (6, [], 0, 6) bit refl

-- `seen`: active numbers too
pub seen-active : Excludes seen (λ (n, active, active_n, xmax). ltb n xmax)
unfolding computes
seen-active = apart (3, 3 ∷ [], 1, 6) bit refl

-- `visible`: no version that was ever ended
pub visible-never-ended : Excludes visible (λ (xminᵥ, xmaxᵥ, active, active_n, xmax). seen_by (take active_n active) xmax xminᵥ && eqb xmaxᵥ 0)
unfolding computes
visible-never-ended = apart (2, 7, [], 0, 6) bit refl

-- `visible`: whoever made the version
pub visible-any-xmin : Excludes visible (λ (xminᵥ, xmaxᵥ, active, active_n, xmax). eqb xmaxᵥ 0 || not (seen_by (take active_n active) xmax xmaxᵥ))
unfolding computes
visible-any-xmin = apart (7, 0, [], 0, 6) bit refl

abbrev pointer_in : Option ℕ → ℕ
pointer_in (Some p) = p
pointer_in None = 0

-- version 2, of xmin 7, over version 1, of xmin 3
abbrev versions₂ : List ℕ
versions₂ = 0 ∷ 0 ∷ 0 ∷ 0 ∷ 0 ∷ 0 ∷ 3 ∷ 7 ∷ 0 ∷ 1 ∷ 6 ∷ 9 ∷ 7 ∷ 0 ∷ 1 ∷ 1 ∷ 7 ∷ 9 ∷ []

-- `first_visible`: the version at the pointer, seen or not
pub first-visible-no-walk : Excludes first (λ (versions, used, s, p). cond (known versions used p) (pointer p) None)
unfolding computes
first-visible-no-walk = apart (versions₂, 2, (live 5 phase.Open).snapshot, 2) pointer_in refl

-- `first_visible`: a pointer that is not used is followed
pub first-visible-unused : Excludes first (λ (versions, used, s, p). pointer (walk_from versions (active_of s) s.xmax p))
unfolding computes
first-visible-unused = apart (versions₂, 0, (live 5 phase.Open).snapshot, 1) pointer_in refl

-- `first_visible`: the active numbers are not looked at
pub first-visible-active : Excludes first (λ (versions, used, s, p). cond (known versions used p) (pointer (walk_from versions [] s.xmax p)) None)
unfolding computes
first-visible-active = apart (versions₂, 2, three_active 6, 1) pointer_in refl

-- `first_visible`: xmin is trusted, so that no active number below it is looked up
pub first-visible-xmin-trusted : Excludes first
    (λ (versions, used, s, p). cond (known versions used p) (pointer (walk_from versions (from_xmin s) s.xmax p)) None)
unfolding computes
first-visible-xmin-trusted = apart (versions₂, 2, three_below 6, 1) pointer_in refl
