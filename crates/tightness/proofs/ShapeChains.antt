-- Wrong bodies of the crate `shape_chains`.
-- Assumes nothing.
use Prim.Native.Nat.{ℕ}
use mathlib.Core.Path.{refl}
use mathlib.Core.Bool.{Bool, ◌&&◌}
use mathlib.Core.List.{List, [], ◌∷◌}
use Rattle.model.specs.Shape as model
use lib.Dec.{leb}
use Rattle.base_protocol.specs.declared.Sizes.{Sizes}
use Rattle.shape_chains.specs.ChainsShape.{heads_in, nexts_fall, chains_fit}
use Rattle.tightness.specs.Wrong.{Excludes}
use Rattle.tightness.proofs.Apart.{apart, bit}
use Rattle.tightness.proofs.Computes.{computes}
use Rattle.tightness.proofs.Small.{sizes}

-- what chains_fit is given: rows, versions, the sizes and the last used pointer
abbrev Given : Type 0
Given = List ℕ × List ℕ × Sizes × ℕ

abbrev fits : Given → Bool
fits (rows, versions, z, used) = chains_fit rows versions z used

-- `chains_fit`: more pointers may be used than the store has versions
pub chains-fit-used-untested : Excludes fits (λ (rows, versions, z, used). heads_in rows z.rows used && nexts_fall versions used)
unfolding computes
chains-fit-used-untested = apart ([], [], sizes, 2) bit refl

-- `chains_fit`: the heads are not tested
pub chains-fit-heads-untested : Excludes fits (λ (rows, versions, z, used). leb used z.versions && nexts_fall versions used)
unfolding computes
chains-fit-heads-untested = apart (1 ∷ [], [], sizes, 0) bit refl
