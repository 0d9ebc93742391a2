-- Wrong bodies of the crate `shape_open`.
-- Assumes nothing.
use Prim.Native.Nat.{ℕ, suc}
use mathlib.Core.Path.{refl}
use mathlib.Core.Bool.{◌&&◌}
use lib.Dec.{leb}
use Rattle.base_limits.specs.Limits.{most_rows, most_versions, most_buckets}
use Rattle.model.specs.Shape as model
use Rattle.model.specs.Machine.{can_open}
use Rattle.base_protocol.specs.declared.Sizes.{Sizes}
use Rattle.base_protocol.specs.View.{sizes_view}
use Rattle.tightness.specs.Wrong.{Excludes}
use Rattle.tightness.proofs.Apart.{apart, bit}
use Rattle.tightness.proofs.Computes.{computes}

-- `good_sizes`: the rows are measured by the versions' limit
pub good-sizes-other-limit : Excludes (λ (z : Sizes). model.good_sizes (sizes_view z))
    (λ z. model.within z.rows most_versions && model.within z.versions most_versions && model.within z.buckets most_buckets)
unfolding computes
good-sizes-other-limit = apart (record { rows = suc most_rows; versions = 1; buckets = 1 }) bit refl

-- `good_sizes`: the buckets are not tested
pub good-sizes-buckets-untested : Excludes (λ (z : Sizes). model.good_sizes (sizes_view z))
    (λ z. model.within z.rows most_rows && model.within z.versions most_versions)
unfolding computes
good-sizes-buckets-untested = apart (record { rows = 1; versions = 1; buckets = 0 }) bit refl

-- `can_open`: the clock is not tested
pub can-open-clock-untested : Excludes {A = Sizes × ℕ} (λ (z, clock). can_open (sizes_view z) clock) (λ (z, clock). model.good_sizes (sizes_view z))
unfolding computes
can-open-clock-untested = apart (record { rows = 1; versions = 1; buckets = 1 }, 0) bit refl

-- `can_open`: the sizes are not tested
pub can-open-sizes-untested : Excludes {A = Sizes × ℕ} (λ (z, clock). can_open (sizes_view z) clock) (λ (z, clock). leb 1 clock)
unfolding computes
can-open-sizes-untested = apart (record { rows = 0; versions = 1; buckets = 1 }, 1) bit refl
