-- Wrong bodies of the crate `step`.
-- Assumes nothing.
use Prim.Native.Nat.{ℕ}
use mathlib.Core.Path.{refl}
use mathlib.Core.Bool.{false, cond, not}
use Rattle.base_protocol.specs.declared.Step.{Step}
use Rattle.base_protocol.specs.declared.Step.TheVariants as ask
use Rattle.txn.specs.Methods.{idle_of, parts_of, whole_of}
use Rattle.txn.specs.declared.Parts.{Parts}
use Rattle.txn.specs.declared.Phase.TheVariants as phase
use Rattle.txn.specs.declared.Transaction.{Transaction}
use Rattle.step.specs.declared.Beside.{Beside}
use Rattle.step.specs.declared.Place.{Place}
use Rattle.step.specs.Steps.{Tables, Moved, done_by, missed, step_of, keeps_of, keeping_of, placing_of, Keeping, kept_in}
use Rattle.txn_places.specs.Places.{free_places, is_begin, wanted_of}
use Rattle.step.specs.Words.{others_in}
use Rattle.tightness.specs.Wrong.{Excludes}
use Rattle.tightness.proofs.Apart.{apart, bit, number_in}
use Rattle.tightness.proofs.Computes.{computes}
use Rattle.tightness.proofs.Small.{live, sizes, store}

-- what a step is given
abbrev Given : Type 0
Given = Tables × Place × Step

abbrev right : Given → Moved
right (tables, p, s) = step_of tables p s

-- the first place of an open store
abbrev first : Place
first = record { extent = record { sizes = sizes; clock = 1; used = 0 }; others = others_in free_places; txn = idle_of 0 }

-- the same, with another clock
abbrev with_clock : Place → ℕ → Place
with_clock p clock = record { extent = record { sizes = p.extent.sizes; clock = clock; used = p.extent.used }; others = p.others; txn = p.txn }

-- `step`: the record that comes in takes the step, whatever its number is
pub step-any-number : Excludes right (λ (tables, p, s). done_by tables p s)
unfolding computes
step-any-number = apart ((store phase.Open).tables, first, ask.End 1) (λ (m : Moved). number_in m.stepped.answer) refl

-- `step`: the last used pointer is taken for the clock
pub step-used-for-clock : Excludes right (λ (tables, p, s). step_of tables (with_clock p p.extent.used) s)
unfolding computes
step-used-for-clock = apart ((store phase.Open).tables, first, ask.Begin) (λ (m : Moved). m.stepped.clock) refl

-- `keeps`: publish and abort keep their transaction too
pub keeps-all-but-begin : Excludes (λ (s : Step). keeps_of s) (λ s. not (is_begin s))
keeps-all-but-begin = apart (ask.Publish 1) bit refl

-- `keeps`: no step keeps its transaction
pub keeps-never : Excludes (λ (s : Step). keeps_of s) (λ s. false)
keeps-never = apart (ask.End 1) bit refl

-- the place of this record
abbrev place_with : Beside → Transaction → Place
place_with b t = record { extent = b.extent; others = b.others; txn = t }

-- beside the first place of an open store: one row, one version and one bucket, clock 1
abbrev beside_first : Beside
beside_first = record { extent = first.extent; others = first.others }

-- the same, with another last used pointer
abbrev with_used : Beside → ℕ → Beside
with_used b used = record { extent = record { sizes = b.extent.sizes; clock = b.extent.clock; used = used }; others = b.others }

-- what the contract of `step_keeping` asks for
abbrev keeping : Tables × Beside × Parts × Step → Keeping
keeping (tables, b, parts, s) = kept_in (keeping_of tables (place_with b (whole_of parts)) s)

-- `step_keeping`: the record that comes in takes the step, whatever its number is
pub step-keeping-any-number : Excludes keeping
    (λ (tables, b, parts, s). let p = place_with b (whole_of parts) in kept_in (cond (keeps_of s) (done_by tables p s) (missed tables p)))
unfolding computes
step-keeping-any-number = apart ((store phase.Open).tables, beside_first, parts_of (idle_of 0), ask.End 1) (λ (k : Keeping). number_in k.kept.answer) refl

-- `step_keeping`: the clock is taken for the last used pointer
pub step-keeping-clock-for-used : Excludes keeping (λ (tables, b, parts, s). keeping (tables, with_used b b.extent.clock, parts, s))
unfolding computes
step-keeping-clock-for-used = apart ((store phase.Open).tables, beside_first, parts_of (idle_of 0), ask.End 1) (λ (k : Keeping). k.kept.used) refl

-- `step_keeping`: begin, publish and abort are taken too
pub step-keeping-begins : Excludes keeping (λ (tables, b, parts, s). kept_in (step_of tables (place_with b (whole_of parts)) s))
unfolding computes
step-keeping-begins = apart ((store phase.Open).tables, beside_first, parts_of (idle_of 0), ask.Begin) (λ (k : Keeping). number_in k.kept.answer) refl

-- `step_keeping`: the rest of the record goes back as it came in
pub step-keeping-rest-as-found : Excludes keeping (λ (tables, b, parts, s). let k = keeping (tables, b, parts, s) in record {
  kept = record { answer = k.kept.answer; rest = parts.rest; used = k.kept.used };
  rows = k.rows;
  versions = k.versions;
  buckets = k.buckets;
  lists = k.lists;
  found = k.found;
})
unfolding computes
step-keeping-rest-as-found =
    apart ((store phase.Open).tables, beside_first, parts_of (live 1 phase.Installed), ask.End 1) (λ (k : Keeping). k.kept.rest.rank) refl

-- what the contract of `step_placing` asks for
abbrev placing : Tables × Beside × Transaction × Step → Moved
placing (tables, b, t, s) = placing_of tables (place_with b t) s

-- `step_placing`: publish aborts
pub step-placing-aborts : Excludes placing (λ (tables, b, t, s). placing (tables, b, t, cond (is_begin s) s (ask.Abort (wanted_of s))))
unfolding computes
step-placing-aborts = apart ((store phase.Ended).tables, beside_first, live 1 phase.Ended, ask.Publish 1) (λ (m : Moved). number_in m.stepped.answer) refl

-- `step_placing`: the steps that keep their transaction are taken too
pub step-placing-ends : Excludes placing (λ (tables, b, t, s). step_of tables (place_with b t) s)
unfolding computes
step-placing-ends = apart ((store phase.Installed).tables, beside_first, live 1 phase.Installed, ask.End 1) (λ (m : Moved). number_in m.stepped.answer) refl
