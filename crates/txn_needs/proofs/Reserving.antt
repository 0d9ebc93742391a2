-- The pending rows, listed and then sorted; and how many versions can be reserved at most.
-- Assumes nothing.
use Prim.Native.Nat.{ℕ, zero, suc, ◌+◌, ◌*◌, ◌≤◌, min}
use mathlib.Core.Path.{◌≡◌, refl}
use mathlib.Core.Bool.{Bool, true, false}
use mathlib.Core.List.{List}
use native.Mathlib.Numerals.{add-one}
use native.Mathlib.Omega.{arith}
use lib.ListN.{length, take, get_or}
use Rattle.std.proofs.lemmas.List.{take_min}
use Rattle.base_limits.specs.Limits.{most_writes}
use Rattle.base_lists.specs.Lists.{join}
use Rattle.table.specs.Regions.{list_of}
use Rattle.table_buckets.specs.Buckets.{canonical_of}
use Rattle.txn_needs.specs.Keys.{gets_version_of}
use Rattle.txn_needs.specs.Needs.{Listed, push_one, push_all, front}
use Rattle.txn_needs.specs.Versions.{rows_listed, kept, pending_into, versions_into, versions_in, reserved_in}

-- what is listed in sixteen words, cut at sixteen
pub front_cut : (l : Listed) (m : ℕ) → m ≡ min l.n most_writes → length l.out ≡ most_writes → take m l.out ≡ front l
front_cut l m e h = rw (e, ← h) (take_min l.n l.out)

-- a row is listed where it gets a version
module _ (rows versions lists : List ℕ) (slot n r : ℕ) (st st' : Listed) (gets : Bool) where
  pub row_kept : gets ≡ gets_version_of rows versions lists slot n r → gets ≡ true → st' ≡ push_one st r
      → st' ≡ push_all st (kept rows versions lists slot n r)
  unfolding kept push_all
  row_kept g t e = rw (← g, t) e

  pub row_passed : gets ≡ gets_version_of rows versions lists slot n r → gets ≡ false → st' ≡ st
      → st' ≡ push_all st (kept rows versions lists slot n r)
  unfolding kept push_all
  row_passed g f e = rw (← g, f) e

module _ (rows versions lists : List ℕ) where
  -- no pending writes get no version
  pub versions-none : (slot : ℕ) → versions_in rows versions lists slot 0 ≡ 0
  unfolding versions_in versions_into pending_into rows_listed push_all list_of canonical_of join
  versions-none slot = refl

  pub versions-few : (slot n : ℕ) → versions_in rows versions lists slot n ≤ most_writes
  unfolding versions_in
  versions-few slot n = omega arith

  pub reserved-few : (prepared : List ℕ) (n : ℕ) → reserved_in rows versions lists prepared n ≤ most_writes * n
  unfolding reserved_in
  reserved-few prepared zero = omega arith
  reserved-few prepared (suc n) = omega (arith, reserved-few prepared n, versions-few n (get_or prepared n 0))

  -- one slot more
  pub reserved-next : (prepared : List ℕ) (n sum own : ℕ) → sum ≡ reserved_in rows versions lists prepared n → own
      ≡ versions_in rows versions lists n (get_or prepared n 0)
      → sum + own ≡ reserved_in rows versions lists prepared (n + 1)
  unfolding reserved_in
  reserved-next prepared n sum own e d = rw (add-one, e, d)
