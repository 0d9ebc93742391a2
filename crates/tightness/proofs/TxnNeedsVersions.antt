-- Wrong bodies of the crate `txn_needs`: the rows that get a version.
-- Assumes nothing.
use Prim.Native.Nat.{ℕ, ◌-◌}
use mathlib.Core.Path.{refl}
use mathlib.Core.List.{List, [], ◌∷◌}
use lib.ListN.{get_or, set, replicate}
use Rattle.base_limits.specs.Limits.{most_live, most_writes}
use Rattle.base_lists.specs.Lists.{join}
use Rattle.model.specs.Log.{total}
use Rattle.txn_needs.specs.Needs.{Listed, push_all, rows_written}
use Rattle.txn_needs.specs.Versions.{pending_into, kept, versions_into, versions_in, reserved_in}
use Rattle.tightness.specs.Wrong.{Excludes}
use Rattle.tightness.proofs.Apart.{apart, itself, count}
use Rattle.tightness.proofs.Computes.{computes}
use Rattle.tightness.proofs.Small.{erases, headed, keyed_by, twice}

-- what the contracts of `pending_rows` and `version_rows` ask for
abbrev pending_rows : List ℕ × ℕ × ℕ × List ℕ → Listed
pending_rows (lists, slot, n, out) = pending_into lists slot n out

abbrev version_rows : List ℕ × List ℕ × List ℕ × ℕ × ℕ × List ℕ → Listed
version_rows (rows, versions, lists, slot, n, out) = versions_into rows versions lists slot n out

-- `pending_rows`: a row for each write, as they stand
pub pending-rows-repeated : Excludes pending_rows (λ (lists, slot, n, out). push_all (record { out = out; n = 0 }) (rows_written lists slot n))
unfolding computes
pending-rows-repeated = apart (twice, 0, 2, 0 ∷ 0 ∷ []) count refl

-- `pending_rows`: the last write is left out
pub pending-rows-last-missed : Excludes pending_rows (λ (lists, slot, n, out). pending_into lists slot (n - 1) out)
unfolding computes
pending-rows-last-missed = apart (twice, 0, 1, 0 ∷ 0 ∷ []) count refl

-- `version_rows`: every pending row, an erase of an empty one too
pub version-rows-all-pending : Excludes version_rows (λ (rows, versions, lists, slot, n, out). pending_into lists slot n out)
unfolding computes
version-rows-all-pending = apart ([], [], erases, 0, 1, 0 ∷ 0 ∷ []) count refl

-- `version_rows`: a row for each write, as they stand
pub version-rows-repeated : Excludes version_rows
    (λ (rows, versions, lists, slot, n, out). push_all (record { out = out; n = 0 }) (join (kept rows versions lists slot n) (rows_written lists slot n)))
unfolding computes
version-rows-repeated = apart ([], [], twice, 0, 2, 0 ∷ 0 ∷ []) count refl

-- what the contract of `count_versions` asks for
abbrev counts : List ℕ × List ℕ × List ℕ × ℕ × ℕ → ℕ
counts (rows, versions, lists, slot, n) = versions_in rows versions lists slot n

-- `count_versions`: two writes of one row are two versions
pub count-versions-each-write : Excludes counts (λ (rows, versions, lists, slot, n). n)
unfolding computes
count-versions-each-write = apart ([], [], twice, 0, 2) itself refl

-- `count_versions`: an erase of nothing counts
pub count-versions-of-nothing : Excludes counts (λ (rows, versions, lists, slot, n). (pending_into lists slot n (replicate most_writes 0)).n)
unfolding computes
count-versions-of-nothing = apart ([], [], erases, 0, 1) itself refl

-- what the contract of `reserved` asks for
abbrev reserves : List ℕ × List ℕ × List ℕ × List ℕ → ℕ
reserves (rows, versions, lists, prepared) = reserved_in rows versions lists prepared most_live

-- `reserved`: two writes of one row are two versions
pub reserved-each-write : Excludes reserves (λ (rows, versions, lists, prepared). total prepared)
unfolding computes
reserved-each-write = apart ([], [], twice, set (replicate most_live 0) 0 2) itself refl

-- `reserved`: only the first slot counts
pub reserved-first-slot : Excludes reserves (λ (rows, versions, lists, prepared). versions_in rows versions lists 0 (get_or prepared 0 0))
unfolding computes
reserved-first-slot = apart (headed, keyed_by 3, [], set (replicate most_live 0) 1 1) itself refl

-- `reserved`: an erase of nothing reserves a version
pub reserved-of-nothing : Excludes reserves (λ (rows, versions, lists, prepared). (pending_into lists 0 (get_or prepared 0 0) (replicate most_writes 0)).n)
unfolding computes
reserved-of-nothing = apart ([], [], erases, set (replicate most_live 0) 0 1) itself refl
