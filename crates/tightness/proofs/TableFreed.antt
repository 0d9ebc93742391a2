-- Wrong bodies of the functions of `table` that free what carries a number.
-- Assumes nothing.
use Prim.Native.Nat.{ℕ, zero, suc, ◌+◌, ◌-◌}
use mathlib.Core.Path.{refl}
use mathlib.Core.List.{List, [], ◌∷◌}
use lib.ListN.{get_or}
use Rattle.table.specs.Fields.{set_claim, unclaimed, unclaim_every, set_holder, released, release_every}
use Rattle.tightness.specs.Wrong.{Excludes}
use Rattle.tightness.proofs.Apart.{apart}
use Rattle.tightness.proofs.Computes.{computes}

-- what each is given: a table, an entry or how many entries to go through, and a number
abbrev Given : Type 0
Given = List ℕ × ℕ × ℕ

abbrev releases_one : Given → List ℕ
releases_one (buckets, b, n) = released buckets b n

abbrev releases : Given → List ℕ
releases (buckets, count, n) = release_every buckets count n

abbrev unclaims_one : Given → List ℕ
unclaims_one (rows, r, n) = unclaimed rows r n

abbrev unclaims : Given → List ℕ
unclaims (rows, count, n) = unclaim_every rows count n

-- one bucket that 3 holds; one row that 3 claims
abbrev held : List ℕ
held = 0 ∷ 3 ∷ []

abbrev claimed : List ℕ
claimed = 0 ∷ 3 ∷ 0 ∷ 0 ∷ 0 ∷ 0 ∷ []

-- `release`: a bucket is freed whoever holds it, or the next one is
pub release-anyones : Excludes releases_one (λ (buckets, b, n). set_holder buckets b 0)
unfolding computes
release-anyones = apart (held, 0, 4) (λ (l : List ℕ). get_or l 1 0) refl

pub release-next : Excludes releases_one (λ (buckets, b, n). released buckets (b + 1) n)
unfolding computes
release-next = apart (held, 0, 3) (λ (l : List ℕ). get_or l 1 0) refl

-- `release_every`: the last bucket is left out
pub release-every-last-kept : Excludes releases (λ (buckets, count, n). release_every buckets (count - 1) n)
unfolding computes
release-every-last-kept = apart (held, 1, 3) (λ (l : List ℕ). get_or l 1 0) refl

-- `release_every`: a bucket is freed whoever holds it
abbrev free_every : List ℕ → ℕ → List ℕ
free_every buckets zero = buckets
free_every buckets (suc b) = set_holder (free_every buckets b) b 0

pub release-every-anyones : Excludes releases (λ (buckets, count, n). free_every buckets count)
unfolding computes
release-every-anyones = apart (held, 1, 4) (λ (l : List ℕ). get_or l 1 0) refl

-- `unclaim`: a row is freed whoever claims it, or the next one is
pub unclaim-anyones : Excludes unclaims_one (λ (rows, r, n). set_claim rows r 0)
unfolding computes
unclaim-anyones = apart (claimed, 0, 4) (λ (l : List ℕ). get_or l 1 0) refl

pub unclaim-next : Excludes unclaims_one (λ (rows, r, n). unclaimed rows (r + 1) n)
unfolding computes
unclaim-next = apart (claimed, 0, 3) (λ (l : List ℕ). get_or l 1 0) refl

-- `unclaim_every`: the last row is left out
pub unclaim-every-last-kept : Excludes unclaims (λ (rows, count, n). unclaim_every rows (count - 1) n)
unfolding computes
unclaim-every-last-kept = apart (claimed, 1, 3) (λ (l : List ℕ). get_or l 1 0) refl

-- `unclaim_every`: a row is freed whoever claims it
abbrev free_rows : List ℕ → ℕ → List ℕ
free_rows rows zero = rows
free_rows rows (suc r) = set_claim (free_rows rows r) r 0

pub unclaim-every-anyones : Excludes unclaims (λ (rows, count, n). free_rows rows count)
unfolding computes
unclaim-every-anyones = apart (claimed, 1, 4) (λ (l : List ℕ). get_or l 1 0) refl
