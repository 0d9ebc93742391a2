-- Tables of the greatest size are long enough for every store that can be opened, so over them a replay is any replay.
-- Assumes nothing.
use borrow.Author.Tests.{leb-true, le-leb}
use Prim.Native.Nat.{ℕ, suc, ◌*◌, ◌≤◌}
use mathlib.Core.Path.{◌≡◌, refl}
use mathlib.Core.Bool.{Bool, true, false, not, ◌&&◌}
use mathlib.Core.Option.{Option, none, some}
use mathlib.Core.List.{List}
use native.Mathlib.Omega.{arith}
use lib.Dec.{leb}
use lib.ListN.{length, replicate, length-replicate}
use Rattle.base_limits.specs.Limits.{most_rows, most_versions, most_buckets}
use Rattle.base_lists.proofs.ListLaws.{and_l, and_r}
use Rattle.model.specs.Store.{Sizes}
use Rattle.model.specs.Log.{Command, Opening, Asking, read_record}
use Rattle.model.specs.Shape.{within, good_sizes}
use Rattle.model.specs.Machine.{can_open}
use Rattle.model.specs.Replay.{opens_too_short, replay}
use Rattle.table.specs.Fields.{row_words, version_words, bucket_words}
use Rattle.table.specs.Lists.{lists_words}
use Rattle.replay.specs.Lent.{Lent, long_enough, replayed_in}
use Rattle.replay.proofs.Lending.{lent-as}

-- tables of the greatest size, all 0
abbrev pub greatest : Lent
greatest = record {
  rows = replicate (row_words * most_rows) 0;
  versions = replicate (version_words * suc most_versions) 0;
  buckets = replicate (bucket_words * most_buckets) 0;
  lists = replicate lists_words 0;
}

-- each size is within its limit
record InLimits (z : Sizes) : Type 0 where
  rows : z.rows ≤ most_rows
  versions : z.versions ≤ most_versions
  buckets : z.buckets ≤ most_buckets

in-limits : (z : Sizes) (clock : ℕ) → can_open z clock ≡ true → InLimits z
unfolding can_open good_sizes
in-limits z clock e =
    let good = and_l (within z.rows most_rows && within z.versions most_versions && within z.buckets most_buckets) (leb 1 clock) e in
    let two = and_l (within z.rows most_rows && within z.versions most_versions) (within z.buckets most_buckets) good in
    record {
      rows = leb-true z.rows most_rows
          (and_r (leb 1 z.rows) (leb z.rows most_rows) (and_l (within z.rows most_rows) (within z.versions most_versions) two));
      versions = leb-true z.versions most_versions
          (and_r (leb 1 z.versions) (leb z.versions most_versions) (and_r (within z.rows most_rows) (within z.versions most_versions) two));
      buckets = leb-true z.buckets most_buckets
          (and_r (leb 1 z.buckets) (leb z.buckets most_buckets)
          (and_r (within z.rows most_rows && within z.versions most_versions) (within z.buckets most_buckets) good));
    }

greatest-long : (z : Sizes) (clock : ℕ) → can_open z clock ≡ true → long_enough greatest z ≡ true
greatest-long z clock e =
    let n = in-limits z clock e in
    rw (
      length-replicate {A = ℕ} (row_words * most_rows) 0,
      length-replicate {A = ℕ} (version_words * suc most_versions) 0,
      length-replicate {A = ℕ} (bucket_words * most_buckets) 0,
      le-leb (row_words * z.rows) (row_words * most_rows) (omega (arith, n.rows)),
      le-leb (version_words * suc z.versions) (version_words * suc most_versions) (omega (arith, n.versions)),
      le-leb (bucket_words * z.buckets) (bucket_words * most_buckets) (omega (arith, n.buckets)),
    )

-- no open asks for more
never-short : (o : Option (Command × List ℕ)) → opens_too_short (long_enough greatest) o ≡ false
never-short none = refl
never-short (some (Asking a, more)) = refl
never-short (some (Opening z clock, more)) = go (can_open z clock) refl
  where
    go : (b : Bool) → can_open z clock ≡ b → can_open z clock && not (long_enough greatest z) ≡ false
    go true e = rw (e, greatest-long z clock e)
    go false e = rw e

pub greatest-any : (log report : List ℕ) → replayed_in log report greatest ≡ replay log (length report)
greatest-any log report = lent-as (long_enough greatest) log (length report) (never-short (read_record log))
