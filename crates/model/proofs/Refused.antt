-- Document 01's table of numbers: each number, and each step that can give it, exactly when it is given. Assumes nothing.
use mathlib.Core.Path.{◌≡◌, refl, subst}
use mathlib.Core.Bool.{Bool, true, false, cond}
use mathlib.Core.Logic.{◌↔◌, ◌≢◌, ◌⊎◌}
use Prim.Native.Nat.{ℕ, ◌+◌, ◌≤◌, ◌<◌, min}
use native.Mathlib.Omega.{arith}
use lib.ListN.{length}
use Rattle.base_limits.specs.Limits.{most_rows, most_versions, most_buckets, most_live, most_records, most_writes, last_number}
use Rattle.base_lists.specs.Lists.{all_of, Among}
use Rattle.model.specs.Store.{Sizes, Store}
use Rattle.model.specs.Steps.{found_rows, records_after, read_buckets, needed_buckets}
use Rattle.model.specs.Contents.{Content}
use Rattle.model.specs.Refusals.{Step, begin, capture, collect, rows, write, prepare, install, end, publish, validate, abort, txn_of, live_count}
use Rattle.model.specs.Refusals.{versions_after, WrongShape, NoSuch, WrongPhase}
use Rattle.model.specs.Shape.{right_shape}
use Rattle.model.specs.Machine.{checks, actor, can_open}
use Rattle.model.specs.Given.{◌and◌, number, Shaped, Lives, Names, RightPhase, Ready, ByAnother, Free, BucketTaken, BucketsFree, RowTaken, RowsFree}
use Rattle.model.specs.Given.{bucket_for, stamp_for, Seventeenth, RoomForRead, verdict_of, Outside, open_number}
use Rattle.model.proofs.FirstTest.{given-among, itself, opposite, less, at_most, equal, stop, skip, stop-or, pass, code}
use Rattle.model.proofs.Tests.{shape-test, bucket-taken, stale-test, read-test, lives-test, bucket-test, needed-test}
use Rattle.model.proofs.Ruled.{in_order, ruled, all-tests}
use Rattle.model.proofs.Conditions.{number_is, past, ready-only, cannot-open, number-found}

-- a step gives no other number than those of its tests
pub gives-only : (s : Store) (a : Step) → Among (number s a) (in_order a)
gives-only s a = rw (number_is s a) (subst (Among (code (all-tests s a))) (ruled s a).in-order (given-among (all-tests s a)))

-- 16, before everything: a state of wrong shape
pub every-16 : (s : Store) (a : Step) → number s a ≡ 16 ↔ right_shape s ≡ false
every-16 s a = rw (number_is s a) (stop 16 _ _ _ (shape-test s) (omega arith) (ruled s a).no-16)

-- 4: no live transaction has this number
pub every-4 : (s : Store) (a : Step) → Names a → number s a ≡ 4 ↔ Shaped s and (Lives s (actor a) → ⊥)
unfolding all_of
every-4 s a named = rw (number-found s a named)
    (skip 4 _ WrongShape _ (shape-test s) (omega arith) (λ sh. stop 4 _ NoSuch _ (lives-test s (actor a)) (omega arith) ((ruled s a).no-4-5 named).0))

-- 5: wrong phase
pub every-5 : (s : Store) (a : Step) → Names a → number s a ≡ 5 ↔ Shaped s and Lives s (actor a) and (RightPhase s a → ⊥)
every-5 s a named = rw (number-found s a named)
    (skip 5 _ WrongShape _ (shape-test s) (omega arith) (λ sh. skip 5 _ NoSuch _ (lives-test s (actor a)) (omega arith)
    (λ l. stop 5 _ WrongPhase _ (opposite (ruled s a).phase-test) (omega arith) ((ruled s a).no-4-5 named).1)))

-- begin: 3 where 8 are live, then 2 where numbers run out
pub begin-3 : (s : Store) → number s begin ≡ 3 ↔ Shaped s and (most_live ≤ live_count s.txns)
unfolding checks all_of
begin-3 s = rw (number_is s begin) (skip 3 _ _ _ (shape-test s) (omega arith) (λ sh. stop 3 _ _ _ (at_most most_live (live_count s.txns)) (omega arith) refl))

pub begin-2 : (s : Store) → number s begin ≡ 2 ↔ Shaped s and (live_count s.txns < most_live) and (last_number < s.clock + live_count s.txns + 2)
unfolding checks all_of
begin-2 s = rw (number_is s begin)
    (skip 2 _ _ _ (shape-test s) (omega arith)
    (λ sh. skip 2 _ _ _ (at_most most_live (live_count s.txns)) (omega arith)
    (λ few. stop 2 _ _ _ (less last_number (s.clock + live_count s.txns + 2)) (omega arith) refl)))

pub begin-0 : (s : Store) → number s begin ≡ 0 ↔ Shaped s and (live_count s.txns < most_live) and (s.clock + live_count s.txns + 2 ≤ last_number)
unfolding checks
begin-0 s = rw (number_is s begin)
    (skip 0 _ _ _ (shape-test s) (omega arith)
    (λ sh. skip 0 _ _ _ (at_most most_live (live_count s.txns)) (omega arith)
    (λ few. pass _ _ (less last_number (s.clock + live_count s.txns + 2)) (omega arith))))

-- capture: 8 by the mark, 7, 8 by a stale stamp, 9
pub capture-8 : (s : Store) (t k : ℕ) → number s (capture t k) ≡ 8
    ↔ Ready s (capture t k)
    and (((txn_of s t).marked ≡ true) ⊎ (((txn_of s t).marked ≡ false) and Free s.held.holder t (bucket_for s k) and (t ≤ stamp_for s k)))
unfolding all_of
capture-8 s t k = past 8 s (capture t k) tt (omega arith)
    (λ l. stop-or 8 _ _ _ (itself (txn_of s t).marked) refl
    (λ m. skip 8 _ _ _ (bucket-test s t k l) (omega arith) (λ f. stop 8 _ _ _ (stale-test s t k l) (omega arith) refl)))

pub capture-7 : (s : Store) (t k : ℕ) → number s (capture t k) ≡ 7
    ↔ Ready s (capture t k) and ((txn_of s t).marked ≡ false) and ByAnother s.held.holder t (bucket_for s k)
unfolding all_of
capture-7 s t k = past 7 s (capture t k) tt (omega arith)
    (λ l. skip 7 _ _ _ (itself (txn_of s t).marked) (omega arith) (λ m. stop 7 _ _ _ (bucket-test s t k l) (omega arith) refl))

pub capture-9 : (s : Store) (t k : ℕ) → number s (capture t k) ≡ 9
    ↔ Ready s (capture t k) and ((txn_of s t).marked ≡ false) and Free s.held.holder t (bucket_for s k) and (stamp_for s k < t) and Seventeenth s t k
unfolding all_of
capture-9 s t k = past 9 s (capture t k) tt (omega arith)
    (λ l. skip 9 _ _ _ (itself (txn_of s t).marked) (omega arith)
    (λ m. skip 9 _ _ _ (bucket-test s t k l) (omega arith)
    (λ f. skip 9 _ _ _ (stale-test s t k l) (omega arith) (λ d. stop 9 _ _ _ (read-test s t k) (omega arith) refl))))

pub capture-0 : (s : Store) (t k : ℕ) → number s (capture t k) ≡ 0
    ↔ Ready s (capture t k) and ((txn_of s t).marked ≡ false) and Free s.held.holder t (bucket_for s k) and (stamp_for s k < t) and RoomForRead s t k
capture-0 s t k = past 0 s (capture t k) tt (omega arith)
    (λ l. skip 0 _ _ _ (itself (txn_of s t).marked) (omega arith)
    (λ m. skip 0 _ _ _ (bucket-test s t k l) (omega arith)
    (λ f. skip 0 _ _ _ (stale-test s t k l) (omega arith) (λ d. pass _ _ (read-test s t k) (omega arith)))))

-- rows: 10 where the lent list is shorter than the matches, then 11
pub rows-10 : (s : Store) (t room : ℕ) → number s (rows t room) ≡ 10 ↔ Ready s (rows t room) and (min room most_rows < length (found_rows s (txn_of s t)))
unfolding all_of
rows-10 s t room = past 10 s (rows t room) tt (omega arith)
    (λ l. stop 10 _ _ _ (less (min room most_rows) (length (found_rows s (txn_of s t)))) (omega arith) refl)

pub rows-11 : (s : Store) (t room : ℕ) → number s (rows t room) ≡ 11 ↔ Ready s (rows t room) and (length (found_rows s (txn_of s t)) ≤ min room most_rows)
    and (most_records < length (records_after s (txn_of s t)))
unfolding all_of
rows-11 s t room = past 11 s (rows t room) tt (omega arith)
    (λ l. skip 11 _ _ _ (less (min room most_rows) (length (found_rows s (txn_of s t)))) (omega arith)
    (λ f. stop 11 _ _ _ (less most_records (length (records_after s (txn_of s t)))) (omega arith) refl))

pub rows-0 : (s : Store) (t room : ℕ) → number s (rows t room) ≡ 0 ↔ Ready s (rows t room) and (length (found_rows s (txn_of s t)) ≤ min room most_rows)
    and (length (records_after s (txn_of s t)) ≤ most_records)
rows-0 s t room = past 0 s (rows t room) tt (omega arith)
    (λ l. skip 0 _ _ _ (less (min room most_rows) (length (found_rows s (txn_of s t)))) (omega arith)
    (λ f. pass _ _ (less most_records (length (records_after s (txn_of s t)))) (omega arith)))

-- a write: 8 by the mark, then 6 where the row is not below the row count, then 12 for a 17th pending write
pub write-8 : (s : Store) (t r : ℕ) (c : Content) → number s (write t r c) ≡ 8 ↔ Ready s (write t r c) and ((txn_of s t).marked ≡ true)
unfolding all_of
write-8 s t r c = past 8 s (write t r c) tt (omega arith) (λ l. stop 8 _ _ _ (itself (txn_of s t).marked) (omega arith) refl)

pub write-6 : (s : Store) (t r : ℕ) (c : Content) → number s (write t r c) ≡ 6 ↔ Ready s (write t r c) and ((txn_of s t).marked ≡ false) and (s.sizes.rows ≤ r)
unfolding all_of
write-6 s t r c = past 6 s (write t r c) tt (omega arith)
    (λ l. skip 6 _ _ _ (itself (txn_of s t).marked) (omega arith) (λ m. stop 6 _ _ _ (opposite (less r s.sizes.rows)) (omega arith) refl))

pub write-12 : (s : Store) (t r : ℕ) (c : Content)
    → number s (write t r c) ≡ 12
    ↔ Ready s (write t r c) and ((txn_of s t).marked ≡ false) and (r < s.sizes.rows) and (most_writes ≤ length (txn_of s t).writes)
unfolding all_of
write-12 s t r c = past 12 s (write t r c) tt (omega arith)
    (λ l. skip 12 _ _ _ (itself (txn_of s t).marked) (omega arith)
    (λ m. skip 12 _ _ _ (opposite (less r s.sizes.rows)) (omega arith)
    (λ i. stop 12 _ _ _ (at_most most_writes (length (txn_of s t).writes)) (omega arith) refl)))

pub write-0 : (s : Store) (t r : ℕ) (c : Content)
    → number s (write t r c) ≡ 0 ↔ Ready s (write t r c) and ((txn_of s t).marked ≡ false) and (r < s.sizes.rows) and (length (txn_of s t).writes < most_writes)
write-0 s t r c = past 0 s (write t r c) tt (omega arith)
    (λ l. skip 0 _ _ _ (itself (txn_of s t).marked) (omega arith)
    (λ m. skip 0 _ _ _ (opposite (less r s.sizes.rows)) (omega arith) (λ i. pass _ _ (at_most most_writes (length (txn_of s t).writes)) (omega arith))))

-- prepare: 7 where a needed bucket or a pending row is another's, 14 where the verdict is not 0, 13 where versions run out
pub prepare-7 : (s : Store) (t : ℕ) → number s (prepare t) ≡ 7 ↔ Ready s (prepare t) and (BucketTaken s t (needed_buckets s (txn_of s t)) ⊎ RowTaken s t)
unfolding all_of
prepare-7 s t = past 7 s (prepare t) tt (omega arith) (λ l. stop 7 _ _ _ (needed-test s t l) (omega arith) refl)

pub prepare-14 : (s : Store) (t : ℕ) → number s (prepare t) ≡ 14 ↔ Ready s (prepare t) and (BucketsFree s t (needed_buckets s (txn_of s t)) × RowsFree s t)
    and (verdict_of s t ≢ 0)
unfolding all_of
prepare-14 s t = past 14 s (prepare t) tt (omega arith)
    (λ l. skip 14 _ _ _ (needed-test s t l) (omega arith) (λ f. stop 14 _ _ _ (opposite (equal (verdict_of s t) 0)) (omega arith) refl))

pub prepare-13 : (s : Store) (t : ℕ)
    → number s (prepare t) ≡ 13 ↔ Ready s (prepare t) and (BucketsFree s t (needed_buckets s (txn_of s t)) × RowsFree s t) and (verdict_of s t ≡ 0) and
    (s.sizes.versions < versions_after s (txn_of s t))
unfolding all_of
prepare-13 s t = past 13 s (prepare t) tt (omega arith)
    (λ l. skip 13 _ _ _ (needed-test s t l) (omega arith)
    (λ f. skip 13 _ _ _ (opposite (equal (verdict_of s t) 0)) (omega arith)
    (λ v. stop 13 _ _ _ (less s.sizes.versions (versions_after s (txn_of s t))) (omega arith) refl)))

pub prepare-0 : (s : Store) (t : ℕ)
    → number s (prepare t) ≡ 0 ↔ Ready s (prepare t) and (BucketsFree s t (needed_buckets s (txn_of s t)) × RowsFree s t) and (verdict_of s t ≡ 0) and
    (versions_after s (txn_of s t) ≤ s.sizes.versions)
prepare-0 s t = past 0 s (prepare t) tt (omega arith)
    (λ l. skip 0 _ _ _ (needed-test s t l) (omega arith)
    (λ f. skip 0 _ _ _ (opposite (equal (verdict_of s t) 0)) (omega arith)
    (λ v. pass _ _ (less s.sizes.versions (versions_after s (txn_of s t))) (omega arith))))

-- validate: 7 where a bucket of an index read is another's
pub validate-7 : (s : Store) (t : ℕ) → number s (validate t) ≡ 7 ↔ Ready s (validate t) and BucketTaken s t (read_buckets (txn_of s t))
unfolding all_of
validate-7 s t = past 7 s (validate t) tt (omega arith) (λ l. stop 7 _ _ _ (bucket-taken s t (read_buckets (txn_of s t)) l) (omega arith) refl)

pub validate-0 : (s : Store) (t : ℕ) → number s (validate t) ≡ 0 ↔ Ready s (validate t) and BucketsFree s t (read_buckets (txn_of s t))
validate-0 s t = past 0 s (validate t) tt (omega arith) (λ l. pass _ _ (bucket-taken s t (read_buckets (txn_of s t)) l) (omega arith))

-- collect, install, end, publish, abort: nothing else is refused
pub collect-0 : (s : Store) (t : ℕ) → number s (collect t) ≡ 0 ↔ Ready s (collect t)
collect-0 s t = ready-only s (collect t) tt refl

pub install-0 : (s : Store) (t : ℕ) → number s (install t) ≡ 0 ↔ Ready s (install t)
install-0 s t = ready-only s (install t) tt refl

pub end-0 : (s : Store) (t : ℕ) → number s (end t) ≡ 0 ↔ Ready s (end t)
end-0 s t = ready-only s (end t) tt refl

pub publish-0 : (s : Store) (t : ℕ) → number s (publish t) ≡ 0 ↔ Ready s (publish t)
publish-0 s t = ready-only s (publish t) tt refl

pub abort-0 : (s : Store) (t : ℕ) → number s (abort t) ≡ 0 ↔ Ready s (abort t)
abort-0 s t = ready-only s (abort t) tt refl

-- open: 1 exactly where a size is outside its range or the clock is 0
pub open-1 : (z : Sizes) (clock : ℕ) → open_number z clock ≡ 1
    ↔ Outside z.rows most_rows ⊎ Outside z.versions most_versions ⊎ Outside z.buckets most_buckets ⊎ (clock ≡ 0)
open-1 z clock = let c = cannot-open z clock in (λ e. c.0 (shut (can_open z clock) e), λ o. rw (c.1 o))
  where
    shut : (b : Bool) → ◌≡◌ {A = ℕ} (cond b 0 1) 1 → b ≡ false
    shut true e = absurd (omega arith)
    shut false e = refl
