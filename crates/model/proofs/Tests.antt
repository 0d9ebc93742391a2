-- Each test of a step with its fact: it holds exactly where the one fact does, and fails exactly where the other does. Assumes nothing.
use mathlib.Core.Path.{◌≡◌, refl, sym, ◌∙◌}
use mathlib.Core.Bool.{true, false, Bool, true≢false, ◌||◌, not, ◌&&◌}
use mathlib.Core.Logic.{◌⊎◌, ⊎_elim, ◌≢◌}
use mathlib.Core.List.{List}
use Prim.Native.Nat.{ℕ, ◌<◌, ◌≤◌, zero, suc, ◌+◌}
use native.Mathlib.Omega.{arith}
use native.Mathlib.Decide.{ℕ_discrete}
use lib.Dec.{eqb, ltb, leb}
use lib.ListN.{length}
use borrow.Author.Tests.{eqb-true, ltb-true, ltb-false, lt-ltb, not-false, eq-eqb}
use Rattle.base_limits.specs.Limits.{most_live, most_index_reads}
use Rattle.base_lists.specs.Lists.{first}
use Rattle.base_lists.proofs.TableLaws.{cond-elim}
use Rattle.base_lists.proofs.ListLaws.{is_false, or_r, first_holds}
use Rattle.model.specs.Store.{Store}
use Rattle.model.specs.Steps.{pending_rows, needed_buckets, has_read}
use Rattle.model.specs.Refusals.{place_of, txn_of, by_another, buckets_taken, rows_claimed}
use Rattle.model.specs.Shape.{right_shape}
use Rattle.model.specs.Given.{Shaped, Lives, ByAnother, Free, BucketTaken, BucketsFree, RowTaken, RowsFree, bucket_for, stamp_for, Seventeenth, RoomForRead}
use Rattle.model.proofs.FirstTest.{itself, opposite, less, at_most, equal, Test, either, both, any}

-- who has a number stands where it is found
pub place-number : (s : Store) (t : ℕ) → place_of s.txns t < most_live → (txn_of s t).number ≡ t
unfolding place_of
place-number s t l = eqb-true _ t (first_holds (λ i. eqb (s.txns i).number t) 0 most_live l)

is_true : (b : Bool) → (b ≡ false → ⊥) → b ≡ true
is_true true h = refl
is_true false h = absurd (h refl)

-- the shape
pub shape-test : (s : Store) → Test (not (right_shape s)) (right_shape s ≡ false) (Shaped s)
shape-test s = opposite (itself (right_shape s))

-- who has the number is found
found-first : (test : ℕ → Bool) (k n i : ℕ) → k ≤ i → i < k + n → test i ≡ true → first test k n < k + n
unfolding first
found-first test k zero i l u e = absurd (omega arith)
found-first test k (suc n) i l u e = cond-elim (λ p. p < k + suc n) (test k) k (first test (suc k) n) (λ t. omega arith)
    (λ t. elim (ℕ_discrete i k)
    [ yes d ↦ absurd (true≢false (sym e ∙ (rw d t))) | no d ↦ omega (arith, found-first test (suc k) n i (omega arith) (omega arith) e) ])

placed : (s : Store) (t : ℕ)
    → Test (not (ltb (place_of s.txns t) most_live)) ((i : ℕ) × (i < most_live) × ((s.txns i).number ≡ t) → ⊥)
    ((i : ℕ) × (i < most_live) × ((s.txns i).number ≡ t))
unfolding place_of
placed s t = opposite (record {
  holds = λ e. let l = ltb-true _ _ e in (place_of s.txns t, l, place-number s t l);
  fails = λ e w. omega (
    arith,
    ltb-false (place_of s.txns t) most_live e,
    found-first (λ i. eqb (s.txns i).number t) 0 most_live w.0 (omega arith) w.1 (eq-eqb _ _ w.2),
  );
  if_yes = λ w. lt-ltb _ _ (found-first (λ i. eqb (s.txns i).number t) 0 most_live w.0 (omega arith) w.1 (eq-eqb _ _ w.2));
  if_no = λ h. is_false _ (λ e. let l = ltb-true _ _ e in h (place_of s.txns t, l, place-number s t l));
})

pub lives-test : (s : Store) (t : ℕ) → Test (eqb t 0 || not (ltb (place_of s.txns t) most_live)) (Lives s t → ⊥) (Lives s t)
lives-test s t = let e = either (equal t 0) (placed s t) in record {
  holds = λ y w. ⊎_elim (λ z. omega (arith, w.3)) (λ h. h (w.0, w.1, w.2)) (e.holds y);
  fails = λ n. let w = e.fails n in (w.1.0, w.1.1, w.1.2, positive w.0);
  if_yes = λ h. is_true _ (λ n. let w = e.fails n in h (w.1.0, w.1.1, w.1.2, positive w.0));
  if_no = λ w. e.if_no ((λ z. omega (arith, w.3)), (w.0, w.1, w.2));
}
  where
    positive : t ≢ 0 → 1 ≤ t
    positive z = omega arith

-- who lives has its number
pub lives-number : (s : Store) (t : ℕ) → Lives s t → (txn_of s t).number ≡ t
lives-number s t w = place-number s t (ltb-true _ _ (not-false _ (or_r (eqb t 0) _ ((lives-test s t).if_no w))))

-- held, or claimed, by another than the one who acts
pub another : (f : ℕ → ℕ) (n t j : ℕ) → n ≡ t → Test (by_another f n j) (ByAnother f t j) (Free f t j)
unfolding by_another
another f n t j e = rw e (both (opposite (equal (f j) 0)) (opposite (equal (f j) t)))

pub bucket-taken : (s : Store) (t : ℕ) (bs : List ℕ) → Lives s t → Test (buckets_taken s (txn_of s t) bs) (BucketTaken s t bs) (BucketsFree s t bs)
bucket-taken s t bs l = any _ bs (λ b. another s.held.holder (txn_of s t).number t b (lives-number s t l))

pub row-taken : (s : Store) (t : ℕ) → Lives s t → Test (rows_claimed s (txn_of s t)) (RowTaken s t) (RowsFree s t)
row-taken s t l = any _ (pending_rows s.sizes (txn_of s t).writes) (λ r. another s.held.claim (txn_of s t).number t r (lives-number s t l))

-- capture's bucket is another's; prepare's needed buckets or pending rows are
pub bucket-test : (s : Store) (t k : ℕ) → Lives s t
    → Test (by_another s.held.holder (txn_of s t).number (bucket_for s k)) (ByAnother s.held.holder t (bucket_for s k))
    (Free s.held.holder t (bucket_for s k))
bucket-test s t k l = another s.held.holder (txn_of s t).number t (bucket_for s k) (lives-number s t l)

pub needed-test : (s : Store) (t : ℕ) → Lives s t → let bs = needed_buckets s (txn_of s t) in
    Test (buckets_taken s (txn_of s t) bs || rows_claimed s (txn_of s t)) (BucketTaken s t bs ⊎ RowTaken s t) (BucketsFree s t bs × RowsFree s t)
needed-test s t l = either (bucket-taken s t (needed_buckets s (txn_of s t)) l) (row-taken s t l)

-- a stamp that is not below the number
pub stale-test : (s : Store) (t k : ℕ) → Lives s t → Test (not (ltb (stamp_for s k) (txn_of s t).number)) (t ≤ stamp_for s k) (stamp_for s k < t)
stale-test s t k l = rw (lives-number s t l) (opposite (less (stamp_for s k) t))

pub read-test : (s : Store) (t k : ℕ)
    → Test (not (has_read (txn_of s t).reads (bucket_for s k)) && leb most_index_reads (length (txn_of s t).reads)) (Seventeenth s t k) (RoomForRead s t k)
read-test s t k = both (opposite (itself (has_read (txn_of s t).reads (bucket_for s k)))) (at_most most_index_reads (length (txn_of s t).reads))
