-- Sums over the places of the transactions: one place changes, or what is summed does; how many a test picks. Assumes nothing.
use mathlib.Core.Path.{◌≡◌, refl, ap}
use mathlib.Core.Bool.{Bool, true, false, cond}
use mathlib.Core.List.{◌∷◌}
use Prim.Native.Nat.{ℕ, zero, suc, ◌+◌, ◌≤◌, ◌<◌}
use native.Mathlib.Omega.{arith}
use native.Mathlib.Decide.{ℕ_discrete}
use lib.ListN.{length}
use Rattle.base_lists.specs.Lists.{pick}
use Rattle.base_lists.specs.Table.{update}
use Rattle.base_lists.proofs.TableLaws.{update_same, update_other}
use Rattle.model.specs.Store.{Txn}

-- f of what stands at the first n places, added up
unfoldable pub sum : (Txn → ℕ) → (ℕ → Txn) → ℕ → ℕ
sum f t zero = 0
sum f t (suc n) = sum f t n + f (t n)

pub sum_same : (f f' : Txn → ℕ) (t t' : ℕ → Txn) (n : ℕ) → ((j : ℕ) → j < n → f' (t' j) ≡ f (t j)) → sum f' t' n ≡ sum f t n
unfolding sum
sum_same f f' t t' zero h = refl
sum_same f f' t t' (suc n) h = rw (sum_same f f' t t' n (λ j l. h j (omega arith)), h n (omega arith))

pub sum-set : (f : Txn → ℕ) (t : ℕ → Txn) (i : ℕ) (x : Txn) (n : ℕ) → i < n → sum f (update t i x) n + f (t i) ≡ sum f t n + f x
unfolding sum
sum-set f t i x zero l = absurd (omega arith)
sum-set f t i x (suc n) l = elim (ℕ_discrete n i) [
  | yes e ↦ rw (e, sum_same f f t (update t i x) i (λ j u. ap f (update_other t i x j (λ d. omega arith))), update_same t i x) (omega arith)
  | no d ↦ rw (update_other t i x n d) (omega (arith, sum-set f t i x n (omega arith)))
]

pub sum-has : (f : Txn → ℕ) (t : ℕ → Txn) (i n : ℕ) → i < n → f (t i) ≤ sum f t n
unfolding sum
sum-has f t i zero l = absurd (omega arith)
sum-has f t i (suc n) l = elim (ℕ_discrete i n) [ yes e ↦ rw e (omega arith) | no d ↦ omega (arith, sum-has f t i n (omega arith)) ]

pub sum-zero : (f : Txn → ℕ) (t : ℕ → Txn) (n : ℕ) → ((j : ℕ) → f (t j) ≡ 0) → sum f t n ≡ 0
unfolding sum
sum-zero f t zero h = refl
sum-zero f t (suc n) h = rw (sum-zero f t n h, h n)

-- a test as 0 or 1
abbrev pub one : Bool → ℕ
one b = cond b 1 0

-- how many places a test picks
picked-from : (test : Txn → Bool) (t : ℕ → Txn) (k n : ℕ)
    → length (pick (λ i. test (t i)) k n) + sum (λ x. one (test x)) t k ≡ sum (λ x. one (test x)) t (k + n)
unfolding pick sum
picked-from test t k zero = let e : k + 0 ≡ k = omega arith in rw e (omega arith)
picked-from test t k (suc n) = let e : k + suc n ≡ suc k + n = omega arith in rw e (go (test (t k)) refl (picked-from test t (suc k) n))
  where
    go : (b : Bool) → test (t k) ≡ b → length (pick (λ i. test (t i)) (suc k) n) + (sum (λ x. one (test x)) t k + one (test (t k)))
        ≡ sum (λ x. one (test x)) t (suc k + n)
        → length (cond b (k ∷ pick (λ i. test (t i)) (suc k) n) (pick (λ i. test (t i)) (suc k) n)) + sum (λ x. one (test x)) t k
        ≡ sum (λ x. one (test x)) t (suc k + n)
    go true e h = omega (arith, h, ap one e)
    go false e h = omega (arith, h, ap one e)

pub picked : (test : Txn → Bool) (t : ℕ → Txn) (n : ℕ) → length (pick (λ i. test (t i)) 0 n) ≡ sum (λ x. one (test x)) t n
unfolding sum
picked test t n = let e : 0 + n ≡ n = omega arith in omega (arith, picked-from test t 0 n, ap (sum (λ x. one (test x)) t) e)
