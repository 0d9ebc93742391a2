-- Who is live and who is active, over the words and in the model; begin.
-- Assumes nothing.
use Prim.Native.Nat.{ℕ, zero, suc, ◌+◌, ◌≤◌, ◌<◌, min}
use mathlib.Core.Path.{◌≡◌, refl, sym, ap, ◌∙◌}
use mathlib.Core.Bool.{Bool, true, false, cond, not}
use mathlib.Core.List.{List, [], ◌∷◌, ◌++◌, map, append_assoc, append-nil}
use native.Mathlib.Nat.{add-zero}
use native.Mathlib.Numerals.{add-one}
use native.Mathlib.Decide.{ℕ_discrete}
use native.Mathlib.Omega.{arith}
use lib.Dec.{eqb, leb}
use lib.ListN.{length, take, get_or, set, length-set}
use lib.Seq.{take-suc-set}
use borrow.Author.Tests.{lt-leb}
use Rattle.base_limits.specs.Limits.{most_active}
use Rattle.base_numbers.proofs.Laws.{lesser-by}
use Rattle.base_lists.specs.Lists.{pick, least}
use Rattle.base_lists.proofs.TableLaws.{cond-elim}
use Rattle.base_lists.proofs.ListLaws.{pick-few}
use Rattle.txn_begin.specs.Begin.{keep_active, keep_all}
use Rattle.txn_begin.specs.declared.Kept.{Kept}
use Rattle.txn_places.specs.Places.{live_from}

-- the numbers that are not 0
unfoldable pub nonzero : List ℕ → List ℕ
nonzero [] = []
nonzero (x ∷ xs) = cond (eqb x 0) (nonzero xs) (x ∷ nonzero xs)

-- those of the picked places
pub pick-nonzero : (f : ℕ → ℕ) (test : ℕ → Bool) (k : ℕ) (xs : List ℕ) → ((i : ℕ) → i < length xs → test (k + i) ≡ not (eqb (get_or xs i 0) 0))
    → ((i : ℕ) → i < length xs → test (k + i) ≡ true → f (k + i) ≡ get_or xs i 0)
    → map f (pick test k (length xs)) ≡ nonzero xs
unfolding pick nonzero
pick-nonzero f test k [] h e = refl
pick-nonzero f test k (x ∷ xs) h e =
    let d : test k ≡ not (eqb x 0) = rw add-zero at (h 0 (omega arith)) in
    let v : test k ≡ true → f k ≡ x = rw add-zero at (e 0 (omega arith)) in
    go (eqb x 0) (test k) d v
    (pick-nonzero f test (suc k) xs
    (λ i l. let o : suc k + i ≡ k + suc i = omega arith in ap test o ∙ h (suc i) (omega arith))
    (λ i l q. let o : suc k + i ≡ k + suc i = omega arith in ap f o ∙ e (suc i) (omega arith) (sym (ap test o) ∙ q)))
  where
    go : (b t : Bool) → t ≡ not b → (t ≡ true → f k ≡ x) → map f (pick test (suc k) (length xs)) ≡ nonzero xs
        → map f (cond t (k ∷ pick test (suc k) (length xs)) (pick test (suc k) (length xs))) ≡ cond b (nonzero xs) (x ∷ nonzero xs)
    go true t d v ih = rw d ih
    go false t d v ih = rw (d, v d, ih)

pub live-nonzero : (n : ℕ) (xs : List ℕ) → live_from n xs ≡ n + length (nonzero xs)
unfolding live_from nonzero
live-nonzero n [] = sym (add-zero n)
live-nonzero n (x ∷ xs) = go (λ m. live-nonzero m xs) (eqb x 0)
  where
    go : ((m : ℕ) → live_from m xs ≡ m + length (nonzero xs)) → (b : Bool) → live_from (cond b n (n + 1)) xs ≡ n + length (cond b (nonzero xs) (x ∷ nonzero xs))
    go ih true = ih n
    go ih false = ih (n + 1) ∙ (let e : n + 1 + length (nonzero xs) ≡ n + suc (length (nonzero xs)) = omega arith in e)

-- all are picked; one is not
pub pick_all : (test : ℕ → Bool) (k n : ℕ) → ((i : ℕ) → k ≤ i → i < k + n → test i ≡ true) → length (pick test k n) ≡ n
unfolding pick
pick_all test k zero h = refl
pick_all test k (suc n) h = rw (h k (omega arith) (omega arith)) (ap suc (pick_all test (suc k) n (λ i a b. h i (omega arith) (omega arith))))

pub pick_less : (test : ℕ → Bool) (k n i : ℕ) → k ≤ i → i < k + n → test i ≡ false → length (pick test k n) < n
unfolding pick
pick_less test k zero i a b h = absurd (omega arith)
pick_less test k (suc n) i a b h = go (λ l. pick_less test (suc k) n i l (omega arith) h) (ℕ_discrete i k)
  where
    go : (suc k ≤ i → length (pick test (suc k) n) < n) → Dec (i ≡ k) → length (cond (test k) (k ∷ pick test (suc k) n) (pick test (suc k) n)) < suc n
    go ih (yes e) = rw (rw e at h) (omega (arith, pick-few test (suc k) n))
    go ih (no d) = cond-elim (λ (l : List ℕ). length l < suc n) (test k) (k ∷ pick test (suc k) n) (pick test (suc k) n)
        (λ t. omega (arith, ih (omega arith))) (λ t. omega (arith, pick-few test (suc k) n))

-- what a snapshot keeps of the active numbers, where there is room for them
pub record Keeps (k : Kept) (xs : List ℕ) (r : Kept) : Type 0 where
  pub kept : take r.n r.active ≡ take k.n k.active ++ nonzero xs
  pub lowest : r.least ≡ least k.least (nonzero xs)
  pub count : r.n ≡ k.n + length (nonzero xs)
  pub room : length r.active ≡ length k.active

-- one number more, 0 or not
nonzero-zero : (x : ℕ) (xs : List ℕ) → eqb x 0 ≡ true → nonzero (x ∷ xs) ≡ nonzero xs
unfolding nonzero
nonzero-zero x xs e = rw e

nonzero-more : (x : ℕ) (xs : List ℕ) → eqb x 0 ≡ false → nonzero (x ∷ xs) ≡ x ∷ nonzero xs
unfolding nonzero
nonzero-more x xs e = rw e

keep-zero : (x : ℕ) (xs : List ℕ) (k : Kept) → eqb x 0 ≡ true → keep_all k (x ∷ xs) ≡ keep_all k xs
unfolding keep_all keep_active
keep-zero x xs k e = ap
    (λ (b : Bool). keep_all
    (cond b k (cond (leb most_active k.n) k (record { active = set k.active k.n x; n = k.n + 1; least = min x k.least }))) xs) e

abbrev more : ℕ → Kept → Kept
more x k = record { active = set k.active k.n x; n = k.n + 1; least = min x k.least }

keep-more : (x : ℕ) (xs : List ℕ) (k : Kept) → eqb x 0 ≡ false → k.n < most_active → keep_all k (x ∷ xs) ≡ keep_all (more x k) xs
unfolding keep_all keep_active
keep-more x xs k e h = ap (λ (b : Bool). keep_all (cond b k (cond (leb most_active k.n) k (more x k))) xs) e
    ∙ ap (λ (b : Bool). keep_all (cond b k (more x k)) xs) (lt-leb most_active k.n h)

keep-none : (k : Kept) → Keeps k [] (keep_all k [])
unfolding keep_all nonzero least
keep-none k = record { kept = sym (append-nil (take k.n k.active)); lowest = refl; count = sym (add-zero k.n); room = refl }

least_more : (n x : ℕ) (xs : List ℕ) → least n (x ∷ xs) ≡ least (min x n) xs
unfolding least
least_more n x xs = ap (λ (m : ℕ). least m xs) (lesser-by x n)

pub keep-all : (xs : List ℕ) (k : Kept) → k.n + length (nonzero xs) ≤ most_active → length k.active ≡ most_active → Keeps k xs (keep_all k xs)
keep-all [] k h l = keep-none k
keep-all (x ∷ xs) k h l = go (λ j a b. keep-all xs j a b) (eqb x 0) refl
  where
    go : ((j : Kept) → j.n + length (nonzero xs) ≤ most_active → length j.active ≡ most_active → Keeps j xs (keep_all j xs)) → (b : Bool) → eqb x 0 ≡ b
        → Keeps k (x ∷ xs) (keep_all k (x ∷ xs))
    go ih true e =
        let r = ih k (omega (arith, ap length (nonzero-zero x xs e))) l in
        rw (keep-zero x xs k e) (record {
          kept = rw (nonzero-zero x xs e) r.kept;
          lowest = rw (nonzero-zero x xs e) r.lowest;
          count = rw (nonzero-zero x xs e) r.count;
          room = r.room;
        })
    go ih false e =
        let c : length (nonzero (x ∷ xs)) ≡ suc (length (nonzero xs)) = ap length (nonzero-more x xs e) in
        let i : k.n < length k.active = omega arith in
        let r = ih (more x k) (omega arith) (length-set k.active k.n x ∙ l) in
        rw (keep-more x xs k e (omega arith)) (record {
          kept = rw (nonzero-more x xs e) (r.kept ∙ rw (add-one k.n, take-suc-set k.active k.n x i, append_assoc));
          lowest = rw (nonzero-more x xs e) (r.lowest ∙ sym (least_more k.least x (nonzero xs)));
          count = rw (nonzero-more x xs e) (r.count ∙ (let q : k.n + 1 + length (nonzero xs) ≡ k.n + suc (length (nonzero xs)) = omega arith in q));
          room = r.room ∙ length-set k.active k.n x;
        })
