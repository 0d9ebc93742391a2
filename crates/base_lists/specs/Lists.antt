-- Lists of numbers and bounded tests, as every other definition uses them; and the same as facts.
use Rattle.std.specs.Prelude.{ℕ, zero, suc, ◌≤◌, ◌≡◌, Bool, true, false, cond, ◌&&◌, ◌||◌, ◌⊎◌, List, [], ◌∷◌, ◌++◌, eqb, ltb}

-- x is one of the list's numbers
unfoldable pub member : ℕ → List ℕ → Bool
member x [] = false
member x (y ∷ ys) = eqb x y || member x ys

-- the least of n and the list's numbers
unfoldable pub least : ℕ → List ℕ → ℕ
least n [] = n
least n (x ∷ xs) = least (cond (ltb x n) x n) xs

-- the numbers k, k + 1, .. among the next n at which the test holds, ascending
unfoldable pub pick : (ℕ → Bool) → ℕ → ℕ → List ℕ
pick test k zero = []
pick test k (suc n) = cond (test k) (k ∷ pick test (suc k) n) (pick test (suc k) n)

-- the first of k, k + 1, .. among the next n at which the test holds; k + n where there is none
unfoldable pub first : (ℕ → Bool) → ℕ → ℕ → ℕ
first test k zero = k
first test k (suc n) = cond (test k) k (first test (suc k) n)

-- the test holds at each number below n
unfoldable pub every : ℕ → (ℕ → Bool) → Bool
every zero test = true
every (suc n) test = every n test && test n

module _ {A : Type 0} where
  -- the test holds of some entry; of each entry
  unfoldable pub some_of : (A → Bool) → List A → Bool
  some_of test [] = false
  some_of test (x ∷ xs) = test x || some_of test xs

  unfoldable pub all_of : (A → Bool) → List A → Bool
  all_of test [] = true
  all_of test (x ∷ xs) = test x && all_of test xs

  -- the lists of all entries, one after another
  unfoldable pub join : (A → List ℕ) → List A → List ℕ
  join f [] = []
  join f (x ∷ xs) = f x ++ join f xs

  -- x is an entry of the list
  abbrev pub Among : A → List A → Type 0
  Among x [] = ⊥
  Among x (y ∷ ys) = (x ≡ y) ⊎ Among x ys

-- every number is at least k, and each is above the one before
abbrev pub Rising : ℕ → List ℕ → Type 0
Rising k [] = Unit {0}
Rising k (r ∷ rs) = (k ≤ r) × Rising (suc r) rs
