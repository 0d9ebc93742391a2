-- The eight places: where a number stands, and what a record put at a place leaves, as the model has it.
-- Assumes nothing.
use Prim.Native.Nat.{ℕ, zero, suc, ◌+◌, ◌≤◌, ◌<◌}
use mathlib.Core.Path.{◌≡◌, refl, ap, ◌∙◌}
use mathlib.Core.Bool.{Bool, true, false, cond}
use mathlib.Core.Logic.{◌≢◌}
use mathlib.Core.List.{List, [], ◌∷◌, map}
use native.Mathlib.Nat.{add-zero, zero-add}
use native.Mathlib.Decide.{ℕ_discrete, dec_lt}
use native.Mathlib.Omega.{arith}
use lib.Dec.{eqb}
use lib.ListN.{length, get_or, get_or-map, get_or-eq_default}
use borrow.Author.Tests.{eqb-false, ne_eqb}
use Rattle.base_limits.specs.Limits.{most_live}
use Rattle.base_lists.specs.Lists.{first}
use Rattle.model.specs.Refusals.{place_of}
use Rattle.base_protocol.specs.declared.Step.{Step}
use Rattle.txn.specs.Methods.{idle_of}
use Rattle.txn.specs.declared.Transaction.{Transaction}
use Rattle.txn_places.specs.Places.{place_from, wanted_of}
use Rattle.step.specs.Words.{Words, view, txn_at, place_for, SizedTxn, Sized}

module _ (test : ℕ → Bool) where
  -- where there is a first place, the words find it
  place-found : (k n : ℕ) (xs : List ℕ) → ((i : ℕ) → i < length xs → test (k + i) ≡ eqb (get_or xs i 0) n) → first test k (length xs) < k + length xs
      → place_from k xs n ≡ first test k (length xs)
  unfolding first place_from
  place-found k n [] h = λ l. absurd (omega arith)
  place-found k n (x ∷ xs) h =
      let e : test k ≡ eqb x n = rw add-zero at (h 0 (omega arith)) in
      rw e (go (eqb x n) (place-found (suc k) n xs (λ i l. let d : suc k + i ≡ k + suc i = omega arith in ap test d ∙ h (suc i) (omega arith))))
    where
      go : (b : Bool) → (first test (suc k) (length xs) < suc k + length xs → place_from (suc k) xs n ≡ first test (suc k) (length xs))
          → cond b k (first test (suc k) (length xs)) < k + suc (length xs) → cond b k (place_from (suc k) xs n) ≡ cond b k (first test (suc k) (length xs))
      go true ih l = refl
      go false ih l = ih (omega arith)

  -- where there is none, the test holds nowhere
  first-none : (k n : ℕ) → k + n ≤ first test k n → (i : ℕ) → k ≤ i → i < k + n → test i ≡ false
  unfolding first
  first-none k zero = λ l i a b. absurd (omega arith)
  first-none k (suc n) = go (test k) refl (first-none (suc k) n)
    where
      go : (b : Bool) → test k ≡ b → (suc k + n ≤ first test (suc k) n → (i : ℕ) → suc k ≤ i → i < suc k + n → test i ≡ false)
          → k + suc n ≤ cond b k (first test (suc k) n) → (i : ℕ) → k ≤ i → i < k + suc n → test i ≡ false
      go true e ih l i a b = absurd (omega arith)
      go false e ih l i a b = elim (ℕ_discrete i k) [ yes d ↦ rw d e | no d ↦ ih (omega arith) i (omega arith) (omega arith) ]

place_none : (k n : ℕ) (xs : List ℕ) → ((i : ℕ) → i < length xs → eqb (get_or xs i 0) n ≡ false) → place_from k xs n ≡ 0
unfolding place_from
place_none k n [] h = refl
place_none k n (x ∷ xs) h = rw (h 0 (omega arith)) (place_none (suc k) n xs (λ i l. h (suc i) (omega arith)))

-- where a number stands
abbrev pub standing : Words → ℕ → ℕ
standing w n = place_of (view w).txns n

-- who has a number that is not 0 is live
pub live_at : (w : Words) (n : ℕ) → n ≢ 0 → (txn_at w (standing w n)).number ≡ n → 1 ≤ (txn_at w (standing w n)).number
live_at w n d e = omega (arith, d)

pub number_at : (ts : List Transaction) (i : ℕ) → get_or (map (λ (t : Transaction). t.number) ts) i 0 ≡ (get_or ts i (idle_of i)).number
number_at ts i = get_or-map (λ (t : Transaction). t.number) ts i (idle_of i)

length-numbers : (ts : List Transaction) → length (map (λ (t : Transaction). t.number) ts) ≡ length ts
length-numbers [] = refl
length-numbers (t ∷ ts) = ap suc (length-numbers ts)

module _ (w : Words) (z : Sized w) where
  pub numbers-eight : length (map (λ (t : Transaction). t.number) w.txns) ≡ most_live
  numbers-eight = length-numbers w.txns ∙ z.eight

  -- the words find the place that the model finds
  pub there : (s : Step) → standing w (wanted_of s) < most_live → place_for w.txns s ≡ standing w (wanted_of s)
  unfolding place_for place_of
  there s l =
      rw numbers-eight at
      (place-found (λ i. eqb (txn_at w i).number (wanted_of s)) 0 (wanted_of s) (map (λ (t : Transaction). t.number) w.txns)
      (λ i h. rw (zero-add i, number_at w.txns i))
      (rw numbers-eight l))

  -- where the model finds none, no place has the number
  pub not_there : (n : ℕ) → most_live ≤ standing w n → (i : ℕ) → i < most_live → (txn_at w i).number ≢ n
  unfolding place_of
  not_there n l i h = eqb-false _ n (first-none (λ i. eqb (txn_at w i).number n) 0 most_live l i (omega arith) h)

  pub nowhere : (s : Step) → most_live ≤ standing w (wanted_of s) → place_for w.txns s ≡ 0
  unfolding place_for
  nowhere s l = place_none 0 (wanted_of s) (map (λ (t : Transaction). t.number) w.txns)
      (λ i h. rw (number_at w.txns i) (ne_eqb _ _ (not_there (wanted_of s) l i (omega (arith, numbers-eight)))))

  pub place_in : (s : Step) → place_for w.txns s < most_live
  place_in s = elim (dec_lt (standing w (wanted_of s)) most_live) [ yes l ↦ rw (there s l) l | no l ↦ rw (nowhere s (omega (arith, l))) (omega arith) ]

  -- every record is in order, a free one past the eighth too
  pub sized-at : (j : ℕ) → SizedTxn j (txn_at w j)
  sized-at j = elim (dec_lt j most_live)
      [ yes l ↦ z.txns j l | no l ↦ rw (get_or-eq_default w.txns (idle_of j) {n = j} (omega (arith, z.eight))) (idle j) ]
    where
      idle : (j : ℕ) → SizedTxn j (idle_of j)
      idle j = record {
        slot = refl;
        active = omega arith;
        seven = refl;
        reads = omega arith;
        writes = omega arith;
        records = omega arith;
        candidates = omega arith;
      }
