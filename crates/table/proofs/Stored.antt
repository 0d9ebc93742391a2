-- An entry stored in one list of one slot: that list grows, every other list of every slot is as it was. Proved once for any two kinds of list.
-- Assumes nothing.
use Prim.Native.Nat.{ℕ, suc, ◌+◌, ◌*◌, ◌≤◌, ◌<◌}
use mathlib.Core.Path.{◌≡◌}
use mathlib.Core.Logic.{◌≢◌, ◌⊎◌, inl, inr, ⊎_elim}
use mathlib.Core.List.{List, [], ◌∷◌, ◌++◌}
use native.Mathlib.Nat.{mul-le-mul_left, mul-suc}
use native.Mathlib.Decide.{dec_lt}
use native.Mathlib.Omega.{arith}
use lib.ListN.{length}
use Rattle.base_limits.specs.Limits.{most_live}
use Rattle.table.specs.Lists.{Kind, end_of, slot_words, lists_words, start_of, place_of, list_at, stored}
use Rattle.table.proofs.Spans.{list-kept, list-stored}

-- a list lies within its slot; two lists of a slot do not meet
abbrev pub Within : Kind → Type 0
Within k = end_of k ≤ slot_words

abbrev pub Apart : Kind → Kind → Type 0
Apart k l = (end_of k ≤ l.off) ⊎ (end_of l ≤ k.off)

-- entry i ends within the room
entry-end : (w i room : ℕ) → i < room → w * i + w ≤ w * room
entry-end w i room h = omega (arith, mul-le-mul_left {m = suc i} {n = room} w h, mul-suc w i)

module _ {A : Type 0} (f : List ℕ → A) (k l : Kind) (xs : List ℕ) (s i n : ℕ) (vs : List ℕ) (e : length vs ≡ k.w) (hi : i < k.room) (hn : n ≤ l.room) where
  pub other-list : Apart k l → list_at f l (stored k xs s i vs) s n ≡ list_at f l xs s n
  other-list d =
      let a = entry-end k.w i k.room hi in
      let b = mul-le-mul_left {m = n} {n = l.room} l.w hn in
      list-kept f l.w (start_of l s) xs n (place_of k s i) vs (⊎_elim (λ p. inr (omega arith)) (λ p. inl (omega arith)) d)

  pub other-slot : Within k → Within l → (t : ℕ) → t ≢ s → list_at f l (stored k xs s i vs) t n ≡ list_at f l xs t n
  other-slot ik il t d =
      let a = entry-end k.w i k.room hi in
      let b = mul-le-mul_left {m = n} {n = l.room} l.w hn in
      list-kept f l.w (start_of l t) xs n (place_of k s i) vs
      (elim (dec_lt t s) [ yes p ↦ inl (omega arith) | no p ↦ let q : s < t = omega (arith, d) in inr (omega arith) ])

-- in a slice with room for every slot, an entry stored behind the last is appended
pub same-list : {A : Type 0} (f : List ℕ → A) (k : Kind) (xs : List ℕ) (s i : ℕ) (vs : List ℕ) → length vs ≡ k.w → i < k.room → Within k → s < most_live
    → lists_words ≤ length xs
    → list_at f k (stored k xs s i vs) s (i + 1) ≡ list_at f k xs s i ++ (f vs ∷ [])
same-list f k xs s i vs e hi ik hs h = let a = entry-end k.w i k.room hi in list-stored f k.w (start_of k s) xs i vs e (omega arith)

-- words behind the count are in no list: what was stored before a refusal is not in the lists of the record that came in
pub behind : {A : Type 0} (f : List ℕ → A) (k : Kind) (xs : List ℕ) (s i n : ℕ) (vs : List ℕ) → n ≤ i
    → list_at f k (stored k xs s i vs) s n ≡ list_at f k xs s n
behind f k xs s i n vs h = list-kept f k.w (start_of k s) xs n (place_of k s i) vs (inl (omega (arith, mul-le-mul_left {m = n} {n = i} k.w h)))
