-- How the scans' definitions go from one place to the next, what they are at the end, and what stands at a place.
-- Assumes nothing.
use Prim.Native.Nat.{ℕ, ◌+◌, ◌<◌, ◌≤◌, min}
use mathlib.Core.Path.{◌≡◌, refl, sym, ◌∙◌}
use mathlib.Core.List.{List, map}
use mathlib.Core.Bool.{cond}
use native.Mathlib.Numerals.{add-one}
use native.Mathlib.Decide.{ℕ_discrete, dec_lt}
use native.Mathlib.Omega.{arith}
use borrow.Author.Tests.{eq-eqb, ne_eqb, lt-ltb, le-ltb}
use lib.Dec.{eqb, ltb}
use lib.ListN.{length, drop, take, get_or, length-take, drop_of_length-le}
use lib.Seq.{drop-cons, get_or-take}
use Rattle.std.specs.Prelude.{Some, None}
use Rattle.base_lists.specs.Lists.{least}
use Rattle.base_numbers.proofs.Laws.{lesser-by}
use Rattle.table.specs.Lists.{Kind, start_of, entry_at, list_at}
use Rattle.table.proofs.Spans.{list-at, list_length, list-map}
use Rattle.table_scans.specs.Scans.{last_below}

-- a test of two numbers either way round
pub eqb-sym : (m n : ℕ) → eqb m n ≡ eqb n m
eqb-sym m n = elim (ℕ_discrete m n) [ yes e ↦ rw (eq-eqb m n e, eq-eqb n m (sym e)) | no d ↦ rw (ne_eqb m n d, ne_eqb n m (λ e. d (sym e))) ]

module _ (l : List ℕ) (i x : ℕ) where
  pub last-next : last_below l x (i + 1) ≡ cond (eqb (get_or l i 0) x) (Some i) (last_below l x i)
  unfolding last_below
  last-next = rw add-one

pub last_end : (l : List ℕ) (x : ℕ) → last_below l x 0 ≡ None
unfolding last_below
last_end l x = refl

module _ (a : List ℕ) (n i x : ℕ) where
  -- a place past the count takes no part in the least
  pub least-next : i < length a → least x (drop i (take n a)) ≡ least (cond (ltb i n) (min (get_or a i 0) x) x) (drop (i + 1) (take n a))
  unfolding least
  least-next k = elim (dec_lt i n) [
    | yes h ↦ let m : i < length (take n a) = rw length-take (omega arith) in
        rw (lt-ltb i n h, add-one, drop-cons (take n a) i 0, get_or-take n a i 0 h, ← lesser-by (get_or a i 0) x)
    | no h ↦
        let m : length (take n a) ≤ i = rw length-take (omega (arith, h)) in
        let m' : length (take n a) ≤ i + 1 = omega arith in
        rw (le-ltb i n (omega (arith, h)), drop_of_length-le (take n a) m, drop_of_length-le (take n a) m')
  ]

  pub least-end : length a ≤ i → least x (drop i (take n a)) ≡ x
  unfolding least
  least-end h = let m : length (take n a) ≤ i = rw length-take (omega arith) in rw (drop_of_length-le (take n a) m)

-- a field of every entry of a slot's list: how many there are, and which stands at a place
module _ {A : Type 0} (g : A → ℕ) (f : List ℕ → A) (k : Kind) (xs : List ℕ) (s n : ℕ) where
  pub fields-length : length (map g (list_at f k xs s n)) ≡ n
  fields-length = rw (list-map g f k.w (start_of k s) xs n) (list_length (λ ws. g (f ws)) k.w (start_of k s) xs n)

  pub fields_at : (i : ℕ) → i < n → get_or (map g (list_at f k xs s n)) i 0 ≡ g (entry_at f k xs s i)
  fields_at i h = rw (list-map g f k.w (start_of k s) xs n) (list-at (λ ws. g (f ws)) k.w (start_of k s) xs n i 0 h)

  -- a walk down such a list, where v is read at entry i
  module _ (i v x : ℕ) (e : v ≡ g (entry_at f k xs s i)) (h : i < n) where
    pub fields-last : last_below (map g (list_at f k xs s n)) x (i + 1) ≡ cond (eqb v x) (Some i) (last_below (map g (list_at f k xs s n)) x i)
    fields-last = last-next (map g (list_at f k xs s n)) i x ∙ rw (fields_at i h, e)
