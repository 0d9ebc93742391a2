-- How the active numbers are kept, one after another.
-- Assumes nothing.
use Prim.Native.Nat.{ℕ, ◌+◌, ◌<◌, ◌≤◌}
use mathlib.Core.Path.{◌≡◌}
use mathlib.Core.List.{List}
use native.Mathlib.Numerals.{add-one}
use lib.ListN.{length, drop, get_or, drop_of_length-le}
use lib.Seq.{drop-cons}
use Rattle.txn_begin.specs.declared.Kept.{Kept}
use Rattle.txn_begin.specs.Begin.{keep_active, keep_all}

pub keep-turn : (k k' : Kept) (l : List ℕ) (i : ℕ) → i < length l → k' ≡ keep_active k (get_or l i 0) → keep_all k (drop i l) ≡ keep_all k' (drop (i + 1) l)
unfolding keep_all
keep-turn k k' l i h e = rw (add-one, drop-cons l i 0, e)

pub keep-end : (k : Kept) (l : List ℕ) (i : ℕ) → length l ≤ i → keep_all k (drop i l) ≡ k
unfolding keep_all
keep-end k l i h = rw (drop_of_length-le l h)
