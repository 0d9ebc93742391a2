-- One set of laws for every table: over the words of an entry, w, and the field, k.
-- Assumes nothing.
use Prim.Native.Nat.{ℕ, suc, ◌+◌, ◌*◌, ◌≤◌, ◌<◌}
use mathlib.Core.Path.{◌≡◌, fun_ext}
use mathlib.Core.Logic.{◌≢◌}
use mathlib.Core.List.{List}
use native.Mathlib.Nat.{mul-le-mul_left, mul-le-mul_right, mul-suc}
use native.Mathlib.Decide.{ℕ_discrete, dec_lt}
use native.Mathlib.Omega.{arith}
use lib.ListN.{length, length-set, get_or-eq_default}
use lib.Seq.{get_or-set_same, get_or-set_other, set_out}
use Rattle.base_lists.specs.Table.{update}
use Rattle.base_lists.proofs.TableLaws.{update_same, update_other}
use Rattle.table.specs.Words.{field, set_field}

-- a place past entry j's is past its words
pub below : (w i j k : ℕ) → k < w → i < j → w * i + k < w * j
below w i j k h l = omega (arith, mul-le-mul_left {m = suc i} {n = j} w l, mul-suc w i)

-- two places of one table are one only where entry and field are
pub apart : (w i j k m : ℕ) → k < w → m < w → i ≢ j → w * i + k ≢ w * j + m
apart w i j k m hk hm d e =
    elim (dec_lt i j) [ yes l ↦ absurd (omega (arith, below w i j k hk l)) | no l ↦ absurd (omega (arith, below w j i m hm (omega (arith, d)))) ]

-- what an index at or past the length is: no place of any field
pub past : (w k i n : ℕ) → 1 ≤ w → n ≤ i → n ≤ w * i + k
past w k i n h l = omega (arith, mul-le-mul_right {m = 1} {n = w} i h)

-- the place fits where the entry's number is below a length
pub place-low : (w i : ℕ) → w ≤ 8 → w * i ≤ 8 * i
place-low w i h = mul-le-mul_right {m = w} {n = 8} i h

module _ (w k : ℕ) (xs : List ℕ) (i v : ℕ) where
  -- a field out of range reads 0, and a store there leaves all as it was
  pub field_past : 1 ≤ w → length xs ≤ i → field w k xs i ≡ 0
  unfolding field
  field_past h l = get_or-eq_default xs 0 {n = w * i + k} (past w k i (length xs) h l)

  pub set_past : 1 ≤ w → length xs ≤ i → set_field w k xs i v ≡ xs
  unfolding set_field
  set_past h l = set_out xs (w * i + k) v (past w k i (length xs) h l)

  pub field-length : length (set_field w k xs i v) ≡ length xs
  unfolding set_field
  field-length = length-set xs (w * i + k) v

  -- same entry and field; same entry, other field; other entry
  pub field-same : w * i + k < length xs → field w k (set_field w k xs i v) i ≡ v
  unfolding field set_field
  field-same h = get_or-set_same xs (w * i + k) v 0 h

  pub field-other : (m : ℕ) → m ≢ k → (j : ℕ) → m < w → k < w → field w m (set_field w k xs i v) j ≡ field w m xs j
  unfolding field set_field
  field-other m d j hm hk =
      get_or-set_other xs (w * i + k) (w * j + m) v 0 (elim (ℕ_discrete j i) [ yes e ↦ (λ q. d (omega (arith, rw e at q))) | no n ↦ apart w j i m k hm hk n ])

  pub entry_other : (m j : ℕ) → m < w → k < w → j ≢ i → field w m (set_field w k xs i v) j ≡ field w m xs j
  unfolding field set_field
  entry_other m j hm hk n = get_or-set_other xs (w * i + k) (w * j + m) v 0 (apart w j i m k hm hk n)

  -- as functions of the entry: the field that was set is updated, every other is as it was
  pub field-update : k < w → w * i + k < length xs → field w k (set_field w k xs i v) ≡ update (field w k xs) i v
  field-update hk h = fun_ext λ j. elim (ℕ_discrete j i) [ yes e ↦ rw (e, update_same) (field-same h) | no n ↦ rw update_other (entry_other k j hk hk n) ]

  pub field-kept : (m : ℕ) → m < w → k < w → m ≢ k → field w m (set_field w k xs i v) ≡ field w m xs
  field-kept m hm hk d = fun_ext λ j. field-other m d j hm hk
