-- The eight records as the loop keeps them, in parts: numbers, snapshots and rests, each in a list of its own.
-- Assumes nothing.
use borrow.Author.Tests.{eqb-true, eqb-false, ne_eqb}
use Prim.Native.Nat.{ℕ, zero, suc, ◌+◌, ◌<◌, ◌≤◌}
use mathlib.Core.Path.{◌≡◌, refl, sym, ap, ◌∙◌}
use mathlib.Core.Bool.{Bool, true, false, cond}
use mathlib.Core.List.{List, [], ◌∷◌}
use native.Mathlib.Nat.{add-zero, zero-add}
use native.Mathlib.Omega.{arith}
use lib.Dec.{eqb}
use lib.ListN.{length, get_or, set}
use Rattle.model.specs.Store.{rank, phase_ended, phase_prepared}
use Rattle.table_chain.specs.declared.Snapshot.{Snapshot}
use Rattle.txn.specs.View.{phase_view}
use Rattle.txn.specs.Methods.{phase_from, rest_of, whole_of}
use Rattle.txn.specs.declared.Parts.{Parts}
use Rattle.txn.specs.declared.Phase.TheVariants as phase
use Rattle.txn.specs.declared.Rest.{Rest}
use Rattle.txn.specs.declared.Transaction.{Transaction}
use Rattle.txn.proofs.Apart.{whole_parts}
use Rattle.txn_places.specs.Places.{active_by, active_number, prepared_by, prepared_count}

abbrev pub parts_at : ℕ → Snapshot → Rest → ℕ → Parts
parts_at n s r k = record { number = n; snapshot = s; rest = r; slot = k }

-- the records of places k, k + 1, ..
abbrev pub wholes_from : ℕ → List ℕ → List Snapshot → List Rest → List Transaction
wholes_from k [] ss rs = []
wholes_from k (n ∷ ns) [] rs = []
wholes_from k (n ∷ ns) (s ∷ ss) [] = []
wholes_from k (n ∷ ns) (s ∷ ss) (r ∷ rs) = whole_of (parts_at n s r k) ∷ wholes_from (suc k) ns ss rs

abbrev pub wholes : List ℕ → List Snapshot → List Rest → List Transaction
wholes ns ss rs = wholes_from 0 ns ss rs

module _ (d : Transaction) (ds : Snapshot) (dr : Rest) where
  at_from : (k : ℕ) (ns : List ℕ) (ss : List Snapshot) (rs : List Rest) (i : ℕ) → i < length ns → i < length ss → i < length rs
      → get_or (wholes_from k ns ss rs) i d ≡ whole_of (parts_at (get_or ns i 0) (get_or ss i ds) (get_or rs i dr) (k + i))
  at_from k [] ss rs i a b c = absurd (omega (arith, a))
  at_from k (n ∷ ns) [] rs i a b c = absurd (omega (arith, b))
  at_from k (n ∷ ns) (s ∷ ss) [] i a b c = absurd (omega (arith, c))
  at_from k (n ∷ ns) (s ∷ ss) (r ∷ rs) zero a b c = ap (λ (j : ℕ). whole_of (parts_at n s r j)) (sym (add-zero k))
  at_from k (n ∷ ns) (s ∷ ss) (r ∷ rs) (suc i) a b c =
      at_from (suc k) ns ss rs i (omega (arith, a)) (omega (arith, b)) (omega (arith, c))
      ∙ ap (λ (j : ℕ). whole_of (parts_at (get_or ns i 0) (get_or ss i ds) (get_or rs i dr) j)) (let e : suc k + i ≡ k + suc i = omega arith in e)

  -- the record at a place
  pub whole-at : (ns : List ℕ) (ss : List Snapshot) (rs : List Rest) (i : ℕ) → i < length ns → i < length ss → i < length rs
      → get_or (wholes ns ss rs) i d ≡ whole_of (parts_at (get_or ns i 0) (get_or ss i ds) (get_or rs i dr) i)
  whole-at ns ss rs i a b c =
      at_from 0 ns ss rs i a b c ∙ ap (λ (j : ℕ). whole_of (parts_at (get_or ns i 0) (get_or ss i ds) (get_or rs i dr) j)) (zero-add i)

pub wholes-long : (k : ℕ) (ns : List ℕ) (ss : List Snapshot) (rs : List Rest) → length ss ≡ length ns → length rs ≡ length ns
    → length (wholes_from k ns ss rs) ≡ length ns
wholes-long k [] ss rs a b = refl
wholes-long k (n ∷ ns) [] rs a b = absurd (omega (arith, a))
wholes-long k (n ∷ ns) (s ∷ ss) [] a b = absurd (omega (arith, b))
wholes-long k (n ∷ ns) (s ∷ ss) (r ∷ rs) a b = ap suc (wholes-long (suc k) ns ss rs (omega (arith, a)) (omega (arith, b)))

set-from : (k : ℕ) (ns : List ℕ) (ss : List Snapshot) (rs : List Rest) (i n : ℕ) (s : Snapshot) (r : Rest)
    → set (wholes_from k ns ss rs) i (whole_of (parts_at n s r (k + i))) ≡ wholes_from k (set ns i n) (set ss i s) (set rs i r)
set-from k [] ss rs i n s r = refl
set-from k (m ∷ ns) [] rs zero n s r = refl
set-from k (m ∷ ns) [] rs (suc i) n s r = refl
set-from k (m ∷ ns) (q ∷ ss) [] zero n s r = refl
set-from k (m ∷ ns) (q ∷ ss) [] (suc i) n s r = refl
set-from k (m ∷ ns) (q ∷ ss) (p ∷ rs) zero n s r =
    ap (λ (j : ℕ). whole_of (parts_at n s r j) ∷ wholes_from (suc k) ns ss rs) (add-zero k)
set-from k (m ∷ ns) (q ∷ ss) (p ∷ rs) (suc i) n s r =
    ap (λ (l : List Transaction). whole_of (parts_at m q p k) ∷ l)
    (ap (λ (j : ℕ). set (wholes_from (suc k) ns ss rs) i (whole_of (parts_at n s r j))) (let e : k + suc i ≡ suc k + i = omega arith in e)
    ∙ set-from (suc k) ns ss rs i n s r)

-- a record put back in its parts
pub whole_set : (ns : List ℕ) (ss : List Snapshot) (rs : List Rest) (i n : ℕ) (s : Snapshot) (r : Rest)
    → set (wholes ns ss rs) i (whole_of (parts_at n s r i)) ≡ wholes (set ns i n) (set ss i s) (set rs i r)
whole_set ns ss rs i n s r =
    ap (λ (j : ℕ). set (wholes ns ss rs) i (whole_of (parts_at n s r j))) (sym (zero-add i)) ∙ set-from 0 ns ss rs i n s r

-- a record that stands in slot i, put back at place i
pub record-set : (ns : List ℕ) (ss : List Snapshot) (rs : List Rest) (i : ℕ) (t : Transaction) → t.slot ≡ i
    → set (wholes ns ss rs) i t ≡ wholes (set ns i t.number) (set ss i t.snapshot) (set rs i (rest_of t))
record-set ns ss rs i t e = ap (set (wholes ns ss rs) i) (sym (rw (← e) (whole_parts t))) ∙ whole_set ns ss rs i t.number t.snapshot (rest_of t)

-- a number names a phase of Holding and later just where the phase made of it has that number
module _ (x r b k : ℕ) (low : 2 ≤ x) (high : x ≤ 6) where
  rank-by : (b₂ b₃ b₄ b₅ b₆ : Bool) → eqb r 2 ≡ b₂ → eqb r 3 ≡ b₃ → eqb r 4 ≡ b₄ → eqb r 5 ≡ b₅ → eqb r 6 ≡ b₆
      → eqb (rank (phase_view (cond b₂ (phase.Holding b k) (cond b₃ (phase.Collected k)
      (cond b₄ phase.Prepared (cond b₅ phase.Installed (cond b₆ phase.Ended phase.Open))))))) x
      ≡ eqb r x
  rank-by true b₃ b₄ b₅ b₆ e₂ e₃ e₄ e₅ e₆ = rw (eqb-true r 2 e₂)
  rank-by false true b₄ b₅ b₆ e₂ e₃ e₄ e₅ e₆ = rw (eqb-true r 3 e₃)
  rank-by false false true b₅ b₆ e₂ e₃ e₄ e₅ e₆ = rw (eqb-true r 4 e₄)
  rank-by false false false true b₆ e₂ e₃ e₄ e₅ e₆ = rw (eqb-true r 5 e₅)
  rank-by false false false false true e₂ e₃ e₄ e₅ e₆ = rw (eqb-true r 6 e₆)
  rank-by false false false false false e₂ e₃ e₄ e₅ e₆ =
      let none : r ≡ x → ⊥ = λ q.
      absurd (omega (arith, low, high, q, eqb-false r 2 e₂, eqb-false r 3 e₃, eqb-false r 4 e₄, eqb-false r 5 e₅, eqb-false r 6 e₆)) in
      ne_eqb 1 x (λ q. absurd (omega (arith, low, q))) ∙ sym (ne_eqb r x none)

  rank-told : eqb (rank (phase_view (phase_from r b k))) x ≡ eqb r x
  rank-told = rank-by (eqb r 2) (eqb r 3) (eqb r 4) (eqb r 5) (eqb r 6) refl refl refl refl refl

-- so what the loop keeps of the other places is told by the rest
pub active-told : (n r b k : ℕ) → active_number n (phase_from r b k) ≡ active_by n r
active-told n r b k = rw (rank-told phase_ended r b k (omega arith) (omega arith))

pub prepared-told : (n r b k writes : ℕ) → prepared_count n (phase_from r b k) writes ≡ prepared_by n r writes
prepared-told n r b k writes = rw (rank-told phase_prepared r b k (omega arith) (omega arith))
