-- A list as plain functions: which rows it has, and the link behind each place. When its links name its rows, and how a row goes in and out.
-- Assumes nothing.
use Prim.Native.Nat.{ℕ, zero, suc, ◌+◌, ◌-◌, ◌≤◌, ◌<◌}
use mathlib.Core.Path.{◌≡◌, refl, sym, ◌∙◌}
use mathlib.Core.Logic.{◌≢◌, ◌⊎◌, inl, inr, ⊎_elim}
use mathlib.Core.Bool.{Bool, true, false, cond, true≢false}
use native.Mathlib.Decide.{ℕ_discrete, dec_lt}
use native.Mathlib.Omega.{arith}
use Rattle.base_lists.proofs.TableLaws.{cond-elim}

-- the place of the last row below r that is listed; 0 where there is none
unfoldable pub last : (ℕ → Bool) → ℕ → ℕ
last listed zero = 0
last listed (suc r) = cond (listed r) (suc r) (last listed r)

-- what holds of place 0, and of the place of each listed row below r, holds of the last place
pub last-elim : (P : ℕ → Type 0) (listed : ℕ → Bool) (r : ℕ) → P 0 → ((q : ℕ) → q < r → listed q ≡ true → P (suc q)) → P (last listed r)
unfolding last
last-elim P listed zero none some = none
last-elim P listed (suc r) none some =
    cond-elim P (listed r) (suc r) (last listed r) (λ t. some r (omega arith) t)
    (λ t. last-elim P listed r none (λ q h t. some q (omega arith) t))

-- the last place is not past r
pub last-low : (listed : ℕ → Bool) (r : ℕ) → last listed r ≤ r
last-low listed r = last-elim (λ p. p ≤ r) listed r (omega arith) (λ q h t. h)

-- the row at the last place is listed
pub last-listed : (listed : ℕ → Bool) (r q : ℕ) → last listed r ≡ suc q → listed q ≡ true
last-listed listed r q =
    last-elim (λ p. p ≡ suc q → listed q ≡ true) listed r (λ e. absurd (omega arith))
    (λ s h t e. let d : q ≡ s = omega arith in rw d t)

-- no listed row below r is past the last place
pub last-above : (listed : ℕ → Bool) (r q : ℕ) → q < r → listed q ≡ true → q < last listed r
unfolding last
last-above listed zero q h t = absurd (omega arith)
last-above listed (suc r) q h t =
    cond-elim (λ p. q < p) (listed r) (suc r) (last listed r) (λ e. h)
    (λ e. elim (ℕ_discrete q r) [ yes d ↦ absurd (true≢false (sym t ∙ (rw d e))) | no d ↦ last-above listed r q (omega (arith, d)) t ])

-- the same rows below r have the same last place
pub last-same : (listed also : ℕ → Bool) (r : ℕ) → ((q : ℕ) → q < r → listed q ≡ also q) → last listed r ≡ last also r
unfolding last
last-same listed also zero h = refl
last-same listed also (suc r) h = rw (h r (omega arith), last-same listed also r (λ q l. h q (omega arith)))

-- the links tell the rows below most: the link behind the last row before a listed one names it, and the one behind the last of all names none
pub record Linked (listed : ℕ → Bool) (link : ℕ → ℕ) (most : ℕ) : Type 0 where
  pub named : (r : ℕ) → r < most → listed r ≡ true → link (last listed r) ≡ suc r
  pub ended : link (last listed most) ≡ 0

-- the same rows, and the same links behind place 0 and behind each row
pub linked-kept : (listed also : ℕ → Bool) (link anew : ℕ → ℕ) (most : ℕ) → ((r : ℕ) → r < most → also r ≡ listed r) → anew 0 ≡ link 0
    → ((q : ℕ) → q < most → listed q ≡ true → anew (suc q) ≡ link (suc q)) → Linked listed link most → Linked also anew most
linked-kept listed also link anew most same first later l = record {
  named = λ r h t. at r (omega arith) ∙ l.named r h (sym (same r h) ∙ t);
  ended = at most (omega arith) ∙ l.ended;
}
  where
    at : (r : ℕ) → r ≤ most → anew (last also r) ≡ link (last listed r)
    at r h = rw (last-same also listed r (λ q u. same q (omega arith)))
        (last-elim (λ p. anew p ≡ link p) listed r first (λ q u t. later q (omega arith) t))

-- each link leads on, or names none
pub leads-on : (listed : ℕ → Bool) (link : ℕ → ℕ) (most : ℕ) → Linked listed link most → (d k : ℕ) → k + d ≡ most
    → (link (last listed k) ≡ 0) ⊎ (k < link (last listed k))
unfolding last
leads-on listed link most l zero k e = let d : k ≡ most = omega arith in inl (rw d l.ended)
leads-on listed link most l (suc d) k e =
    by (listed k) refl (leads-on listed link most l d (suc k) (omega arith))
  where
    by : (t : Bool) → listed k ≡ t → (link (cond t (suc k) (last listed k)) ≡ 0) ⊎ (suc k < link (cond t (suc k) (last listed k)))
        → (link (last listed k) ≡ 0) ⊎ (k < link (last listed k))
    by true t w = inr (omega (arith, l.named k (omega arith) t))
    by false t w = ⊎_elim inl (λ h. inr (omega arith)) w

-- a list with a row and the same list without it: the row's own link is that behind the place before it, and no other link differs
module _ (listed lacks : ℕ → Bool) (link skip : ℕ → ℕ) (row most : ℕ) (low : row < most) (stands : listed row ≡ true) (gone : lacks row ≡ false)
    (same : (r : ℕ) → r ≢ row → listed r ≡ lacks r) (over : skip (last lacks row) ≡ link (suc row))
    (kept : (p : ℕ) → p ≢ last lacks row → p ≢ suc row → skip p ≡ link p) where
  -- up to the row the last places are the same
  before : (r : ℕ) → r ≤ row → last listed r ≡ last lacks r
  before r h = last-same listed lacks r (λ q l. same q (omega arith))

  -- behind it they are, but where the row itself is the last
  behind : (d : ℕ) → ((last listed (suc row + d) ≡ suc row) × (last lacks (suc row + d) ≡ last lacks row))
      ⊎ ((suc row < last listed (suc row + d)) × (last lacks (suc row + d) ≡ last listed (suc row + d)))
  unfolding last
  behind zero = let e : suc row + 0 ≡ suc row = omega arith in rw (e, stands, gone) (inl (refl, refl))
  behind (suc d) =
      let e : suc row + suc d ≡ suc (suc row + d) = omega arith in
      rw (e, ← same (suc row + d) (omega arith)) (by (listed (suc row + d)) (behind d))
    where
      by : (t : Bool) → ((last listed (suc row + d) ≡ suc row) × (last lacks (suc row + d) ≡ last lacks row))
          ⊎ ((suc row < last listed (suc row + d)) × (last lacks (suc row + d) ≡ last listed (suc row + d)))
          → ((cond t (suc (suc row + d)) (last listed (suc row + d)) ≡ suc row) × (cond t (suc (suc row + d)) (last lacks (suc row + d)) ≡ last lacks row))
          ⊎ ((suc row < cond t (suc (suc row + d)) (last listed (suc row + d)))
          × (cond t (suc (suc row + d)) (last lacks (suc row + d)) ≡ cond t (suc (suc row + d)) (last listed (suc row + d))))
      by true w = inr (omega arith, refl)
      by false w = w

  -- so behind the row the links are the same
  on : (r : ℕ) → row < r → skip (last lacks r) ≡ link (last listed r)
  on r h =
      let e : suc row + (r - suc row) ≡ r = omega arith in
      let two = rw e at (behind (r - suc row)) in
      ⊎_elim (λ w. rw (w.1, w.0) over) (λ w. rw w.1 (kept (last listed r) (λ d. omega (arith, last-low lacks row)) (λ d. omega arith))) two

  -- and before it, behind each listed row
  up_to : (r : ℕ) → r < row → lacks r ≡ true → skip (last lacks r) ≡ link (last listed r)
  up_to r h t =
      rw (before r (omega arith))
      (kept (last lacks r) (λ d. omega (arith, last-low lacks r, last-above lacks row r h t)) (λ d. omega (arith, last-low lacks r)))

  -- the row goes out
  pub taken : Linked listed link most → Linked lacks skip most
  taken l = record { named = λ r h t. by r h t (dec_lt r row); ended = on most low ∙ l.ended }
    where
      by : (r : ℕ) → r < most → lacks r ≡ true → Dec (r < row) → skip (last lacks r) ≡ suc r
      by r h t (yes u) = up_to r u t ∙ l.named r h (same r (λ d. omega arith) ∙ t)
      by r h t (no u) =
          let d : r ≢ row = λ e. true≢false (sym t ∙ (rw e gone)) in
          on r (omega (arith, d)) ∙ l.named r h (same r d ∙ t)

  -- the row goes in
  pub put : link (last lacks row) ≡ suc row → Linked lacks skip most → Linked listed link most
  put names l = record { named = λ r h t. by r h t (dec_lt r row); ended = sym (on most low) ∙ l.ended }
    where
      behind-it : (r : ℕ) → r < most → listed r ≡ true → row ≤ r → Dec (r ≡ row) → link (last listed r) ≡ suc r
      behind-it r h t u (yes e) = rw (e, before row (omega arith)) names
      behind-it r h t u (no d) = sym (on r (omega (arith, d))) ∙ l.named r h (sym (same r d) ∙ t)

      by : (r : ℕ) → r < most → listed r ≡ true → Dec (r < row) → link (last listed r) ≡ suc r
      by r h t (yes u) = let s = sym (same r (λ d. omega arith)) ∙ t in sym (up_to r u s) ∙ l.named r h s
      by r h t (no u) = behind-it r h t (omega (arith, u)) (ℕ_discrete r row)
