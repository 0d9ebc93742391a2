-- Which pending rows get a version, and which got one: each test taken apart into facts. Assumes nothing.
use mathlib.Core.Path.{◌≡◌, refl, sym, ap, ◌∙◌}
use mathlib.Core.Bool.{Bool, true, false, ◌&&◌, ◌||◌, true≢false}
use mathlib.Core.Logic.{◌⊎◌, inl, inr, ⊎_elim}
use mathlib.Core.Option.{Option, none, some}
use mathlib.Core.List.{List}
use Prim.Native.Nat.{ℕ, ◌+◌, ◌≤◌, ◌<◌}
use native.Mathlib.Omega.{arith}
use lib.Dec.{leb}
use borrow.Author.Tests.{eqb-true, eq-eqb, leb-true, le-leb}
use Rattle.base_lists.specs.Lists.{pick}
use Rattle.base_lists.proofs.ListLaws.{and_l, and_r, and_both, or_left, or_right, or_cases, or_l, or_r, pick-which, which-pick, pick_same}
use Rattle.model.specs.Store.{Sizes, Chains, Write, Txn, keyed}
use Rattle.model.specs.Seeing.{last_write, pending, written_key}
use Rattle.model.specs.Steps.{pending_rows, old_key, new_key, gets_version, version_rows, headed_by, made_rows}
use Rattle.model.specs.Holding.{Writes, Gets, Made, ErasesNothing}
use Rattle.model.proofs.SeeingLaws.{which-pendingRows}

-- a key that is not there is none
not-keyed : (o : Option ℕ) → keyed o ≡ false → o ≡ none
unfolding keyed
not-keyed none e = refl
not-keyed (some k) e = absurd (true≢false e)

none-keyed : (o : Option ℕ) → o ≡ none → keyed o ≡ false
unfolding keyed
none-keyed o e = ap keyed e

-- a key that is there is some key
is-keyed : (o : Option ℕ) → keyed o ≡ true → (k : ℕ) × (o ≡ some k)
unfolding keyed
is-keyed none e = absurd (true≢false (sym e))
is-keyed (some k) e = (k, refl)

some-keyed : (o : Option ℕ) → (k : ℕ) × (o ≡ some k) → keyed o ≡ true
unfolding keyed
some-keyed o w = ap keyed w.1

-- the two tests
abbrev to_get : Chains → Txn → ℕ → Bool
to_get c x r = pending x.writes r && gets_version c x.writes r

abbrev has_got : Chains → Txn → ℕ → Bool
has_got c x r = pending x.writes r && headed_by c x.number r

module _ (z : Sizes) (c : Chains) (x : Txn) (r : ℕ) where
  pub gets-writes : Gets z c x r → Writes z x r
  unfolding version_rows
  gets-writes m = let w = pick-which (to_get c x) 0 z.rows r m in which-pendingRows z x.writes r (omega (arith, w.1)) (and_l _ _ w.2)

  -- there is an old key or a new one
  pub gets-which : Gets z c x r → (r < z.rows) × (pending x.writes r ≡ true) × (((k : ℕ) × (old_key c r ≡ some k)) ⊎ ((k : ℕ) × (new_key x r ≡ some k)))
  unfolding version_rows gets_version
  gets-which m =
      let w = pick-which (to_get c x) 0 z.rows r m in (
        omega (arith, w.1),
        and_l _ _ w.2,
        ⊎_elim (λ e. inl (is-keyed _ e)) (λ e. inr (is-keyed _ e)) (or_cases (keyed (old_key c r)) _ (and_r (pending x.writes r) _ w.2)),
      )

  pub which-gets : r < z.rows → pending x.writes r ≡ true → ((k : ℕ) × (old_key c r ≡ some k)) ⊎ ((k : ℕ) × (new_key x r ≡ some k)) → Gets z c x r
  unfolding version_rows gets_version
  which-gets l p h = which-pick (to_get c x) 0 z.rows r (omega arith) (omega arith)
      (and_both _ _ p (⊎_elim (λ w. or_left _ _ (some-keyed _ w)) (λ w. or_right (keyed (old_key c r)) _ (some-keyed _ w)) h))

  pub made-writes : Made z c x r → Writes z x r
  unfolding made_rows
  made-writes m = let w = pick-which (has_got c x) 0 z.rows r m in which-pendingRows z x.writes r (omega (arith, w.1)) (and_l _ _ w.2)

  pub made-head : Made z c x r → (1 ≤ c.head r) × (c.xmin (c.head r) ≡ x.number)
  unfolding made_rows headed_by
  made-head m =
      let w = pick-which (has_got c x) 0 z.rows r m in
      let b = and_r (pending x.writes r) _ w.2 in
      (leb-true 1 (c.head r) (and_l (leb 1 (c.head r)) _ b), eqb-true _ _ (and_r (leb 1 (c.head r)) _ b))

  pub which-made : Writes z x r → 1 ≤ c.head r → c.xmin (c.head r) ≡ x.number → Made z c x r
  unfolding made_rows headed_by pending_rows
  which-made m p e =
      let w = pick-which (pending x.writes) 0 z.rows r m in
      which-pick (has_got c x) 0 z.rows r w.0 w.1 (and_both _ _ w.2 (and_both _ _ (le-leb 1 (c.head r) p) (eq-eqb _ _ e)))

  gets-no : gets_version c x.writes r ≡ false → ErasesNothing c x r
  unfolding gets_version
  gets-no e = (not-keyed _ (or_l (keyed (old_key c r)) _ e), not-keyed _ (or_r (keyed (old_key c r)) _ e))

  pub no-gets : ErasesNothing c x r → gets_version c x.writes r ≡ false
  unfolding gets_version
  no-gets n = rw (none-keyed _ n.0, none-keyed _ n.1)

  pub gets-or-not : Writes z x r → Gets z c x r ⊎ ErasesNothing c x r
  unfolding version_rows pending_rows
  gets-or-not m = go (gets_version c x.writes r) refl
    where
      go : (b : Bool) → gets_version c x.writes r ≡ b → Gets z c x r ⊎ ErasesNothing c x r
      go true e = let w = pick-which (pending x.writes) 0 z.rows r m in inl (which-pick (to_get c x) 0 z.rows r w.0 w.1 (and_both _ _ w.2 e))
      go false e = inr (gets-no e)

  pub nothing-got : ErasesNothing c x r → Gets z c x r → ⊥
  unfolding version_rows
  nothing-got n m = let w = pick-which (to_get c x) 0 z.rows r m in true≢false (sym (and_r (pending x.writes r) _ w.2) ∙ no-gets n)

-- the pending rows that get a version, where the rows have these keys
unfoldable pub versions_over : Sizes → (ℕ → Option ℕ) → List Write → List ℕ
versions_over z keys ws = pick (λ r. pending ws r && (keyed (keys r) || keyed (written_key (last_write ws r)))) 0 z.rows

pub versions-old : (z : Sizes) (c : Chains) (ws : List Write) → version_rows z c ws ≡ versions_over z (old_key c) ws
unfolding version_rows gets_version versions_over
versions-old z c ws = refl

-- they look at the keys of the pending rows alone
pub versions-same : (z : Sizes) (keys keys' : ℕ → Option ℕ) (x : Txn) → ((r : ℕ) → Writes z x r → keys' r ≡ keys r)
    → versions_over z keys' x.writes ≡ versions_over z keys x.writes
unfolding versions_over
versions-same z keys keys' x h = pick_same _ _ 0 z.rows (λ r l u. go r u (pending x.writes r) refl)
  where
    go : (r : ℕ) → r < 0 + z.rows → (b : Bool) → pending x.writes r ≡ b → b && (keyed (keys' r) || keyed (written_key (last_write x.writes r))) ≡ b
        && (keyed (keys r) || keyed (written_key (last_write x.writes r)))
    go r u true e = rw (h r (which-pendingRows z x.writes r (omega arith) e))
    go r u false e = refl

pub version_rows-same : (z : Sizes) (c c' : Chains) (x : Txn) → ((r : ℕ) → Writes z x r → old_key c' r ≡ old_key c r)
    → version_rows z c' x.writes ≡ version_rows z c x.writes
version_rows-same z c c' x h = versions-old z c' x.writes ∙ (versions-same z (old_key c) (old_key c') x h ∙ sym (versions-old z c x.writes))
