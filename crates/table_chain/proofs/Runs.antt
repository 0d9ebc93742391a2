-- A chain, a snapshot and a walk that meet the premises of `first-visible-same`: one version, which the snapshot sees. Assumes nothing.
use Prim.Native.Nat.{ℕ, zero, suc, ◌<◌, ◌/◌}
use mathlib.Core.Path.{◌≡◌, refl, sym}
use mathlib.Core.List.{List, [], ◌∷◌}
use mathlib.Core.Bool.{Bool, true, false, false≢true}
use mathlib.Core.Logic.{◌≢◌, ◌⊎◌, ⊎_elim}
use native.Mathlib.Omega.{arith}
use borrow.Author.Tests.{leb-true, eqb-true, ne_eqb}
use lib.Dec.{eqb, leb, ltb}
use lib.ListN.{length}
use Rattle.std.specs.Prelude.{Option, Some, None}
use Rattle.base_lists.specs.Lists.{member}
use Rattle.base_lists.proofs.ListLaws.{and_l, or_cases}
use Rattle.table.specs.Words.{field}
use Rattle.table.specs.Fields.{version_words, xmin_of, xmax_of, next_of}
use Rattle.table_chain.specs.declared.Snapshot.{Snapshot}
use Rattle.table_chain.specs.Chain.{active_of, seen_by, known, first_visible}
use Rattle.table_chain.specs.Upstream.{chain_step, Taken}
use Rattle.table_chain.proofs.Upstream.{first-visible-same}

-- number 5 has a snapshot below 6 without 3; version 1 was made by 2
abbrev pub s : Snapshot
s = record { xmin = 3; xmax = 6; active = 3 ∷ 0 ∷ 0 ∷ 0 ∷ 0 ∷ 0 ∷ 0 ∷ []; active_n = 1 }

abbrev pub versions : List ℕ
versions = 0 ∷ 0 ∷ 0 ∷ 0 ∷ 0 ∷ 0 ∷ 2 ∷ 0 ∷ 0 ∷ 1 ∷ 6 ∷ 10 ∷ []

abbrev pub first : ℕ → Option ℕ
first zero = None
first (suc zero) = Some 1
first (suc (suc p)) = None

past : (p : ℕ) → known versions 1 (suc (suc p)) ≡ true → ⊥
past p e = omega (arith, leb-true (suc (suc p)) 1 (and_l (leb (suc (suc p)) 1) (ltb (suc (suc p)) (length versions / version_words)) e))

unknown : (p : ℕ) → known versions 1 (suc (suc p)) ≡ false
unknown p = go (known versions 1 (suc (suc p))) refl
  where
    go : (b : Bool) → known versions 1 (suc (suc p)) ≡ b → b ≡ false
    go true e = absurd (past p e)
    go false e = refl

pub taken : Taken 5 s
unfolding member
taken = record {
  below = omega arith;
  apart = refl;
  least-own = omega arith;
  least-active = λ n e. ⊎_elim (λ d. omega (arith, eqb-true n 3 d)) (λ d. absurd (false≢true d)) (or_cases (eqb n 3) false e);
}

pub falls : (p : ℕ) → p ≢ 0 → known versions 1 p ≡ true → next_of versions p < p
unfolding field
falls zero d k = absurd (d refl)
falls (suc zero) d k = omega arith
falls (suc (suc p)) d k = absurd (past p k)

pub kept : (p : ℕ) → known versions 1 p ≡ true → xmin_of versions p ≡ 5 → (xmax_of versions p ≡ 0) ⊎ (seen_by (active_of s) 6 (xmax_of versions p) ≡ false)
unfolding field
kept zero k e = absurd (omega arith)
kept (suc zero) k e = absurd (omega arith)
kept (suc (suc p)) k e = absurd (past p k)

pub unrolls : (p : ℕ) → first p ≡ chain_step 5 versions 1 s first p
unfolding field member
unrolls zero = refl
unrolls (suc zero) = refl
unrolls (suc (suc p)) = rw (unknown p, ne_eqb (suc (suc p)) 0 (λ e. omega arith))

pub met : first_visible versions 1 s 1 ≡ Some 1
met = sym (first-visible-same 5 s taken versions 1 falls kept first unrolls 1)
