-- What a snapshot sees of a row stays as it is while others install. Assumes nothing.
use mathlib.Core.Path.{◌≡◌, refl, sym, ap, ◌∙◌}
use mathlib.Core.Bool.{Bool, true, false, true≢false}
use mathlib.Core.Logic.{◌≢◌, ⊎_elim}
use mathlib.Core.List.{List}
use Prim.Native.Nat.{ℕ, ◌≤◌, ◌<◌}
use native.Mathlib.Omega.{arith}
use native.Mathlib.Decide.{ℕ_discrete}
use Rattle.base_lists.specs.Lists.{member}
use Rattle.base_lists.proofs.ListLaws.{member-among, among-member}
use Rattle.model.specs.Store.{Chains, Snapshot, Txn, rank, phase_ended}
use Rattle.model.specs.Seeing.{seen, version_of, key_at, Live}
use Rattle.model.specs.Contents.{content_of}
use Rattle.model.proofs.Chained.{Chained}
use Rattle.model.proofs.Numbers.{Numbers}
use Rattle.model.proofs.SeeingLaws.{version-in}
use Rattle.model.proofs.Walk.{Finds, nothing, here, down, version-finds, finds-one}
use Rattle.model.proofs.Grown.{Grown}
use Rattle.model.proofs.Written.{old-or-new, key_at-grown}
use Rattle.model.proofs.Told.{unseen-late, unseen-active}

-- the number of another that has not ended is not seen
pub unseen-other : (clock : ℕ) (t : ℕ → Txn) → Numbers clock t → (i j : ℕ) → i ≢ j → Live (t i) → Live (t j) → rank (t i).phase < phase_ended
    → seen (t j).snapshot (t i).number ≡ false
unseen-other clock t n i j d l v r = ⊎_elim before after (old-or-new (t j).number (t i).number)
  where
    before : (t i).number ≤ (t j).number → seen (t j).snapshot (t i).number ≡ false
    before h = unseen-active (t j).snapshot (t i).number (n.knows j i v l (less h) r)
      where
        less : (t i).number ≤ (t j).number → (t i).number < (t j).number
        less h = elim (ℕ_discrete (t i).number (t j).number) [ yes e ↦ absurd (d (n.distinct i j l e)) | no f ↦ omega arith ]

    after : (t j).number < (t i).number → seen (t j).snapshot (t i).number ≡ false
    after h = unseen-late (t j).snapshot (t i).number (omega (arith, (n.snapped j v).xmax-is))

module _ (x : Txn) (rs : List ℕ) (c c' : Chains) (g : Chained c) (g' : Chained c') (gr : Grown x rs c c') (v : Snapshot)
    (unseen : seen v x.number ≡ false) where
  finds-grown : (p q : ℕ) → Finds c v p q → Finds c' v p q
  finds-grown p q (nothing a b) = nothing a b
  finds-grown p q (here l u t f) = here {p = p} {q = q} l (omega (arith, gr.used-up)) (ap (seen v) (gr.xmin-old p u) ∙ t) f
  finds-grown p q (down l u t m) =
      down {p = p} {q = q} l (omega (arith, gr.used-up)) (ap (seen v) (gr.xmin-old p u) ∙ t) (rw (gr.next-old p u) (finds-grown (c.next p) q m))

  pub version-grown : (r : ℕ) → version_of c' v r ≡ version_of c v r
  version-grown r = finds-one c' v (c'.head r) _ _ (version-finds c' v g' r) (go (member r rs) refl)
    where
      old : Finds c' v (c.head r) (version_of c v r)
      old = finds-grown (c.head r) _ (version-finds c v g r)

      go : (b : Bool) → member r rs ≡ b → Finds c' v (c'.head r) (version_of c v r)
      go true e =
          let new = gr.head-new r (member-among r rs e) in
          down {p = c'.head r} {q = version_of c v r} (omega (arith, new.above)) new.in_use (ap (seen v) new.xmin-is ∙ unseen) (rw new.next-is old)
      go false e = rw (gr.head-old r (λ m. true≢false (sym (among-member r rs m) ∙ e))) old

  version-old : (r : ℕ) → version_of c v r ≤ c.used
  version-old r = elim (ℕ_discrete (version_of c v r) 0) [ yes e ↦ omega arith | no d ↦ (version-in c v r d).1 ]

  pub key-grown : (r : ℕ) → key_at c' (version_of c' v r) ≡ key_at c (version_of c v r)
  key-grown r = ap (key_at c') (version-grown r) ∙ key_at-grown x rs c c' gr _ (version-old r)

  pub xmin-grown : (r : ℕ) → c'.xmin (version_of c' v r) ≡ c.xmin (version_of c v r)
  xmin-grown r = ap c'.xmin (version-grown r) ∙ gr.xmin-old _ (version-old r)

  pub content-grown : (r : ℕ) → content_of c' v r ≡ content_of c v r
  unfolding content_of
  content-grown r = rw (key-grown r, ap c'.payload (version-grown r) ∙ gr.payload-old _ (version-old r))
