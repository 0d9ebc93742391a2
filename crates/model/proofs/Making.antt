-- The versions that an install makes: each from the last write to its row, in a new pointer, over the old head. Assumes nothing.
use mathlib.Core.Path.{◌≡◌, refl, sym, ap, ◌∙◌}
use mathlib.Core.Bool.{Bool, true, false, cond, false≢true}
use mathlib.Core.Logic.{◌↔◌, ◌≢◌, inl, inr, ⊎_elim}
use mathlib.Core.Option.{Option, none, some}
use mathlib.Core.List.{List, [], ◌∷◌, ◌++◌}
use Prim.Native.Nat.{ℕ, ◌≤◌}
use native.Mathlib.Omega.{arith}
use lib.Dec.{eqb}
use borrow.Author.Tests.{eqb-true, eqb-false, eq-eqb}
use Rattle.base_lists.specs.Lists.{Among, Rising}
use Rattle.base_lists.proofs.ListLaws.{or_left, or_right, or_l, or_r, or_cases, is_false, among-right}
use Rattle.model.specs.Store.{Chains, Write, Txn, Store}
use Rattle.model.specs.Seeing.{last_write_from, last_write, pending, written_key}
use Rattle.model.specs.Steps.{old_key, written_payload, push_all}
use Rattle.model.specs.Refusals.{install, txn_of}
use Rattle.model.specs.Holding.{Gets}
use Rattle.model.specs.Effects.{makes, LastWrite, LiveHead, GetsVersion, NewVersion, VersionsAfter}
use Rattle.model.proofs.SeeingLaws.{key_at-pos, key_at-key, pending-which}
use Rattle.model.proofs.Made.{gets-which, which-gets}
use Rattle.model.proofs.Room.{used-pushAll}
use Rattle.model.proofs.Grown.{grown}

-- no write of the list is to row r, so the scan keeps what it had
none-pending : (ws : List Write) (r : ℕ) → pending ws r ≡ false → (v : Write) → Among v ws → v.row ≢ r
unfolding pending
none-pending (w ∷ ws) r e v (inl f) = rw f (eqb-false _ _ (or_l (eqb w.row r) (pending ws r) e))
none-pending (w ∷ ws) r e v (inr m) = none-pending ws r (or_r (eqb w.row r) (pending ws r) e) v m
none-pending [] r e v x'' = elim x'' [ ]

kept-last : (so : Option Write) (ws : List Write) (r : ℕ) → pending ws r ≡ false → last_write_from so ws r ≡ so
unfolding pending last_write_from
kept-last so [] r e = refl
kept-last so (w ∷ ws) r e = rw (or_l (eqb w.row r) (pending ws r) e) (kept-last so ws r (or_r (eqb w.row r) (pending ws r) e))

-- the write that the scan finds is the last to its row
found-last : (ws : List Write) (r : ℕ) → pending ws r ≡ true → (w : Write) × LastWrite ws r w × ((so : Option Write) → last_write_from so ws r ≡ some w)
unfolding pending last_write_from
found-last [] r e = absurd (false≢true e)
found-last (v ∷ ws) r e = go (pending ws r) refl (found-last ws r)
  where
    go : (b : Bool) → pending ws r ≡ b → (pending ws r ≡ true → (w : Write) × LastWrite ws r w × ((so : Option Write) → last_write_from so ws r ≡ some w))
        → (w : Write) × LastWrite (v ∷ ws) r w × ((so : Option Write) → last_write_from (cond (eqb v.row r) (some v) so) ws r ≡ some w)
    go true p later = let f = later p in (
      f.0,
      record {
        earlier = v ∷ f.1.earlier;
        later = f.1.later;
        stands = ap (λ l. v ∷ l) f.1.stands;
        row_is = f.1.row_is;
        none-later = f.1.none-later;
      },
      λ so. f.2 _,
    )
    go false p later =
        let t : eqb v.row r ≡ true = ⊎_elim (λ y. y) (λ y. absurd (false≢true (sym p ∙ y))) (or_cases (eqb v.row r) (pending ws r) e) in (
          v,
          record { earlier = []; later = ws; stands = refl; row_is = eqb-true _ _ t; none-later = none-pending ws r p },
          λ so. rw t (kept-last (some v) ws r p),
        )

pub last-write : (ws : List Write) (r : ℕ) → pending ws r ≡ true → (w : Write) × LastWrite ws r w × (last_write ws r ≡ some w)
last-write ws r e = let f = found-last ws r e in (f.0, f.1, f.2 _)

-- a write to row r makes it pending, and the scan finds it where no later one is to r
written-pending : (ws : List Write) (r : ℕ) (w : Write) → Among w ws → w.row ≡ r → pending ws r ≡ true
unfolding pending
written-pending (v ∷ ws) r w (inl f) e = or_left (eqb v.row r) (pending ws r) (eq-eqb _ _ (ap (λ u. u.row) (sym f) ∙ e))
written-pending (v ∷ ws) r w (inr m) e = or_right (eqb v.row r) (pending ws r) (written-pending ws r w m e)
written-pending [] r w x'' e = elim x'' [ ]

found_after : (so : Option Write) (earlier later : List Write) (r : ℕ) (w : Write) → w.row ≡ r → pending later r ≡ false
    → last_write_from so (earlier ++ (w ∷ later)) r ≡ some w
unfolding last_write_from
found_after so [] later r w e n = ap (λ b. last_write_from (cond b (some w) so) later r) (eq-eqb w.row r e) ∙ kept-last (some w) later r n
found_after so (v ∷ earlier) later r w e n = found_after (cond (eqb v.row r) (some v) so) earlier later r w e n

-- the last write to a row is the one that the scan finds, and the row is pending
module _ (ws : List Write) (r : ℕ) (w : Write) (l : LastWrite ws r w) where
  last-pending : pending ws r ≡ true
  last-pending = written-pending ws r w (rw l.stands (among-right w l.earlier (w ∷ l.later) (inl refl))) l.row_is

  last_found : last_write ws r ≡ some w
  last_found = rw l.stands
      (found_after none l.earlier l.later r w l.row_is (is_false _ (λ e. let v = pending-which l.later r e in l.none-later v.0 v.1 v.2)))

-- a head with a key
live-head : (c : Chains) (r : ℕ) → ((k : ℕ) × (old_key c r ≡ some k)) ↔ LiveHead c r
live-head c r = (
  (λ k. let z = key_at-pos c (c.head r) k.0 k.1 in (z, (k.0, sym (key_at-key c (c.head r) z) ∙ k.1))),
  (λ h. (h.1.0, key_at-key c (c.head r) h.0 ∙ h.1.1)),
)

-- which rows get a version at install, at any store
pub gets-when : (s : Store) (t r : ℕ) → Among r (makes s (install t)) ↔ GetsVersion s.sizes s.chains (txn_of s t) r
unfolding written_key
gets-when s t r = (forth, back)
  where
    forth : Gets s.sizes s.chains (txn_of s t) r → GetsVersion s.sizes s.chains (txn_of s t) r
    forth m =
        let g = gets-which s.sizes s.chains (txn_of s t) r m in
        let w = last-write (txn_of s t).writes r g.1 in
        record {
          row_in = g.0;
          write = w.0;
          last = w.1;
          live-or-put = ⊎_elim (λ k. inl ((live-head s.chains r).0 k)) (λ k. inr (k.0, sym (ap written_key w.2) ∙ k.1)) g.2;
        }

    back : GetsVersion s.sizes s.chains (txn_of s t) r → Gets s.sizes s.chains (txn_of s t) r
    back g = which-gets s.sizes s.chains (txn_of s t) r g.row_in (last-pending (txn_of s t).writes r g.write g.last)
        (⊎_elim (λ h. inl ((live-head s.chains r).1 h)) (λ k. inr (k.0, ap written_key (last_found (txn_of s t).writes r g.write g.last) ∙ k.1))
        g.live-or-put)

module _ (x : Txn) (rs : List ℕ) (c : Chains) (heads-in : (r : ℕ) → Among r rs → c.head r ≤ c.used) (order : Rising 0 rs)
    (written : (r : ℕ) → Among r rs → pending x.writes r ≡ true) where
  makes_one : (r : ℕ) → Among r rs → NewVersion x c (push_all x rs c) r
  unfolding written_key written_payload
  makes_one r m =
      let n = (grown x 0 rs c heads-in order).head-new r m in
      let w = last-write x.writes r (written r m) in
      record {
        write = w.0;
        last = w.1;
        above = n.above;
        in_use = n.in_use;
        xmin-is = n.xmin-is;
        xmax-is = n.xmax-is;
        next-is = n.next-is;
        key-is = n.key-is ∙ ap written_key w.2;
        payload-is = n.payload-is ∙ ap written_payload w.2;
      }

  pub makes-all : VersionsAfter x rs c (push_all x rs c)
  makes-all = let g = grown x 0 rs c heads-in order in record {
    used-is = used-pushAll x rs c;
    old-stays = λ p l. record { xmin-stays = g.xmin-old p l; next-stays = g.next-old p l; key-stays = g.key-old p l; payload-stays = g.payload-old p l };
    xmax-set = λ r m. ⊎_elim (λ w. w.0) (λ w. absurd (w.1 r m refl)) (g.xmax-old (c.head r) (heads-in r m));
    xmax-stays = λ p l n. ⊎_elim (λ w. absurd (n w.1.0 w.1.1 w.1.2)) (λ w. w.0) (g.xmax-old p l);
    head-stays = g.head-old;
    head-new = makes_one;
    heads-rise = g.heads-rise;
  }

-- a step that makes none leaves them all
pub makes_none : (x : Txn) (c : Chains) → VersionsAfter x [] c c
makes_none x c = record {
  used-is = omega arith;
  old-stays = λ p l. record { xmin-stays = refl; next-stays = refl; key-stays = refl; payload-stays = refl };
  xmax-set = λ r m. absurd m;
  xmax-stays = λ p l n. refl;
  head-stays = λ r n. refl;
  head-new = λ r m. absurd m;
  heads-rise = λ q r m. absurd m;
}
