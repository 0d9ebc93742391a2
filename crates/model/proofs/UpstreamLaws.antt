-- Where upstream's definitions of seeing, writing and matching equal ours: as they stand, or for every live transaction of a reached store. Assumes nothing.
use mathlib.Core.Path.{◌≡◌, refl, sym, ap, ◌∙◌}
use mathlib.Core.Bool.{Bool, true, false, cond, not, ◌&&◌, ◌||◌}
use mathlib.Core.Logic.{⊎_elim}
use mathlib.Core.Option.{Option, none, some}
use mathlib.Core.List.{List, [], ◌∷◌}
use Prim.Native.Nat.{ℕ, zero, suc, ◌≤◌, ◌<◌}
use native.Mathlib.Omega.{arith}
use native.Mathlib.Decide.{ℕ_discrete}
use lib.Dec.{eqb, ltb, leb}
use lib.ListN.{length, get_or}
use borrow.Author.Tests.{eqb-true, eq-eqb, ne_eqb, ltb-true, ltb-false, leb-true, leb-false}
use Rattle.base_lists.specs.Lists.{member}
use Rattle.base_lists.proofs.ListLaws.{and_l, and_r, or_right, or_cases, same_test, least-own, least-each}
use Rattle.model.specs.Store.{Chains, Index, IndexRead, Snapshot, Write, ReadRecord, Txn, Store, same_key}
use Rattle.model.specs.Seeing.{seen, visible, known, walk, first_visible, version_of, key_at, last_write_from, last_write, pending, written_key, shown_key}
use Rattle.model.specs.Seeing.{matches, Live}
use Rattle.model.specs.Verdict.{bad_read, bad_record}
use Rattle.model.specs.Steps.{recorded, recording}
use Rattle.model.specs.Upstream.{
  creator_visible,
  row_visible,
  first_row,
  last_of,
  key_of,
  selected,
  holds_key,
  matches_row,
  recording_of,
  read_conflict,
  read_good,
}
use Rattle.model.specs.Upstream.{pointer}
use Rattle.model.proofs.Numbers.{Snapped}
use Rattle.model.proofs.SeeingLaws.{key_at-zero, key_at-key}
use Rattle.model.proofs.Told.{which-seen}
use Rattle.model.proofs.Good.{Good}

-- recording, read_conflict, read_good: as they stand
pub recording-same : (rs : List ReadRecord) (q : ReadRecord) → recording_of rs q.row q.ptr q.xmin ≡ recording rs q
unfolding recording_of recording recorded
recording-same rs q = refl

pub conflict-same : (c : Chains) (x : Txn) (q : ReadRecord) → read_conflict c x q ≡ bad_record c x.number x.snapshot q
unfolding read_conflict bad_record
conflict-same c x q = refl

pub good-same : (i : Index) (n : ℕ) (r : IndexRead) → read_good i n r ≡ not (bad_read i n r)
unfolding read_good bad_read
good-same i n r = go (eqb (i.stamp r.bucket) r.stamp) (ltb (i.stamp r.bucket) n)
  where
    go : (a b : Bool) → a && b ≡ not (not a || not b)
    go true true = refl
    go true false = refl
    go false true = refl
    go false false = refl

-- a number is not seen at or above xmax, or among the active
unseen-is : (v : Snapshot) (m : ℕ) → leb v.xmax m || member m v.active ≡ not (seen v m)
unfolding seen
unseen-is v m = parts (ltb m v.xmax) (leb v.xmax m) (member m v.active) refl refl
  where
    parts : (a b c : Bool) → ltb m v.xmax ≡ a → leb v.xmax m ≡ b → b || c ≡ not (a && not c)
    parts true true c p q = absurd (omega (arith, ltb-true m v.xmax p, leb-true v.xmax m q))
    parts true false true p q = refl
    parts true false false p q = refl
    parts false true c p q = refl
    parts false false c p q = absurd (omega (arith, ltb-false m v.xmax p, leb-false v.xmax m q))

known-which : (c : Chains) (p : ℕ) → known c p ≡ true → (1 ≤ p) × (p ≤ c.used)
unfolding known
known-which c p e = (ltb-true 0 p (and_l (ltb 0 p) (leb p c.used) e), leb-true p c.used (and_r (ltb 0 p) (leb p c.used) e))

-- creator_visible is `seen`: the own number is seen, and so is every number below xmin, which is the least of the active ones and the own
module _ (x : Txn) (g : Snapped x.number x.snapshot) where
  own-seen : (m : ℕ) → m ≡ x.number → seen x.snapshot m ≡ true
  own-seen m e = which-seen x.snapshot m (omega (arith, g.xmax-is)) (λ a. omega (arith, g.active-below m a))

  pub low-seen : (m : ℕ) → m < x.snapshot.xmin → seen x.snapshot m ≡ true
  low-seen m l = which-seen x.snapshot m (omega (arith, g.xmax-is, g.xmin-is, least-own x.number x.snapshot.active))
      (λ a. omega (arith, g.xmin-is, least-each x.number x.snapshot.active m a))

  pub creator-seen : (m : ℕ) → creator_visible x m ≡ seen x.snapshot m
  unfolding creator_visible seen
  creator-seen m = same_test _ _
      (λ e. ⊎_elim (λ f. ⊎_elim (λ a. own-seen m (eqb-true _ _ a)) (λ b. low-seen m (ltb-true _ _ b)) (or_cases _ _ f)) (λ c. c) (or_cases _ _ e))
      (λ e. or_right (eqb m x.number || ltb m x.snapshot.xmin) _ e)

  -- an end that upstream does not see is one that is not seen
  end-unseen : (m : ℕ) → not (eqb m x.number) && (leb x.snapshot.xmax m || member m x.snapshot.active) ≡ not (seen x.snapshot m)
  end-unseen m = elim (ℕ_discrete m x.number)
      [ yes e ↦ rw (eq-eqb m x.number e, own-seen m e) | no d ↦ rw (ne_eqb m x.number d) (unseen-is x.snapshot m) ]

  -- visible: a version that the own number made is not ended, so both see it
  pub row-visible : (c : Chains) (p : ℕ) → (c.xmin p ≡ x.number → c.xmax p ≡ 0) → row_visible c x p ≡ visible c x.snapshot p
  unfolding row_visible visible
  row-visible c p own = elim (ℕ_discrete (c.xmin p) x.number) [
    | yes e ↦ rw (eq-eqb (c.xmin p) x.number e, own-seen (c.xmin p) e, eq-eqb (c.xmax p) 0 (own e))
    | no d ↦ rw (ne_eqb (c.xmin p) x.number d, creator-seen (c.xmin p), end-unseen (c.xmax p))
  ]

-- a version that a live transaction made heads its row, so it is not ended
pub own_open : (s : Store) → Good s → (j p : ℕ) → Live (s.txns j) → 1 ≤ p → p ≤ s.chains.used → s.chains.xmin p ≡ (s.txns j).number → s.chains.xmax p ≡ 0
own_open s g j p l a u e =
    let m = g.written.made p j a u l e in
    ap s.chains.xmax (sym m.1.2) ∙ g.chained.head-open m.1.0 (λ z. omega (arith, m.1.2))

-- on every version of a reached store upstream's `visible` is ours, for every live transaction
pub visible-same : (s : Store) → Good s → (j p : ℕ) → Live (s.txns j) → 1 ≤ p → p ≤ s.chains.used
    → row_visible s.chains (s.txns j) p ≡ visible s.chains (s.txns j).snapshot p
visible-same s g j p l a u = row-visible (s.txns j) (g.numbers.snapped j l) s.chains p (own_open s g j p l a u)

some-pointer : (p : ℕ) → 1 ≤ p → some p ≡ pointer p
unfolding pointer
some-pointer zero l = absurd (omega arith)
some-pointer (suc p) l = refl

module _ (s : Store) (g : Good s) (j : ℕ) (l : Live (s.txns j)) where
  row-walk : (f p : ℕ) → first_row s.chains (s.txns j) f p ≡ pointer (walk s.chains (s.txns j).snapshot f p)
  unfolding first_row walk pointer
  row-walk zero p = refl
  row-walk (suc f) p = go (known s.chains p) refl (row-walk f (s.chains.next p))
    where
      go : (b : Bool) → known s.chains p ≡ b
          → first_row s.chains (s.txns j) f (s.chains.next p) ≡ pointer (walk s.chains (s.txns j).snapshot f (s.chains.next p))
          → cond b (cond (row_visible s.chains (s.txns j) p) (some p) (first_row s.chains (s.txns j) f (s.chains.next p))) none
          ≡ pointer (cond b (cond (visible s.chains (s.txns j).snapshot p) p (walk s.chains (s.txns j).snapshot f (s.chains.next p))) 0)
      go true e ih = let k = known-which s.chains p e in
          rw (visible-same s g j p l k.0 k.1) (shown (visible s.chains (s.txns j).snapshot p) k.0)
        where
          shown : (b : Bool) → 1 ≤ p → cond b (some p) (first_row s.chains (s.txns j) f (s.chains.next p))
              ≡ pointer (cond b p (walk s.chains (s.txns j).snapshot f (s.chains.next p)))
          shown true a = some-pointer p a
          shown false a = ih
      go false e ih = refl

  -- first_visible
  pub first-same : (p : ℕ) → first_row s.chains (s.txns j) p p ≡ pointer (first_visible s.chains (s.txns j).snapshot p)
  unfolding first_visible
  first-same p = row-walk p p

-- last_write looks from the last write back, ours from the first on, keeping the last that it met
or_else : Option Write → Option Write → Option Write
or_else none so = so
or_else (some w) so = some w

from_last : (so : Option Write) (ws : List Write) (r : ℕ) → last_write_from so ws r ≡ or_else (last_write_from none ws r) so
unfolding last_write_from or_else
from_last so [] r = refl
from_last so (w ∷ ws) r = go (eqb w.row r) (last_write_from none ws r) refl (λ o. from_last o ws r)
  where
    go : (b : Bool) (o : Option Write) → last_write_from none ws r ≡ o → ((p : Option Write) → last_write_from p ws r ≡ or_else (last_write_from none ws r) p)
        → last_write_from (cond b (some w) so) ws r ≡ or_else (last_write_from (cond b (some w) none) ws r) so
    go true none e h = rw (h (some w), e)
    go true (some v) e h = rw (h (some w), e)
    go false o e h = h so

back_last : (w : Write) (ws : List Write) (r n : ℕ) → last_of (w ∷ ws) r (suc n) ≡ or_else (last_of ws r n) (cond (eqb w.row r) (some w) none)
unfolding last_of or_else
back_last w ws r zero = refl
back_last w ws r (suc n) = go (eqb (get_or ws n (record { row = 0; key = none; payload = 0 })).row r) (back_last w ws r n)
  where
    go : (b : Bool) → last_of (w ∷ ws) r (suc n) ≡ or_else (last_of ws r n) (cond (eqb w.row r) (some w) none)
        → cond b (some (get_or ws n (record { row = 0; key = none; payload = 0 }))) (last_of (w ∷ ws) r (suc n))
        ≡ or_else (cond b (some (get_or ws n (record { row = 0; key = none; payload = 0 }))) (last_of ws r n)) (cond (eqb w.row r) (some w) none)
    go true ih = refl
    go false ih = ih

pub last-same : (ws : List Write) (r : ℕ) → last_of ws r (length ws) ≡ last_write ws r
unfolding last_of last_write_from
last-same [] r = refl
last-same (w ∷ ws) r = back_last w ws r (length ws)
    ∙ (ap (λ o. or_else o (cond (eqb w.row r) (some w) none)) (last-same ws r) ∙ sym (from_last (cond (eqb w.row r) (some w) none) ws r))

-- a row is pending exactly where it has a last write
abbrev is_found : Option Write → Bool
is_found none = false
is_found (some w) = true

pending-found : (ws : List Write) (r : ℕ) → pending ws r ≡ is_found (last_write ws r)
unfolding pending last_write_from or_else
pending-found [] r = refl
pending-found (w ∷ ws) r = rw (from_last (cond (eqb w.row r) (some w) none) ws r, pending-found ws r) (go (eqb w.row r) (last_write_from none ws r))
  where
    go : (b : Bool) (o : Option Write) → b || is_found o ≡ is_found (or_else o (cond b (some w) none))
    go true none = refl
    go true (some v) = refl
    go false none = refl
    go false (some v) = refl

-- the key at a pointer that was found, or none
key-pointer : (c : Chains) (k q : ℕ) → holds_key k (key_of c (pointer q)) ≡ same_key (key_at c q) (some k)
unfolding holds_key key_of pointer same_key
key-pointer c k zero = rw (key_at-zero c)
key-pointer c k (suc q) = rw (key_at-key c (suc q) (omega arith))

-- matches_row, with key equality, is the matching rule on the rows of the store
pub matches-same : (s : Store) → Good s → (j : ℕ) → Live (s.txns j) → (k r : ℕ)
    → matches_row s.sizes.rows s.chains (s.txns j) k r ≡ ltb r s.sizes.rows && matches s.chains (s.txns j) k r
unfolding matches_row matches shown_key selected written_key holds_key
matches-same s g j l k r =
    rw (last-same (s.txns j).writes r, pending-found (s.txns j).writes r) (ap (λ b. ltb r s.sizes.rows && b) (go (last_write (s.txns j).writes r)))
  where
    go : (o : Option Write) → holds_key k (selected s.chains (s.txns j) r o)
        ≡ same_key (cond (is_found o) (written_key o) (key_at s.chains (version_of s.chains (s.txns j).snapshot r))) (some k)
    go none = rw (first-same s g j l (s.chains.head r)) (key-pointer s.chains k (first_visible s.chains (s.txns j).snapshot (s.chains.head r)))
    go (some w) = refl
