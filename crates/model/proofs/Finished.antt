-- A finished read: what `rows` answers is every row of the store that matches, ascending, and the version of each is recorded. Assumes nothing.
use mathlib.Core.Path.{◌≡◌, refl, sym, ap, ◌∙◌}
use mathlib.Core.Bool.{Bool, true, false, ◌&&◌, ◌||◌}
use mathlib.Core.Logic.{◌≢◌}
use mathlib.Core.List.{List}
use Prim.Native.Nat.{ℕ, zero, suc, ◌≤◌, ◌<◌}
use native.Mathlib.Omega.{arith}
use lib.Dec.{eqb}
use lib.ListN.{length}
use borrow.Author.Tests.{eqb-true, ltb-false}
use Rattle.base_limits.specs.Limits.{most_live, most_records}
use Rattle.base_lists.specs.Lists.{member, pick, first, Among, Rising}
use Rattle.base_lists.proofs.TableLaws.{update_same, update-field}
use Rattle.base_lists.proofs.ListLaws.{and_r, or_left, or_right, same_test, among-member, pick-rising, pick_same}
use Rattle.model.specs.Store.{Chains, Snapshot, ReadRecord, Txn, Store, rank, phase_collected, key_in}
use Rattle.model.specs.Seeing.{version_of, pending, matches, record_of, Live}
use Rattle.model.specs.Steps.{found_rows, records_after, read_txn, read_done}
use Rattle.model.specs.Refusals.{rows, place_of, txn_of}
use Rattle.model.specs.Machine.{Rows, at, checks, accepted, step}
use Rattle.model.proofs.Phases.{collected-is}
use Rattle.model.proofs.Move.{did-rows, passes, finds}
use Rattle.model.proofs.Chained.{Chained}
use Rattle.model.proofs.SeeingLaws.{key_at-pos, match-version, record_all-has, found-which}
use Rattle.model.proofs.Walk.{version-finds, heads, finds-chain, chains-apart}
use Rattle.model.proofs.Reading.{Reading}
use Rattle.model.proofs.Good.{Good, good-move}
use Rattle.model.proofs.Ruled.{refuses}
use Rattle.model.proofs.Unrefused.{is-accepted}

-- a place is found by numbers alone
first-same : (test also : ℕ → Bool) (k n : ℕ) → ((j : ℕ) → test j ≡ also j) → first test k n ≡ first also k n
unfolding first
first-same test also k zero h = refl
first-same test also k (suc n) h = rw (h k, first-same test also (suc k) n h)

pub place_same : (t t' : ℕ → Txn) (n : ℕ) → ((j : ℕ) → (t' j).number ≡ (t j).number) → place_of t' n ≡ place_of t n
unfolding place_of
place_same t t' n h = first-same (λ i. eqb (t' i).number n) (λ i. eqb (t i).number n) 0 most_live (λ j. rw (h j))

-- two rows seen at one version are one
pub one-row : (c : Chains) (v : Snapshot) → Chained c → (q r : ℕ) → version_of c v q ≡ version_of c v r → version_of c v r ≢ 0 → q ≡ r
one-row c v g q r e z = chains-apart c g q r (version_of c v r)
    (rw e at (finds-chain c v q (c.head q) (version_of c v q) (version-finds c v g q) (heads refl) (λ f. z (sym e ∙ f))))
    (finds-chain c v r (c.head r) (version_of c v r) (version-finds c v g r) (heads refl) z) z

module _ (s : Store) (g : Good s) (i : ℕ) (l : Live (s.txns i)) (a : rank (s.txns i).phase ≡ phase_collected) where
  -- the transaction, and its key
  abbrev x : Txn
  x = s.txns i

  abbrev k : ℕ
  k = key_in (s.txns i).phase

  pub found-whole : found_rows s x ≡ pick (matches s.chains x k) 0 s.sizes.rows
  unfolding found_rows
  found-whole = pick_same (λ r. (member r x.candidates || pending x.writes r) && matches s.chains x k r) (matches s.chains x k) 0 s.sizes.rows
      (λ r lo hi. same_test _ _ (and_r (member r x.candidates || pending x.writes r) (matches s.chains x k r))
      (λ m. rw (candidate r (omega arith) (pending x.writes r) refl m) m))
    where
      candidate : (r : ℕ) → r < s.sizes.rows → (b : Bool) → pending x.writes r ≡ b → matches s.chains x k r ≡ true
          → member r x.candidates || pending x.writes r ≡ true
      candidate r u true p m = or_right (member r x.candidates) _ p
      candidate r u false p m =
          or_left _ _ (among-member r x.candidates (((g.reading i l).collects k (collected-is x.phase a)).1 r u (match-version s.chains x k r p m)))

  -- the read's records are of the versions that its rows are seen at
  pub found-recorded : (r : ℕ) → Among r (found_rows s x) → pending x.writes r ≡ false → Reading s.sizes s.chains s.index.stamp (read_txn s x)
      → Among (record_of s.chains x.snapshot r) (read_txn s x).records
  found-recorded r m p reads =
      let h = record_all-has s.chains x x.records (found_rows s x) r m p in
      let e = reads.records-are (omega arith) h.0 h.1 in
      let z = key_at-pos s.chains (version_of s.chains x.snapshot r) k (match-version s.chains x k r p (found-which s x r m).1) in
      let same : h.0.row ≡ r = one-row s.chains x.snapshot g.chained h.0.row r (sym (ap (λ (q : ReadRecord). q.ptr) e) ∙ h.2) z in
      rw (e ∙ ap (record_of s.chains x.snapshot) same) at h.1

-- an accepted `rows`
pub record RowsDone (s : Store) (t room : ℕ) (rs : List ℕ) : Type 0 where
  pub alive : Live (txn_of s t)
  pub number_is : (txn_of s t).number ≡ t
  pub collected : rank (txn_of s t).phase ≡ phase_collected
  pub few : length (records_after s (txn_of s t)) ≤ most_records
  pub answer-is : rs ≡ found_rows s (txn_of s t)
  pub store_is : (step s (rows t room)).store ≡ read_done s (at s t)
  pub txn-is : txn_of (step s (rows t room)).store t ≡ read_txn s (txn_of s t)

pub rows-done : (s : Store) (t room : ℕ) (rs : List ℕ) → (step s (rows t room)).answer ≡ Rows rs → RowsDone s t room rs
unfolding checks accepted
rows-done s t room rs e =
    let ok = is-accepted s (rows t room) (ap refuses e) in
    let f = finds s t _ _ ok.tests in
    let b = passes _ _ _ (passes _ _ _ f.rest).1 in
    let d = ok.does in
    let st : (step s (rows t room)).store ≡ read_done s (at s t) = ap (λ w. w.store) d in
    let an : Rows rs ≡ Rows (found_rows s (txn_of s t)) = sym e ∙ ap (λ w. w.answer) d in
    record {
      alive = f.alive;
      number_is = f.number;
      collected = eqb-true _ _ f.phase-is;
      few = ltb-false _ _ b.0;
      answer-is = cc;
      store_is = st;
      txn-is = rw (
        st,
        place_same s.txns (read_done s (at s t)).txns t
            (λ j. update-field (λ y. y.number) s.txns (at s t) (read_txn s (txn_of s t)) j refl),
        update_same,
      );
    }

-- the store after an accepted `rows` is good too, and the transaction's records are what it sees
pub rows-good : (s : Store) (t room : ℕ) (rs : List ℕ) → Good s → RowsDone s t room rs → Good (read_done s (at s t))
rows-good s t room rs g d = good-move s (read_done s (at s t)) g (did-rows (at s t) d.alive d.collected d.few)

pub rows-recorded : (s : Store) (t room : ℕ) (rs : List ℕ) → Good s → RowsDone s t room rs → (r : ℕ) → Among r rs → pending (txn_of s t).writes r ≡ false
    → Among (record_of s.chains (txn_of s t).snapshot r) (read_txn s (txn_of s t)).records
rows-recorded s t room rs g d r m p =
    found-recorded s g (at s t) d.alive d.collected r (rw d.answer-is at m) p
    (rw update_same at ((rows-good s t room rs g d).reading (at s t) (rw update_same d.alive)))

pub found-rising : (s : Store) (t room : ℕ) (rs : List ℕ) → RowsDone s t room rs → Rising 0 rs
unfolding found_rows
found-rising s t room rs d = rw d.answer-is (pick-rising _ 0 s.sizes.rows)
