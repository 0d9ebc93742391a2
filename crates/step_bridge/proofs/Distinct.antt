-- The distinct rows of the pending writes, as the words sort them, are the model's pending rows; and so are those of them that get a version.
-- Assumes nothing.
use Rattle.std.specs.Prelude.{Ok}
use Prim.Native.Nat.{ℕ, zero, suc, ◌≤◌, ◌<◌}
use mathlib.Core.Path.{◌≡◌, refl, sym, ap, ◌∙◌}
use mathlib.Core.Bool.{Bool, true, false, cond, not, ◌&&◌, false≢true}
use mathlib.Core.Option.{none, some}
use mathlib.Core.Logic.{inl, inr, ⊎_elim}
use mathlib.Core.List.{List, [], ◌∷◌, map}
use native.Mathlib.Nat.{zero-add}
use native.Mathlib.Omega.{arith}
use lib.Dec.{eqb}
use lib.ListN.{length, drop, get_or, replicate, length-replicate}
use lib.Seq.{take_at}
use borrow.Author.Tests.{eqb-true, eq-eqb}
use Rattle.base_limits.specs.Limits.{most_buckets, most_writes}
use Rattle.base_lists.specs.Lists.{Among, Rising, join, pick}
use Rattle.base_lists.proofs.ListLaws.{pick-rising, same_test, or_cases, or_left, or_right, and_l, pick-which, pick-fewer, join-same}
use Rattle.model.specs.Store as model
use Rattle.model.specs.Store.{keyed}
use Rattle.model.specs.Steps.{pending_rows, old_key, gets_version, version_rows}
use Rattle.model.specs.Seeing.{pending}
use Rattle.table_buckets.specs.Buckets.{buckets_of, laid, canonical_of}
use Rattle.table_buckets.specs.Upstream.{IsInRange}
use Rattle.table_buckets.proofs.Checks.{fine-when}
use Rattle.table_buckets.specs.Steps.{Below, Ascending}
use Rattle.table_buckets.proofs.Sorted.{member, buckets-ascending, buckets-member, ascending-unique, buckets-no-longer}
use Rattle.table.specs.Lists.{writes, write_of, writes_of}
use Rattle.table.specs.declared.lists.Write.{Write}
use Rattle.table_scans.proofs.Laws.{fields-length}
use Rattle.txn.specs.View.{write_view, writes_in}
use Rattle.txn.specs.declared.Transaction.{Transaction}
use Rattle.txn_needs.specs.Keys.{key_of, old_key_of, new_key_of, gets_version_of}
use Rattle.txn_needs.specs.declared.Key.{Key}
use Rattle.txn_needs.specs.Needs.{rows_written, front}
use Rattle.txn_needs.specs.Versions.{rows_listed, pending_into, kept, versions_into, versions_in}
use Rattle.step_bridge.proofs.Headed.{Headed, WritesIn, chains_in, old-key-same}
use Rattle.step_bridge.proofs.Listing.{listed-all, listed-count}
use Rattle.step_bridge.proofs.Keyed.{new-key-same}
use Rattle.step_bridge.proofs.Needing.{written-pending, pending-written}

rising-below : (x : ℕ) (ys : List ℕ) → Rising (suc x) ys → Below x ys
rising-below x [] h = tt
rising-below x (y ∷ ys) h = (omega (arith, h.0), rising-below y ys h.1)

rising-ascending : (k : ℕ) (xs : List ℕ) → Rising k xs → Ascending xs
rising-ascending k [] h = tt
rising-ascending k (x ∷ xs) h = rising-below x xs h.1

member-among : (v : ℕ) (xs : List ℕ) → member v xs ≡ true → Among v xs
member-among v [] e = absurd (false≢true e)
member-among v (y ∷ ys) e = ⊎_elim (λ t. inl (sym (eqb-true y v t))) (λ t. inr (member-among v ys t)) (or_cases (eqb y v) (member v ys) e)

among-member : (v : ℕ) (xs : List ℕ) → Among v xs → member v xs ≡ true
among-member v (y ∷ ys) (inl e) = or_left (eqb y v) (member v ys) (eq-eqb y v (sym e))
among-member v (y ∷ ys) (inr m) = or_right (eqb y v) (member v ys) (among-member v ys m)
among-member v [] x' = elim x' [ ]

entry-among : (xs : List ℕ) (i : ℕ) → i < length xs → Among (get_or xs i 0) xs
entry-among [] i h = absurd (omega arith)
entry-among (x ∷ xs) zero h = inl refl
entry-among (x ∷ xs) (suc i) h = inr (entry-among xs i (omega arith))

canonical-fine : (input old : List ℕ) → IsInRange input most_buckets → length input ≤ length old
    → canonical_of input most_buckets old ≡ record { answer = Ok (length (buckets_of input)); out = laid (buckets_of input) old }
unfolding canonical_of
canonical-fine input old below room = rw (fine-when most_buckets (length old) input below (omega arith))

-- of a slot's pending writes, all of rows that the store has
module _ (xs : List ℕ) (s n : ℕ) (z : model.Sizes) (below : (r : ℕ) → Among r (rows_written xs s n) → r < z.rows) where
  pub sorted-pending : buckets_of (rows_written xs s n) ≡ pending_rows z (map write_view (writes_of xs s n))
  unfolding pending_rows
  sorted-pending =
      let rs = rows_written xs s n in
      let ps = pending_rows z (map write_view (writes_of xs s n)) in
      ascending-unique (buckets_of rs) ps (buckets-ascending rs) (rising-ascending 0 ps (pick-rising (pending (map write_view (writes_of xs s n))) 0 z.rows))
      (λ v. buckets-member v rs ∙ same_test (member v rs) (member v ps) (λ e. let m = member-among v rs e in
      among-member v ps (written-pending xs s n z v (below v m) m)) (λ e. among-member v rs (pending-written xs s n z v (member-among v ps e))))

  pub listed-pending : z.rows ≤ most_buckets → length (rows_written xs s n) ≤ most_writes → pending_into xs s n (replicate most_writes 0)
      ≡ record {
        out = laid (pending_rows z (map write_view (writes_of xs s n))) (replicate most_writes 0);
        n = length (pending_rows z (map write_view (writes_of xs s n)));
      }
  unfolding pending_into rows_listed
  listed-pending most few =
      let rs = rows_written xs s n in
      rw (
        listed-all 16 rs few,
        canonical-fine rs (replicate most_writes 0) (λ i h. omega (arith, below (get_or rs i 0) (entry-among rs i h))) few,
        sorted-pending,
      )

-- ---- the rows that get a version

-- a key is there where its word says so
key-there : (k : Key) → not (eqb k.keyed 0) ≡ keyed (key_of k)
unfolding keyed
key-there k = by (eqb k.keyed 0)
  where
    by : (b : Bool) → not b ≡ keyed (cond b none (some k.key))
    by true = refl
    by false = refl

-- where the old key is the model's, so is the test
pub gets-same : (rows versions xs : List ℕ) (t : Transaction) (c : model.Chains) (r : ℕ) → t.writes_n ≤ most_writes
    → key_of (old_key_of rows versions false r) ≡ old_key c r → gets_version_of rows versions xs t.slot t.writes_n r ≡ gets_version c (writes_in xs t) r
unfolding gets_version_of gets_version
gets-same rows versions xs t c r few e =
    rw (key-there (old_key_of rows versions false r), key-there (new_key_of xs t.slot t.writes_n r), e, new-key-same xs t few r)

join-pick : (test also : ℕ → Bool) (k n : ℕ) → join (λ r. cond (also r) (r ∷ []) []) (pick test k n) ≡ pick (λ r. test r && also r) k n
unfolding join pick
join-pick test also k zero = refl
join-pick test also k (suc n) = by (test k) (also k) refl (join-pick test also (suc k) n)
  where
    by : (a b : Bool) → also k ≡ b → join (λ r. cond (also r) (r ∷ []) []) (pick test (suc k) n) ≡ pick (λ r. test r && also r) (suc k) n
        → join (λ r. cond (also r) (r ∷ []) []) (cond a (k ∷ pick test (suc k) n) (pick test (suc k) n))
        ≡ cond (a && b) (k ∷ pick (λ r. test r && also r) (suc k) n) (pick (λ r. test r && also r) (suc k) n)
    by true true d e = rw d (ap (λ (l : List ℕ). k ∷ l) e)
    by true false d e = rw d e
    by false b d e = e

-- the pending rows that get a version, picked out of a list
module _ (rows versions xs : List ℕ) (t : Transaction) (z : model.Sizes) (c : model.Chains) (few : t.writes_n ≤ most_writes)
    (old : (r : ℕ) → r < z.rows → key_of (old_key_of rows versions false r) ≡ old_key c r) where
  pub kept-rows : join (kept rows versions xs t.slot t.writes_n) (pending_rows z (writes_in xs t)) ≡ version_rows z c (writes_in xs t)
  unfolding kept pending_rows version_rows
  kept-rows =
      join-same (kept rows versions xs t.slot t.writes_n) (λ r. cond (gets_version c (writes_in xs t) r) (r ∷ []) [])
      (pick (pending (writes_in xs t)) 0 z.rows)
      (λ r m. ap (λ (b : Bool). cond b (r ∷ []) [])
      (gets-same rows versions xs t c r few (old r (omega (arith, (pick-which (pending (writes_in xs t)) 0 z.rows r m).1)))))
      ∙ join-pick (pending (writes_in xs t)) (gets_version c (writes_in xs t)) 0 z.rows

  -- as the words list them
  pub version-front : front (pending_into xs t.slot t.writes_n (replicate most_writes 0)) ≡ pending_rows z (writes_in xs t)
      → length (version_rows z c (writes_in xs t)) ≤ most_writes
      → front (versions_into rows versions xs t.slot t.writes_n (replicate most_writes 0)) ≡ version_rows z c (writes_in xs t)
  unfolding versions_into
  version-front e room = rw (e, kept-rows) (listed-all 16 (version_rows z c (writes_in xs t)) room)

  pub version-count : front (pending_into xs t.slot t.writes_n (replicate most_writes 0)) ≡ pending_rows z (writes_in xs t)
      → length (version_rows z c (writes_in xs t)) ≤ most_writes
      → (versions_into rows versions xs t.slot t.writes_n (replicate most_writes 0)).n ≡ length (version_rows z c (writes_in xs t))
  unfolding versions_into
  version-count e room = rw (e, kept-rows)
      (listed-count (version_rows z c (writes_in xs t)) (record { out = replicate most_writes 0; n = 0 }) (rw (length-replicate {A = ℕ} 16 0) (omega arith))
      ∙ zero-add (length (version_rows z c (writes_in xs t))))

-- no more than the pending ones
pub versions-fewer : (z : model.Sizes) (c : model.Chains) (ws : List model.Write) → length (version_rows z c ws) ≤ length (pending_rows z ws)
unfolding version_rows pending_rows
versions-fewer z c ws = pick-fewer (λ r. pending ws r && gets_version c ws r) (pending ws) 0 z.rows (λ r e. and_l _ _ e)

module _ (z : model.Sizes) (rows versions : List ℕ) (used : ℕ) (g : Headed z rows used) (most : z.rows ≤ most_buckets) (xs : List ℕ) (t : Transaction)
    (w : WritesIn z xs t) where
  rows_few : length (rows_written xs t.slot t.writes_n) ≤ most_writes
  rows_few = omega (arith, fields-length (λ (x : Write). x.row) write_of writes xs t.slot t.writes_n, w.few)

  pending-front : front (pending_into xs t.slot t.writes_n (replicate most_writes 0)) ≡ pending_rows z (writes_in xs t)
  pending-front =
      let ps = pending_rows z (writes_in xs t) in
      rw (listed-pending xs t.slot t.writes_n z w.below most rows_few) (take_at ps (drop (length ps) (replicate most_writes 0)) (length ps) refl)

  versions-most : length (version_rows z (chains_in z rows versions used) (writes_in xs t)) ≤ most_writes
  versions-most = omega (
    arith,
    versions-fewer z (chains_in z rows versions used) (writes_in xs t),
    ap length (sorted-pending xs t.slot t.writes_n z w.below),
    buckets-no-longer (rows_written xs t.slot t.writes_n),
    rows_few,
  )

  -- the list that install goes through, and how many they are
  pub versions-front : front (versions_into rows versions xs t.slot t.writes_n (replicate most_writes 0))
      ≡ version_rows z (chains_in z rows versions used) (writes_in xs t)
  versions-front = version-front rows versions xs t z (chains_in z rows versions used) w.few (old-key-same z rows versions used g) pending-front versions-most

  pub versions-counted : versions_in rows versions xs t.slot t.writes_n ≡ length (version_rows z (chains_in z rows versions used) (writes_in xs t))
  unfolding versions_in
  versions-counted = rw
      (version-count rows versions xs t z (chains_in z rows versions used) w.few (old-key-same z rows versions used g) pending-front versions-most)
      (omega (arith, versions-most))
