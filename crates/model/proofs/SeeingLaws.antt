-- Keys, pending writes and what is recorded: each test and list of the model, taken apart into facts. Assumes nothing.
use mathlib.Core.Path.{◌≡◌, refl, ap}
use mathlib.Core.Bool.{Bool, true, false, cond, false≢true}
use mathlib.Core.Logic.{◌≢◌, ◌⊎◌, inl, inr, ⊎_elim}
use mathlib.Core.Option.{Option, none, some}
use mathlib.Core.List.{List, [], ◌∷◌, ◌++◌}
use Prim.Native.Nat.{ℕ, zero, suc, ◌≤◌, ◌<◌}
use native.Mathlib.Omega.{arith}
use lib.Dec.{eqb, ltb, leb}
use borrow.Author.Tests.{eqb-true, eqb-false, eq-eqb, ne_eqb, ltb-true, leb-true}
use Rattle.base_lists.proofs.TableLaws.{cond-elim}
use Rattle.base_lists.specs.Lists.{Among}
use Rattle.base_lists.proofs.ListLaws.{and_l, and_r, or_cases, among-left, among-right, among-last, some-which, which-some, pick-which, which-pick}
use Rattle.model.specs.Store.{Sizes, Chains, Snapshot, IndexRead, ReadRecord, Write, Txn, Store, same_key, bucket_of, key_in}
use Rattle.model.specs.Seeing.{visible, known, walk, first_visible, version_of, key_at, pending, shown_key, matches, record_of}
use Rattle.model.specs.Steps.{has_read, add_read, recorded, recording, record_all, found_rows, pending_rows, key_buckets}

pub same-key : (a b : Option ℕ) → same_key a b ≡ true → a ≡ b
unfolding same_key
same-key none none e = refl
same-key none (some k) e = absurd (false≢true e)
same-key (some j) none e = absurd (false≢true e)
same-key (some j) (some k) e = ap some (eqb-true j k e)

pub key-same : (a b : Option ℕ) → a ≡ b → same_key a b ≡ true
unfolding same_key
key-same none none e = refl
key-same none (some k) e = let z : ◌≡◌ {A = ℕ} 0 1 = cc in absurd (omega arith)
key-same (some j) none e = let z : ◌≡◌ {A = ℕ} 0 1 = cc in absurd (omega arith)
key-same (some j) (some k) e = eq-eqb j k cc

-- there is no key at 0
pub key_at-pos : (c : Chains) (p k : ℕ) → key_at c p ≡ some k → p ≢ 0
unfolding key_at
key_at-pos c p k e f = let g : key_at c 0 ≡ some k = rw f at e in let z : ◌≡◌ {A = ℕ} 0 1 = cc in omega arith

pub key_at-zero : (c : Chains) → key_at c 0 ≡ none
unfolding key_at
key_at-zero c = refl

pub key_at-key : (c : Chains) (p : ℕ) → p ≢ 0 → key_at c p ≡ c.key p
unfolding key_at
key_at-key c p z = rw (ne_eqb p 0 z)

pub key_at-same : (c d : Chains) (p : ℕ) → (p ≢ 0 → c.key p ≡ d.key p) → key_at c p ≡ key_at d p
unfolding key_at
key_at-same c d p h = go (eqb p 0) refl
  where
    go : (b : Bool) → eqb p 0 ≡ b → cond b none (c.key p) ≡ cond b none (d.key p)
    go true e = refl
    go false e = h (eqb-false p 0 e)

-- the walk finds nothing, or a pointer that was given
pub walk-in : (c : Chains) (v : Snapshot) (f p : ℕ) → (walk c v f p ≡ 0) ⊎ ((1 ≤ walk c v f p) × (walk c v f p ≤ c.used))
unfolding walk known
walk-in c v zero p = inl refl
walk-in c v (suc f) p = cond-elim (λ q. (q ≡ 0) ⊎ ((1 ≤ q) × (q ≤ c.used))) (known c p) (cond (visible c v p) p (walk c v f (c.next p))) 0
    (λ k. cond-elim (λ q. (q ≡ 0) ⊎ ((1 ≤ q) × (q ≤ c.used))) (visible c v p) p (walk c v f (c.next p))
    (λ e. inr (ltb-true 0 p (and_l (ltb 0 p) (leb p c.used) k), leb-true p c.used (and_r (ltb 0 p) (leb p c.used) k)))
    (λ e. walk-in c v f (c.next p)))
    (λ k. inl refl)

pub version-in : (c : Chains) (v : Snapshot) (r : ℕ) → version_of c v r ≢ 0 → (1 ≤ version_of c v r) × (version_of c v r ≤ c.used)
unfolding first_visible
version-in c v r z = ⊎_elim (λ e. absurd (z e)) (λ w. w) (walk-in c v (c.head r) (c.head r))

-- a row with no pending write matches by its version
pub match-version : (c : Chains) (x : Txn) (k r : ℕ) → pending x.writes r ≡ false → matches c x k r ≡ true → key_at c (version_of c x.snapshot r) ≡ some k
unfolding matches shown_key
match-version c x k r p m = same-key _ _ (rw p at m)

pub version-match : (c : Chains) (x : Txn) (k r : ℕ) → pending x.writes r ≡ false
    → matches c x k r ≡ same_key (key_at c (version_of c x.snapshot r)) (some k)
unfolding matches shown_key
version-match c x k r p = rw p

-- an erasure matches no key: neither a last pending write that is one, nor a version that was erased
pub erasure-matches-none : (c : Chains) (x : Txn) (k r : ℕ) → shown_key c x r ≡ none → matches c x k r ≡ false
unfolding matches same_key
erasure-matches-none c x k r e = rw e

-- the distinct pending rows
pub which-pendingRows : (z : Sizes) (ws : List Write) (r : ℕ) → r < z.rows → pending ws r ≡ true → Among r (pending_rows z ws)
unfolding pending_rows
which-pendingRows z ws r l p = which-pick (pending ws) 0 z.rows r (omega arith) (omega arith) p

-- a pending row has a write
pub pending-which : (ws : List Write) (r : ℕ) → pending ws r ≡ true → (w : Write) × Among w ws × (w.row ≡ r)
unfolding pending
pending-which [] r e = absurd (false≢true e)
pending-which (w ∷ ws) r e = ⊎_elim (λ t. (w, inl refl, eqb-true _ _ t)) (λ t. let q = pending-which ws r t in (q.0, inr q.1, q.2)) (or_cases _ _ e)

-- the bucket of a key that there is
pub key-bucket : (z : Sizes) (o : Option ℕ) (k : ℕ) → o ≡ some k → Among (bucket_of z k) (key_buckets z o)
unfolding key_buckets
key-bucket z o k e = rw e (inl refl)

-- index reads: the first capture of a bucket adds one
pub read-bucket : (rs : List IndexRead) (b : ℕ) → has_read rs b ≡ true → (r : IndexRead) × Among r rs × (r.bucket ≡ b)
unfolding has_read
read-bucket rs b e = let w = some-which (λ (r : IndexRead). eqb r.bucket b) rs e in (w.0, w.1, eqb-true _ _ w.2)

pub bucket-read : (rs : List IndexRead) (b : ℕ) (r : IndexRead) → Among r rs → r.bucket ≡ b → has_read rs b ≡ true
unfolding has_read
bucket-read rs b r m e = which-some (λ (q : IndexRead). eqb q.bucket b) rs r m (eq-eqb _ _ e)

pub add_read-has : (rs : List IndexRead) (b stamp : ℕ) → has_read (add_read rs b stamp) b ≡ true
unfolding add_read
add_read-has rs b stamp = cond-elim (λ qs. has_read qs b ≡ true) (has_read rs b) rs (rs ++ (record { bucket = b; stamp = stamp } ∷ []))
    (λ e. e)
    (λ e. bucket-read (rs ++ (record { bucket = b; stamp = stamp } ∷ [])) b (record { bucket = b; stamp = stamp }) (among-right _ rs _ (inl refl)) refl)

pub add_read-keeps : (rs : List IndexRead) (b stamp c : ℕ) → has_read rs c ≡ true → has_read (add_read rs b stamp) c ≡ true
unfolding add_read
add_read-keeps rs b stamp c h = cond-elim (λ qs. has_read qs c ≡ true) (has_read rs b) rs (rs ++ (record { bucket = b; stamp = stamp } ∷ []))
    (λ e. h)
    (λ e. let w = read-bucket rs c h in bucket-read (rs ++ (record { bucket = b; stamp = stamp } ∷ [])) c w.0 (among-left _ rs _ w.1) w.2)

pub add_read-cases : (rs : List IndexRead) (b stamp : ℕ) (r : IndexRead) → Among r (add_read rs b stamp) → Among r rs ⊎ (r.bucket ≡ b)
unfolding add_read
add_read-cases rs b stamp r = cond-elim (λ qs. Among r qs → Among r rs ⊎ (r.bucket ≡ b)) (has_read rs b) rs (rs ++ (record { bucket = b; stamp = stamp } ∷ []))
    (λ e m. inl m)
    (λ e m. ⊎_elim inl (λ f. inr (ap (λ q. q.bucket) f)) (among-last r _ rs m))

-- records: what is there stays, and what comes is of a row that was read through a version
pub recording-cases : (rs : List ReadRecord) (q r : ReadRecord) → Among r (recording rs q) → Among r rs ⊎ (r ≡ q)
unfolding recording
recording-cases rs q r =
    cond-elim (λ l. Among r l → Among r rs ⊎ (r ≡ q)) (recorded rs q.ptr) rs (rs ++ (q ∷ [])) (λ e m. inl m) (λ e m. among-last r q rs m)

pub recording-keeps : (rs : List ReadRecord) (q r : ReadRecord) → Among r rs → Among r (recording rs q)
unfolding recording
recording-keeps rs q r m = cond-elim (λ l. Among r l) (recorded rs q.ptr) rs (rs ++ (q ∷ [])) (λ e. m) (λ e. among-left r rs (q ∷ []) m)

-- a pointer is recorded afterwards
pub recording-has : (rs : List ReadRecord) (q : ReadRecord) → (r : ReadRecord) × Among r (recording rs q) × (r.ptr ≡ q.ptr)
unfolding recording recorded
recording-has rs q = cond-elim (λ l. (r : ReadRecord) × Among r l × (r.ptr ≡ q.ptr)) (recorded rs q.ptr) rs (rs ++ (q ∷ [])) (λ e. old e)
    (λ e. (q, among-right q rs (q ∷ []) (inl refl), refl))
  where
    old : recorded rs q.ptr ≡ true → (r : ReadRecord) × Among r rs × (r.ptr ≡ q.ptr)
    old e = let w = some-which (λ (r : ReadRecord). eqb r.ptr q.ptr) rs e in (w.0, w.1, eqb-true _ _ w.2)

module _ (c : Chains) (x : Txn) where
  -- one row of the read
  record_row : List ReadRecord → ℕ → List ReadRecord
  record_row rs r = cond (pending x.writes r) rs (recording rs (record_of c x.snapshot r))

  row-cases : (rs : List ReadRecord) (r : ℕ) (q : ReadRecord) → Among q (record_row rs r)
      → Among q rs ⊎ ((pending x.writes r ≡ false) × (q ≡ record_of c x.snapshot r))
  unfolding record_row
  row-cases rs r q = cond-elim (λ l. Among q l → Among q rs ⊎ ((pending x.writes r ≡ false) × (q ≡ record_of c x.snapshot r)))
      (pending x.writes r) rs (recording rs (record_of c x.snapshot r))
      (λ e m. inl m)
      (λ e m. ⊎_elim inl (λ f. inr (e, f)) (recording-cases rs (record_of c x.snapshot r) q m))

  row_keeps : (rs : List ReadRecord) (r : ℕ) (q : ReadRecord) → Among q rs → Among q (record_row rs r)
  unfolding record_row
  row_keeps rs r q m = cond-elim (λ l. Among q l) (pending x.writes r) rs (recording rs (record_of c x.snapshot r)) (λ e. m)
      (λ e. recording-keeps rs (record_of c x.snapshot r) q m)

  pub record_all-cases : (rs : List ReadRecord) (found : List ℕ) (q : ReadRecord) → Among q (record_all c x rs found)
      → Among q rs ⊎ ((r : ℕ) × Among r found × (pending x.writes r ≡ false) × (q ≡ record_of c x.snapshot r))
  unfolding record_all record_row
  record_all-cases rs [] q m = inl m
  record_all-cases rs (r ∷ found) q m = ⊎_elim
      (λ h. ⊎_elim inl (λ w. inr (r, inl refl, w.0, w.1)) (row-cases rs r q h))
      (λ w. inr (w.0, inr w.1, w.2, w.3))
      (record_all-cases (record_row rs r) found q m)

  pub record_all-keeps : (rs : List ReadRecord) (found : List ℕ) (q : ReadRecord) → Among q rs → Among q (record_all c x rs found)
  unfolding record_all record_row
  record_all-keeps rs [] q m = m
  record_all-keeps rs (r ∷ found) q m = record_all-keeps (record_row rs r) found q (row_keeps rs r q m)

  -- each row read through a version has its pointer recorded
  pub record_all-has : (rs : List ReadRecord) (found : List ℕ) (r : ℕ) → Among r found → pending x.writes r ≡ false
      → (q : ReadRecord) × Among q (record_all c x rs found) × (q.ptr ≡ version_of c x.snapshot r)
  unfolding record_all record_row
  record_all-has rs (f ∷ found) r (inl e) p =
      let w = recording-has rs (record_of c x.snapshot r) in
      (w.0, record_all-keeps (record_row rs f) found w.0 (rw (← e, p) w.1), w.2)
  record_all-has rs (f ∷ found) r (inr m) p = record_all-has (record_row rs f) found r m p
  record_all-has rs [] r x3 p = elim x3 [ ]

-- a found row matches
pub found-which : (s : Store) (x : Txn) (r : ℕ) → Among r (found_rows s x) → (r < s.sizes.rows) × (matches s.chains x (key_in x.phase) r ≡ true)
unfolding found_rows
found-which s x r m = let w = pick-which _ 0 s.sizes.rows r m in let t = w.2 in (omega (arith, w.1), search and_r)
