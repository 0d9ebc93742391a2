-- Capture: `capture_dependencies` with the one bucket of a key, clause by clause.
-- Assumes nothing.
use Prim.Native.Nat.{ℕ, zero, suc, ◌+◌, ◌≤◌, ◌<◌}
use mathlib.Core.Path.{◌≡◌, refl, sym, ap, subst, ◌∙◌}
use mathlib.Core.Bool.{Bool, true, false, true≢false}
use mathlib.Core.Logic.{◌≢◌, ◌⊎◌, inl, inr, ⊎_elim}
use mathlib.Core.List.{List, [], ◌∷◌, ◌++◌, append-nil}
use native.Mathlib.Omega.{arith}
use lib.ListN.{length, length-append, get_or}
use Rattle.base_lists.specs.Table.{update}
use Rattle.base_lists.proofs.TableLaws.{update_same, update-elim, update_all-elim, cond-elim}
use Rattle.base_lists.specs.Lists.{Among}
use Rattle.base_lists.proofs.ListLaws.{among-right, among-last}
use Rattle.model.specs.Store.{Sizes, IndexRead, Txn, Store, no_txn, fresh}
use Rattle.model.specs.Steps.{marked_txn, has_read, add_read, captured_txn, changed_buckets}
use Rattle.model.specs.Refusals.{Step, Stale, Marked, capture, txn_of}
use Rattle.model.specs.Machine.{is_stale, at, accepted, step, run}
use Rattle.model.specs.Seeing.{Live}
use Rattle.model.specs.Given.{◌and◌, number, Ready, Free, bucket_for, stamp_for}
use Rattle.model.specs.Demands.{Distinct}
use Rattle.model.proofs.Distinct.{distinct-opened}
use Rattle.model.proofs.Move.{Move, stay, did-begin, did-mark, did-capture, did-collect, did-rows, did_write, did-prepare, did-install, did-end, did-publish}
use Rattle.model.proofs.Move.{did-abort}
use Rattle.model.proofs.Numbers.{Numbers, numbers-move, numbers-fresh}
use Rattle.model.proofs.SeeingLaws.{read-bucket, bucket-read}
use Rattle.model.proofs.Refused.{capture-8, capture-0}
use Rattle.model.proofs.Outcomes.{unchanged, stale-marks, capture-marked, capture-stale, done-does}
use Rattle.model.proofs.Moving.{run-inv}
use Rattle.model.proofs.Tests.{lives-number}
use Rattle.model_upstream.specs.Clauses.{no_read, UniqueReads}

-- the index read that a capture of the key takes
abbrev pub read_now : Store → ℕ → IndexRead
read_now s k = record { bucket = bucket_for s k; stamp = stamp_for s k }

at-among : (rs : List IndexRead) (j : ℕ) → j < length rs → Among (get_or rs j no_read) rs
at-among [] j l = absurd (omega arith)
at-among (r ∷ rs) zero l = inl refl
at-among (r ∷ rs) (suc j) l = inr (at-among rs j (omega arith))

module _ (rs : List IndexRead) (b stamp : ℕ) where
  abbrev taken : IndexRead
  taken = record { bucket = b; stamp = stamp }

  -- `extends`: what was captured stays, in its place
  pub extends : (more : List IndexRead) × (add_read rs b stamp ≡ rs ++ more)
  unfolding add_read
  extends = cond-elim (λ qs. (more : List IndexRead) × (qs ≡ rs ++ more)) (has_read rs b) rs (rs ++ (taken ∷ [])) (λ e. ([], sym (append-nil rs)))
      (λ e. (taken ∷ [], refl))

  -- `permitted_additions`: what comes is the bucket with its present stamp
  pub permitted : (r : IndexRead) → Among r (add_read rs b stamp) → Among r rs ⊎ (r ≡ taken)
  unfolding add_read
  permitted r = cond-elim (λ qs. Among r qs → Among r rs ⊎ (r ≡ taken)) (has_read rs b) rs (rs ++ (taken ∷ [])) (λ e m. inl m) (λ e m. among-last r taken rs m)

  -- no more than one comes
  pub at_most_one : length (add_read rs b stamp) ≤ length rs + 1
  unfolding add_read
  at_most_one = cond-elim (λ qs. length qs ≤ length rs + 1) (has_read rs b) rs (rs ++ (taken ∷ [])) (λ e. omega arith)
      (λ e. omega (arith, length-append rs (taken ∷ [])))

-- `unique`: in every reached store, before and after a capture, no two index reads of a transaction are of one bucket
unique-of : (rs : List IndexRead) → Distinct rs → UniqueReads rs
unfolding Distinct
unique-of [] u i j l h = absurd (omega arith)
unique-of (r ∷ rs) u zero zero l h = absurd (omega arith)
unique-of (r ∷ rs) u zero (suc j) l h = λ e. true≢false (sym (bucket-read rs r.bucket (get_or rs j no_read) (at-among rs j (omega arith)) (sym e)) ∙ u.0)
unique-of (r ∷ rs) u (suc i) zero l h = absurd (omega arith)
unique-of (r ∷ rs) u (suc i) (suc j) l h = unique-of rs u.1 i j (omega arith) (omega arith)

pub distinct-reads : (z : Sizes) (clock : ℕ) (before : List Step) (j : ℕ) → UniqueReads ((run (fresh z clock) before).txns j).reads
distinct-reads z clock before j = unique-of _ (distinct-opened z clock before j)

-- number and mark are as they were, and the reads are `add_read`
module _ (s : Store) (t k : ℕ) (e : number s (capture t k) ≡ 0) where
  pub captured-is : (step s (capture t k)).store.txns (at s t) ≡ captured_txn s (txn_of s t) k
  unfolding accepted
  captured-is = ap (λ w. w.store.txns (at s t)) (done-does s (capture t k) e) ∙ update_same s.txns (at s t) (captured_txn s (txn_of s t) k)

  -- the stamp captured is below the number
  pub stamp-below : stamp_for s k < t
  stamp-below = ((capture-0 s t k).0 e).1.1.1.0

-- `SerializationFailure`: the mark is set
pub failure-marks : (s : Store) (t k : ℕ) → number s (capture t k) ≡ 8 → ((step s (capture t k)).store.txns (at s t)).marked ≡ true
failure-marks s t k e = go ((capture-8 s t k).0 e)
  where
    go : Ready s (capture t k)
        and (((txn_of s t).marked ≡ true) ⊎ (((txn_of s t).marked ≡ false) and Free s.held.holder t (bucket_for s k) and (t ≤ stamp_for s k)))
        → ((step s (capture t k)).store.txns (at s t)).marked ≡ true
    go (r, inl m) = ap (λ w. (w.txns (at s t)).marked) (unchanged s (capture t k) Marked ((capture-marked s t k).1 (r, m)) marked-not-stale) ∙ m
      where
        marked-not-stale : Marked ≢ Stale
        marked-not-stale f = true≢false (sym (ap is_stale f))
    go (r, inr p) = ap (λ w. (w.txns (at s t)).marked) (stale-marks s (capture t k) ((capture-stale s t k).1 (r, p)))
        ∙ ap (λ x. x.marked) (update_same s.txns (at s t) (marked_txn (txn_of s t)))

-- In every reached store a captured stamp is the bucket's present one, or the present one is not below the number.
abbrev StampsStand : Store → Type 0
StampsStand s = (j : ℕ) → Live (s.txns j) → (r : IndexRead) → Among r (s.txns j).reads
    → (s.index.stamp r.bucket ≡ r.stamp) ⊎ ((s.txns j).number ≤ s.index.stamp r.bucket)

module _ (s : Store) (n : Numbers s.clock s.txns) (g : StampsStand s) where
  stamps-set : (i : ℕ) (x : Txn)
      → (Live x → (r : IndexRead) → Among r x.reads → (s.index.stamp r.bucket ≡ r.stamp) ⊎ (x.number ≤ s.index.stamp r.bucket))
      → (j : ℕ) → Live (update s.txns i x j) → (r : IndexRead) → Among r (update s.txns i x j).reads
      → (s.index.stamp r.bucket ≡ r.stamp) ⊎ ((update s.txns i x j).number ≤ s.index.stamp r.bucket)
  stamps-set i x h j = update-elim (λ y. Live y → (r : IndexRead) → Among r y.reads
      → (s.index.stamp r.bucket ≡ r.stamp) ⊎ (y.number ≤ s.index.stamp r.bucket)) s.txns i x j (λ e. h) (λ d. g j)

  stamps-move : (s' : Store) {i : ℕ} → Move s i s' → StampsStand s'
  stamps-move s' = go s'
    where
      go : {i : ℕ} (s' : Store) → Move s i s' → StampsStand s'
      go s' (stay i) = g
      go s' (did-begin i p q u v) = stamps-set i _ (λ l r m. absurd m)
      go s' (did-mark i p q) = stamps-set i _ (λ l. g i p)
      go s' (did-capture i k p q c) =
          stamps-set i _ (λ l r m. ⊎_elim (g i p r) (λ e. rw e (inl refl)) (permitted (s.txns i).reads (bucket_for s k) (stamp_for s k) r m))
      go s' (did-collect i p q) = stamps-set i _ (λ l. g i p)
      go s' (did-rows i p q u) = stamps-set i _ (λ l. g i p)
      go s' (did_write i w p q u v) = stamps-set i _ (λ l. g i p)
      go s' (did-prepare i p q c) = stamps-set i _ (λ l. g i p)
      go s' (did-install i p q) = stamps-set i _ (λ l. g i p)
      go s' (did-end i p q) = stamps-set i _ (λ l. g i p)
      go s' (did-publish i p q) =
          λ j. update-elim (λ y. Live y → (r : IndexRead) → Among r y.reads
          → (s'.index.stamp r.bucket ≡ r.stamp) ⊎ (y.number ≤ s'.index.stamp r.bucket)) s.txns i no_txn j
          (λ e l. absurd (omega arith))
          (λ d l r m. update_all-elim (λ v. (v ≡ r.stamp) ⊎ ((s.txns j).number ≤ v)) s.index.stamp (changed_buckets s (s.txns i)) s.clock r.bucket
          (λ e. inr (omega (arith, n.below j))) (λ e. g j l r m))
      go s' (did-abort i p q) = stamps-set i no_txn (λ l. absurd (omega arith))

-- both invariants together, through any sequence of steps
stamps-run : (s : Store) → Numbers s.clock s.txns → StampsStand s → (more : List Step) → StampsStand (run s more)
stamps-run s n g more = (run-inv (λ v. Numbers v.clock v.txns × StampsStand v)
    (λ v v' i h m. (numbers-move v v' h.0 m, stamps-move v h.0 h.1 v' m)) s more (n, g)).1

-- a stamp that differs from the captured one fails: such a capture is refused with 8
pub changed-stamp : (z : Sizes) (clock : ℕ) (before : List Step) (t k : ℕ) → 1 ≤ clock → let s = run (fresh z clock) before in
    Ready s (capture t k) → (txn_of s t).marked ≡ false → Free s.held.holder t (bucket_for s k) → (r : IndexRead) → Among r (txn_of s t).reads
    → r.bucket ≡ bucket_for s k → r.stamp ≢ stamp_for s k → number s (capture t k) ≡ 8
changed-stamp z clock before t k c w u f r m b d =
    let s = run (fresh z clock) before in
    let n = lives-number s t w.1 in
    let g = stamps-run (fresh z clock) (numbers-fresh z clock c) (λ j l q o. absurd o) before in
    (capture-8 s t k).1 (
      w,
      inr (
        u,
        (
          f,
          ⊎_elim (λ e. absurd (d (sym e ∙ ap s.index.stamp b))) (λ e. let q = ap s.index.stamp b in
              omega (arith, e, n, q)) (g (at s t) (omega (arith, n, w.1.3)) r m),
        ),
      ),
    )

same_read : (r : IndexRead) (b st : ℕ) → r.bucket ≡ b → r.stamp ≡ st → ◌≡◌ {A = IndexRead} r (record { bucket = b; stamp = st })
same_read r b st e f = rw (← e, ← f)

read-among : (s : Store) → StampsStand s → (t k : ℕ) → number s (capture t k) ≡ 0 → (b : Bool) → has_read (txn_of s t).reads (bucket_for s k) ≡ b
    → Among (read_now s k) (add_read (txn_of s t).reads (bucket_for s k) (stamp_for s k))
unfolding add_read
read-among s g t k e true h =
    let w = read-bucket (txn_of s t).reads (bucket_for s k) h in
    let l = ((capture-0 s t k).0 e).0.1 in
    let n = lives-number s t l in
    rw h (subst (λ q. Among q (txn_of s t).reads) (⊎_elim
    (λ f. same_read w.0 (bucket_for s k) (stamp_for s k) w.2 (sym f ∙ ap s.index.stamp w.2))
    (λ f. absurd (let d = stamp-below s t k e in let q = ap s.index.stamp w.2 in omega (arith, f, n, q)))
    (g (at s t) (omega (arith, n, l.3)) w.0 w.1)) w.1)
read-among s g t k e false h = rw h (among-right (read_now s k) (txn_of s t).reads (read_now s k ∷ []) (inl refl))

-- `captured`: after an accepted capture the bucket is there with its present stamp, also where it was captured before
pub captured-now : (z : Sizes) (clock : ℕ) (before : List Step) (t k : ℕ) → 1 ≤ clock → let s = run (fresh z clock) before in
    number s (capture t k) ≡ 0 → Among (read_now s k) ((step s (capture t k)).store.txns (at s t)).reads
captured-now z clock before t k c e =
    let s = run (fresh z clock) before in
    let g = stamps-run (fresh z clock) (numbers-fresh z clock c) (λ j l r m. absurd m) before in
    rw (captured-is s t k e) (read-among s g t k e (has_read (txn_of s t).reads (bucket_for s k)) refl)
