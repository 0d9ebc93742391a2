-- Lookup: `record_read`, `read` and `materialize`, clause by clause.
-- Assumes nothing.
use Prim.Native.Nat.{ℕ, ◌+◌, ◌≤◌, ◌<◌}
use mathlib.Core.Path.{◌≡◌, refl, sym, ap, ◌∙◌}
use mathlib.Core.Bool.{true, false}
use mathlib.Core.Logic.{◌⊎◌, inl, inr, ⊎_elim}
use mathlib.Core.List.{List, [], ◌∷◌, ◌++◌, append-nil, append_assoc}
use native.Mathlib.Omega.{arith}
use lib.ListN.{length, length-append}
use borrow.Author.Tests.{eq-eqb}
use lib.Dec.{eqb}
use Rattle.base_lists.proofs.TableLaws.{cond-elim}
use Rattle.base_lists.specs.Lists.{Among}
use Rattle.base_lists.proofs.ListLaws.{among-right, which-some}
use Rattle.model.specs.Store.{Chains, ReadRecord, Txn, Store, key_in}
use Rattle.model.specs.Seeing.{version_of, pending, record_of}
use Rattle.model.specs.Steps.{found_rows, recorded, recording, record_all, records_after, read_txn}
use Rattle.model.proofs.SeeingLaws.{key_at-pos, version-in, match-version, record_all-cases, found-which}

-- `record_read`, whose result is upstream's `recording` (`recording-same` of the model's UpstreamLaws)
module _ (rs : List ReadRecord) (q : ReadRecord) where
  -- `records_extend`: earlier records stay, in their places
  pub records-extend : (more : List ReadRecord) × (recording rs q ≡ rs ++ more)
  unfolding recording
  records-extend = cond-elim (λ l. (more : List ReadRecord) × (l ≡ rs ++ more)) (recorded rs q.ptr) rs (rs ++ (q ∷ []))
      (λ e. ([], sym (append-nil rs))) (λ e. (q ∷ [], refl))

  -- no more than one comes
  pub at_most_one : length (recording rs q) ≤ length rs + 1
  unfolding recording
  at_most_one = cond-elim (λ l. length l ≤ length rs + 1) (recorded rs q.ptr) rs (rs ++ (q ∷ [])) (λ e. omega arith)
      (λ e. omega (arith, length-append rs (q ∷ [])))

  -- then the pointer is recorded
  pub pointer-recorded : recorded (recording rs q) q.ptr ≡ true
  unfolding recording recorded
  pointer-recorded = cond-elim (λ l. recorded l q.ptr ≡ true) (recorded rs q.ptr) rs (rs ++ (q ∷ [])) (λ e. e)
      (λ e. which-some (λ (r : ReadRecord). eqb r.ptr q.ptr) (rs ++ (q ∷ [])) q (among-right q rs (q ∷ []) (inl refl)) (eq-eqb q.ptr q.ptr refl))

-- the same of a whole read
module _ (c : Chains) (x : Txn) where
  pub read-extends : (rs : List ReadRecord) (found : List ℕ) → (more : List ReadRecord) × (record_all c x rs found ≡ rs ++ more)
  unfolding record_all
  read-extends rs [] = ([], sym (append-nil rs))
  read-extends rs (r ∷ found) =
      cond-elim (λ l. (more : List ReadRecord) × (record_all c x l found ≡ rs ++ more)) (pending x.writes r) rs (recording rs (record_of c x.snapshot r))
      (λ e. read-extends rs found)
      (λ e. let a = records-extend rs (record_of c x.snapshot r) in let b = read-extends (recording rs (record_of c x.snapshot r)) found in
      (a.0 ++ b.0, b.1 ∙ (ap (◌++ b.0) a.1 ∙ append_assoc rs a.0 b.0)))

  -- rows with a pending write record nothing
  pub nothing-recorded : (rs : List ReadRecord) (found : List ℕ) → ((r : ℕ) → Among r found → pending x.writes r ≡ true) → record_all c x rs found ≡ rs
  unfolding record_all
  nothing-recorded rs [] h = refl
  nothing-recorded rs (r ∷ found) h = rw (h r (inl refl)) (nothing-recorded rs found (λ q m. h q (inr m)))

-- `observed_record`: of a row of the store, at the version that the transaction sees, with its xmin
pub record Observed (s : Store) (x : Txn) (q : ReadRecord) : Type 0 where
  pub row_in : q.row < s.sizes.rows
  pub pointer-in : (1 ≤ q.ptr) × (q.ptr ≤ s.chains.used)
  pub first-visible : q.ptr ≡ version_of s.chains x.snapshot q.row
  pub xmin-is : q.xmin ≡ s.chains.xmin q.ptr

observed-of : (s : Store) (x : Txn) (r : ℕ) → Among r (found_rows s x) → pending x.writes r ≡ false → Observed s x (record_of s.chains x.snapshot r)
observed-of s x r m p =
    let w = found-which s x r m in
    record {
      row_in = w.0;
      pointer-in =
          version-in s.chains x.snapshot r
          (key_at-pos s.chains (version_of s.chains x.snapshot r) (key_in x.phase) (match-version s.chains x (key_in x.phase) r p w.1));
      first-visible = refl;
      xmin-is = refl;
    }

-- `records_have_provenance`: a record after a read was there before, or was observed by it
pub provenance : (s : Store) (x : Txn) (q : ReadRecord) → Among q (records_after s x) → Among q x.records ⊎ Observed s x q
provenance s x q m = ⊎_elim inl (λ w. inr (rw w.3 (observed-of s x w.0 w.1 w.2))) (record_all-cases s.chains x x.records (found_rows s x) q m)

-- `transaction_view_same`: a read changes neither number, snapshot nor pending writes
pub view-same : (s : Store) (x : Txn) → ((read_txn s x).number ≡ x.number) × ((read_txn s x).snapshot ≡ x.snapshot) × ((read_txn s x).writes ≡ x.writes)
view-same s x = (refl, refl, refl)
