-- In every reached store the index reads of a transaction are of distinct buckets: capture adds one only where the bucket has none. Assumes nothing.
use mathlib.Core.Path.{◌≡◌, refl, sym}
use mathlib.Core.Bool.{false}
use mathlib.Core.List.{List, [], ◌∷◌, ◌++◌}
use Prim.Native.Nat.{ℕ}
use lib.Dec.{eqb}
use borrow.Author.Tests.{eqb-false, ne_eqb}
use Rattle.base_lists.specs.Lists.{some_of}
use Rattle.base_lists.specs.Table.{update}
use Rattle.base_lists.proofs.TableLaws.{update-elim, cond-elim}
use Rattle.base_lists.proofs.ListLaws.{or_l, or_r}
use Rattle.model.specs.Store.{Sizes, IndexRead, Txn, Store, fresh}
use Rattle.model.specs.Steps.{has_read, add_read}
use Rattle.model.specs.Refusals.{Step}
use Rattle.model.specs.Machine.{run}
use Rattle.model.specs.Demands.{Distinct, DistinctAt}
use Rattle.model.proofs.Move.{Move, stay, did-begin, did-mark, did-capture, did-collect, did-rows, did_write, did-prepare, did-install, did-end}
use Rattle.model.proofs.Move.{did-publish, did-abort}
use Rattle.model.proofs.Moving.{run-inv}

has_last : (rs : List IndexRead) (q : IndexRead) (b : ℕ) → has_read rs b ≡ false → eqb q.bucket b ≡ false → has_read (rs ++ (q ∷ [])) b ≡ false
unfolding has_read some_of
has_last [] q b e f = rw f
has_last (r ∷ rs) q b e f = rw (or_l (eqb r.bucket b) (has_read rs b) e) (has_last rs q b (or_r (eqb r.bucket b) (has_read rs b) e) f)

distinct-last : (rs : List IndexRead) (q : IndexRead) → has_read rs q.bucket ≡ false → Distinct rs → Distinct (rs ++ (q ∷ []))
unfolding Distinct has_read some_of
distinct-last [] q e u = (refl, u)
distinct-last (r ∷ rs) q e u =
    let d = eqb-false r.bucket q.bucket (or_l (eqb r.bucket q.bucket) (has_read rs q.bucket) e) in (
      has_last rs q r.bucket u.0 (ne_eqb q.bucket r.bucket (λ f. d (sym f))),
      distinct-last rs q (or_r (eqb r.bucket q.bucket) (has_read rs q.bucket) e) u.1,
    )

pub distinct-kept : (rs : List IndexRead) (b stamp : ℕ) → Distinct rs → Distinct (add_read rs b stamp)
unfolding add_read
distinct-kept rs b stamp u =
    cond-elim Distinct (has_read rs b) rs (rs ++ (record { bucket = b; stamp = stamp } ∷ [])) (λ e. u)
    (λ e. distinct-last rs (record { bucket = b; stamp = stamp }) e u)

-- one place changes
distinct-set : (s : Store) → DistinctAt s → (i : ℕ) (x : Txn) → Distinct x.reads → (j : ℕ) → Distinct (update s.txns i x j).reads
distinct-set s g i x h j = update-elim (λ y. Distinct y.reads) s.txns i x j (λ e. h) (λ d. g j)

pub distinct-move : (s s' : Store) {a : ℕ} → DistinctAt s → Move s a s' → DistinctAt s'
unfolding Distinct
distinct-move s s' = go s'
  where
    go : {a : ℕ} (s' : Store) → DistinctAt s → Move s a s' → DistinctAt s'
    go s' g (stay i) = g
    go s' g (did-begin i a b c d) = distinct-set s g i _ tt
    go s' g (did-mark i a b) = distinct-set s g i _ (g i)
    go s' g (did-capture i k a b c) = distinct-set s g i _ (distinct-kept (s.txns i).reads _ _ (g i))
    go s' g (did-collect i a b) = distinct-set s g i _ (g i)
    go s' g (did-rows i a b c) = distinct-set s g i _ (g i)
    go s' g (did_write i w a b c d) = distinct-set s g i _ (g i)
    go s' g (did-prepare i a b c) = distinct-set s g i _ (g i)
    go s' g (did-install i a b) = distinct-set s g i _ (g i)
    go s' g (did-end i a b) = distinct-set s g i _ (g i)
    go s' g (did-publish i a b) = distinct-set s g i _ tt
    go s' g (did-abort i a b) = distinct-set s g i _ tt

pub distinct-fresh : (z : Sizes) (clock : ℕ) → DistinctAt (fresh z clock)
unfolding Distinct
distinct-fresh z clock j = tt

pub distinct-run : (s : Store) → DistinctAt s → (more : List Step) → DistinctAt (run s more)
distinct-run s g more = run-inv DistinctAt (λ v v' i h m. distinct-move v v' h m) s more g

pub distinct-opened : (z : Sizes) (clock : ℕ) (before : List Step) → DistinctAt (run (fresh z clock) before)
distinct-opened z clock before = distinct-run (fresh z clock) (distinct-fresh z clock) before
