-- The composition `indexed_read_then_validate`, clause by clause: a read from a fresh store, and its validation at any later step.
-- Assumes nothing.
use Prim.Native.Nat.{ℕ}
use mathlib.Core.Path.{◌≡◌, refl, sym, ap, ◌∙◌}
use mathlib.Core.Bool.{Bool, true, false, not, ◌&&◌, ◌||◌}
use mathlib.Core.Logic.{◌↔◌}
use mathlib.Core.List.{List, [], ◌∷◌}
use native.Mathlib.Omega.{arith}
use lib.Dec.{eqb, ltb}
use borrow.Author.Tests.{lt-ltb, ltb-true}
use Rattle.base_lists.specs.Lists.{pick, all_of, Among}
use Rattle.base_lists.proofs.ListLaws.{and_l, and_r, and_both, pick-which, which-pick}
use Rattle.model.specs.Store.{Sizes, Chains, Index, IndexRead, Txn, Store, fresh}
use Rattle.model.specs.Seeing.{matches}
use Rattle.model.specs.Verdict.{Bucket, verdict, bad_read, judge_reads}
use Rattle.model.specs.Upstream.{matches_row, reads_good, index_read_conflict}
use Rattle.model.specs.Refusals.{Step, rows, txn_of}
use Rattle.model.specs.Machine.{Rows, at, step, run}
use Rattle.model.proofs.Ruled.{refuses}
use Rattle.model.proofs.Unrefused.{reached}
use Rattle.model.proofs.UpstreamLaws.{good-same, matches-same}
use Rattle.model.proofs.Finished.{rows-done}
use Rattle.model.proofs.Promises.{finished-read}

-- `rows`: a row is answered exactly where upstream's `matches_row` holds, for the key that the transaction has collected
module _ (z : Sizes) (clock : ℕ) (before : List Step) (t room : ℕ) (rs : List ℕ) where
  abbrev read_at : Store
  read_at = run (fresh z clock) before

  module _ (e : (step read_at (rows t room)).answer ≡ Rows rs) where
    abbrev key : ℕ
    key = (finished-read z clock before t room rs e).key

    same : (r : ℕ) → matches_row read_at.sizes.rows read_at.chains (txn_of read_at t) key r
        ≡ (ltb r read_at.sizes.rows && matches read_at.chains (txn_of read_at t) key r)
    same r = matches-same read_at (reached z clock before (rows t room) (ap refuses e)) (at read_at t) (rows-done read_at t room rs e).alive key r

    forth : (r : ℕ) → Among r (pick (matches read_at.chains (txn_of read_at t) key) 0 read_at.sizes.rows)
        → matches_row read_at.sizes.rows read_at.chains (txn_of read_at t) key r ≡ true
    forth r m =
        let w = pick-which (matches read_at.chains (txn_of read_at t) key) 0 read_at.sizes.rows r m in
        same r ∙ and_both (ltb r read_at.sizes.rows) _ (lt-ltb r read_at.sizes.rows (omega (arith, w.1))) w.2

    back : (r : ℕ) → matches_row read_at.sizes.rows read_at.chains (txn_of read_at t) key r ≡ true
        → Among r (pick (matches read_at.chains (txn_of read_at t) key) 0 read_at.sizes.rows)
    back r h =
        let b = sym (same r) ∙ h in
        let l = ltb-true r read_at.sizes.rows (and_l (ltb r read_at.sizes.rows) _ b) in
        which-pick (matches read_at.chains (txn_of read_at t) key) 0 read_at.sizes.rows r (omega arith) (omega arith)
        (and_r (ltb r read_at.sizes.rows) _ b)

    pub rows-match : (r : ℕ) → Among r rs ↔ matches_row read_at.sizes.rows read_at.chains (txn_of read_at t) key r ≡ true
    rows-match r = let w = (finished-read z clock before t room rs e).whole in (λ m. forth r (rw w at m), λ h. rw w (back r h))

-- an unmarked transaction with the one index read of upstream's composition
module _ (i : Index) (x : Txn) (r : IndexRead) (m : x.marked ≡ false) (one : x.reads ≡ r ∷ []) where
  -- `predicate_conflict`: the present stamp differs from the captured one, or is not below the number
  pub predicate-conflict : index_read_conflict i x ≡ not (eqb (i.stamp r.bucket) r.stamp) || not (ltb (i.stamp r.bucket) x.number)
  unfolding index_read_conflict reads_good all_of bad_read
  predicate-conflict = rw (m, one, good-same i x.number r) (go (bad_read i x.number r))
    where
      go : (b : Bool) → not (not b && true) ≡ b
      go true = refl
      go false = refl

  -- `validation_stamp`: upstream binds it only to the flag; here a verdict of a stamp names the bucket, the captured and the present stamp
  pub validation-stamp : (c : Chains) → bad_read i x.number r ≡ true → verdict c i x ≡ Bucket r.bucket r.stamp (i.stamp r.bucket)
  unfolding verdict judge_reads
  validation-stamp c b = rw (m, one, b)
