-- A record is what its parts are; capture, collect, put and erase leave its number, its snapshot and its slot.
-- Assumes nothing.
use Prim.Native.Nat.{ℕ, ◌%◌}
use mathlib.Core.Path.{◌≡◌, refl}
use mathlib.Core.Bool.{Bool, true, false, cond, not}
use mathlib.Core.List.{List}
use lib.Dec.{eqb, ltb, leb}
use Rattle.std.specs.Prelude.{Option, Some, None}
use Rattle.base_limits.specs.Limits.{most_writes}
use Rattle.model.specs.Store.{rank, phase_open, phase_holding, bucket_in, key_in}
use Rattle.table.specs.Fields.{stamp_of, holder_of}
use Rattle.table.specs.declared.lists.Write.{Write}
use Rattle.table_buckets.specs.Buckets.{precedes}
use Rattle.table_scans.specs.Scans.{read_prefix}
use Rattle.txn.specs.declared.Phase.{Phase}
use Rattle.txn.specs.declared.Phase.TheVariants as phase
use Rattle.txn.specs.declared.Transaction.{Transaction}
use Rattle.txn.specs.View.{phase_view}
use Rattle.txn.specs.Methods.{phase_from, mark_word, rest_of, whole_of, parts_of, LeftLists, Left}
use Rattle.txn.specs.Methods.{taken_by, too_many, hold_of, capture_at, capture_of, collect_of, write_of}

phase-told : (ph : Phase) → phase_from (rank (phase_view ph)) (bucket_in (phase_view ph)) (key_in (phase_view ph)) ≡ ph
phase-told phase.Open = refl
phase-told (phase.Holding b k) = refl
phase-told (phase.Collected k) = refl
phase-told phase.Prepared = refl
phase-told phase.Installed = refl
phase-told phase.Ended = refl

mark-told : (b : Bool) → not (eqb (mark_word b) 0) ≡ b
mark-told true = refl
mark-told false = refl

pub whole_parts : (t : Transaction) → whole_of (parts_of t) ≡ t
whole_parts t = rw (mark-told t.marked, phase-told t.phase)

-- a record with the number, the snapshot and the slot of another
pub record Stays (t t' : Transaction) : Type 0 where
  pub number : t'.number ≡ t.number
  pub snapshot : t'.snapshot ≡ t.snapshot
  pub slot : t'.slot ≡ t.slot

-- it is those with its own rest
pub whole-rest : (t t' : Transaction) → Stays t t'
    → whole_of (record { number = t.number; snapshot = t.snapshot; rest = rest_of t'; slot = t.slot }) ≡ t'
whole-rest t t' s = rw (← s.number, ← s.snapshot, ← s.slot) (whole_parts t')

module _ (t : Transaction) where
  pub here : Stays t t
  here = record { number = refl; snapshot = refl; slot = refl }

  -- where both ways out stay
  pub either : {A : Type 0} (f : A → Transaction) (b : Bool) (x y : A) → Stays t (f x) → Stays t (f y) → Stays t (f (cond b x y))
  either f true x y sx sy = sx
  either f false x y sx sy = sy

  held_stays : (lists : List ℕ) (f : Option ℕ) (b k stamp : ℕ) → Stays t (hold_of t lists f b k stamp).txn
  unfolding hold_of
  held_stays lists (Some i) b k stamp = record { number = refl; snapshot = refl; slot = refl }
  held_stays lists None b k stamp = record { number = refl; snapshot = refl; slot = refl }

  abbrev reply : Left → Transaction
  reply l = l.reply.txn

  pub capture-stays : (buckets lists : List ℕ) (n k : ℕ) → Stays t (capture_of t buckets lists n k).reply.txn
  unfolding capture_at
  capture-stays buckets lists n k =
      let b = k % n in
      let read = read_prefix lists t.slot t.reads_n b in
      either reply (not (eqb (rank (phase_view t.phase)) phase_open)) _ _ here
      (either reply t.marked _ _ here
      (either reply (taken_by (holder_of buckets b) t.number) _ _ here
      (either reply (not (precedes (stamp_of buckets b) t.number)) _ _ (record { number = refl; snapshot = refl; slot = refl })
      (either reply (too_many read t.reads_n) _ _ here (held_stays lists read b k (stamp_of buckets b))))))

  pub collect-stays : (rows buckets lists : List ℕ) (n : ℕ) → Stays t (collect_of t rows buckets lists n).reply.txn
  unfolding collect_of
  collect-stays rows buckets lists n =
      either reply (not (eqb (rank (phase_view t.phase)) phase_holding)) _ _ here (record { number = refl; snapshot = refl; slot = refl })

  pub write-stays : (lists : List ℕ) (n : ℕ) (w : Write) → Stays t (write_of t lists n w).reply.txn
  unfolding write_of
  write-stays lists n w =
      let f : LeftLists → Transaction = λ l. l.reply.txn in
      either f (not (eqb (rank (phase_view t.phase)) phase_open)) _ _ here
      (either f t.marked _ _ here
      (either f (not (ltb w.row n)) _ _ here
      (either f (leb most_writes t.writes_n) _ _ here (record { number = refl; snapshot = refl; slot = refl }))))
