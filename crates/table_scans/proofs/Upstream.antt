-- Each clause that upstream ensures of the four scans, as a fact about their definitions.
-- Assumes nothing.
use Prim.Native.Nat.{ℕ, zero, suc, ◌<◌, min}
use mathlib.Core.Path.{◌≡◌, refl, sym, ◌∙◌}
use mathlib.Core.List.{List, map}
use mathlib.Core.Bool.{true}
use mathlib.Core.Logic.{◌≢◌, ◌↔◌}
use native.Mathlib.Omega.{arith}
use lib.ListN.{length, get_or, take, length-take, get_or-map}
use lib.Seq.{get_or-take}
use Rattle.std.specs.Prelude.{Some, None}
use Rattle.base_limits.specs.Limits.{most_index_reads, most_writes, most_records}
use Rattle.base_lists.specs.Lists.{member}
use Rattle.table.specs.declared.lists.Write.{Write}
use Rattle.table.specs.Lists.{Kind, reads, writes, records, read_of, write_of, record_of, entry_at, list_at, read_at, write_at, record_at, writes_of}
use Rattle.table_scans.specs.Scans.{first_place, last_below, last_place, rows_written, is_active, latest_pending, already_recorded, read_prefix}
use Rattle.table_scans.specs.Upstream.{no_write, last_write}
use Rattle.table_scans.proofs.Laws.{fields-length, fields_at}
use Rattle.table_scans.proofs.Places.{first-at, first-none, last-at, last_none, absent-last, member-present, present-member}

-- `active_contains`: r == active@.contains(id)
pub active-contains-ensures : (active : List ℕ) (n id : ℕ) → (is_active active n id ≡ true) ↔ ((i : ℕ) × (i < min n (length active)) × (get_or active i 0 ≡ id))
active-contains-ensures active n id = (
  λ m. let p = member-present (take n active) id m in
      let h : p.0 < min n (length active) = rw length-take at p.1 in
      let k : p.0 < n = omega arith in
      (p.0, h, sym (get_or-take n active p.0 0 k) ∙ p.2),
  λ p. let k : p.0 < n = omega (arith, p.1) in
      present-member (take n active) id (p.0, rw length-take p.1, get_or-take n active p.0 0 k ∙ p.2),
)

-- a field of the entries of a slot's list: its first place, its last, none, and whether it has one
module _ {A : Type 0} (g : A → ℕ) (f : List ℕ → A) (k : Kind) (xs : List ℕ) (s n x : ℕ) where
  fields-first-at : (i : ℕ) → first_place (map g (list_at f k xs s n)) x ≡ Some i
      → (i < n) × (g (entry_at f k xs s i) ≡ x) × ((j : ℕ) → j < i → g (entry_at f k xs s j) ≢ x)
  fields-first-at i e =
      let a = first-at (map g (list_at f k xs s n)) x i e in
      let h : i < n = omega (arith, a.below, fields-length g f k xs s n) in
      (h, sym (fields_at g f k xs s n i h) ∙ a.holds, λ j l q. a.before j l (fields_at g f k xs s n j (omega arith) ∙ q))

  fields-first-none : first_place (map g (list_at f k xs s n)) x ≡ None → (j : ℕ) → j < n → g (entry_at f k xs s j) ≢ x
  fields-first-none e j h q = first-none (map g (list_at f k xs s n)) x e j (omega (arith, fields-length g f k xs s n)) (fields_at g f k xs s n j h ∙ q)

  fields-last-at : (i : ℕ) → last_place (map g (list_at f k xs s n)) x ≡ Some i
      → (i < n) × (g (entry_at f k xs s i) ≡ x) × ((j : ℕ) → i < j → j < n → g (entry_at f k xs s j) ≢ x)
  fields-last-at i e =
      let a = last-at (map g (list_at f k xs s n)) x n i (rw (fields-length g f k xs s n) at e) in
      (a.below, sym (fields_at g f k xs s n i a.below) ∙ a.holds, λ j l h q. a.after j l h (fields_at g f k xs s n j h ∙ q))

  fields-last-none : (last_place (map g (list_at f k xs s n)) x ≡ None) ↔ ((j : ℕ) → j < n → g (entry_at f k xs s j) ≢ x)
  fields-last-none = (
    λ e j h q. last_none (map g (list_at f k xs s n)) x n (rw (fields-length g f k xs s n) at e) j h (fields_at g f k xs s n j h ∙ q),
    λ a. rw (fields-length g f k xs s n) (absent-last (map g (list_at f k xs s n)) x n (λ j h q. a j h (sym (fields_at g f k xs s n j h) ∙ q))),
  )

  fields-member : (member x (map g (list_at f k xs s n)) ≡ true) ↔ ((i : ℕ) × (i < n) × (g (entry_at f k xs s i) ≡ x))
  fields-member = (
    λ m. let p = member-present (map g (list_at f k xs s n)) x m in
        let h : p.0 < n = omega (arith, p.1, fields-length g f k xs s n) in
        (p.0, h, sym (fields_at g f k xs s n p.0 h) ∙ p.2),
    λ p. present-member (map g (list_at f k xs s n)) x (p.0, omega (arith, p.1, fields-length g f k xs s n), fields_at g f k xs s n p.0 p.1 ∙ p.2),
  )

module _ (lists : List ℕ) (slot n : ℕ) where
  -- `latest_pending`: r.is_some() ==> r.unwrap().row_id == row_id && writes@.contains(r.unwrap()), and no later write has the row
  pub latest-pending-some : (row i : ℕ) → latest_pending lists slot n row ≡ Some i
      → (i < min n most_writes) × ((write_at lists slot i).row ≡ row) × ((j : ℕ) → i < j → j < min n most_writes → (write_at lists slot j).row ≢ row)
  latest-pending-some row i e = fields-last-at (λ w. w.row) write_of writes lists slot (min n most_writes) row i e

  -- none exactly where no write has the row
  pub latest-pending-none : (row : ℕ) → (latest_pending lists slot n row ≡ None) ↔ ((j : ℕ) → j < min n most_writes → (write_at lists slot j).row ≢ row)
  latest-pending-none row = fields-last-none (λ w. w.row) write_of writes lists slot (min n most_writes) row

  -- `read_already_recorded`: found <==> exists|i| 0 <= i < reads.len() && reads[i].row_ptr == ptr
  pub read-already-recorded-ensures : (ptr : ℕ) → (already_recorded lists slot n ptr ≡ true)
      ↔ ((i : ℕ) × (i < min n most_records) × ((record_at lists slot i).ptr ≡ ptr))
  read-already-recorded-ensures ptr = fields-member (λ r. r.ptr) record_of records lists slot (min n most_records) ptr

  -- `find_read_prefix`: r.is_some() ==> exists|i| 0 <= i < prior_len && reads[i] == r.unwrap() && bucket, and forall|j| 0 <= j < i ==> another bucket
  pub find-read-prefix-some : (bucket i : ℕ) → read_prefix lists slot n bucket ≡ Some i
      → (i < min n most_index_reads) × ((read_at lists slot i).bucket ≡ bucket) × ((j : ℕ) → j < i → (read_at lists slot j).bucket ≢ bucket)
  find-read-prefix-some bucket i e = fields-first-at (λ r. r.bucket) read_of reads lists slot (min n most_index_reads) bucket i e

  -- r.is_none() ==> forall|i| 0 <= i < prior_len ==> another bucket
  pub find-read-prefix-none : (bucket : ℕ) → read_prefix lists slot n bucket ≡ None → (j : ℕ) → j < min n most_index_reads
      → (read_at lists slot j).bucket ≢ bucket
  find-read-prefix-none bucket e j h = fields-first-none (λ r. r.bucket) read_of reads lists slot (min n most_index_reads) bucket e j h

-- `latest_pending` is upstream's `last_write` over all the writes: some where it is some, and the same
last-write-below : (ws : List Write) (id n : ℕ) → last_below (rows_written ws) id n ≡ last_write ws id n
unfolding last_below last_write
last-write-below ws id zero = refl
last-write-below ws id (suc n) = rw (get_or-map (λ w. w.row) ws n no_write, last-write-below ws id n)

pub latest-pending-last-write : (lists : List ℕ) (slot n row : ℕ)
    → latest_pending lists slot n row ≡ last_write (writes_of lists slot (min n most_writes)) row (min n most_writes)
latest-pending-last-write lists slot n row =
    rw (fields-length (λ w. w.row) write_of writes lists slot (min n most_writes))
    (last-write-below (writes_of lists slot (min n most_writes)) row (min n most_writes))
