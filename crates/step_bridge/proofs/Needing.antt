-- The buckets that a transaction needs and the rows that it writes: the words list the same as the model names.
-- Assumes nothing.
use Prim.Native.Nat.{ℕ, ◌%◌, ◌≤◌, ◌<◌}
use mathlib.Core.Path.{◌≡◌, refl, sym, ap, ◌∙◌, fun_ext}
use mathlib.Core.Bool.{Bool, true, false, cond}
use mathlib.Core.Logic.{inl, inr, ⊎_elim}
use mathlib.Core.Option.{none, some}
use mathlib.Core.List.{List, [], ◌∷◌, ◌++◌, map}
use native.Mathlib.Omega.{arith}
use lib.Dec.{eqb}
use borrow.Author.Tests.{eq-eqb}
use Rattle.base_limits.specs.Limits.{most_buckets}
use Rattle.base_lists.specs.Lists.{member, join, Among}
use Rattle.base_lists.specs.Table.{update_all}
use Rattle.base_lists.proofs.ListLaws.{among-left, among-right, among_cases, among-map, map-among, join-which, which-join, member-among, among-member}
use Rattle.base_lists.proofs.ListLaws.{same_test, or_left, or_right, pick-which}
use Rattle.model.specs.Store as model
use Rattle.model.specs.Store.{bucket_of}
use Rattle.model.specs.Seeing.{pending}
use Rattle.model.specs.Steps.{pending_rows, old_key, new_key, key_buckets, read_buckets, needed_buckets}
use Rattle.model.proofs.Ranges.{good-sized}
use Rattle.model.proofs.SeeingLaws.{which-pendingRows, pending-which}
use Rattle.table.specs.Fields.{row_words}
use Rattle.table.specs.Lists as lists
use Rattle.table.specs.declared.lists.Write.{Write}
use Rattle.table.proofs.Parts.{part_field}
use Rattle.txn.specs.View.{write_view}
use Rattle.txn_needs.specs.declared.Key.{Key}
use Rattle.txn_needs.specs.Keys.{key_of, old_key_of, new_key_of, is_installed, keys_of}
use Rattle.txn_needs.specs.Needs.{buckets_for, keys_need, reads_need, rows_written, written_by, write_needs}
use Rattle.step.specs.Words.{Words, view, txn_at, Sized}
use Rattle.step_bridge.proofs.Shaped.{Shaped}
use Rattle.step_bridge.proofs.Places.{sized-at}
use Rattle.step_bridge.proofs.Headed.{Headed, WritesIn, old-key-same}
use Rattle.step_bridge.proofs.Judging.{reads-need}
use Rattle.step_bridge.proofs.Keyed.{new-key-same}

-- lists with the same entries take the same entries
pub all_same : (f : ℕ → ℕ) (is js : List ℕ) (v : ℕ) → ((j : ℕ) → Among j is → Among j js) → ((j : ℕ) → Among j js → Among j is)
    → update_all f is v ≡ update_all f js v
unfolding update_all
all_same f is js v to back =
    fun_ext λ j. ap (λ (b : Bool). cond b v (f j))
    (same_test (member j is) (member j js) (λ e. among-member j js (to j (member-among j is e))) (λ e. among-member j is (back j (member-among j js e))))

-- a write's row is pending
among-pending : (ws : List model.Write) (x : model.Write) → Among x ws → pending ws x.row ≡ true
unfolding pending
among-pending (y ∷ ws) x (inl e) = or_left _ _ (eq-eqb y.row x.row (ap (λ (v : model.Write). v.row) (sym e)))
among-pending (y ∷ ws) x (inr m) = or_right (eqb y.row x.row) _ (among-pending ws x m)
among-pending [] x x3 = elim x3 [ ]

-- the rows of a slot's pending writes are the pending rows
module _ (xs : List ℕ) (s n : ℕ) (z : model.Sizes) (r : ℕ) where
  pub written-pending : r < z.rows → Among r (rows_written xs s n) → Among r (pending_rows z (map write_view (lists.writes_of xs s n)))
  written-pending h m =
      let ws = lists.writes_of xs s n in
      let a = map-among (λ (x : Write). x.row) ws r m in
      which-pendingRows z (map write_view ws) r h (rw a.2 (among-pending (map write_view ws) (write_view a.0) (among-map write_view ws a.0 a.1)))

  pub pending-written : Among r (pending_rows z (map write_view (lists.writes_of xs s n))) → Among r (rows_written xs s n)
  unfolding pending_rows
  pending-written m =
      let ws = lists.writes_of xs s n in
      let a = pending-which (map write_view ws) r (pick-which (pending (map write_view ws)) 0 z.rows r m).2 in
      let b = map-among write_view ws a.0 a.1 in
      let e : r ≡ b.0.row = sym a.2 ∙ ap (λ (x : model.Write). x.row) b.2 in
      rw e (among-map (λ (x : Write). x.row) ws b.0 b.1)

-- the bucket of a key
pub key-buckets : (z : model.Sizes) (k : Key) → key_buckets z (key_of k) ≡ buckets_for z.buckets k
unfolding key_buckets buckets_for bucket_of
key-buckets z k = by (eqb k.keyed 0)
  where
    by : (b : Bool) → key_buckets z (cond b none (some k.key)) ≡ cond b [] ((k.key % z.buckets) ∷ [])
    by true = refl
    by false = refl

-- the buckets that the words list for a pending row, and for the index reads and every pending row
abbrev pub row_needs : Words → ℕ → ℕ → List ℕ
row_needs w p r = write_needs w.tables.rows w.tables.versions w.tables.lists w.sizes.buckets (txn_at w p) r

abbrev pub listed_needs : Words → ℕ → List ℕ
listed_needs w p = reads_need w.tables.lists (txn_at w p) ++ join (row_needs w p) (written_by w.tables.lists (txn_at w p))

module _ (w : Words) (z : Sized w) (g : Shaped w) where
  -- heads and pointers are in the parts that the sizes name
  pub headed : Headed (view w).sizes w.tables.rows w.used
  headed = record {
    room = omega (arith, g.versions-left);
    heads = λ r h. rw (part_field row_words 0 w.sizes.rows w.tables.rows r (omega arith) h) at
        (g.heads-in r);
  }

  pub rows-most : w.sizes.rows ≤ most_buckets
  rows-most = omega (arith, (good-sized (view w).sizes g.sizes).rows-most)

  -- what is needed for one pending row, before install
  pub row-needs : (p r : ℕ) → is_installed (txn_at w p).phase ≡ false → r < w.sizes.rows
      → row_needs w p r ≡ key_buckets (view w).sizes (old_key (view w).chains r) ++ key_buckets (view w).sizes (new_key ((view w).txns p) r)
  unfolding keys_need keys_of
  row-needs p r k h =
      let a = key-buckets (view w).sizes (old_key_of w.tables.rows w.tables.versions false r) in
      let b = key-buckets (view w).sizes (new_key_of w.tables.lists (txn_at w p).slot (txn_at w p).writes_n r) in
      rw (
        k,
        ← a,
        ← b,
        old-key-same (view w).sizes w.tables.rows w.tables.versions w.used headed r h,
        new-key-same w.tables.lists (txn_at w p) (sized-at w z p).writes r,
      )

  -- the rows of the pending writes are the pending rows
  pub row_in : (p : ℕ) → 1 ≤ (txn_at w p).number → (r : ℕ) → Among r (written_by w.tables.lists (txn_at w p))
      → r < w.sizes.rows
  row_in p l r m =
      let ws = lists.writes_of w.tables.lists (txn_at w p).slot (txn_at w p).writes_n in
      let a = map-among (λ (x : Write). x.row) ws r m in
      rw a.2 ((g.in-store p l).writes-in (write_view a.0) (among-map write_view ws a.0 a.1))

  pub writes-in : (p : ℕ) → 1 ≤ (txn_at w p).number → WritesIn (view w).sizes w.tables.lists (txn_at w p)
  writes-in p l = record { few = (sized-at w z p).writes; below = row_in p l }

  pub row-pending : (p : ℕ) → 1 ≤ (txn_at w p).number → (r : ℕ) → Among r (written_by w.tables.lists (txn_at w p))
      → Among r (pending_rows (view w).sizes ((view w).txns p).writes)
  row-pending p l r m = written-pending w.tables.lists (txn_at w p).slot (txn_at w p).writes_n (view w).sizes r (row_in p l r m) m

  pub pending-row : (p r : ℕ) → Among r (pending_rows (view w).sizes ((view w).txns p).writes)
      → Among r (written_by w.tables.lists (txn_at w p))
  pending-row p r m = pending-written w.tables.lists (txn_at w p).slot (txn_at w p).writes_n (view w).sizes r m

  -- they are those that the model needs
  pub needed-listed : (p : ℕ) → 1 ≤ (txn_at w p).number → is_installed (txn_at w p).phase ≡ false → (b : ℕ)
      → Among b (needed_buckets (view w) ((view w).txns p)) → Among b (listed_needs w p)
  unfolding needed_buckets
  needed-listed p l k b m = ⊎_elim
      (λ n. among-left b (reads_need w.tables.lists (txn_at w p)) _ (rw (reads-need w.tables.lists (txn_at w p)) at n))
      (λ n.
      let a = join-which (λ r. key_buckets (view w).sizes (old_key (view w).chains r) ++ key_buckets (view w).sizes (new_key ((view w).txns p) r))
      (pending_rows (view w).sizes ((view w).txns p).writes) b n in
      let r = pending-row p a.0 a.1 in
      among-right b (reads_need w.tables.lists (txn_at w p)) _
      (which-join (row_needs w p) (written_by w.tables.lists (txn_at w p)) b a.0 r (rw (row-needs p a.0 k (row_in p l a.0 r)) a.2)))
      (among_cases b (read_buckets ((view w).txns p))
      (join (λ r. key_buckets (view w).sizes (old_key (view w).chains r) ++ key_buckets (view w).sizes (new_key ((view w).txns p) r))
      (pending_rows (view w).sizes ((view w).txns p).writes)) m)

  pub listed-needed : (p : ℕ) → 1 ≤ (txn_at w p).number → is_installed (txn_at w p).phase ≡ false → (b : ℕ)
      → Among b (listed_needs w p) → Among b (needed_buckets (view w) ((view w).txns p))
  unfolding needed_buckets
  listed-needed p l k b m = ⊎_elim
      (λ n. among-left b (read_buckets ((view w).txns p)) _ (rw (reads-need w.tables.lists (txn_at w p)) n))
      (λ n.
      let a = join-which (row_needs w p) (written_by w.tables.lists (txn_at w p)) b n in
      among-right b (read_buckets ((view w).txns p)) _
      (which-join (λ r. key_buckets (view w).sizes (old_key (view w).chains r) ++ key_buckets (view w).sizes (new_key ((view w).txns p) r))
      (pending_rows (view w).sizes ((view w).txns p).writes) b a.0 (row-pending p l a.0 a.1)
      (rw (row-needs p a.0 k (row_in p l a.0 a.1)) at a.2)))
      (among_cases b (reads_need w.tables.lists (txn_at w p)) (join (row_needs w p) (written_by w.tables.lists (txn_at w p))) m)
