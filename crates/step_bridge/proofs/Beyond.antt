-- Stores below a place leave every word from that place on: of one entry, of all that a list names, of a slot, of a posting that is moved, of a new version.
-- Assumes nothing.
use Prim.Native.Nat.{ℕ, zero, suc, ◌+◌, ◌*◌, ◌≤◌, ◌<◌}
use mathlib.Core.Path.{◌≡◌, refl, ◌∙◌}
use mathlib.Core.Bool.{Bool, true, false, cond, not}
use mathlib.Core.Logic.{inl, inr}
use mathlib.Core.List.{List, [], ◌∷◌}
use native.Mathlib.Nat.{mul-le-mul_left, mul-suc}
use native.Mathlib.Omega.{arith}
use lib.Dec.{eqb, ltb}
use lib.ListN.{length, drop}
use lib.Seq.{sets, drop-set-lt}
use Rattle.base_limits.specs.Limits.{most_live, most_writes, most_records, most_versions}
use Rattle.base_lists.proofs.TableLaws.{cond-elim}
use Rattle.base_numbers.proofs.Laws.{one_up}
use Rattle.model.specs.Store as model
use Rattle.table.specs.Words.{field, set_field, set_fields, clear_field, clear_fields, clear_every}
use Rattle.table.specs.Fields.{row_words, version_words, head_of, posted_of, set_posted, posted_key_of, later_of, set_later, first_of}
use Rattle.table.specs.Lists.{Kind, lists_words, place_of, records, stored}
use Rattle.table.specs.declared.lists.ReadRecord.{ReadRecord}
use Rattle.table.proofs.Laws.{below}
use Rattle.table.proofs.Parts.{part_field}
use Rattle.table.proofs.Stored.{Within}
use Rattle.table_postings.specs.Postings.{list_for, follow}
use Rattle.table_postings.specs.Links.{link_at, set_link, last_place, place_before, unlinked, linked, posted_to, stays_listed, taken_out, put_in, reposted}
use Rattle.table_postings.proofs.Spreading.{list-low}
use Rattle.txn.specs.declared.Transaction.{Transaction}
use Rattle.txn_needs.specs.Keys.{new_key_of}
use Rattle.read_record.specs.Recording.{put_records}
use Rattle.finish_install.specs.Install as install
use Rattle.finish_install.specs.Install.{version_stored, pushed_row, pushed_rows}
use Rattle.finish_publish.specs.Publish.{posted_one, posted_all}
use Rattle.step_bridge.proofs.Tabled.{InRange}
use Rattle.step_bridge.proofs.Pushing.{Fit, push-fit}

-- the words from place n on are the same
abbrev pub Beyond : ℕ → List ℕ → List ℕ → Type 0
Beyond n xs ys = drop n ys ≡ drop n xs

-- a run of stores
pub sets-beyond : (n : ℕ) (xs : List ℕ) (at : ℕ) (vs : List ℕ) → at + length vs ≤ n → Beyond n xs (sets xs at vs)
sets-beyond n xs at [] h = refl
sets-beyond n xs at (v ∷ vs) h = sets-beyond n _ (suc at) vs (omega arith) ∙ drop-set-lt n xs at v (omega arith)

-- one field of an entry below the size, of all that a list names, and of every entry
module _ (w k n : ℕ) (hk : k < w) where
  pub set_beyond : (xs : List ℕ) (i v : ℕ) → i < n → Beyond (w * n) xs (set_field w k xs i v)
  unfolding set_field
  set_beyond xs i v h = drop-set-lt (w * n) xs (w * i + k) v (below w i n k hk h)

  pub sets-all-beyond : (v : ℕ) (xs is : List ℕ) → InRange n is → Beyond (w * n) xs (set_fields w k xs v is)
  unfolding set_fields
  sets-all-beyond v xs [] h = refl
  sets-all-beyond v xs (i ∷ is) h = sets-all-beyond v (set_field w k xs i v) is (λ j m. h j (inr m)) ∙ set_beyond xs i v (h i (inl refl))

  clear-beyond : (xs : List ℕ) (i v : ℕ) → i < n → Beyond (w * n) xs (clear_field w k xs i v)
  clear-beyond xs i v h =
      cond-elim (λ (ys : List ℕ). Beyond (w * n) xs ys) (eqb (field w k xs i) v) (set_field w k xs i 0) xs (λ t. set_beyond xs i 0 h) (λ t. refl)

  pub clears-beyond : (v : ℕ) (xs is : List ℕ) → InRange n is → Beyond (w * n) xs (clear_fields w k xs v is)
  unfolding clear_fields
  clears-beyond v xs [] h = refl
  clears-beyond v xs (i ∷ is) h = clears-beyond v (clear_field w k xs i v) is (λ j m. h j (inr m)) ∙ clear-beyond xs i v (h i (inl refl))

  pub every-beyond : (v : ℕ) (xs : List ℕ) (m : ℕ) → m ≤ n → Beyond (w * n) xs (clear_every w k xs m v)
  unfolding clear_every
  every-beyond v xs zero h = refl
  every-beyond v xs (suc m) h = clear-beyond (clear_every w k xs m v) m v (omega arith) ∙ every-beyond v xs m (omega arith)

-- ---- the slots

-- an entry of a list of one of the eight slots
pub stored-beyond : (k : Kind) → Within k → (xs : List ℕ) (s i : ℕ) (vs : List ℕ) → length vs ≡ k.w → i < k.room → s < most_live
    → Beyond lists_words xs (stored k xs s i vs)
stored-beyond k ik xs s i vs e hi hs =
    sets-beyond lists_words xs (place_of k s i) vs (omega (arith, mul-le-mul_left {m = suc i} {n = k.room} k.w hi, mul-suc k.w i))

-- the read records of a read
pub put-beyond : (xs : List ℕ) (s n : ℕ) (rs : List ReadRecord) → s < most_live → n + length rs ≤ most_records → Beyond lists_words xs (put_records xs s n rs)
unfolding put_records
put-beyond xs s n [] hs h = refl
put-beyond xs s n (r ∷ rs) hs h =
    put-beyond (stored records xs s n (r.row ∷ r.ptr ∷ r.xmin ∷ [])) s (n + 1) rs hs (omega arith)
    ∙ stored-beyond records (omega arith) xs s n (r.row ∷ r.ptr ∷ r.xmin ∷ []) refl (omega arith) hs

-- ---- postings

-- the place before a row is no further than the row
last-low : (rows : List ℕ) (link k n p : ℕ) → p ≤ k + n → last_place p (follow rows link k n) ≤ k + n
unfolding follow last_place
last-low rows link k zero p h = h
last-low rows link k (suc n) p h =
    by (eqb link (suc k)) (last-low rows (later_of rows k) (suc k) n (suc k) (omega arith)) (last-low rows link (suc k) n p (omega arith))
  where
    by : (b : Bool) → last_place (suc k) (follow rows (later_of rows k) (suc k) n) ≤ suc k + n → last_place p (follow rows link (suc k) n) ≤ suc k + n
        → last_place p (cond b (k ∷ follow rows (later_of rows k) (suc k) n) (follow rows link (suc k) n)) ≤ k + suc n
    by true a b = omega arith
    by false a b = omega arith

before-low : (rows : List ℕ) (i r : ℕ) → place_before rows i r ≤ r
before-low rows i r = omega (arith, last-low rows (first_of rows i) 0 r 0 (omega arith))

-- the link behind a place that is no further than the rows
link-beyond : (m : ℕ) (rows : List ℕ) (i p v : ℕ) → p ≤ m → i < m → Beyond (row_words * m) rows (set_link rows i p v)
unfolding set_link
link-beyond m rows i zero v hp hi = set_beyond row_words 5 m (omega arith) rows i v hi
link-beyond m rows i (suc p) v hp hi = set_beyond row_words 4 m (omega arith) rows p v (omega arith)

module _ (m r : ℕ) (h : r < m) where
  taken-beyond : (rows : List ℕ) → Beyond (row_words * m) rows (taken_out rows m r)
  unfolding unlinked
  taken-beyond rows =
      let i = list_for m (posted_key_of rows r) in
      cond-elim (λ (y : List ℕ). Beyond (row_words * m) rows y) (eqb (posted_of rows r) 0) rows (unlinked rows i r) (λ t. refl)
      (λ t. link-beyond m rows i (place_before rows i r) (later_of rows r) (omega (arith, before-low rows i r))
      (list-low m (posted_key_of rows r) (omega arith)))

  put-in-beyond : (rows : List ℕ) (keyed key : ℕ) → Beyond (row_words * m) rows (put_in rows m r keyed key)
  unfolding linked
  put-in-beyond rows keyed key =
      let i = list_for m key in
      let p = place_before rows i r in
      let y = set_later rows r (link_at rows i p) in
      cond-elim (λ (u : List ℕ). Beyond (row_words * m) rows u) (eqb keyed 0) rows (linked rows i r) (λ t. refl)
      (λ t. link-beyond m y i p (suc r) (omega (arith, before-low rows i r)) (list-low m key (omega arith))
      ∙ set_beyond row_words 4 m (omega arith) rows r (link_at rows i p) h)

  posted-beyond : (rows : List ℕ) (keyed key : ℕ) → Beyond (row_words * m) rows (posted_to rows r keyed key)
  posted-beyond rows keyed key =
      set_beyond row_words 3 m (omega arith) (set_posted rows r keyed) r key h ∙ set_beyond row_words 2 m (omega arith) rows r keyed h

  reposted-beyond : (rows : List ℕ) (keyed key : ℕ) → Beyond (row_words * m) rows (reposted rows m r keyed key)
  unfolding reposted
  reposted-beyond rows keyed key =
      let y = taken_out rows m r in
      let u = posted_to y r keyed key in
      cond-elim (λ (v : List ℕ). Beyond (row_words * m) rows v) (not (ltb r (length rows))) rows _ (λ t. refl)
      (λ t. cond-elim (λ (v : List ℕ). Beyond (row_words * m) rows v) (stays_listed rows m r keyed key) (posted_to rows r keyed key) (put_in u m r keyed key)
      (λ t. posted-beyond rows keyed key) (λ t. put-in-beyond u keyed key ∙ (posted-beyond y keyed key ∙ taken-beyond rows)))

-- every posting of a transaction
pub posted-all-beyond : (m : ℕ) (xs : List ℕ) (t : Transaction) (rs rows : List ℕ) → InRange m rs → Beyond (row_words * m) rows (posted_all rows xs m t rs)
unfolding posted_all posted_one
posted-all-beyond m xs t [] rows h = refl
posted-all-beyond m xs t (r ∷ rs) rows h =
    let k = new_key_of xs t.slot t.writes_n r in
    posted-all-beyond m xs t rs (posted_one rows xs m t r) (λ i a. h i (inr a)) ∙ reposted-beyond m r (h r (inl refl)) rows k.keyed k.key

-- ---- install: one row's new version, and one row after another

module _ (z : model.Sizes) (small : z.versions ≤ most_versions) (xs : List ℕ) (t : Transaction) (few : t.writes_n ≤ most_writes) where
  -- six words of the new version, and one of the old head, which is a version below it or entry 0
  pushed-versions : (c : install.Chains) (r : ℕ) → r < z.rows → c.used < z.versions → Fit z c
      → Beyond (version_words * suc z.versions) c.versions (pushed_row c xs t r).versions
  unfolding pushed_row version_stored
  pushed-versions c r hr hu f =
      let m = suc z.versions in
      let p = suc c.used in
      let h = head_of c.rows r in
      let hp : p < m = omega arith in
      let hh : h < m = omega (arith, f.heads r, part_field row_words 0 z.rows c.rows r (omega arith) hr) in
      rw (one_up c.used (omega arith))
      (set_beyond version_words 1 m (omega arith) _ h t.number hh
      ∙ (set_beyond version_words 5 m (omega arith) _ p _ hp
      ∙ (set_beyond version_words 4 m (omega arith) _ p _ hp
      ∙ (set_beyond version_words 3 m (omega arith) _ p _ hp
      ∙ (set_beyond version_words 2 m (omega arith) _ p _ hp
      ∙ (set_beyond version_words 1 m (omega arith) _ p _ hp ∙ set_beyond version_words 0 m (omega arith) c.versions p t.number hp))))))

  pushed-rows : (c : install.Chains) (r : ℕ) → r < z.rows → Beyond (row_words * z.rows) c.rows (pushed_row c xs t r).rows
  unfolding pushed_row
  pushed-rows c r hr = set_beyond row_words 0 z.rows (omega arith) c.rows r _ hr

  pushed-used : (c : install.Chains) (r : ℕ) → c.used < z.versions → (pushed_row c xs t r).used ≡ suc c.used
  unfolding pushed_row
  pushed-used c r hu = one_up c.used (omega arith)

  pub all-pushed : (rs : List ℕ) (c : install.Chains) → InRange z.rows rs → c.used + length rs ≤ z.versions → Fit z c
      → Beyond (row_words * z.rows) c.rows (pushed_rows c xs t rs).rows
      × Beyond (version_words * suc z.versions) c.versions (pushed_rows c xs t rs).versions
  unfolding pushed_rows
  all-pushed [] c h u f = (refl, refl)
  all-pushed (r ∷ rs) c h u f =
      let hr = h r (inl refl) in
      let on = all-pushed rs (pushed_row c xs t r) (λ i m. h i (inr m)) (omega (arith, pushed-used c r (omega arith)))
      (push-fit z small xs t few c r hr (omega arith) f) in
      (on.0 ∙ pushed-rows c r hr, on.1 ∙ pushed-versions c r hr (omega arith) f)
