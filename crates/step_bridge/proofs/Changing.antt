-- After install: a pending row's old key stands behind its head, what changed is stamped, and all that the number holds is listed.
-- Assumes nothing.
use Prim.Native.Nat.{ℕ, ◌≤◌, ◌<◌}
use mathlib.Core.Path.{◌≡◌, refl, sym, ap, ◌∙◌}
use mathlib.Core.Bool.{Bool, true, false, cond, not}
use mathlib.Core.Logic.{inl, inr, ⊎_elim}
use mathlib.Core.List.{List, [], ◌∷◌, ◌++◌}
use native.Mathlib.Omega.{arith}
use lib.Dec.{leb}
use lib.ListN.{length}
use borrow.Author.Tests.{leb-true, le-leb, eqb-true, eq-eqb}
use Rattle.base_lists.specs.Lists.{join, Among}
use Rattle.base_lists.proofs.ListLaws.{and_l, and_r, among-left, among-right, among_cases, join-which, which-join}
use Rattle.model.specs.Store.{bucket_in, rank, phase_installed, same_key}
use Rattle.model.specs.Steps.{key_before, new_key, key_buckets, read_buckets, changed_buckets, pending_rows, made_rows, headed_by}
use Rattle.model.specs.Holding.{Made, needs, Wants}
use Rattle.model.proofs.Made.{made-writes, made-head, which-made}
use Rattle.model.proofs.Written.{posted-either}
use Rattle.model.proofs.Good.{Good, right-shape}
use Rattle.table.specs.Fields as fields
use Rattle.txn.specs.View.{phase_view}
use Rattle.txn_needs.specs.Keys as words
use Rattle.txn_needs.specs.declared.Keys.{Keys}
use Rattle.txn_needs.specs.Keys.{key_of, old_key_of, new_key_of, is_installed, keys_of, no_keys, same_keys, changed_keys}
use Rattle.txn_needs.specs.Needs.{buckets_for, keys_need, reads_need, written_by, write_changes}
use Rattle.step.specs.Words.{Words, view, txn_at, Sized}
use Rattle.step_bridge.proofs.Shaped.{Shaped, shaped, count-pos}
use Rattle.step_bridge.proofs.Places.{sized-at}
use Rattle.step_bridge.proofs.Judging.{reads-need}
use Rattle.step_bridge.proofs.Tabled.{InRange}
use Rattle.step_bridge.proofs.Keyed.{new-key-same}
use Rattle.step_bridge.proofs.Headed.{head-same, version-field, version-key, headed-same}
use Rattle.step_bridge.proofs.Needing.{key-buckets, row_needs, listed_needs, headed, row_in, row-pending, pending-row}
use Rattle.step_bridge.proofs.Aborting.{join-few, needs-few, needs-in, writes-few}

-- the rows that the words write, and what they stamp for one
abbrev pub rows_of : Words → ℕ → List ℕ
rows_of w p = written_by w.tables.lists (txn_at w p)

abbrev pub row_changes : Words → ℕ → ℕ → List ℕ
row_changes w p r = write_changes w.tables.rows w.tables.versions w.tables.lists w.sizes.buckets (txn_at w p) r

-- none of no keys
changed-needs : (count : ℕ) (k : Keys) (b : Bool) → keys_need count (cond b no_keys k) ≡ cond b [] (keys_need count k)
unfolding keys_need buckets_for
changed-needs count k true = refl
changed-needs count k false = refl

-- r is a pending row that got a version
abbrev Got : Words → ℕ → ℕ → Type 0
Got w p r = Made (view w).sizes (view w).chains ((view w).txns p) r

-- the buckets that a row stamps
abbrev changes : Words → ℕ → ℕ → List ℕ
changes w p r = cond (same_key (key_before (view w).chains r) (new_key ((view w).txns p) r)) []
    (key_buckets (view w).sizes (key_before (view w).chains r) ++ key_buckets (view w).sizes (new_key ((view w).txns p) r))

abbrev got_rows : Words → ℕ → List ℕ
got_rows w p = made_rows (view w).sizes (view w).chains (txn_at w p).number ((view w).txns p).writes

module _ (w : Words) (z : Sized w) (g : Shaped w) (p : ℕ) (l : 1 ≤ (txn_at w p).number) (k : is_installed (txn_at w p).phase ≡ true) where
  got-row : (r : ℕ) → Got w p r → Among r (rows_of w p)
  got-row r m = pending-row w z g p r (made-writes (view w).sizes (view w).chains ((view w).txns p) r m)

  -- headed by a version of the transaction
  row-headed : (r : ℕ) → r < w.sizes.rows → words.headed_by w.tables.rows w.tables.versions (txn_at w p).number r
      ≡ headed_by (view w).chains (txn_at w p).number r
  row-headed r h = headed-same (view w).sizes w.tables.rows w.tables.versions w.used (headed w z g) (txn_at w p).number r h

  -- the key behind the head
  before_same : (r : ℕ) → Got w p r → key_of (old_key_of w.tables.rows w.tables.versions true r) ≡ key_before (view w).chains r
  unfolding old_key_of
  before_same r m =
      let h = row_in w z g p l r (got-row r m) in
      let c = (view w).chains in
      let q = c.head r in
      let u = g.heads-in r in
      let next : fields.next_of w.tables.versions q ≡ c.next q =
      sym (version-field (view w).sizes w.tables.rows w.tables.versions w.used (headed w z g) 2 q (omega arith) u) in
      rw (head-same (view w).sizes w.tables.rows w.tables.versions w.used (headed w z g) r h, next)
      (version-key (view w).sizes w.tables.rows w.tables.versions w.used (headed w z g) (c.next q)
      (omega (arith, g.next-falls q (made-head (view w).sizes c ((view w).txns p) r m).0 u)))

  after-needs : (r : ℕ) → Got w p r → row_needs w p r ≡ key_buckets (view w).sizes (key_before (view w).chains r)
      ++ key_buckets (view w).sizes (new_key ((view w).txns p) r)
  unfolding keys_need keys_of
  after-needs r m =
      let a = key-buckets (view w).sizes (old_key_of w.tables.rows w.tables.versions true r) in
      let b = key-buckets (view w).sizes (new_key_of w.tables.lists (txn_at w p).slot (txn_at w p).writes_n r) in
      rw (k, ← a, ← b, before_same r m, new-key-same w.tables.lists (txn_at w p) (sized-at w z p).writes r)

  after_same : (r : ℕ) → Got w p r → same_keys (keys_of w.tables.rows w.tables.versions w.tables.lists (txn_at w p) r)
      ≡ same_key (key_before (view w).chains r) (new_key ((view w).txns p) r)
  unfolding keys_of
  after_same r m = rw (k, before_same r m, new-key-same w.tables.lists (txn_at w p) (sized-at w z p).writes r)

  got-headed : (r : ℕ) → Got w p r → headed_by (view w).chains (txn_at w p).number r ≡ true
  unfolding headed_by
  got-headed r m = let o = made-head (view w).sizes (view w).chains ((view w).txns p) r m in rw (le-leb 1 _ o.0, eq-eqb _ _ o.1)

  after-changes : (r : ℕ) → Got w p r → row_changes w p r ≡ changes w p r
  unfolding changed_keys
  after-changes r m =
      let keys = keys_of w.tables.rows w.tables.versions w.tables.lists (txn_at w p) r in
      rw (row-headed r (row_in w z g p l r (got-row r m)), got-headed r m)
      (changed-needs w.sizes.buckets keys (same_keys keys) ∙ (ap (λ (b : Bool). cond b [] (row_needs w p r)) (after_same r m)
      ∙ ap (λ (bs : List ℕ). cond (same_key (key_before (view w).chains r) (new_key ((view w).txns p) r)) [] bs) (after-needs r m)))

  -- a row that stamps got a version
  change-got : (r b : ℕ) → Among r (rows_of w p) → Among b (row_changes w p r) → Got w p r
  unfolding changed_keys keys_need buckets_for headed_by
  change-got r b a m = go (headed_by (view w).chains (txn_at w p).number r) refl (rw (row-headed r (row_in w z g p l r a)) at m)
    where
      keys : Keys
      keys = keys_of w.tables.rows w.tables.versions w.tables.lists (txn_at w p) r

      go : (h : Bool) → headed_by (view w).chains (txn_at w p).number r ≡ h
          → Among b (keys_need w.sizes.buckets (cond (not h) no_keys (cond (same_keys keys) no_keys keys))) → Got w p r
      go true e o = which-made (view w).sizes (view w).chains ((view w).txns p) r (row-pending w z g p l r a)
          (leb-true 1 ((view w).chains.head r) (and_l (leb 1 ((view w).chains.head r)) _ e)) (eqb-true _ _ (and_r (leb 1 ((view w).chains.head r)) _ e))
      go false e o = absurd o

  -- the stamped buckets are those that changed
  pub changed-to : (b : ℕ) → Among b (join (row_changes w p) (rows_of w p)) → Among b (changed_buckets (view w) ((view w).txns p))
  unfolding changed_buckets
  changed-to b m =
      let o = join-which (row_changes w p) (rows_of w p) b m in
      let d = change-got o.0 b o.1 o.2 in
      which-join (changes w p) (got_rows w p) b o.0 d (rw (after-changes o.0 d) at o.2)

  pub changed-back : (b : ℕ) → Among b (changed_buckets (view w) ((view w).txns p)) → Among b (join (row_changes w p) (rows_of w p))
  unfolding changed_buckets
  changed-back b m =
      let o = join-which (changes w p) (got_rows w p) b m in
      which-join (row_changes w p) (rows_of w p) b o.0 (got-row o.0 o.1) (rw (after-changes o.0 o.1) o.2)

module _ (w : Words) (z : Sized w) (g : Good (view w)) (p : ℕ) (l : 1 ≤ (txn_at w p).number) (k : phase_installed ≤ rank (phase_view (txn_at w p).phase)) where
  abbrev sh : Shaped w
  sh = shaped w z (right-shape (view w) g)

  abbrev done : is_installed (txn_at w p).phase ≡ true
  done = le-leb phase_installed _ k

  -- all that the number holds is listed
  pub held-listed : (b : ℕ) → (view w).held.holder b ≡ (txn_at w p).number → Among b (bucket_in (phase_view (txn_at w p).phase) ∷ listed_needs w p)
  unfolding needs key_buckets
  held-listed b e = by (g.holders.buckets.owner b (λ q. omega (arith, q)))
    where
      row_wants : ℕ → List ℕ
      row_wants r = key_buckets (view w).sizes ((view w).index.posted r) ++ key_buckets (view w).sizes (new_key ((view w).txns p) r)

      -- a row that erases nothing wants no bucket
      row_listed : (r : ℕ) → Among r (pending_rows (view w).sizes ((view w).txns p).writes) → Among b (row_wants r)
          → Among b (join (row_needs w p) (rows_of w p))
      row_listed r a m = ⊎_elim
          (λ d. which-join (row_needs w p) (rows_of w p) b r (got-row w z sh p l done r d)
          (rw (after-needs w z sh p l done r d, (g.written.mine p r l k d).before) m))
          (λ q. absurd (rw (q.1, q.0.1) at m))
          (posted-either (view w) g.numbers g.holders g.written p r l k a)

      rows-listed : Among b (join row_wants (pending_rows (view w).sizes ((view w).txns p).writes)) → Among b (join (row_needs w p) (rows_of w p))
      rows-listed m = let o = join-which row_wants (pending_rows (view w).sizes ((view w).txns p).writes) b m in row_listed o.0 o.1 o.2

      wanted : Wants (view w).sizes (view w).index.posted ((view w).txns p) b → Among b (bucket_in (phase_view (txn_at w p).phase) ∷ listed_needs w p)
      wanted (inl h) = inl (sym (ap bucket_in h.1))
      wanted (inr h) = inr (⊎_elim
          (λ a. among-left b (reads_need w.tables.lists (txn_at w p)) _ (rw (reads-need w.tables.lists (txn_at w p)) at a))
          (λ a. among-right b (reads_need w.tables.lists (txn_at w p)) _ (rows-listed a))
          (among_cases b (read_buckets ((view w).txns p))
          (join (λ r. key_buckets (view w).sizes ((view w).index.posted r) ++ key_buckets (view w).sizes (new_key ((view w).txns p) r))
          (pending_rows (view w).sizes ((view w).txns p).writes)) h.1))

      by : (j : ℕ) × ((view w).held.holder b ≡ ((view w).txns j).number) × Wants (view w).sizes (view w).index.posted ((view w).txns j) b
          → Among b (bucket_in (phase_view (txn_at w p).phase) ∷ listed_needs w p)
      by o = wanted (rw (g.numbers.distinct p o.0 l (sym e ∙ o.1)) o.2)

module _ (w : Words) (p : ℕ) where
  -- the keys that stamp
  abbrev keys_changed : ℕ → Keys
  keys_changed r = changed_keys w.tables.rows w.tables.versions w.tables.lists (txn_at w p) r

  -- what is stamped fits in the words for it, and is in range
  pub changes-few : Sized w → length (join (row_changes w p) (rows_of w p)) ≤ 48
  changes-few z = omega (
    arith,
    join-few (row_changes w p) (rows_of w p) (λ r. needs-few w.sizes.buckets (keys_changed r)),
    writes-few w p,
    (sized-at w z p).writes,
  )

  pub changes-in : Shaped w → InRange w.sizes.buckets (join (row_changes w p) (rows_of w p))
  changes-in g b m = let o = join-which (row_changes w p) (rows_of w p) b m in needs-in w.sizes.buckets (keys_changed o.0) (count-pos w g) b o.2
