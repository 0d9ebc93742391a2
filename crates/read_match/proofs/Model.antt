-- The words' matching rule is the model's, in every store that shows the words.
-- Assumes nothing.
use Prim.Native.Nat.{ℕ, zero, suc, ◌+◌, ◌≤◌, ◌<◌, ◌/◌, min}
use mathlib.Core.Path.{◌≡◌, refl, sym, ◌∙◌}
use mathlib.Core.Bool.{Bool, true, false, cond, not, ◌&&◌, ◌||◌, and-false, false≢true}
use mathlib.Core.Logic.{◌≢◌}
use mathlib.Core.Option.{Option, none, some}
use mathlib.Core.List.{List, [], ◌∷◌, ◌++◌, map, map-append}
use native.Mathlib.Numerals.{add-one}
use native.Mathlib.Decide.{ℕ_discrete}
use native.Mathlib.Omega.{arith}
use borrow.Author.Tests.{ne_eqb, lt-ltb, le-leb, leb-true}
use lib.Dec.{eqb, ltb, leb}
use lib.ListN.{length}
use Rattle.std.specs.Prelude.{Option as StdOption, Some, None}
use Rattle.base_limits.specs.Limits.{most_writes}
use Rattle.base_lists.proofs.ListLaws.{and_l}
use Rattle.model.specs.Store.{Chains, same_key}
use Rattle.model.specs.Store as model
use Rattle.model.specs.Seeing.{seen, visible, known, walk, key_at, version_of, last_write_from, last_write, pending, written_key, shown_key, matches}
use Rattle.model.specs.Seeing as seeing
use Rattle.table.specs.Words.{field}
use Rattle.table.proofs.Parts.{part_field}
use Rattle.table.specs.Fields.{row_words, version_words, head_of, xmin_of, xmax_of, next_of, keyed_of, key_of}
use Rattle.table.specs.Regions.{list_of}
use Rattle.table.specs.Lists.{writes, write_of, start_of, write_at, writes_of}
use Rattle.table.proofs.Spans.{list-next}
use Rattle.table_scans.specs.Scans.{last_below, rows_written, latest_pending}
use Rattle.table_scans.proofs.Laws.{fields-length, fields-last, last_end}
use Rattle.table_scans.proofs.Places.{is_place}
use Rattle.table_chain.specs.Chain.{active_of, visible_to, first_visible}
use Rattle.table_chain.specs.declared.Snapshot.{Snapshot}
use Rattle.table_chain.proofs.Laws.{first-visible-step, first-visible-answered}
use Rattle.txn.specs.declared.Transaction.{Transaction}
use Rattle.txn.specs.View.{key_view, rows_part, versions_part, chains_view, snapshot_view, write_view, writes_in, txn_view}
use Rattle.read_match.specs.declared.Match.{Match}
use Rattle.read_match.specs.declared.Match.TheVariants.{No, Version}
use Rattle.read_match.specs.declared.Match.TheVariants as how
use Rattle.read_match.specs.Matching.{Look, carries, by_version, match_by, match_of, is_match, through_of}

-- the chains of a store of n rows show the words: the same versions up to the last used, each next below its own pointer, and the same heads
pub record Shows (c : Chains) (n : ℕ) (rows versions : List ℕ) (used : ℕ) : Type 0 where
  pub used-same : c.used ≡ used
  pub whole : used < length versions / version_words
  pub heads-in : (r : ℕ) → r < n → c.head r ≤ c.used
  pub head-same : (r : ℕ) → r < n → c.head r ≡ head_of rows r
  pub falls : (p : ℕ) → 1 ≤ p → p ≤ c.used → c.next p < p
  pub xmin-same : (p : ℕ) → 1 ≤ p → p ≤ c.used → c.xmin p ≡ xmin_of versions p
  pub xmax-same : (p : ℕ) → 1 ≤ p → p ≤ c.used → c.xmax p ≡ xmax_of versions p
  pub next-same : (p : ℕ) → 1 ≤ p → p ≤ c.used → c.next p ≡ next_of versions p
  pub key-same : (p : ℕ) → 1 ≤ p → p ≤ c.used → c.key p ≡ key_view (keyed_of versions p) (key_of versions p)

-- the parts of the tables that a store's sizes name show the whole tables
pub shows-parts : (z : model.Sizes) (rows versions : List ℕ) (used : ℕ) → used ≤ z.versions → z.versions < length versions / version_words
    → ((r : ℕ) → r < z.rows → head_of rows r ≤ used) → ((p : ℕ) → 1 ≤ p → p ≤ used → next_of versions p < p)
    → Shows (chains_view (rows_part z rows) (versions_part z versions) used) z.rows rows versions used
shows-parts z rows versions used few whole heads down =
    let part : (k : ℕ) → k < version_words → (p : ℕ) → p ≤ used → field version_words k (versions_part z versions) p ≡ field version_words k versions p =
    λ k h p u. part_field version_words k (suc z.versions) versions p h (omega arith) in
    let head : (r : ℕ) → r < z.rows → head_of (rows_part z rows) r ≡ head_of rows r = λ r h. part_field row_words 0 z.rows rows r (omega arith) h in
    record {
      used-same = refl;
      whole = omega arith;
      heads-in = λ r h. rw (head r h) (heads r h);
      head-same = head;
      falls = λ p l u. rw (part 2 (omega arith) p u) (down p l u);
      xmin-same = λ p l u. part 0 (omega arith) p u;
      xmax-same = λ p l u. part 1 (omega arith) p u;
      next-same = λ p l u. part 2 (omega arith) p u;
      key-same = λ p l u. rw (part 3 (omega arith) p u, part 4 (omega arith) p u);
    }

-- a pointer as the model has it: 0 for none
abbrev pub number_of : StdOption ℕ → ℕ
number_of (Some p) = p
number_of None = 0

-- ---- the walk
module _ (c : Chains) (n : ℕ) (rows versions : List ℕ) (used : ℕ) (g : Shows c n rows versions used) (s : Snapshot) where
  visible-same : (p : ℕ) → 1 ≤ p → p ≤ c.used → visible c (snapshot_view s) p ≡ visible_to (active_of s) s.xmax (xmin_of versions p) (xmax_of versions p)
  unfolding visible seen
  visible-same p l u = rw (g.xmin-same p l u, g.xmax-same p l u)

  none_at_zero : first_visible versions used s 0 ≡ None
  none_at_zero = rw (first-visible-step versions used s 0, and-false)

  walk-at-zero : (f : ℕ) → walk c (snapshot_view s) f 0 ≡ 0
  unfolding walk known
  walk-at-zero zero = refl
  walk-at-zero (suc f) = refl

  walk-by : (f p : ℕ) (v : Bool) → visible_to (active_of s) s.xmax (xmin_of versions p) (xmax_of versions p) ≡ v → 1 ≤ p → p ≤ c.used
      → number_of (first_visible versions used s (next_of versions p)) ≡ walk c (snapshot_view s) f (c.next p)
      → number_of (first_visible versions used s p) ≡ walk c (snapshot_view s) (suc f) p
  unfolding walk known
  walk-by f p v ev l u rest =
      let low : leb p used ≡ true = le-leb p used (omega (arith, g.used-same)) in
      let in_table : ltb p (length versions / version_words) ≡ true = lt-ltb p (length versions / version_words) (omega (arith, g.used-same, g.whole)) in
      let some-p : eqb p 0 ≡ false = ne_eqb p 0 (omega arith) in
      let down : ltb (next_of versions p) p ≡ true = lt-ltb (next_of versions p) p (omega (arith, g.falls p l u, g.next-same p l u)) in
      rw (first-visible-step versions used s p, low, in_table, some-p, lt-ltb 0 p l, le-leb p c.used u, visible-same p l u, ev, down) (by v)
    where
      by : (v : Bool)
          → number_of (cond v (Some p) (first_visible versions used s (next_of versions p))) ≡ cond v p (walk c (snapshot_view s) f (c.next p))
      by true = refl
      by false = rest

  walk_same : (f p : ℕ) → p ≤ f → p ≤ c.used → number_of (first_visible versions used s p) ≡ walk c (snapshot_view s) f p
  walk_same zero p h u = let z : p ≡ 0 = omega arith in rw (z, none_at_zero, walk-at-zero 0)
  walk_same (suc f) p h u = elim (ℕ_discrete p 0) [
    | yes z ↦ rw (z, none_at_zero, walk-at-zero (suc f))
    | no d ↦ let l : 1 ≤ p = omega arith in
        let down = g.falls p l u in
        walk-by f p _ refl l u (rw (← g.next-same p l u) (walk_same f (c.next p) (omega arith) (omega arith)))
  ]

  -- the version of a row that the snapshot sees
  pub version-same : (r : ℕ) → r < n → number_of (first_visible versions used s (head_of rows r)) ≡ version_of c (snapshot_view s) r
  unfolding seeing.first_visible
  version-same r h = rw (← g.head-same r h) (walk_same (c.head r) (c.head r) (omega arith) (g.heads-in r h))

-- ---- the last pending write of a row
-- the write at an answered place, as the model has it
abbrev written_by : List ℕ → ℕ → StdOption ℕ → Option model.Write
written_by lists slot (Some i) = some (write_view (write_at lists slot i))
written_by lists slot None = none

last_snoc : (so : Option model.Write) (ws : List model.Write) (w : model.Write) (r : ℕ)
    → last_write_from so (ws ++ (w ∷ [])) r ≡ cond (eqb w.row r) (some w) (last_write_from so ws r)
unfolding last_write_from
last_snoc so [] w r = refl
last_snoc so (v ∷ ws) w r = last_snoc (cond (eqb v.row r) (some v) so) ws w r

pending-snoc : (ws : List model.Write) (w : model.Write) (r : ℕ) → pending (ws ++ (w ∷ [])) r ≡ (eqb w.row r || pending ws r)
unfolding pending
pending-snoc [] w r = refl
pending-snoc (v ∷ ws) w r = rw (pending-snoc ws w r) (swap (eqb v.row r) (eqb w.row r) (pending ws r))
  where
    swap : (a b d : Bool) → (a || (b || d)) ≡ (b || (a || d))
    swap true true d = refl
    swap true false d = refl
    swap false true d = refl
    swap false false d = refl

module _ (lists : List ℕ) (slot n r : ℕ) where
  write-next : (i : ℕ) → map write_view (writes_of lists slot (i + 1)) ≡ map write_view (writes_of lists slot i) ++ (write_view (write_at lists slot i) ∷ [])
  write-next i = rw (list-next write_of writes.w (start_of writes slot) lists i, map-append)

  place-next : (i : ℕ) → i < n
      → last_below (rows_written (writes_of lists slot n)) r (i + 1) ≡ cond (eqb (write_at lists slot i).row r) (Some i)
      (last_below (rows_written (writes_of lists slot n)) r i)
  place-next i h = fields-last (λ w. w.row) write_of writes lists slot n i (write_at lists slot i).row r refl h

  none_written : ◌≡◌ {A = List model.Write} (map write_view (writes_of lists slot 0)) []
  unfolding list_of
  none_written = refl

  last-of-none : last_write [] r ≡ none
  unfolding last_write_from
  last-of-none = refl

  pending-of-none : pending [] r ≡ false
  unfolding pending
  pending-of-none = refl

  -- of the first i writes the last of the row, and whether there is one
  last-upto : (i : ℕ) → i ≤ n
      → last_write (map write_view (writes_of lists slot i)) r ≡ written_by lists slot (last_below (rows_written (writes_of lists slot n)) r i)
  last-upto zero h = rw (none_written, last_end (rows_written (writes_of lists slot n)) r) last-of-none
  last-upto (suc i) h =
      rw (
        ← add-one i,
        write-next i,
        last_snoc none (map write_view (writes_of lists slot i)) (write_view (write_at lists slot i)) r,
        place-next i h,
        last-upto i (omega arith),
      )
      (by (eqb (write_at lists slot i).row r) (last_below (rows_written (writes_of lists slot n)) r i))
    where
      by : (b : Bool) (f : StdOption ℕ)
          → cond b (some (write_view (write_at lists slot i))) (written_by lists slot f) ≡ written_by lists slot (cond b (Some i) f)
      by true f = refl
      by false f = refl

  pending-upto : (i : ℕ) → i ≤ n → pending (map write_view (writes_of lists slot i)) r ≡ is_place (last_below (rows_written (writes_of lists slot n)) r i)
  pending-upto zero h = rw (none_written, last_end (rows_written (writes_of lists slot n)) r) pending-of-none
  pending-upto (suc i) h =
      rw (
        ← add-one i,
        write-next i,
        pending-snoc (map write_view (writes_of lists slot i)) (write_view (write_at lists slot i)) r,
        place-next i h,
        pending-upto i (omega arith),
      )
      (by (eqb (write_at lists slot i).row r) (last_below (rows_written (writes_of lists slot n)) r i))
    where
      by : (b : Bool) (f : StdOption ℕ) → (b || is_place f) ≡ is_place (cond b (Some i) f)
      by true f = refl
      by false f = refl

module _ (lists : List ℕ) (t : Transaction) (few : t.writes_n ≤ most_writes) (r : ℕ) where
  latest-is : latest_pending lists t.slot t.writes_n r ≡ last_below (rows_written (writes_of lists t.slot t.writes_n)) r t.writes_n
  latest-is = let m : min t.writes_n most_writes ≡ t.writes_n = omega arith in
      rw (m, fields-length (λ w. w.row) write_of writes lists t.slot t.writes_n)

  pub pending-same : pending (writes_in lists t) r ≡ is_place (latest_pending lists t.slot t.writes_n r)
  pending-same = rw latest-is (pending-upto lists t.slot t.writes_n r t.writes_n (omega arith))

  pub last-same : last_write (writes_in lists t) r ≡ written_by lists t.slot (latest_pending lists t.slot t.writes_n r)
  last-same = rw latest-is (last-upto lists t.slot t.writes_n r t.writes_n (omega arith))

-- ---- the matching rule
-- a key that is shown is the key wanted
carries_same : (keyed key k : ℕ) → same_key (key_view keyed key) (some k) ≡ carries keyed key k
unfolding same_key
carries_same keyed key k = by (eqb keyed 0)
  where
    by : (b : Bool) → same_key (cond b none (some key)) (some k) ≡ (not b && eqb key k)
    by true = refl
    by false = refl

-- a match where the test holds, and none else
match-if : (b : Bool) (m : Match) → is_match m ≡ true → b ≡ is_match (cond b m No)
match-if true m e = sym e
match-if false m e = refl

write-through : (b : Bool) → through_of (cond b how.Write No) ≡ 0
write-through true = refl
write-through false = refl

version-through : (versions : List ℕ) (k : ℕ) (f : StdOption ℕ) → is_match (by_version versions k f) ≡ true → through_of (by_version versions k f) ≡ number_of f
version-through versions k (Some p) = by (carries (keyed_of versions p) (key_of versions p) k)
  where
    by : (b : Bool) → is_match (cond b (Version p) No) ≡ true → through_of (cond b (Version p) No) ≡ p
    by true e = refl
    by false e = absurd (false≢true e)
version-through versions k None = λ e. refl

module _ (c : Chains) (n : ℕ) (l : Look) (g : Shows c n l.rows l.versions l.reading.used) (few : l.reading.txn.writes_n ≤ most_writes)
    (r : ℕ) (h : r < n) where
  abbrev txn : model.Txn
  txn = txn_view l.lists l.reading.txn

  pointer-by : (f : StdOption ℕ) → first_visible l.versions l.reading.used l.reading.txn.snapshot (head_of l.rows r) ≡ f
      → same_key (key_at c (number_of f)) (some l.reading.key) ≡ is_match (by_version l.versions l.reading.key f)
  unfolding key_at same_key
  pointer-by (Some p) e =
      let a = first-visible-answered l.versions l.reading.used l.reading.txn.snapshot (head_of l.rows r) p e in
      let d : p ≢ 0 = a.some in
      let u : p ≤ c.used = omega (arith, g.used-same, leb-true p l.reading.used (and_l (leb p l.reading.used) _ a.is_known)) in
      rw (ne_eqb p 0 d, g.key-same p (omega (arith, d)) u) (carries_same (keyed_of l.versions p) (key_of l.versions p) l.reading.key
      ∙ match-if (carries (keyed_of l.versions p) (key_of l.versions p) l.reading.key) (Version p) refl)
  pointer-by None e = refl

  match-by : (f : StdOption ℕ) → latest_pending l.lists l.reading.txn.slot l.reading.txn.writes_n r ≡ f
      → matches c txn l.reading.key r ≡ is_match (match_by l r f)
  unfolding matches shown_key written_key
  match-by (Some i) e =
      rw (
        pending-same l.lists l.reading.txn few r,
        last-same l.lists l.reading.txn few r,
        e,
        carries_same (write_at l.lists l.reading.txn.slot i).keyed (write_at l.lists l.reading.txn.slot i).key l.reading.key,
      )
      (match-if (carries (write_at l.lists l.reading.txn.slot i).keyed (write_at l.lists l.reading.txn.slot i).key l.reading.key)
      how.Write refl)
  match-by None e =
      rw (pending-same l.lists l.reading.txn few r, e, ← version-same c n l.rows l.versions l.reading.used g l.reading.txn.snapshot r h)
      (pointer-by _ refl)

  -- the row matches in the model where it does in the words
  pub matches-same : matches c (txn_view l.lists l.reading.txn) l.reading.key r ≡ is_match (match_of l r)
  unfolding match_of
  matches-same = match-by _ refl

  through-by : (f : StdOption ℕ) → latest_pending l.lists l.reading.txn.slot l.reading.txn.writes_n r ≡ f → is_match (match_by l r f) ≡ true
      → through_of (match_by l r f) ≡ cond (pending (writes_in l.lists l.reading.txn) r) 0 (version_of c (snapshot_view l.reading.txn.snapshot) r)
  through-by (Some i) e m =
      rw (pending-same l.lists l.reading.txn few r, e)
      (write-through (carries (write_at l.lists l.reading.txn.slot i).keyed (write_at l.lists l.reading.txn.slot i).key l.reading.key))
  through-by None e m =
      rw (pending-same l.lists l.reading.txn few r, e, ← version-same c n l.rows l.versions l.reading.used g l.reading.txn.snapshot r h)
      (version-through l.versions l.reading.key (first_visible l.versions l.reading.used l.reading.txn.snapshot (head_of l.rows r)) m)

  -- and there the pointer it is matched through is the model's version; 0 where the row has a pending write
  pub through_same : is_match (match_of l r) ≡ true
      → through_of (match_of l r) ≡ cond (pending (writes_in l.lists l.reading.txn) r) 0 (version_of c (snapshot_view l.reading.txn.snapshot) r)
  unfolding match_of
  through_same m = through-by _ refl m
