-- A row goes out of a list and into one, in the words: which links change, and that the lists tell their rows again.
-- Assumes nothing.
use Prim.Native.Nat.{ℕ, zero, suc, ◌+◌, ◌*◌, ◌≤◌, ◌<◌}
use mathlib.Core.Path.{◌≡◌, refl, sym, ap, ◌∙◌}
use mathlib.Core.Logic.{◌≢◌}
use mathlib.Core.Bool.{Bool, true, false, true≢false}
use mathlib.Core.List.{List}
use native.Mathlib.Decide.{ℕ_discrete, dec_lt}
use native.Mathlib.Omega.{arith}
use lib.Dec.{eqb}
use lib.ListN.{length}
use lib.Seq.{set_out}
use Rattle.base_lists.proofs.TableLaws.{cond-elim}
use Rattle.table.specs.Words.{field, set_field}
use Rattle.table.specs.Fields.{row_words, posted_of, set_posted, posted_key_of, later_of, set_later}
use Rattle.table.proofs.Laws.{field-same, field-other, entry_other, field-update, field-kept, field-length}
use Rattle.table_postings.specs.Postings.{list_for}
use Rattle.table_postings.specs.Links.{link_at, set_link, place_before, unlinked, linked, posted_to, taken_out, put_in}
use Rattle.table_postings.proofs.Relinking.{last, last-low, last-listed, last-same, Linked, linked-kept, taken, put}
use Rattle.table_postings.proofs.Listing.{Lists, place-last}

-- ---- the words that are no links

-- two tables differ in their links only
pub record LinksOnly (rows other : List ℕ) : Type 0 where
  pub long : length other ≡ length rows
  pub words : (m : ℕ) → m < 4 → field row_words m other ≡ field row_words m rows

-- in nothing; and in one step after another
pub only_same : (rows : List ℕ) → LinksOnly rows rows
only_same rows = record { long = refl; words = λ m h. refl }

pub only_then : (x y z : List ℕ) → LinksOnly x y → LinksOnly y z → LinksOnly x z
only_then x y z p q = record { long = q.long ∙ p.long; words = λ m h. q.words m h ∙ p.words m h }

-- a row's own link stored
later-only : (rows : List ℕ) (r v : ℕ) → LinksOnly rows (set_later rows r v)
later-only rows r v = record {
  long = field-length row_words 4 rows r v;
  words = λ m h. field-kept row_words 4 rows r v m (omega arith) (omega arith) (λ e. omega arith);
}

-- the link behind a place stored
set-link-only : (rows : List ℕ) (i p v : ℕ) → LinksOnly rows (set_link rows i p v)
unfolding set_link
set-link-only rows i zero v = record {
  long = field-length row_words 5 rows i v;
  words = λ m h. field-kept row_words 5 rows i v m (omega arith) (omega arith) (λ e. omega arith);
}
set-link-only rows i (suc q) v = later-only rows q v

-- a row taken out of a list, or put into one
pub taken-only : (rows : List ℕ) (row_count r : ℕ) → LinksOnly rows (taken_out rows row_count r)
unfolding unlinked
taken-only rows row_count r =
    let i = list_for row_count (posted_key_of rows r) in
    cond-elim (λ y. LinksOnly rows y) (eqb (posted_of rows r) 0) rows (unlinked rows i r) (λ e. only_same rows)
    (λ e. set-link-only rows i (place_before rows i r) (later_of rows r))

pub put_only : (rows : List ℕ) (row_count r keyed key : ℕ) → LinksOnly rows (put_in rows row_count r keyed key)
unfolding linked
put_only rows row_count r keyed key =
    let i = list_for row_count key in
    let p = place_before rows i r in
    let y : List ℕ = set_later rows r (link_at rows i p) in
    cond-elim (λ y. LinksOnly rows y) (eqb keyed 0) rows (linked rows i r) (λ e. only_same rows)
    (λ e. only_then rows y (set_link y i p (suc r)) (later-only rows r (link_at rows i p)) (set-link-only y i p (suc r)))

-- a store to tables with the same field leaves the same
set_same : (w m k : ℕ) (xs ys : List ℕ) (i v : ℕ) → m < w → k < w → length xs ≡ length ys → field w m xs ≡ field w m ys
    → field w m (set_field w k xs i v) ≡ field w m (set_field w k ys i v)
unfolding set_field
set_same w m k xs ys i v hm hk long e = by (ℕ_discrete m k)
  where
    own : field w k xs ≡ field w k ys → Dec (w * i + k < length xs) → field w k (set_field w k xs i v) ≡ field w k (set_field w k ys i v)
    own e (yes h) = rw (field-update w k xs i v hk h, field-update w k ys i v hk (omega arith), e)
    own e (no h) = rw (set_out xs (w * i + k) v (omega (arith, h)), set_out ys (w * i + k) v (omega (arith, h))) e

    by : Dec (m ≡ k) → field w m (set_field w k xs i v) ≡ field w m (set_field w k ys i v)
    by (yes d) = rw d (own (rw d at e) (dec_lt (w * i + k) (length xs)))
    by (no d) = field-kept w k xs i v m hm hk d ∙ (e ∙ sym (field-kept w k ys i v m hm hk d))

-- the posting of a row stored in both
pub posted-only : (x y : List ℕ) (r keyed key : ℕ) → LinksOnly x y → LinksOnly (posted_to x r keyed key) (posted_to y r keyed key)
posted-only x y r keyed key p =
    let us = set_posted y r keyed in
    let vs = set_posted x r keyed in
    let long : length us ≡ length vs = field-length row_words 2 y r keyed ∙ (p.long ∙ sym (field-length row_words 2 x r keyed)) in
    record {
      long = field-length row_words 3 us r key ∙ (long ∙ sym (field-length row_words 3 vs r key));
      words = λ m h. set_same row_words m 3 us vs r key (omega arith) (omega arith) long
          (set_same row_words m 2 y x r keyed (omega arith) (omega arith) p.long (p.words m h));
    }

-- ---- the links

-- a posting is no link
unposted : (rows : List ℕ) (r keyed key m q : ℕ) → 3 < m → m < row_words → field row_words m (posted_to rows r keyed key) q ≡ field row_words m rows q
unposted rows r keyed key m q h u =
    field-other row_words 3 (set_posted rows r keyed) r key m (λ e. omega arith) q (omega arith) (omega arith)
    ∙ field-other row_words 2 rows r keyed m (λ e. omega arith) q (omega arith) (omega arith)

pub posted-link : (rows : List ℕ) (r keyed key i p : ℕ) → link_at (posted_to rows r keyed key) i p ≡ link_at rows i p
unfolding link_at
posted-link rows r keyed key i zero = unposted rows r keyed key 5 i (omega arith) (omega arith)
posted-link rows r keyed key i (suc q) = unposted rows r keyed key 4 q (omega arith) (omega arith)

-- the link behind a place stored: it is what was stored, where there is room for it
set-link-same : (rows : List ℕ) (i p v row_count : ℕ) → i < row_count → p ≤ row_count → row_words * row_count ≤ length rows
    → link_at (set_link rows i p v) i p ≡ v
unfolding link_at set_link
set-link-same rows i zero v row_count k l h = field-same row_words 5 rows i v (omega arith)
set-link-same rows i (suc q) v row_count k l h = field-same row_words 4 rows q v (omega arith)

-- that behind another place is as it was
set-link-other : (rows : List ℕ) (i p v j q : ℕ) → q ≢ p → link_at (set_link rows i p v) j q ≡ link_at rows j q
unfolding link_at set_link
set-link-other rows i zero v j zero d = absurd (d refl)
set-link-other rows i zero v j (suc q) d = field-other row_words 5 rows i v 4 (λ e. omega arith) q (omega arith) (omega arith)
set-link-other rows i (suc p) v j zero d = field-other row_words 4 rows p v 5 (λ e. omega arith) j (omega arith) (omega arith)
set-link-other rows i (suc p) v j (suc q) d = entry_other row_words 4 rows p v 4 q (omega arith) (omega arith) (λ e. d (ap suc e))

-- so is that behind the same place of another list, which is a place of its own at 0 only
set-link-list : (rows : List ℕ) (i p v j : ℕ) → j ≢ i → link_at (set_link rows i p v) j 0 ≡ link_at rows j 0
unfolding link_at set_link
set-link-list rows i zero v j d = entry_other row_words 5 rows i v 5 j (omega arith) (omega arith) d
set-link-list rows i (suc p) v j d = field-other row_words 4 rows p v 5 (λ e. omega arith) j (omega arith) (omega arith)

-- a row's own link stored: behind any other place the link is as it was
later-other : (rows : List ℕ) (r v j q : ℕ) → q ≢ suc r → link_at (set_later rows r v) j q ≡ link_at rows j q
unfolding link_at set_link
later-other rows r v j q d = set-link-other rows j (suc r) v j q d

-- ---- a row goes out, and in

-- within: the rows of each list; without: the same but for one row, of list i, which is in none
module _ (within without : ℕ → ℕ → Bool) (row most : ℕ) (low : row < most) (same : (c q : ℕ) → q ≢ row → within c q ≡ without c q)
    (gone : (c : ℕ) → without c row ≡ false) (apart : (c d q : ℕ) → without c q ≡ true → without d q ≡ true → c ≡ d)
    (i : ℕ) (stands : within i row ≡ true) (alone : (c : ℕ) → c ≢ i → within c row ≡ false) where
  -- in another list the rows are the same
  elsewhere : (c : ℕ) → c ≢ i → (q : ℕ) → within c q ≡ without c q
  elsewhere c d q = elim (ℕ_discrete q row) [ yes e ↦ rw e (alone c d ∙ sym (gone c)) | no n ↦ same c q n ]

  -- and so are its links, where only those behind the row's place in i and behind the row itself differ
  others : (rows y : List ℕ) → ((c q : ℕ) → q ≢ last (without i) row → q ≢ suc row → link_at y c q ≡ link_at rows c q)
      → ((c : ℕ) → c ≢ i → link_at y c 0 ≡ link_at rows c 0) → (c : ℕ) → c ≢ i
      → Linked (without c) (link_at rows c) most → Linked (without c) (link_at y c) most
  others rows y later first c d l =
      linked-kept (without c) (without c) (link_at rows c) (link_at y c) most (λ q h. refl) (first c d)
      (λ q h t. later c (suc q) (λ e. d (apart c i q t (last-listed (without i) row q (sym e)))) (λ e. differs q t (omega arith))) l
    where
      differs : (q : ℕ) → without c q ≡ true → q ≢ row
      differs q t e = true≢false (sym t ∙ (rw e (gone c)))

  module _ (rows : List ℕ) (in_range : i < most) (held : row_words * most ≤ length rows) where
    -- the row taken out
    pub take-lists : Lists within rows most → Lists without (unlinked rows i row) most
    unfolding unlinked link_at
    take-lists l c h = elim (ℕ_discrete c i) [
      | yes e ↦ rw e (taken (within i) (without i) (link_at rows i) (link_at y i) row most low stands (gone i) (same i) over kept (l i in_range))
      | no d ↦ others rows y (λ c q n m. set-link-other rows i place own c q (λ e. n (e ∙ at))) (set-link-list rows i place own) c d
          (linked-kept (within c) (without c) (link_at rows c) (link_at rows c) most (λ q k. sym (elsewhere c d q)) refl (λ q k t. refl) (l c h))
    ]
      where
        place : ℕ
        place = place_before rows i row

        own : ℕ
        own = later_of rows row

        y : List ℕ
        y = set_link rows i place own

        at : place ≡ last (without i) row
        at = place-last rows i (within i) most (l i in_range) row (omega arith) ∙ last-same (within i) (without i) row (λ q k. same i q (λ e. omega arith))

        over : link_at y i (last (without i) row) ≡ link_at rows i (suc row)
        over = rw (← at) (set-link-same rows i place own most in_range (omega (arith, at, last-low (without i) row)) held)

        kept : (p : ℕ) → p ≢ last (without i) row → p ≢ suc row → link_at y i p ≡ link_at rows i p
        kept p n m = set-link-other rows i place own i p (λ e. n (e ∙ at))

    -- the row put in
    pub put-lists : Lists without rows most → Lists within (linked rows i row) most
    unfolding linked link_at
    put-lists l c h = elim (ℕ_discrete c i) [
      | yes e ↦ rw e (put (within i) (without i) (link_at z i) (link_at rows i) row most low stands (gone i) (same i) over
          (λ p n m. sym (kept i p n m)) names (l i in_range))
      | no d ↦ linked-kept (without c) (within c) (link_at z c) (link_at z c) most (λ q k. elsewhere c d q) refl (λ q k t. refl)
          (others rows z kept (λ c d. set-link-list y i place (suc row) c d ∙ later-other rows row old c 0 (λ e. omega arith)) c d (l c h))
    ]
      where
        place : ℕ
        place = place_before rows i row

        old : ℕ
        old = link_at rows i place

        y : List ℕ
        y = set_later rows row old

        z : List ℕ
        z = set_link y i place (suc row)

        at : place ≡ last (without i) row
        at = place-last rows i (without i) most (l i in_range) row (omega arith)

        long : row_words * most ≤ length y
        long = rw (field-length row_words 4 rows row old) held

        names : link_at z i (last (without i) row) ≡ suc row
        names = rw (← at) (set-link-same y i place (suc row) most in_range (omega (arith, at, last-low (without i) row)) long)

        over : link_at rows i (last (without i) row) ≡ link_at z i (suc row)
        over = rw (← at) (sym (set-link-other y i place (suc row) i (suc row) (λ e. omega (arith, at, last-low (without i) row))
            ∙ field-same row_words 4 rows row old (omega arith)))

        kept : (c p : ℕ) → p ≢ last (without i) row → p ≢ suc row → link_at z c p ≡ link_at rows c p
        kept c p n m = set-link-other y i place (suc row) c p (λ e. n (e ∙ at)) ∙ later-other rows row old c p m
