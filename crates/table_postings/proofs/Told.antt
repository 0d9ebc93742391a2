-- When the lists tell the postings: as the test of the specs has it, as a collect reads it, and as a move of a posting keeps it.
-- Assumes nothing.
use Prim.Native.Nat.{ℕ, zero, suc, ◌*◌, ◌≤◌, ◌<◌, min}
use mathlib.Core.Path.{◌≡◌, refl, sym, ap, ◌∙◌}
use mathlib.Core.Logic.{◌≢◌}
use mathlib.Core.List.{List}
use mathlib.Core.Bool.{Bool, true, false, not, ◌&&◌, true≢false}
use native.Mathlib.Decide.{ℕ_discrete}
use native.Mathlib.Omega.{arith}
use lib.Dec.{eqb, ltb}
use lib.ListN.{length}
use borrow.Author.Tests.{eqb-true, eq-eqb, ne_eqb, not-true, lt-ltb, ltb-false}
use Rattle.base_limits.specs.Limits.{most_rows}
use Rattle.base_lists.specs.Lists.{pick, every}
use Rattle.base_lists.specs.Table.{update}
use Rattle.base_lists.proofs.TableLaws.{update_same, update_other, cond-elim}
use Rattle.base_lists.proofs.ListLaws.{and_l, and_r, and_both, every-each}
use Rattle.table.specs.Words.{field}
use Rattle.table.specs.Fields.{row_words, posted_of, set_posted, posted_key_of, set_posted_key, first_of}
use Rattle.table.proofs.Laws.{field-same, field-other, entry_other, field-length, set_past}
use Rattle.table_postings.specs.Postings.{list_for, posted_with, keyed_of, listed_with}
use Rattle.table_postings.specs.Links.{link_at, posted_to, stays_listed, taken_out, put_in, reposted, in_list, last_in, named_before, ends_at, lists_tell}
use Rattle.table_postings.proofs.Spreading.{list-low}
use Rattle.table_postings.proofs.Relinking.{last, last-elim, linked-kept}
use Rattle.table_postings.proofs.Listing.{in-posted, in-which, last-in, Lists, follow-listed, keyed-pick}
use Rattle.table_postings.proofs.Moving.{LinksOnly, only_same, only_then, taken-only, posted-only, put_only, posted-link, take-lists, put-lists}

-- a posted row is named by the link behind the last row before it in its list, and the link behind a list's last row names none
pub record Told (rows : List ℕ) (row_count : ℕ) : Type 0 where
  pub named : (r : ℕ) → r < row_count → (i : ℕ) → in_list rows row_count i r ≡ true → link_at rows i (last_in rows row_count i r) ≡ suc r
  pub ended : (i : ℕ) → i < row_count → link_at rows i (last_in rows row_count i row_count) ≡ 0

-- a test that holds at each number below n holds at one
each_below : (n : ℕ) (test : ℕ → Bool) → every n test ≡ true → (i : ℕ) → i < n → test i ≡ true
unfolding every
each_below zero test e i l = absurd (omega arith)
each_below (suc n) test e i l =
    elim (ℕ_discrete i n) [ yes d ↦ rw d (and_r (every n test) (test n) e) | no d ↦ each_below n test (and_l (every n test) (test n) e) i (omega (arith, d)) ]

-- ---- the test of the specs

module _ (rows : List ℕ) (row_count : ℕ) where
  -- the test holds, so each row and each list is told
  pub tells-told : lists_tell rows row_count ≡ true → Told rows row_count
  unfolding lists_tell
  tells-told e = record {
    named = λ r h i t. named-at r i t (each_below row_count (named_before rows row_count) (and_l _ _ e) r h);
    ended = λ i h. eqb-true _ _ (each_below row_count (ends_at rows row_count) (and_r (every row_count (named_before rows row_count)) _ e) i h);
  }
    where
      named-at : (r i : ℕ) → in_list rows row_count i r ≡ true → named_before rows row_count r ≡ true
          → link_at rows i (last_in rows row_count i r) ≡ suc r
      named-at r i t e =
          let which = in-which rows row_count i r t in
          eqb-true _ _ (rw (in-posted rows row_count i r t, which) at e)

  -- each row and each list is told, so the test holds
  pub told-tells : Told rows row_count → lists_tell rows row_count ≡ true
  unfolding lists_tell
  told-tells w = and_both _ _
      (every-each row_count (named_before rows row_count) (λ r h. named-at r h (eqb (posted_of rows r) 0) refl))
      (every-each row_count (ends_at rows row_count) (λ i h. eq-eqb _ _ (w.ended i h)))
    where
      named-at : (r : ℕ) → r < row_count → (t : Bool) → eqb (posted_of rows r) 0 ≡ t → named_before rows row_count r ≡ true
      named-at r h true t = rw t
      named-at r h false t =
          let i = list_for row_count (posted_key_of rows r) in
          let e : in_list rows row_count i r ≡ true = rw t (eq-eqb i i refl) in
          rw t (eq-eqb _ _ (w.named r h i e))

-- ---- all lists

-- told row by row is told list by list
told-lists : (rows : List ℕ) (row_count : ℕ) → Told rows row_count → Lists (in_list rows row_count) rows row_count
told-lists rows row_count w i h = record {
  named = λ r l t. rw (← last-in rows row_count i r) (w.named r l i t);
  ended = rw (← last-in rows row_count i row_count) (w.ended i h);
}

-- and the other way round: the list of a posted row is one of the store's
lists-told : (rows : List ℕ) (row_count : ℕ) → Lists (in_list rows row_count) rows row_count → Told rows row_count
lists-told rows row_count w = record {
  named = λ r h i t. rw (last-in rows row_count i r) ((w i (low r h i t)).named r h t);
  ended = λ i h. rw (last-in rows row_count i row_count) (w i h).ended;
}
  where
    low : (r : ℕ) → r < row_count → (i : ℕ) → in_list rows row_count i r ≡ true → i < row_count
    low r h i t = rw (← in-which rows row_count i r t) (list-low row_count (posted_key_of rows r) (omega arith))

-- ---- what a collect reads

-- a collect keeps exactly the rows that are posted with its key, and all of them
pub listed-posted : (rows : List ℕ) (row_count : ℕ) → Told rows row_count → 1 ≤ row_count → row_count ≤ most_rows → (k : ℕ)
    → listed_with rows row_count k ≡ pick (posted_with rows k) 0 row_count
unfolding listed_with last link_at
listed-posted rows row_count w some few k =
    let i = list_for row_count k in
    let l = told-lists rows row_count w i (list-low row_count k some) in
    let all : min row_count most_rows ≡ row_count = omega arith in
    rw all (ap (λ rs. keyed_of rows k rs) (follow-listed rows i (in_list rows row_count i) row_count l row_count 0 (omega arith))
    ∙ keyed-pick rows k (in_list rows row_count i) within 0 row_count)
  where
    within : (r : ℕ) → posted_with rows k r ≡ true → in_list rows row_count (list_for row_count k) r ≡ true
    within r t =
        let e : posted_key_of rows r ≡ k = eqb-true _ _ (and_r (not (eqb (posted_of rows r) 0)) (eqb (posted_key_of rows r) k) t) in
        let posted = and_l (not (eqb (posted_of rows r) 0)) (eqb (posted_key_of rows r) k) t in
        and_both (not (eqb (posted_of rows r) 0)) _ posted (rw e (eq-eqb (list_for row_count k) (list_for row_count k) refl))

-- ---- when the lists tell as before, and when there is nothing to tell

-- postings and links as before tell as before
pub told-kept : (rows y : List ℕ) (row_count : ℕ) → ((m r : ℕ) → 2 ≤ m → m < row_words → r < row_count → field row_words m y r ≡ field row_words m rows r)
    → Told rows row_count → Told y row_count
unfolding link_at
told-kept rows y row_count same w = lists-told y row_count (λ i h.
    linked-kept (in_list rows row_count i) (in_list y row_count i) (link_at rows i) (link_at y i) row_count
    (λ r l. rw (same 2 r (omega arith) (omega arith) l, same 3 r (omega arith) (omega arith) l)) (same 5 i (omega arith) (omega arith) h)
    (λ q l t. same 4 q (omega arith) (omega arith) l) (told-lists rows row_count w i h))

-- no postings and no lists: a store that was opened anew
pub told_fresh : (rows : List ℕ) (row_count : ℕ) → ((r : ℕ) → r < row_count → (posted_of rows r ≡ 0) × (first_of rows r ≡ 0)) → Told rows row_count
unfolding link_at
told_fresh rows row_count none = record {
  named = λ r h i t. absurd (true≢false (sym t ∙ rw (none r h).0));
  ended = λ i h. rw (last-in rows row_count i row_count) (last-elim (λ p. link_at rows i p ≡ 0) (in_list rows row_count i) row_count (none i h).1
      (λ q l t. absurd (true≢false (sym t ∙ rw (none q l).0))));
}

-- ---- a posting moved

module _ (rows : List ℕ) (row_count r keyed key : ℕ) where
  -- but for the links, the posting is stored and nothing else
  moved-only : LinksOnly (posted_to rows r keyed key) (reposted rows row_count r keyed key)
  unfolding reposted
  moved-only =
      cond-elim (λ y. LinksOnly (posted_to rows r keyed key) y) (not (ltb r (length rows))) rows _ (λ e. past (ltb-false _ _ (not-true _ e)))
      (λ e. cond-elim (λ y. LinksOnly (posted_to rows r keyed key) y) (stays_listed rows row_count r keyed key) (posted_to rows r keyed key) _
      (λ e. only_same (posted_to rows r keyed key)) (λ e. only_then (posted_to rows r keyed key) (posted_to out r keyed key) _
      (posted-only rows out r keyed key (taken-only rows row_count r)) (put_only (posted_to out r keyed key) row_count r keyed key)))
    where
      out : List ℕ
      out = taken_out rows row_count r

      past : length rows ≤ r → LinksOnly (posted_to rows r keyed key) rows
      past h =
          let posted = set_past row_words 2 rows r keyed (omega arith) h in
          let both : set_posted_key (set_posted rows r keyed) r key ≡ rows = rw posted (set_past row_words 3 rows r key (omega arith) h) in
          rw both (only_same rows)

  -- the table does not grow or shrink
  pub reposted-long : length (reposted rows row_count r keyed key) ≡ length rows
  reposted-long = moved-only.long ∙ (field-length row_words 3 (set_posted rows r keyed) r key ∙ field-length row_words 2 rows r keyed)

  -- of its words the posting alone differs, and the links
  pub reposted-words : (m : ℕ) → m < 4 → field row_words m (reposted rows row_count r keyed key) ≡ field row_words m (posted_to rows r keyed key)
  reposted-words m h = moved-only.words m h

-- the rows of each list before the move, without the row, and after it
module _ (rows : List ℕ) (row_count r keyed key : ℕ) (held : row_words * row_count ≤ length rows) (low : r < row_count) where
  old : ℕ → ℕ → Bool
  old i q = in_list rows row_count i q

  without : ℕ → ℕ → Bool
  without i = update (old i) r false

  anew : ℕ → ℕ → Bool
  anew i q = in_list (posted_to rows r keyed key) row_count i q

  -- the row itself is in the list of its new key, where it has one
  anew-own : (i : ℕ) → anew i r ≡ not (eqb keyed 0) && eqb (list_for row_count key) i
  unfolding anew
  anew-own i =
      let posted = set_posted rows r keyed in
      let long : length posted ≡ length rows = field-length row_words 2 rows r keyed in
      let e : posted_of (set_posted_key posted r key) r ≡ keyed =
      field-other row_words 3 posted r key 2 (λ e. omega arith) r (omega arith) (omega arith) ∙ field-same row_words 2 rows r keyed (omega arith) in
      let f : posted_key_of (set_posted_key posted r key) r ≡ key = field-same row_words 3 posted r key (omega arith) in
      rw (e, f)

  -- any other row is where it was
  anew-other : (i q : ℕ) → q ≢ r → anew i q ≡ old i q
  unfolding anew old
  anew-other i q d =
      let posted = set_posted rows r keyed in
      let e : posted_of (set_posted_key posted r key) q ≡ posted_of rows q =
      entry_other row_words 3 posted r key 2 q (omega arith) (omega arith) d ∙ entry_other row_words 2 rows r keyed 2 q (omega arith) (omega arith) d in
      let f : posted_key_of (set_posted_key posted r key) q ≡ posted_key_of rows q =
      entry_other row_words 3 posted r key 3 q (omega arith) (omega arith) d ∙ entry_other row_words 2 rows r keyed 3 q (omega arith) (omega arith) d in
      rw (e, f)

  -- without the row it is in no list, and the others are where they were
  without-own : (i : ℕ) → without i r ≡ false
  unfolding without
  without-own i = update_same (old i) r false

  without_other : (i q : ℕ) → q ≢ r → without i q ≡ old i q
  unfolding without
  without_other i q d = update_other (old i) r false q d

  -- no row is in two lists
  one_list : (i c q : ℕ) → without i q ≡ true → without c q ≡ true → i ≡ c
  unfolding old
  one_list i c q s t = elim (ℕ_discrete q r) [
    | yes e ↦ absurd (true≢false (sym s ∙ (rw e (without-own i))))
    | no d ↦
        sym (in-which rows row_count i q (sym (without_other i q d) ∙ s)) ∙ in-which rows row_count c q (sym (without_other c q d) ∙ t)
  ]

  -- the row stays in its list
  stay-lists : stays_listed rows row_count r keyed key ≡ true → Lists old rows row_count
      → Lists anew (posted_to rows r keyed key) row_count
  unfolding old
  stay-lists s l i h =
      linked-kept (old i) (anew i) (link_at rows i) (link_at (posted_to rows r keyed key) i) row_count (λ q k. same q (ℕ_discrete q r))
      (posted-link rows r keyed key i 0) (λ q k t. posted-link rows r keyed key i (suc q)) (l i h)
    where
      was : not (eqb (posted_of rows r) 0) && not (eqb keyed 0) ≡ true
      was = and_l _ (eqb (list_for row_count (posted_key_of rows r)) (list_for row_count key)) s

      list : list_for row_count (posted_key_of rows r) ≡ list_for row_count key
      list = eqb-true _ _ (and_r (not (eqb (posted_of rows r) 0) && not (eqb keyed 0)) _ s)

      same : (q : ℕ) → Dec (q ≡ r) → anew i q ≡ old i q
      same q (no d) = anew-other i q d
      same q (yes e) =
          rw (
            e,
            anew-own i,
            and_r (not (eqb (posted_of rows r) 0)) (not (eqb keyed 0)) was,
            and_l (not (eqb (posted_of rows r) 0)) (not (eqb keyed 0)) was,
            list,
          )

  -- the row goes out of its list
  out-lists : Lists old rows row_count → Lists without (taken_out rows row_count r) row_count
  unfolding old
  out-lists l =
      let i = list_for row_count (posted_key_of rows r) in
      cond-elim (λ y. Lists without y row_count) (eqb (posted_of rows r) 0) rows _ (λ e i h.
      linked-kept (old i) (without i) (link_at rows i) (link_at rows i) row_count (λ q k. absent e i q (ℕ_discrete q r)) refl (λ q k t. refl) (l i h))
      (λ e. take-lists old without r row_count low (λ c q d. sym (without_other c q d)) without-own one_list
      i (rw e (eq-eqb i i refl)) (λ c d. rw e (ne_eqb i c (λ f. d (sym f))))
      rows (list-low row_count (posted_key_of rows r) (omega arith)) held l)
    where
      absent : eqb (posted_of rows r) 0 ≡ true → (i q : ℕ) → Dec (q ≡ r) → without i q ≡ old i q
      absent e i q (yes d) = rw (d, without-own i, e)
      absent e i q (no d) = without_other i q d

  -- its posting is stored, and it goes into the list of its new key
  in-lists : (y : List ℕ) → length y ≡ length rows → Lists without y row_count
      → Lists anew (put_in y row_count r keyed key) row_count
  in-lists y e l =
      let i = list_for row_count key in
      cond-elim (λ z. Lists anew z row_count) (eqb keyed 0) y _ (λ z i h.
      linked-kept (without i) (anew i) (link_at y i) (link_at y i) row_count (λ q k. absent z i q (ℕ_discrete q r)) refl (λ q k t. refl) (l i h))
      (λ z. put-lists anew without r row_count low (λ c q d. anew-other c q d ∙ sym (without_other c q d)) without-own one_list
      i (anew-own i ∙ rw z (eq-eqb i i refl)) (λ c d. anew-own c ∙ rw z (ne_eqb i c (λ g. d (sym g))))
      y (list-low row_count key (omega arith)) (omega arith) l)
    where
      absent : eqb keyed 0 ≡ true → (i q : ℕ) → Dec (q ≡ r) → anew i q ≡ without i q
      absent z i q (yes d) = rw (d, anew-own i, without-own i, z)
      absent z i q (no d) = anew-other i q d ∙ sym (without_other i q d)

  -- so all lists tell the rows with the new posting
  moved_lists : Lists old rows row_count → Lists anew (reposted rows row_count r keyed key) row_count
  unfolding reposted
  moved_lists l =
      rw (lt-ltb r (length rows) (omega arith)) (
      cond-elim (λ y. Lists anew y row_count) (stays_listed rows row_count r keyed key) (posted_to rows r keyed key) _ (λ s. stay-lists s l)
      (λ s. in-lists posted (field-length row_words 3 (set_posted out r keyed) r key ∙ (field-length row_words 2 out r keyed
      ∙ (taken-only rows row_count r).long)) (λ i h.
      linked-kept (without i) (without i) (link_at out i) (link_at posted i) row_count (λ q k. refl) (posted-link out r keyed key i 0)
      (λ q k t. posted-link out r keyed key i (suc q)) (out-lists l i h)))
      )
    where
      out : List ℕ
      out = taken_out rows row_count r

      posted : List ℕ
      posted = posted_to out r keyed key

-- a posting moved leaves the lists telling the postings
pub told-reposted : (rows : List ℕ) (row_count r keyed key : ℕ) → row_words * row_count ≤ length rows → r < row_count → Told rows row_count
    → Told (reposted rows row_count r keyed key) row_count
unfolding old anew
told-reposted rows row_count r keyed key held low w =
    let y = reposted rows row_count r keyed key in
    let l = moved_lists rows row_count r keyed key held low (told-lists rows row_count w) in
    lists-told y row_count (λ i h.
    linked-kept (in_list (posted_to rows r keyed key) row_count i) (in_list y row_count i) (link_at y i) (link_at y i) row_count
    (λ q k. rw (reposted-words rows row_count r keyed key 2 (omega arith), reposted-words rows row_count r keyed key 3 (omega arith))) refl
    (λ q k t. refl) (l i h))
