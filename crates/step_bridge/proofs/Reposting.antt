-- Postings that follow the new keys, row after row: the model's `repost`; and the lists go with them.
-- Assumes nothing.
use Prim.Native.Nat.{ℕ, ◌*◌, ◌≤◌, ◌<◌}
use mathlib.Core.Path.{◌≡◌, refl, ap, ◌∙◌, fun_ext}
use mathlib.Core.Bool.{Bool, true, false, cond, ◌||◌}
use mathlib.Core.Logic.{inl, inr}
use mathlib.Core.Option.{Option}
use mathlib.Core.List.{List, [], ◌∷◌}
use native.Mathlib.Decide.{ℕ_discrete}
use native.Mathlib.Omega.{arith}
use lib.Dec.{eqb}
use lib.ListN.{length}
use borrow.Author.Tests.{eq-eqb, ne_eqb}
use Rattle.base_lists.specs.Lists.{member}
use Rattle.base_lists.specs.Table.{update}
use Rattle.base_lists.proofs.TableLaws.{update_same, update_other}
use Rattle.table.specs.Fields.{row_words}
use Rattle.table.specs.Words.{field, set_field}
use Rattle.table.proofs.Laws.{field-length}
use Rattle.table_postings.specs.Links.{posted_to, reposted, lists_tell}
use Rattle.table_postings.proofs.Told.{tells-told, told-tells, told-reposted, reposted-long, reposted-words}
use Rattle.txn.specs.View.{key_view}
use Rattle.txn.specs.declared.Transaction.{Transaction}
use Rattle.txn_needs.specs.declared.Key.{Key}
use Rattle.txn_needs.specs.Keys.{key_of, new_key_of}
use Rattle.finish_publish.specs.Publish.{posted_one, posted_all}
use Rattle.step_bridge.proofs.Tabled.{part, part_same, part-update, part-other, InRange}

-- the postings of the first m rows
abbrev pub postings : ℕ → List ℕ → ℕ → Option ℕ
postings m rows q = key_view (field row_words 2 (part row_words m rows) q) (field row_words 3 (part row_words m rows) q)

-- both words of a key set at one entry
two-words : (f h : ℕ → ℕ) (r a b : ℕ) → (λ (q : ℕ). key_view (update f r a q) (update h r b q)) ≡ update (λ (q : ℕ). key_view (f q) (h q)) r (key_view a b)
two-words f h r a b = fun_ext λ q. by q (ℕ_discrete q r)
  where
    by : (q : ℕ) → Dec (q ≡ r) → key_view (update f r a q) (update h r b q) ≡ update (λ (q : ℕ). key_view (f q) (h q)) r (key_view a b) q
    by q (yes e) = rw (e, update_same f r a, update_same h r b, update_same (λ (q : ℕ). key_view (f q) (h q)) r (key_view a b))
    by q (no d) = rw (update_other f r a q d, update_other h r b q d, update_other (λ (q : ℕ). key_view (f q) (h q)) r (key_view a b) q d)

-- a key of its two words
abbrev pub both : (ℕ → ℕ) → (ℕ → ℕ) → ℕ → Option ℕ
both f h q = key_view (f q) (h q)

pub keys-by : (f f' h h' : ℕ → ℕ) → f ≡ f' → h ≡ h' → both f h ≡ both f' h'
keys-by f f' h h' a b = ap (λ (g : ℕ → ℕ). both g h) a ∙ ap (λ (g : ℕ → ℕ). both f' g) b

module _ (xs : List ℕ) (t : Transaction) (m : ℕ) where
  abbrev key_new : ℕ → Key
  key_new r = new_key_of xs t.slot t.writes_n r

  -- one posting moved: but for the links, a row's words are those with the posting stored
  one-row : (rows : List ℕ) (r k : ℕ) → k < 4
      → field row_words k (part row_words m (posted_one rows xs m t r))
      ≡ field row_words k (part row_words m (posted_to rows r (key_new r).keyed (key_new r).key))
  unfolding posted_one
  one-row rows r k h = part_same row_words k m _ _ (omega arith) (reposted-words rows m r (key_new r).keyed (key_new r).key k h)

  -- so the row has its new key, and no other row another
  posted-one : (rows : List ℕ) (r : ℕ) → r < m → row_words * m ≤ length rows
      → postings m (posted_one rows xs m t r) ≡ update (postings m rows) r (key_of (key_new r))
  posted-one rows r h l =
      let k = key_new r in
      keys-by _ _ _ _
      (one-row rows r 2 (omega arith)
      ∙ (part-other row_words 3 m (set_field row_words 2 rows r k.keyed) r k.key 2 (omega arith) (omega arith) (omega arith)
      ∙ part-update row_words 2 m rows r k.keyed (omega arith) h l))
      (one-row rows r 3 (omega arith)
      ∙ (part-update row_words 3 m (set_field row_words 2 rows r k.keyed) r k.key (omega arith) h (rw (field-length row_words 2 rows r k.keyed) l)
      ∙ ap (λ (f : ℕ → ℕ). update f r k.key) (part-other row_words 2 m rows r k.keyed 3 (omega arith) (omega arith) (omega arith))))
      ∙ two-words (field row_words 2 (part row_words m rows)) (field row_words 3 (part row_words m rows)) r k.keyed k.key

  -- the table does not grow or shrink
  one-length : (rows : List ℕ) (r : ℕ) → length (posted_one rows xs m t r) ≡ length rows
  unfolding posted_one
  one-length rows r = reposted-long rows m r (key_new r).keyed (key_new r).key

  -- heads and claims stay
  one-other : (rows : List ℕ) (r k : ℕ) → k < 2
      → field row_words k (part row_words m (posted_one rows xs m t r)) ≡ field row_words k (part row_words m rows)
  one-other rows r k h = one-row rows r k (omega arith)
      ∙ (part-other row_words 3 m (set_field row_words 2 rows r (key_new r).keyed) r (key_new r).key k (omega arith) (omega arith) (omega arith)
      ∙ part-other row_words 2 m rows r (key_new r).keyed k (omega arith) (omega arith) (omega arith))

  -- the lists tell the postings before and after
  one_told : (rows : List ℕ) (r : ℕ) → r < m → row_words * m ≤ length rows → lists_tell rows m ≡ true → lists_tell (posted_one rows xs m t r) m ≡ true
  unfolding posted_one
  one_told rows r h long e =
      let k = key_new r in
      told-tells (reposted rows m r k.keyed k.key) m (told-reposted rows m r k.keyed k.key long h (tells-told rows m e))

  -- all postings moved: each row of the list has its new key, and no other row another
  pub posted-all : (rs : List ℕ) (rows : List ℕ) → InRange m rs → row_words * m ≤ length rows → (q : ℕ)
      → postings m (posted_all rows xs m t rs) q ≡ cond (member q rs) (key_of (key_new q)) (postings m rows q)
  unfolding posted_all member
  posted-all [] rows h l q = refl
  posted-all (r ∷ rs) rows h l q =
      posted-all rs (posted_one rows xs m t r) (λ i a. h i (inr a)) (rw (one-length rows r) l) q
      ∙ (ap (λ (f : ℕ → Option ℕ). cond (member q rs) (key_of (key_new q)) (f q)) (posted-one rows r (h r (inl refl)) l)
      ∙ by (ℕ_discrete q r) (member q rs))
    where
      by : Dec (q ≡ r) → (b : Bool) → cond b (key_of (key_new q)) (update (postings m rows) r (key_of (key_new r)) q)
          ≡ cond (eqb q r || b) (key_of (key_new q)) (postings m rows q)
      by (yes e) true = rw (eq-eqb q r e)
      by (yes e) false = rw (e, eq-eqb r r refl, update_same (postings m rows) r (key_of (key_new r)))
      by (no d) true = rw (ne_eqb q r d)
      by (no d) false = rw (ne_eqb q r d, update_other (postings m rows) r (key_of (key_new r)) q d)

  -- the table does not grow or shrink
  pub posted-length : (rs : List ℕ) (rows : List ℕ) → length (posted_all rows xs m t rs) ≡ length rows
  unfolding posted_all
  posted-length [] rows = refl
  posted-length (r ∷ rs) rows = posted-length rs (posted_one rows xs m t r) ∙ one-length rows r

  -- heads and claims stay
  pub posted-other : (rs : List ℕ) (rows : List ℕ) (k : ℕ) → k < 2
      → field row_words k (part row_words m (posted_all rows xs m t rs)) ≡ field row_words k (part row_words m rows)
  unfolding posted_all
  posted-other [] rows k h = refl
  posted-other (r ∷ rs) rows k h = posted-other rs (posted_one rows xs m t r) k h ∙ one-other rows r k h

  -- the lists tell the postings before and after
  pub posted-told : (rs : List ℕ) (rows : List ℕ) → InRange m rs → row_words * m ≤ length rows → lists_tell rows m ≡ true
      → lists_tell (posted_all rows xs m t rs) m ≡ true
  unfolding posted_all
  posted-told [] rows h long e = e
  posted-told (r ∷ rs) rows h long e =
      posted-told rs (posted_one rows xs m t r) (λ i a. h i (inr a)) (rw (one-length rows r) long) (one_told rows r (h r (inl refl)) long e)
