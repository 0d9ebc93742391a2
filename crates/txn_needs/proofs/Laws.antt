-- How lists in lent words and runs over a list go on by one.
-- Assumes nothing.
use Prim.Native.Nat.{ℕ, zero, suc, ◌+◌, ◌<◌, ◌≤◌}
use mathlib.Core.Path.{◌≡◌, refl, sym, ap, ◌∙◌}
use mathlib.Core.Bool.{Bool, cond}
use mathlib.Core.List.{List, [], ◌∷◌, ◌++◌, map, append_assoc, append-nil}
use native.Mathlib.Numerals.{add-one}
use native.Mathlib.Omega.{arith}
use borrow.Author.Tests.{lt-ltb, le-ltb}
use lib.ListN.{length, take, drop, set, replicate, length-set, length-replicate, drop_of_length-le}
use lib.Seq.{drop-cons, take-suc-set}
use Rattle.std.specs.List.{list_any, range_with_len}
use Rattle.std.proofs.lemmas.List.FromFn.{fill_by_all}
use Rattle.base_lists.specs.Lists.{join, some_of}
use Rattle.txn.specs.declared.Transaction.{Transaction}
use Rattle.table.specs.Lists.{Kind, list_at, entry_at, reads, read_of, read_at, writes, write_of, write_at}
use Rattle.table.specs.declared.lists.IndexRead.{IndexRead}
use Rattle.table.specs.declared.lists.Write.{Write}
use Rattle.table_scans.proofs.Laws.{fields-length, fields_at}
use Rattle.txn_needs.specs.declared.Key.{Key}
use Rattle.txn_needs.specs.declared.Keys.{Keys}
use Rattle.txn_needs.specs.Keys.{is_installed, old_key_of, new_key_of, keys_of}
use Rattle.txn_needs.specs.Needs.{Listed, push_one, push_all, listed_in, front, reads_need, written_by}

-- a list pushed after a list
pub push-append : (st : Listed) (xs ys : List ℕ) → push_all st (xs ++ ys) ≡ push_all (push_all st xs) ys
unfolding push_all
push-append st [] ys = refl
push-append st (x ∷ xs) ys = push-append (push_one st x) xs ys

-- one number more, with room for it and without
pub push-room : (x : ℕ) (xs : List ℕ) (st : Listed) → st.n < length st.out
    → push_all st (x ∷ xs) ≡ push_all (record { out = set st.out st.n x; n = st.n + 1 }) xs
unfolding push_all push_one
push-room x xs st l = ap (λ (b : Bool). push_all (cond b (record { out = set st.out st.n x; n = st.n + 1 }) st) xs) (lt-ltb st.n (length st.out) l)

push-full : (x : ℕ) (xs : List ℕ) (st : Listed) → length st.out ≤ st.n → push_all st (x ∷ xs) ≡ push_all st xs
unfolding push_all push_one
push-full x xs st l = ap (λ (b : Bool). push_all (cond b (record { out = set st.out st.n x; n = st.n + 1 }) st) xs) (le-ltb st.n (length st.out) l)

-- as many are listed as there is room for; in a list of zeros, too
listed-front : (xs : List ℕ) (room : ℕ) (st : Listed) → st.n + room ≡ length st.out → front (push_all st xs) ≡ front st ++ take room xs
unfolding push_all
listed-front [] zero st h = sym (append-nil (front st))
listed-front [] (suc room) st h = sym (append-nil (front st))
listed-front (x ∷ xs) zero st h = rw (push-full x xs st (omega arith)) (listed-front xs zero st h)
listed-front (x ∷ xs) (suc room) st h =
    let l : st.n < length st.out = omega arith in
    rw (push-room x xs st l)
    (listed-front xs room (record { out = set st.out st.n x; n = st.n + 1 }) (rw length-set (omega arith))
    ∙ rw (add-one st.n, take-suc-set st.out st.n x l, append_assoc))

pub listed-cut : (room : ℕ) (xs : List ℕ) → front (listed_in room xs) ≡ take room xs
listed-cut room xs = listed-front xs room (record { out = replicate room 0; n = 0 }) (rw (length-replicate {A = ℕ} room 0) (omega arith))

-- ---- `any` is the definitions' test: over a list, and over the numbers of the entries of a slot's list
pub some_listed : (p : ℕ → Bool) (xs : List ℕ) → list_any p xs ≡ some_of p xs
unfolding some_of
some_listed p [] = refl
some_listed p (x ∷ xs) = rw (some_listed p xs)

pub some_mapped : (p : ℕ → Bool) (h : ℕ → ℕ) (is : List ℕ) → list_any (λ i. p (h i)) is ≡ some_of p (map h is)
unfolding some_of
some_mapped p h [] = refl
some_mapped p h (i ∷ is) = rw (some_mapped p h is)

module _ {A : Type 0} (g : A → ℕ) (f : List ℕ → A) (k : Kind) (xs : List ℕ) (s n : ℕ) where
  pub fields_numbered : map g (list_at f k xs s n) ≡ map (λ i. g (entry_at f k xs s i)) (range_with_len 0 n)
  fields_numbered =
      fill_by_all (λ i. g (entry_at f k xs s i)) (map g (list_at f k xs s n)) n 0 (fields-length g f k xs s n) (fields_at g f k xs s n)

  pub some_numbered : (p : ℕ → Bool) → list_any (λ i. p (g (entry_at f k xs s i))) (range_with_len 0 n) ≡ some_of p (map g (list_at f k xs s n))
  some_numbered p = rw fields_numbered (some_mapped p (λ i. g (entry_at f k xs s i)) (range_with_len 0 n))

-- ---- what is left of a field of a slot's list, from i on
module _ {A : Type 0} (g : A → ℕ) (f : List ℕ → A) (k : Kind) (xs : List ℕ) (s n i : ℕ) where
  pub fields-next : (v : ℕ) → i < n → v ≡ g (entry_at f k xs s i) → drop i (map g (list_at f k xs s n)) ≡ v ∷ drop (i + 1) (map g (list_at f k xs s n))
  fields-next v h e =
      let m : i < length (map g (list_at f k xs s n)) = rw (fields-length g f k xs s n) h in
      rw (add-one, drop-cons (map g (list_at f k xs s n)) i 0, fields_at g f k xs s n i, e)

  pub fields-done : n ≤ i → drop i (map g (list_at f k xs s n)) ≡ []
  fields-done h =
      let m : length (map g (list_at f k xs s n)) ≤ i = rw (fields-length g f k xs s n) h in
      drop_of_length-le (map g (list_at f k xs s n)) m

-- of the buckets of a transaction's index reads, and of the rows of its pending writes
module _ (lists : List ℕ) (t : Transaction) (i : ℕ) where
  pub reads_next : (v : ℕ) → i < t.reads_n → v ≡ (read_at lists t.slot i).bucket → drop i (reads_need lists t) ≡ v ∷ drop (i + 1) (reads_need lists t)
  reads_next v h e = fields-next (λ (r : IndexRead). r.bucket) read_of reads lists t.slot t.reads_n i v h e

  pub reads_done : t.reads_n ≤ i → drop i (reads_need lists t) ≡ []
  reads_done h = fields-done (λ (r : IndexRead). r.bucket) read_of reads lists t.slot t.reads_n i h

module _ (lists : List ℕ) (t : Transaction) (i : ℕ) where
  pub rows_next : (v : ℕ) → i < t.writes_n → v ≡ (write_at lists t.slot i).row → drop i (written_by lists t) ≡ v ∷ drop (i + 1) (written_by lists t)
  rows_next v h e = fields-next (λ (w : Write). w.row) write_of writes lists t.slot t.writes_n i v h e

  pub rows-done : t.writes_n ≤ i → drop i (written_by lists t) ≡ []
  rows-done h = fields-done (λ (w : Write). w.row) write_of writes lists t.slot t.writes_n i h

-- ---- one turn of a loop that lists: one number, or the list of one number
pub push-turn : (st st' : Listed) (l : List ℕ) (i v : ℕ) → drop i l ≡ v ∷ drop (i + 1) l → st' ≡ push_one st v → push_all st (drop i l)
    ≡ push_all st' (drop (i + 1) l)
unfolding push_all
push-turn st st' l i v e p = rw (e, p)

pub join-turn : (f : ℕ → List ℕ) (st st' : Listed) (l : List ℕ) (i v : ℕ) → drop i l ≡ v ∷ drop (i + 1) l → st' ≡ push_all st (f v)
    → push_all st (join f (drop i l)) ≡ push_all st' (join f (drop (i + 1) l))
unfolding join
join-turn f st st' l i v e p = rw (e, push-append, p)

pub push-none : (st : Listed) (l : List ℕ) → l ≡ [] → push_all st l ≡ st
unfolding push_all
push-none st l e = rw e

pub join-none : (f : ℕ → List ℕ) (st : Listed) (l : List ℕ) → l ≡ [] → push_all st (join f l) ≡ st
unfolding join push_all
join-none f st l e = rw e

-- the two keys of a row, once it is known whether the writes are installed
pub keys-are : (rows versions lists : List ℕ) (t : Transaction) (r : ℕ) (installed : Bool) (old new : Key) → installed ≡ is_installed t.phase
    → old ≡ old_key_of rows versions installed r → new ≡ new_key_of lists t.slot t.writes_n r
    → ◌≡◌ {A = Keys} (record { old = old; new = new }) (keys_of rows versions lists t r)
unfolding keys_of
keys-are rows versions lists t r installed old new e f g = rw (f, g, e)
