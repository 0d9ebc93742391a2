-- The scans of the verdict at one place, and at the end.
-- Assumes nothing.
use Prim.Native.Nat.{ℕ, zero, suc, ◌+◌, ◌<◌, ◌≤◌, min}
use mathlib.Core.Path.{◌≡◌, refl, sym, ◌∙◌}
use mathlib.Core.Bool.{Bool, true, false, cond, not, ◌&&◌, ◌||◌, and-false, or_assoc, or-false}
use mathlib.Core.Logic.{◌≢◌}
use mathlib.Core.List.{List, map}
use native.Mathlib.Numerals.{add-one}
use native.Mathlib.Decide.{dec_lt}
use native.Mathlib.Omega.{arith}
use borrow.Author.Tests.{ltb-true, eq-eqb, ne_eqb}
use lib.Dec.{eqb, leb, ltb}
use lib.ListN.{length, get_or, take, drop, drop_of_length-le}
use lib.Seq.{take_all, drop-cons}
use Rattle.std.specs.Prelude.{Option, Some, None}
use Rattle.std.specs.List.{find, range_with_len}
use Rattle.std.specs.Option.{option_map}
use Rattle.std.proofs.lemmas.List.FromFn.{fill_by_all}
use Rattle.base_limits.specs.Limits.{most_active}
use Rattle.base_lists.specs.Lists.{member, least}
use Rattle.base_lists.proofs.ListLaws.{below-least}
use Rattle.model.specs.Verdict.{bad_record}
use Rattle.table.specs.Fields.{xmin_of, xmax_of}
use Rattle.table.specs.declared.lists.ReadRecord.{ReadRecord}
use Rattle.table_chain.specs.Chain.{active_of}
use Rattle.table_chain.specs.declared.Snapshot.{Snapshot}
use Rattle.txn.specs.View.{snapshot_view, record_view, records_in}
use Rattle.txn.specs.declared.Transaction.{Transaction}
use Rattle.table.specs.Lists.{Kind, records, record_of, start_of, entry_at, list_at, record_at}
use Rattle.table.proofs.Spans.{list-map, list-drop, list_length, list-at}
use Rattle.write_verdict.specs.Judged.{versions_view, first_where, bad_in, ended_by, outright, looked_for}

-- the entries of a slot's list, each seen through `view`: how many there are, and which stands at a place
module _ {A B : Type 0} (view : A → B) (f : List ℕ → A) (k : Kind) (xs : List ℕ) (s n : ℕ) where
  pub entries-length : length (map view (list_at f k xs s n)) ≡ n
  entries-length = rw (list-map view f k.w (start_of k s) xs n) (list_length (λ ws. view (f ws)) k.w (start_of k s) xs n)

  pub entries_at : (i : ℕ) (d : B) → i < n → get_or (map view (list_at f k xs s n)) i d ≡ view (entry_at f k xs s i)
  entries_at i d h = rw (list-map view f k.w (start_of k s) xs n) (list-at (λ ws. view (f ws)) k.w (start_of k s) xs n i d h)

-- a test on those entries, from place i on, where x is read there
module _ {A B : Type 0} (test : B → Bool) (view : A → B) (f : List ℕ → A) (k : Kind) (xs : List ℕ) (s n i : ℕ) where
  where_next : (x : A) → x ≡ entry_at f k xs s i → i < n
      → first_where test i (drop i (map view (list_at f k xs s n)))
      ≡ cond (test (view x)) (Some i) (first_where test (i + 1) (drop (i + 1) (map view (list_at f k xs s n))))
  unfolding first_where
  where_next x e h = rw (e, list-map view f k.w (start_of k s) xs n, list-drop (λ ws. view (f ws)) k.w (start_of k s) xs n i (view x) h, add-one)

  where-end : n ≤ i → first_where test i (drop i (map view (list_at f k xs s n))) ≡ None
  unfolding first_where
  where-end h =
      let l : length (map view (list_at f k xs s n)) ≤ i = omega (arith, entries-length view f k xs s n) in
      rw (drop_of_length-le (map view (list_at f k xs s n)) l)

-- the place of the first number at which a test of its entry holds, counted from k
first_found : {B : Type 0} (test : B → Bool) (h : ℕ → B) (k n : ℕ)
    → find (λ i. test (h i)) (range_with_len k n) ≡ first_where test k (map h (range_with_len k n))
unfolding first_where
first_found test h k zero = refl
first_found test h k (suc n) = rw (first_found test h (k + 1) n, add-one k)

same_place : (r : Option ℕ) → option_map (λ i. i) r ≡ r
same_place (Some i) = refl
same_place None = refl

-- `find` over the numbers of the entries of a slot's list, each seen through `view`
pub found_where : {A B : Type 0} (test : B → Bool) (view : A → B) (f : List ℕ → A) (k : Kind) (xs : List ℕ) (s n : ℕ) (r : Option ℕ)
    → option_map (λ i. i) r ≡ find (λ i. test (view (entry_at f k xs s i))) (range_with_len 0 n)
    → r ≡ first_where test 0 (map view (list_at f k xs s n))
found_where test view f k xs s n r e =
    let d = view (entry_at f k xs s 0) in
    rw (fill_by_all (λ i. view (entry_at f k xs s i)) (map view (list_at f k xs s n)) n d (entries-length view f k xs s n)
    (λ i h. entries_at view f k xs s n i d h))
    (sym (same_place r) ∙ (e ∙ first_found test (λ i. view (entry_at f k xs s i)) 0 n))

-- the numbers of the snapshot that are looked at, where the version was ended by another
looked-same : (active : List ℕ) (n x : ℕ) → length active ≡ most_active → member x (take (min n most_active) active) ≡ member x (take n active)
looked-same active n x e = elim (dec_lt n most_active) [
  | yes h ↦ let m : min n most_active ≡ n = omega arith in rw m
  | no h ↦ let m : min n most_active ≡ most_active = omega arith in rw (m, take_all most_active active (omega arith), take_all n active (omega arith))
]

-- a read record is bad where it has changed outright, or where who ended it is active; a number below the least of xmin and the active numbers is not
module _ (versions : List ℕ) (n : ℕ) (s : Snapshot) (r : ReadRecord) (long : length s.active ≡ most_active) where
  bad-by : (x : ℕ) (own none low : Bool) → eqb x n ≡ own → eqb x 0 ≡ none → ltb x (least s.xmin (active_of s)) ≡ low → (d : Bool)
      → (d || (not (eqb x 0) && not (eqb x n) && (leb s.xmax x || member x (active_of s))))
      ≡ ((d || (not (eqb (cond own 0 x) 0) && leb s.xmax (cond own 0 x))) || member (cond own 0 x) (take (looked_for (cond own 0 x) s) s.active))
  unfolding member
  bad-by x true none low eo ez el d = rw (eo, and-false) (sym (or-false (d || false)))
  bad-by x false true low eo ez el d = rw (ez) (sym (or-false (d || false)))
  bad-by x false false true eo ez el d =
      rw (eo, ez, el, below-least s.xmin (active_of s) x (ltb-true _ _ el), or-false (leb s.xmax x)) (sym (or-false (d || leb s.xmax x)))
  bad-by x false false false eo ez el d =
      rw (eo, ez, el, looked-same s.active s.active_n x long) (sym (or_assoc d (leb s.xmax x) (member x (active_of s))))

  pub bad-split : bad_record (versions_view versions) n (snapshot_view s) (record_view r)
      ≡ (outright versions r (ended_by versions r.ptr n) s.xmax
      || member (ended_by versions r.ptr n) (take (looked_for (ended_by versions r.ptr n) s) s.active))
  unfolding bad_record
  bad-split = bad-by (xmax_of versions r.ptr) _ _ _ refl refl refl (not (eqb (xmin_of versions r.ptr) r.xmin))

-- what the scan comes to from place i on
abbrev pub records_from : List ℕ → List ℕ → Transaction → ℕ → Option ℕ
records_from versions lists t i = first_where (bad_in versions t) i (drop i (records_in lists t))

pub records-end : (versions lists : List ℕ) (t : Transaction) (i : ℕ) → t.records_n ≤ i → records_from versions lists t i ≡ None
records-end versions lists t i h = where-end (bad_in versions t) record_view record_of records lists t.slot t.records_n i h

-- the read record at place i, where x is read there and e ended its version: it has changed outright or by an active number, or those after it tell
pub record-next : (versions lists : List ℕ) (t : Transaction) → length t.snapshot.active ≡ most_active → (i : ℕ) (x : ReadRecord) (e : ℕ)
    → x ≡ record_at lists t.slot i → e ≡ ended_by versions x.ptr t.number → i < t.records_n
    → (o : Bool) → outright versions x e t.snapshot.xmax ≡ o → records_from versions lists t i
    ≡ cond (o || member e (take (looked_for e t.snapshot) t.snapshot.active)) (Some i) (records_from versions lists t (i + 1))
record-next versions lists t long i x e ex ee h o eo =
    where_next (bad_in versions t) record_view record_of records lists t.slot t.records_n i x ex h
    ∙ rw (bad-split versions t.number t.snapshot x long, ← ee, eo)

-- the number at place j of those that are looked at, and none left: spelled so that the check's own search finds them
module _ (l : List ℕ) (j x : ℕ) where
  pub active_here : j < length l → get_or l j 0 ≡ x → member x (drop j l) ≡ true
  unfolding member
  active_here h e = rw (drop-cons l j 0, eq-eqb _ _ (sym e))

  pub active_past : j < length l → get_or l j 0 ≢ x → member x (drop j l) ≡ member x (drop (j + 1) l)
  unfolding member
  active_past h e = rw (add-one, drop-cons l j 0, ne_eqb x (get_or l j 0) (λ q. e (sym q)))

  pub active_end : length l ≤ j → member x (drop j l) ≡ false
  unfolding member
  active_end h = rw (drop_of_length-le l h)
