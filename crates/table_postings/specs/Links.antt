-- A row's posting is moved from one list to another; and when the lists tell the postings.
use Rattle.std.specs.Prelude.{ℕ, zero, suc, Bool, cond, not, ◌&&◌, ◌||◌, List, [], ◌∷◌, eqb, ltb, length}
use Rattle.base_lists.specs.Lists.{every}
use Rattle.table.specs.Fields.{posted_of, set_posted, posted_key_of, set_posted_key, later_of, set_later, first_of, set_first}
use Rattle.table_postings.specs.Postings.{list_for, follow}

-- the link behind place p of list i: place 0 is before the first row, and row r stands at place r + 1
unfoldable pub link_at : List ℕ → ℕ → ℕ → ℕ
link_at rows i zero = first_of rows i
link_at rows i (suc r) = later_of rows r

unfoldable pub set_link : List ℕ → ℕ → ℕ → ℕ → List ℕ
set_link rows i zero v = set_first rows i v
set_link rows i (suc r) v = set_later rows r v

-- the last place of these rows, from place p on
unfoldable pub last_place : ℕ → List ℕ → ℕ
last_place p [] = p
last_place p (r ∷ rs) = last_place (suc r) rs

-- the place in a list that a row stands behind, or would
abbrev pub place_before : List ℕ → ℕ → ℕ → ℕ
place_before rows i r = last_place 0 (follow rows (first_of rows i) 0 r)

-- the link over a row is what its own link was
unfoldable pub unlinked : List ℕ → ℕ → ℕ → List ℕ
unlinked rows i r = set_link rows i (place_before rows i r) (later_of rows r)

-- a row is put behind its place: its link is what the place's was, and the place's names it
unfoldable pub linked : List ℕ → ℕ → ℕ → List ℕ
linked rows i r = set_link (set_later rows r (link_at rows i (place_before rows i r))) i (place_before rows i r) (suc r)

-- the posting of a row, which keyed 0 takes away
abbrev pub posted_to : List ℕ → ℕ → ℕ → ℕ → List ℕ
posted_to rows r keyed key = set_posted_key (set_posted rows r keyed) r key

-- the row stays in its list: it was posted and is, in one list
abbrev pub stays_listed : List ℕ → ℕ → ℕ → ℕ → ℕ → Bool
stays_listed rows row_count r keyed key =
    not (eqb (posted_of rows r) 0) && not (eqb keyed 0) && eqb (list_for row_count (posted_key_of rows r)) (list_for row_count key)

-- out of the list of the old key
abbrev pub taken_out : List ℕ → ℕ → ℕ → List ℕ
taken_out rows row_count r = cond (eqb (posted_of rows r) 0) rows (unlinked rows (list_for row_count (posted_key_of rows r)) r)

-- into that of the new one
abbrev pub put_in : List ℕ → ℕ → ℕ → ℕ → ℕ → List ℕ
put_in rows row_count r keyed key = cond (eqb keyed 0) rows (linked rows (list_for row_count key) r)

-- a row's posting moved; a row past the table is no row
unfoldable pub reposted : List ℕ → ℕ → ℕ → ℕ → ℕ → List ℕ
reposted rows row_count r keyed key =
    cond (not (ltb r (length rows))) rows
    (cond (stays_listed rows row_count r keyed key) (posted_to rows r keyed key)
    (put_in (posted_to (taken_out rows row_count r) r keyed key) row_count r keyed key))

-- ---- when the lists tell the postings

-- a row is posted with a key of this list
abbrev pub in_list : List ℕ → ℕ → ℕ → ℕ → Bool
in_list rows row_count i r = not (eqb (posted_of rows r) 0) && eqb (list_for row_count (posted_key_of rows r)) i

-- the place of the last such row below r; 0 where there is none
unfoldable pub last_in : List ℕ → ℕ → ℕ → ℕ → ℕ
last_in rows row_count i zero = 0
last_in rows row_count i (suc r) = cond (in_list rows row_count i r) (suc r) (last_in rows row_count i r)

-- a posted row is named by the link behind the last row before it in its list
abbrev pub named_before : List ℕ → ℕ → ℕ → Bool
named_before rows row_count r =
    eqb (posted_of rows r) 0
    || eqb (link_at rows (list_for row_count (posted_key_of rows r)) (last_in rows row_count (list_for row_count (posted_key_of rows r)) r)) (suc r)

-- the link behind a list's last row names none
abbrev pub ends_at : List ℕ → ℕ → ℕ → Bool
ends_at rows row_count i = eqb (link_at rows i (last_in rows row_count i row_count)) 0

-- each list has exactly the rows posted with its keys, ascending
unfoldable pub lists_tell : List ℕ → ℕ → Bool
lists_tell rows row_count = every row_count (named_before rows row_count) && every row_count (ends_at rows row_count)
