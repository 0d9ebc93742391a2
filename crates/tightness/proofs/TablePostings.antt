-- Wrong bodies of the crate `table_postings`.
-- Assumes nothing.
use Prim.Native.Nat.{ℕ, ◌-◌, ◌*◌, ◌/◌, ◌%◌, min, suc}
use mathlib.Core.Path.{refl}
use mathlib.Core.Bool.{Bool, cond, not}
use mathlib.Core.List.{List, [], ◌∷◌}
use lib.Dec.{eqb, ltb}
use lib.ListN.{length, get_or, take}
use Rattle.base_limits.specs.Limits.{most_rows}
use Rattle.base_lists.specs.Lists.{pick}
use Rattle.table.specs.Fields.{posted_of, posted_key_of, later_of, first_of}
use Rattle.table.specs.Lists.{candidates}
use Rattle.table_postings.specs.Postings.{half, spread, list_for, posted_with, follow, keyed_of, listed_with, kept_in}
use Rattle.table_postings.specs.Links.{link_at, set_link, place_before, linked, posted_to, stays_listed, taken_out, put_in, reposted}
use Rattle.tightness.specs.Wrong.{Excludes}
use Rattle.tightness.proofs.Apart.{apart, itself}
use Rattle.tightness.proofs.Computes.{computes}
use Rattle.tightness.proofs.Small.{room_for}

-- what the contract of `list_for` asks for
abbrev listed-in : ℕ × ℕ → ℕ
listed-in (n, key) = list_for n key

-- `list_for`: the remainder of the key by the row count
pub list-for-remainder : Excludes listed-in (λ (n, key). key % n)
unfolding computes
list-for-remainder = apart (8, 58) itself refl

-- `list_for`: by the lower half of the key alone
pub list-for-lower-half : Excludes listed-in (λ (n, key). list_for n (key % half))
unfolding computes
list-for-lower-half = apart (8, half) itself refl

-- `list_for`: more lists than there can be rows
pub list-for-uncapped : Excludes listed-in (λ (n, key). spread key * n / half)
unfolding computes
list-for-uncapped = apart (2048, 58) itself refl

-- what keep_posted is given: rows, lists, slot, row count, key
abbrev Given : Type 0
Given = List ℕ × List ℕ × ℕ × ℕ × ℕ

-- which rows are kept of rows, row count and key
abbrev Keeping : Type 0
Keeping = List ℕ → ℕ → ℕ → List ℕ

-- how many rows were kept, and the lists, for any list of rows
abbrev keeps : Keeping → Given → ℕ × List ℕ
keeps rows_for (rows, lists, slot, n, key) = (length (rows_for rows n key), kept_in lists slot (rows_for rows n key))

-- what the contract of `keep_posted` asks for
abbrev keep_posted : Given → ℕ × List ℕ
keep_posted = keeps listed_with

-- the rows in the key's list, and of some rows those that pass a test
abbrev listed : Keeping
listed rows n key = follow rows (first_of rows (list_for n key)) 0 (min n most_rows)

abbrev among : (ℕ → Bool) → List ℕ → List ℕ
among p [] = []
among p (r ∷ rs) = cond (p r) (r ∷ among p rs) (among p rs)

-- a row with this posting, the row behind it and the first row of the list of its number, each by its number and 1
abbrev row : ℕ → ℕ → ℕ → ℕ → List ℕ → List ℕ
row posted key later first more = 0 ∷ 0 ∷ posted ∷ key ∷ later ∷ first ∷ more

abbrev how_many : ℕ × List ℕ → ℕ
how_many o = o.0

-- `keep_posted`: a row of the list without a posting is posted with key 0
pub keep-posted-none : Excludes keep_posted (keeps (λ rows n key. among (λ r. eqb (posted_key_of rows r) key) (listed rows n key)))
unfolding computes
keep-posted-none = apart (row 0 0 0 1 [], room_for candidates, 0, 1, 0) how_many refl

-- `keep_posted`: with any key of the list
pub keep-posted-any : Excludes keep_posted (keeps (λ rows n key. among (λ r. not (eqb (posted_of rows r) 0)) (listed rows n key)))
unfolding computes
keep-posted-any = apart (row 1 7 0 1 [], room_for candidates, 0, 1, 5) how_many refl

-- `keep_posted`: the first row of the list alone
pub keep-posted-first : Excludes keep_posted (keeps (λ rows n key. keyed_of rows key (take 1 (listed rows n key))))
unfolding computes
keep-posted-first = apart (row 1 7 2 1 (row 1 7 0 0 []), room_for candidates, 0, 2, 7) how_many refl

-- `keep_posted`: list 0, whatever the key
pub keep-posted-other-list : Excludes keep_posted (keeps (λ rows n key. keyed_of rows key (follow rows (first_of rows 0) 0 (min n most_rows))))
unfolding computes
keep-posted-other-list = apart (row 1 6 0 0 (row 0 0 0 1 []), room_for candidates, 0, 2, 6) how_many refl

-- `keep_posted`: every row posted with the key, in the list or not
pub keep-posted-unlisted : Excludes keep_posted (keeps (λ rows n key. pick (posted_with rows key) 0 (min n most_rows)))
unfolding computes
keep-posted-unlisted = apart (row 1 7 0 0 [], room_for candidates, 0, 1, 7) how_many refl

-- `keep_posted`: a link to a row past the store's is followed
pub keep-posted-past-count : Excludes keep_posted
    (keeps (λ rows n key. keyed_of rows key (follow rows (first_of rows (list_for n key)) 0 (min (suc n) most_rows))))
unfolding computes
keep-posted-past-count = apart (row 1 7 2 1 (row 1 7 0 0 []), room_for candidates, 0, 1, 7) how_many refl

-- `keep_posted`: counted and not kept
pub keep-posted-not-kept : Excludes keep_posted (λ (rows, lists, slot, n, key). (length (listed_with rows n key), lists))
unfolding computes
keep-posted-not-kept =
    apart (row 0 0 0 0 (row 1 6 0 2 []), room_for candidates, 0, 2, 6) (λ (o : ℕ × List ℕ). get_or o.1 candidates.off 0) refl

-- what repost is given: rows, the row count, the row, and its key
abbrev Moving : Type 0
Moving = List ℕ × ℕ × ℕ × ℕ × ℕ

abbrev reposts : Moving → List ℕ
reposts (rows, n, r, keyed, key) = reposted rows n r keyed key

-- the same with another way into a list
abbrev reposts_by : (List ℕ → ℕ → ℕ → ℕ → ℕ → List ℕ) → Moving → List ℕ
reposts_by into (rows, n, r, keyed, key) =
    cond (not (ltb r (length rows))) rows
    (cond (stays_listed rows n r keyed key) (posted_to rows r keyed key) (into (posted_to (taken_out rows n r) r keyed key) n r keyed key))

-- the first row of list 0 afterwards, the posted key of row 0 and the row behind it
abbrev first₀ : List ℕ → ℕ
first₀ rows = get_or rows 5 0

abbrev key₀ : List ℕ → ℕ
key₀ rows = get_or rows 3 0

abbrev later₀ : List ℕ → ℕ
later₀ rows = get_or rows 4 0

-- `repost`: the posting moves, and the lists do not
pub repost-lists-kept : Excludes reposts (λ (rows, n, r, keyed, key). posted_to rows r keyed key)
unfolding computes
repost-lists-kept = apart (row 0 0 0 0 [], 1, 0, 1, 7) first₀ refl

-- `repost`: the row stays in the list of its old key
pub repost-old-list-kept : Excludes reposts (λ (rows, n, r, keyed, key). put_in (posted_to rows r keyed key) n r keyed key)
unfolding computes
repost-old-list-kept = apart (row 1 0 0 1 (row 0 0 0 0 []), 2, 0, 1, 1) first₀ refl

-- `repost`: what stood behind the row's place is lost
pub repost-behind-lost : Excludes reposts
    (reposts_by (λ rows n r keyed key. cond (eqb keyed 0) rows (set_link rows (list_for n key) (place_before rows (list_for n key) r) (suc r))))
unfolding computes
repost-behind-lost = apart (row 0 0 0 2 (row 1 7 0 0 []), 2, 0, 1, 7) later₀ refl

-- `repost`: a row whose posting is taken away goes into a list too
pub repost-keyless-listed : Excludes reposts (reposts_by (λ rows n r keyed key. linked rows (list_for n key) r))
unfolding computes
repost-keyless-listed = apart (row 1 7 0 1 [], 1, 0, 0, 0) first₀ refl

-- `repost`: a row that stays in its list keeps its old key
pub repost-key-kept : Excludes reposts (λ (rows, n, r, keyed, key). cond (stays_listed rows n r keyed key) rows (reposts (rows, n, r, keyed, key)))
unfolding computes
repost-key-kept = apart (row 1 5 0 1 [], 1, 0, 1, 7) key₀ refl

-- what the contract of `link_at` asks for
abbrev links : List ℕ × ℕ × ℕ → ℕ
links (rows, i, place) = link_at rows i place

-- `link_at`: the place before the first row is taken for a row
pub link-at-first-row : Excludes links (λ (rows, i, place). later_of rows (place - 1))
unfolding computes
link-at-first-row = apart (row 1 7 0 1 [], 0, 0) itself refl

-- `link_at`: the place is taken for the number of its row
pub link-at-place-as-row : Excludes links (λ (rows, i, place). cond (eqb place 0) (first_of rows i) (later_of rows place))
unfolding computes
link-at-place-as-row = apart (row 1 6 2 1 (row 1 6 0 0 []), 0, 1) itself refl

-- `link_at`: always the first row of the list
pub link-at-first-always : Excludes links (λ (rows, i, place). first_of rows i)
unfolding computes
link-at-first-always = apart (row 1 6 2 1 (row 1 6 0 0 []), 0, 1) itself refl
