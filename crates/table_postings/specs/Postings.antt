-- The list of a key: the rows posted with it, and with the other keys that fall there, ascending, each linked to the next; and what a collect keeps of it.
use Rattle.std.specs.Prelude.{ℕ, zero, suc, ◌+◌, ◌*◌, ◌/◌, ◌%◌, min, Bool, cond, not, ◌&&◌, List, [], ◌∷◌, eqb}
use Rattle.std.proofs.lemmas.List.Edits.{sets}
use Rattle.base_limits.specs.Limits.{most_rows}
use Rattle.table.specs.Fields.{posted_of, posted_key_of, later_of, first_of}
use Rattle.table.specs.Lists.{candidates, place_of}

-- how many numbers half of a word holds
abbrev pub half : ℕ
half = 4294967296

-- what the halves of a key are multiplied with; together they are below a half, so that no sum of both is past a word
abbrev pub upper_factor : ℕ
upper_factor = 1540483477

abbrev pub lower_factor : ℕ
lower_factor = 2654435769

-- a key spread over the numbers of half a word, so that keys in even steps do not fall together
abbrev pub spread : ℕ → ℕ
spread k = (k / half * upper_factor + k % half * lower_factor) % half

-- which list a key is in: a store has as many as rows, each headed in the entry of the row of its number
unfoldable pub list_for : ℕ → ℕ → ℕ
list_for row_count k = spread k * min row_count most_rows / half

-- a row is posted with exactly this key
abbrev pub posted_with : List ℕ → ℕ → ℕ → Bool
posted_with rows k r = not (eqb (posted_of rows r) 0) && eqb (posted_key_of rows r) k

-- the rows that the links name, of the n rows from k on: going up, the row that the link names is listed, and then its own link counts
unfoldable pub follow : List ℕ → ℕ → ℕ → ℕ → List ℕ
follow rows link k zero = []
follow rows link k (suc n) = cond (eqb link (suc k)) (k ∷ follow rows (later_of rows k) (suc k) n) (follow rows link (suc k) n)

-- of these rows those posted with the key
unfoldable pub keyed_of : List ℕ → ℕ → List ℕ → List ℕ
keyed_of rows k [] = []
keyed_of rows k (r ∷ rs) = cond (posted_with rows k r) (r ∷ keyed_of rows k rs) (keyed_of rows k rs)

-- the rows in the key's list that are posted with the key, ascending; no more than the candidates have room for
unfoldable pub listed_with : List ℕ → ℕ → ℕ → List ℕ
listed_with rows row_count k = keyed_of rows k (follow rows (first_of rows (list_for row_count k)) 0 (min row_count most_rows))

-- the candidates of a slot stored
abbrev pub kept_in : List ℕ → ℕ → List ℕ → List ℕ
kept_in lists slot rs = sets lists (place_of candidates slot 0) rs
