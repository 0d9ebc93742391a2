-- What a snapshot sees, and the first visible version of a chain.
use Rattle.std.specs.Prelude.{ℕ, zero, suc, ◌<◌, ◌/◌, ◌≡◌, List, Bool, false, cond, not, ◌&&◌, ◌||◌, length, take, eqb, leb, ltb, Option, Some, None}
use Rattle.base_lists.specs.Lists.{member}
use Rattle.table.specs.Fields.{version_words, xmin_of, xmax_of, next_of}
use Rattle.table_chain.specs.declared.Snapshot.{Snapshot}

-- a snapshot's active numbers
abbrev pub active_of : Snapshot → List ℕ
active_of s = take s.active_n s.active

-- n is below the snapshot's xmax and not among its active numbers
abbrev pub seen_by : List ℕ → ℕ → ℕ → Bool
seen_by active xmax n = ltb n xmax && not (member n active)

-- a version is visible if its xmin is seen and its xmax is 0 or not seen
abbrev pub visible_to : List ℕ → ℕ → ℕ → ℕ → Bool
visible_to active xmax xminᵥ xmaxᵥ = seen_by active xmax xminᵥ && (eqb xmaxᵥ 0 || not (seen_by active xmax xmaxᵥ))

-- no active number is below low
abbrev pub NoneBelow : ℕ → List ℕ → Type 0
NoneBelow low active = (n : ℕ) → n < low → member n active ≡ false

-- one step of the walk, where `rest` is the walk from the next pointer; a next that does not fall is 0
unfoldable pub step_from : List ℕ → List ℕ → ℕ → (ℕ → ℕ) → ℕ → ℕ
step_from versions active xmax rest p =
    cond (eqb p 0) 0
    (cond (visible_to active xmax (xmin_of versions p) (xmax_of versions p)) p
    (cond (ltb (next_of versions p) p) (rest (next_of versions p)) 0))

-- a walk of at most k steps
unfoldable pub walk_for : List ℕ → List ℕ → ℕ → ℕ → ℕ → ℕ
walk_for versions active xmax zero p = 0
walk_for versions active xmax (suc k) p = step_from versions active xmax (walk_for versions active xmax k) p

-- the walk from p: it follows the next pointer until a version is visible or the pointer is 0; pointers fall, so p steps are enough
unfoldable pub walk_from : List ℕ → List ℕ → ℕ → ℕ → ℕ
walk_from versions active xmax p = walk_for versions active xmax p p

-- p is a used pointer, and its version stands whole in the table
abbrev pub known : List ℕ → ℕ → ℕ → Bool
known versions used p = leb p used && ltb p (length versions / version_words)

-- a pointer, or none for 0
abbrev pub pointer : ℕ → Option ℕ
pointer p = cond (eqb p 0) None (Some p)

-- the first version of the chain from p that the snapshot sees; an unknown pointer gives none
unfoldable pub first_visible : List ℕ → ℕ → Snapshot → ℕ → Option ℕ
first_visible versions used s p = cond (known versions used p) (pointer (walk_from versions (active_of s) s.xmax p)) None
