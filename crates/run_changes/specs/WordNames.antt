-- The names of a state's words, in one list: a word is the place of its name.
use Rattle.std.specs.Prelude.{ℕ, List, [], ◌∷◌, ◌==◌, Option, position}
use Rattle.run_script.specs.Names.{named}

-- words 0 to 5, of a row; 6 to 11, of a version; 12 and 13, of a bucket
-- 14 to 23, of the lists of a record: its index reads (i), its writes (w), its read records (r) and its candidates (c)
-- 24 to 36, of a record; 37, its active numbers (a)
-- 38 to 42, the machine's own
unfoldable pub names : List ℕ
names =
    named "head"
    ∷ named "claim"
    ∷ named "posted"
    ∷ named "postkey"
    ∷ named "later"
    ∷ named "first"
    ∷ named "xmin"
    ∷ named "xmax"
    ∷ named "next"
    ∷ named "keyed"
    ∷ named "key"
    ∷ named "payload"
    ∷ named "stamp"
    ∷ named "holder"
    ∷ named "ibucket"
    ∷ named "istamp"
    ∷ named "wrow"
    ∷ named "wkeyed"
    ∷ named "wkey"
    ∷ named "wpayload"
    ∷ named "rrow"
    ∷ named "rpointer"
    ∷ named "rxmin"
    ∷ named "crow"
    ∷ named "number"
    ∷ named "snapxmin"
    ∷ named "snapxmax"
    ∷ named "acount"
    ∷ named "mark"
    ∷ named "phase"
    ∷ named "held"
    ∷ named "sought"
    ∷ named "slot"
    ∷ named "icount"
    ∷ named "wcount"
    ∷ named "rcount"
    ∷ named "ccount"
    ∷ named "anumber"
    ∷ named "clock"
    ∷ named "used"
    ∷ named "rowcount"
    ∷ named "versions"
    ∷ named "buckets"
    ∷ []

-- the word that a name names: its first place; none where it is none of them
abbrev pub word_named : ℕ → Option ℕ
word_named name = position (λ x. x == name) names
