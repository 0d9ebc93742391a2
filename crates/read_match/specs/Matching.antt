-- The matching rule over the words.
use Rattle.std.specs.Prelude.{ℕ, Bool, true, false, cond, not, ◌&&◌, List, eqb, Option, Some, None}
use Rattle.table.specs.Fields.{head_of, keyed_of, key_of}
use Rattle.table.specs.Lists.{write_at}
use Rattle.table_scans.specs.Scans.{latest_pending}
use Rattle.table_chain.specs.Chain.{first_visible}
use Rattle.read_match.specs.declared.Reading.{Reading}
use Rattle.read_match.specs.declared.Match.{Match}
use Rattle.read_match.specs.declared.Match.TheVariants.{No, Write, Version}

-- what a read looks at: the tables, and who reads what
pub record Look : Type 0 where
  pub rows : List ℕ
  pub versions : List ℕ
  pub lists : List ℕ
  pub reading : Reading

abbrev pub look : List ℕ → List ℕ → List ℕ → Reading → Look
look rows versions lists d = record { rows = rows; versions = versions; lists = lists; reading = d }

-- a key beside the word that says whether there is one; an erasure matches no key
abbrev pub carries : ℕ → ℕ → ℕ → Bool
carries keyed key k = not (eqb keyed 0) && eqb key k

-- by the version that the walk finds
abbrev pub by_version : List ℕ → ℕ → Option ℕ → Match
by_version versions k (Some p) = cond (carries (keyed_of versions p) (key_of versions p) k) (Version p) No
by_version versions k None = No

-- by the pending write at place i
abbrev pub by_write : List ℕ → ℕ → ℕ → ℕ → Match
by_write lists slot i k = cond (carries (write_at lists slot i).keyed (write_at lists slot i).key k) Write No

-- the row's last pending write decides; where it has none, the version that the walk finds
abbrev pub match_by : Look → ℕ → Option ℕ → Match
match_by l r (Some i) = by_write l.lists l.reading.txn.slot i l.reading.key
match_by l r None =
    by_version l.versions l.reading.key (first_visible l.versions l.reading.used l.reading.txn.snapshot (head_of l.rows r))

unfoldable pub match_of : Look → ℕ → Match
match_of l r = match_by l r (latest_pending l.lists l.reading.txn.slot l.reading.txn.writes_n r)

-- whether a row matches, and the pointer that it is matched through: 0 where it is none
abbrev pub is_match : Match → Bool
is_match No = false
is_match Write = true
is_match (Version p) = true

abbrev pub through_of : Match → ℕ
through_of No = 0
through_of Write = 0
through_of (Version p) = p
