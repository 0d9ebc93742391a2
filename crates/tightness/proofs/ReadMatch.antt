-- Wrong bodies of the crate `read_match`.
-- Assumes nothing.
use Prim.Native.Nat.{ℕ}
use mathlib.Core.Path.{refl}
use mathlib.Core.Bool.{cond}
use mathlib.Core.List.{List, []}
use lib.Dec.{eqb}
use Rattle.std.specs.Prelude.{Option, Some, None}
use Rattle.table.specs.Lists.{write_at}
use Rattle.table_scans.specs.Scans.{latest_pending}
use Rattle.txn.specs.declared.Phase.TheVariants as phase
use Rattle.read_match.specs.declared.Reading.{Reading}
use Rattle.read_match.specs.declared.Match.{Match}
use Rattle.read_match.specs.declared.Match.TheVariants.{No, Write}
use Rattle.read_match.specs.Matching.{Look, look, match_by, match_of, is_match}
use Rattle.tightness.specs.Wrong.{Excludes}
use Rattle.tightness.proofs.Apart.{apart, bit}
use Rattle.tightness.proofs.Computes.{computes}
use Rattle.tightness.proofs.Small.{writer, erases, puts}

-- what a match is looked for in: rows, versions, lists, who reads what, and the row
abbrev Given : Type 0
Given = List ℕ × List ℕ × List ℕ × Reading × ℕ

abbrev matches : Given → Match
matches (rows, versions, lists, d, r) = match_of (look rows versions lists d) r

-- row 0 and this key, with these pending writes
abbrev asks : List ℕ → ℕ → Given
asks lists k = ([], [], lists, record { txn = writer (phase.Collected k); key = k; used = 0; room = 0 }, 0)

-- `match_of`: own pending writes are not looked at
pub match-of-writes-unseen : Excludes matches (λ (rows, versions, lists, d, r). match_by (look rows versions lists d) r None)
unfolding computes
match-of-writes-unseen = apart (asks puts 5) (λ m. bit (is_match m)) refl

-- a pending write matches by its key word alone
abbrev by_key_word : Look → ℕ → Option ℕ → Match
by_key_word l r (Some i) = cond (eqb (write_at l.lists l.reading.txn.slot i).key l.reading.key) Write No
by_key_word l r None = match_by l r None

-- `match_of`: an erase matches key 0
pub match-of-erase : Excludes matches
    (λ (rows, versions, lists, d, r). by_key_word (look rows versions lists d) r (latest_pending lists d.txn.slot d.txn.writes_n r))
unfolding computes
match-of-erase = apart (asks erases 0) (λ m. bit (is_match m)) refl
