-- A store that a program holds, in words: with its lent tables, and with an answer.
use Rattle.std.specs.Prelude.{ℕ, ◌≡◌, List, length}
use Rattle.std.specs.Borrow.{MutBor}
use Rattle.base_protocol.specs.declared.Answer.{Answer}
use Rattle.step.specs.Words.{Words}
use Rattle.shape.specs.Shape.{words_of}
use Rattle.call.specs.Calls.{Left}
use Rattle.toruxeng.specs.declared.Store.{Store}

-- a store and the list lent for the rows found, in words
abbrev pub words_in : Store → List ℕ → Words
words_in s found = words_of s.rows.now s.versions.now s.buckets.now s.lists.now found s.machine

-- an answer, and the words that the store and the list for the rows found have behind it
abbrev pub told : Answer → Store → List ℕ → Left
told answer s found = record { answer = answer; words = words_in s found }

-- a table is the one that was lent, so that what is written goes to its lender, and has as many words
abbrev pub SameTable : MutBor (List ℕ) → MutBor (List ℕ) → Type 0
SameTable before after = (after.ghost_name ≡ before.ghost_name) × (length after.now ≡ length before.now)

-- a store's tables are the ones that it had
abbrev pub SameTables : Store → Store → Type 0
SameTables s t = SameTable s.rows t.rows × SameTable s.versions t.versions × SameTable s.buckets t.buckets × SameTable s.lists t.lists
