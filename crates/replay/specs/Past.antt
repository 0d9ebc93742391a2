-- What a replay over lent tables leaves past the sizes that its log opens.
use Rattle.std.specs.Prelude.{ℕ, ◌≡◌, Ok, true, false, List, []}
use Rattle.base_protocol.specs.declared.Sizes.{Sizes}
use Rattle.step.specs.Steps.{Tables}
use Rattle.step.specs.Past.{PastKept}
use Rattle.log_records.specs.declared.Command.TheVariants.{Open}
use Rattle.log_records.specs.Records.{decoded_of}
use Rattle.replay.specs.Lent.{Lent, opens_over, lent_left}

-- the four tables, with no row list
abbrev pub four_of : Lent → Tables
four_of t = record { rows = t.rows; versions = t.versions; buckets = t.buckets; lists = t.lists; found = [] }

-- where the log's first record is an open that is accepted, every word past the sizes that it names is as it was lent; else every word of all four tables
pub record LentPast (log : List ℕ) (room : ℕ) (t : Lent) : Type 0 where
  pub opened : (z : Sizes) (clock : ℕ) → (decoded_of log 0).command ≡ Ok (Open z clock) → opens_over t z clock ≡ true
      → PastKept z (four_of t) (four_of (lent_left log room t))
  pub unopened : ((z : Sizes) (clock : ℕ) → (decoded_of log 0).command ≡ Ok (Open z clock) → opens_over t z clock ≡ false) → lent_left log room t ≡ t
