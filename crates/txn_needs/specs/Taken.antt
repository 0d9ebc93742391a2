-- Whether another has a bucket or a row.
use Rattle.std.specs.Prelude.{ℕ, Bool, List}
use Rattle.base_lists.specs.Lists.{some_of}
use Rattle.txn.specs.Methods.{taken_by}
use Rattle.txn.specs.declared.Transaction.{Transaction}
use Rattle.table.specs.Fields.{claim_of, holder_of}
use Rattle.txn_needs.specs.Needs.{written_by}

-- a bucket of the list is held by another than n; a pending row is claimed by another
abbrev pub any_taken : List ℕ → List ℕ → ℕ → Bool
any_taken buckets bs n = some_of (λ b. taken_by (holder_of buckets b) n) bs

abbrev pub any_claimed : List ℕ → List ℕ → Transaction → Bool
any_claimed rows lists t = some_of (λ r. taken_by (claim_of rows r) t.number) (written_by lists t)
