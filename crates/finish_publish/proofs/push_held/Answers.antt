-- A bucket, then those of the index reads, then those of the pending rows.
use Rattle.std.proofs.Common.{◌≡◌, ℕ, List, [], ◌∷◌, ◌++◌}
use Rattle.txn_needs.specs.Needs.{Listed, push_one, push_all}
use Rattle.txn_needs.proofs.Laws.{push-append}
use Rattle.finish_publish.specs.Publish.{needed_in}
use Rattle.finish_publish.proofs.push_held.Goals as goal

three : (st₀ st₁ st₂ st₃ : Listed) (x : ℕ) (xs ys : List ℕ) → st₁ ≡ push_one st₀ x → st₂ ≡ push_all st₁ xs → st₃ ≡ push_all st₂ ys
    → st₃ ≡ push_all st₀ ((x ∷ []) ++ xs ++ ys)
unfolding push_all
three st₀ st₁ st₂ st₃ x xs ys a b d = rw (d, b, a, push-append)

pub returns-clause-listed : goal.returns-clause-listed
unfolding needed_in
returns-clause-listed c =
    three _ _ _ _ _ _ _ (rw c.bucket_in.ensures at c.push.ensures.listed) c.push_reads.ensures.listed c.push_writes.ensures.listed
