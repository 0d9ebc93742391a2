-- The page of statements: request (xiii), of any sequence of steps from a fresh store, refused ones included. Assumes nothing.
-- All that it says is defined in specs/; each proof is one line. A run to see the definitions at work stands in Sample.
use mathlib.Core.Path.{◌≡◌}
use mathlib.Core.Option.{some}
use mathlib.Core.List.{List}
use Prim.Native.Nat.{ℕ}
use Rattle.base_lists.specs.Lists.{Among}
use Rattle.model.specs.Store.{Sizes, Store, key_in}
use Rattle.model.specs.Contents.{Content}
use Rattle.model.specs.Refusals.{Step, rows, txn_of}
use Rattle.model.specs.Machine.{Rows, step}
use Rattle.model_in_turn.specs.Done.{returned}
use Rattle.model_in_turn.specs.InTurn.{RunInTurn}
use Rattle.model_in_turn.proofs.Returned.{returned-keys}
use Rattle.model_in_turn.proofs.InTurn.{in-turn}

-- The payments were as if made in turn.
pub one-after-another : (z : Sizes) (clock : ℕ) (steps : List Step) → RunInTurn z clock steps
one-after-another = in-turn

-- What a read is said to return is what was asked for: each row holds the key that the transaction captured, with some payload. Of any store.
pub read-keys : (s : Store) (t room : ℕ) (rs : List ℕ) → (step s (rows t room)).answer ≡ Rows rs → (q : ℕ × Content) → Among q (returned s t (Rows rs))
    → (payload : ℕ) × (q.1 ≡ some (key_in (txn_of s t).phase, payload))
read-keys = returned-keys
