-- Pointers in range, as the code tests them, word by word.
use Rattle.std.specs.Prelude.{ℕ, suc, Bool, ◌&&◌, List, ltb, leb}
use Rattle.base_lists.specs.Lists.{every}
use Rattle.base_protocol.specs.declared.Sizes.{Sizes}
use Rattle.table.specs.Fields.{head_of, next_of}

-- heads at most the last used pointer; each next below its own pointer
abbrev pub heads_in : List ℕ → ℕ → ℕ → Bool
heads_in rows n used = every n (λ r. leb (head_of rows r) used)

abbrev pub nexts_fall : List ℕ → ℕ → Bool
nexts_fall versions used = every used (λ p. ltb (next_of versions (suc p)) (suc p))

-- and no pointer is used that the store does not have
abbrev pub chains_fit : List ℕ → List ℕ → Sizes → ℕ → Bool
chains_fit rows versions z used = leb used z.versions && heads_in rows z.rows used && nexts_fall versions used
