-- Upstream's own definitions of what a transaction sees, over the words of the table, with the own number beside the snapshot.
use Rattle.std.specs.Prelude.{ℕ, ◌≤◌, ◌<◌, ◌≡◌, List, Bool, true, false, cond, not, ◌&&◌, ◌||◌, eqb, leb, ltb, Option, Some, None}
use Rattle.base_lists.specs.Lists.{member}
use Rattle.table.specs.Fields.{xmin_of, xmax_of, next_of}
use Rattle.table_chain.specs.declared.Snapshot.{Snapshot}
use Rattle.table_chain.specs.Chain.{active_of, known}

-- `creator_visible`
abbrev pub creator_visible : ℕ → Snapshot → ℕ → Bool
creator_visible own s n = eqb n own || (ltb n s.xmin || (ltb n s.xmax && not (member n (active_of s))))

-- `visible`
abbrev pub row_visible : ℕ → Snapshot → ℕ → ℕ → Bool
row_visible own s xminᵥ xmaxᵥ =
    eqb xminᵥ own
    || (creator_visible own s xminᵥ && (eqb xmaxᵥ 0 || (not (eqb xmaxᵥ own) && (leb s.xmax xmaxᵥ || member xmaxᵥ (active_of s)))))

-- one step of `first_visible`, where `rest` is what it gives from the next pointer
abbrev pub chain_step : ℕ → List ℕ → ℕ → Snapshot → (ℕ → Option ℕ) → ℕ → Option ℕ
chain_step own versions used s rest p =
    cond (eqb p 0 || not (known versions used p)) None
    (cond (row_visible own s (xmin_of versions p) (xmax_of versions p)) (Some p) (rest (next_of versions p)))

-- a snapshot as begin takes it: the own number is below xmax and not active, and xmin is at most it and each active number
pub record Taken (own : ℕ) (s : Snapshot) : Type 0 where
  pub below : own < s.xmax
  pub apart : member own (active_of s) ≡ false
  pub least-own : s.xmin ≤ own
  pub least-active : (n : ℕ) → member n (active_of s) ≡ true → s.xmin ≤ n
