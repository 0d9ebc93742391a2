-- One number more.
use Rattle.std.specs.Prelude.{ℕ, ◌+◌, cond, ltb}
use Rattle.base_limits.specs.Limits.{last_number}

-- one more, but the very last number stays
unfoldable pub one_more : ℕ → ℕ
one_more x = cond (ltb x last_number) (x + 1) x
