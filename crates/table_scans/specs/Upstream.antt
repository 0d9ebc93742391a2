-- Upstream's own definition of a row's last write, with the write's place for its pointer: here the version is made at install.
use Rattle.std.specs.Prelude.{ℕ, zero, suc, List, cond, get_or, eqb, Option, Some, None}
use Rattle.table.specs.declared.lists.Write.{Write}

-- no write: what stands past the end of a list of them
abbrev pub no_write : Write
no_write = record { row = 0; keyed = 0; key = 0; payload = 0 }

-- `last_write`: the last of the first n writes with this row
unfoldable pub last_write : List Write → ℕ → ℕ → Option ℕ
last_write ws id zero = None
last_write ws id (suc n) = cond (eqb (get_or ws n no_write).row id) (Some n) (last_write ws id n)
