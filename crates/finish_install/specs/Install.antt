-- Install: a new version for each of the pending rows that get one.
use Rattle.std.specs.Prelude.{ℕ, cond, not, List, [], ◌∷◌, eqb, replicate, Option, Some, None}
use Rattle.base_limits.specs.Limits.{most_writes}
use Rattle.model.specs.Store.{rank, phase_prepared}
use Rattle.model.specs.Refusals.{WrongPhase}
use Rattle.base_protocol.specs.View.{refusal_told}
use Rattle.base_numbers.specs.Numbers.{one_more}
use Rattle.base_protocol.specs.declared.Answer.TheVariants as tell
use Rattle.table.specs.Fields.{head_of, set_head, set_xmin, set_xmax, set_next, set_keyed, set_key, set_payload}
use Rattle.table.specs.Lists.{write_at}
use Rattle.table.specs.declared.lists.Write.{Write}
use Rattle.table_scans.specs.Scans.{latest_pending}
use Rattle.txn.specs.View.{phase_view}
use Rattle.txn.specs.Methods.{with_phase}
use Rattle.txn.specs.declared.Phase.TheVariants as phase
use Rattle.txn.specs.declared.Transaction.{Transaction}
use Rattle.txn_needs.specs.Needs.{Listed, front}
use Rattle.txn_needs.specs.Versions.{versions_into}
use Rattle.finish_install.specs.declared.Installed.{Installed}

-- a row's last pending write; an erase where it has none
abbrev pub write_found : List ℕ → ℕ → ℕ → Option ℕ → Write
write_found lists slot r (Some i) = write_at lists slot i
write_found lists slot r None = record { row = r; keyed = 0; key = 0; payload = 0 }

unfoldable pub last_write_of : List ℕ → ℕ → ℕ → ℕ → Write
last_write_of lists slot n r = write_found lists slot r (latest_pending lists slot n r)

-- a new version at pointer p: xmin = number, xmax 0, next = old head, key and payload from the write
unfoldable pub version_stored : List ℕ → ℕ → ℕ → ℕ → Write → List ℕ
version_stored versions p n next w = set_payload (set_key (set_keyed (set_next (set_xmax (set_xmin versions p n) p 0) p next) p w.keyed) p w.key) p w.payload

-- the tables and the last used pointer
pub record Chains : Type 0 where
  pub rows : List ℕ
  pub versions : List ℕ
  pub used : ℕ

-- one row: the new version is its head, and the old head's xmax = number
unfoldable pub pushed_row : Chains → List ℕ → Transaction → ℕ → Chains
pushed_row c lists t r = record {
  rows = set_head c.rows r (one_more c.used);
  versions = set_xmax
      (version_stored c.versions (one_more c.used) t.number (head_of c.rows r) (last_write_of lists t.slot t.writes_n r))
      (head_of c.rows r) t.number;
  used = one_more c.used;
}

unfoldable pub pushed_rows : Chains → List ℕ → Transaction → List ℕ → Chains
pushed_rows c lists t [] = c
pushed_rows c lists t (r ∷ rs) = pushed_rows (pushed_row c lists t r) lists t rs

-- all that install leaves
pub record Left : Type 0 where
  pub reply : Installed
  pub rows : List ℕ
  pub versions : List ℕ

-- the distinct pending rows of a transaction that get a version, as install lists them
unfoldable pub to_install : Chains → List ℕ → Transaction → Listed
to_install c lists t = versions_into c.rows c.versions lists t.slot t.writes_n (replicate most_writes 0)

abbrev pub installed : Transaction → Chains → Left
installed t c = record { reply = record { answer = tell.Done; txn = with_phase t phase.Installed; used = c.used }; rows = c.rows; versions = c.versions }

-- wrong phase; else each of those rows gets its version
unfoldable pub install_of : Chains → List ℕ → Transaction → Left
install_of c lists t =
    cond (not (eqb (rank (phase_view t.phase)) phase_prepared))
    (record { reply = record { answer = tell.Refused (refusal_told WrongPhase); txn = t; used = c.used }; rows = c.rows; versions = c.versions })
    (installed t (pushed_rows c lists t (front (to_install c lists t))))
