-- Wrong bodies of the crate `finish_install`.
-- Assumes nothing.
use Prim.Native.Nat.{ℕ}
use mathlib.Core.Path.{refl}
use mathlib.Core.List.{List, []}
use lib.ListN.{replicate}
use Rattle.base_limits.specs.Limits.{most_writes}
use Rattle.txn.specs.declared.Phase.TheVariants as phase
use Rattle.txn.specs.declared.Transaction.{Transaction}
use Rattle.txn.specs.Methods.{with_writes}
use Rattle.txn_needs.specs.Needs.{written_by, front}
use Rattle.txn_needs.specs.Versions.{pending_into}
use Rattle.finish_install.specs.Install.{Left, pushed_rows, to_install, installed, install_of}
use Rattle.tightness.specs.Wrong.{Excludes}
use Rattle.tightness.proofs.Apart.{apart, number_in}
use Rattle.tightness.proofs.Computes.{computes}
use Rattle.tightness.proofs.Small.{live, erases, twice}

-- what the contract of `install` asks for
abbrev install : List ℕ × List ℕ × List ℕ × ℕ × Transaction → Left
install (rows, versions, lists, used, t) = install_of (record { rows = rows; versions = versions; used = used }) lists t

abbrev used_then : Left → ℕ
used_then l = l.reply.used

-- `install`: only the phase changes
pub install-nothing : Excludes install (λ (rows, versions, lists, used, t). installed t (record { rows = rows; versions = versions; used = used }))
unfolding computes
install-nothing = apart ([], [], twice, 0, with_writes (live 5 phase.Prepared) 2) used_then refl

-- `install`: a version for each write, not for each row
pub install-each-write : Excludes install
    (λ (rows, versions, lists, used, t). installed t
    (pushed_rows (record { rows = rows; versions = versions; used = used }) lists t (written_by lists t)))
unfolding computes
install-each-write = apart ([], [], twice, 0, with_writes (live 5 phase.Prepared) 2) used_then refl

-- `install`: in any phase
pub install-any-phase : Excludes install
    (λ (rows, versions, lists, used, t). installed t
    (pushed_rows (record { rows = rows; versions = versions; used = used }) lists t
    (front (to_install (record { rows = rows; versions = versions; used = used }) lists t))))
unfolding computes
install-any-phase = apart ([], [], twice, 0, live 5 phase.Open) (λ (l : Left). number_in l.reply.answer) refl

-- `install`: a version for an erase of nothing
pub install-of-nothing : Excludes install
    (λ (rows, versions, lists, used, t). installed t
    (pushed_rows (record { rows = rows; versions = versions; used = used }) lists t
    (front (pending_into lists t.slot t.writes_n (replicate most_writes 0)))))
unfolding computes
install-of-nothing = apart ([], [], erases, 0, with_writes (live 5 phase.Prepared) 1) used_then refl
