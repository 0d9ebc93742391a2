-- No pending write gets no version; else as many as are listed, within the room for them.
use Rattle.std.proofs.Common.{sym, ◌∙◌, ap, min}
use Rattle.base_limits.specs.Limits.{most_writes}
use Rattle.txn_needs.specs.Needs.{Listed}
use Rattle.txn_needs.specs.Versions.{versions_in}
use Rattle.txn_needs.proofs.Reserving.{versions-none}
use Rattle.txn_needs.proofs.versions.count_versions.Goals as goal

pub returns-then-count-eq0 : goal.returns-then-count-eq0
returns-then-count-eq0 c =
    rw c.if-count-eq0.true (sym (versions-none c.args.rows.now c.args.versions.now c.args.lists.now c.args.slot))

pub returns : goal.returns
unfolding versions_in
returns c = c.min.ensures ∙ ap (λ (l : Listed). min l.n most_writes) c.version_rows.ensures
