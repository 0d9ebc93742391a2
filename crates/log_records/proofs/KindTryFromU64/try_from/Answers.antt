-- `log_records::KindTryFromU64::try_from` meets its contract.
-- Assumes nothing.
use Rattle.std.proofs.Common.{rules}
use Rattle.log_records.proofs.Known.{widths-unknown}
use Rattle.log_records.proofs.KindTryFromU64.try_from.Goals as goal

pub returns-in_default : goal.returns-in_default
returns-in_default c = widths-unknown c.args.number (search rules)
