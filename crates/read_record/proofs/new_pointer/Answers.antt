-- Either search finds the pointer, or both miss it.
use Rattle.read_record.proofs.Laws.{contained}
use Rattle.read_record.proofs.new_pointer.Goals.{then-read_already_recorded-via-then-read_already_recorded}
use Rattle.read_record.proofs.new_pointer.Goals.{then-read_already_recorded-via-else-read_already_recorded+then-contains}
use Rattle.read_record.proofs.new_pointer.Goals as goal

pub returns-then-read_already_recorded : goal.returns-then-read_already_recorded
returns-then-read_already_recorded c = elim c.then-read_already_recorded.branch [
  | then-read_already_recorded-via-then-read_already_recorded w ↦ rw (← c.read_already_recorded.ensures, w.if-read_already_recorded.true)
  | then-read_already_recorded-via-else-read_already_recorded+then-contains w ↦ rw (
    ← c.read_already_recorded.ensures,
    w.if-read_already_recorded.false,
    ← contained c.args.ptr c.args.before.now,
    ← w.contains.ensures.value,
    w.if-contains.true,
  )
]

pub returns : goal.returns
returns c = rw (
  ← c.read_already_recorded.ensures,
  c.if-read_already_recorded.false,
  ← contained c.args.ptr c.args.before.now,
  ← c.contains.ensures.value,
  c.if-contains.false,
)
