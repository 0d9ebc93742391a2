use Rattle.std.proofs.Common.{◌+◌, ◌*◌}
use Rattle.table.specs.Lists.{slot_words}
use Rattle.table.proofs.Spans.{words-at}
use Rattle.table.proofs.lists.SlotList.get.Goals as goal

pub returns : goal.returns
returns c =
    let a = c.args in
    rw (c.word.ensures, c.place.ensures, words-at a.self.words (slot_words * a.slot + a.self.at + a.self.words * a.i) a.lists.now a.k c.requires)
