-- before each record: the words that the locals stand for go on as the whole replay does, and every list keeps its length
use Rattle.std.proofs.Common.{◌≡◌, ◌-◌, length}
use Rattle.step.specs.Words.{others_in}
use Rattle.replay.specs.Replay.{opened_from}
use Rattle.replay.specs.Lent.{fresh_in, words_from}
use Rattle.replay.proofs.Lining.{room_in}
use Rattle.replay.proofs.Going.{Going}
use Rattle.replay.proofs.Zeroes.{words_of}
use Rattle.replay.proofs.Wholes.{wholes}
use Rattle.replay.proofs.replay_steps.Given as goal

abbrev pub invariant-loop-reader : goal.invariant-loop-reader
invariant-loop-reader l =
    let o = l.fn.opened in record {
      log : l.reader.log.now ≡ l.log;
      numbers-long : length l.others.numbers ≡ 8;
      snapshots-long : length l.snapshots ≡ 8;
      rests-long : length l.rests ≡ 8;
      besides : l.others ≡ others_in (wholes l.others.numbers l.snapshots l.rests);
      going : Going l.log l.fn.report (opened_from l.log l.fn.report o)
          (words_from (room_in l.fn.report) l.log o.at o.wrote
          (fresh_in (record { rows = l.fn.rows; versions = l.fn.versions; buckets = l.fn.buckets; lists = l.fn.lists; found = l.fn.found }) o.sizes o.clock))
          l.reader.at l.wrote l.report
          (words_of l.rows l.versions l.buckets l.lists l.found (wholes l.others.numbers l.snapshots l.rests) l.extent.sizes l.extent.clock l.extent.used);
    }

abbrev pub decreases-loop-reader : goal.decreases-loop-reader
decreases-loop-reader l = length l.log - l.reader.at
