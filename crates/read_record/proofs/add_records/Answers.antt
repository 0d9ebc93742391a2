-- Each turn stores the record of one pointer more, where it is new.
use Rattle.std.proofs.Common.{sym, ap, ◌≡◌, ◌+◌, ◌<◌, ◌∙◌, length, get_or, drop, arith}
use lib.ListN.{drop_of_length-le}
use Rattle.read_record.specs.Recording.{records_for, put_records}
use Rattle.read_record.specs.Inner.{count_of, Behind, add_record}
use Rattle.read_record.proofs.Laws.{put_next, add-next}
use Rattle.read_record.proofs.add_records.Goals as goal

pub loop-i-preserved : goal.loop-i-preserved
loop-i-preserved c =
    let a = c.args in
    let l = c.loop-i in
    let r = c.add_record-at in
    let rs = a.matched.now in
    let ps = a.through.now in
    let st : Behind = record { at = l.at; lists = l.lists } in
    let here : l.i < length ps = omega arith in
    let done : ◌≡◌ {A = Behind} (record { at = r.result; lists = r.new.lists })
    (add_record a.versions.now st a.slot (get_or rs l.i 0) (get_or ps l.i 0)) = rw c.word.ensures at r.ensures in
    record {
      count =
          ap (λ (k : Behind). k.at + count_of (drop (l.i + 1) ps)) done
          ∙ (add-next a.versions.now ps a.slot (get_or rs l.i 0) l.i st here ∙ l.invariant.count);
      left =
          l.invariant.left
          ∙ (put_next a.versions.now rs ps a.slot l.i st here
          ∙ ap (λ (k : Behind). put_records k.lists a.slot k.at (records_for a.versions.now (drop (l.i + 1) rs) (drop (l.i + 1) ps))) (sym done));
    }

pub returns : goal.returns
unfolding records_for put_records
returns c = sym (c.loop-i.invariant.left ∙ rw (drop_of_length-le c.args.through.now {i = c.loop-i.i} (omega arith)))
