use Rattle.std.proofs.Common.{◌≡◌, drop}
use Rattle.txn_needs.specs.Needs.{push_all, reads_need}
use Rattle.txn_needs.specs.Listing.{listed_of}
use Rattle.txn_needs.proofs.Listing.push_reads.Given as goal

abbrev pub invariant-loop-i : goal.invariant-loop-i
invariant-loop-i l = record {
  same_words : l.self.out.ghost_name ≡ l.initial.self.out.ghost_name;
  listed : push_all (listed_of l.initial.self) (reads_need l.lists l.t) ≡ push_all (listed_of l.self) (drop l.i (reads_need l.lists l.t));
}
