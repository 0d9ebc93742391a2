use Rattle.std.proofs.Common.{◌≡◌, drop}
use Rattle.txn_needs.specs.Needs.{push_all, rows_written}
use Rattle.txn_needs.specs.Listing.{listed_of}
use Rattle.txn_needs.proofs.versions.push_rows.Given as goal

abbrev pub invariant-loop-i : goal.invariant-loop-i
invariant-loop-i l = record {
  same_words : l.out.out.ghost_name ≡ l.initial.out.out.ghost_name;
  listed : push_all (listed_of l.initial.out) (rows_written l.lists l.slot l.count)
      ≡ push_all (listed_of l.out) (drop l.i (rows_written l.lists l.slot l.count));
}
