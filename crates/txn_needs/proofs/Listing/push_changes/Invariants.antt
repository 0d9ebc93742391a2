use Rattle.std.proofs.Common.{◌≡◌, drop}
use Rattle.base_lists.specs.Lists.{join}
use Rattle.txn_needs.specs.Needs.{push_all, write_changes, written_by}
use Rattle.txn_needs.specs.Listing.{listed_of}
use Rattle.txn_needs.proofs.Listing.push_changes.Given as goal

abbrev pub invariant-loop-i : goal.invariant-loop-i
invariant-loop-i l = record {
  same_words : l.self.out.ghost_name ≡ l.initial.self.out.ghost_name;
  listed : push_all (listed_of l.initial.self) (join (write_changes l.rows l.versions l.lists l.bucket_count l.t) (written_by l.lists l.t))
      ≡ push_all (listed_of l.self) (join (write_changes l.rows l.versions l.lists l.bucket_count l.t) (drop l.i (written_by l.lists l.t)));
}
