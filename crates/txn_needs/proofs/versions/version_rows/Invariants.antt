use Rattle.std.proofs.Common.{◌≡◌, drop}
use Rattle.base_lists.specs.Lists.{join}
use Rattle.txn_needs.specs.Listing.{listed_of}
use Rattle.txn_needs.specs.Needs.{push_all}
use Rattle.txn_needs.specs.Versions.{kept}
use Rattle.txn_needs.proofs.versions.version_rows.Given as goal

abbrev pub invariant-loop-row : goal.invariant-loop-row
invariant-loop-row l = record {
  same_words : l.kept.out.ghost_name ≡ l.initial.kept.out.ghost_name;
  listed : push_all (listed_of l.initial.kept) (join (kept l.rows l.versions l.lists l.slot l.count) l.row-items)
      ≡ push_all (listed_of l.kept) (join (kept l.rows l.versions l.lists l.slot l.count) (drop l.row-index l.row-items));
}
