-- One row more, where it gets a version, and none left.
use Rattle.std.proofs.Common.{sym, ◌∙◌, ap, ◌≡◌, ◌<◌, ◌≤◌, ℕ, List, ◌∷◌, ◌+◌, length, take, drop, get_or, replicate}
use Rattle.std.proofs.Common.{arith, rules, refl, add-one, drop-cons, drop_of_length-le}
use Rattle.base_limits.specs.Limits.{most_writes}
use Rattle.txn_needs.proofs.Laws.{join-turn, join-none}
use Rattle.txn_needs.proofs.Reserving.{front_cut, row_kept, row_passed}
use Rattle.txn_needs.specs.Listing.{listed_of}
use Rattle.txn_needs.specs.Needs.{Listed, front}
use Rattle.txn_needs.specs.Versions.{pending_into, versions_into}
use Rattle.txn_needs.proofs.versions.version_rows.Goals as goal
use Rattle.txn_needs.proofs.versions.version_rows.Goals.{then-gets, else-gets}

-- the next row of those that are left
left : (l : List ℕ) (i : ℕ) → i < length l → drop i l ≡ get_or l i 0 ∷ drop (i + 1) l
left l i h = rw (add-one, drop-cons l i 0)

pub loop-row-preserved : goal.loop-row-preserved
loop-row-preserved c =
    let rows = take c.min.result c.pending_rows-n.new.out in
    let h : c.loop-row.row-index < length rows = omega arith in
    let e = left rows c.loop-row.row-index h in
    elim c.if-gets.branch [
      | then-gets w ↦ record {
        same_words = rw w.kept-is (w.push.ensures.same_words ∙ c.loop-row.invariant.same_words);
        listed = c.loop-row.invariant.listed
            ∙ join-turn _ _ _ rows c.loop-row.row-index _ e
            (rw w.kept-is (row_kept _ _ _ _ _ _ _ _ _ c.gets_version-gets.ensures w.if-gets.true w.push.ensures.listed));
      }
      | else-gets w ↦ record {
        same_words = rw w.kept-is c.loop-row.invariant.same_words;
        listed = c.loop-row.invariant.listed
            ∙ join-turn _ _ _ rows c.loop-row.row-index _ e
            (rw w.kept-is (row_passed _ _ _ _ _ _ _ _ _ c.gets_version-gets.ensures w.if-gets.false refl));
      }
    ]

pub returns : goal.returns
unfolding versions_into
returns c =
    let a = c.args in
    let pending : Listed = record { out = c.pending_rows-n.new.out; n = c.pending_rows-n.result } in
    let past : length (take c.min.result pending.out) ≤ c.loop-row.row-index = omega arith in
    let same : take c.min.result pending.out ≡ front (pending_into a.lists.now a.slot a.count (replicate most_writes 0)) =
    front_cut pending _ c.min.ensures (search rules) ∙ ap front c.pending_rows-n.ensures in
    let told : listed_of c.loop-row.kept ≡ versions_into a.rows.now a.versions.now a.lists.now a.slot a.count a.out.now =
    sym (c.loop-row.invariant.listed ∙ join-none _ _ _ (drop_of_length-le _ past))
    ∙ rw (c.new-kept.ensures.listed, same) in
    search rules
