-- What begin answers and leaves.
use Rattle.std.specs.Prelude.{ℕ, ◌+◌, min, Bool, false, cond, not, List, [], ◌∷◌, eqb, ltb, leb, set, replicate}
use Rattle.base_limits.specs.Limits.{most_active, last_number}
use Rattle.model.specs.Refusals.{NoNumbers, Full}
use Rattle.base_protocol.specs.View.{refusal_told}
use Rattle.base_protocol.specs.declared.Refusal.{Refusal}
use Rattle.base_protocol.specs.declared.Answer.TheVariants as tell
use Rattle.table_chain.specs.declared.Snapshot.{Snapshot}
use Rattle.txn.specs.declared.Phase.TheVariants as phase
use Rattle.txn.specs.declared.Transaction.{Transaction}
use Rattle.base_numbers.specs.Numbers.{one_more}
use Rattle.txn_begin.specs.declared.Kept.{Kept}
use Rattle.txn_begin.specs.declared.Begun.{Begun}

-- one place more: its number is kept where it is not 0 and fewer than seven are kept
unfoldable pub keep_active : Kept → ℕ → Kept
keep_active k x =
    cond (eqb x 0) k
    (cond (leb most_active k.n) k
    (record { active = set k.active k.n x; n = k.n + 1; least = min x k.least }))

unfoldable pub keep_all : Kept → List ℕ → Kept
keep_all k [] = k
keep_all k (x ∷ xs) = keep_all (keep_active k x) xs

abbrev pub kept_none : ℕ → Kept
kept_none clock = record { active = replicate most_active 0; n = 0; least = clock }

-- snapshot xmin is the least of the active numbers and its own, xmax the new clock
abbrev pub snapshot_from : Kept → ℕ → Snapshot
snapshot_from k clock = record { xmin = k.least; xmax = one_more clock; active = k.active; active_n = k.n }

unfoldable pub snapshot_of : List ℕ → ℕ → Snapshot
snapshot_of active clock = snapshot_from (keep_all (kept_none clock) active) clock

-- clock + live transactions + 2 > L
unfoldable pub spent : ℕ → ℕ → Bool
spent clock live = ltb last_number (clock + live + 2)

-- number = clock, clock up by 1
abbrev pub begun_of : Transaction → Snapshot → ℕ → Begun
begun_of t s clock = record {
  answer = tell.Number clock;
  txn = record {
    number = clock;
    snapshot = s;
    marked = false;
    phase = phase.Open;
    slot = t.slot;
    reads_n = 0;
    writes_n = 0;
    records_n = 0;
    candidates_n = 0;
  };
  clock = one_more clock;
}

abbrev pub refused_begin : Transaction → ℕ → Refusal → Begun
refused_begin t clock why = record { answer = tell.Refused why; txn = t; clock = clock }

-- no free place, no numbers left; else the transaction stands at the place of the record that came in
unfoldable pub begin_of : List ℕ → ℕ → ℕ → Transaction → Begun
begin_of active live clock t =
    cond (not (eqb t.number 0)) (refused_begin t clock (refusal_told Full))
    (cond (spent clock live) (refused_begin t clock (refusal_told NoNumbers))
    (begun_of t (snapshot_of active clock) clock))
