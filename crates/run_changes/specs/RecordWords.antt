-- A record and the machine's own numbers as words, in the order of their names, and back.
use Rattle.std.specs.Prelude.{ℕ, ◌%◌, not, List, [], ◌∷◌, eqb, get_or}
use Rattle.model.specs.Store.{rank, bucket_in, key_in}
use Rattle.txn.specs.View.{phase_view}
use Rattle.txn.specs.Methods.{mark_word, phase_from}
use Rattle.txn.specs.declared.Transaction.{Transaction}
use Rattle.shape.specs.declared.Machine.{Machine}

-- number, snapshot xmin and xmax, count of active numbers, mark, phase with the bucket and the key that it carries, slot, counts of the four lists; then the
-- seven active numbers
unfoldable pub record_words : Transaction → List ℕ
record_words t =
    t.number
    ∷ t.snapshot.xmin
    ∷ t.snapshot.xmax
    ∷ t.snapshot.active_n
    ∷ mark_word t.marked
    ∷ rank (phase_view t.phase)
    ∷ bucket_in (phase_view t.phase)
    ∷ key_in (phase_view t.phase)
    ∷ t.slot
    ∷ t.reads_n
    ∷ t.writes_n
    ∷ t.records_n
    ∷ t.candidates_n
    ∷ get_or t.snapshot.active 0 0
    ∷ get_or t.snapshot.active 1 0
    ∷ get_or t.snapshot.active 2 0
    ∷ get_or t.snapshot.active 3 0
    ∷ get_or t.snapshot.active 4 0
    ∷ get_or t.snapshot.active 5 0
    ∷ get_or t.snapshot.active 6 0
    ∷ []

-- a slot and a count have 32 bits
abbrev pub low : ℕ → ℕ
low n = n % 4294967296

-- the record of some words
unfoldable pub record_of : List ℕ → Transaction
record_of ws = record {
  number = get_or ws 0 0;
  snapshot = record {
    xmin = get_or ws 1 0;
    xmax = get_or ws 2 0;
    active = get_or ws 13 0 ∷ get_or ws 14 0 ∷ get_or ws 15 0 ∷ get_or ws 16 0 ∷ get_or ws 17 0 ∷ get_or ws 18 0 ∷ get_or ws 19 0 ∷ [];
    active_n = get_or ws 3 0;
  };
  marked = not (eqb (get_or ws 4 0) 0);
  phase = phase_from (get_or ws 5 0) (get_or ws 6 0) (get_or ws 7 0);
  slot = low (get_or ws 8 0);
  reads_n = low (get_or ws 9 0);
  writes_n = low (get_or ws 10 0);
  records_n = low (get_or ws 11 0);
  candidates_n = low (get_or ws 12 0);
}

-- clock, last used pointer, row count, version count, bucket count
unfoldable pub own_words : Machine → List ℕ
own_words m = m.clock ∷ m.used ∷ m.sizes.rows ∷ m.sizes.versions ∷ m.sizes.buckets ∷ []

unfoldable pub own_of : List Transaction → List ℕ → Machine
own_of txns ws = record {
  sizes = record { rows = get_or ws 2 0; versions = get_or ws 3 0; buckets = get_or ws 4 0 };
  clock = get_or ws 0 0;
  used = get_or ws 1 0;
  txns = txns;
}
