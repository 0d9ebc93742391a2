-- Each name of a record's word is that of the part which it has, or of the word in its lists; and each of the machine's own is that.
-- Assumes nothing.
use Prim.Native.Nat.{ℕ, ◌+◌, ◌<◌}
use mathlib.Core.Path.{◌≡◌, refl}
use mathlib.Core.List.{List}
use Rattle.std.specs.Prelude.{Some}
use native.Mathlib.Omega.{arith}
use borrow.Author.Tests.{lt-ltb}
use lib.ListN.{length, get_or}
use Rattle.run_script.specs.Names.{named}
use Rattle.base_limits.specs.Limits.{most_live}
use Rattle.model.specs.Store.{rank, bucket_in, key_in}
use Rattle.table.specs.Regions.{words}
use Rattle.table.specs.Lists.{Kind, reads, writes, records, candidates, place_of, read_at, write_at, record_at, candidate_at}
use Rattle.table.proofs.Spans.{words-at}
use Rattle.txn.specs.Methods.{idle_of, mark_word}
use Rattle.txn.specs.View.{phase_view}
use Rattle.txn.specs.declared.Transaction.{Transaction}
use Rattle.run_changes.specs.WordNames.{names}
use Rattle.run_changes.specs.RecordWords.{record_words, own_words}
use Rattle.run_changes.specs.Changes.{State, list_place, lists_place, seen_in, record_seen, look_of}

-- the record at a place
abbrev pub record_in : State → ℕ → Transaction
record_in s place = get_or s.machine.txns place (idle_of place)

-- word f of an entry of a list that is in the slots is seen
entry_seen : (ws : List ℕ) (k : Kind) (f place i : ℕ) → place < most_live → i < k.room → f < k.w → place_of k place i + f < length ws
    → seen_in ws (list_place k f place i) ≡ Some (get_or (words k.w (place_of k place i) ws) f 0)
entry_seen ws k f place i p r h l =
    rw (lt-ltb place most_live p, lt-ltb i k.room r, lt-ltb (place_of k place i + f) (length ws) l, words-at k.w (place_of k place i) ws f h)

module _ (s : State) (place i : ℕ) (live : place < most_live) where
  pub ibucket-named : i < reads.room → place_of reads place i + 0 < length s.lists
      → look_of s (record { name = named "ibucket"; a = place; b = i }) ≡ Some (read_at s.lists place i).bucket
  unfolding names lists_place
  ibucket-named r l = entry_seen s.lists reads 0 place i live r (omega arith) l

  pub istamp-named : i < reads.room → place_of reads place i + 1 < length s.lists
      → look_of s (record { name = named "istamp"; a = place; b = i }) ≡ Some (read_at s.lists place i).stamp
  unfolding names lists_place
  istamp-named r l = entry_seen s.lists reads 1 place i live r (omega arith) l

  pub wrow-named : i < writes.room → place_of writes place i + 0 < length s.lists
      → look_of s (record { name = named "wrow"; a = place; b = i }) ≡ Some (write_at s.lists place i).row
  unfolding names lists_place
  wrow-named r l = entry_seen s.lists writes 0 place i live r (omega arith) l

  pub wkeyed-named : i < writes.room → place_of writes place i + 1 < length s.lists
      → look_of s (record { name = named "wkeyed"; a = place; b = i }) ≡ Some (write_at s.lists place i).keyed
  unfolding names lists_place
  wkeyed-named r l = entry_seen s.lists writes 1 place i live r (omega arith) l

  pub wkey-named : i < writes.room → place_of writes place i + 2 < length s.lists
      → look_of s (record { name = named "wkey"; a = place; b = i }) ≡ Some (write_at s.lists place i).key
  unfolding names lists_place
  wkey-named r l = entry_seen s.lists writes 2 place i live r (omega arith) l

  pub wpayload-named : i < writes.room → place_of writes place i + 3 < length s.lists
      → look_of s (record { name = named "wpayload"; a = place; b = i }) ≡ Some (write_at s.lists place i).payload
  unfolding names lists_place
  wpayload-named r l = entry_seen s.lists writes 3 place i live r (omega arith) l

  pub rrow-named : i < records.room → place_of records place i + 0 < length s.lists
      → look_of s (record { name = named "rrow"; a = place; b = i }) ≡ Some (record_at s.lists place i).row
  unfolding names lists_place
  rrow-named r l = entry_seen s.lists records 0 place i live r (omega arith) l

  pub rpointer-named : i < records.room → place_of records place i + 1 < length s.lists
      → look_of s (record { name = named "rpointer"; a = place; b = i }) ≡ Some (record_at s.lists place i).ptr
  unfolding names lists_place
  rpointer-named r l = entry_seen s.lists records 1 place i live r (omega arith) l

  pub rxmin-named : i < records.room → place_of records place i + 2 < length s.lists
      → look_of s (record { name = named "rxmin"; a = place; b = i }) ≡ Some (record_at s.lists place i).xmin
  unfolding names lists_place
  rxmin-named r l = entry_seen s.lists records 2 place i live r (omega arith) l

  pub crow-named : i < candidates.room → place_of candidates place i + 0 < length s.lists
      → look_of s (record { name = named "crow"; a = place; b = i }) ≡ Some (candidate_at s.lists place i)
  unfolding names lists_place
  crow-named r l = entry_seen s.lists candidates 0 place i live r (omega arith) l

  pub number-named : look_of s (record { name = named "number"; a = place; b = i }) ≡ Some (record_in s place).number
  unfolding names record_seen record_words
  number-named = rw (lt-ltb place most_live live)

  pub snapxmin-named : look_of s (record { name = named "snapxmin"; a = place; b = i }) ≡ Some (record_in s place).snapshot.xmin
  unfolding names record_seen record_words
  snapxmin-named = rw (lt-ltb place most_live live)

  pub snapxmax-named : look_of s (record { name = named "snapxmax"; a = place; b = i }) ≡ Some (record_in s place).snapshot.xmax
  unfolding names record_seen record_words
  snapxmax-named = rw (lt-ltb place most_live live)

  pub acount-named : look_of s (record { name = named "acount"; a = place; b = i }) ≡ Some (record_in s place).snapshot.active_n
  unfolding names record_seen record_words
  acount-named = rw (lt-ltb place most_live live)

  pub mark-named : look_of s (record { name = named "mark"; a = place; b = i }) ≡ Some (mark_word (record_in s place).marked)
  unfolding names record_seen record_words
  mark-named = rw (lt-ltb place most_live live)

  pub phase-named : look_of s (record { name = named "phase"; a = place; b = i }) ≡ Some (rank (phase_view (record_in s place).phase))
  unfolding names record_seen record_words
  phase-named = rw (lt-ltb place most_live live)

  pub held-named : look_of s (record { name = named "held"; a = place; b = i }) ≡ Some (bucket_in (phase_view (record_in s place).phase))
  unfolding names record_seen record_words
  held-named = rw (lt-ltb place most_live live)

  pub sought-named : look_of s (record { name = named "sought"; a = place; b = i }) ≡ Some (key_in (phase_view (record_in s place).phase))
  unfolding names record_seen record_words
  sought-named = rw (lt-ltb place most_live live)

  pub slot-named : look_of s (record { name = named "slot"; a = place; b = i }) ≡ Some (record_in s place).slot
  unfolding names record_seen record_words
  slot-named = rw (lt-ltb place most_live live)

  pub icount-named : look_of s (record { name = named "icount"; a = place; b = i }) ≡ Some (record_in s place).reads_n
  unfolding names record_seen record_words
  icount-named = rw (lt-ltb place most_live live)

  pub wcount-named : look_of s (record { name = named "wcount"; a = place; b = i }) ≡ Some (record_in s place).writes_n
  unfolding names record_seen record_words
  wcount-named = rw (lt-ltb place most_live live)

  pub rcount-named : look_of s (record { name = named "rcount"; a = place; b = i }) ≡ Some (record_in s place).records_n
  unfolding names record_seen record_words
  rcount-named = rw (lt-ltb place most_live live)

  pub ccount-named : look_of s (record { name = named "ccount"; a = place; b = i }) ≡ Some (record_in s place).candidates_n
  unfolding names record_seen record_words
  ccount-named = rw (lt-ltb place most_live live)

module _ (s : State) (a b : ℕ) where
  pub clock-named : look_of s (record { name = named "clock"; a = a; b = b }) ≡ Some s.machine.clock
  unfolding names own_words
  clock-named = refl

  pub used-named : look_of s (record { name = named "used"; a = a; b = b }) ≡ Some s.machine.used
  unfolding names own_words
  used-named = refl

  pub rowcount-named : look_of s (record { name = named "rowcount"; a = a; b = b }) ≡ Some s.machine.sizes.rows
  unfolding names own_words
  rowcount-named = refl

  pub versions-named : look_of s (record { name = named "versions"; a = a; b = b }) ≡ Some s.machine.sizes.versions
  unfolding names own_words
  versions-named = refl

  pub buckets-named : look_of s (record { name = named "buckets"; a = a; b = b }) ≡ Some s.machine.sizes.buckets
  unfolding names own_words
  buckets-named = refl
