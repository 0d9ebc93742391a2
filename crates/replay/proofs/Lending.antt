-- A replay over lent tables, by its first record: as any replay, or 16; and the tables that it leaves.
-- Assumes nothing.
use borrow.Author.Tests.{le-leb, lt-leb}
use Prim.Native.Nat.{ℕ, ◌+◌, ◌*◌, ◌<◌, ◌≤◌}
use mathlib.Core.Path.{◌≡◌, refl, sym, ap, subst, ◌∙◌}
use mathlib.Core.Bool.{Bool, true, false, cond, not, ◌&&◌}
use mathlib.Core.Logic.{◌≢◌}
use mathlib.Core.Option.{Option, none, some}
use mathlib.Core.List.{List, []}
use native.Mathlib.Omega.{arith}
use lib.ListN.{length, drop}
use Rattle.model.specs.Refusals.{NoRoom, refusal_number}
use Rattle.model.specs.Store.{Sizes as Sizes'}
use Rattle.model.specs.Log as bytes
use Rattle.model.specs.Log.{read_record, whole}
use Rattle.model.specs.Machine.{can_open}
use Rattle.model.specs.Replay.{opens_too_short, replay, replay_lent}
use Rattle.base_protocol.specs.declared.Refusal.{Refusal}
use Rattle.base_protocol.specs.declared.Refusal.TheVariants as why
use Rattle.base_protocol.specs.declared.Answer.TheVariants as tell
use Rattle.base_protocol.specs.declared.Sizes.{Sizes}
use Rattle.base_protocol.specs.View.{sizes_view, number_told}
use Rattle.step.specs.Steps.{Tables}
use Rattle.shape.specs.Shape.{tables_lent}
use Rattle.call.specs.Calls as Opening
use Rattle.call.specs.Calls.{open_of}
use Rattle.std.proofs.Common.{Some, None, Ok, Err}
use Rattle.log_records.specs.declared.Command.TheVariants.{Open, Ask}
use Rattle.log_records.specs.declared.Decoded.{Decoded}
use Rattle.log_records.specs.Records.{decoded_of}
use Rattle.log_records.proofs.Reading.{Told, NoOpen, read_none, Reads, reads, read-malformed, read-open, read-ask}
use Rattle.report.specs.Written.{Written, written_at}
use Rattle.report.specs.Lines.{open_line}
use Rattle.replay.specs.declared.stop.Stopped.{Stopped}
use Rattle.replay.specs.declared.Opened.{Opened}
use Rattle.replay.specs.Stops.{Left, unopened_at}
use Rattle.replay.specs.Replay.{Leaves, opened_from}
use Rattle.replay.specs.Lent.{Lent, lent_in, long_enough, opened_in, fresh_in, words_from, words_opened, lent_left, LeftLent, replayed_in, lent_of}
use Rattle.replay.proofs.Lining.{room_in, last_line}
use Rattle.replay.proofs.Zeroes.{opened-fresh}
use Rattle.replay.proofs.First.{left-unopened, left-full, too_long, fits, ended, kept, left-on}

-- where it is no open that the tables are too short for, it is any replay
pub lent-as : (lent : Sizes' → Bool) (log : List ℕ) (room : ℕ) → opens_too_short lent (read_record log) ≡ false → replay_lent lent log room ≡ replay log room
unfolding replay_lent
lent-as lent log room e = rw e

-- no bytes are no record
none-whole : (log : List ℕ) → length log ≤ 0 → whole log ≡ false
unfolding whole
none-whole log h = rw (lt-leb 4 (length log) (omega arith))

module _ (log report : List ℕ) (t : Lent) where
  short-by : (o : Option (bytes.Command × List ℕ)) → read_record log ≡ o → opens_too_short (long_enough t) o ≡ false
      → replayed_in log report t ≡ replay log (length report)
  short-by o e f = lent-as (long_enough t) log (length report) (rw e f)

  -- an empty log
  pub unread : length log ≤ 0 → (replayed_in log report t ≡ replay log (length report)) × (lent_left log (room_in report) t ≡ t)
  unfolding lent_left decoded_of
  unread h = let e = read_none log (none-whole log h) in (short-by none e refl, rw e)

  module _ {d : Decoded} (ed : d ≡ decoded_of log 0) where
    there : Reads log 0 d
    there = subst (λ (x : Decoded). Reads log 0 x) (sym ed) (reads log 0)

    -- no open: as any replay, and the tables are as found
    unopened-by : (c : Told) → d.command ≡ c → NoOpen c → (replayed_in log report t ≡ replay log (length report)) × (lent_left log (room_in report) t ≡ t)
    unfolding lent_left
    unopened-by (Ok (Open z clock)) e other = absurd (other z clock refl)
    unopened-by (Ok (Ask s)) e other = (short-by _ (read-ask there s e) refl, rw (← ed, e))
    unopened-by (Err m) e other = (short-by none (read-malformed there m e) refl, rw (← ed, e))

    pub unopened : NoOpen d.command → (replayed_in log report t ≡ replay log (length report)) × (lent_left log (room_in report) t ≡ t)
    unopened other = unopened-by d.command refl other

    -- an open
    module _ {z : Sizes} {clock : ℕ} (is : d.command ≡ Ok (Open z clock)) where
      abbrev can : Bool
      can = can_open (sizes_view z) clock

      abbrev long : Bool
      long = tables_lent t.rows t.versions t.buckets t.lists z

      opening : read_record log ≡ some (bytes.Opening (sizes_view z) clock, drop d.next log)
      opening = read-open there z clock is

      lent-opened : lent_left log (room_in report) t ≡ cond (can && long) (lent_in (words_opened (room_in report) log d.next (opened_in t z clock))) t
      unfolding lent_left
      lent-opened = rw (← ed, is)

      -- where the open is accepted or its sizes are wrong, any replay
      pub as-any : can && not long ≡ false → replayed_in log report t ≡ replay log (length report)
      as-any f = short-by _ opening f

      pub tables-refused : can && long ≡ false → lent_left log (room_in report) t ≡ t
      tables-refused f = lent-opened ∙ rw f

      pub tables-opened : can ≡ true → long ≡ true → lent_left log (room_in report) t ≡ lent_in (words_opened (room_in report) log d.next (opened_in t z clock))
      tables-opened a b = lent-opened ∙ rw (a, b)

      -- else 16
      pub too-short : can ≡ true → long ≡ false → (l : Left) → l ≡ unopened_at report 16 → Leaves l.stopped l.report (replayed_in log report t) report
      unfolding replay_lent
      too-short a b l e = rw (opening, a, b) (last_line report [] _ (omega arith) 16 (omega arith) l e)

-- what an open answers, by its two tests
module _ (t : Lent) (z : Sizes) (clock : ℕ) where
  abbrev opens : Opening.Left
  opens = open_of t.rows t.versions t.buckets t.lists z clock

  abbrev size_in : Bool
  size_in = can_open (sizes_view z) clock

  abbrev table-long : Bool
  table-long = tables_lent t.rows t.versions t.buckets t.lists z

  wrong_size : size_in ≡ false → (opens.answer ≡ tell.Refused why.WrongSize) × (lent_in opens.words ≡ t)
  unfolding open_of
  wrong_size a = rw a (refl, refl)

  wrong-length : size_in ≡ true → table-long ≡ false → (opens.answer ≡ tell.Refused why.WrongShape) × (lent_in opens.words ≡ t)
  unfolding open_of
  wrong-length a b = rw (a, b) (refl, refl)

  right : size_in ≡ true → table-long ≡ true → opens.answer ≡ tell.Done
  unfolding open_of
  right a b = rw (a, b)

  -- an open that is not refused is accepted
  pub record Accepted : Type 0 where
    pub size : size_in ≡ true
    pub long : table-long ≡ true
    pub answer : opens.answer ≡ tell.Done

  pub accepted : ((r : Refusal) → opens.answer ≢ tell.Refused r) → Accepted
  accepted n = go size_in table-long refl refl
    where
      go : (a b : Bool) → size_in ≡ a → table-long ≡ b → Accepted
      go true true ea eb = record { size = ea; long = eb; answer = right ea eb }
      go true false ea eb = absurd (n why.WrongShape (wrong-length ea eb).0)
      go false b ea eb = absurd (n why.WrongSize (wrong_size ea).0)

  -- of a refused one: its line is written, and the tables stay
  module _ (log report : List ℕ) (h : 0 < length log) {d : Decoded} (ed : d ≡ decoded_of log 0) (is : d.command ≡ Ok (Open z clock)) where
    pub refused : (r : Refusal) → opens.answer ≡ tell.Refused r → (l : Left) → l ≡ unopened_at report (number_told r)
        → Leaves l.stopped l.report (replayed_in log report t) report × (lent_in opens.words ≡ lent_left log (room_in report) t)
    refused r e l el = go size_in table-long refl refl
      where
        go : (a b : Bool) → size_in ≡ a → table-long ≡ b
            → Leaves l.stopped l.report (replayed_in log report t) report × (lent_in opens.words ≡ lent_left log (room_in report) t)
        go true true ea eb = let done = right ea eb in absurd cc
        go true false ea eb =
            let w = wrong-length ea eb in
            let same : r ≡ why.WrongShape = cc (e, w.0) in (
              too-short log report t ed is ea eb l (rw same at el),
              w.1 ∙ sym (tables-refused log report t ed is (rw (ea, eb))),
            )
        go false b ea eb =
            let w = wrong_size ea in
            let same : r ≡ why.WrongSize = cc (e, w.0) in (
              rw (as-any log report t ed is (rw ea)) (left-unopened log report h ed is ea l (rw same at el)),
              w.1 ∙ sym (tables-refused log report t ed is (rw ea)),
            )

    -- behind an accepted one
    module _ (a : Accepted) {line : Written} (el : line ≡ written_at report 0 (open_line 0)) where
      any : replayed_in log report t ≡ replay log (length report)
      any = as-any log report t ed is (rw (a.size, a.long))

      opened-tables : lent_left log (room_in report) t ≡ lent_in (words_opened (room_in report) log d.next (opened_in t z clock))
      opened-tables = tables-opened log report t ed is a.size a.long

      -- its line does not fit
      pub lent-full : line.wrote ≡ None
          → Leaves (record { status = refusal_number NoRoom; wrote = 0 }) line.report (replayed_in log report t) report
          × (lent_in opens.words ≡ lent_left log (room_in report) t)
      lent-full q = (
        rw any (left-full log report h ed is a.size el q),
        sym (opened-tables ∙ rw (lt-leb (length (open_line 0)) (room_in report) (too_long log report h ed is a.size el q))),
      )

      -- it fits, and the others follow
      module _ {end : ℕ} (q : line.wrote ≡ Some end) where
        abbrev goes-from : Opened
        goes-from = record { sizes = z; clock = clock; at = d.next; wrote = end }

        pub lent-on : (r : Stopped) (after : List ℕ) (b : Tables)
            → Leaves r after (opened_from log line.report goes-from) line.report
            × (b ≡ (words_from (room_in line.report) log d.next end (fresh_in (opened_in t z clock).tables z clock)).tables)
            → Leaves r after (replayed_in log report t) report
            × (record { rows = b.rows; versions = b.versions; buckets = b.buckets; lists = b.lists } ≡ lent_left log (room_in report) t)
        lent-on r after b e =
            let words : words_from (room_in line.report) log d.next end (fresh_in (opened_in t z clock).tables z clock)
            ≡ words_opened (room_in report) log d.next (opened_in t z clock) =
            rw (
              opened-fresh t z clock a.answer,
              kept log report h ed is a.size el q,
              ended log report h ed is a.size el q,
              le-leb (length (open_line 0)) (room_in report) (fits log report h ed is a.size el q),
            ) in (
              rw any (left-on log report h ed is a.size el q r after e.0),
              ap (λ (x : Tables). record { rows = x.rows; versions = x.versions; buckets = x.buckets; lists = x.lists }) e.1
                  ∙ ap lent_in words ∙ sym opened-tables,
            )

-- all that is left, put together
pub all_left : (log old report : List ℕ) (t b : Lent) (r : Stopped)
    → Leaves r report (replayed_in log old t) old × (b ≡ lent_left log (room_in old) t)
    → ◌≡◌ {A = LeftLent} (record { answer = r.status * 4294967296 + r.wrote; report = report; tables = b }) (lent_of log old t)
unfolding lent_of
all_left log old report t b r e =
    parts (ap (λ (l : Left). l.stopped.status * 4294967296 + l.stopped.wrote) e.0.0) (ap (λ (l : Left). l.report) e.0.0) e.1
  where
    parts : {a a' : ℕ} {x x' : List ℕ} {y y' : Lent} → a ≡ a' → x ≡ x' → y ≡ y'
        → ◌≡◌ {A = LeftLent} (record { answer = a; report = x; tables = y }) (record { answer = a'; report = x'; tables = y' })
    parts p q h = rw (p, q, h)
