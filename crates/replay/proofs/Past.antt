-- A replay over lent tables writes nothing past the sizes that its log opens, and nothing where it opens none.
-- Assumes nothing.
use Prim.Native.Nat.{ℕ, zero, suc, ◌+◌, ◌≤◌}
use mathlib.Core.Path.{◌≡◌, refl}
use mathlib.Core.Bool.{true, false}
use mathlib.Core.List.{List, []}
use native.Mathlib.Omega.{arith}
use lib.Dec.{leb, ltb}
use lib.ListN.{length, replicate, length-replicate}
use Rattle.base_limits.specs.Limits.{most_rows, last_number}
use Rattle.base_lists.proofs.ListLaws.{and_l, and_r}
use Rattle.model.specs.Store.{Sizes as Sizes'}
use Rattle.model.specs.Machine.{can_open}
use Rattle.model.specs.Log as bytes
use Rattle.model.proofs.Good.{right-shape}
use Rattle.base_protocol.specs.declared.Answer.TheVariants as tell
use Rattle.base_protocol.specs.declared.Sizes.{Sizes}
use Rattle.base_protocol.specs.declared.Step.{Step}
use Rattle.base_protocol.specs.View.{sizes_view}
use Rattle.step.specs.Words.{Words, view, words_after}
use Rattle.step.specs.Past.{PastKept}
use Rattle.step_bridge.proofs.Stepping.{step_same}
use Rattle.step_bridge.proofs.Running.{Stands, step-stands}
use Rattle.step_bridge.proofs.Opening.{opened-stands}
use Rattle.step_bridge.proofs.Slotted.{past-test, still, found-long}
use Rattle.step_bridge.proofs.Past.{past-kept, past-then}
use Rattle.call.specs.Calls.{open_of}
use Rattle.call.proofs.Opened.{fresh-past}
use Rattle.std.proofs.Common.{Ok, Err}
use Rattle.log_records.specs.declared.Command.TheVariants.{Open, Ask}
use Rattle.log_records.specs.Records.{decoded_of}
use Rattle.log_records.specs.Layout.{fields_in, Fit, none_left, one-fits, Bytes}
use Rattle.log_records.proofs.Reading.{Told, reads, read-open}
use Rattle.log_records.proofs.Exact.{read-exact}
use Rattle.report.specs.Lines.{open_line}
use Rattle.replay.specs.Lent.{Lent, line_after, where_asked, words_for, words_opened, lent_left, opens_over}
use Rattle.replay.specs.Past.{four_of, LentPast}
use Rattle.replay.proofs.Zeroes.{begins, opened-is, is-opened}

-- ---- the records behind an open

asked-past : (P : Words → Type 0) (c : Told) (w : Words) (on : Step → Words) → P w → ((s : Step) → P (on s)) → P (where_asked c w on)
asked-past P (Ok (Open z clock)) w on p q = p
asked-past P (Ok (Ask s)) w on p q = q s
asked-past P (Err m) w on p q = p

module _ (w : Words) (h : Stands w) (s : Step) where
  step_past : PastKept w.sizes w.tables (words_after w s).tables
  step_past = past-kept w h.sized (right-shape (view w) h.good) s

  stands_on : most_rows ≤ length w.tables.found → Stands (words_after w s)
  stands_on r = step-stands w s h.good (step_same w h.sized h.good s (omega (arith, r)))

words-past : (room : ℕ) (log : List ℕ) (n at wrote : ℕ) (w : Words) → Stands w → most_rows ≤ length w.tables.found
    → PastKept w.sizes w.tables (words_for room log n at wrote w).tables
unfolding words_for
words-past room log zero at wrote w h r = still w
words-past room log (suc n) at wrote w h r =
    let P : Words → Type 0 = λ v. PastKept w.sizes w.tables v.tables in
    let next = (decoded_of log at).next in
    past-test P (ltb at (length log))
    (asked-past P (decoded_of log at).command w _ (still w) (λ s.
    past-test P (leb (wrote + length (line_after w s)) room)
    (past-then w.sizes w.tables (words_after w s).tables _ (step_past w h s)
    (words-past room log n next (wrote + length (line_after w s)) (words_after w s) (stands_on w h s r) (rw (found-long w s) r)))
    (λ e. step_past w h s)))
    (λ e. still w)

-- ---- the open

-- a clock in eight bytes
clock-small : (z : Sizes') (clock : ℕ) → Fit (fields_in (bytes.Opening z clock)) → clock ≤ last_number
clock-small z clock (one-fits a (one-fits b (one-fits c (one-fits d none_left)))) = omega arith

module _ (log : List ℕ) (bs : Bytes log) (room : ℕ) (t : Lent) where
  clock-in : (z : Sizes) (clock : ℕ) → (decoded_of log 0).command ≡ Ok (Open z clock) → clock ≤ last_number
  clock-in z clock e = clock-small (sizes_view z) clock (read-exact log bs _ _ (read-open (reads log 0) z clock e)).1

  module _ (z : Sizes) (clock : ℕ) (e : (decoded_of log 0).command ≡ Ok (Open z clock)) (o : opens_over t z clock ≡ true) where
    accepts : (open_of t.rows t.versions t.buckets t.lists z clock).answer ≡ tell.Done
    unfolding open_of
    accepts = rw (and_l (can_open (sizes_view z) clock) _ o, and_r (can_open (sizes_view z) clock) _ o)

    abbrev first : Words
    first = begins t z clock accepts

    behind : PastKept z (four_of t) (words_opened room log (decoded_of log 0).next first).tables
    behind =
        let h = opened-stands first (is-opened t z clock accepts (clock-in z clock e)) in
        let fresh = fresh-past t.rows t.versions t.buckets t.lists z clock [] (replicate most_rows 0) in
        past-test (λ (v : Words). PastKept z (four_of t) v.tables) (leb (length (open_line 0)) room)
        (past-then z (four_of t) first.tables _ fresh
        (words-past room log (length log) (decoded_of log 0).next (length (open_line 0)) first h (rw length-replicate (omega arith))))
        (λ q. fresh)

    left-past : PastKept z (four_of t) (four_of (lent_left log room t))
    unfolding lent_left
    left-past =
        let k = behind in
        rw (e, o, opened-is t z clock accepts) (record { rows = k.rows; versions = k.versions; buckets = k.buckets; lists = k.lists })

  left_alone : (c : Told) → (decoded_of log 0).command ≡ c → ((z : Sizes) (clock : ℕ) → c ≡ Ok (Open z clock) → opens_over t z clock ≡ false)
      → lent_left log room t ≡ t
  unfolding lent_left
  left_alone (Ok (Open z clock)) e f = rw (e, f z clock refl)
  left_alone (Ok (Ask s)) e f = rw e
  left_alone (Err m) e f = rw e

  -- every log of bytes, every room and all tables
  pub lent-past : LentPast log room t
  lent-past = record { opened = left-past; unopened = left_alone (decoded_of log 0).command refl }
