-- A line in the lent report against the model's: it is written and the replay goes on, or it does not fit and the replay stops.
-- Assumes nothing.
use borrow.Author.Tests.{leb-true, leb-false}
use Prim.Native.Nat.{ℕ, ◌+◌, ◌<◌, ◌≤◌, min}
use mathlib.Core.Path.{◌≡◌, refl, ap, ◌∙◌}
use mathlib.Core.Bool.{Bool, true, false}
use mathlib.Core.List.{List, ◌++◌}
use native.Mathlib.Omega.{arith}
use lib.Dec.{leb}
use lib.ListN.{length, length-append}
use Rattle.model.specs.Replay.{stops, write_then, most_room}
use Rattle.std.proofs.Common.{Some, None}
use Rattle.report.specs.Written.{Written, written_at}
use Rattle.report.proofs.Reported.{shown, written_on, written-stop}
use Rattle.replay.specs.Stops.{Left, stop_with}
use Rattle.replay.specs.Replay.{Leaves}
use Rattle.replay.proofs.RecordByRecord.{goes_on, goes-full}

-- the room that is used
abbrev pub room_in : List ℕ → ℕ
room_in report = min (length report) most_room

module _ (old text next : List ℕ) (long : length text ≤ room_in old) where
  in-report : length text ≤ length old
  in-report = omega (arith, long)

  -- the line was written
  pub record On (w : Written) (next-at : ℕ) : Type 0 where
    pub fits : length text + length next ≤ room_in old
    pub end : next-at ≡ length (text ++ next)
    pub report : w.report ≡ shown (text ++ next) old

  -- it was not
  pub record Off (w : Written) : Type 0 where
    pub full : room_in old < length text + length next
    pub report : w.report ≡ shown text old

  module _ (w : Written) (e : w ≡ written_at (shown text old) (length text) next) where
    on-by : (b : Bool) → leb (length text + length next) (room_in old) ≡ b → (end : ℕ) → w.wrote ≡ Some end → On w end
    on-by true t end q =
        let f = leb-true (length text + length next) (room_in old) t in
        let r = e ∙ written_on old text next in-report f in
        let n : ◌≡◌ {A = ℕ} end (length (text ++ next)) = cc (q, ap (λ (x : Written). x.wrote) r) in
        record { fits = f; end = n; report = ap (λ (x : Written). x.report) r }
    on-by false t end q =
        let r = e ∙ written-stop old text next in-report (leb-false (length text + length next) (room_in old) t) in
        let z : ◌≡◌ {A = ℕ} 0 1 = cc (q, ap (λ (x : Written). x.wrote) r) in
        absurd (omega arith)

    pub line_on : (end : ℕ) → w.wrote ≡ Some end → On w end
    line_on end q = on-by (leb (length text + length next) (room_in old)) refl end q

    off-by : (b : Bool) → leb (length text + length next) (room_in old) ≡ b → w.wrote ≡ None → Off w
    off-by true t q =
        let r = e ∙ written_on old text next in-report (leb-true (length text + length next) (room_in old) t) in
        let z : ◌≡◌ {A = ℕ} 0 1 = cc (q, ap (λ (x : Written). x.wrote) r) in
        absurd (omega arith)
    off-by false t q =
        let f = leb-false (length text + length next) (room_in old) t in
        record { full = f; report = ap (λ (x : Written). x.report) (e ∙ written-stop old text next in-report f) }

    pub line-off : w.wrote ≡ None → Off w
    line-off q = off-by (leb (length text + length next) (room_in old)) refl q

-- a last line: what the code leaves of it is what the model's replay leaves
module _ (old text next : List ℕ) (long : length text ≤ room_in old) (status : ℕ) (small : status ≤ 16) where
  last-by : (b : Bool) → leb (length text + length next) (room_in old) ≡ b → (l : Left)
      → l ≡ stop_with (written_at (shown text old) (length text) next) status (length text)
      → Leaves l.stopped l.report (write_then (room_in old) text next (stops status)) old
  last-by true t l e =
      let f = leb-true (length text + length next) (room_in old) t in
      rw (e, written_on old text next (in-report old text next long) f, goes_on (room_in old) text next (stops status) f)
      (refl, small, rw (length-append text next) (omega (arith, f)))
  last-by false t l e =
      let f = leb-false (length text + length next) (room_in old) t in
      rw (e, written-stop old text next (in-report old text next long) f, goes-full (room_in old) text next (stops status) f)
      (refl, omega arith, omega (arith, long))

  pub last_line : (l : Left) → l ≡ stop_with (written_at (shown text old) (length text) next) status (length text)
      → Leaves l.stopped l.report (write_then (room_in old) text next (stops status)) old
  last_line l e = last-by (leb (length text + length next) (room_in old)) refl l e
