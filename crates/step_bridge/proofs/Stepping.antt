-- Every kind of step over the words is the model's.
-- Assumes nothing.
use Prim.Native.Nat.{ℕ, ◌≤◌, min}
use lib.ListN.{length}
use Rattle.base_limits.specs.Limits.{most_rows}
use Rattle.model.proofs.Good.{Good, right-shape}
use Rattle.base_protocol.specs.declared.Step.{Step}
use Rattle.base_protocol.specs.declared.Step.TheVariants as ask
use Rattle.step.specs.Words.{Words, view, Sized}
use Rattle.step_bridge.proofs.Shaped.{shaped}
use Rattle.step_bridge.proofs.Same.{Same}
use Rattle.step_bridge.proofs.Writing.{end_same, put_same, erase_same}
use Rattle.step_bridge.proofs.Judging.{validate-same}
use Rattle.step_bridge.proofs.Capturing.{capture-same}
use Rattle.step_bridge.proofs.Collecting.{collect-same}
use Rattle.step_bridge.proofs.Finding.{rows_same}
use Rattle.step_bridge.proofs.Beginning.{begin-same}
use Rattle.step_bridge.proofs.Aborting.{abort-same}
use Rattle.step_bridge.proofs.Preparing.{prepare-same}
use Rattle.step_bridge.proofs.Pushing.{install-same}
use Rattle.step_bridge.proofs.Publishing.{publish-same}

-- the room that a step asks for in the lent list
abbrev pub room_of : Step → ℕ
room_of ask.Begin = 0
room_of (ask.Capture n k) = 0
room_of (ask.Collect n) = 0
room_of (ask.Rows n room) = room
room_of (ask.Put n r k payload) = 0
room_of (ask.Erase n r) = 0
room_of (ask.Prepare n) = 0
room_of (ask.Install n) = 0
room_of (ask.End n) = 0
room_of (ask.Publish n) = 0
room_of (ask.Validate n) = 0
room_of (ask.Abort n) = 0

-- the lent list is as long as the room that is asked for; room above 1,024 counts as 1,024
abbrev pub Lent : Words → Step → Type 0
Lent w s = min (room_of s) most_rows ≤ length w.tables.found

pub step_same : (w : Words) → Sized w → Good (view w) → (s : Step) → Lent w s → Same w s
step_same w z g ask.Begin h = begin-same w z
step_same w z g (ask.Capture n k) h = capture-same w z (shaped w z (right-shape (view w) g)) n k
step_same w z g (ask.Collect n) h = collect-same w z (shaped w z (right-shape (view w) g)) n
step_same w z g (ask.Rows n room) h = rows_same w z (shaped w z (right-shape (view w) g)) n room h
step_same w z g (ask.Put n r k payload) h = put_same w z n r k payload
step_same w z g (ask.Erase n r) h = erase_same w z n r
step_same w z g (ask.Prepare n) h = prepare-same w z (shaped w z (right-shape (view w) g)) n
step_same w z g (ask.Install n) h = install-same w z (shaped w z (right-shape (view w) g)) n
step_same w z g (ask.End n) h = end_same w z n
step_same w z g (ask.Publish n) h = publish-same w z g n
step_same w z g (ask.Validate n) h = validate-same w z (shaped w z (right-shape (view w) g)) n
step_same w z g (ask.Abort n) h = abort-same w z g n
