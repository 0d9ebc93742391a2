-- The status of a replay is 0, or the 1, 10 or 15 that stopped it.
-- Assumes nothing.
use Prim.Native.Nat.{ℕ, zero, suc, ◌+◌, min}
use mathlib.Core.Path.{◌≡◌, refl}
use mathlib.Core.Bool.{Bool}
use mathlib.Core.Logic.{◌⊎◌, inl, inr}
use mathlib.Core.Option.{Option, none, some}
use mathlib.Core.List.{List, [], ◌∷◌, ◌++◌}
use lib.Dec.{leb}
use lib.ListN.{length}
use Rattle.base_lists.proofs.TableLaws.{cond-elim}
use Rattle.model.specs.Refusals.{WrongSize, NoRoom, Malformed, refusal_number}
use Rattle.model.specs.Store.{Sizes, Store, fresh}
use Rattle.model.specs.Machine.{can_open, step}
use Rattle.model.specs.Log.{Command, Opening, Asking, read_record}
use Rattle.model.specs.Report.{answer_line}
use Rattle.model.specs.Replay.{Replayed, stops, write_then, reads, record_then, replay_for, replay_from, most_room, replay, opens_too_short, replay_lent}

abbrev pub Status : Replayed → Type 0
Status r = (r.status ≡ 0) ⊎ (r.status ≡ 1) ⊎ (r.status ≡ 10) ⊎ (r.status ≡ 15)

write-status : (room : ℕ) (text next : List ℕ) (go : List ℕ → Replayed) → ((more : List ℕ) → Status (go more)) → Status (write_then room text next go)
unfolding write_then
write-status room text next go h =
    cond-elim Status (leb (length text + length next) room) (go (text ++ next)) (stops (refusal_number NoRoom) text)
    (λ e. h (text ++ next)) (λ e. inr (inr (inl refl)))

malformed-status : (room : ℕ) (text line : List ℕ) → Status (write_then room text line (stops (refusal_number Malformed)))
malformed-status room text line = write-status room text line (stops (refusal_number Malformed)) (λ more. inr (inr (inr refl)))

reads-status : (room : ℕ) (text : List ℕ) (so : Option Store) (c : Option (Command × List ℕ)) (on : List ℕ → Store → List ℕ → Replayed)
    → ((more : List ℕ) (s : Store) (written : List ℕ) → Status (on more s written)) → Status (reads room text so c on)
reads-status room text so none on h = malformed-status room text _
reads-status room text none (some (Opening z clock, more)) on h =
    cond-elim Status (can_open z clock) _ _ (λ e. write-status room text _ (on more (fresh z clock)) (h more (fresh z clock)))
    (λ e. write-status room text _ (stops (refusal_number WrongSize)) (λ written. inr (inl refl)))
reads-status room text none (some (Asking a, more)) on h = malformed-status room text _
reads-status room text (some s) (some (Opening z clock, more)) on h = malformed-status room text _
reads-status room text (some s) (some (Asking a, more)) on h =
    write-status room text (answer_line a (step s a).answer) (on more (step s a).store) (h more (step s a).store)

record-status : (room : ℕ) (on : List ℕ → Store → List ℕ → Replayed) (log : List ℕ) (so : Option Store) (text : List ℕ)
    → ((more : List ℕ) (s : Store) (written : List ℕ) → Status (on more s written)) → Status (record_then room on log so text)
unfolding record_then
record-status room on [] so text h = inl refl
record-status room on (b ∷ bs) so text h = reads-status room text so (read_record (b ∷ bs)) on h

for-status : (room k : ℕ) (log : List ℕ) (so : Option Store) (text : List ℕ) → Status (replay_for room k log so text)
unfolding replay_for
for-status room zero log so text = record-status room (λ more s written. stops 0 written) log so text (λ more s written. inl refl)
for-status room (suc k) log so text =
    record-status room (λ more s written. replay_for room k more (some s) written) log so text (λ more s written. for-status room k more (some s) written)

pub replay-status : (log : List ℕ) (room : ℕ) → Status (replay log room)
unfolding replay replay_from
replay-status log room = for-status (min room most_room) (length log) log none []

-- over lent tables also 16
pub lent-status : (lent : Sizes → Bool) (log : List ℕ) (room : ℕ) → Status (replay_lent lent log room) ⊎ ((replay_lent lent log room).status ≡ 16)
unfolding replay_lent write_then
lent-status lent log room = cond-elim Either (opens_too_short lent (read_record log)) _ (replay log room)
    (λ e. cond-elim Either (leb _ (min room most_room)) _ _ (λ f. inr refl) (λ f. inl (inr (inr (inl refl))))) (λ e. inl (replay-status log room))
  where
    Either : Replayed → Type 0
    Either r = Status r ⊎ (r.status ≡ 16)
