-- The words with which a replay goes on behind its open.
-- Assumes nothing.
use Prim.Native.Nat.{ℕ, ◌≤◌}
use mathlib.Core.Path.{◌≡◌, refl, sym, ap, ◌∙◌}
use mathlib.Core.List.{List}
use native.Mathlib.Omega.{arith}
use lib.ListN.{length, take, replicate, length-replicate, take-append-drop}
use lib.Seq.{length-take-le}
use Rattle.base_limits.specs.Limits.{most_rows, last_number}
use Rattle.base_protocol.specs.declared.Answer.TheVariants as tell
use Rattle.base_protocol.specs.declared.Sizes.{Sizes}
use Rattle.txn.specs.declared.Transaction.{Transaction}
use Rattle.step.specs.Steps.{Tables}
use Rattle.step.specs.Words.{Words}
use Rattle.step_bridge.proofs.Opening as opening
use Rattle.step_bridge.proofs.Opening.{opened_view, opened-stands}
use Rattle.call.specs.Calls.{open_of}
use Rattle.call.proofs.Opened.{fresh_words, opened, open-words}
use Rattle.replay.specs.declared.Opened.{Opened as Replaying}
use Rattle.replay.specs.Replay.{opened_from}
use Rattle.replay.specs.Lent.{Lent, Opens, opened_in, fresh_in, words_from}
use Rattle.replay.proofs.Lining.{room_in}
use Rattle.replay.proofs.Going.{Going}

-- the locals as one store of words
abbrev pub words_of : List ℕ → List ℕ → List ℕ → List ℕ → List ℕ → List Transaction → Sizes → ℕ → ℕ → Words
words_of rows versions buckets lists found txns sizes clock used = record {
  tables = record { rows = rows; versions = versions; buckets = buckets; lists = lists; found = found };
  txns = txns;
  sizes = sizes;
  clock = clock;
  used = used;
}

-- an open that is accepted leaves the words of a fresh store
module _ (t : Lent) (z : Sizes) (clock : ℕ) (a : (open_of t.rows t.versions t.buckets t.lists z clock).answer ≡ tell.Done) where
  abbrev pub begins : Words
  begins = fresh_words t.rows t.versions t.buckets t.lists z clock (replicate most_rows 0)

  pub opened-is : opened_in t z clock ≡ begins
  opened-is = rw (open-words t.rows t.versions t.buckets t.lists z clock a)

  pub opened-fresh : fresh_in (opened_in t z clock).tables z clock ≡ opened_in t z clock
  opened-fresh = ap (λ (x : Words). fresh_in x.tables z clock) opened-is ∙ sym opened-is

  pub is-opened : clock ≤ last_number → opening.Opened begins
  is-opened l = opened t.rows t.versions t.buckets t.lists z clock a l (replicate most_rows 0)

-- the lent row list has room for every row
pub found-room : {b : Tables} {z : Sizes} {clock : ℕ} → Opens b z clock → (found : List ℕ) → length found ≡ length b.found → most_rows ≤ length found
found-room o found l = rw (l ∙ ap (λ (x : Tables). length x.found) o.opened, length-replicate) (omega arith)

-- where the loop begins: behind the open, with its line in the report
pub starts : (log report : List ℕ) (b : Tables) (o : Replaying) → Opens b o.sizes o.clock → o.clock ≤ last_number → o.wrote ≤ room_in report
    → Going log report (opened_from log report o) (words_from (room_in report) log o.at o.wrote (fresh_in b o.sizes o.clock)) o.at o.wrote report
    (fresh_in b o.sizes o.clock)
starts log report b o h l fits =
    let w = begins h.lent o.sizes o.clock h.accepted in
    let z = is-opened h.lent o.sizes o.clock h.accepted l in
    let n : length (take o.wrote report) ≡ o.wrote = length-take-le o.wrote report (omega (arith, fits)) in
    let e : fresh_in b o.sizes o.clock ≡ w =
    ap (λ (x : Tables). fresh_in x o.sizes o.clock) h.opened
    ∙ ap (λ (x : Words). fresh_in x.tables o.sizes o.clock) (opened-is h.lent o.sizes o.clock h.accepted) in
    rw e (record {
      stands = opened-stands w z;
      text = take o.wrote report;
      long = sym n;
      laid = rw n (sym (take-append-drop o.wrote report));
      fits = rw n fits;
      rest = rw (opened_view w z);
      more = length log;
      enough = omega arith;
      words = refl;
    })
