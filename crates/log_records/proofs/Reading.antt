-- What a caller knows of a record that was read: the model's command, and that its place moves on within the log.
-- Assumes nothing.
use borrow.Author.Tests.{leb-true}
use denote.Enum.Declared.{tag_of}
use denote.Ref.{Bor}
use Prim.Native.Nat.{ℕ, ◌+◌, ◌-◌, ◌≤◌, ◌<◌}
use mathlib.Core.Path.{◌≡◌, refl, sym, ap, ◌∙◌}
use mathlib.Core.Bool.{Bool, true, false, ◌&&◌}
use mathlib.Core.Option.{none, some}
use mathlib.Core.List.{List}
use native.Mathlib.Omega.{arith}
use lib.Dec.{leb}
use lib.ListN.{length, drop, length-drop}
use lib.Seq.{drop-drop}
use Rattle.base_lists.proofs.ListLaws.{and_l, and_r}
use Rattle.model.specs.Log.{Command, Opening, Asking, widths, fits, command_of, length_in, kind_in, whole, read_record}
use Rattle.base_protocol.specs.declared.Sizes.{Sizes}
use Rattle.base_protocol.specs.declared.Step.{Step}
use Rattle.base_protocol.specs.View.{asked, sizes_view}
use Rattle.log_records.specs.declared.Decoded.{Decoded}
use Rattle.std.proofs.Common.{Result, Ok, Err}
use Rattle.log_records.specs.declared.Command as code
use Rattle.log_records.specs.declared.Command.TheVariants.{Open, Ask}
use Rattle.log_records.specs.declared.Malformed.{Malformed}
use Rattle.log_records.specs.declared.Reader.{Reader}
use Rattle.log_records.specs.Records.{sizes_told, step_told, command_told, malformed_at, decoded_of, reader_at, Taken, taken_by, field_in}
use Rattle.log_records.specs.contracts.Command.{the_type}
use Rattle.model.specs.Refusals as model

-- a step that is told is the one that is asked for
pub asked-told : (a : model.Step) → asked (step_told a) ≡ a
asked-told model.begin = refl
asked-told (model.capture t k) = refl
asked-told (model.collect t) = refl
asked-told (model.rows t room) = refl
asked-told (model.write t r (some c)) = refl
asked-told (model.write t r none) = refl
asked-told (model.prepare t) = refl
asked-told (model.install t) = refl
asked-told (model.end t) = refl
asked-told (model.publish t) = refl
asked-told (model.validate t) = refl
asked-told (model.abort t) = refl

told-open : (c : Command) (z : Sizes) (clock : ℕ) → command_told c ≡ Open z clock → c ≡ Opening (sizes_view z) clock
told-open (Opening y k) z clock e = let ez : sizes_told y ≡ z = cc in let ek : k ≡ clock = cc in rw (← ez, ek)
told-open (Asking a) z clock e = let n : ◌≡◌ {A = ℕ} 0 1 = cc in absurd (omega arith)

told-ask : (c : Command) (s : Step) → command_told c ≡ Ask s → c ≡ Asking (asked s)
told-ask (Opening z clock) s e = let z : ◌≡◌ {A = ℕ} 0 1 = cc in absurd (omega arith)
told-ask (Asking a) s e = let es : step_told a ≡ s = cc in rw (← es, asked-told a)

-- what a record asks for, where it can be read
abbrev pub Told : Type 0
Told = Result code.Command Malformed

-- no step is asked for, or no open
abbrev pub NoStep : Told → Type 0
NoStep c = (s : Step) → c ≡ Ok (Ask s) → ⊥

abbrev pub NoOpen : Told → Type 0
NoOpen c = (z : Sizes) (clock : ℕ) → c ≡ Ok (Open z clock) → ⊥

-- what is known of a command behind the `else` of a `let` that wants a step, or an open: it is the other
abbrev pub IsOpen : code.Command → Type 0
IsOpen c = tag_of the_type c ≡ 0

abbrev pub IsAsk : code.Command → Type 0
IsAsk c = tag_of the_type c ≡ 1

-- two commands that are told alike
told : {c d : code.Command} → ◌≡◌ {A = Told} (Ok c) (Ok d) → c ≡ d
told e = cc

pub open-only : (t : Told) (c : code.Command) → t ≡ Ok c → IsOpen c → NoStep t
open-only t c e o s a = let q : c ≡ Ask s = told (sym e ∙ a) in let z = rw q at o in absurd (omega (arith, z))

pub ask-only : (t : Told) (c : code.Command) → t ≡ Ok c → IsAsk c → NoOpen t
ask-only t c e o z clock a = let q : c ≡ Open z clock = told (sym e ∙ a) in let n = rw q at o in absurd (omega (arith, n))

-- the tests of a whole record
pub whole-facts : (l : List ℕ) → whole l ≡ true → (4 ≤ length l) × (2 + length_in l ≤ length l) × (fits (widths (kind_in l)) (length_in l) ≡ true)
unfolding whole
whole-facts l e =
    let long = and_l (leb 4 (length l) && leb (2 + length_in l) (length l)) (fits (widths (kind_in l)) (length_in l)) e in (
      leb-true 4 (length l) (and_l (leb 4 (length l)) (leb (2 + length_in l) (length l)) long),
      leb-true (2 + length_in l) (length l) (and_r (leb 4 (length l)) (leb (2 + length_in l) (length l)) long),
      and_r (leb 4 (length l) && leb (2 + length_in l) (length l)) (fits (widths (kind_in l)) (length_in l)) e,
    )

-- what is read of a whole record, and that nothing else is read
pub read_whole : (l : List ℕ) → whole l ≡ true → read_record l ≡ some (command_of (kind_in l) (field_in (kind_in l) (drop 4 l)), drop (2 + length_in l) l)
unfolding read_record field_in
read_whole l e = rw e

pub read_none : (l : List ℕ) → whole l ≡ false → read_record l ≡ none
unfolding read_record
read_none l e = rw e

-- the two outcomes at a place: malformed, or a command and the next place, where the rest begins
pub data Reads (log : List ℕ) (at : ℕ) (d : Decoded) : Type 0 where
  is-malformed : read_record (drop at log) ≡ none → d ≡ malformed_at at → Reads log at d
  is-read : (c : Command) → read_record (drop at log) ≡ some (c, drop d.next log) → d.command ≡ Ok (command_told c) → at < d.next → d.next ≤ length log
      → Reads log at d

reads-by : (log : List ℕ) (at : ℕ) (b : Bool) → whole (drop at log) ≡ b → Reads log at (decoded_of log at)
unfolding decoded_of
reads-by log at true e =
    let l = drop at log in
    let r = read_whole l e in
    let f : 2 + length_in l ≤ length log - at = rw length-drop at (whole-facts l e).1 in
    let n : at + 2 + length_in l ≡ at + (2 + length_in l) = omega arith in
    let d : drop (2 + length_in l) l ≡ drop (at + 2 + length_in l) log = rw n (drop-drop (2 + length_in l) at log) in
    rw r (is-read (command_of (kind_in l) (field_in (kind_in l) (drop 4 l))) (r ∙ rw d) refl (omega arith) (omega arith))
reads-by log at false e = let r = read_none (drop at log) e in rw r (is-malformed r refl)

pub reads : (log : List ℕ) (at : ℕ) → Reads log at (decoded_of log at)
reads log at = reads-by log at (whole (drop at log)) refl

-- by the code's command: what the model reads there
module _ {log : List ℕ} {at : ℕ} {d : Decoded} where
  pub read-malformed : Reads log at d → (m : Malformed) → d.command ≡ Err m → read_record (drop at log) ≡ none
  read-malformed (is-malformed unread ed) m e = unread
  read-malformed (is-read c r ec on in-log) m e =
      let z : ◌≡◌ {A = Told} (Ok (command_told c)) (Err m) = sym ec ∙ e in
      let n : ◌≡◌ {A = ℕ} 0 1 = cc in
      absurd (omega arith)

  pub read-open : Reads log at d → (z : Sizes) (clock : ℕ) → d.command ≡ Ok (Open z clock)
      → read_record (drop at log) ≡ some (Opening (sizes_view z) clock, drop d.next log)
  read-open (is-malformed unread ed) z clock e = let n : ◌≡◌ {A = ℕ} 0 1 = cc in absurd (omega arith)
  read-open (is-read c r ec on in-log) z clock e = rw (← told-open c z clock (told (sym ec ∙ e))) r

  pub read-ask : Reads log at d → (s : Step) → d.command ≡ Ok (Ask s) → read_record (drop at log) ≡ some (Asking (asked s), drop d.next log)
  read-ask (is-malformed unread ed) s e = let z : ◌≡◌ {A = ℕ} 0 1 = cc in absurd (omega arith)
  read-ask (is-read c r ec on in-log) s e = rw (← told-ask c s (told (sym ec ∙ e))) r

  -- the next place is further on, and in the log
  pub read-on : Reads log at d → (c : code.Command) → d.command ≡ Ok c → (at < d.next) × (d.next ≤ length log)
  read-on (is-malformed unread ed) c e = let z : ◌≡◌ {A = ℕ} 0 1 = cc in absurd (omega arith)
  read-on (is-read c' r ec on in-log) c e = (on, in-log)

-- what a reader takes is what stands at its place, and it keeps its bytes
pub reader-taken : (log : List ℕ) (t : Told) (r r' : Reader) → r.log.now ≡ log → record { command = t; reader = r' } ≡ taken_by r
    → (record { command = t; next = r'.at } ≡ decoded_of log r.at) × (r'.log.now ≡ log)
reader-taken log t r r' e taken =
    let d : record { command = t; next = r'.at } ≡ decoded_of r.log.now r.at =
    ap {B = Decoded} (λ (x : Taken). record { command = x.command; next = x.reader.at }) taken in
    (rw e at d, ap (λ (x : Taken). x.reader.log.now) taken ∙ e)

-- at the first place
pub reader-first : (log : Bor (List ℕ)) (t : Told) (r r' : Reader) → r ≡ reader_at log 0 → record { command = t; reader = r' } ≡ taken_by r
    → record { command = t; next = r'.at } ≡ decoded_of log.now 0
reader-first log t r r' e taken = (reader-taken log.now t (reader_at log 0) r' refl (rw e at taken)).0
