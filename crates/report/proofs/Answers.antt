-- The line that is written for an answer is the model's.
-- Assumes nothing.
use borrow.Author.Tests.{leb-true, leb-false}
use Prim.Native.Nat.{ℕ, min}
use mathlib.Core.Bool.{Bool, true, false}
use mathlib.Core.List.{◌++◌, List, [], ◌∷◌}
use mathlib.Core.Path.{◌≡◌, refl, ap}
use native.Mathlib.Omega.{arith}
use lib.Dec.{leb}
use lib.ListN.{length, take, drop}
use lib.Seq.{take_all, take-append_seam}
use Rattle.model.specs.Report.{word_of, line, answer_line}
use Rattle.base_protocol.specs.View.{asked, told}
use Rattle.base_protocol.proofs.Told.{refusal-number}
use Rattle.base_protocol.specs.declared.Step.{Step}
use Rattle.base_protocol.specs.declared.Answer.{Answer}
use Rattle.report_answers.specs.declared.Numbers.{Numbers}
use Rattle.report_answers.specs.Answers.{held_of}
use Rattle.report_answers.proofs.Held.{says}
use Rattle.report.specs.Lines.{line_for}
use Rattle.model.specs.Verdict as judged
use Rattle.model.specs.Machine as machine

-- as many rows as there are
take-least-by : (l : List ℕ) (n : ℕ) (b : Bool) → leb n (length l) ≡ b → take (min n (length l)) l ≡ take n l
take-least-by l n true t = let h = leb-true n (length l) t in let e : min n (length l) ≡ n = omega arith in rw e
take-least-by l n false t =
    let h = leb-false n (length l) t in
    let e : min n (length l) ≡ length l = omega arith in
    rw (e, take_all (length l) l (omega arith), take_all n l (omega arith))

pub take-least : (l : List ℕ) (n k : ℕ) → k ≡ min n (length l) → take k l ≡ take n l
take-least l n k e = rw e (take-least-by l n (leb n (length l)) refl)

-- the line that is written for an answer: the word, what is held of the answer, and k rows
pub line-said : (s : Step) (a : Answer) (rows w : List ℕ) (n : Numbers) (k : ℕ) → w ≡ word_of (asked s) → n ≡ held_of a → k ≡ min n.rows (length rows)
    → line w (take n.count n.list ++ take k rows) ≡ line_for s a rows
line-said s a rows w n k ew en ek = rw (ew, take-least rows n.rows k ek, en, says a rows)

-- the line of an answer of the model, told with its rows at the front of the lent list, is the model's
judged-line : (s : Step) (v : judged.Verdict) (lent : List ℕ) → line_for s (told (machine.Judged v)) lent ≡ answer_line (asked s) (machine.Judged v)
judged-line s judged.Clear lent = refl
judged-line s (judged.Bucket b captured present) lent = refl
judged-line s (judged.Row r p) lent = refl
judged-line s judged.Mark lent = refl

pub line-told : (s : Step) (a : machine.Answer) (lent : List ℕ) → line_for s (told a) (machine.lent_after a lent) ≡ answer_line (asked s) a
line-told s machine.Done lent = refl
line-told s (machine.Number n) lent = refl
line-told s (machine.Stamp n) lent = refl
line-told s (machine.Count n) lent = refl
line-told s (machine.Rows rs) lent = rw (take-append_seam rs (drop (length rs) lent))
line-told s (machine.Judged v) lent = judged-line s v lent
line-told s (machine.Refused r) lent = ap (λ (n : ℕ). line (word_of (asked s)) (n ∷ [])) (refusal-number r)
