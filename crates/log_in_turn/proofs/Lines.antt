-- A report's lines: each is found whole where it was written, and its first digit is 0 where the step was done. Assumes nothing.
use mathlib.Core.Path.{◌≡◌, refl, ap, ◌∙◌}
use mathlib.Core.Bool.{Bool, true, false, cond, not}
use mathlib.Core.Option.{none, some}
use mathlib.Core.List.{List, [], ◌∷◌, ◌++◌, append_assoc}
use Prim.Native.Nat.{ℕ, zero, suc, ◌+◌, ◌/◌, ◌%◌}
use native.Mathlib.Omega.{arith}
use lib.Dec.{eqb, ltb}
use lib.ListN.{length, get_or}
use lib.Seq.{get_or-append-add}
use borrow.Author.Tests.{not-true, ne_eqb}
use Rattle.base_lists.specs.Lists.{all_of}
use Rattle.base_lists.proofs.ListLaws.{and_l, and_r, and_both}
use Rattle.model.specs.Refusals.{Refusal, WrongSize, NoNumbers, Full, NoSuch, WrongPhase, NoRow, Taken, Stale, Marked, ManyReads, NoRoom, ManyRecords}
use Rattle.model.specs.Refusals.{ManyWrites, NoVersions, Conflict, Malformed, WrongShape, refusal_number, Step, begin, capture, collect, rows, write, prepare}
use Rattle.model.specs.Refusals.{install, end, publish, validate, abort}
use Rattle.model.specs.Machine.{Answer, Done, Number, Stamp, Count, Rows, Judged, Refused, answer_number, answer_values}
use Rattle.model.specs.Log.{Asking}
use Rattle.model.specs.Report.{digits_step, digits_for, decimal, open_word, word_of, spaced, line, answer_line}
use Rattle.log_in_turn.specs.Told.{lines_in, says_done}

-- no LF among some bytes
abbrev Unbroken : List ℕ → Type 0
Unbroken w = all_of (λ b. not (eqb b 10)) w ≡ true

both-unbroken : (v w : List ℕ) → Unbroken v → Unbroken w → Unbroken (v ++ w)
unfolding all_of
both-unbroken [] w p q = q
both-unbroken (b ∷ v) w p q = and_both _ _ (and_l (not (eqb b 10)) _ p) (both-unbroken v w (and_r (not (eqb b 10)) _ p) q)

-- a digit is 48 at least
digit-unbroken : (n : ℕ) → Unbroken ((48 + n) ∷ [])
unfolding all_of
digit-unbroken n = rw (ne_eqb (48 + n) 10 (λ e. omega arith)) refl

step-unbroken : (rest : ℕ → List ℕ) (n : ℕ) → ((m : ℕ) → Unbroken (rest m)) → Unbroken (digits_step rest n)
unfolding digits_step
step-unbroken rest n h = go (ltb n 10)
  where
    go : (b : Bool) → Unbroken (cond b ((48 + n) ∷ []) (rest (n / 10) ++ ((48 + n % 10) ∷ [])))
    go true = digit-unbroken n
    go false = both-unbroken (rest (n / 10)) ((48 + n % 10) ∷ []) (h (n / 10)) (digit-unbroken (n % 10))

none-unbroken : Unbroken []
unfolding all_of
none-unbroken = refl

digits-unbroken : (k n : ℕ) → Unbroken (digits_for k n)
unfolding digits_for
digits-unbroken zero n = step-unbroken (λ m. []) n (λ m. none-unbroken)
digits-unbroken (suc k) n = step-unbroken (digits_for k) n (digits-unbroken k)

spaced-unbroken : (ns : List ℕ) → Unbroken (spaced ns)
unfolding spaced decimal all_of
spaced-unbroken [] = refl
spaced-unbroken (n ∷ ns) = both-unbroken (digits_for n n) (spaced ns) (digits-unbroken n n) (spaced-unbroken ns)

word-unbroken : (a : Step) → Unbroken (word_of a)
unfolding all_of
word-unbroken begin = refl
word-unbroken (capture t k) = refl
word-unbroken (collect t) = refl
word-unbroken (rows t room) = refl
word-unbroken (write t r (some c)) = refl
word-unbroken (write t r none) = refl
word-unbroken (prepare t) = refl
word-unbroken (install t) = refl
word-unbroken (end t) = refl
word-unbroken (publish t) = refl
word-unbroken (validate t) = refl
word-unbroken (abort t) = refl

-- up to the first LF it is one line
first-line : (w rest : List ℕ) → Unbroken w → lines_in (w ++ (10 ∷ rest)) ≡ (w ++ (10 ∷ [])) ∷ lines_in rest
unfolding lines_in all_of
first-line [] rest p = refl
first-line (b ∷ w) rest p = rw (not-true (eqb b 10) (and_l (not (eqb b 10)) _ p), first-line w rest (and_r (not (eqb b 10)) _ p)) refl

line-front : (word ns rest : List ℕ) → Unbroken word → lines_in (line word ns ++ rest) ≡ line word ns ∷ lines_in rest
unfolding line
line-front word ns rest p = ap lines_in (append_assoc (word ++ spaced ns) (10 ∷ []) rest)
    ∙ first-line (word ++ spaced ns) rest (both-unbroken word (spaced ns) p (spaced-unbroken ns))

-- a step's line before the rest of a report
pub answer-front : (a : Step) (r : Answer) (rest : List ℕ) → lines_in (answer_line a r ++ rest) ≡ answer_line a r ∷ lines_in rest
answer-front a r rest = line-front (word_of a) _ rest (word-unbroken a)

-- the open's line before the rest of a report
pub open-front : (rest : List ℕ) → lines_in (line open_word (0 ∷ []) ++ rest) ≡ line open_word (0 ∷ []) ∷ lines_in rest
unfolding all_of
open-front rest = line-front open_word (0 ∷ []) rest refl

-- the first digit of a refusal's number is not 0, and the first of any other answer's is
refusal-digit : (r : Refusal) (rest : List ℕ) → eqb (get_or (decimal (refusal_number r) ++ rest) 0 0) 48 ≡ eqb (refusal_number r) 0
unfolding decimal digits_for digits_step
refusal-digit WrongSize rest = refl
refusal-digit NoNumbers rest = refl
refusal-digit Full rest = refl
refusal-digit NoSuch rest = refl
refusal-digit WrongPhase rest = refl
refusal-digit NoRow rest = refl
refusal-digit Taken rest = refl
refusal-digit Stale rest = refl
refusal-digit Marked rest = refl
refusal-digit ManyReads rest = refl
refusal-digit NoRoom rest = refl
refusal-digit ManyRecords rest = refl
refusal-digit ManyWrites rest = refl
refusal-digit NoVersions rest = refl
refusal-digit Conflict rest = refl
refusal-digit Malformed rest = refl
refusal-digit WrongShape rest = refl

answer-digit : (r : Answer) (rest : List ℕ) → eqb (get_or (decimal (answer_number r) ++ rest) 0 0) 48 ≡ eqb (answer_number r) 0
unfolding decimal digits_for digits_step
answer-digit Done rest = refl
answer-digit (Number n) rest = refl
answer-digit (Stamp n) rest = refl
answer-digit (Count n) rest = refl
answer-digit (Rows rs) rest = refl
answer-digit (Judged v) rest = refl
answer-digit (Refused r) rest = refusal-digit r rest

-- where the digit stands: behind the word and one space
behind-word : (word : List ℕ) (n : ℕ) (ns : List ℕ) → get_or (line word (n ∷ ns)) (length word + 1) 0 ≡ get_or (decimal n ++ (spaced ns ++ (10 ∷ []))) 0 0
unfolding line spaced
behind-word word n ns =
    ap (λ l. get_or l (length word + 1) 0) (append_assoc word (32 ∷ (decimal n ++ spaced ns)) (10 ∷ []))
    ∙ (get_or-append-add word (32 ∷ (decimal n ++ spaced ns ++ (10 ∷ []))) 1 0 ∙ ap (λ l. get_or l 0 0) (append_assoc (decimal n) (spaced ns) (10 ∷ [])))

-- a step's line says 0 where its number is 0
pub says-number : (a : Step) (r : Answer) → says_done (Asking a) (answer_line a r) ≡ eqb (answer_number r) 0
unfolding says_done
says-number a r = rw (behind-word (word_of a) (answer_number r) (answer_values r)) (answer-digit r (spaced (answer_values r) ++ (10 ∷ [])))
