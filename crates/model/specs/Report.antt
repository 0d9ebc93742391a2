-- The report: lines of a fixed word and numbers, decimal, single spaces, LF.
use Rattle.std.specs.Prelude.{ℕ, zero, suc, ◌+◌, ◌/◌, ◌%◌, cond, List, [], ◌∷◌, ◌++◌, ltb}
use Prim.Native.Char.{code}
use Prim.Native.String as text
use Prim.Native.String.{String}
use Rattle.std.proofs.Math.Option.{none, some}
use Rattle.model.specs.Refusals.{Step, begin, capture, collect, rows, write, prepare, install, end, publish, validate, abort}
use Rattle.model.specs.Machine.{Answer, answer_number, answer_values}

-- the bytes of a text: the code of each letter
abbrev pub bytes : String → List ℕ
bytes text.[] = []
bytes (text.◌∷◌ c cs) = code c ∷ bytes cs

-- one step of writing a number: the last digit, after what `rest` makes of the others
unfoldable pub digits_step : (ℕ → List ℕ) → ℕ → List ℕ
digits_step rest n = cond (ltb n 10) ((code "0" + n) ∷ []) (rest (n / 10) ++ ((code "0" + n % 10) ∷ []))

unfoldable pub digits_for : ℕ → ℕ → List ℕ
digits_for zero n = digits_step (λ m. []) n
digits_for (suc k) n = digits_step (digits_for k) n

-- n in decimal: it has at most n + 1 digits
unfoldable pub decimal : ℕ → List ℕ
decimal n = digits_for n n

-- the fixed words
abbrev pub open_word : List ℕ
open_word = bytes "open"

abbrev pub bad_word : List ℕ
bad_word = bytes "bad"

abbrev pub word_of : Step → List ℕ
word_of begin = bytes "begin"
word_of (capture t k) = bytes "capture"
word_of (collect t) = bytes "collect"
word_of (rows t room) = bytes "rows"
word_of (write t r (some c)) = bytes "put"
word_of (write t r none) = bytes "erase"
word_of (prepare t) = bytes "prepare"
word_of (install t) = bytes "install"
word_of (end t) = bytes "end"
word_of (publish t) = bytes "publish"
word_of (validate t) = bytes "validate"
word_of (abort t) = bytes "abort"

-- each number after a single space
unfoldable pub spaced : List ℕ → List ℕ
spaced [] = []
spaced (n ∷ ns) = code " " ∷ decimal n ++ spaced ns

-- a line: the word, the numbers, LF
unfoldable pub line : List ℕ → List ℕ → List ℕ
line word ns = word ++ spaced ns ++ bytes "\n"

-- the kind's name, then the number, then the values
abbrev pub answer_line : Step → Answer → List ℕ
answer_line a r = line (word_of a) (answer_number r ∷ answer_values r)
