-- A line written as a text: what is read of it, byte by byte.
use Rattle.std.specs.Prelude.{ℕ, zero, suc, ◌+◌, ◌-◌, ◌*◌, ◌%◌, ◌^◌, cond, ◌&&◌}
use Rattle.std.specs.Prelude.{List, [], ◌∷◌, drop, replicate, ◌==◌, nat_le, nat_lt, slice_index, slice_set, Option, None, Some}
use Prim.Native.Char.{code}
use Rattle.run_script.specs.Names.{letter_more}
use Rattle.run_script.specs.declared.Sign.{Sign}
use Rattle.run_script.specs.declared.Sign.TheVariants.{Step, Look, Change}
use Rattle.run_script.specs.declared.Line.{Line}

-- the sign of a step is `:`, of a look `?`, of a change `=`
abbrev pub sign_of : ℕ → Option Sign
sign_of c = cond (c == (code ":")) (Some Step) (cond (c == (code "?")) (Some Look) (cond (c == (code "=")) (Some Change) None))

-- eight numbers stand before the sign, and eight behind it from this place on
abbrev pub answer_place : ℕ
answer_place = 8

abbrev pub places : ℕ
places = 16

-- nothing read yet
abbrev pub empty_line : Line
empty_line = record { name = 0; sign = None; numbers = replicate places 0; at = 0; reading = None }

-- a letter more of the name
abbrev pub with_letter : Line → ℕ → Line
with_letter l c = record l { name = letter_more l.name c }

-- a digit more of a number, which wraps at 2^64; before its first digit a number is 0
abbrev pub digit_more : Option ℕ → ℕ → ℕ
digit_more None d = d % 2 ^ 64
digit_more (Some n) d = (10 * n + d) % 2 ^ 64

abbrev pub with_digit : Line → ℕ → Line
with_digit l d = record l { reading = Some (digit_more l.reading d) }

-- a number goes to its place
abbrev pub with_number : Line → ℕ → Line
with_number l n = record { name = l.name; sign = l.sign; numbers = slice_set l.numbers l.at n; at = l.at + 1; reading = None }

-- a number that is read ends, if there is a place
abbrev pub ended_at : Option ℕ → Line → Line
ended_at None l = l
ended_at (Some n) l = cond (nat_lt l.at places) (with_number l n) l

abbrev pub ended_line : Line → Line
ended_line l = ended_at l.reading l

-- a sign: the numbers behind it come next
abbrev pub with_sign : Line → Option Sign → Line
with_sign l None = l
with_sign l (Some s) = record { name = l.name; sign = Some s; numbers = l.numbers; at = answer_place; reading = l.reading }

-- one byte more: a digit, a letter, a sign, or what parts them
unfoldable pub with_byte : Line → ℕ → Line
with_byte l c =
    cond (nat_le (code "0") c && nat_le c (code "9")) (with_digit l (c - code "0"))
    (cond (nat_le (code "a") c && nat_le c (code "z")) (with_letter l c)
    (with_sign (ended_line l) (sign_of c)))

-- n bytes more, from a place on; past the end they are 0
unfoldable pub with_bytes : List ℕ → ℕ → ℕ → Line → Line
with_bytes text at zero l = l
with_bytes text at (suc n) l = with_bytes text (suc at) n (with_byte l (slice_index text at))

-- the line that is written from a place up to another
unfoldable pub line_of : List ℕ → ℕ → ℕ → Line
line_of text from to = with_bytes text from (to - from) empty_line

-- behind the first semicolon of what is left, which begins at a place; or where it ends
unfoldable pub end_from : ℕ → List ℕ → ℕ
end_from at [] = at
end_from at (c ∷ cs) = cond (c == (code ";")) (suc at) (end_from (suc at) cs)

-- where the line at a place ends
unfoldable pub step_end : List ℕ → ℕ → ℕ
step_end text from = end_from from (drop from text)
