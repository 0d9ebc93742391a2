-- Names as numbers: of a line, of its step or of a word.
use Rattle.std.specs.Prelude.{ℕ, ◌+◌, ◌*◌, cond, nat_lt}
use Prim.Native.Char.{code}
use Prim.Native.String.{String, [], ◌∷◌}

-- a letter more of a name, to base 256; more than eight letters make no name, 2^64 − 1
abbrev pub letter_more : ℕ → ℕ → ℕ
letter_more name c = cond (nat_lt name 72057594037927936) (name * 256 + c) 18446744073709551615

abbrev pub letters_more : ℕ → String → ℕ
letters_more name [] = name
letters_more name (c ∷ cs) = letters_more (letter_more name (code c)) cs

-- the name that some letters make
abbrev pub named : String → ℕ
named letters = letters_more 0 letters
