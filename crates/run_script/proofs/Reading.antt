-- Laws of a text that is read byte by byte.
-- Assumes nothing.
use Rattle.std.proofs.Common.{◌≡◌, ℕ, suc, ◌+◌, ◌-◌, ◌<◌, ◌≤◌, Bool, true, false, cond, eqb, List, [], ◌∷◌, length, get_or, drop}
use Rattle.std.proofs.Common.{add-one, arith, drop_of_length-le, drop-cons}
use Rattle.run_script.specs.declared.Line.{Line}
use Rattle.run_script.specs.Script.{with_byte, with_bytes, end_from, step_end}

-- behind a semicolon, or on
pub end_next : (text : List ℕ) (at : ℕ) → at < length text
    → end_from at (drop at text) ≡ cond (eqb (get_or text at 0) 59) (at + 1) (end_from (at + 1) (drop (at + 1) text))
unfolding end_from
end_next text at h = rw (add-one, drop-cons text at 0)

-- where the text ends
pub end_past : (text : List ℕ) (at : ℕ) → length text ≤ at → end_from at (drop at text) ≡ at
unfolding end_from
end_past text at h = rw (drop_of_length-le text h)

-- at most both is at most either
below-either : (b : Bool) (x y z : ℕ) → x ≤ y → x ≤ z → x ≤ cond b y z
below-either true x y z h l = h
below-either false x y z h l = l

-- a step that begins before the text ends is not empty
end_low : (cs : List ℕ) (at : ℕ) → at ≤ end_from at cs
unfolding end_from
end_low [] at = omega arith
end_low (c ∷ cs) at = let l = end_low cs (suc at) in below-either (eqb c 59) at (suc at) (end_from (suc at) cs) (omega arith) (omega arith)

pub end-behind : (text : List ℕ) (at : ℕ) → at < length text → at < step_end text at
unfolding step_end
end-behind text at h = rw (end_next text at h)
    (below-either (eqb (get_or text at 0) 59) (suc at) (at + 1) (end_from (at + 1) (drop (at + 1) text)) (omega arith) (let l =
    end_low (drop (at + 1) text) (at + 1) in omega arith))

-- one byte of those that are left
pub bytes_next : (text : List ℕ) (at to : ℕ) (l : Line) → at < to
    → with_bytes text at (to - at) l ≡ with_bytes text (at + 1) (to - (at + 1)) (with_byte l (get_or text at 0))
unfolding with_bytes
bytes_next text at to l h = let e : to - at ≡ suc (to - (at + 1)) = omega arith in rw (e, add-one)

-- none is left
pub bytes_end : (text : List ℕ) (at to : ℕ) (l : Line) → to ≤ at → with_bytes text at (to - at) l ≡ l
unfolding with_bytes
bytes_end text at to l h = let e : to - at ≡ 0 = omega arith in rw e
