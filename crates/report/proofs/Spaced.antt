-- Numbers after spaces: of two lists one after the other, of the first so many, and how long they are, at least and at most.
-- Assumes nothing.
use Prim.Native.Nat.{ℕ, zero, suc, ◌+◌, ◌*◌, ◌^◌, ◌<◌, ◌≤◌}
use mathlib.Core.Path.{◌≡◌, refl}
use mathlib.Core.List.{List, [], ◌∷◌, ◌++◌, append_assoc, append-nil}
use native.Mathlib.Numerals.{add-one}
use native.Mathlib.Omega.{arith}
use lib.ListN.{length, take, drop, get_or, set, length-append, take-append-drop}
use lib.Seq.{take-suc}
use Rattle.model.specs.Report.{decimal, spaced, line}
use Rattle.report.specs.Written.{laid}
use Rattle.report.proofs.Laid.{set-laid, then-text}
use Rattle.report.proofs.Digits.{some-long, at-most-twenty}

pub spaced-append : (a b : List ℕ) → spaced (a ++ b) ≡ spaced a ++ spaced b
unfolding spaced
spaced-append [] b = refl
spaced-append (n ∷ a) b = rw (spaced-append a b) (simp append_assoc)

pub two-long : (a b : List ℕ) → length (spaced (a ++ b)) ≡ length (spaced a) + length (spaced b)
two-long a b = rw (spaced-append a b, length-append)

pub number-long : (n : ℕ) → length (spaced (n ∷ [])) ≡ 1 + length (decimal n)
unfolding spaced
number-long n = rw (append-nil (decimal n)) (omega arith)

-- a space and a number
pub number-laid : (old new : List ℕ) (at n : ℕ) → at < length old → new ≡ laid (set old at 32) (at + 1) (decimal n) → new ≡ laid old at (spaced (n ∷ []))
unfolding spaced
number-laid old new at n h e =
    rw (append-nil (decimal n)) (then-text old at (32 ∷ []) (set old at 32) (at + 1) (set-laid old at 32 h) refl (decimal n) new (omega arith) e)

-- numbers laid right behind numbers
pub spaced-then : (old l new a b : List ℕ) (at p r : ℕ) → at + length (spaced (a ++ b)) ≤ length old
    → l ≡ laid old at (spaced a) → p ≡ at + length (spaced a) → new ≡ laid l p (spaced b) → r ≡ p + length (spaced b)
    → (r ≡ at + length (spaced (a ++ b))) × (new ≡ laid old at (spaced (a ++ b)))
spaced-then old l new a b at p r fits el ep en er =
    let long = two-long a b in
    (omega arith, rw (spaced-append a b) (then-text old at (spaced a) l p el ep (spaced b) new (omega arith) en))

-- the next number of a list, behind those before it
module _ (l : List ℕ) (i : ℕ) (h : i < length l) where
  next-taken : take (i + 1) l ≡ take i l ++ (get_or l i 0 ∷ [])
  next-taken = rw (add-one, take-suc l i 0 h)

  pub next-long : length (spaced (take (i + 1) l)) ≡ length (spaced (take i l)) + length (spaced (get_or l i 0 ∷ []))
  next-long = rw next-taken (two-long (take i l) (get_or l i 0 ∷ []))

  -- it has its room
  pub next-room : length (spaced (take (i + 1) l)) ≤ length (spaced l)
  next-room =
      let whole : length (spaced l) ≡ length (spaced (take (i + 1) l)) + length (spaced (drop (i + 1) l)) =
      rw (← two-long (take (i + 1) l) (drop (i + 1) l), take-append-drop (i + 1) l) in
      omega arith

  pub next-laid : (old out new : List ℕ) (at p r : ℕ) → at + length (spaced l) ≤ length old
      → out ≡ laid old at (spaced (take i l)) → p ≡ at + length (spaced (take i l))
      → new ≡ laid out p (spaced (get_or l i 0 ∷ [])) → r ≡ p + length (spaced (get_or l i 0 ∷ []))
      → (r ≡ at + length (spaced (take (i + 1) l))) × (new ≡ laid old at (spaced (take (i + 1) l)))
  next-laid old out new at p r fits el ep en er =
      let room = next-room in
      let long = next-long in
      let both = two-long (take i l) (get_or l i 0 ∷ []) in
      rw next-taken (spaced-then old out new (take i l) (get_or l i 0 ∷ []) at p r (omega arith) el ep en er)

-- each number has a space and a digit
pub spaced-least : (l : List ℕ) → 2 * length l ≤ length (spaced l)
unfolding spaced
spaced-least [] = omega arith
spaced-least (n ∷ l) = let s = some-long n in let more = spaced-least l in rw length-append (omega arith)

-- numbers of 64 bits
abbrev pub Words : List ℕ → Type 0
Words [] = Unit {0}
Words (n ∷ l) = (n < 2 ^ 64) × Words l

pub words_of : (l : List ℕ) → ((i : ℕ) → get_or l i 0 < 2 ^ 64) → Words l
words_of [] h = tt
words_of (n ∷ l) h = (h 0, words_of l (λ i. h (suc i)))

pub words-first : (k : ℕ) (l : List ℕ) → Words l → Words (take k l)
words-first zero l w = tt
words-first (suc k) [] w = tt
words-first (suc k) (n ∷ l) (h, w) = (h, words-first k l w)

-- each has at most twenty digits and a space
pub spaced-most : (l : List ℕ) → Words l → length (spaced l) ≤ 21 * length l
unfolding spaced
spaced-most [] w = omega arith
spaced-most (n ∷ l) (h, w) = let few = at-most-twenty n h in let more = spaced-most l w in rw length-append (omega arith)

pub line-long : (w ns : List ℕ) → length (line w ns) ≡ length w + length (spaced ns) + 1
unfolding line
line-long w ns = simp length-append (omega arith)
