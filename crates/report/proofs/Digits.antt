-- A number's digits are those of its tenth, and the last, so they are had from the last on; a number of 64 bits has at most 20.
-- Assumes nothing.
use borrow.Author.Tests.{ltb-true, ltb-false, lt-ltb, le-ltb}
use Prim.Native.Nat.{ℕ, zero, suc, ◌+◌, ◌-◌, ◌^◌, ◌/◌, ◌%◌, ◌<◌, ◌≤◌}
use mathlib.Core.Path.{◌≡◌, refl, sym, ◌∙◌}
use mathlib.Core.Bool.{Bool, true, false, cond}
use mathlib.Core.List.{List, [], ◌∷◌, ◌++◌}
use native.Mathlib.Omega.{arith}
use lib.Dec.{ltb}
use lib.ListN.{length, take, drop, get_or, set, length-append}
use lib.Seq.{length-take-le, take_at, take-take, drop-cons, get_or_at, get_or-take}
use Rattle.model.specs.Report.{digits_step, digits_for, decimal}
use Rattle.report.specs.Written.{laid}
use Rattle.report.proofs.Laid.{store-before}

cond-unless : (b : Bool) (x y z : List ℕ) → (b ≡ false → x ≡ y) → cond b z x ≡ cond b z y
cond-unless true x y z e = refl
cond-unless false x y z e = e refl

step-agrees : (f g : ℕ → List ℕ) (n : ℕ) → ((m : ℕ) → m < n → f m ≡ g m) → digits_step f n ≡ digits_step g n
unfolding digits_step
step-agrees f g n e =
    cond-unless (ltb n 10) (f (n / 10) ++ ((48 + n % 10) ∷ [])) (g (n / 10) ++ ((48 + n % 10) ∷ [])) ((48 + n) ∷ [])
    (λ t. rw (e (n / 10) (let h = ltb-false n 10 t in omega arith)))

step-zero : (f g : ℕ → List ℕ) → digits_step f 0 ≡ digits_step g 0
unfolding digits_step
step-zero f g = refl

enough : (k j n : ℕ) → n ≤ k → n ≤ j → digits_for k n ≡ digits_for j n
unfolding digits_for
enough zero zero n h i = refl
enough zero (suc j) n h i = let z : n ≡ 0 = omega arith in rw z (step-zero (λ m. []) (digits_for j))
enough (suc k) zero n h i = let z : n ≡ 0 = omega arith in rw z (step-zero (digits_for k) (λ m. []))
enough (suc k) (suc j) n h i = step-agrees (digits_for k) (digits_for j) n (λ m l. enough k j m (omega arith) (omega arith))

decimal_step : (n : ℕ) → decimal n ≡ digits_step decimal n
unfolding decimal digits_for
decimal_step zero = step-zero (λ m. []) (λ m. digits_for m m)
decimal_step (suc k) = step-agrees (digits_for k) (λ m. digits_for m m) (suc k) (λ m l. enough k m m (omega arith) (omega arith))

pub decimal-one : (n : ℕ) → n < 10 → decimal n ≡ (48 + n) ∷ []
unfolding digits_step
decimal-one n h = rw (decimal_step, lt-ltb n 10)

pub decimal-more : (n : ℕ) → 10 ≤ n → decimal n ≡ decimal (n / 10) ++ ((48 + n % 10) ∷ [])
unfolding digits_step
decimal-more n h = decimal_step n ∙ rw (le-ltb n 10)

pub decimal-two : (n : ℕ) → 10 ≤ n → n < 100 → decimal n ≡ (48 + n / 10) ∷ (48 + n % 10) ∷ []
decimal-two n h i = rw (decimal-more n h, decimal-one (n / 10) (omega arith))

pub one-long : (n : ℕ) → n < 10 → length (decimal n) ≡ 1
one-long n h = rw (decimal-one n h)

pub more-long : (n : ℕ) → 10 ≤ n → length (decimal n) ≡ length (decimal (n / 10)) + 1
more-long n h = rw (decimal-more n h, length-append)

pub two-long : (n : ℕ) → 10 ≤ n → n < 100 → length (decimal n) ≡ 2
two-long n h i = let last = more-long n h in let rest = one-long (n / 10) (omega arith) in omega arith

pub three-long : (n : ℕ) → 100 ≤ n → n < 1000 → length (decimal n) ≡ 3
three-long n h i = let last = more-long n (omega arith) in let rest = two-long (n / 10) (omega arith) (omega arith) in omega arith

pub four-long : (n : ℕ) → 1000 ≤ n → n < 10000 → length (decimal n) ≡ 4
four-long n h i = let last = more-long n (omega arith) in let rest = three-long (n / 10) (omega arith) (omega arith) in omega arith

-- four digits, and those before them
pub beyond-four-long : (n : ℕ) → 10000 ≤ n → length (decimal n) ≡ length (decimal (n / 10000)) + 4
beyond-four-long n h =
    let ones = more-long n (omega arith) in
    let tens = more-long (n / 10) (omega arith) in
    let hundreds = more-long (n / 10 / 10) (omega arith) in
    let thousands = more-long (n / 10 / 10 / 10) (omega arith) in
    let front : n / 10 / 10 / 10 / 10 ≡ n / 10000 = omega arith in
    rw (← front) (omega arith)

-- where the first k + 1 digits of n are those of `rest`, digit k is the last of `rest`, and those before it are its tenth's
module _ (n rest k : ℕ) (h : k < length (decimal n)) (e : take (k + 1) (decimal n) ≡ decimal rest) where
  front_long : length (decimal rest) ≡ k + 1
  front_long = rw (← e) (length-take-le (k + 1) (decimal n) (omega arith))

  in-front : get_or (decimal n) k 0 ≡ get_or (decimal rest) k 0
  in-front = sym (get_or-take (k + 1) (decimal n) k 0 (omega arith)) ∙ rw e

  digit-by : (b : Bool) → ltb rest 10 ≡ b → (get_or (decimal n) k 0 ≡ 48 + rest % 10) × (0 < k → take k (decimal n) ≡ decimal (rest / 10))
  digit-by true t =
      let small = ltb-true rest 10 t in
      let long = front_long in
      let one = one-long rest small in
      let first : k ≡ 0 = omega arith in
      let itself : rest % 10 ≡ rest = omega arith in
      (in-front ∙ rw (decimal-one rest small, first, itself), λ some. absurd (omega arith))
  digit-by false t =
      let many = ltb-false rest 10 t in
      let long = front_long in
      let more = more-long rest many in
      let last : length (decimal (rest / 10)) ≡ k = omega arith in (
        in-front ∙ rw (decimal-more rest many) (get_or_at (decimal (rest / 10)) (48 + rest % 10) [] 0 k last),
        λ some. sym (take-take k (k + 1) (decimal n) (omega arith))
            ∙ rw (e, decimal-more rest many) (take_at (decimal (rest / 10)) ((48 + rest % 10) ∷ []) k last),
      )

-- a turn of writing the digits from the last on: those from p on are laid, and those before it are the digits of `rest`
module _ (old l : List ℕ) (n at p rest : ℕ) (h : at < p) (i : p ≤ at + length (decimal n)) (e : take (p - at) (decimal n) ≡ decimal rest) where
  next_one : p - at ≡ p - 1 - at + 1
  next_one = omega arith

  turned : (get_or (decimal n) (p - 1 - at) 0 ≡ 48 + rest % 10) × (0 < p - 1 - at → take (p - 1 - at) (decimal n) ≡ decimal (rest / 10))
  turned = digit-by n rest (p - 1 - at) (omega arith) (rw (← next_one) e) (ltb rest 10) refl

  pub digits-left : at < p - 1 → take (p - 1 - at) (decimal n) ≡ decimal (rest / 10)
  digits-left more = turned.1 (omega arith)

  pub digit-laid : at + length (decimal n) ≤ length old → l ≡ laid old p (drop (p - at) (decimal n))
      → set l (p - 1) (48 + rest % 10) ≡ laid old (p - 1) (drop (p - 1 - at) (decimal n))
  digit-laid fits el =
      let place : p - 1 + 1 ≡ p = omega arith in
      let after : suc (p - 1 - at) ≡ p - at = omega arith in
      let longer : drop (p - 1 - at) (decimal n) ≡ (48 + rest % 10) ∷ drop (p - at) (decimal n) =
      drop-cons (decimal n) (p - 1 - at) 0 (omega arith) ∙ rw (turned.0, after) in
      rw longer
      (store-before old l (drop (p - at) (decimal n)) (p - 1) (48 + rest % 10) (omega arith) (rw place el))

long-by : (n : ℕ) (b : Bool) → ltb n 10 ≡ b → 1 ≤ length (decimal n)
long-by n true e = let l = one-long n (ltb-true n 10 e) in omega arith
long-by n false e = let l = more-long n (ltb-false n 10 e) in omega arith

-- a number has a digit
pub some-long : (n : ℕ) → 1 ≤ length (decimal n)
some-long n = long-by n (ltb n 10) refl

-- of a number below 10 to the k + 1 there are at most k + 1 digits
short-by : (k n : ℕ) (b : Bool) → ltb n 10 ≡ b → (n / 10 < 10 ^ k → length (decimal (n / 10)) ≤ k) → n < 10 ^ suc k → length (decimal n) ≤ suc k
short-by k n true e less h = let l = one-long n (ltb-true n 10 e) in omega arith
short-by k n false e less h = let l = more-long n (ltb-false n 10 e) in let i = less (omega arith) in omega arith

few-digits : (k n : ℕ) → n < 10 ^ suc k → length (decimal n) ≤ suc k
few-digits zero n h = let l = one-long n (omega arith) in omega arith
few-digits (suc k) n h = short-by (suc k) n (ltb n 10) refl (few-digits k (n / 10)) h

pub at-most-twenty : (n : ℕ) → n < 2 ^ 64 → length (decimal n) ≤ 20
at-most-twenty n h = few-digits 19 n (omega arith)
