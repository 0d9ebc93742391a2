-- What both kernels answer and leave, as a caller uses it.
-- Assumes nothing.
use Prim.Native.Nat.{ℕ, ◌<◌, ◌≤◌, min}
use mathlib.Core.Logic.{◌↔◌}
use mathlib.Core.Path.{◌≡◌, refl, sym, ap, ◌∙◌}
use mathlib.Core.List.{List}
use native.Mathlib.Omega.{arith}
use lib.ListN.{length, take, drop}
use Rattle.base_limits.specs.Limits.{most_buckets}
use Rattle.std.specs.Prelude.{Result, Ok, Err}
use Rattle.table_buckets.specs.declared.ListError.{ListError}
use Rattle.table_buckets.specs.declared.ListError.TheVariants.{Bad, NoRoom}
use Rattle.table_buckets.specs.Buckets.{Check, fine, counted, buckets_of, check_of, Made, answered, canonical_of}
use Rattle.table_buckets.specs.Steps.{AllBelow}
use Rattle.table_buckets.specs.Upstream.{IsInRange, IsFirstInvalid}
use Rattle.table_buckets.proofs.Laws.{below_at, laid-front}
use Rattle.table_buckets.proofs.Checks.{fine-below, short-below, bad-first, fine-when, short-when, bad-when}

abbrev pub answer-of : Made → Result ℕ ListError
answer-of m = m.answer

abbrev pub out_of : Made → List ℕ
out_of m = m.out

-- the contract of `canonical_buckets_sort`, and of `canonical_buckets_bitmap`: answer r, and the place `old` left as `new`
abbrev pub Kernel : List ℕ → ℕ → List ℕ → Result ℕ ListError → List ℕ → Type 0
Kernel input bucket_count old r new = ◌≡◌ {A = Made} (record { answer = r; out = new }) (canonical_of input bucket_count old)

-- a kernel's answer follows from its check, whichever way it makes the list
pub answers : (input old : List ℕ) (bucket_count count : ℕ) (check : Check) → count ≡ counted bucket_count → check ≡ check_of count (length old) input
    → answered check (buckets_of input) old ≡ canonical_of input bucket_count old
unfolding canonical_of
answers input old bucket_count count check ec e = rw (e, ec)

-- a count above 4,096 acts as 4,096
pub count-capped : (input old : List ℕ) (bucket_count : ℕ) → most_buckets ≤ bucket_count
    → canonical_of input bucket_count old ≡ canonical_of input most_buckets old
unfolding canonical_of
count-capped input old bucket_count h = let e : min bucket_count most_buckets ≡ most_buckets = omega arith in rw e

-- what the check of a kernel found, with the answer to it
abbrev pub Case : List ℕ → ℕ → List ℕ → Result ℕ ListError → List ℕ → Check → Type 0
Case input bucket_count old r new check =
    (check_of (counted bucket_count) (length old) input ≡ check) × ◌≡◌ {A = Made} (record { answer = r; out = new }) (answered check (buckets_of input) old)

module _ (input : List ℕ) (bucket_count : ℕ) (old : List ℕ) (r : Result ℕ ListError) (new : List ℕ) where
  pub by-case : (P : Type 0) → ((check : Check) → Case input bucket_count old r new check → P) → Kernel input bucket_count old r new → P
  unfolding canonical_of
  by-case P each e = each (check_of (counted bucket_count) (length old) input) (refl, e)

  -- an answer is of one case only
  other-case : {P : Type 0} (a b : Result ℕ ListError) → r ≡ a → r ≡ b → (a ≡ b → ◌≡◌ {A = ℕ} 0 1) → P
  other-case a b p q differ = let z = differ (sym p ∙ q) in absurd (omega arith)

  -- a sorted list stands at the front, and the words behind it are as they were
  pub sorted_front : (n : ℕ) → Kernel input bucket_count old r new → r ≡ Ok n
      → (n ≡ length (buckets_of input)) × (take n new ≡ buckets_of input) × (drop n new ≡ drop n old)
  sorted_front n e h = by-case _ front e
    where
      front : (check : Check) → Case input bucket_count old r new check
          → (n ≡ length (buckets_of input)) × (take n new ≡ buckets_of input) × (drop n new ≡ drop n old)
      front (Err (Bad bad)) k = other-case (Ok n) (Err (Bad bad)) h (ap answer-of k.1) (λ z. cc)
      front (Err NoRoom) k = other-case (Ok n) (Err NoRoom) h (ap answer-of k.1) (λ z. cc)
      front (Ok _) k =
          let a = ap answer-of k.1 in
          let long : n ≡ length (buckets_of input) = cc in
          let f = laid-front (buckets_of input) new old n long (ap out_of k.1) in
          (long, f.0, f.1)

  -- and no bucket of its input is bad
  pub sorted-below : (n : ℕ) → Kernel input bucket_count old r new → r ≡ Ok n → AllBelow (counted bucket_count) input
  sorted-below n e h = by-case _ below e
    where
      below : (check : Check) → Case input bucket_count old r new check → AllBelow (counted bucket_count) input
      below (Err (Bad bad)) k = other-case (Ok n) (Err (Bad bad)) h (ap answer-of k.1) (λ z. cc)
      below (Err NoRoom) k = (short-below (counted bucket_count) (length old) input k.0).0
      below (Ok _) k = fine-below (counted bucket_count) (length old) input k.0

  -- any other answer leaves the place as it was
  pub refused-kept : Kernel input bucket_count old r new → ((n : ℕ) → r ≡ Ok n → ⊥) → new ≡ old
  refused-kept e no-list = by-case _ kept e
    where
      kept : (check : Check) → Case input bucket_count old r new check → new ≡ old
      kept (Err (Bad bad)) k = ap out_of k.1
      kept (Err NoRoom) k = ap out_of k.1
      kept (Ok _) k = absurd (no-list _ (ap answer-of k.1))

  -- ---- each answer is given exactly when
  answer_at : (check : Check) → check_of (counted bucket_count) (length old) input ≡ check → Kernel input bucket_count old r new
      → r ≡ (answered check (buckets_of input) old).answer
  unfolding canonical_of
  answer_at check k e = ap answer-of (rw k at e)

  pub bad-exactly : (bad : ℕ) → Kernel input bucket_count old r new → (r ≡ Err (Bad bad)) ↔ IsFirstInvalid input (counted bucket_count) bad
  bad-exactly bad e = (λ h. by-case _ (found h) e, λ f. answer_at (Err (Bad bad)) (bad-when (counted bucket_count) (length old) input bad f) e)
    where
      found : r ≡ Err (Bad bad) → (check : Check) → Case input bucket_count old r new check → IsFirstInvalid input (counted bucket_count) bad
      found h (Err (Bad first)) k =
          let a = ap answer-of k.1 in
          let same : first ≡ bad = cc in
          bad-first (counted bucket_count) (length old) input bad (rw same at k.0)
      found h (Err NoRoom) k = other-case (Err (Bad bad)) (Err NoRoom) h (ap answer-of k.1) (λ z. cc)
      found h (Ok _) k = other-case (Err (Bad bad)) (Ok _) h (ap answer-of k.1) (λ z. cc)

  pub no-room-exactly : Kernel input bucket_count old r new
      → (r ≡ Err NoRoom) ↔ (IsInRange input (counted bucket_count) × (length old < min (length input) (counted bucket_count)))
  no-room-exactly e = (λ h. by-case _ (short h) e, λ f. answer_at (Err NoRoom) (short-when (counted bucket_count) (length old) input f.0 f.1) e)
    where
      short : r ≡ Err NoRoom → (check : Check) → Case input bucket_count old r new check
          → IsInRange input (counted bucket_count) × (length old < min (length input) (counted bucket_count))
      short h (Err (Bad first)) k = other-case (Err NoRoom) (Err (Bad first)) h (ap answer-of k.1) (λ z. cc)
      short h (Err NoRoom) k =
          let s = short-below (counted bucket_count) (length old) input k.0 in
          (λ i l. below_at input (counted bucket_count) i s.0 l, s.1)
      short h (Ok _) k = other-case (Err NoRoom) (Ok _) h (ap answer-of k.1) (λ z. cc)

  pub sorted-when : Kernel input bucket_count old r new → IsInRange input (counted bucket_count) → min (length input) (counted bucket_count) ≤ length old
      → r ≡ Ok (length (buckets_of input))
  sorted-when e below room = answer_at fine (fine-when (counted bucket_count) (length old) input below room) e
