-- An accepted open leaves words that stand for the fresh store, and every word past the sizes as it was.
-- Assumes nothing.
use Prim.Native.Nat.{ℕ, zero, suc, ◌*◌, ◌≤◌}
use mathlib.Core.Path.{◌≡◌, refl}
use mathlib.Core.Bool.{Bool, true, false, cond, not}
use mathlib.Core.List.{List, [], ◌++◌}
use native.Mathlib.Omega.{arith}
use lib.ListN.{length, take, drop, get_or, replicate, length-append, length-replicate}
use lib.Seq.{drop_at}
use Rattle.base_limits.specs.Limits.{last_number}
use Rattle.model.specs.Store.{fresh}
use Rattle.model.specs.Machine.{can_open}
use Rattle.model.specs.Refusals.{WrongSize, WrongShape}
use Rattle.base_protocol.specs.declared.Answer.TheVariants as tell
use Rattle.base_protocol.specs.declared.Sizes.{Sizes}
use Rattle.base_protocol.specs.View.{sizes_view, refusal_told}
use Rattle.table.specs.Fields.{row_words, version_words, bucket_words}
use Rattle.step.specs.Words.{Words, view}
use Rattle.step.specs.Past.{PastKept}
use Rattle.step_bridge.proofs.Running.{Stands}
use Rattle.step_bridge.proofs.Opening.{Opened, opened_view, opened-stands}
use Rattle.shape.specs.Shape.{tables_lent, words_of}
use Rattle.call.proofs.Laws.{lent-roomy}
use Rattle.call.specs.Calls.{cleared, fresh_of, refused_open, open_of}

-- so many words from the front are 0
take-zero : (n : ℕ) (ys : List ℕ) (i : ℕ) → get_or (take n (replicate n 0 ++ ys)) i 0 ≡ 0
take-zero zero ys i = refl
take-zero (suc n) ys zero = refl
take-zero (suc n) ys (suc i) = take-zero n ys i

pub cleared-zero : (n : ℕ) (xs : List ℕ) (i : ℕ) → get_or (take n (cleared n xs)) i 0 ≡ 0
unfolding cleared
cleared-zero n xs i = take-zero n (drop n xs) i

pub cleared-long : (n : ℕ) (xs : List ℕ) → n ≤ length (cleared n xs)
unfolding cleared
cleared-long n xs = omega (arith, length-append (replicate n 0) (drop n xs), length-replicate {A = ℕ} n 0)

-- and no other
cleared-past : (n : ℕ) (xs : List ℕ) → drop n (cleared n xs) ≡ drop n xs
unfolding cleared
cleared-past n xs = drop_at (replicate n 0) (drop n xs) n (length-replicate n 0)

module _ (rows versions buckets lists : List ℕ) (z : Sizes) (clock : ℕ) where
  -- the words of a fresh machine over cleared tables, and a list lent for the rows of a read
  abbrev pub fresh_words : List ℕ → Words
  fresh_words found = words_of (cleared (row_words * z.rows) rows) (cleared (version_words * suc z.versions) versions)
      (cleared (bucket_words * z.buckets) buckets) lists found (fresh_of z clock)

  -- words past what the sizes name are as they were
  pub fresh-past : (before found : List ℕ)
      → PastKept z (record { rows = rows; versions = versions; buckets = buckets; lists = lists; found = before }) (fresh_words found).tables
  fresh-past before found = record {
    rows = cleared-past (row_words * z.rows) rows;
    versions = cleared-past (version_words * suc z.versions) versions;
    buckets = cleared-past (bucket_words * z.buckets) buckets;
    lists = refl;
  }

  done-by : (a b : Bool)
      → (cond (not a) (refused_open (refusal_told WrongSize) rows versions buckets lists)
      (cond (not b) (refused_open (refusal_told WrongShape) rows versions buckets lists)
      (record { answer = tell.Done; words = fresh_words [] }))).answer ≡ tell.Done
      → (a ≡ true) × (b ≡ true)
  done-by true true e = (refl, refl)
  done-by true false e = let q : ◌≡◌ {A = ℕ} 0 1 = cc in absurd (omega arith)
  done-by false b e = let q : ◌≡◌ {A = ℕ} 0 1 = cc in absurd (omega arith)

  module _ (o : (open_of rows versions buckets lists z clock).answer ≡ tell.Done) where
    pub tests : (can_open (sizes_view z) clock ≡ true) × (tables_lent rows versions buckets lists z ≡ true)
    unfolding open_of
    tests = done-by (can_open (sizes_view z) clock) (tables_lent rows versions buckets lists z) o

    pub open-words : (open_of rows versions buckets lists z clock).words ≡ fresh_words []
    unfolding open_of
    open-words = rw (tests.0, tests.1)

    module _ (l : clock ≤ last_number) where
      pub opened : (found : List ℕ) → Opened (fresh_words found)
      opened found = record {
        opens = tests.0;
        clock-in = l;
        unused = refl;
        free = refl;
        rows-zero = cleared-zero (row_words * z.rows) rows;
        versions-zero = cleared-zero (version_words * suc z.versions) versions;
        buckets-zero = cleared-zero (bucket_words * z.buckets) buckets;
        rows_long = cleared-long (row_words * z.rows) rows;
        versions-long = cleared-long (version_words * suc z.versions) versions;
        buckets-long = cleared-long (bucket_words * z.buckets) buckets;
        lists-long = (lent-roomy rows versions buckets lists z tests.1).lists-there;
      }

      pub open-stands : Stands (open_of rows versions buckets lists z clock).words
      open-stands = rw open-words (opened-stands (fresh_words []) (opened []))

      pub open-view : view (open_of rows versions buckets lists z clock).words ≡ fresh (sizes_view z) clock
      open-view = rw open-words (opened_view (fresh_words []) (opened []))
