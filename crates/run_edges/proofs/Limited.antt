-- Each limit of crate limits, by its last number within and its first beyond. Assumes nothing.
use mathlib.Core.Path.{◌≡◌, refl}
use mathlib.Core.List.{List, [], ◌∷◌, ◌++◌}
use Prim.Native.Nat.{ℕ, zero, suc, ◌+◌}
use Rattle.model.specs.Store.{Store, fresh}
use Rattle.model.specs.Refusals.{Step, begin, capture, collect, rows, put, prepare, install, end, publish}
use Rattle.model.specs.Machine.{run}
use Rattle.model.specs.Given.{number, open_number}
use Rattle.model.proofs.Computes.{computes}

-- so many steps, one for each number below n, from the last to the first
unfoldable pub each : (ℕ → List Step) → ℕ → List Step
each f zero = []
each f (suc n) = f n ++ each f n

abbrev pub open-with : ℕ → ℕ → ℕ → ℕ
open-with r v b = open_number (record { rows = r; versions = v; buckets = b }) 1

-- a store of 4 rows, 8 versions and 32 buckets, after some steps
abbrev pub after : List Step → Store
after steps = run (fresh (record { rows = 4; versions = 8; buckets = 32 }) 1) steps

-- a capture and what it leads to
abbrev pub reads : ℕ → List Step
reads k = capture 1 k ∷ collect 1 ∷ rows 1 4 ∷ []

-- a store of 256 rows and versions; transaction t writes key 6 into n rows from `first` on, and publishes
abbrev pub wide : List Step → Store
wide steps = run (fresh (record { rows = 256; versions = 256; buckets = 4 }) 1) steps

abbrev pub writes : ℕ → ℕ → ℕ → List Step
writes t first n = begin ∷ (each (λ i. put t (first + i) 6 i ∷ []) n ++ (prepare t ∷ install t ∷ end t ∷ publish t ∷ []))

abbrev pub rows-128 : List Step
rows-128 = writes 1 0 16 ++ writes 3 16 16 ++ writes 5 32 16 ++ writes 7 48 16 ++ writes 9 64 16 ++ writes 11 80 16 ++ writes 13 96 16 ++ writes 15 112 16

-- two transactions Prepared, each with two writes to one row
abbrev pub reserving : ℕ → Store
reserving v = run (fresh (record { rows = 4; versions = v; buckets = 32 }) 1)
    (begin ∷ put 1 0 1 1 ∷ put 1 0 2 2 ∷ prepare 1 ∷ begin ∷ put 2 1 3 3 ∷ put 2 1 4 4 ∷ prepare 2 ∷ begin ∷ put 3 2 5 5 ∷ [])

pub record Limited : Type 0 where
  pub most-sizes : open-with 1024 4096 4096 ≡ 0
  pub rows-beyond : open-with 1025 4096 4096 ≡ 1
  pub versions-beyond : open-with 1024 4097 4096 ≡ 1
  pub buckets-beyond : open-with 1024 4096 4097 ≡ 1
  pub eighth-live : number (after (each (λ n. begin ∷ []) 7)) begin ≡ 0
  pub ninth-live : number (after (each (λ n. begin ∷ []) 8)) begin ≡ 3
  pub last-number : number (run (fresh (record { rows = 4; versions = 8; buckets = 32 }) 18446744073709551613) []) begin ≡ 0
  pub number-beyond : number (run (fresh (record { rows = 4; versions = 8; buckets = 32 }) 18446744073709551614) []) begin ≡ 2
  pub sixteenth-write : number (after (begin ∷ each (λ n. put 1 2 6 n ∷ []) 15)) (put 1 2 6 1) ≡ 0
  pub seventeenth-write : number (after (begin ∷ each (λ n. put 1 2 6 n ∷ []) 16)) (put 1 2 6 1) ≡ 12
  pub sixteenth-read : number (after (begin ∷ each reads 15)) (capture 1 31) ≡ 0
  pub seventeenth-read : number (after (begin ∷ each reads 16)) (capture 1 31) ≡ 9
  pub last-record : number (wide (rows-128 ++ (begin ∷ capture 17 6 ∷ collect 17 ∷ []))) (rows 17 1024) ≡ 0
  pub record-beyond : number (wide (rows-128 ++ writes 17 128 1 ++ (begin ∷ capture 19 6 ∷ collect 19 ∷ []))) (rows 19 1024) ≡ 11
  pub last-version : number (reserving 3) (prepare 3) ≡ 0
  pub version-beyond : number (reserving 2) (prepare 3) ≡ 13
  pub again-read : number (after (begin ∷ each reads 16)) (capture 1 0) ≡ 0

pub limited : Limited
unfolding computes each
limited = record {
  most-sizes = refl;
  rows-beyond = refl;
  versions-beyond = refl;
  buckets-beyond = refl;
  eighth-live = refl;
  ninth-live = refl;
  last-number = refl;
  number-beyond = refl;
  sixteenth-write = refl;
  seventeenth-write = refl;
  sixteenth-read = refl;
  seventeenth-read = refl;
  last-record = refl;
  record-beyond = refl;
  last-version = refl;
  version-beyond = refl;
  again-read = refl;
}
