-- Mistakes that look right, each caught by a short run or by one step. Assumes nothing.
use mathlib.Core.Path.{◌≡◌, refl}
use mathlib.Core.Bool.{false}
use mathlib.Core.Option.{none, some}
use mathlib.Core.List.{List, [], ◌∷◌, ◌++◌}
use Prim.Native.Nat.{ℕ}
use Rattle.base_lists.specs.Table.{update}
use Rattle.model.specs.Store.{Store, Txn, Open, no_txn, fresh}
use Rattle.model.specs.Verdict.{Row}
use Rattle.model.specs.Refusals.{Step, begin, capture, collect, rows, put, erase, prepare, install, end, publish, validate, Taken, Stale, NoVersions}
use Rattle.model.specs.Refusals.{txn_of}
use Rattle.model.specs.Machine.{Done, Stamp, Rows, Judged, Refused, step, run}
use Rattle.model.proofs.Computes.{computes}

-- a store of 4 rows and 4 buckets, after some steps
abbrev pub after : List Step → Store
after steps = run (fresh (record { rows = 4; versions = 8; buckets = 4 }) 1) steps

-- transaction 1 writes key 6 into row 2; its bucket is 2
abbrev pub writing : List Step
writing = begin ∷ put 1 2 6 10 ∷ prepare 1 ∷ []

abbrev pub wrote : List Step
wrote = writing ++ (install 1 ∷ end 1 ∷ publish 1 ∷ [])

-- transaction 1 writes key 6 into row 2, which is empty, and erases it again
abbrev pub erasing : List Step
erasing = begin ∷ put 1 2 6 10 ∷ erase 1 2 ∷ prepare 1 ∷ []

-- transaction 3 erases row 2, which is live; and 5 erases it once more
abbrev pub erased : List Step
erased = wrote ++ (begin ∷ erase 3 2 ∷ prepare 3 ∷ install 3 ∷ end 3 ∷ publish 3 ∷ [])

abbrev pub erased_twice : List Step
erased_twice = erased ++ (begin ∷ erase 5 2 ∷ prepare 5 ∷ install 5 ∷ end 5 ∷ publish 5 ∷ [])

-- transaction 5 is open, and every bucket has this stamp
abbrev pub stamped : ℕ → Store
stamped n =
    let x : Txn = record {
      number = 5;
      snapshot = record { xmin = 5; xmax = 6; active = [] };
      marked = false;
      phase = Open;
      reads = [];
      writes = [];
      records = [];
      candidates = [];
    } in
    let s = after [] in
    record {
      sizes = s.sizes;
      clock = 6;
      chains = s.chains;
      index = record { stamp = λ b. n; posted = λ r. none };
      held = s.held;
      txns = update (λ i. no_txn) 0 x;
    }

pub record Caught : Type 0 where
  -- accepting a stamp equal to the number
  pub lower-stamp : (step (stamped 4) (capture 5 2)).answer ≡ Stamp 4
  pub equal-stamp : (step (stamped 5) (capture 5 2)).answer ≡ Refused Stale
  -- stamping with an old number
  pub new-stamp : (after wrote).index.stamp 2 ≡ 2
  -- updating postings at install, or never
  pub posted-late : (after (writing ++ (install 1 ∷ []))).index.posted 2 ≡ none
  pub posted-then : (after wrote).index.posted 2 ≡ some 6
  -- a snapshot that leaves out who has not ended
  pub active-open : (txn_of (after (begin ∷ begin ∷ [])) 2).snapshot.active ≡ 1 ∷ []
  pub active-installed : (txn_of (after (writing ++ (install 1 ∷ begin ∷ []))) 2).snapshot.active ≡ 1 ∷ []
  -- leasing no bucket for the old key, or for a payload-only write
  pub old-bucket : (after (wrote ++ (begin ∷ put 3 2 3 11 ∷ prepare 3 ∷ []))).held.holder 2 ≡ 3
  pub payload-bucket : (after (wrote ++ (begin ∷ put 3 2 6 11 ∷ prepare 3 ∷ []))).held.holder 2 ≡ 3
  -- the old head's xmax
  pub old-xmax : (after (wrote ++ (begin ∷ put 3 2 6 11 ∷ prepare 3 ∷ install 3 ∷ []))).chains.xmax 1 ≡ 3
  -- finding candidates alone, without own pending rows
  pub own_row : (step (after (begin ∷ put 1 2 6 10 ∷ capture 1 6 ∷ collect 1 ∷ [])) (rows 1 4)).answer ≡ Rows (2 ∷ [])
  -- recording only rows of the first read
  pub second-read : (txn_of (after (begin ∷ put 1 2 6 10 ∷ put 1 0 3 7 ∷ prepare 1 ∷ install 1 ∷ end 1 ∷ publish 1 ∷ begin ∷ capture 3 6 ∷ collect 3
      ∷ rows 3 4 ∷ capture 3 3 ∷ collect 3 ∷ rows 3 4 ∷ [])) 3).records
      ≡ record { row = 2; ptr = 2; xmin = 1 } ∷ record { row = 0; ptr = 1; xmin = 1 } ∷ []
  -- judging under a bucket that another holds
  pub held-verdict : (step (after (wrote ++ (begin ∷ capture 3 6 ∷ collect 3 ∷ rows 3 4 ∷ begin ∷ put 4 0 2 7 ∷ prepare 4 ∷ []))) (validate 3)).answer
      ≡ Refused Taken
  -- a record that passes since its xmax is below the snapshot's, though it was active
  pub active-xmax : (step (after
      (wrote ++ (begin ∷ begin ∷ capture 4 6 ∷ collect 4 ∷ rows 4 4 ∷ put 3 2 6 11 ∷ prepare 3 ∷ install 3 ∷ end 3 ∷ publish 3 ∷ [])))
      (validate 4)).answer ≡ Judged (Row 2 1)
  -- forgetting what others have reserved
  pub reserved-version : (step
      (run (fresh (record { rows = 4; versions = 1; buckets = 4 }) 1) (begin ∷ put 1 0 1 7 ∷ prepare 1 ∷ begin ∷ put 2 1 2 8 ∷ [])) (prepare 2)).answer
      ≡ Refused NoVersions
  -- a version for an erase of nothing, a bucket for a put before it, or no claim
  pub nothing-installed : (after (erasing ++ (install 1 ∷ []))).chains.used ≡ 0
  pub nothing-held : (after erasing).held.holder 2 ≡ 0
  pub nothing-claimed : (after erasing).held.claim 2 ≡ 1
  -- counting an erase of nothing, the own or another's
  pub nothing-counted : (step (run (fresh (record { rows = 4; versions = 1; buckets = 4 }) 1) (begin ∷ erase 1 0 ∷ put 1 1 2 8 ∷ [])) (prepare 1)).answer ≡ Done
  pub nothing-reserved : (step (run (fresh (record { rows = 4; versions = 1; buckets = 4 }) 1) (begin ∷ erase 1 0 ∷ prepare 1 ∷ begin ∷ put 2 1 2 8 ∷ []))
      (prepare 2)).answer ≡ Done
  -- taking an erased head for a live one, by the version under it; an erase of a live row gets its version, and stamps
  pub erased-once : ((after erased).chains.used ≡ 2) × ((after erased).index.stamp 2 ≡ 4)
  pub erased-twice : ((after erased_twice).chains.used ≡ 2) × ((after erased_twice).index.stamp 2 ≡ 4)

pub caught : Caught
unfolding computes
caught = record {
  lower-stamp = refl;
  equal-stamp = refl;
  new-stamp = refl;
  posted-late = refl;
  posted-then = refl;
  active-open = refl;
  active-installed = refl;
  old-bucket = refl;
  payload-bucket = refl;
  old-xmax = refl;
  own_row = refl;
  second-read = refl;
  held-verdict = refl;
  active-xmax = refl;
  reserved-version = refl;
  nothing-installed = refl;
  nothing-held = refl;
  nothing-claimed = refl;
  nothing-counted = refl;
  nothing-reserved = refl;
  erased-once = (refl, refl);
  erased-twice = (refl, refl);
}
