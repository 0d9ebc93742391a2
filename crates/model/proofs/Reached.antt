-- Runs that meet the premises of the page of statements: a read that finds a row, another transaction that publishes meanwhile, a clear verdict; a stale stamp
-- and a mark that lasts; a version that ends; a claim that keeps its heads; erases of nothing; two live at once; and the history of a run. Assumes nothing.
use mathlib.Core.Path.{◌≡◌, refl, sym, subst}
use mathlib.Core.Bool.{true, false}
use mathlib.Core.Logic.{inl, inr}
use mathlib.Core.Option.{none, some}
use mathlib.Core.List.{List, [], ◌∷◌, ◌++◌}
use Prim.Native.Nat.{ℕ, ◌<◌}
use native.Mathlib.Omega.{arith}
use lib.Dec.{ltb}
use borrow.Author.Tests.{ltb-true}
use Rattle.base_limits.specs.Limits.{most_live}
use Rattle.base_lists.specs.Lists.{Among}
use Rattle.model.specs.Store.{Sizes, Store, Collected, fresh, rank, phase_prepared, phase_installed}
use Rattle.model.specs.Verdict.{Clear, Mark}
use Rattle.model.specs.Refusals.{Step, begin, capture, collect, rows, put, erase, prepare, install, end, publish, validate, abort, txn_of}
use Rattle.model.specs.Seeing.{Live, seen, shows, snapshot_now}
use Rattle.model.specs.Steps.{pending_rows, version_rows, made_rows}
use Rattle.model.specs.Machine.{Done, Rows, Judged, step, run, can_open}
use Rattle.model.specs.Upstream.{postings_of, remove, insert, posting_replay}
use Rattle.model.specs.History.{add_events, step_events, history_over, history}
use Rattle.model.specs.Holding.{Writes, ErasesNothing, Unpublished}
use Rattle.model.specs.Given.{number, Lives, StaleStamp}
use Rattle.model.proofs.Computes.{computes}
use Rattle.model.proofs.Numbers.{in-place}
use Rattle.model.proofs.Good.{opened-good}
use Rattle.model.proofs.Conditions.{each_below}

abbrev pub sizes : Sizes
sizes = record { rows = 4; versions = 8; buckets = 4 }

-- transaction 1 writes key 6 into row 2 and publishes; transaction 3 captures and collects key 6
abbrev pub before : List Step
before = begin ∷ put 1 2 6 10 ∷ prepare 1 ∷ install 1 ∷ end 1 ∷ publish 1 ∷ begin ∷ capture 3 6 ∷ collect 3 ∷ []

-- transaction 4 writes a key of another bucket into row 0 and publishes, and a step is refused
abbrev pub between : List Step
between = begin ∷ put 4 0 3 7 ∷ prepare 4 ∷ install 4 ∷ end 4 ∷ publish 4 ∷ publish 4 ∷ []

abbrev pub s₁ : Store
s₁ = run (fresh sizes 1) before

abbrev pub s₂ : Store
s₂ = run (step s₁ (rows 3 4)).store between

-- the premises of finished-read, validated-read and prepared-read
pub met : (can_open sizes 1 ≡ true) × ((step s₁ (rows 3 4)).answer ≡ Rows (2 ∷ [])) × ((txn_of s₁ 3).phase ≡ Collected 6) × ((txn_of s₁ 3).writes ≡ [])
    × ((step s₂ (validate 3)).answer ≡ Judged Clear) × ((step s₂ (prepare 3)).answer ≡ Done)
    × (shows s₂.chains 4 (snapshot_now s₂) 6 ≡ record { row = 2; ptr = 1; xmin = 1 } ∷ [])
unfolding computes
met = (refl, refl, refl, refl, refl, refl, refl)

-- the history of the run up to s₂: the two publishes
pub told : (history (fresh sizes 1) (before ++ (rows 3 4 ∷ between)) ≡ record { row = 0; before = none; after = some 3; creator = 4; stamp = 5 }
    ∷ record { row = 2; before = none; after = some 6; creator = 1; stamp = 2 } ∷ [])
    × (posting_replay (postings_of (λ r. none)) (history (fresh sizes 1) before) 6 2 ≡ true)
    × (posting_replay (postings_of (λ r. none)) (history (fresh sizes 1) before) 6 0 ≡ false)
unfolding computes add_events step_events history_over posting_replay postings_of remove insert
told = (refl, refl, refl)

-- transaction 3 was live when 4 published key 2 into its bucket: its capture of key 6 meets a stale stamp
abbrev pub late : List Step
late = begin ∷ put 1 2 6 10 ∷ prepare 1 ∷ install 1 ∷ end 1 ∷ publish 1 ∷ begin ∷ begin ∷ put 4 0 2 7 ∷ prepare 4 ∷ install 4 ∷ end 4 ∷ publish 4 ∷ []

abbrev pub s₃ : Store
s₃ = run (fresh sizes 1) late

pub met-stale : StaleStamp s₃ (capture 3 6)
unfolding computes
met-stale = ((refl, (0, omega arith, refl, omega arith), refl), (refl, (inl refl, omega arith)))

-- the mark lasts through an accepted step, and the transaction goes on: the premises of mark-life
abbrev pub s₄ : Store
s₄ = (step s₃ (capture 3 6)).store

pub met-mark : ((s₄.txns 0).number ≡ 3) × (((step s₄ (validate 3)).store.txns 0).number ≡ 3) × ((s₄.txns 0).marked ≡ true)
    × (((step s₄ (validate 3)).store.txns 0).marked ≡ true)
unfolding computes
met-mark = (refl, refl, refl, refl)

-- the premises of marked-stops, and what it says there: 8 to a put and an erase, of a row that is not there too; validate and abort still work
pub met-marked : Lives s₄ 3 × ((txn_of s₄ 3).marked ≡ true) × (number s₄ (put 3 1 5 8) ≡ 8) × (number s₄ (put 3 4 5 8) ≡ 8) × (number s₄ (erase 3 1) ≡ 8)
    × (number s₄ (erase 3 4) ≡ 8) × ((step s₄ (validate 3)).answer ≡ Judged Mark) × (number s₄ (abort 3) ≡ 0)
unfolding computes
met-marked = ((0, omega arith, refl, omega arith), refl, refl, refl, refl, refl, refl, refl)

-- a version that ends: transaction 3 writes row 2 again; key and payload of the old version stay, and its xmax turns from 0 to 3
abbrev pub over : List Step
over = begin ∷ put 3 2 6 11 ∷ prepare 3 ∷ install 3 ∷ []

abbrev pub s₅ : Store
s₅ = run (fresh sizes 1) (begin ∷ put 1 2 6 10 ∷ prepare 1 ∷ install 1 ∷ end 1 ∷ publish 1 ∷ [])

pub met-version : (s₅.chains.used ≡ 1) × (s₅.chains.xmax 1 ≡ 0) × ((run s₅ over).chains.xmax 1 ≡ 3) × ((run s₅ over).chains.payload 1 ≡ 10)
    × ((run s₅ over).chains.payload 2 ≡ 11)
unfolding computes
met-version = (refl, refl, refl, refl, refl)

-- transaction 3 erases row 0, which is empty, writes row 1, which is empty, and erases it again, and erases row 2, which is live
abbrev pub erasing : List Step
erasing = begin ∷ put 1 2 6 10 ∷ prepare 1 ∷ install 1 ∷ end 1 ∷ publish 1 ∷ begin ∷ erase 3 0 ∷ put 3 1 5 8 ∷ erase 3 1 ∷ erase 3 2 ∷ []

-- once it is Prepared another writes row 3 and is installed; and then 3 is installed
abbrev pub meanwhile : List Step
meanwhile = begin ∷ put 4 3 3 7 ∷ prepare 4 ∷ install 4 ∷ []

abbrev pub s₆ : Store
s₆ = run (fresh sizes 1) erasing

abbrev pub s₇ : Store
s₇ = run (step s₆ (prepare 3)).store meanwhile

abbrev pub s₈ : Store
s₈ = run (step s₆ (prepare 3)).store (meanwhile ++ (install 3 ∷ []))

-- the premises of kept-heads, at a store where 3 is Prepared and at one where it is Installed, and what it says there: row 2 alone gets a version
pub met-heads : (number s₆ (prepare 3) ≡ 0) × Lives s₇ 3 × (rank (txn_of s₇ 3).phase ≡ phase_prepared) × Lives s₈ 3
    × (rank (txn_of s₈ 3).phase ≡ phase_installed)
    × (version_rows s₆.sizes s₆.chains (txn_of s₆ 3).writes ≡ 2 ∷ []) × (version_rows s₇.sizes s₇.chains (txn_of s₇ 3).writes ≡ 2 ∷ [])
    × (made_rows s₈.sizes s₈.chains 3 (txn_of s₈ 3).writes ≡ 2 ∷ [])
    × (s₆.chains.used ≡ 1) × (s₇.chains.used ≡ 2) × (s₈.chains.used ≡ 3)
unfolding computes
met-heads = (refl, (0, omega arith, refl, omega arith), refl, (0, omega arith, refl, omega arith), refl, refl, refl, refl, refl, refl, refl)

-- transaction 1 erases row 0, and writes row 1 and erases it again: both are empty
abbrev pub s₉ : Store
s₉ = run (fresh sizes 1) (begin ∷ erase 1 0 ∷ put 1 1 5 8 ∷ erase 1 1 ∷ [])

abbrev pub s₁₀ : Store
s₁₀ = run (step s₉ (prepare 1)).store (install 1 ∷ end 1 ∷ [])

both-empty : (pending_rows s₉.sizes (txn_of s₉ 1).writes ≡ 0 ∷ 1 ∷ []) × ErasesNothing s₉.chains (txn_of s₉ 1) 0 × ErasesNothing s₉.chains (txn_of s₉ 1) 1
unfolding computes
both-empty = (refl, (refl, refl), (refl, refl))

each-empty : (r : ℕ) → Writes s₉.sizes (txn_of s₉ 1) r → ErasesNothing s₉.chains (txn_of s₉ 1) r
each-empty r m = one_of (subst (Among r) both-empty.0 m)
  where
    one_of : Among r (0 ∷ 1 ∷ []) → ErasesNothing s₉.chains (txn_of s₉ 1) r
    one_of (inl e) = subst (ErasesNothing s₉.chains (txn_of s₉ 1)) (sym e) both-empty.1
    one_of (inr (inl e)) = subst (ErasesNothing s₉.chains (txn_of s₉ 1)) (sym e) both-empty.2
    one_of (inr (inr x'')) = elim x'' [ ]

-- the premises of nothing-costs
pub met-nothing : (number s₉ (prepare 1) ≡ 0) × Lives s₁₀ 1 × ((r : ℕ) → Writes s₉.sizes (txn_of s₉ 1) r → ErasesNothing s₉.chains (txn_of s₉ 1) r)
    × (number s₁₀ (publish 1) ≡ 0)
unfolding computes
met-nothing = (refl, (0, omega arith, refl, omega arith), each-empty, refl)

-- the premise of kept-history's snapshots: in s₁ transaction 3 is live, and no version of row 2 waits for its publish
none-late : (w : ℕ) → w < most_live → ltb (rank (s₁.txns w).phase) phase_installed ≡ true
unfolding computes
none-late = each_below most_live (λ w. ltb (rank (s₁.txns w).phase) phase_installed) refl

numbered : (s₁.txns 0).number ≡ 3
unfolding computes
numbered = refl

pub met-snapshot : Live (s₁.txns 0)
    × ((w : ℕ) → Unpublished s₁.sizes s₁.chains (s₁.txns w) 2 → seen (s₁.txns 0).snapshot (s₁.chains.xmin (s₁.chains.head 2)) ≡ false)
met-snapshot = (
  omega (arith, numbered),
  λ w u. absurd
      (omega (
        arith,
        u.1,
        ltb-true (rank (s₁.txns w).phase) phase_installed
            (none-late w (in-place _ _ (opened-good sizes 1 before opened (omega arith)).numbers w u.0)),
      )),
)
  where
    opened : can_open sizes 1 ≡ true
    opened = met.0

-- the premises of kept-xmin: 5 is active where 6 begins, so xmin is 5, with numbers below it
pub met-xmin : let x = (run (fresh sizes 5) (begin ∷ begin ∷ [])).txns 1 in
    (can_open sizes 5 ≡ true) × (x.number ≡ 6) × (x.snapshot.active ≡ 5 ∷ []) × (x.snapshot.xmin ≡ 5)
unfolding computes
met-xmin = (refl, refl, refl, refl)
