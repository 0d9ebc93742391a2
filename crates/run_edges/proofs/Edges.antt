-- The edges of document 01, P1 to P13 and the clock's: one table, one claim.
-- Assumes nothing.
use mathlib.Core.Path.{◌≡◌, refl}
use mathlib.Core.Bool.{Bool, true, false}
use mathlib.Core.Option.{none, some}
use mathlib.Core.List.{List, [], ◌∷◌, map}
use Prim.Native.Nat.{ℕ}
use Rattle.base_lists.specs.Lists.{least}
use Rattle.base_lists.specs.Table.{update}
use Rattle.model.specs.Store.{Sizes, Chains, Write, Txn, Store, Open, no_txn, fresh}
use Rattle.model.specs.Seeing.{first_visible, matches}
use Rattle.model.specs.Verdict.{bad_record}
use Rattle.model.specs.Refusals.{begin, capture}
use Rattle.model.specs.Machine.{answer_number, step}
use Rattle.model.proofs.Computes.{computes}
use Rattle.table_buckets.specs.Buckets.{precedes, Told, listed, error, told, canonical_of}

-- what is said: a test's answer, a pointer (0 for none), a number of the table, or what a bucket list gives
pub data Said : Type 0 where
  is : Bool → Said
  points : ℕ → Said
  numbered : ℕ → Said
  buckets : Told → Said

-- what the definitions say of an edge, and what document 01 says
pub record Edge : Type 0 where
  pub here : Said
  pub paper : Said

abbrev edge : Said → Said → Edge
edge here paper = record { here = here; paper = paper }

-- versions 7 and 9 of row 0: 9 (xmin 6, xmax 0) over 7 (xmin 2, xmax 6)
abbrev chain : Chains
chain = record {
  used = 9;
  head = λ r. 9;
  xmin = update (update (λ p. 0) 7 2) 9 6;
  xmax = update (λ p. 0) 7 6;
  next = update (update (λ p. 0) 7 0) 9 7;
  key = λ p. some 5;
  payload = λ p. 0;
}

-- transaction 5 with these writes, snapshot xmax 6 and these active numbers
abbrev five : List ℕ → List Write → Txn
five active writes = record {
  number = 5;
  snapshot = record { xmin = least 5 active; xmax = 6; active = active };
  marked = false;
  phase = Open;
  reads = [];
  writes = writes;
  records = [];
  candidates = [];
}

-- a record of version 1, read at xmin 2, which is still its xmin, judged by transaction 5 with active {3} when its xmax is m
abbrev bad : ℕ → Bool
bad m =
    bad_record (record { used = 1; head = λ r. 1; xmin = λ p. 2; xmax = λ p. m; next = λ p. 0; key = λ p. some 5; payload = λ p. 0 }) 5
    (five (3 ∷ []) []).snapshot (record { row = 0; ptr = 1; xmin = 2 })

-- row 2 written by the transaction with key 5, then with key 8
abbrev twice : Txn
twice = five [] (record { row = 2; key = some 5; payload = 0 } ∷ record { row = 2; key = some 8; payload = 0 } ∷ [])

abbrev small : Sizes
small = record { rows = 4; versions = 8; buckets = 4 }

-- transaction 5 is live, and every bucket has this stamp
abbrev stamped : ℕ → Store
stamped n = let s = fresh small 6 in
    record {
      sizes = small;
      clock = 6;
      chains = s.chains;
      index = record { stamp = λ b. n; posted = λ r. none };
      held = s.held;
      txns = update (λ i. no_txn) 0 (five [] []);
    }

-- a bucket list of a count, in a place as long as the list
abbrev list : List ℕ → ℕ → Said
list input count = let m = canonical_of input count input in buckets (told m.answer m.out)

abbrev pub edges : List Edge
edges =
    edge (numbered (answer_number (step (stamped 4) (capture 5 1)).answer)) (numbered 0)  -- P1: accepted
    ∷ edge (numbered (answer_number (step (stamped 5) (capture 5 1)).answer)) (numbered 8)  -- P2: refused
    ∷ edge (is (precedes 4 5)) (is true)  -- P1, the leaf function
    ∷ edge (is (precedes 5 5)) (is false)  -- P2, the leaf function
    ∷ edge (list (3 ∷ 1 ∷ 3 ∷ []) 4) (buckets (listed (1 ∷ 3 ∷ [])))  -- P3
    ∷ edge (list (1 ∷ 9 ∷ 4 ∷ []) 4) (buckets (error 9))  -- P4
    ∷ edge (list (4095 ∷ []) 4096) (buckets (listed (4095 ∷ [])))  -- P5: kept
    ∷ edge (list (4096 ∷ []) 4096) (buckets (error 4096))  -- P6
    ∷ edge (is (bad 5)) (is false)  -- P7: clear
    ∷ edge (is (bad 6)) (is true)  -- P8: bad
    ∷ edge (is (bad 3)) (is true)  -- P9: bad
    ∷ edge (is (bad 4)) (is false)  -- P10: clear
    ∷ edge (points (first_visible chain (five [] []).snapshot 9)) (points 7)  -- P11
    ∷ edge (points (first_visible chain (five (2 ∷ []) []).snapshot 9)) (points 0)  -- P12: none
    ∷ edge (is (matches chain twice 8 2)) (is true)  -- P13: key 8 matches
    ∷ edge (is (matches chain twice 5 2)) (is false)  -- P13: 5 doesn't
    ∷ edge (numbered (answer_number (step (fresh small 18446744073709551613) begin).answer)) (numbered 0)  -- clock L − 2: works
    ∷ edge (numbered (answer_number (step (fresh small 18446744073709551614) begin).answer)) (numbered 2)  -- L − 1: 2
    ∷ []

pub edges-hold : map (λ (e : Edge). e.here) edges ≡ map (λ (e : Edge). e.paper) edges
unfolding computes canonical_of
edges-hold = refl
