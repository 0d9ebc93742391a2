-- `report::put_verdict` meets its contract.
-- Assumes nothing.
use Prim.Native.Nat.{ℕ, ◌+◌, ◌≤◌}
use mathlib.Core.List.{[], ◌∷◌}
use native.Mathlib.Omega.{arith}
use lib.ListN.{length}
use Rattle.model.specs.Report.{spaced}
use Rattle.report.proofs.Spaced.{two-long, spaced-then}
use Rattle.report.proofs.put_verdict.Goals as goal

-- in the arm of a bucket: its two pairs and its last number, and their room
bucket-room : (at long b k p : ℕ) → at + length (spaced (0 ∷ 1 ∷ b ∷ k ∷ p ∷ [])) ≤ long
    → at + length (spaced (0 ∷ 1 ∷ [])) + length (spaced (b ∷ k ∷ [])) + length (spaced (p ∷ [])) ≤ long
bucket-room at long b k p h =
    let front = two-long (0 ∷ 1 ∷ []) (b ∷ k ∷ p ∷ []) in
    let rest = two-long (b ∷ k ∷ []) (p ∷ []) in
    omega arith

-- in the arm of a row: its two pairs, and their room
row_room : (at long r p : ℕ) → at + length (spaced (0 ∷ 2 ∷ r ∷ p ∷ [])) ≤ long
    → at + length (spaced (0 ∷ 2 ∷ [])) + length (spaced (r ∷ p ∷ [])) ≤ long
row_room at long r p h = let both = two-long (0 ∷ 2 ∷ []) (r ∷ p ∷ []) in omega arith

pub put_pair-behind_verdict-requires : goal.put_pair-behind_verdict-requires
put_pair-behind_verdict-requires c =
    let i = c.in-Bucket in let room = bucket-room c.args.at _ i.bucket i.captured i.present (rw i.is at c.requires) in omega arith

pub put_pair-behind_captured-requires : goal.put_pair-behind_captured-requires
put_pair-behind_captured-requires c =
    let i = c.in-Bucket in let room = bucket-room c.args.at _ i.bucket i.captured i.present (rw i.is at c.requires) in omega arith

pub put_number-requires : goal.put_number-requires
put_number-requires c =
    let i = c.in-Bucket in let room = bucket-room c.args.at _ i.bucket i.captured i.present (rw i.is at c.requires) in omega arith

pub put_pair-behind_verdict-requires-in-Row : goal.put_pair-behind_verdict-requires-in-Row
put_pair-behind_verdict-requires-in-Row c =
    let i = c.in-Row in let room = row_room c.args.at _ i.row i.ptr (rw i.is at c.requires) in omega arith

pub put_pair-requires-in-Row : goal.put_pair-requires-in-Row
put_pair-requires-in-Row c =
    let i = c.in-Row in let room = row_room c.args.at _ i.row i.ptr (rw i.is at c.requires) in omega arith

pub returns-in-Bucket : goal.returns-in-Bucket
returns-in-Bucket c =
    let a = c.args in
    let i = c.in-Bucket in
    let room = bucket-room a.at _ i.bucket i.captured i.present (rw i.is at c.requires) in
    let front = two-long (0 ∷ 1 ∷ []) (i.bucket ∷ i.captured ∷ []) in
    let whole = two-long (0 ∷ 1 ∷ i.bucket ∷ i.captured ∷ []) (i.present ∷ []) in
    let f = c.put_pair-behind_verdict in
    let s = c.put_pair-behind_captured in
    let t = c.put_number in
    let both =
    spaced-then a.rest.now f.new.out s.new.out (0 ∷ 1 ∷ []) (i.bucket ∷ i.captured ∷ []) a.at f.result s.result (omega arith)
    f.ensures.1 f.ensures.0 s.ensures.1 s.ensures.0 in
    rw i.is
    (spaced-then a.rest.now s.new.out t.new.out (0 ∷ 1 ∷ i.bucket ∷ i.captured ∷ []) (i.present ∷ []) a.at s.result t.result (omega arith)
    both.1 both.0 t.ensures.1 t.ensures.0)

pub returns-in-Row : goal.returns-in-Row
returns-in-Row c =
    let a = c.args in
    let i = c.in-Row in
    let room = row_room a.at _ i.row i.ptr (rw i.is at c.requires) in
    let both = two-long (0 ∷ 2 ∷ []) (i.row ∷ i.ptr ∷ []) in
    let f = c.put_pair-behind_verdict-in-Row in
    let s = c.put_pair-in-Row in
    rw i.is
    (spaced-then a.rest.now f.new.out s.new.out (0 ∷ 2 ∷ []) (i.row ∷ i.ptr ∷ []) a.at f.result s.result (omega arith)
    f.ensures.1 f.ensures.0 s.ensures.1 s.ensures.0)
