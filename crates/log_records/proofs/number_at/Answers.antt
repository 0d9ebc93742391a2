-- `log_records::number_at` meets its contract.
-- Assumes nothing.
use Rattle.std.proofs.Common.{ℕ, ◌≡◌, ◌+◌, ◌-◌, ◌*◌, ◌^◌, ◌≤◌, ◌<◌, List, take, drop, refl, arith}
use Rattle.std.proofs.Math.Nat.{pow-le-pow_right}
use Rattle.model.specs.Log.{number}
use Rattle.log_records.proofs.Numbers.{number-turn, power-turn}
use Rattle.log_records.proofs.number_at.Goals as goal

-- so many bytes of eight
few : (w i : ℕ) → w ≤ 8 → 0 < i → i ≤ w → 256 * 256 ^ (w - i) ≤ 2 ^ 64
few w i e p h =
    let n : w - i ≤ 7 = omega arith in
    let m : 256 ^ (w - i) ≤ 256 ^ 7 = pow-le-pow_right (omega arith) n in
    omega arith

-- from the first byte on
ended : (l : List ℕ) (at w i n : ℕ) → i ≡ 0 → (n ≡ number (take (w - i) (drop (at + i) l))) × (n < 256 ^ (w - i))
    → (n ≡ number (take w (drop at l))) × (n < 256 ^ w)
ended l at w i n z h = let e : w - i ≡ w = omega arith in let f : at + i ≡ at = omega arith in rw (e, f) at h

pub loop-i-init : goal.loop-i-init
unfolding number
loop-i-init g c = let z : g.row.N - g.row.N ≡ 0 = omega arith in rw z (refl, omega arith)

pub overflow_mul-number : goal.overflow_mul-number
overflow_mul-number g c =
    let l = c.loop-i in let most = few g.row.N l.i (omega arith) (omega arith) (omega arith) in omega (arith, l.invariant.1)

pub overflow_add-number : goal.overflow_add-number
overflow_add-number g c =
    let l = c.loop-i in let most = few g.row.N l.i (omega arith) (omega arith) (omega arith) in omega (arith, l.invariant.1)

pub loop-i-preserved : goal.loop-i-preserved
loop-i-preserved g c =
    let l = c.loop-i in
    let a = c.args in
    let turn = number-turn a.log.now a.at g.row.N l.i (omega arith) (omega arith) (omega arith) in
    let power = power-turn g.row.N l.i (omega arith) (omega arith) in
    (omega (arith, turn, l.invariant.0), rw power (omega (arith, l.invariant.1)))

pub returns-clause-value : goal.returns-clause-value
returns-clause-value g c = (ended c.args.log.now c.args.at g.row.N c.loop-i.i _ (omega arith) c.loop-i.invariant).0

pub returns-clause-small : goal.returns-clause-small
returns-clause-small g c = (ended c.args.log.now c.args.at g.row.N c.loop-i.i _ (omega arith) c.loop-i.invariant).1
