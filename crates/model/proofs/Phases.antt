-- A phase is told by its rank. Assumes nothing.
use mathlib.Core.Path.{◌≡◌, refl}
use Prim.Native.Nat.{◌≤◌}
use native.Mathlib.Omega.{arith}
use Rattle.model.specs.Store.{Phase, Open, Holding, Collected, Prepared, Installed, Ended, rank, phase_open, phase_holding, phase_collected, phase_prepared}
use Rattle.model.specs.Store.{phase_installed, phase_ended, bucket_in, key_in}

pub open_is : (ph : Phase) → rank ph ≡ phase_open → ph ≡ Open
open_is Open e = refl
open_is (Holding b k) e = absurd (omega arith)
open_is (Collected k) e = absurd (omega arith)
open_is Prepared e = absurd (omega arith)
open_is Installed e = absurd (omega arith)
open_is Ended e = absurd (omega arith)

pub holding-is : (ph : Phase) → rank ph ≡ phase_holding → ph ≡ Holding (bucket_in ph) (key_in ph)
holding-is Open e = absurd (omega arith)
holding-is (Holding b k) e = refl
holding-is (Collected k) e = absurd (omega arith)
holding-is Prepared e = absurd (omega arith)
holding-is Installed e = absurd (omega arith)
holding-is Ended e = absurd (omega arith)

pub collected-is : (ph : Phase) → rank ph ≡ phase_collected → ph ≡ Collected (key_in ph)
collected-is Open e = absurd (omega arith)
collected-is (Holding b k) e = absurd (omega arith)
collected-is (Collected k) e = refl
collected-is Prepared e = absurd (omega arith)
collected-is Installed e = absurd (omega arith)
collected-is Ended e = absurd (omega arith)

pub prepared-is : (ph : Phase) → rank ph ≡ phase_prepared → ph ≡ Prepared
prepared-is Open e = absurd (omega arith)
prepared-is (Holding b k) e = absurd (omega arith)
prepared-is (Collected k) e = absurd (omega arith)
prepared-is Prepared e = refl
prepared-is Installed e = absurd (omega arith)
prepared-is Ended e = absurd (omega arith)

pub installed-is : (ph : Phase) → rank ph ≡ phase_installed → ph ≡ Installed
installed-is Open e = absurd (omega arith)
installed-is (Holding b k) e = absurd (omega arith)
installed-is (Collected k) e = absurd (omega arith)
installed-is Prepared e = absurd (omega arith)
installed-is Installed e = refl
installed-is Ended e = absurd (omega arith)

pub rank-top : (ph : Phase) → rank ph ≤ phase_ended
rank-top Open = omega arith
rank-top (Holding b k) = omega arith
rank-top (Collected k) = omega arith
rank-top Prepared = omega arith
rank-top Installed = omega arith
rank-top Ended = omega arith
