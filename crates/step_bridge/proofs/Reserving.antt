-- What Prepared transactions have reserved, over the words and in the model.
-- Assumes nothing.
use Prim.Native.Nat.{ℕ, zero, suc, ◌≤◌, ◌<◌}
use mathlib.Core.Path.{◌≡◌, refl, sym, ap, ◌∙◌}
use mathlib.Core.Bool.{Bool, true, false, cond, not, ◌&&◌}
use native.Mathlib.Omega.{arith}
use lib.Dec.{eqb}
use lib.ListN.{length, get_or, get_or-map}
use Rattle.base_limits.specs.Limits.{most_live, most_buckets}
use Rattle.model.specs.Store.{rank}
use Rattle.model.specs.Steps.{version_rows}
use Rattle.model.specs.Refusals.{reserved_by, reserved}
use Rattle.txn.specs.View.{phase_view}
use Rattle.txn.specs.Methods.{idle_of}
use Rattle.txn.specs.declared.Transaction.{Transaction}
use Rattle.txn_needs.specs.Versions.{versions_in, reserved_in}
use Rattle.txn_needs.proofs.Reserving.{versions-none}
use Rattle.txn_places.specs.Places.{prepared_count}
use Rattle.step.specs.Words.{Words, view, txn_at, others_in}
use Rattle.step_bridge.proofs.Headed.{Headed, WritesIn}
use Rattle.step_bridge.proofs.Distinct.{versions-counted}

abbrev prepared_of : Transaction → ℕ
prepared_of t = prepared_count t.number t.phase t.writes_n

-- where each record stands in its slot, and each live one's writes are in order
module _ (w : Words) (g : Headed (view w).sizes w.tables.rows w.used) (most : w.sizes.rows ≤ most_buckets) (slots : (i : ℕ) → i < most_live
    → (txn_at w i).slot ≡ i)
    (written : (i : ℕ) → i < most_live → eqb (txn_at w i).number 0 ≡ false → WritesIn (view w).sizes w.tables.lists (txn_at w i)) where
  abbrev in_slot : ℕ → ℕ → ℕ
  in_slot i n = versions_in w.tables.rows w.tables.versions w.tables.lists i n

  reserved-one : (i : ℕ) → i < most_live → in_slot i (get_or (others_in w.txns).prepared i 0) ≡ reserved_by (view w).sizes (view w).chains ((view w).txns i)
  unfolding reserved_by
  reserved-one i h = rw (get_or-map prepared_of w.txns i (idle_of i)) (by (eqb (txn_at w i).number 0) refl (eqb (rank (phase_view (txn_at w i).phase)) 4))
    where
      by : (b : Bool) → eqb (txn_at w i).number 0 ≡ b → (c : Bool)
          → in_slot i (cond b 0 (cond c (txn_at w i).writes_n 0))
          ≡ cond (not b && c) (length (version_rows (view w).sizes (view w).chains ((view w).txns i).writes)) 0
      by true e c = versions-none w.tables.rows w.tables.versions w.tables.lists i
      by false e false = versions-none w.tables.rows w.tables.versions w.tables.lists i
      by false e true =
          ap (λ (j : ℕ). in_slot j (txn_at w i).writes_n) (sym (slots i h))
          ∙ versions-counted (view w).sizes w.tables.rows w.tables.versions w.used g most w.tables.lists (txn_at w i) (written i h e)

  reserved-first : (n : ℕ) → n ≤ most_live
      → reserved_in w.tables.rows w.tables.versions w.tables.lists (others_in w.txns).prepared n
      ≡ reserved (view w).sizes (view w).chains (view w).txns n
  unfolding reserved_in reserved
  reserved-first zero h = refl
  reserved-first (suc n) h = rw (reserved-first n (omega arith), reserved-one n (omega arith))

  pub reserved-same : reserved_in w.tables.rows w.tables.versions w.tables.lists (others_in w.txns).prepared most_live
      ≡ reserved (view w).sizes (view w).chains (view w).txns most_live
  reserved-same = reserved-first most_live (omega arith)
