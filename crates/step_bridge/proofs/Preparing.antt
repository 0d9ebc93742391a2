-- Prepare over the words is the model's.
-- Assumes nothing.
use Prim.Native.Nat.{ℕ, ◌≤◌, ◌<◌}
use mathlib.Core.Path.{◌≡◌, refl, ◌∙◌}
use mathlib.Core.Bool.{Bool, true, false, cond, not, ◌||◌}
use mathlib.Core.Option.{Option, none, some}
use mathlib.Core.List.{List}
use native.Mathlib.Omega.{arith}
use lib.Dec.{eqb, ltb, leb}
use lib.ListN.{length, replicate}
use borrow.Author.Tests.{eqb-true, eqb-false, not-false, lt-leb}
use Rattle.base_limits.specs.Limits.{most_live}
use Rattle.base_lists.specs.Lists.{some_of, Among}
use Rattle.base_lists.proofs.ListLaws.{same_test, some-which, which-some}
use Rattle.model.specs.Store as model
use Rattle.model.specs.Store.{rank, phase_open, phase_installed}
use Rattle.model.specs.Verdict as judged
use Rattle.model.specs.Steps.{pending_rows, needed_buckets, prepared_held, version_rows}
use Rattle.model.specs.Refusals.{Refusal, WrongPhase, Taken, Conflict, NoVersions, by_another, reserved, versions_after, refusal}
use Rattle.model.specs.Machine.{accepted, after_refusal, carried}
use Rattle.base_protocol.specs.declared.Step.TheVariants as ask
use Rattle.base_protocol.specs.declared.Answer.TheVariants as tell
use Rattle.base_protocol.specs.View.{asked, verdict_told, sizes_view, refusal_told}
use Rattle.table.specs.Fields as fields
use Rattle.table.proofs.Parts.{part_field}
use Rattle.txn.specs.View.{phase_view, rows_part, versions_part, buckets_part, chains_view, index_view, held_view}
use Rattle.txn.specs.Methods.{with_phase, taken_by, refused_of}
use Rattle.txn.specs.declared.Phase.TheVariants as phase
use Rattle.txn_needs.specs.Keys.{is_installed}
use Rattle.txn_needs.specs.Needs.{Listed, front, written_by}
use Rattle.table.specs.Fields.{row_words, bucket_words, set_holders, set_claims}
use Rattle.txn_needs.specs.Taken.{any_taken, any_claimed}
use Rattle.txn_needs.specs.Versions.{versions_in, reserved_in}
use Rattle.write_prepare.specs.Prepare.{is_clear, lacks, most_needed, needed_into, left, prepare_with, prepare_of}
use Rattle.step.specs.Steps.{in_prepared}
use Rattle.step.specs.Words.{Words, view, txn_at, others_in, extent_in, Sized}
use Rattle.step_bridge.proofs.Shaped.{Shaped}
use Rattle.step_bridge.proofs.Places.{standing, live_at, sized-at}
use Rattle.step_bridge.proofs.Placed.{txns-set, sized_set}
use Rattle.step_bridge.proofs.Same.{same_store, SameAt, Same, refused-same, later-tests}
use Rattle.step_bridge.proofs.SameLaws.{by_place}
use Rattle.step_bridge.proofs.Listing.{listed-all, some_same}
use Rattle.step_bridge.proofs.Tabled.{set_all, set_other, set-length}
use Rattle.step_bridge.proofs.Telling.{Tells, tells-kept}
use Rattle.step_bridge.proofs.Writing.{sized-phase}
use Rattle.step_bridge.proofs.Judging.{taken-same, verdict-same}
use Rattle.step_bridge.proofs.Needing.{all_same, headed, rows-most, writes-in, listed_needs, row_in, row-pending, pending-row, needed-listed}
use Rattle.step_bridge.proofs.Needing.{listed-needed}
use Rattle.step_bridge.proofs.Aborting.{listed-few, listed-in}
use Rattle.step_bridge.proofs.Distinct.{versions-counted}
use Rattle.step_bridge.proofs.Reserving.{reserved-same}

-- a test of some entry sees only which entries there are
some-both : (test : ℕ → Bool) (xs ys : List ℕ) → ((x : ℕ) → Among x xs → Among x ys) → ((x : ℕ) → Among x ys → Among x xs) → some_of test xs ≡ some_of test ys
some-both test xs ys to back = same_test _ _
    (λ e. let a = some-which test xs e in which-some test ys a.0 (to a.0 a.1) a.2)
    (λ e. let a = some-which test ys e in which-some test xs a.0 (back a.0 a.1) a.2)

clear-same : (v : judged.Verdict) → is_clear (verdict_told v) ≡ eqb (judged.verdict_number v) 0
clear-same judged.Clear = refl
clear-same (judged.Bucket b captured present) = refl
clear-same (judged.Row r p) = refl
clear-same judged.Mark = refl

-- in phase Open nothing is installed
phase-open : (x : model.Phase) → not (eqb (rank x) phase_open) ≡ false → leb phase_installed (rank x) ≡ false
phase-open x e =
    let r : rank x ≡ phase_open = eqb-true (rank x) phase_open (not-false (eqb (rank x) phase_open) e) in
    lt-leb phase_installed (rank x) (omega arith)

-- the buckets that the words list for a prepare
abbrev pub needed_for : Words → ℕ → Listed
needed_for w p = needed_into w.tables.rows w.tables.versions w.tables.lists w.sizes.buckets (txn_at w p) (replicate most_needed 0)

-- the model's tests of a prepare in phase Open, and the refusal that they give
abbrev held_elsewhere : Words → ℕ → Bool
held_elsewhere w p = some_of (by_another (view w).held.holder (txn_at w p).number) (needed_buckets (view w) ((view w).txns p))

abbrev claimed_elsewhere : Words → ℕ → Bool
claimed_elsewhere w p = some_of (by_another (view w).held.claim (txn_at w p).number) (pending_rows (view w).sizes ((view w).txns p).writes)

abbrev judged_bad : Words → ℕ → Bool
judged_bad w p = not (eqb (judged.verdict_number (judged.verdict (view w).chains (view w).index ((view w).txns p))) 0)

abbrev outgrown : Words → ℕ → Bool
outgrown w p = ltb w.sizes.versions (versions_after (view w) ((view w).txns p))

abbrev refused_open : Words → ℕ → Option Refusal
refused_open w p =
    cond (held_elsewhere w p || claimed_elsewhere w p) (some Taken) (cond (judged_bad w p) (some Conflict) (cond (outgrown w p) (some NoVersions) none))

module _ (w : Words) (z : Sized w) (g : Shaped w) where
  taken-needs : (p : ℕ) → 1 ≤ (txn_at w p).number → is_installed (txn_at w p).phase ≡ false
      → any_taken w.tables.buckets (listed_needs w p) (txn_at w p).number ≡ some_of (by_another (view w).held.holder (txn_at w p).number)
      (needed_buckets (view w) ((view w).txns p))
  taken-needs p l k =
      some_same (λ b. taken_by (fields.holder_of w.tables.buckets b) (txn_at w p).number) (by_another (view w).held.holder (txn_at w p).number)
      (listed_needs w p) (λ b m. taken-same w z g (txn_at w p).number b (listed-in w z g p l b m))
      ∙ some-both _ _ _ (λ b m. listed-needed w z g p l k b m) (λ b m. needed-listed w z g p l k b m)

  claim-same : (n r : ℕ) → r < w.sizes.rows → taken_by (fields.claim_of w.tables.rows r) n ≡ by_another (view w).held.claim n r
  unfolding by_another
  claim-same n r h = rw (part_field row_words 1 w.sizes.rows w.tables.rows r (omega arith) h)

  claimed-rows : (p : ℕ) → 1 ≤ (txn_at w p).number
      → any_claimed w.tables.rows w.tables.lists (txn_at w p)
      ≡ some_of (by_another (view w).held.claim (txn_at w p).number) (pending_rows (view w).sizes ((view w).txns p).writes)
  claimed-rows p l =
      some_same (λ r. taken_by (fields.claim_of w.tables.rows r) (txn_at w p).number) (by_another (view w).held.claim (txn_at w p).number)
      (written_by w.tables.lists (txn_at w p)) (λ r m. claim-same (txn_at w p).number r (row_in w z g p l r m))
      ∙ some-both _ _ _ (λ r m. row-pending w z g p l r m) (λ r m. pending-row w z g p r m)

  -- what others have reserved, and the own rows that get a version
  others_same : reserved_in w.tables.rows w.tables.versions w.tables.lists (others_in w.txns).prepared most_live
      ≡ reserved (view w).sizes (view w).chains (view w).txns most_live
  others_same = reserved-same w (headed w z g) (rows-most w z g) (λ i h. (sized-at w z i).slot)
      (λ i h e. writes-in w z g i (let d = eqb-false (txn_at w i).number 0 e in omega (arith, d)))

  own_same : (p : ℕ) → 1 ≤ (txn_at w p).number
      → versions_in w.tables.rows w.tables.versions w.tables.lists (txn_at w p).slot (txn_at w p).writes_n
      ≡ length (version_rows (view w).sizes (view w).chains ((view w).txns p).writes)
  own_same p l = versions-counted (view w).sizes w.tables.rows w.tables.versions w.used (headed w z g) (rows-most w z g) w.tables.lists
      (txn_at w p) (writes-in w z g p l)

  pub needed-front : (p : ℕ) → front (needed_for w p) ≡ listed_needs w p
  unfolding needed_into
  needed-front p = listed-all 48 (listed_needs w p) (listed-few w p z)

  -- all that is needed is taken
  prepare-held : (p : ℕ) → 1 ≤ (txn_at w p).number → is_installed (txn_at w p).phase ≡ false
      → held_view (rows_part (sizes_view w.sizes)
      (set_claims w.tables.rows (txn_at w p).number (written_by w.tables.lists (txn_at w p))))
      (buckets_part (sizes_view w.sizes) (set_holders w.tables.buckets (txn_at w p).number (listed_needs w p)))
      ≡ prepared_held (view w) ((view w).txns p)
  prepare-held p l k =
      let n = (txn_at w p).number in
      let rs = written_by w.tables.lists (txn_at w p) in
      rw (
        set_all bucket_words 1 (omega arith) w.sizes.buckets n w.tables.buckets (listed_needs w p) (listed-in w z g p l) z.buckets,
        set_all row_words 1 (omega arith) w.sizes.rows n w.tables.rows rs (λ r m. row_in w z g p l r m) z.rows,
        all_same (view w).held.holder (listed_needs w p) (needed_buckets (view w) ((view w).txns p)) n (λ b m. listed-needed w z g p l k b m)
            (λ b m. needed-listed w z g p l k b m),
        all_same (view w).held.claim rs (pending_rows (view w).sizes ((view w).txns p).writes) n (λ r m. row-pending w z g p l r m)
            (λ r m. pending-row w z g p r m),
      )

  prepare-chains : (n : ℕ) (rs : List ℕ)
      → chains_view (rows_part (sizes_view w.sizes) (set_claims w.tables.rows n rs)) (versions_part (sizes_view w.sizes) w.tables.versions)
      w.used ≡ (view w).chains
  prepare-chains n rs = rw (set_other row_words 1 (omega arith) w.sizes.rows n w.tables.rows rs 0 (omega arith) (omega arith))

  prepare-index : (n : ℕ) (rs bs : List ℕ)
      → index_view (rows_part (sizes_view w.sizes) (set_claims w.tables.rows n rs))
      (buckets_part (sizes_view w.sizes) (set_holders w.tables.buckets n bs)) ≡ (view w).index
  prepare-index n rs bs = rw (
    set_other row_words 1 (omega arith) w.sizes.rows n w.tables.rows rs 2 (omega arith) (omega arith),
    set_other row_words 1 (omega arith) w.sizes.rows n w.tables.rows rs 3 (omega arith) (omega arith),
    set_other bucket_words 1 (omega arith) w.sizes.buckets n w.tables.buckets bs 0 (omega arith) (omega arith),
  )

  -- the lists tell as before
  prepare-told : (n : ℕ) (rs : List ℕ) → Tells w (set_claims w.tables.rows n rs)
  prepare-told n rs =
      tells-kept _ _ w.sizes.rows
      (λ k lo hi. set_other row_words 1 (omega arith) w.sizes.rows n w.tables.rows rs k hi (λ e. omega arith)) z.told

  -- all tests but the phase
  prepared-at : (n : ℕ) → standing w n < most_live → 1 ≤ (txn_at w (standing w n)).number → is_installed (txn_at w (standing w n)).phase ≡ false
      → (b c d e : Bool)
      → SameAt w (standing w n)
      (in_prepared
      (cond b (left (refused_of (txn_at w (standing w n)) (refusal_told Taken)) w.tables.rows w.tables.buckets)
      (cond c (left (refused_of (txn_at w (standing w n)) (refusal_told Taken)) w.tables.rows w.tables.buckets)
      (cond d (left (refused_of (txn_at w (standing w n)) (refusal_told Conflict)) w.tables.rows w.tables.buckets)
      (cond e (left (refused_of (txn_at w (standing w n)) (refusal_told NoVersions)) w.tables.rows w.tables.buckets)
      (left (record { answer = tell.Done; txn = with_phase (txn_at w (standing w n)) phase.Prepared })
      (set_claims w.tables.rows (txn_at w (standing w n)).number (written_by w.tables.lists (txn_at w (standing w n))))
      (set_holders w.tables.buckets (txn_at w (standing w n)).number (listed_needs w (standing w n))))))))
      w.clock w.used w.tables)
      (carried (view w) (asked (ask.Prepare n)) (cond (b || c) (some Taken) (cond d (some Conflict) (cond e (some NoVersions) none))))
  unfolding carried accepted after_refusal
  prepared-at n l o k true c d e = refused-same w z (standing w n) Taken
  prepared-at n l o k false true d e = refused-same w z (standing w n) Taken
  prepared-at n l o k false false true e = refused-same w z (standing w n) Conflict
  prepared-at n l o k false false false true = refused-same w z (standing w n) NoVersions
  prepared-at n l o k false false false false =
      let q = standing w n in
      let t = txn_at w q in
      let rs = written_by w.tables.lists t in
      record {
        store = same_store _ _ refl refl (prepare-chains t.number rs) (prepare-index t.number rs (listed_needs w q)) (prepare-held q o k)
            (txns-set w z q l w.tables.lists (with_phase t phase.Prepared) (λ j d. refl));
        answer = refl;
        lent = refl;
        sized = sized_set w z q l _ _ _ _ (sized-phase q t phase.Prepared (sized-at w z q)) (set-length row_words 1 t.number w.tables.rows rs) refl
            (set-length bucket_words 1 t.number w.tables.buckets (listed_needs w q)) refl (prepare-told t.number rs);
      }

  -- the tests after the phase
  prepare-open : (n : ℕ) → standing w n < most_live → 1 ≤ (txn_at w (standing w n)).number → is_installed (txn_at w (standing w n)).phase ≡ false
      → SameAt w (standing w n)
      (in_prepared (prepare_with w.tables.rows w.tables.versions w.tables.buckets w.tables.lists (extent_in w) (others_in w.txns).prepared
      (txn_at w (standing w n)) (needed_for w (standing w n))) w.clock w.used w.tables)
      (carried (view w) (asked (ask.Prepare n)) (refused_open w (standing w n)))
  unfolding prepare_with lacks
  prepare-open n l o k =
      let q = standing w n in
      rw (
        needed-front q,
        taken-needs q o k,
        claimed-rows q o,
        verdict-same w z g q o,
        clear-same (judged.verdict (view w).chains (view w).index ((view w).txns q)),
        others_same,
        own_same q o,
      )
      (prepared-at n l o k (held_elsewhere w q) (claimed_elsewhere w q) (judged_bad w q) (outgrown w q))

  prepare-place : (n : ℕ) → standing w n < most_live → 1 ≤ (txn_at w (standing w n)).number
      → SameAt w (standing w n)
      (in_prepared (prepare_of w.tables.rows w.tables.versions w.tables.buckets w.tables.lists (extent_in w) (others_in w.txns).prepared
      (txn_at w (standing w n))) w.clock w.used w.tables)
      (carried (view w) (asked (ask.Prepare n)) (refusal (later-tests (view w) (asked (ask.Prepare n)))))
  unfolding prepare_of carried accepted after_refusal refusal
  prepare-place n l o = by (not (eqb (rank (phase_view (txn_at w (standing w n)).phase)) phase_open)) refl
    where
      by : (a : Bool) → not (eqb (rank (phase_view (txn_at w (standing w n)).phase)) phase_open) ≡ a
          → SameAt w (standing w n)
          (in_prepared (cond a (left (refused_of (txn_at w (standing w n)) (refusal_told WrongPhase)) w.tables.rows w.tables.buckets)
          (prepare_with w.tables.rows w.tables.versions w.tables.buckets w.tables.lists (extent_in w) (others_in w.txns).prepared
          (txn_at w (standing w n)) (needed_for w (standing w n)))) w.clock w.used w.tables)
          (carried (view w) (asked (ask.Prepare n)) (cond a (some WrongPhase) (refused_open w (standing w n))))
      by true e = refused-same w z (standing w n) WrongPhase
      by false e = prepare-open n l o (phase-open (phase_view (txn_at w (standing w n)).phase) e)

  -- all that is needed is free, the verdict is clear, there are versions: all is taken
  pub prepare-same : (n : ℕ) → Same w (ask.Prepare n)
  prepare-same n = by_place w z (ask.Prepare n) refl tt (λ l d e. prepare-place n l (live_at w n d e))
