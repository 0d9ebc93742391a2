-- Collect over the words is the model's.
-- Assumes nothing.
use Prim.Native.Nat.{ℕ, zero, suc, ◌+◌, ◌*◌, ◌≤◌, ◌<◌}
use mathlib.Core.Path.{◌≡◌, refl, ap, ◌∙◌}
use mathlib.Core.Bool.{Bool, true, false, cond, not, ◌&&◌}
use mathlib.Core.Logic.{inl}
use mathlib.Core.Option.{none, some}
use mathlib.Core.List.{List, [], ◌∷◌}
use native.Mathlib.Nat.{add-zero, mul-le-mul_left}
use native.Mathlib.Omega.{arith}
use lib.Dec.{eqb}
use lib.ListN.{length, get_or, set, length-set}
use lib.Seq.{sets, length-sets, ext_get_or, get_or-set_same}
use Rattle.base_limits.specs.Limits.{most_live, most_rows}
use Rattle.base_lists.specs.Table.{update}
use Rattle.base_lists.proofs.ListLaws.{pick_same, pick-few}
use Rattle.model.specs.Store as model
use Rattle.model.specs.Store.{same_key, bucket_in, key_in, phase_holding}
use Rattle.model.specs.Steps.{posted_rows}
use Rattle.model.specs.Refusals.{WrongPhase, refusal}
use Rattle.model.specs.Machine.{accepted, after_refusal, carried}
use Rattle.model.proofs.Ranges.{good-sized}
use Rattle.base_protocol.specs.declared.Step.TheVariants as ask
use Rattle.base_protocol.specs.View.{asked, refusal_told}
use Rattle.table.specs.Fields.{row_words, bucket_words, posted_of, posted_key_of}
use Rattle.table.specs.Lists as lists
use Rattle.table.specs.Lists.{Kind, end_of, list_at, lists_words, start_of, place_of, candidates}
use Rattle.table.proofs.Laws.{field-length}
use Rattle.table.proofs.Parts.{part_field}
use Rattle.table.proofs.Spans.{sets-other, words-at, list_length, list-at, list-kept}
use Rattle.txn.specs.View.{phase_view, txn_view, key_view}
use Rattle.table_postings.specs.Postings.{listed_with, kept_in}
use Rattle.table_postings.proofs.Told.{tells-told, listed-posted}
use Rattle.txn.specs.Methods.{with_phase, with_candidates, refused_of, left, collected_left, collect_of}
use Rattle.txn.specs.declared.Phase.TheVariants as phase
use Rattle.txn.specs.declared.Transaction.{Transaction}
use Rattle.step.specs.Steps.{in_buckets}
use Rattle.step.specs.Words.{Words, view, txn_at, SizedTxn, Sized}
use Rattle.step_bridge.proofs.Shaped.{Shaped}
use Rattle.step_bridge.proofs.Places.{standing, live_at, sized-at}
use Rattle.step_bridge.proofs.Placed.{slot-view, txns-set, sized_set}
use Rattle.step_bridge.proofs.Same.{same_store, SameAt, Same, refused-same}
use Rattle.step_bridge.proofs.SameLaws.{by_place}
use Rattle.step_bridge.proofs.Capturing.{holder-set, stamps-kept}

-- a run of stores reads as what was stored
pub sets-at : (xs : List ℕ) (at : ℕ) (vs : List ℕ) (i : ℕ) → i < length vs → at + length vs ≤ length xs → get_or (sets xs at vs) (at + i) 0 ≡ get_or vs i 0
sets-at xs at [] i h l = absurd (omega arith)
sets-at xs at (v ∷ vs) zero h l = rw (add-zero at) (sets-other (set xs at v) (suc at) vs at (inl (omega arith)) ∙ get_or-set_same xs at v 0 (omega arith))
sets-at xs at (v ∷ vs) (suc i) h l =
    let e : at + suc i ≡ suc at + i = omega arith in
    rw e (sets-at (set xs at v) (suc at) vs i (omega arith) (rw (length-set xs at v) (omega arith)))

module _ (xs : List ℕ) (s : ℕ) (rs : List ℕ) (hs : s < most_live) (few : length rs ≤ most_rows) (h : lists_words ≤ length xs) where
  -- the candidates are those that were kept, and the lists before them stay
  kept-candidates : lists.candidates_of (kept_in xs s rs) s (length rs) ≡ rs
  kept-candidates = ext_get_or 0 _ _ (list_length lists.candidate_of 1 (start_of candidates s) (kept_in xs s rs) (length rs)) (λ i l.
      let k : i < length rs = omega (arith, list_length lists.candidate_of 1 (start_of candidates s) (kept_in xs s rs) (length rs)) in
      let e : start_of candidates s + 1 * i + 0 ≡ place_of candidates s 0 + i = omega arith in
      list-at lists.candidate_of 1 (start_of candidates s) (kept_in xs s rs) (length rs) i 0 k
      ∙ (words-at 1 (start_of candidates s + 1 * i) (kept_in xs s rs) 0 (omega arith)
      ∙ (ap (λ (j : ℕ). get_or (kept_in xs s rs) j 0) e ∙ sets-at xs (place_of candidates s 0) rs i k (omega arith))))

  kept-before : {A : Type 0} (f : List ℕ → A) (l : Kind) (n : ℕ) → n ≤ l.room → end_of l ≤ candidates.off
      → list_at f l (kept_in xs s rs) s n ≡ list_at f l xs s n
  kept-before f l n hn e = let b = mul-le-mul_left {m = n} {n = l.room} l.w hn in
      list-kept f l.w (start_of l s) xs n (place_of candidates s 0) rs (inl (omega arith))

collected-view : (xs : List ℕ) (p : ℕ) (t : Transaction) (rs : List ℕ) (k : ℕ) → SizedTxn p t → p < most_live → length rs ≤ most_rows → lists_words ≤ length xs
    → txn_view (kept_in xs t.slot rs) (with_candidates (with_phase t (phase.Collected k)) (length rs))
    ≡ record {
      number = t.number;
      snapshot = (txn_view xs t).snapshot;
      marked = t.marked;
      phase = model.Collected k;
      reads = (txn_view xs t).reads;
      writes = (txn_view xs t).writes;
      records = (txn_view xs t).records;
      candidates = rs;
    }
collected-view xs p t rs k z l few h =
    let o : t.slot < most_live = omega (arith, z.slot) in
    rw (
      kept-before xs t.slot rs o few h lists.read_of lists.reads t.reads_n z.reads (omega arith),
      kept-before xs t.slot rs o few h lists.write_of lists.writes t.writes_n z.writes (omega arith),
      kept-before xs t.slot rs o few h lists.record_of lists.records t.records_n z.records (omega arith),
      kept-candidates xs t.slot rs o few h,
    )

-- a row is posted with a key exactly where the model says
posted-test : (posted key k : ℕ) → (not (eqb posted 0) && eqb key k) ≡ same_key (key_view posted key) (some k)
unfolding same_key
posted-test posted key k = by (eqb posted 0)
  where
    by : (b : Bool) → (not b && eqb key k) ≡ same_key (cond b none (some key)) (some k)
    by true = refl
    by false = refl

module _ (w : Words) (z : Sized w) (g : Shaped w) where
  pub posted-same : (k : ℕ) → listed_with w.tables.rows w.sizes.rows k ≡ posted_rows (view w) k
  unfolding posted_rows
  posted-same k =
      let good = good-sized (view w).sizes g.sizes in
      listed-posted w.tables.rows w.sizes.rows (tells-told w.tables.rows w.sizes.rows z.told) good.rows-pos good.rows-most k
      ∙ pick_same _ _ 0 w.sizes.rows (λ r lo hi.
      let h : r < w.sizes.rows = omega arith in
      rw (
        part_field row_words 2 w.sizes.rows w.tables.rows r (omega arith) h,
        part_field row_words 3 w.sizes.rows w.tables.rows r (omega arith) h,
      )
      (posted-test (posted_of w.tables.rows r) (posted_key_of w.tables.rows r) k))

  pub posted-few : (k : ℕ) → length (posted_rows (view w) k) ≤ most_rows
  unfolding posted_rows
  posted-few k = omega (arith, pick-few (λ r. same_key ((view w).index.posted r) (some k)) 0 w.sizes.rows, (good-sized (view w).sizes g.sizes).rows-most)

  collected-at : (n : ℕ) → standing w n < most_live → 1 ≤ (txn_at w (standing w n)).number → (b : Bool)
      → SameAt w (standing w n)
      (in_buckets
      (cond b (left (refused_of (txn_at w (standing w n)) (refusal_told WrongPhase)) w.tables.buckets w.tables.lists)
      (collected_left (txn_at w (standing w n)) (bucket_in (phase_view (txn_at w (standing w n)).phase)) (key_in (phase_view (txn_at w (standing w n)).phase))
      (posted_rows (view w) (key_in (phase_view (txn_at w (standing w n)).phase))) w.tables.buckets w.tables.lists))
      w.clock w.used w.tables)
      (carried (view w) (asked (ask.Collect n)) (cond b (some WrongPhase) none))
  unfolding carried accepted after_refusal
  collected-at n l a true = refused-same w z (standing w n) WrongPhase
  collected-at n l a false =
      let q = standing w n in
      let s = sized-at w z q in
      let o = s.slot in
      let ph = phase_view (txn_at w q).phase in
      let rs = posted_rows (view w) (key_in ph) in
      let few = posted-few (key_in ph) in
      record {
        store = same_store _ _ refl refl refl (stamps-kept w z (bucket_in ph) 0 (g.in-store q a).bucket-in)
            (holder-set w z (bucket_in ph) 0 (g.in-store q a).bucket-in)
            (txns-set w z q l _ _ (λ j d. slot-view w.tables.lists q j _ rs (txn_at w j) (sized-at w z j) (omega arith) (omega arith) d)
            ∙ ap (λ (y : model.Txn). update (view w).txns q y) (collected-view w.tables.lists q (txn_at w q) rs (key_in ph) s l few z.lists));
        answer = refl;
        lent = refl;
        sized = sized_set w z q l _ _ _ _
            (record {
              slot = s.slot;
              active = s.active;
              seven = s.seven;
              reads = s.reads;
              writes = s.writes;
              records = s.records;
              candidates = few;
            }) refl refl (field-length bucket_words 1 w.tables.buckets (bucket_in ph) 0) (length-sets w.tables.lists _ rs)
            z.told;
      }

  -- the posted rows are kept, and the bucket is free
  pub collect-same : (n : ℕ) → Same w (ask.Collect n)
  unfolding refusal collect_of
  collect-same n = by_place w z (ask.Collect n) refl tt
      (λ l d e. rw (posted-same (key_in (phase_view (txn_at w (standing w n)).phase)))
      (collected-at n l (live_at w n d e) (not (eqb (model.rank (phase_view (txn_at w (standing w n)).phase)) model.phase_holding))))
