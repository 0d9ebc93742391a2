-- Validate over the words is the model's.
-- Assumes nothing.
use Prim.Native.Nat.{ℕ, suc, ◌≤◌, ◌<◌}
use mathlib.Core.Path.{◌≡◌, refl, ap, ◌∙◌}
use mathlib.Core.Bool.{Bool, true, false, cond, not}
use mathlib.Core.Option.{none, some}
use mathlib.Core.List.{List, map-map}
use native.Mathlib.Omega.{arith}
use lib.Dec.{eqb}
use lib.ListN.{length, length-map}
use Rattle.base_lists.specs.Lists.{some_of, Among}
use Rattle.base_lists.proofs.ListLaws.{among-map, map-among}
use Rattle.model.specs.Store.{phase_open}
use Rattle.model.specs.Store as model
use Rattle.model.specs.Steps.{read_buckets}
use Rattle.model.specs.Verdict as judged
use Rattle.model.specs.Refusals.{WrongPhase, Taken, by_another, refusal, txn_of}
use Rattle.model.specs.Machine.{accepted, after_refusal, carried}
use Rattle.base_protocol.specs.declared.Step.TheVariants as ask
use Rattle.base_protocol.specs.declared.Answer.TheVariants as tell
use Rattle.base_protocol.specs.declared.Verdict.{Verdict}
use Rattle.base_protocol.specs.View.{asked, verdict_told, refusal_told}
use Rattle.table.specs.Fields.{version_words, bucket_words, holder_of}
use Rattle.table.specs.Lists as lists
use Rattle.table.specs.declared.lists.IndexRead.{IndexRead}
use Rattle.table.proofs.Parts.{part_field}
use Rattle.table.proofs.Spans.{list_length}
use Rattle.txn.specs.View.{phase_view, txn_view, read_view, reads_in}
use Rattle.txn.specs.Methods.{taken_by, refused_of}
use Rattle.txn.specs.declared.Transaction.{Transaction}
use Rattle.txn_needs.specs.Needs.{reads_need}
use Rattle.write_prepare.specs.Prepare.{reads_taken_in, validate_of}
use Rattle.write_verdict.specs.Judged.{verdict_of}
use Rattle.write_verdict.proofs.Model.{verdict-model}
use Rattle.step.specs.Steps.{with_clock, stays}
use Rattle.step.specs.Words.{Words, view, txn_at, Sized}
use Rattle.step_bridge.proofs.Shaped.{Shaped}
use Rattle.step_bridge.proofs.Places.{standing, sized-at, live_at}
use Rattle.step_bridge.proofs.Same.{SameAt, Same, unmoved-at, refused-same}
use Rattle.step_bridge.proofs.SameLaws.{by_place}
use Rattle.step_bridge.proofs.Listing.{listed-all, some_same}

-- the index reads as the model has them
pub reads-length : (xs : List ℕ) (t : Transaction) → length (reads_in xs t) ≡ t.reads_n
reads-length xs t = length-map (lists.reads_of xs t.slot t.reads_n) read_view
    ∙ list_length lists.read_of (lists.reads).w (lists.start_of lists.reads t.slot) xs t.reads_n

pub reads-need : (xs : List ℕ) (t : Transaction) → read_buckets (txn_view xs t) ≡ reads_need xs t
unfolding read_buckets
reads-need xs t = map-map (λ (r : model.IndexRead). r.bucket) read_view (lists.reads_of xs t.slot t.reads_n)

pub needs-length : (xs : List ℕ) (t : Transaction) → length (reads_need xs t) ≡ t.reads_n
needs-length xs t = length-map (lists.reads_of xs t.slot t.reads_n) (λ (r : IndexRead). r.bucket)
    ∙ list_length lists.read_of (lists.reads).w (lists.start_of lists.reads t.slot) xs t.reads_n

module _ (w : Words) (z : Sized w) (g : Shaped w) where
  -- a bucket in range carries what the model sees
  pub taken-same : (n b : ℕ) → b < w.sizes.buckets → taken_by (holder_of w.tables.buckets b) n ≡ by_another (view w).held.holder n b
  unfolding by_another
  taken-same n b h = rw (part_field bucket_words 1 w.sizes.buckets w.tables.buckets b (omega arith) h)

  pub read-in : (p : ℕ) → 1 ≤ (txn_at w p).number → (b : ℕ) → Among b (reads_need w.tables.lists (txn_at w p))
      → b < w.sizes.buckets
  read-in p l b m =
      let rs = lists.reads_of w.tables.lists (txn_at w p).slot (txn_at w p).reads_n in
      let a = map-among (λ (r : IndexRead). r.bucket) rs b m in
      rw a.2 ((g.in-store p l).reads-in (read_view a.0) (among-map read_view rs a.0 a.1))

  pub reads-taken : (p : ℕ) → 1 ≤ (txn_at w p).number
      → reads_taken_in w.tables.buckets w.tables.lists (txn_at w p)
      ≡ some_of (by_another (view w).held.holder (txn_at w p).number) (read_buckets ((view w).txns p))
  unfolding reads_taken_in
  reads-taken p l =
      let t = txn_at w p in
      rw (
        listed-all 48 (reads_need w.tables.lists t) (omega (arith, needs-length w.tables.lists t, (sized-at w z p).reads)),
        reads-need w.tables.lists t,
      )
      (some_same (λ b. taken_by (holder_of w.tables.buckets b) t.number) (by_another (view w).held.holder t.number)
      (reads_need w.tables.lists t) (λ b m. taken-same t.number b (read-in p l b m)))

  -- the verdict
  pub verdict-same : (p : ℕ) → 1 ≤ (txn_at w p).number → verdict_of w.tables.versions w.tables.buckets w.tables.lists (txn_at w p)
      ≡ verdict_told (judged.verdict (view w).chains (view w).index ((view w).txns p))
  verdict-same p l =
      let u = g.versions-left in
      verdict-model (view w).chains (view w).index w.tables.versions w.tables.buckets w.tables.lists (txn_at w p) (record {
        xmin-same = λ r m. let a = (g.in-store p l).records-in r m in
            part_field version_words 0 (suc w.sizes.versions) w.tables.versions r.ptr (omega arith) (omega arith);
        xmax-same = λ r m. let a = (g.in-store p l).records-in r m in
            part_field version_words 1 (suc w.sizes.versions) w.tables.versions r.ptr (omega arith) (omega arith);
        stamp-same = λ r m. part_field bucket_words 0 w.sizes.buckets w.tables.buckets r.bucket (omega arith) ((g.in-store p l).reads-in r m);
      })

  judged-at : (n : ℕ) (v : Verdict) → v ≡ verdict_told (judged.verdict (view w).chains (view w).index (txn_of (view w) n)) → (b c : Bool)
      → SameAt w (standing w n) (stays
      (with_clock (cond b (refused_of (txn_at w (standing w n)) (refusal_told WrongPhase))
      (cond c (refused_of (txn_at w (standing w n)) (refusal_told Taken)) (record { answer = tell.Judged v; txn = txn_at w (standing w n) }))) w.clock
      w.used) w.tables)
      (carried (view w) (asked (ask.Validate n)) (cond b (some WrongPhase) (cond c (some Taken) none)))
  unfolding carried accepted after_refusal
  judged-at n v e true c = refused-same w z (standing w n) WrongPhase
  judged-at n v e false true = refused-same w z (standing w n) Taken
  judged-at n v e false false = unmoved-at w z (standing w n) (tell.Judged v) _ (ap tell.Judged e) refl

  -- validate changes nothing
  pub validate-same : (n : ℕ) → Same w (ask.Validate n)
  unfolding refusal validate_of
  validate-same n = by_place w z (ask.Validate n) refl tt
      (λ l d e.
      let a = live_at w n d e in
      rw (reads-taken (standing w n) a)
      (judged-at n _ (verdict-same (standing w n) a) (not (eqb (model.rank (phase_view (txn_at w (standing w n)).phase)) model.phase_open))
      (some_of (by_another (view w).held.holder (txn_at w (standing w n)).number) (read_buckets ((view w).txns (standing w n))))))
