-- A public step is the model's on all words of right shape: abort and publish, which sweep, and every other step.
-- Assumes nothing.
use Prim.Native.Nat.{ℕ, suc, ◌≤◌, ◌<◌}
use mathlib.Core.Path.{◌≡◌, refl, sym, ap, subst, ◌∙◌}
use mathlib.Core.Bool.{Bool, true, false, cond, not}
use mathlib.Core.Option.{none, some}
use mathlib.Core.List.{List}
use native.Mathlib.Omega.{arith}
use lib.Dec.{eqb, leb}
use lib.ListN.{length}
use borrow.Author.Tests.{ne_eqb, le-leb}
use Rattle.base_limits.specs.Limits.{most_live}
use Rattle.base_lists.specs.Table.{update}
use Rattle.base_numbers.specs.Numbers.{one_more}
use Rattle.base_numbers.proofs.Laws.{one_up}
use Rattle.model.specs.Store as model
use Rattle.model.specs.Store.{rank, phase_installed, phase_ended}
use Rattle.model.specs.Steps.{release, freed}
use Rattle.model.specs.Refusals.{WrongPhase, refusal}
use Rattle.model.specs.Machine.{gives, lent_after, accepted, after_refusal, carried}
use Rattle.model.specs.Machine as machine
use Rattle.model.specs.Shape.{right_shape}
use Rattle.base_protocol.specs.declared.Step.{Step}
use Rattle.base_protocol.specs.declared.Step.TheVariants as ask
use Rattle.base_protocol.specs.declared.Answer.{Answer}
use Rattle.base_protocol.specs.declared.Answer.TheVariants as tell
use Rattle.base_protocol.specs.View.{asked, told, sizes_view, refusal_told}
use Rattle.table.specs.Words.{field}
use Rattle.table.specs.Fields.{row_words, bucket_words, clear_holders, clear_claims, release_every, unclaim_every}
use Rattle.txn.specs.View.{phase_view, rows_part, versions_part, buckets_part, chains_view, index_view, held_view}
use Rattle.txn.specs.Methods.{idle_of, refused_of}
use Rattle.txn.specs.declared.Transaction.{Transaction}
use Rattle.txn_places.proofs.Laws.{default-any}
use Rattle.txn_needs.specs.Needs.{written_by}
use Rattle.finish_publish.specs.Publish.{publish_of, abort_of}
use Rattle.step.specs.Steps.{Moved, publish_step, published_from, in_published, in_aborted}
use Rattle.step.specs.Words.{Words, view, txn_at, place_for, Sized}
use Rattle.step_bridge.proofs.Places.{standing, live_at}
use Rattle.step_bridge.proofs.Placed.{unmoved}
use Rattle.step_bridge.proofs.Same.{two-held, SameAt, SameAs, Same, refused-same}
use Rattle.step_bridge.proofs.SameLaws.{by-place-as}
use Rattle.step_bridge.proofs.Shaped.{Shaped, shaped}
use Rattle.step_bridge.proofs.Tabled.{part}
use Rattle.step_bridge.proofs.Freeing.{freed_at, clear-all, clear-length}
use Rattle.step_bridge.proofs.Needing.{row_in}
use Rattle.step_bridge.proofs.Pushing.{install-same}
use Rattle.step_bridge.proofs.Telling.{Tells}
use Rattle.step_bridge.proofs.Aborting.{late-test, freed_list, freed-in, freed-buckets, abort-chains, abort-index, abort-told, ended_at}
use Rattle.step_bridge.proofs.Publishing.{rows_after, buckets_after, stamped, stamped-is, rows_long, buckets-long, publish-chains, publish-index, phase-ended}
use Rattle.step_bridge.proofs.Publishing.{holders-freed, claims-freed, publish-told, clock-below}
use Rattle.step_bridge.proofs.Writing.{end_same, put_same, erase_same}
use Rattle.step_bridge.proofs.Judging.{validate-same}
use Rattle.step_bridge.proofs.Capturing.{capture-same}
use Rattle.step_bridge.proofs.Collecting.{collect-same}
use Rattle.step_bridge.proofs.Finding.{rows_same}
use Rattle.step_bridge.proofs.Beginning.{begin-same}
use Rattle.step_bridge.proofs.Preparing.{prepare-same}
use Rattle.step_bridge.proofs.Stepping.{Lent}
use Rattle.call.specs.Calls.{asker, swept_for, swept_moved, called_by}
use Rattle.call_promises.proofs.Refusing.{ends, still-there, called-stays}
use Rattle.call_promises.proofs.Sweeping.{release-freed, swept-held, swept-chains, swept-index, swept-rows-long, swept-buckets-long}
use Rattle.call_promises.proofs.Sweeping.{swept-told}

-- where nothing was changed nothing is swept
module _ (w : Words) where
  number-unswept : (p : ℕ) (a : Answer) → swept_moved w.sizes (txn_at w p).number (unmoved w p a) ≡ unmoved w p a
  unfolding swept_for
  number-unswept p a = rw (still-there (txn_at w p).number)

module _ (w : Words) (z : Sized w) (s : Step) where
  -- the record at the step's place
  asker-at : (p : ℕ) → place_for w.txns s ≡ p → p < most_live → asker w s ≡ txn_at w p
  asker-at p e l = rw e (default-any w.txns p (idle_of 0) (idle_of p) (omega (arith, z.eight)))

  asker-unswept : (p : ℕ) (a : Answer) → place_for w.txns s ≡ p → p < most_live → swept_moved w.sizes (asker w s).number (unmoved w p a) ≡ unmoved w p a
  asker-unswept p a e l = rw (asker-at p e l) (number-unswept w p a)

  asker-same : (p : ℕ) → place_for w.txns s ≡ p → p < most_live → (m : Moved) (out : machine.Stepped)
      → SameAt w p (swept_moved w.sizes (txn_at w p).number m) out → SameAt w p (swept_moved w.sizes (asker w s).number m) out
  asker-same p e l m out h = subst (λ (t : Transaction). SameAt w p (swept_moved w.sizes t.number m) out) (sym (asker-at p e l)) h

-- a record that ends, and the sweep after it: what its buckets and rows were freed of before does not matter
module _ (w : Words) (z : Sized w) (p : ℕ) (l : p < most_live) (a : 1 ≤ (txn_at w p).number) where
  abbrev ended : List ℕ → List ℕ → Answer → ℕ → Moved
  ended rows buckets t clock =
      record {
        stepped = record { answer = t; txn = idle_of (txn_at w p).slot; clock = clock; used = w.used };
        rows = rows;
        versions = w.tables.versions;
        buckets = buckets;
        lists = w.tables.lists;
        found = w.tables.found;
      }

  swept-ended : (rows buckets : List ℕ) (t : Answer) (clock : ℕ) → swept_moved w.sizes (txn_at w p).number (ended rows buckets t clock)
      ≡ ended (unclaim_every rows w.sizes.rows (txn_at w p).number) (release_every buckets w.sizes.buckets (txn_at w p).number) t clock
  unfolding swept_for
  swept-ended rows buckets t clock = rw (ne_eqb (txn_at w p).number 0 (λ q. omega arith))

  swept_at : (rows buckets : List ℕ) (t : Answer) (o : machine.Answer) (clock clock' : ℕ) (c : model.Chains) (x : model.Index) (h : model.Held)
      → clock ≡ clock' → chains_view (rows_part (sizes_view w.sizes) rows) (versions_part (sizes_view w.sizes) w.tables.versions) w.used ≡ c
      → index_view (rows_part (sizes_view w.sizes) rows) (buckets_part (sizes_view w.sizes) buckets) ≡ x
      → freed (held_view (rows_part (sizes_view w.sizes) rows) (buckets_part (sizes_view w.sizes) buckets)) (txn_at w p).number ≡ h
      → length rows ≡ length w.tables.rows → length buckets ≡ length w.tables.buckets → Tells w rows
      → t ≡ told o → w.tables.found ≡ lent_after o w.tables.found
      → SameAt w p (swept_moved w.sizes (txn_at w p).number (ended rows buckets t clock))
      (gives (record { sizes = (view w).sizes; clock = clock'; chains = c; index = x; held = h; txns = update (view w).txns p model.no_txn }) o)
  swept_at rows buckets t o clock clock' c x h e₁ e₂ e₃ e₄ r b tells f g =
      let v = (txn_at w p).number in
      rw (swept-ended rows buckets t clock)
      (ended_at w z p l _ _ t o clock clock' c x h e₁ (swept-chains (view w).sizes v a rows buckets _ _ ∙ e₂)
      (swept-index (view w).sizes v a rows buckets ∙ e₃) (swept-held (view w).sizes v a rows buckets (rw r z.rows) (rw b z.buckets) ∙ e₄)
      (swept-rows-long (view w).sizes v a rows buckets ∙ r) (swept-buckets-long (view w).sizes v a rows buckets ∙ b)
      (swept-told (view w).sizes v a rows buckets tells) f g)

  -- freed in part, and then swept, is freed
  swept-freed : (rows buckets rs bs : List ℕ)
      → field bucket_words 1 (part bucket_words w.sizes.buckets buckets) ≡ freed_at (txn_at w p).number (view w).held.holder bs
      → field row_words 1 (part row_words w.sizes.rows rows) ≡ freed_at (txn_at w p).number (view w).held.claim rs
      → freed (held_view (rows_part (sizes_view w.sizes) rows) (buckets_part (sizes_view w.sizes) buckets)) (txn_at w p).number
      ≡ freed (view w).held (txn_at w p).number
  swept-freed rows buckets rs bs e f =
      let v = (txn_at w p).number in
      two-held _ _ _ _ (ap (λ (g : ℕ → ℕ). release v g) e ∙ release-freed v (view w).held.holder bs)
      (ap (λ (g : ℕ → ℕ). release v g) f ∙ release-freed v (view w).held.claim rs)

module _ (w : Words) (z : Sized w) (g : Shaped w) (n : ℕ) where
  -- abort
  aborted-at : standing w n < most_live → 1 ≤ (txn_at w (standing w n)).number → (b : Bool)
      → SameAt w (standing w n)
      (swept_moved w.sizes (txn_at w (standing w n)).number
      (in_aborted
      (cond b (record { reply = refused_of (txn_at w (standing w n)) (refusal_told WrongPhase); rows = w.tables.rows; buckets = w.tables.buckets })
      (record {
        reply = record { answer = tell.Done; txn = idle_of (txn_at w (standing w n)).slot };
        rows = clear_claims w.tables.rows (txn_at w (standing w n)).number (written_by w.tables.lists (txn_at w (standing w n)));
        buckets = clear_holders w.tables.buckets (txn_at w (standing w n)).number (freed_list w (standing w n));
      }))
      w.clock w.used w.tables))
      (carried (view w) (asked (ask.Abort n)) (cond b (some WrongPhase) none))
  unfolding carried accepted after_refusal
  aborted-at l a true = rw (number-unswept w (standing w n) (tell.Refused (refusal_told WrongPhase))) (refused-same w z (standing w n) WrongPhase)
  aborted-at l a false =
      let q = standing w n in
      let v = (txn_at w q).number in
      let rs = written_by w.tables.lists (txn_at w q) in
      swept_at w z q l a _ _ tell.Done machine.Done w.clock w.clock _ _ _ refl (abort-chains w v rs) (abort-index w v rs (freed_list w q))
      (swept-freed w z q l a _ _ rs (freed_list w q)
      (clear-all bucket_words 1 (omega arith) w.sizes.buckets v w.tables.buckets (freed_list w q) (freed-in w z g q a) z.buckets)
      (clear-all row_words 1 (omega arith) w.sizes.rows v w.tables.rows rs (λ r m. row_in w z g q a r m) z.rows))
      (clear-length row_words 1 v w.tables.rows rs) (clear-length bucket_words 1 v w.tables.buckets (freed_list w q))
      (abort-told w z v rs) refl refl

  abort-called : SameAs w (ask.Abort n) (called_by w (ask.Abort n))
  unfolding refusal abort_of
  abort-called = by-place-as w z (ask.Abort n) refl (swept_moved w.sizes (asker w (ask.Abort n)).number) (asker-unswept w z (ask.Abort n)) tt
      (λ l d e at.
      let q = standing w n in
      asker-same w z (ask.Abort n) q at l _ _
      (rw (freed-buckets w q z w.tables.buckets, ← late-test (rank (phase_view (txn_at w q).phase)))
      (aborted-at l (live_at w n d e) (leb phase_installed (rank (phase_view (txn_at w q).phase))))))

  -- publish
  published-at : standing w n < most_live → 1 ≤ (txn_at w (standing w n)).number → (b : Bool)
      → not (eqb (rank (phase_view (txn_at w (standing w n)).phase)) phase_ended) ≡ b
      → SameAt w (standing w n)
      (swept_moved w.sizes (txn_at w (standing w n)).number
      (in_published
      (published_from
      (cond b (record { reply = refused_of (txn_at w (standing w n)) (refusal_told WrongPhase); rows = w.tables.rows; buckets = w.tables.buckets })
      (record {
        reply = record { answer = tell.Stamp w.clock; txn = idle_of (txn_at w (standing w n)).slot };
        rows = rows_after w (standing w n);
        buckets = buckets_after w (standing w n);
      }))
      w.clock w.used)
      w.tables))
      (carried (view w) (asked (ask.Publish n)) (cond b (some WrongPhase) none))
  unfolding carried accepted after_refusal
  published-at l a true e = rw (number-unswept w (standing w n) (tell.Refused (refusal_told WrongPhase))) (refused-same w z (standing w n) WrongPhase)
  published-at l a false e =
      let q = standing w n in
      swept_at w z q l a _ _ (tell.Stamp w.clock) (machine.Stamp w.clock) (one_more w.clock) (suc w.clock) _ _ _
      (one_up w.clock (clock-below w g q l a)) (publish-chains w z q)
      (publish-index w z g q a (le-leb phase_installed _ (phase-ended (phase_view (txn_at w q).phase) e)))
      (swept-freed w z q l a _ _ _ _ (holders-freed w z g q a) (claims-freed w z g q a)) (rows_long w z q) (buckets-long w z q)
      (publish-told w z g q a) refl refl

  publish-called : SameAs w (ask.Publish n) (called_by w (ask.Publish n))
  unfolding refusal publish_step publish_of
  publish-called = by-place-as w z (ask.Publish n) refl (swept_moved w.sizes (asker w (ask.Publish n)).number) (asker-unswept w z (ask.Publish n)) tt
      (λ l d e at.
      let q = standing w n in
      asker-same w z (ask.Publish n) q at l _ _
      (rw (stamped-is w z q, freed-buckets w q z (stamped w q))
      (published-at l (live_at w n d e) (not (eqb (rank (phase_view (txn_at w q).phase)) phase_ended)) refl)))

-- a step that ends no record is not swept
called_same : (w : Words) (s : Step) → ends s ≡ false → Same w s → SameAs w s (called_by w s)
called_same w s d h = subst (λ (m : Moved). SameAs w s m) (sym (called-stays w s d)) h

-- every public step, where the lent list is as long as the room that is asked for
pub call_same : (w : Words) → Sized w → right_shape (view w) ≡ true → (s : Step) → Lent w s → SameAs w s (called_by w s)
call_same w z e ask.Begin h = called_same w ask.Begin refl (begin-same w z)
call_same w z e (ask.Capture n k) h = called_same w (ask.Capture n k) refl (capture-same w z (shaped w z e) n k)
call_same w z e (ask.Collect n) h = called_same w (ask.Collect n) refl (collect-same w z (shaped w z e) n)
call_same w z e (ask.Rows n room) h = called_same w (ask.Rows n room) refl (rows_same w z (shaped w z e) n room h)
call_same w z e (ask.Put n r k payload) h = called_same w (ask.Put n r k payload) refl (put_same w z n r k payload)
call_same w z e (ask.Erase n r) h = called_same w (ask.Erase n r) refl (erase_same w z n r)
call_same w z e (ask.Prepare n) h = called_same w (ask.Prepare n) refl (prepare-same w z (shaped w z e) n)
call_same w z e (ask.Install n) h = called_same w (ask.Install n) refl (install-same w z (shaped w z e) n)
call_same w z e (ask.End n) h = called_same w (ask.End n) refl (end_same w z n)
call_same w z e (ask.Publish n) h = publish-called w z (shaped w z e) n
call_same w z e (ask.Validate n) h = called_same w (ask.Validate n) refl (validate-same w z (shaped w z e) n)
call_same w z e (ask.Abort n) h = abort-called w z (shaped w z e) n
