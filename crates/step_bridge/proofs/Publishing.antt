-- Publish over the words is the model's.
-- Assumes nothing.
use Prim.Native.Nat.{ℕ, suc, ◌*◌, ◌≤◌, ◌<◌}
use mathlib.Core.Path.{◌≡◌, refl, ap, ◌∙◌, fun_ext}
use mathlib.Core.Bool.{Bool, true, false, cond, not}
use mathlib.Core.Option.{Option, none, some}
use mathlib.Core.List.{List, ◌∷◌}
use native.Mathlib.Omega.{arith}
use lib.Dec.{eqb}
use lib.ListN.{length}
use borrow.Author.Tests.{eqb-true, not-false, le-leb}
use Rattle.base_limits.specs.Limits.{most_live, last_number}
use Rattle.base_lists.specs.Lists.{member, pick, join, Among}
use Rattle.base_lists.specs.Table.{update_all}
use Rattle.base_lists.proofs.ListLaws.{same_test, member-among, among-member, which-pick}
use Rattle.model.specs.Store as model
use Rattle.model.specs.Store.{rank, phase_installed, phase_ended}
use Rattle.model.specs.Seeing.{live}
use Rattle.model.specs.Steps.{pending_rows, repost, changed_buckets, published_index, freed}
use Rattle.model.specs.Refusals.{WrongPhase, live_count, refusal}
use Rattle.model.specs.Machine.{accepted, after_refusal, carried}
use Rattle.model.specs.Machine as machine
use Rattle.model.proofs.Move.{live_test}
use Rattle.model.proofs.Good.{Good, right-shape}
use Rattle.base_protocol.specs.declared.Step.TheVariants as ask
use Rattle.base_protocol.specs.declared.Answer.TheVariants as tell
use Rattle.base_protocol.specs.View.{asked, sizes_view, refusal_told}
use Rattle.table.specs.Words.{field}
use Rattle.txn.specs.View.{phase_view, rows_part, versions_part, buckets_part, chains_view, index_view, held_view}
use Rattle.txn.specs.Methods.{idle_of, refused_of}
use Rattle.base_numbers.specs.Numbers.{one_more}
use Rattle.base_numbers.proofs.Laws.{one_up}
use Rattle.table.specs.Fields.{row_words, bucket_words, set_stamps, clear_holders, clear_claims}
use Rattle.txn_needs.specs.Keys.{is_installed}
use Rattle.finish_publish.specs.Publish.{posted_all, stamped_in, publish_of}
use Rattle.step.specs.Steps.{publish_step, published_from, in_published}
use Rattle.step.specs.Words.{Words, view, txn_at, extent_in, Sized}
use Rattle.step_bridge.proofs.Shaped.{Shaped, shaped}
use Rattle.step_bridge.proofs.Places.{standing, sized-at, live_at}
use Rattle.step_bridge.proofs.Same.{two-held, SameAt, Same, refused-same, later-tests}
use Rattle.step_bridge.proofs.SameLaws.{by_place}
use Rattle.step_bridge.proofs.Listing.{listed-all}
use Rattle.step_bridge.proofs.Tabled.{part, set_all, set_other, set-length}
use Rattle.step_bridge.proofs.Telling.{Tells, tells-kept}
use Rattle.step_bridge.proofs.Freeing.{freed_at, freed-release, clear-all, clear-other, clear-length}
use Rattle.step_bridge.proofs.Keyed.{new-key-same}
use Rattle.step_bridge.proofs.Needing.{all_same, row_in, row-pending, pending-row}
use Rattle.step_bridge.proofs.Aborting.{freed_list, freed-buckets, freed-in, own-rows, ended_at}
use Rattle.step_bridge.proofs.Reposting.{keys-by, postings, posted-all, posted-length, posted-other, posted-told}
use Rattle.step_bridge.proofs.Changing.{row_changes, rows_of, changed-to, changed-back, held-listed, changes-few, changes-in}

-- the buckets stamped, and then freed; the rows with the postings moved; and what publish leaves of both
abbrev changes_of : Words → ℕ → List ℕ
changes_of w p = join (row_changes w p) (rows_of w p)

abbrev pub stamped : Words → ℕ → List ℕ
stamped w p = set_stamps w.tables.buckets w.clock (changes_of w p)

abbrev posted : Words → ℕ → List ℕ
posted w p = posted_all w.tables.rows w.tables.lists w.sizes.rows (txn_at w p) (rows_of w p)

abbrev pub rows_after : Words → ℕ → List ℕ
rows_after w p = clear_claims (posted w p) (txn_at w p).number (rows_of w p)

abbrev pub buckets_after : Words → ℕ → List ℕ
buckets_after w p = clear_holders (stamped w p) (txn_at w p).number (freed_list w p)

module _ (w : Words) (z : Sized w) (p : ℕ) where
  -- the words list what they stamp
  pub stamped-is : stamped_in w.tables.rows w.tables.versions w.tables.buckets w.tables.lists (extent_in w) (txn_at w p) ≡ stamped w p
  unfolding stamped_in
  stamped-is = ap (λ (bs : List ℕ). set_stamps w.tables.buckets w.clock bs) (listed-all 49 (changes_of w p) (omega (arith, changes-few w p z)))

  posted-room : row_words * w.sizes.rows ≤ length (posted w p)
  posted-room = rw (posted-length w.tables.lists (txn_at w p) w.sizes.rows (rows_of w p) w.tables.rows) z.rows

  stamped-room : bucket_words * w.sizes.buckets ≤ length (stamped w p)
  stamped-room = rw (set-length bucket_words 0 w.clock w.tables.buckets (changes_of w p)) z.buckets

  pub rows_long : length (rows_after w p) ≡ length w.tables.rows
  rows_long = clear-length row_words 1 (txn_at w p).number (posted w p) (rows_of w p)
      ∙ posted-length w.tables.lists (txn_at w p) w.sizes.rows (rows_of w p) w.tables.rows

  pub buckets-long : length (buckets_after w p) ≡ length w.tables.buckets
  buckets-long = clear-length bucket_words 1 (txn_at w p).number (stamped w p) (freed_list w p)
      ∙ set-length bucket_words 0 w.clock w.tables.buckets (changes_of w p)

  pub publish-chains : chains_view (rows_part (sizes_view w.sizes) (rows_after w p)) (versions_part (sizes_view w.sizes) w.tables.versions) w.used
      ≡ (view w).chains
  publish-chains = rw (
    clear-other row_words 1 (omega arith) w.sizes.rows (txn_at w p).number (posted w p) (rows_of w p) 0 (omega arith) (omega arith),
    posted-other w.tables.lists (txn_at w p) w.sizes.rows (rows_of w p) w.tables.rows 0 (omega arith),
  )

module _ (w : Words) (z : Sized w) (g : Shaped w) (p : ℕ) (l : 1 ≤ (txn_at w p).number) where
  -- postings follow the new keys
  publish-posted : postings w.sizes.rows (rows_after w p) ≡ repost ((view w).txns p) (pending_rows (view w).sizes ((view w).txns p).writes)
      (view w).index.posted
  unfolding repost
  publish-posted =
      let n = (txn_at w p).number in
      let ps = pending_rows (view w).sizes ((view w).txns p).writes in
      keys-by _ _ _ _ (clear-other row_words 1 (omega arith) w.sizes.rows n (posted w p) (rows_of w p) 2 (omega arith) (omega arith))
      (clear-other row_words 1 (omega arith) w.sizes.rows n (posted w p) (rows_of w p) 3 (omega arith) (omega arith))
      ∙ (fun_ext λ q. posted-all w.tables.lists (txn_at w p) w.sizes.rows (rows_of w p) w.tables.rows
      (λ r m. row_in w z g p l r m) z.rows q
      ∙ rw (
        new-key-same w.tables.lists (txn_at w p) (sized-at w z p).writes q,
        same_test (member q (rows_of w p)) (member q ps) (λ e. among-member q ps (row-pending w z g p l q (member-among q (rows_of w p) e)))
            (λ e. among-member q (rows_of w p) (pending-row w z g p q (member-among q ps e))),
      ))

  publish-stamps : is_installed (txn_at w p).phase ≡ true
      → field bucket_words 0 (part bucket_words w.sizes.buckets (buckets_after w p))
      ≡ update_all (view w).index.stamp (changed_buckets (view w) ((view w).txns p))
      w.clock
  publish-stamps k =
      clear-other bucket_words 1 (omega arith) w.sizes.buckets (txn_at w p).number (stamped w p) (freed_list w p) 0 (omega arith) (omega arith)
      ∙ (set_all bucket_words 0 (omega arith) w.sizes.buckets w.clock w.tables.buckets (changes_of w p) (changes-in w p g) z.buckets
      ∙ all_same (view w).index.stamp (changes_of w p) (changed_buckets (view w) ((view w).txns p)) w.clock (λ b m. changed-to w z g p l k b m)
      (λ b m. changed-back w z g p l k b m))

  pub publish-index : is_installed (txn_at w p).phase ≡ true
      → index_view (rows_part (sizes_view w.sizes) (rows_after w p)) (buckets_part (sizes_view w.sizes) (buckets_after w p))
      ≡ published_index (view w) ((view w).txns p)
  publish-index k = two _ _ _ _ (publish-stamps k) publish-posted
    where
      two : (f f' : ℕ → ℕ) (h h' : ℕ → Option ℕ) → f ≡ f' → h ≡ h'
          → ◌≡◌ {A = model.Index} (record { stamp = f; posted = h }) (record { stamp = f'; posted = h' })
      two f f' h h' a b = rw (a, b)

  -- what is listed is freed
  pub holders-freed : field bucket_words 1 (part bucket_words w.sizes.buckets (buckets_after w p))
      ≡ freed_at (txn_at w p).number (view w).held.holder (freed_list w p)
  holders-freed =
      clear-all bucket_words 1 (omega arith) w.sizes.buckets (txn_at w p).number (stamped w p) (freed_list w p) (freed-in w z g p l) (stamped-room w z p)
      ∙ ap (λ (f : ℕ → ℕ). freed_at (txn_at w p).number f (freed_list w p))
      (set_other bucket_words 0 (omega arith) w.sizes.buckets w.clock w.tables.buckets (changes_of w p) 1 (omega arith) (omega arith))

  pub claims-freed : field row_words 1 (part row_words w.sizes.rows (rows_after w p)) ≡ freed_at (txn_at w p).number (view w).held.claim (rows_of w p)
  claims-freed =
      clear-all row_words 1 (omega arith) w.sizes.rows (txn_at w p).number (posted w p) (rows_of w p) (λ r m. row_in w z g p l r m) (posted-room w z p)
      ∙ ap (λ (f : ℕ → ℕ). freed_at (txn_at w p).number f (rows_of w p))
      (posted-other w.tables.lists (txn_at w p) w.sizes.rows (rows_of w p) w.tables.rows 1 (omega arith))

  -- publish leaves the lists telling the postings: they move with them, and claims are no part of them
  pub publish-told : Tells w (rows_after w p)
  publish-told = tells-kept (posted w p) _ w.sizes.rows
      (λ k lo hi. clear-other row_words 1 (omega arith) w.sizes.rows (txn_at w p).number (posted w p) (rows_of w p) k hi (λ e. omega arith))
      (posted-told w.tables.lists (txn_at w p) w.sizes.rows (rows_of w p) w.tables.rows (λ r m. row_in w z g p l r m) z.rows z.told)

-- who is live keeps the clock below the last number
some-long : (xs : List ℕ) (x : ℕ) → Among x xs → 1 ≤ length xs
some-long (y ∷ xs) x m = omega arith
some-long mathlib.Core.List.[] x m = elim m [ ]

pub clock-below : (w : Words) → Shaped w → (p : ℕ) → p < most_live → 1 ≤ (txn_at w p).number → w.clock < last_number
unfolding live_count
clock-below w g p l a = omega (
  arith,
  g.numbers-left,
  some-long (pick (λ i. live ((view w).txns i)) 0 most_live) p
      (which-pick (λ i. live ((view w).txns i)) 0 most_live p (omega arith) l (live_test ((view w).txns p) a)),
)

-- in phase Ended all is installed
pub phase-ended : (x : model.Phase) → not (eqb (rank x) phase_ended) ≡ false → phase_installed ≤ rank x
phase-ended x e = let r : rank x ≡ phase_ended = eqb-true (rank x) phase_ended (not-false (eqb (rank x) phase_ended) e) in omega arith

module _ (w : Words) (z : Sized w) (g : Good (view w)) (n : ℕ) (l : standing w n < most_live) (a : 1 ≤ (txn_at w (standing w n)).number) where
  abbrev sh : Shaped w
  sh = shaped w z (right-shape (view w) g)

  publish-held : phase_installed ≤ rank (phase_view (txn_at w (standing w n)).phase)
      → held_view (rows_part (sizes_view w.sizes) (rows_after w (standing w n))) (buckets_part (sizes_view w.sizes) (buckets_after w (standing w n)))
      ≡ freed (view w).held (txn_at w (standing w n)).number
  publish-held k =
      let p = standing w n in
      two-held _ _ _ _ (holders-freed w z sh p a ∙ freed-release (txn_at w p).number (view w).held.holder (freed_list w p) (held-listed w z g p a k))
      (claims-freed w z sh p a ∙ freed-release (txn_at w p).number (view w).held.claim (rows_of w p) (own-rows w z g p a))

  published-at : (b : Bool) → not (eqb (rank (phase_view (txn_at w (standing w n)).phase)) phase_ended) ≡ b
      → SameAt w (standing w n)
      (in_published
      (published_from
      (cond b (record { reply = refused_of (txn_at w (standing w n)) (refusal_told WrongPhase); rows = w.tables.rows; buckets = w.tables.buckets })
      (record {
        reply = record { answer = tell.Stamp w.clock; txn = idle_of (txn_at w (standing w n)).slot };
        rows = rows_after w (standing w n);
        buckets = buckets_after w (standing w n);
      }))
      w.clock w.used)
      w.tables)
      (carried (view w) (asked (ask.Publish n)) (cond b (some WrongPhase) none))
  unfolding carried accepted after_refusal
  published-at true e = refused-same w z (standing w n) WrongPhase
  published-at false e =
      let q = standing w n in
      let k = phase-ended (phase_view (txn_at w q).phase) e in
      ended_at w z q l _ _ (tell.Stamp w.clock) (machine.Stamp w.clock) (one_more w.clock) (suc w.clock) _ _ _
      (one_up w.clock (clock-below w sh q l a)) (publish-chains w z q)
      (publish-index w z sh q a (le-leb phase_installed _ k)) (publish-held k) (rows_long w z q) (buckets-long w z q) (publish-told w z sh q a) refl refl

  published-place : SameAt w (standing w n)
      (in_published (publish_step w.tables.rows w.tables.versions w.tables.buckets w.tables.lists (extent_in w) (txn_at w (standing w n)))
      w.tables)
      (carried (view w) (asked (ask.Publish n)) (refusal (later-tests (view w) (asked (ask.Publish n)))))
  unfolding publish_step publish_of refusal
  published-place = rw (stamped-is w z (standing w n), freed-buckets w (standing w n) z (stamped w (standing w n)))
      (published-at (not (eqb (rank (phase_view (txn_at w (standing w n)).phase)) phase_ended)) refl)

-- changed buckets are stamped, postings moved, buckets and claims freed, and the record ends
pub publish-same : (w : Words) → Sized w → Good (view w) → (n : ℕ) → Same w (ask.Publish n)
publish-same w z g n = by_place w z (ask.Publish n) refl tt (λ l d e. published-place w z g n l (live_at w n d e))
