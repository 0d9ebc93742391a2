-- Install over the words is the model's: one row's new version, and one row after another.
-- Assumes nothing.
use Prim.Native.Nat.{ℕ, zero, suc, ◌+◌, ◌*◌, ◌≤◌, ◌<◌}
use mathlib.Core.Path.{◌≡◌, refl, sym, ap, subst, ◌∙◌}
use mathlib.Core.Bool.{Bool, true, false, cond, not}
use mathlib.Core.Logic.{◌≢◌, inl, inr}
use mathlib.Core.Option.{Option, none, some}
use mathlib.Core.List.{List, [], ◌∷◌}
use native.Mathlib.Decide.{ℕ_discrete}
use native.Mathlib.Omega.{arith}
use lib.Dec.{eqb}
use lib.ListN.{length}
use borrow.Author.Tests.{eqb-true, not-false}
use Rattle.base_limits.specs.Limits.{most_live, most_writes, most_versions}
use Rattle.base_numbers.specs.Numbers.{one_more}
use Rattle.base_numbers.proofs.Laws.{one_up}
use Rattle.base_lists.specs.Table.{update}
use Rattle.base_lists.proofs.TableLaws.{update-elim}
use Rattle.model.specs.Store as model
use Rattle.model.specs.Store.{rank, phase_prepared}
use Rattle.model.specs.Seeing.{last_write}
use Rattle.model.specs.Steps.{new_key, written_payload, push, push_all, version_rows}
use Rattle.model.specs.Refusals.{WrongPhase, reserved_by, reserved, refusal}
use Rattle.model.specs.Machine.{accepted, after_refusal, carried}
use Rattle.model.proofs.Made.{gets-writes}
use Rattle.model.proofs.Room.{reserves}
use Rattle.model.proofs.Ranges.{good-sized}
use Rattle.base_protocol.specs.declared.Step.TheVariants as ask
use Rattle.base_protocol.specs.declared.Answer.TheVariants as tell
use Rattle.base_protocol.specs.View.{asked, sizes_view, refusal_told}
use Rattle.table.specs.Fields.{row_words, version_words}
use Rattle.table.specs.Words.{field}
use Rattle.table.proofs.Laws.{field-length}
use Rattle.table.proofs.Parts.{part_field}
use Rattle.txn.specs.View.{phase_view, txn_view, writes_in, chains_view, index_view, held_view, rows_part, buckets_part}
use Rattle.txn.specs.Methods.{with_phase}
use Rattle.txn.specs.declared.Phase.TheVariants as phase
use Rattle.txn.specs.declared.Transaction.{Transaction}
use Rattle.finish_install.specs.Install as install
use Rattle.finish_install.specs.Install.{last_write_of, version_stored, pushed_row, pushed_rows, to_install, install_of}
use Rattle.step.specs.Steps.{in_installed}
use Rattle.step.specs.Words.{Words, view, txn_at, Sized}
use Rattle.step_bridge.proofs.Shaped.{Shaped}
use Rattle.step_bridge.proofs.Places.{standing, sized-at, live_at}
use Rattle.step_bridge.proofs.Placed.{txns-set, sized_set}
use Rattle.step_bridge.proofs.Same.{same_store, SameAt, Same, refused-same, later-tests}
use Rattle.step_bridge.proofs.SameLaws.{by_place}
use Rattle.step_bridge.proofs.Tabled.{part, part-update, part-other, InRange}
use Rattle.step_bridge.proofs.Telling.{Tells, tells-kept}
use Rattle.step_bridge.proofs.Writing.{sized-phase}
use Rattle.step_bridge.proofs.Needing.{headed, rows-most, writes-in, row_in, pending-row}
use Rattle.step_bridge.proofs.Distinct.{versions-front}
use Rattle.step_bridge.proofs.Installing.{last-key, last-payload, stored-xmin, stored-xmax, stored_next, stored-keys, stored-payload}

-- chains are their parts
same-chains : (c c' : model.Chains) → c.used ≡ c'.used → c.head ≡ c'.head → c.xmin ≡ c'.xmin → c.xmax ≡ c'.xmax → c.next ≡ c'.next
    → c.key ≡ c'.key → c.payload ≡ c'.payload → c ≡ c'
same-chains c c' a b d e f g h =
    parts c.used c'.used c.head c'.head c.xmin c'.xmin c.xmax c'.xmax c.next c'.next c.key c'.key c.payload
    c'.payload a b d e f g h
  where
    parts : (u u' : ℕ) (a a' b b' d d' e e' : ℕ → ℕ) (k k' : ℕ → Option ℕ) (f f' : ℕ → ℕ) → u ≡ u' → a ≡ a' → b ≡ b' → d ≡ d' → e ≡ e' → k ≡ k' → f ≡ f'
        → ◌≡◌ {A = model.Chains} (record { used = u; head = a; xmin = b; xmax = d; next = e; key = k; payload = f })
        (record { used = u'; head = a'; xmin = b'; xmax = d'; next = e'; key = k'; payload = f' })
    parts u u' a a' b b' d d' e e' k k' f f' p q r s t v w = rw (p, q, r, s, t, v, w)

-- the chains of the words as the model has them
abbrev pub chains_of : model.Sizes → install.Chains → model.Chains
chains_of z c = chains_view (part row_words z.rows c.rows) (part version_words (suc z.versions) c.versions) c.used

-- the tables are at least their sizes, the version limit is far below the last number, and no head is past the last used
pub record Fit (z : model.Sizes) (c : install.Chains) : Type 0 where
  pub rows : row_words * z.rows ≤ length c.rows
  pub versions : version_words * suc z.versions ≤ length c.versions
  pub heads : (r : ℕ) → (chains_of z c).head r ≤ c.used

-- lengths stay, and so do the other fields of the rows
module _ (xs : List ℕ) (t : Transaction) where
  pushed-rows-length : (c : install.Chains) (r : ℕ) → length (pushed_row c xs t r).rows ≡ length c.rows
  unfolding pushed_row
  pushed-rows-length c r = field-length row_words 0 c.rows r (one_more c.used)

  pushed-versions-length : (c : install.Chains) (r : ℕ) → length (pushed_row c xs t r).versions ≡ length c.versions
  unfolding pushed_row version_stored
  pushed-versions-length c r = simp field-length

  pub all-rows-length : (rs : List ℕ) (c : install.Chains) → length (pushed_rows c xs t rs).rows ≡ length c.rows
  unfolding pushed_rows
  all-rows-length [] c = refl
  all-rows-length (r ∷ rs) c = all-rows-length rs (pushed_row c xs t r) ∙ pushed-rows-length c r

  pub all-versions-length : (rs : List ℕ) (c : install.Chains) → length (pushed_rows c xs t rs).versions ≡ length c.versions
  unfolding pushed_rows
  all-versions-length [] c = refl
  all-versions-length (r ∷ rs) c = all-versions-length rs (pushed_row c xs t r) ∙ pushed-versions-length c r

  one-row-other : (m k : ℕ) → k < row_words → k ≢ 0 → (c : install.Chains) (r : ℕ)
      → field row_words k (part row_words m (pushed_row c xs t r).rows) ≡ field row_words k (part row_words m c.rows)
  unfolding pushed_row
  one-row-other m k h d c r = part-other row_words 0 m c.rows r (one_more c.used) k h (omega arith) d

  pub all-rows-other : (m k : ℕ) → k < row_words → k ≢ 0 → (rs : List ℕ) (c : install.Chains)
      → field row_words k (part row_words m (pushed_rows c xs t rs).rows) ≡ field row_words k (part row_words m c.rows)
  unfolding pushed_rows
  all-rows-other m k h d [] c = refl
  all-rows-other m k h d (r ∷ rs) c = all-rows-other m k h d rs (pushed_row c xs t r) ∙ one-row-other m k h d c r

-- what one has reserved is among what all have
pub reserved-has : (z : model.Sizes) (c : model.Chains) (ts : ℕ → model.Txn) (n i : ℕ) → i < n → reserved_by z c (ts i) ≤ reserved z c ts n
unfolding reserved
reserved-has z c ts zero i h = absurd (omega arith)
reserved-has z c ts (suc n) i h = elim (ℕ_discrete i n) [ yes e ↦ rw e (omega arith) | no d ↦ omega (arith, reserved-has z c ts n i (omega arith)) ]

module _ (z : model.Sizes) (small : z.versions ≤ most_versions) (xs : List ℕ) (t : Transaction) (few : t.writes_n ≤ most_writes) where
  -- one row
  push-view : (c : install.Chains) (r : ℕ) → r < z.rows → c.used < z.versions → Fit z c
      → chains_of z (pushed_row c xs t r)
      ≡ push t.number r (new_key (txn_view xs t) r) (written_payload (last_write (writes_in xs t) r)) (chains_of z c)
  unfolding pushed_row
  push-view c r hr hu f =
      let m = suc z.versions in
      let p = suc c.used in
      let h = (chains_of z c).head r in
      let x = last_write_of xs t.slot t.writes_n r in
      let hp : p < m = omega arith in
      let hh : h < m = omega (arith, f.heads r) in
      rw (one_up c.used (omega arith), ← part_field row_words 0 z.rows c.rows r (omega arith) hr)
      (same-chains _ _ refl
      (part-update row_words 0 z.rows c.rows r p (omega arith) hr f.rows)
      (stored-xmin m c.versions p t.number h x hp hh f.versions)
      (stored-xmax m c.versions p t.number h x hp hh f.versions)
      (stored_next m c.versions p t.number h x hp hh f.versions)
      (stored-keys m c.versions p t.number h x hp hh f.versions ∙ ap (λ (k : Option ℕ). update (chains_of z c).key p k) (last-key xs t few r))
      (stored-payload m c.versions p t.number h x hp hh f.versions ∙ ap (λ (k : ℕ). update (chains_of z c).payload p k) (last-payload xs t few r)))

  pub push-fit : (c : install.Chains) (r : ℕ) → r < z.rows → c.used < z.versions → Fit z c → Fit z (pushed_row c xs t r)
  push-fit c r hr hu f = let e = push-view c r hr hu f in record {
    rows = rw rows-length f.rows;
    versions = rw versions-length f.versions;
    heads = λ q. subst (λ (d : model.Chains). d.head q ≤ d.used) (sym e)
        (update-elim (λ y. y ≤ suc c.used) (chains_of z c).head r (suc c.used) q (λ d. omega arith) (λ d. omega (arith, f.heads q)));
  }
    where
      rows-length : length (pushed_row c xs t r).rows ≡ length c.rows
      rows-length = pushed-rows-length xs t c r

      versions-length : length (pushed_row c xs t r).versions ≡ length c.versions
      versions-length = pushed-versions-length xs t c r

  -- all rows, one after another
  pub pushed-view : (rs : List ℕ) (c : install.Chains) → InRange z.rows rs → c.used + length rs ≤ z.versions → Fit z c
      → chains_of z (pushed_rows c xs t rs) ≡ push_all (txn_view xs t) rs (chains_of z c)
  unfolding pushed_rows push_all
  pushed-view [] c h u f = refl
  pushed-view (r ∷ rs) c h u f =
      let hr = h r (inl refl) in
      let e = push-view c r hr (omega arith) f in
      pushed-view rs (pushed_row c xs t r) (λ i m. h i (inr m)) (omega (arith, ap (λ (d : model.Chains). d.used) e))
      (push-fit c r hr (omega arith) f)
      ∙ ap (λ (d : model.Chains). push_all (txn_view xs t) rs d) e

-- the chains that a step finds
abbrev pub chains_in : Words → install.Chains
chains_in w = record { rows = w.tables.rows; versions = w.tables.versions; used = w.used }

-- all that install leaves, by its rows
abbrev after-rows : Words → ℕ → install.Chains
after-rows w p = pushed_rows (chains_in w) w.tables.lists (txn_at w p) (version_rows (view w).sizes (view w).chains ((view w).txns p).writes)

module _ (w : Words) (z : Sized w) (g : Shaped w) (n : ℕ) (l : standing w n < most_live) (a : 1 ≤ (txn_at w (standing w n)).number) where
  install-chains : rank (phase_view (txn_at w (standing w n)).phase) ≡ phase_prepared
      → chains_of (view w).sizes (after-rows w (standing w n))
      ≡ push_all ((view w).txns (standing w n)) (version_rows (view w).sizes (view w).chains ((view w).txns (standing w n)).writes) (view w).chains
  install-chains r =
      let q = standing w n in
      let ps = version_rows (view w).sizes (view w).chains ((view w).txns q).writes in
      pushed-view (view w).sizes (good-sized (view w).sizes g.sizes).versions-most w.tables.lists (txn_at w q) (sized-at w z q).writes ps (chains_in w)
      (λ i m. row_in w z g q a i (pending-row w z g q i (gets-writes (view w).sizes (view w).chains ((view w).txns q) i m)))
      (omega (
        arith,
        g.versions-left,
        reserved-has (view w).sizes (view w).chains (view w).txns most_live q l,
        reserves (view w).sizes (view w).chains ((view w).txns q) a r,
      ))
      (record { rows = z.rows; versions = z.versions; heads = g.heads-in })

  install-index : index_view (rows_part (sizes_view w.sizes) (after-rows w (standing w n)).rows)
      (buckets_part (sizes_view w.sizes) w.tables.buckets) ≡ (view w).index
  install-index =
      let t = txn_at w (standing w n) in
      let ps = version_rows (view w).sizes (view w).chains ((view w).txns (standing w n)).writes in
      rw (
        all-rows-other w.tables.lists t w.sizes.rows 2 (omega arith) (omega arith) ps (chains_in w),
        all-rows-other w.tables.lists t w.sizes.rows 3 (omega arith) (omega arith) ps (chains_in w),
      )

  install-held : held_view (rows_part (sizes_view w.sizes) (after-rows w (standing w n)).rows) (buckets_part (sizes_view w.sizes) w.tables.buckets)
      ≡ (view w).held
  install-held =
      let t = txn_at w (standing w n) in
      rw (all-rows-other w.tables.lists t w.sizes.rows 1 (omega arith) (omega arith)
      (version_rows (view w).sizes (view w).chains ((view w).txns (standing w n)).writes) (chains_in w))

  -- the lists tell as before
  install-told : Tells w (after-rows w (standing w n)).rows
  install-told =
      let t = txn_at w (standing w n) in
      let ps = version_rows (view w).sizes (view w).chains ((view w).txns (standing w n)).writes in
      tells-kept _ _ w.sizes.rows
      (λ k lo hi. all-rows-other w.tables.lists t w.sizes.rows k hi (λ e. omega arith) ps (chains_in w)) z.told

  installed-at : (b : Bool) → not (eqb (rank (phase_view (txn_at w (standing w n)).phase)) phase_prepared) ≡ b
      → SameAt w (standing w n)
      (in_installed
      (cond b (record {
        reply = record {
          answer = tell.Refused (refusal_told WrongPhase);
          txn = txn_at w
              (standing w n);
          used = w.used;
        };
        rows = w.tables.rows;
        versions = w.tables.versions;
      })
      (install.installed (txn_at w (standing w n)) (after-rows w (standing w n))))
      w.clock w.tables)
      (carried (view w) (asked (ask.Install n)) (cond b (some WrongPhase) none))
  unfolding carried accepted after_refusal
  installed-at true e = refused-same w z (standing w n) WrongPhase
  installed-at false e =
      let q = standing w n in
      let t = txn_at w q in
      let ps = version_rows (view w).sizes (view w).chains ((view w).txns q).writes in
      let r : rank (phase_view t.phase)
      ≡ phase_prepared = eqb-true (rank (phase_view t.phase)) phase_prepared (not-false (eqb (rank (phase_view t.phase)) phase_prepared) e) in
      record {
        store = same_store _ _ refl refl (install-chains r) install-index install-held
            (txns-set w z q l w.tables.lists (with_phase t phase.Installed) (λ j d. refl));
        answer = refl;
        lent = refl;
        sized = sized_set w z q l _ _ _ _ (sized-phase q t phase.Installed (sized-at w z q))
            (all-rows-length w.tables.lists t ps (chains_in w))
            (all-versions-length w.tables.lists t ps (chains_in w)) refl refl install-told;
      }

  installed-place : SameAt w (standing w n) (in_installed (install_of (chains_in w) w.tables.lists (txn_at w (standing w n))) w.clock w.tables)
      (carried (view w) (asked (ask.Install n)) (refusal (later-tests (view w) (asked (ask.Install n)))))
  unfolding install_of to_install refusal
  installed-place =
      let q = standing w n in
      rw (versions-front (view w).sizes w.tables.rows w.tables.versions w.used (headed w z g) (rows-most w z g) w.tables.lists (txn_at w q)
      (writes-in w z g q a))
      (installed-at (not (eqb (rank (phase_view (txn_at w q).phase)) phase_prepared)) refl)

-- each distinct pending row that gets a version has it
pub install-same : (w : Words) → Sized w → Shaped w → (n : ℕ) → Same w (ask.Install n)
install-same w z g n = by_place w z (ask.Install n) refl tt (λ l d e. installed-place w z g n l (live_at w n d e))
