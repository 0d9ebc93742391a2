-- Side by side, an end: the one who ends takes its turn, does all that it did again, and leaves the same rows. Assumes nothing.
use mathlib.Core.Path.{◌≡◌, refl, sym, ap, ◌∙◌}
use mathlib.Core.Bool.{Bool, true, false, cond, ◌&&◌, true≢false}
use mathlib.Core.Logic.{◌≢◌, ⊎_elim}
use mathlib.Core.List.{List, [], ◌∷◌, ◌++◌, map, map-append}
use Prim.Native.Nat.{ℕ, ◌+◌, ◌≤◌, ◌<◌}
use native.Mathlib.Omega.{arith}
use native.Mathlib.Decide.{ℕ_discrete}
use lib.Dec.{eqb}
use lib.ListN.{length, length-append}
use borrow.Author.Tests.{ne_eqb}
use Rattle.base_limits.specs.Limits.{most_live, last_number}
use Rattle.base_lists.specs.Lists.{Among}
use Rattle.base_lists.proofs.TableLaws.{update_same}
use Rattle.base_lists.proofs.ListLaws.{among-last, pick-which}
use Rattle.model.specs.Store.{Sizes, Ended, Txn, Store, fresh, rank, phase_installed, phase_ended}
use Rattle.model.specs.Seeing.{version_of, key_at, last_write, pending, written_key, Live, snapshot_now}
use Rattle.model.specs.Steps.{with_phase, becomes, pending_rows, old_key, version_rows, written_payload}
use Rattle.model.specs.Contents.{Content, content, content_of, live_row}
use Rattle.model.specs.Refusals.{end}
use Rattle.model.specs.Machine.{at, step, run}
use Rattle.model.specs.Holding.{Writes}
use Rattle.model.specs.Given.{number}
use Rattle.model.proofs.Move.{Move, did-end, untouched}
use Rattle.model.proofs.Numbers.{in-place}
use Rattle.model.proofs.SeeingLaws.{which-pendingRows}
use Rattle.model.proofs.Made.{versions_over, versions-old, versions-same}
use Rattle.model.proofs.Sums.{sum-has}
use Rattle.model.proofs.Good.{Good, good-move}
use Rattle.model.proofs.Refused.{end-0}
use Rattle.model.proofs.LiveRows.{key-before-end, live-others, live_own}
use Rattle.model_in_turn.specs.Done.{Entry, entry_of, entries}
use Rattle.model_in_turn.specs.InTurn.{end_order, done_by, as_number, whole_of, in_turn, one_by_one, steps_in}
use Rattle.model_in_turn.proofs.ByItself.{content_key, key-content, shown_in, Local, Played, played-switch}
use Rattle.model_in_turn.proofs.Alone.{quiet-head}
use Rattle.model_in_turn.proofs.Entries.{mine-more, others_same, order-more, turn-same, turn_more, played-again}
use Rattle.model_in_turn.proofs.Whole.{entries-append, VersionsFit, Turned, turned}
use Rattle.model_in_turn.proofs.Following.{Followed, follow-others}
use Rattle.model_in_turn.proofs.OwnSteps.{own-end}
use Rattle.model_in_turn.proofs.Counting.{waiting, running, Counts, count-installed, live-count, ends}
use Rattle.model_in_turn.proofs.Beside.{renamed, gone-move, serially, Beside, SideBySide}
use Rattle.model.proofs.Moving.{step_move, run-append}
use Rattle.model.proofs.Tests.{lives-number}

-- over the same sizes by another name
resized : (a b : Sizes) (m : ℕ → Content) (n : ℕ) (es : List Entry) (x : Local) → a ≡ b → Played a m n es x → Played b m n es x
resized a b m n es x e d = rw e at d

module _ (z : Sizes) (c₀ : ℕ) where
  -- end: the one who ends takes its turn
  module _ (s : Store) (es : List Entry) (h : SideBySide z c₀ s es) (t : ℕ) (ok : number s (end t) ≡ 0) where
    -- its place, its entry, and the entries with that
    abbrev b : ℕ
    b = at s t

    abbrev e : Entry
    e = entry_of s (end t)

    abbrev es' : List Entry
    es' = es ++ (e ∷ [])

    number-b : (s.txns b).number ≡ t
    number-b = lives-number s t ((end-0 s t).0 ok).1

    live-b : Live (s.txns b)
    live-b = omega (arith, number-b, ((end-0 s t).0 ok).1.3)

    fifth : rank (s.txns b).phase ≡ phase_installed
    fifth = ((end-0 s t).0 ok).2

    followed : (x : Local) × Followed s b t (done_by t es) x
    followed = renamed s b es (s.txns b).number t number-b (h.follow b live-b (omega (arith, fifth)))

    -- all that it did, by itself over the rows as they are before its end
    own : (y : Local) × Played s.sizes (live_row s) t (done_by t es ++ (e ∷ [])) y × (y.phase ≡ Ended) × (y.writes ≡ (s.txns b).writes)
        × ((step s (end t)).store ≡ becomes s b Ended) × (rank (s.txns b).phase ≡ phase_installed)
    own = own-end s h.good b t (done_by t es) followed.0 followed.1.0 followed.1.1 ok

    good' : Good (becomes s b Ended)
    good' = rw own.4 at (good-move s _ h.good (step_move s (end t)))

    order_is : end_order es' ≡ end_order es ++ (t ∷ [])
    order_is = order-more es e

    script-is : done_by t es' ≡ done_by t es ++ (e ∷ [])
    script-is = mine-more t es e refl refl

    -- it was not among the earlier ones
    not_yet : (n : ℕ) → Among n (end_order es) → t ≢ n
    not_yet n o c = omega (arith, fifth, (h.gone n o).1 b live-b (number-b ∙ c))

    -- the turn so far, and the turn with it
    abbrev S : Store
    S = serially z c₀ es

    turn_is : one_by_one c₀ es' ≡ one_by_one c₀ es ++ whole_of S.clock t es'
    turn_is = ap (λ l. in_turn c₀ l es') order_is
        ∙ (turn_more c₀ (end_order es) t es'
        ∙ (ap (λ l. l ++ whole_of (c₀ + (length (end_order es) + length (end_order es))) t es')
        (turn-same c₀ (end_order es) es' es (λ n o. others_same n es e (rw (ne_eqb t n (not_yet n o)) refl)))
        ∙ ap (λ k. one_by_one c₀ es ++ whole_of k t es') (sym h.beside.clock-is)))

    -- over the turn's rows it does the same, under its new number
    again : Played S.sizes (live_row S) S.clock (map (as_number S.clock) (done_by t es')) own.0
    again = resized s.sizes S.sizes (live_row S) S.clock (map (as_number S.clock) (done_by t es')) own.0 (sym h.beside.sizes-are)
        (rw script-is (played-again s.sizes (live_row S) t S.clock _ own.0
        (played-switch s.sizes (live_row s) (live_row S) t _ own.0 (λ q o r u p. let c = h.beside.rows_are r u in ((λ d. c), (λ d. c))) own.1)))

    count-b : Counts s.sizes s.index.posted (s.txns b) (length (versions_over s.sizes s.index.posted (s.txns b).writes)) 1 0
    count-b = count-installed s.sizes s.index.posted (s.txns b) live-b fifth

    -- there are numbers left for it, and versions
    numbers-left : S.clock + 2 ≤ last_number
    numbers-left = omega (
      arith,
      h.beside.numbers,
      h.good.room.numbers-left,
      live-count s.txns,
      sum-has running s.txns b most_live (in-place s.clock s.txns h.good.numbers b live-b),
      count-b.runs,
    )

    -- its writes get in turn as many versions as they got
    old-key : (r : ℕ) → Writes s.sizes (s.txns b) r → old_key S.chains r ≡ s.index.posted r
    unfolding content_of pending_rows
    old-key r w =
        let u = (pick-which (pending (s.txns b).writes) 0 s.sizes.rows r w).1 in
        sym (key-content (old_key S.chains r) _)
        ∙ (ap content_key (sym (quiet-head S h.beside.quiet r) ∙ h.beside.rows_are r (omega (arith, u)))
        ∙ (key-content (key_at s.chains (version_of s.chains (snapshot_now s) r)) _ ∙ key-before-end s b h.good live-b fifth r w))

    versions-are : version_rows S.sizes S.chains own.0.writes ≡ versions_over s.sizes s.index.posted (s.txns b).writes
    versions-are = ap (λ w. version_rows w S.chains own.0.writes) h.beside.sizes-are
        ∙ (ap (version_rows s.sizes S.chains) own.3
        ∙ (versions-old s.sizes S.chains (s.txns b).writes ∙ versions-same s.sizes s.index.posted (old_key S.chains) (s.txns b) old-key))

    versions-left : VersionsFit S own.0.writes
    versions-left = omega (
      arith,
      ap length versions-are,
      h.beside.used-is,
      ap (λ w. w.versions) h.beside.sizes-are,
      h.good.room.versions-left,
      sum-has (waiting s.sizes s.index.posted) s.txns b most_live (in-place s.clock s.txns h.good.numbers b live-b),
      count-b.waits,
    )

    took : Turned S h.beside.quiet numbers-left (map (as_number S.clock) (done_by t es')) own.0
    took = turned S h.beside.quiet numbers-left (map (as_number S.clock) (done_by t es')) own.0 again own.2 versions-left

    serial-is : serially z c₀ es' ≡ run S (steps_in (whole_of S.clock t es'))
    serial-is = ap (λ l. run (fresh z c₀) (steps_in l)) turn_is
        ∙ (ap (run (fresh z c₀)) (map-append (λ (d : Entry). d.what) (one_by_one c₀ es) (whole_of S.clock t es'))
        ∙ run-append (fresh z c₀) (steps_in (one_by_one c₀ es)) (steps_in (whole_of S.clock t es')))

    rows-after : (r : ℕ) → r < s.sizes.rows → shown_in (live_row S) own.0.writes r ≡ live_row (becomes s b Ended) r
    unfolding shown_in pending_rows
    rows-after r u = rw own.3 (go (pending (s.txns b).writes r) refl)
      where
        go : (c : Bool) → pending (s.txns b).writes r ≡ c
            → cond c (content (written_key (last_write (s.txns b).writes r)) (written_payload (last_write (s.txns b).writes r))) (live_row S r)
            ≡ live_row (becomes s b Ended) r
        go true d = sym (live_own s b h.good good' live-b fifth r (which-pendingRows s.sizes (s.txns b).writes r u d))
        go false d = h.beside.rows_are r u
            ∙ sym (live-others s b h.good good' live-b fifth r
            (λ w. true≢false (sym (pick-which (pending (s.txns b).writes) 0 s.sizes.rows r w).2 ∙ d)))

    turn-beside : Beside z c₀ (becomes s b Ended) es'
    turn-beside = let k = ends s b h.good live-b fifth in record {
      same = rw turn_is (ap (entries (fresh z c₀)) (map-append (λ (d : Entry). d.what) (one_by_one c₀ es) (whole_of S.clock t es'))
          ∙ (entries-append (fresh z c₀) (steps_in (one_by_one c₀ es)) (steps_in (whole_of S.clock t es'))
          ∙ (ap (λ l. l ++ entries S (steps_in (whole_of S.clock t es'))) h.beside.same ∙ ap (λ l. one_by_one c₀ es ++ l) took.same)));
      quiet = rw serial-is took.after.quiet;
      sizes-are = rw serial-is (took.after.sizes-are ∙ h.beside.sizes-are);
      clock-is = rw serial-is (took.after.clock-is ∙ omega (arith, h.beside.clock-is, ap length order_is, length-append (end_order es) (t ∷ [])));
      rows_are = λ r u. rw serial-is (took.after.rows_are r (rw h.beside.sizes-are u) ∙ rows-after r u);
      used-is = rw serial-is (omega (arith, took.after.used-is, ap length versions-are, h.beside.used-is, k.wait-is));
      numbers = rw serial-is (omega (arith, took.after.clock-is, h.beside.numbers, k.runs-are, k.over-are));
    }

    pub beside_end : SideBySide z c₀ (step s (end t)).store es'
    beside_end = rw own.4 (record {
      good = good';
      follow = follow';
      older = λ d o. ⊎_elim (λ c. h.older d c) (λ c. rw c (omega (arith, number-b, h.good.numbers.below b))) (among-last d e es o);
      gone = gone';
      beside = turn-beside;
    })
      where
        m : Move s b (becomes s b Ended)
        m = did-end b live-b fifth

        follow' : (i : ℕ) → Live ((becomes s b Ended).txns i) → rank ((becomes s b Ended).txns i).phase < phase_ended
            → (y : Local) × Followed (becomes s b Ended) i ((becomes s b Ended).txns i).number (done_by ((becomes s b Ended).txns i).number es') y
        follow' i l a = elim (ℕ_discrete i b) [
          | yes d ↦ absurd (omega (
            arith,
            a,
            ap (λ j. rank ((becomes s b Ended).txns j).phase) d,
            ap (λ (v : Txn). rank v.phase) (update_same s.txns b (with_phase (s.txns b) Ended)),
          ))
          | no d ↦
              let same = untouched s (becomes s b Ended) m i d in
              let l₀ : Live (s.txns i) = rw same at l in
              let w = h.follow i l₀ (rw same at a) in
              let f = follow-others s (becomes s b Ended) i (s.txns i).number (done_by (s.txns i).number es) w.0 h.good good' m d w.1 in
              let free : eqb t (s.txns i).number && true ≡ false =
              rw (ne_eqb t (s.txns i).number (λ c. d (h.good.numbers.distinct i b l₀ (sym c ∙ sym number-b)))) refl in
              (w.0, rw (same, others_same (s.txns i).number es e free) f)
        ]

        gone' : (n : ℕ) → Among n (end_order es')
            → (n < s.clock) × ((i : ℕ) → Live ((becomes s b Ended).txns i) → ((becomes s b Ended).txns i).number ≡ n
            → rank ((becomes s b Ended).txns i).phase ≡ phase_ended)
        gone' n o = ⊎_elim (λ c. gone-move s (becomes s b Ended) m n (h.gone n c))
            (λ c. (omega (arith, c, number-b, h.good.numbers.below b), λ i l p. new i l (p ∙ c))) (among-last n t (end_order es) (rw order_is at o))
          where
            new : (i : ℕ) → Live ((becomes s b Ended).txns i) → ((becomes s b Ended).txns i).number ≡ t → rank ((becomes s b Ended).txns i).phase ≡ phase_ended
            new i l p = elim (ℕ_discrete i b) [
              | yes d ↦ rw d (ap (λ (v : Txn). rank v.phase) (update_same s.txns b (with_phase (s.txns b) Ended)))
              | no d ↦ let same = untouched s (becomes s b Ended) m i d in
                  absurd (d (h.good.numbers.distinct i b (rw same at l) (rw same at p ∙ sym number-b)))
            ]
