-- The protocol and the events of a run stand beside its store: each action was allowed, and who is active, ended, published and observed is what the store
-- says.
-- Assumes nothing.
use Prim.Native.Nat.{ℕ, suc, ◌≤◌, ◌<◌}
use mathlib.Core.Path.{◌≡◌, refl, sym, ap, fun_ext, ◌∙◌}
use mathlib.Core.Bool.{Bool, true, false, cond, true≢false}
use mathlib.Core.Logic.{◌≢◌, ◌⊎◌, inl, inr, ⊎_elim}
use mathlib.Core.Option.{Option, none, some}
use mathlib.Core.List.{List, [], ◌∷◌}
use native.Mathlib.Omega.{arith}
use native.Mathlib.Decide.{ℕ_discrete, dec_lt}
use lib.Dec.{eqb}
use lib.ListN.{length}
use borrow.Author.Tests.{eqb-true, eqb-false}
use Rattle.base_limits.specs.Limits.{most_live, last_number}
use Rattle.base_lists.specs.Lists.{member, pick, Among}
use Rattle.base_lists.specs.Table.{update}
use Rattle.base_lists.proofs.TableLaws.{update_same, update_other, update-elim}
use Rattle.base_lists.proofs.ListLaws.{same_test, is_false, member-among, among-member, which-pick, first-free}
use Rattle.model.specs.Store.{Sizes, Txn, Store, no_txn, fresh, rank, phase_ended}
use Rattle.model.specs.Seeing.{live, active_numbers, Live}
use Rattle.model.specs.Steps.{made_rows, new_txn}
use Rattle.model.specs.Upstream.{Event}
use Rattle.model.specs.History.{event_of, add_events, step_events, history_over, history}
use Rattle.model.specs.Refusals.{Step, begin, capture, collect, rows, write, prepare, install, end, publish, validate, abort, place_of, txn_of, live_count}
use Rattle.model.specs.Machine.{at, actor, accepted, step, run, can_open}
use Rattle.model.specs.Given.{number, Ready}
use Rattle.model.proofs.Ruled.{Publishes, may-publish, quiet, ruled}
use Rattle.model.proofs.Move.{live_test}
use Rattle.model.proofs.Numbers.{active-which, which-active, in-place}
use Rattle.model.proofs.Good.{Good, good-run, opened-good}
use Rattle.model.proofs.Refused.{begin-0, capture-0, collect-0, rows-0, prepare-0, install-0, end-0, publish-0, abort-0}
use Rattle.model.proofs.Outcomes.{refused-store, done-does}
use Rattle.model_upstream.specs.Protocol.{Protocol, Action, Start, End, Snapshot, Publish, after_action, protocol_after, ProtocolHistory, ProtocolValid}
use Rattle.model_upstream.specs.Protocol.{actions_of, step_actions, actions_over, actions}
use Rattle.model_upstream.proofs.Protocols.{none-some, protocol-valid}
use Rattle.model.proofs.Tests.{place-number, lives-number}

-- what the protocol says of a clock, the transactions and the events so far
pub record Follows (clock : ℕ) (t : ℕ → Txn) (es : List Event) (p : Protocol) : Type 0 where
  pub clock-is : p.clock ≡ clock
  pub runs : (j : ℕ) → Live (t j) → rank (t j).phase < phase_ended → p.active (t j).number ≡ true
  pub who-runs : (n : ℕ) → p.active n ≡ true → (j : ℕ) × Live (t j) × (rank (t j).phase < phase_ended) × (n ≡ (t j).number)
  pub has-ended : (j : ℕ) → Live (t j) → phase_ended ≤ rank (t j).phase → p.ended (t j).number ≡ true
  pub unpublished : (j : ℕ) → Live (t j) → p.published (t j).number ≡ none
  pub observes : (j : ℕ) → Live (t j) → p.observed (t j).number ≡ some (λ n. member n (t j).snapshot.active)
  pub active-pos : (j : ℕ) → Live (t j) → (n : ℕ) → Among n (t j).snapshot.active → 1 ≤ n
  pub stamped : (e : Event) → Among e es → p.published e.creator ≡ some e.stamp

-- nobody starts, ends or goes
record Calm (t t' : ℕ → Txn) : Type 0 where
  number_same : (j : ℕ) → (t' j).number ≡ (t j).number
  snapshot-same : (j : ℕ) → (t' j).snapshot ≡ (t j).snapshot
  late : (j : ℕ) → phase_ended ≤ rank (t j).phase → phase_ended ≤ rank (t' j).phase
  early : (j : ℕ) → rank (t j).phase < phase_ended → rank (t' j).phase < phase_ended

calm_set : (t : ℕ → Txn) (i : ℕ) (x : Txn) → x.number ≡ (t i).number → x.snapshot ≡ (t i).snapshot
    → (phase_ended ≤ rank (t i).phase → phase_ended ≤ rank x.phase) → (rank (t i).phase < phase_ended → rank x.phase < phase_ended) → Calm t (update t i x)
calm_set t i x n v late early = record {
  number_same = λ j. update-elim (λ y. y.number ≡ (t j).number) t i x j (λ e. rw e n) (λ d. refl);
  snapshot-same = λ j. update-elim (λ y. y.snapshot ≡ (t j).snapshot) t i x j (λ e. rw e v) (λ d. refl);
  late = λ j. update-elim (λ y. phase_ended ≤ rank (t j).phase → phase_ended ≤ rank y.phase) t i x j (λ e h. late (rw e at h)) (λ d h. h);
  early = λ j. update-elim (λ y. rank (t j).phase < phase_ended → rank y.phase < phase_ended) t i x j (λ e h. early (rw e at h)) (λ d h. h);
}

follows-calm : (clock : ℕ) (t t' : ℕ → Txn) (es : List Event) (p : Protocol) → Calm t t' → Follows clock t es p → Follows clock t' es p
follows-calm clock t t' es p c f = record {
  clock-is = f.clock-is;
  runs = λ j l r. rw (c.number_same j) (f.runs j (alive j l) (before j r));
  who-runs = λ n a. let w = f.who-runs n a in (w.0, omega (arith, c.number_same w.0, w.1), c.early w.0 w.2, w.3 ∙ sym (c.number_same w.0));
  has-ended = λ j l r. rw (c.number_same j) (f.has-ended j (alive j l) (after j r));
  unpublished = λ j l. rw (c.number_same j) (f.unpublished j (alive j l));
  observes = λ j l. rw (c.number_same j, c.snapshot-same j) (f.observes j (alive j l));
  active-pos = λ j l. rw (c.snapshot-same j) (f.active-pos j (alive j l));
  stamped = f.stamped;
}
  where
    alive : (j : ℕ) → Live (t' j) → Live (t j)
    alive j l = omega (arith, c.number_same j)

    before : (j : ℕ) → rank (t' j).phase < phase_ended → rank (t j).phase < phase_ended
    before j r = elim (dec_lt (rank (t j).phase) phase_ended) [ yes l ↦ l | no n ↦ absurd (omega (arith, n, c.late j (omega (arith, n)))) ]

    after : (j : ℕ) → phase_ended ≤ rank (t' j).phase → phase_ended ≤ rank (t j).phase
    after j r = elim (dec_lt (rank (t j).phase) phase_ended) [ yes l ↦ absurd (omega (arith, c.early j l)) | no n ↦ omega (arith, n) ]

-- the events that a publish adds carry the number and the clock
added-which : (s : Store) (x : Txn) (rs : List ℕ) (older : List Event) (e : Event) → Among e (add_events s x rs older)
    → Among e older ⊎ ((e.creator ≡ x.number) × (e.stamp ≡ s.clock))
unfolding add_events
added-which s x [] older e m = inl m
added-which s x (r ∷ rs) older e m =
    ⊎_elim (⊎_elim (λ f. inr (ap (λ w. w.creator) f, ap (λ w. w.stamp) f)) inl) inr (added-which s x rs (event_of s x r ∷ older) e m)

module _ (s : Store) (es : List Event) (p : Protocol) (g : Good s) (f : Follows s.clock s.txns es p) (v : ProtocolValid p) where
  -- a number from the clock on is new
  new-unpublished : p.published s.clock ≡ none
  new-unpublished = go (p.published s.clock) refl
    where
      go : (o : Option ℕ) → p.published s.clock ≡ o → o ≡ none
      go none e = refl
      go (some stamp) e = absurd (omega (arith, (v.ended-below s.clock (v.published-ended s.clock stamp e).0).1, f.clock-is))

  -- the protocol's active ones are those that begin finds
  active-same : (n : ℕ) → update (update p.active s.clock true) s.clock false n ≡ member n (active_numbers s.txns)
  active-same n = elim (ℕ_discrete n s.clock) [
    | yes e ↦ rw (e, update_same (update p.active s.clock true) s.clock false)
        (sym (is_false _ (λ t. let w = active-which s.txns s.clock (member-among _ _ t) in omega (arith, g.numbers.below w.0, w.4))))
    | no d ↦ rw (update_other (update p.active s.clock true) s.clock false n d, update_other p.active s.clock true n d) (same_test _ _
        (λ t. let w = f.who-runs n t in
        among-member n _ (rw w.3 (which-active s.txns w.0 (in-place s.clock s.txns g.numbers w.0 w.1) w.1 w.2)))
        (λ t. let w = active-which s.txns n (member-among n _ t) in rw w.4 (f.runs w.0 w.2 w.3)))
  ]

  follows-begun : (i : ℕ) → (s.txns i).number ≡ 0
      → Follows (suc s.clock) (update s.txns i (new_txn s)) es (after_action (after_action p (Start s.clock)) (Snapshot s.clock))
  follows-begun i z = record {
    clock-is = refl;
    runs = λ j. update-elim (λ y. Live y → rank y.phase < phase_ended → update p.active s.clock true y.number ≡ true) s.txns i (new_txn s) j
        (λ e l r. update_same p.active s.clock true)
        (λ d l r. update-elim (λ b. b ≡ true) p.active s.clock true _ (λ e. refl) (λ e. f.runs j l r));
    who-runs = λ n. update-elim (λ b. b ≡ true → (j : ℕ) × Live (update s.txns i (new_txn s) j) × (rank (update s.txns i (new_txn s) j).phase < phase_ended)
        × (n ≡ (update s.txns i (new_txn s) j).number)) p.active s.clock true n
        (λ e t. let o = update_same s.txns i (new_txn s) in (i, rw o g.numbers.clock-pos, rw o (omega arith), rw o e))
        (λ d t. let w = f.who-runs n t in let o = update_other s.txns i (new_txn s) w.0 (λ e. omega (arith, rw e at w.1)) in
        (w.0, rw o w.1, rw o w.2, rw o w.3));
    has-ended = λ j. update-elim (λ y. Live y → phase_ended ≤ rank y.phase → p.ended y.number ≡ true) s.txns i (new_txn s) j
        (λ e l r. absurd (omega arith)) (λ d. f.has-ended j);
    unpublished = λ j. update-elim (λ y. Live y → p.published y.number ≡ none) s.txns i (new_txn s) j (λ e l. new-unpublished) (λ d. f.unpublished j);
    observes = λ j. update-elim
        (λ y. Live y → update p.observed s.clock (some (update (update p.active s.clock true) s.clock false)) y.number
        ≡ some (λ n. member n y.snapshot.active)) s.txns i (new_txn s) j
        (λ e l. update_same p.observed s.clock _ ∙ ap some (fun_ext active-same))
        (λ d l. update_other p.observed s.clock _ (s.txns j).number (λ e. omega (arith, g.numbers.below j)) ∙ f.observes j l);
    active-pos = λ j. update-elim (λ y. Live y → (n : ℕ) → Among n y.snapshot.active → 1 ≤ n) s.txns i (new_txn s) j (λ e l n m. let w =
        active-which s.txns n m in omega (arith, w.2, w.4)) (λ d. f.active-pos j);
    stamped = f.stamped;
  }

  module _ (i : ℕ) (l : Live (s.txns i)) where
    -- another live transaction has another number
    others : (j : ℕ) → j ≢ i → (s.txns j).number ≢ (s.txns i).number
    others j d e = d (g.numbers.distinct j i (omega arith) e)

    -- who runs after the number has stopped is another
    still-runs : (x : Txn) (n : ℕ) → n ≢ (s.txns i).number → p.active n ≡ true
        → (j : ℕ) × Live (update s.txns i x j) × (rank (update s.txns i x j).phase < phase_ended) × (n ≡ (update s.txns i x j).number)
    still-runs x n d t =
        let w = f.who-runs n t in
        let o = update_other s.txns i x w.0 (λ e. d (w.3 ∙ ap (λ k. (s.txns k).number) e)) in
        (w.0, rw o w.1, rw o w.2, rw o w.3)

    -- the number stops being active: the record goes on Ended, or goes
    follows-ended : (x : Txn) → (Live x → (x.number ≡ (s.txns i).number) × (x.snapshot ≡ (s.txns i).snapshot) × (phase_ended ≤ rank x.phase))
        → Follows s.clock (update s.txns i x) es (after_action p (End (s.txns i).number))
    follows-ended x h = record {
      clock-is = f.clock-is;
      runs = λ j. update-elim (λ y. Live y → rank y.phase < phase_ended → update p.active (s.txns i).number false y.number ≡ true) s.txns i x j
          (λ e a r. absurd (omega (arith, (h a).2)))
          (λ d a r. update_other p.active _ false (s.txns j).number (others j d) ∙ f.runs j a r);
      who-runs = λ n. update-elim (λ b. b ≡ true → (j : ℕ) × Live (update s.txns i x j) × (rank (update s.txns i x j).phase < phase_ended) ×
          (n ≡ (update s.txns i x j).number)) p.active (s.txns i).number false n
          (λ e t. absurd (true≢false (sym t)))
          (still-runs x n);
      has-ended = λ j. update-elim (λ y. Live y → phase_ended ≤ rank y.phase → update p.ended (s.txns i).number true y.number ≡ true) s.txns i x j
          (λ e a r. rw (h a).0 (update_same p.ended _ true))
          (λ d a r. update-elim (λ b. b ≡ true) p.ended (s.txns i).number true (s.txns j).number (λ e. refl) (λ e. f.has-ended j a r));
      unpublished = λ j. update-elim (λ y. Live y → p.published y.number ≡ none) s.txns i x j (λ e a. rw (h a).0 (f.unpublished i l))
          (λ d. f.unpublished j);
      observes = λ j. update-elim (λ y. Live y → p.observed y.number ≡ some (λ n. member n y.snapshot.active)) s.txns i x j
          (λ e a. rw ((h a).0, (h a).1) (f.observes i l)) (λ d. f.observes j);
      active-pos = λ j. update-elim (λ y. Live y → (n : ℕ) → Among n y.snapshot.active → 1 ≤ n) s.txns i x j
          (λ e a. rw (h a).1 (f.active-pos i l)) (λ d. f.active-pos j);
      stamped = f.stamped;
    }

    follows-published : rank (s.txns i).phase ≡ phase_ended
        → Follows (suc s.clock) (update s.txns i no_txn)
        (add_events s (s.txns i) (made_rows s.sizes s.chains (s.txns i).number (s.txns i).writes) es)
        (after_action p (Publish (s.txns i).number s.clock))
    follows-published r = record {
      clock-is = refl;
      runs = λ j. update-elim (λ y. Live y → rank y.phase < phase_ended → p.active y.number ≡ true) s.txns i no_txn j (λ e a. absurd (omega arith))
          (λ d. f.runs j);
      who-runs = λ n t. still-runs no_txn n (λ e. true≢false (sym (f.has-ended i l (omega arith)) ∙ rw e at (v.disjoint n t))) t;
      has-ended = λ j. update-elim (λ y. Live y → phase_ended ≤ rank y.phase → p.ended y.number ≡ true) s.txns i no_txn j (λ e a. absurd (omega arith))
          (λ d. f.has-ended j);
      unpublished = λ j. update-elim (λ y. Live y → update p.published (s.txns i).number (some s.clock) y.number ≡ none) s.txns i no_txn j
          (λ e a. absurd (omega arith))
          (λ d a. update_other p.published _ (some s.clock) (s.txns j).number (others j d) ∙ f.unpublished j a);
      observes = λ j. update-elim (λ y. Live y → p.observed y.number ≡ some (λ n. member n y.snapshot.active)) s.txns i no_txn j
          (λ e a. absurd (omega arith)) (λ d. f.observes j);
      active-pos = λ j. update-elim (λ y. Live y → (n : ℕ) → Among n y.snapshot.active → 1 ≤ n) s.txns i no_txn j (λ e a. absurd (omega arith))
          (λ d. f.active-pos j);
      stamped = λ e m. ⊎_elim
          (λ o. update_other p.published _ (some s.clock) e.creator
          (λ q. none-some (p.published e.creator) (rw q (f.unpublished i l)) (f.stamped e o)) ∙ f.stamped e o)
          (λ w. rw (w.0, w.1) (update_same p.published _ (some s.clock)))
          (added-which s (s.txns i) (made_rows s.sizes s.chains (s.txns i).number (s.txns i).writes) es e m);
    }

-- each action was allowed, and the protocol after them follows the store
abbrev pub Beside : ℕ → Store → List Event → List Action → Type 0
Beside clock s es acts = ProtocolHistory clock acts × Follows s.clock s.txns es (protocol_after clock acts)

some-live : (t : ℕ → Txn) (i : ℕ) → i < most_live → Live (t i) → 1 ≤ live_count t
unfolding live_count
some-live t i l a = counted (pick (λ j. live (t j)) 0 most_live) (which-pick (λ j. live (t j)) 0 most_live i (omega arith) (omega arith) (live_test (t i) a))
  where
    counted : (xs : List ℕ) → Among i xs → 1 ≤ length xs
    counted [] m = absurd m
    counted (x ∷ xs) m = omega arith

module _ (clock : ℕ) (s : Store) (es : List Event) (acts : List Action) (g : Good s) (h : Beside clock s es acts) where
  abbrev here : Protocol
  here = protocol_after clock acts

  ends : (i t : ℕ) → (s.txns i).number ≡ t → Live (s.txns i) → rank (s.txns i).phase < phase_ended → (x : Txn)
      → (Live x → (x.number ≡ (s.txns i).number) × (x.snapshot ≡ (s.txns i).snapshot) × (phase_ended ≤ rank x.phase))
      → ProtocolHistory clock (End t ∷ acts) × Follows s.clock (update s.txns i x) es (protocol_after clock (End t ∷ acts))
  ends i t e l r x w = rw (← e) ((h.1.runs i l r, h.0), follows-ended s es here g h.1 (protocol-valid clock acts h.0) i l x w)

  publishes : (i t : ℕ) → (s.txns i).number ≡ t → Live (s.txns i) → rank (s.txns i).phase ≡ phase_ended
      → ProtocolHistory clock (Publish t s.clock ∷ acts) × Follows (suc s.clock) (update s.txns i no_txn)
      (add_events s (s.txns i) (made_rows s.sizes s.chains (s.txns i).number (s.txns i).writes) es)
      (protocol_after clock (Publish t s.clock ∷ acts))
  publishes i t e l r =
      let few = some-live s.txns i (in-place s.clock s.txns g.numbers i l) l in
      rw (← e) (
        ((h.1.has-ended i l (omega arith), h.1.unpublished i l, omega (arith, h.1.clock-is), omega (arith, g.room.numbers-left)), h.0),
        follows-published s es here g h.1 (protocol-valid clock acts h.0) i l r,
      )

  calm : (t : ℕ → Txn) → Calm s.txns t → ProtocolHistory clock acts × Follows s.clock t es here
  calm t c = (h.0, follows-calm s.clock s.txns t es here c h.1)

  refused-beside : (a : Step) → number s a ≢ 0 → Beside clock (step s a).store es acts
  refused-beside a d = ⊎_elim (λ e. rw e h) (λ e. rw e (calm _ (calm_set s.txns (at s (actor a)) _ refl refl (λ q. q) (λ q. q)))) (refused-store s a d)

  -- one who is ready is live
  alive : (a : Step) → Ready s a → Live (txn_of s (actor a))
  alive a r = omega (arith, lives-number s (actor a) r.1, r.1.3)

  done-beside : (a : Step) → number s a ≡ 0 → Beside clock (accepted s a).store (step_events s a es) (actions_of s a acts)
  unfolding step_events accepted live_count place_of
  done-beside begin z =
      let w = (begin-0 s).0 z in
      let free = place-number s 0 (first-free (λ i. eqb (s.txns i).number 0) 0 most_live w.1.0) in (
        (update_same here.active s.clock true, ((omega (arith, h.1.clock-is), omega (arith, w.1.1)), h.0)),
        follows-begun s es here g h.1 (protocol-valid clock acts h.0) (at s 0) free,
      )
  done-beside (capture t k) z = calm _ (calm_set s.txns (at s t) _ refl refl (λ q. absurd (omega (arith, ((capture-0 s t k).0 z).0.2))) (λ q. omega arith))
  done-beside (collect t) z = calm _ (calm_set s.txns (at s t) _ refl refl (λ q. absurd (omega (arith, ((collect-0 s t).0 z).2))) (λ q. omega arith))
  done-beside (rows t room) z = calm _ (calm_set s.txns (at s t) _ refl refl (λ q. absurd (omega (arith, ((rows-0 s t room).0 z).0.2))) (λ q. omega arith))
  done-beside (write t r c) z = calm _ (calm_set s.txns (at s t) _ refl refl (λ q. q) (λ q. q))
  done-beside (prepare t) z = calm _ (calm_set s.txns (at s t) _ refl refl (λ q. absurd (omega (arith, ((prepare-0 s t).0 z).0.2))) (λ q. omega arith))
  done-beside (install t) z = calm _ (calm_set s.txns (at s t) _ refl refl (λ q. absurd (omega (arith, ((install-0 s t).0 z).2))) (λ q. omega arith))
  done-beside (end t) z = let w = (end-0 s t).0 z in
      ends (at s t) t (lives-number s t w.1) (alive (end t) w) (omega (arith, w.2)) _ (λ l. (refl, refl, omega arith))
  done-beside (publish t) z = let w = (publish-0 s t).0 z in rw z (publishes (at s t) t (lives-number s t w.1) (alive (publish t) w) w.2)
  done-beside (validate t) z = h
  done-beside (abort t) z = let w = (abort-0 s t).0 z in
      ends (at s t) t (lives-number s t w.1) (alive (abort t) w) (omega (arith, w.2)) no_txn (λ l. absurd (omega arith))

  -- a refused step adds no event
  no-event : (a : Step) → eqb (number s a) 0 ≡ false → step_events s a es ≡ es
  unfolding step_events
  no-event a = by a (ruled s a).publishes
    where
      by : (b : Step) → Publishes s b → eqb (number s b) 0 ≡ false → step_events s b es ≡ es
      by b (may-publish t) e = rw e
      by b (quiet i q silent) e = q es

  pub step-beside : (a : Step) → Beside clock (step s a).store (step_events s a es) (step_actions s a acts)
  unfolding step_actions
  step-beside a = go (eqb (number s a) 0) refl
    where
      go : (b : Bool) → eqb (number s a) 0 ≡ b → Beside clock (step s a).store (step_events s a es) (cond b (actions_of s a acts) acts)
      go true e = let z = eqb-true _ _ e in rw (done-does s a z) (done-beside a z)
      go false e = rw (no-event a e) (refused-beside a (eqb-false _ _ e))

run-beside : (clock : ℕ) (s : Store) (es : List Event) (acts : List Action) (more : List Step) → Good s → Beside clock s es acts
    → Beside clock (run s more) (history_over es s more) (actions_over acts s more)
unfolding run history_over actions_over
run-beside clock s es acts [] g h = h
run-beside clock s es acts (a ∷ more) g h =
    run-beside clock (step s a).store (step_events s a es) (step_actions s a acts) more (good-run s g (a ∷ [])) (step-beside clock s es acts g h a)

-- `protocol_history`: of every run, and its last state follows the store that the run leaves
pub protocol-follows : (z : Sizes) (clock : ℕ) (before : List Step) → can_open z clock ≡ true → clock ≤ last_number
    → Beside clock (run (fresh z clock) before) (history (fresh z clock) before) (actions (fresh z clock) before)
unfolding run
protocol-follows z clock before e l =
    let g = opened-good z clock [] e l in
    run-beside clock (fresh z clock) [] [] before g (
      g.numbers.clock-pos,
      record {
        clock-is = refl;
        runs = λ j a. absurd (omega arith);
        who-runs = λ n t. absurd (true≢false (sym t));
        has-ended = λ j a. absurd (omega arith);
        unpublished = λ j a. refl;
        observes = λ j a. absurd (omega arith);
        active-pos = λ j a. absurd (omega arith);
        stamped = λ q m. absurd m;
      },
    )
