-- In every reached store the versions of each row are the events of the run. Assumes nothing.
use mathlib.Core.Path.{◌≡◌, refl, sym, ap, ◌∙◌}
use mathlib.Core.Bool.{Bool, true, false, cond, true≢false}
use mathlib.Core.Logic.{◌≢◌, inl, inr, ⊎_elim}
use mathlib.Core.List.{List, [], ◌∷◌}
use Prim.Native.Nat.{ℕ, suc, ◌≤◌, ◌<◌}
use native.Mathlib.Omega.{arith}
use native.Mathlib.Decide.{ℕ_discrete}
use lib.Dec.{eqb}
use borrow.Author.Tests.{eqb-true, eqb-false}
use Rattle.base_limits.specs.Limits.{last_number}
use Rattle.base_lists.specs.Lists.{member, Among, Rising}
use Rattle.base_lists.specs.Table.{update}
use Rattle.base_lists.proofs.TableLaws.{update_same, update_other, update-elim}
use Rattle.base_lists.proofs.ListLaws.{rising-above, pick-rising, member-among, among-member}
use Rattle.model.specs.Store.{Sizes, Chains, Installed, Txn, Store, no_txn, fresh, rank, phase_prepared, phase_installed, phase_ended}
use Rattle.model.specs.Seeing.{Live}
use Rattle.model.specs.Steps.{with_phase, new_key, installed, published, version_rows, made_rows}
use Rattle.model.specs.Refusals.{Step, publish, txn_of}
use Rattle.model.specs.Machine.{at, actor, accepted, step, run, can_open}
use Rattle.model.specs.Upstream.{Event}
use Rattle.model.specs.History.{event_of, add_events, step_events, history_over, history}
use Rattle.model.specs.Holding.{Writes, Unpublished, Gets, Made}
use Rattle.model.specs.Given.{number, Ready}
use Rattle.model.proofs.Tests.{lives-number}
use Rattle.model.proofs.Move.{Move, stay, did-begin, did-mark, did-capture, did-collect, did-rows, did_write, did-prepare, did-install, did-end}
use Rattle.model.proofs.Move.{did-publish, did-abort, publishing}
use Rattle.model.proofs.Ruled.{Publishes, may-publish, quiet, moves, ruled}
use Rattle.model.proofs.Chained.{Chained}
use Rattle.model.proofs.SeeingLaws.{key_at-key}
use Rattle.model.proofs.Holders.{one-claim}
use Rattle.model.proofs.Made.{gets-writes, made-writes, made-head}
use Rattle.model.proofs.Grown.{Grown}
use Rattle.model.proofs.Written.{Mine, installs, made-new, made-old, made-still}
use Rattle.model.proofs.Good.{Good, good-run, opened-good}
use Rattle.model.proofs.Refused.{publish-0}
use Rattle.model.proofs.Outcomes.{refused-store, done-does, unrefused}
use Rattle.model.proofs.Snapshots.{Traced, start, own, other, RowTraced, whole, waiting, TracedAt}

-- events of other rows are passed over
added-other : (s : Store) (x : Txn) (c : Chains) (rs : List ℕ) (older : List Event) (r p : ℕ) → (Among r rs → ⊥) → Traced c r older p
    → Traced c r (add_events s x rs older) p
unfolding add_events
added-other s x c [] older r p no_row d = d
added-other s x c (q ∷ rs) older r p no_row d = added-other s x c rs (event_of s x q ∷ older) r p (λ m. no_row (inr m)) (other (λ e. no_row (inl (sym e))) d)

-- the row's own event is told of its head
added-own : (s : Store) (x : Txn) (k : ℕ) (rs : List ℕ) (older : List Event) (r : ℕ) → Rising k rs → Among r rs → Chained s.chains
    → Mine s.chains s.index.posted x r
    → Traced s.chains r older (s.chains.next (s.chains.head r)) → Traced s.chains r (add_events s x rs older) (s.chains.head r)
unfolding add_events
added-own s x k (q ∷ rs) older r o (inl e) ch m d =
    added-other s x s.chains rs (event_of s x q ∷ older) r (s.chains.head r) (λ n. omega (arith, rising-above (suc q) rs o.1 r n))
    (own (sym e) m.head-pos (ch.heads-in r) m.xmin-is (sym (key_at-key s.chains (s.chains.head r) (λ z. omega (arith, m.head-pos)))
    ∙ (m.key-is ∙ ap (new_key x) e)) d)
added-own s x k (q ∷ rs) older r o (inr n) ch m d =
    added-own s x (suc q) rs (event_of s x q ∷ older) r o.1 n ch m (other (λ e. omega (arith, rising-above (suc q) rs o.1 r n)) d)
added-own s x k [] older r o x6 ch m d = elim x6 [ ]

-- an install keeps the versions that were there
traced-grown : (x : Txn) (rs : List ℕ) (c c' : Chains) → Grown x rs c c' → Chained c → (r : ℕ) (es : List Event) (p : ℕ) → Traced c r es p → p ≤ c.used
    → Traced c' r es p
traced-grown x rs c c' gr ch r [] p (start e) u = start e
traced-grown x rs c c' gr ch r (e ∷ older) p (own d l v m k n) u =
    let deeper : Traced c' r older (c'.next p) =
    rw (gr.next-old p u) (traced-grown x rs c c' gr ch r older (c.next p) n (omega (arith, ch.next-falls p l u))) in
    own d l (omega (arith, gr.used-up)) (gr.xmin-old p u ∙ m) (gr.key-old p u ∙ k) deeper
traced-grown x rs c c' gr ch r (e ∷ older) p (other d n) u = other d (traced-grown x rs c c' gr ch r older p n u)

module _ (z : Sizes) (c : Chains) (t : ℕ → Txn) (es : List Event) (r : ℕ) where
  -- who has installed and not published stays the same
  row_kept : (t' : ℕ → Txn) → ((j : ℕ) → Unpublished z c (t' j) r → Unpublished z c (t j) r)
      → ((j : ℕ) → Unpublished z c (t j) r → Unpublished z c (t' j) r) → RowTraced z c t es r → RowTraced z c t' es r
  row_kept t' back on (whole no_one d) = whole (λ j u. no_one j (back j u)) d
  row_kept t' back on (waiting j u d) = waiting j (on j u) d

  -- one place changes that has not installed before or after
  row-early : (i : ℕ) (x : Txn) → (Live (t i) → rank (t i).phase < phase_installed) → rank x.phase < phase_installed → RowTraced z c t es r
      → RowTraced z c (update t i x) es r
  row-early i x a b = row_kept (update t i x)
      (λ j. update-elim (λ y. Unpublished z c y r → Unpublished z c (t j) r) t i x j (λ e u. absurd (omega (arith, u.1))) (λ d u. u))
      (λ j u. rw (update_other t i x j (λ e. omega (arith, rw e at u.1, a (rw e at u.0)))) u)

  -- one place goes on with its number and its writes
  row_on : (i : ℕ) (x : Txn) → x.number ≡ (t i).number → x.writes ≡ (t i).writes → (phase_installed ≤ rank x.phase → phase_installed ≤ rank (t i).phase)
      → (phase_installed ≤ rank (t i).phase → phase_installed ≤ rank x.phase) → RowTraced z c t es r → RowTraced z c (update t i x) es r
  row_on i x n w a b = row_kept (update t i x)
      (λ j. update-elim (λ y. Unpublished z c y r → Unpublished z c (t j) r) t i x j (λ e u. rw e (omega (arith, u.0), a u.1, rw (n, w) at u.2))
      (λ d u. u))
      (λ j. elim (ℕ_discrete j i) [ yes e ↦ λ u. rw (e, update_same) (same (rw e at u)) | no d ↦ λ u. rw (update_other t i x j d) u ])
    where
      same : Unpublished z c (t i) r → Unpublished z c x r
      same u = (omega (arith, u.0), b u.1, rw (n, w) u.2)

module _ (s : Store) (es : List Event) (g : Good s) (h : TracedAt s es) (i : ℕ) (l : Live (s.txns i)) where
  -- a row that i claims is claimed by nobody else
  only-claim : phase_prepared ≤ rank (s.txns i).phase → (r : ℕ) → Writes s.sizes (s.txns i) r → (j : ℕ) → Unpublished s.sizes s.chains (s.txns j) r
      → j ≡ i
  only-claim a r w j u = one-claim s i g.numbers g.holders j i r (omega (arith, u.1), made-writes s.sizes s.chains (s.txns j) r u.2) (a, w)

  traced-install : rank (s.txns i).phase ≡ phase_prepared → TracedAt (installed s i) es
  traced-install a r = go (member r (version_rows s.sizes s.chains (s.txns i).writes)) refl
    where
      gr : Grown (s.txns i) (version_rows s.sizes s.chains (s.txns i).writes) s.chains (installed s i).chains
      gr = installs s i g.chained

      new : Gets s.sizes s.chains (s.txns i) r → RowTraced s.sizes s.chains s.txns es r
          → RowTraced s.sizes (installed s i).chains (installed s i).txns es r
      new w (whole no_one d) = let m = made-new s i g.chained r w in
          waiting i (rw update_same (l, omega arith, m))
          (rw (gr.head-new r w).next-is (traced-grown _ _ _ _ gr g.chained r es (s.chains.head r) d (g.chained.heads-in r)))
      new w (waiting j u d) = absurd (omega (arith, rw (only-claim (omega arith) r (gets-writes s.sizes s.chains (s.txns i) r w) j u) at u.1))

      -- who heads the row now headed it before
      before : (Gets s.sizes s.chains (s.txns i) r → ⊥) → (y : Txn) → Made s.sizes (installed s i).chains y r → Made s.sizes s.chains y r
      before n y m = made-old s i g.chained r n y m

      after : (Gets s.sizes s.chains (s.txns i) r → ⊥) → (y : Txn) → Made s.sizes s.chains y r → Made s.sizes (installed s i).chains y r
      after n y m = made-still s i g.chained r n y m

      old : (Gets s.sizes s.chains (s.txns i) r → ⊥) → RowTraced s.sizes s.chains s.txns es r
          → RowTraced s.sizes (installed s i).chains (installed s i).txns es r
      old n (whole no_one d) = whole
          (λ j. update-elim (λ y. Unpublished s.sizes (installed s i).chains y r → ⊥) s.txns i (with_phase (s.txns i) Installed) j
          (λ e u. mine-early (before n (s.txns i) u.2))
          (λ e u. no_one j (u.0, u.1, before n (s.txns j) u.2)))
          (rw (gr.head-old r n) (traced-grown _ _ _ _ gr g.chained r es (s.chains.head r) d (g.chained.heads-in r)))
        where
          mine-early : Made s.sizes s.chains (s.txns i) r → ⊥
          mine-early m = let p = made-head s.sizes s.chains (s.txns i) r m in
              omega (arith, (g.written.made (s.chains.head r) i p.0 (g.chained.heads-in r) l p.1).0)
      old n (waiting j u d) =
          let ne : j ≢ i = λ e. omega (arith, rw e at u.1) in
          let m = after n (s.txns j) u.2 in
          waiting j (rw (update_other s.txns i (with_phase (s.txns i) Installed) j ne) (u.0, u.1, m))
          (rw (gr.head-old r n, gr.next-old (s.chains.head r) (g.chained.heads-in r))
          (traced-grown _ _ _ _ gr g.chained r es (s.chains.next (s.chains.head r)) d
          (omega (
            arith,
            g.chained.heads-in r,
            g.chained.next-falls (s.chains.head r) (g.written.mine j r u.0 u.1 u.2).head-pos
                (g.chained.heads-in r),
          ))))

      go : (b : Bool) → member r (version_rows s.sizes s.chains (s.txns i).writes) ≡ b
          → RowTraced s.sizes (installed s i).chains (installed s i).txns es r
      go true e = new (member-among r _ e) (h r)
      go false e = old (λ m. true≢false (sym (among-member r _ m) ∙ e)) (h r)

  traced-publish : rank (s.txns i).phase ≡ phase_ended
      → TracedAt (published s i) (add_events s (s.txns i) (made_rows s.sizes s.chains (s.txns i).number (s.txns i).writes) es)
  unfolding made_rows
  traced-publish a r = go (member r (made_rows s.sizes s.chains (s.txns i).number (s.txns i).writes)) refl
    where
      rs : List ℕ
      rs = made_rows s.sizes s.chains (s.txns i).number (s.txns i).writes

      mine : Made s.sizes s.chains (s.txns i) r → RowTraced s.sizes s.chains s.txns es r
          → RowTraced s.sizes s.chains (published s i).txns (add_events s (s.txns i) rs es) r
      mine w (whole no_one d) = absurd (no_one i (l, omega arith, w))
      mine w (waiting j u d) = whole
          (λ k. update-elim (λ y. Unpublished s.sizes s.chains y r → ⊥) s.txns i no_txn k (λ e v. omega (arith, v.1))
          (λ e v. e (only-claim (omega arith) r (made-writes s.sizes s.chains (s.txns i) r w) k v)))
          (added-own s (s.txns i) 0 rs es r (pick-rising _ 0 s.sizes.rows) w g.chained (g.written.mine i r l (omega arith) w) d)

      others : (Made s.sizes s.chains (s.txns i) r → ⊥) → RowTraced s.sizes s.chains s.txns es r
          → RowTraced s.sizes s.chains (published s i).txns (add_events s (s.txns i) rs es) r
      others n (whole no_one d) = whole
          (λ k. update-elim (λ y. Unpublished s.sizes s.chains y r → ⊥) s.txns i no_txn k (λ e v. omega (arith, v.1)) (λ e v. no_one k v))
          (added-other s (s.txns i) s.chains rs es r _ n d)
      others n (waiting j u d) =
          waiting j (rw (update_other s.txns i no_txn j (λ e. n (rw e at u.2))) u) (added-other s (s.txns i) s.chains rs es r _ n d)

      go : (b : Bool) → member r rs ≡ b → RowTraced s.sizes s.chains (published s i).txns (add_events s (s.txns i) rs es) r
      go true e = mine (member-among r _ e) (h r)
      go false e = others (λ m. true≢false (sym (among-member r _ m) ∙ e)) (h r)

-- a step that adds no event: refused, or carried out so
no-event : (s : Store) (a : Step) (es : List Event) → TracedAt s es → (number s a ≡ 0 → TracedAt (accepted s a).store es) → TracedAt (step s a).store es
no-event s a es h done = elim (ℕ_discrete (number s a) 0) [
  | yes z ↦ rw (done-does s a z) (done z)
  | no d ↦ ⊎_elim (λ e. rw e h) (λ e. rw e (λ r. row_on s.sizes s.chains s.txns es r (at s (actor a)) _ refl refl (λ v. v) (λ v. v) (h r)))
      (refused-store s a d)
]

-- one who is ready is live
ready-live : (s : Store) (a : Step) → Ready s a → Live (txn_of s (actor a))
ready-live s a r = omega (arith, lives-number s (actor a) r.1, r.1.3)

module _ (s : Store) (es : List Event) (g : Good s) (h : TracedAt s es) where
  early : (i : ℕ) (x : Txn) → (Live (s.txns i) → rank (s.txns i).phase < phase_installed) → rank x.phase < phase_installed → (r : ℕ)
      → RowTraced s.sizes s.chains (update s.txns i x) es r
  early i x a b r = row-early s.sizes s.chains s.txns es r i x a b (h r)

  published-or-not : (t : ℕ) (b : Bool) → eqb (number s (publish t)) 0 ≡ b
      → TracedAt (step s (publish t)).store (cond b (add_events s (txn_of s t) (made_rows s.sizes s.chains (txn_of s t).number (txn_of s t).writes) es) es)
  unfolding accepted
  published-or-not t true e =
      let z = eqb-true _ _ e in
      let w = (publish-0 s t).0 z in
      rw (done-does s (publish t) z) (traced-publish s es g h (at s t) (ready-live s (publish t) w) w.2)
  published-or-not t false e = no-event s (publish t) es h (λ z. absurd (eqb-false _ _ e z))

  -- a move that is no publish
  traced-move : {i : ℕ} {s' : Store} (m : Move s i s') → publishing m ≡ false → TracedAt s' es
  traced-move (stay i) e = h
  traced-move (did-begin i a b c d) e = early i _ (λ l. absurd (omega arith)) (omega arith)
  traced-move (did-mark i a b) e = early i _ (λ l. omega arith) (omega arith)
  traced-move (did-capture i k a b c) e = early i _ (λ l. omega arith) (omega arith)
  traced-move (did-collect i a b) e = early i _ (λ l. omega arith) (omega arith)
  traced-move (did-rows i a b c) e = early i _ (λ l. omega arith) (omega arith)
  traced-move (did_write i w a b c d) e = early i _ (λ l. omega arith) (omega arith)
  traced-move (did-prepare i a b c) e = early i _ (λ l. omega arith) (omega arith)
  traced-move (did-install i a b) e = traced-install s es g h i a b
  traced-move (did-end i a b) e = λ r. row_on s.sizes s.chains s.txns es r i _ refl refl (λ v. omega arith) (λ v. omega arith) (h r)
  traced-move (did-publish i a b) e = absurd (true≢false e)
  traced-move (did-abort i a b) e = early i _ (λ l. b) (omega arith)

  traced-step : (a : Step) → TracedAt (step s a).store (step_events s a es)
  unfolding step_events
  traced-step a = by a (ruled s a).publishes
    where
      by : (b : Step) → Publishes s b → TracedAt (step s b).store (step_events s b es)
      by b (may-publish t) = published-or-not t (eqb (number s (publish t)) 0) refl
      by b (quiet i same silent) = rw (same es) (no-event s b es h (λ z. let e = unrefused s b z in traced-move (moves s b e) (silent e)))

traced-run : (s : Store) (es : List Event) (more : List Step) → Good s → TracedAt s es → TracedAt (run s more) (history_over es s more)
unfolding run history_over
traced-run s es [] g h = h
traced-run s es (a ∷ more) g h = traced-run (step s a).store (step_events s a es) more (good-run s g (a ∷ [])) (traced-step s es g h a)

pub traced-opened : (z : Sizes) (clock : ℕ) (before : List Step) → can_open z clock ≡ true → clock ≤ last_number
    → TracedAt (run (fresh z clock) before) (history (fresh z clock) before)
unfolding run
traced-opened z clock before e l = traced-run (fresh z clock) [] before (opened-good z clock [] e l) (λ r. whole (λ j u. omega (arith, u.0)) (start refl))
