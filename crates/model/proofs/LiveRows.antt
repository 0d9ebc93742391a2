-- How the live rows change: at an end alone, and there by the pending rows of the one who ends. Assumes nothing.
use mathlib.Core.Path.{◌≡◌, refl, sym, ap, ◌∙◌}
use mathlib.Core.Bool.{Bool, true, false, true≢false}
use mathlib.Core.Logic.{◌≢◌, ◌⊎◌, inl, inr, ⊎_elim}
use mathlib.Core.Option.{none}
use mathlib.Core.List.{List, [], ◌∷◌, map}
use Prim.Native.Nat.{ℕ, suc, ◌≤◌}
use native.Mathlib.Omega.{arith}
use native.Mathlib.Decide.{ℕ_discrete}
use Rattle.base_limits.specs.Limits.{most_live}
use Rattle.base_lists.specs.Lists.{member}
use Rattle.base_lists.specs.Table.{update}
use Rattle.base_lists.proofs.TableLaws.{update_same, update_other, update-elim, update-field}
use Rattle.base_lists.proofs.ListLaws.{member-among, among-member, map-pick}
use Rattle.model.specs.Store.{Installed, Ended, Txn, Store, rank, phase_prepared, phase_installed, phase_ended}
use Rattle.model.specs.Seeing.{seen, version_of, key_at, last_write, Live, active, active_numbers, snapshot_now}
use Rattle.model.specs.Steps.{with_phase, becomes, marked_txn, new_key, made_rows, written_payload, installed}
use Rattle.model.specs.Contents.{content, content_of, live_row}
use Rattle.model.specs.Refusals.{publish}
use Rattle.model.specs.Machine.{at, accepted, step, run}
use Rattle.model.specs.Holding.{Writes, Made, ErasesNothing}
use Rattle.model.specs.Given.{number}
use Rattle.model.proofs.Move.{Move, stay, did-begin, did-mark, did-capture, did-collect, did-rows, did_write, did-prepare, did-install, did-end}
use Rattle.model.proofs.Move.{did-publish, did-abort}
use Rattle.model.proofs.Moving.{step_move}
use Rattle.model.proofs.Chained.{top}
use Rattle.model.proofs.Numbers.{in-place, active-which, which-active}
use Rattle.model.proofs.Walk.{Finds, nothing, here, down, version-finds, finds-one, finds-head, InChain, heads, finds-alike, chains-apart}
use Rattle.model.proofs.Holders.{one-claim}
use Rattle.model.proofs.Made.{made-writes}
use Rattle.model.proofs.Written.{Mine, posted-either, installs}
use Rattle.model.proofs.Told.{unseen-active, unseen-which}
use Rattle.model.proofs.Stable.{content-grown}
use Rattle.model.proofs.Good.{Good, good-move}
use Rattle.model.proofs.Outcomes.{refused-store, done-does}

-- who made version p has installed and not ended
abbrev pub Hidden : Store → ℕ → Type 0
Hidden s p = (j : ℕ) × Live (s.txns j) × (rank (s.txns j).phase ≡ phase_installed) × (s.chains.xmin p ≡ (s.txns j).number)

-- these versions, and no others, are not seen by a snapshot taken now
module _ (s : Store) (g : Good s) (p : ℕ) (l : 1 ≤ p) (u : p ≤ s.chains.used) where
  pub hidden-unseen : Hidden s p → seen (snapshot_now s) (s.chains.xmin p) ≡ false
  unfolding snapshot_now
  hidden-unseen h = unseen-active (snapshot_now s) (s.chains.xmin p)
      (rw h.3 (which-active s.txns h.0 (in-place s.clock s.txns g.numbers h.0 h.1) h.1 (omega (arith, h.2))))

  pub unseen-hidden : seen (snapshot_now s) (s.chains.xmin p) ≡ false → Hidden s p
  unfolding snapshot_now
  unseen-hidden e =
      let w = active-which s.txns (s.chains.xmin p) (unseen-which (snapshot_now s) (s.chains.xmin p) e (g.below.xmin-below p)) in
      (w.0, w.2, omega (arith, w.3, (g.written.made p w.0 l u w.2 w.4).0), w.4)

-- two stores with the same versions: where the same versions of a row are hidden, the row is the same
pub alike : (s s' : Store) → Good s → Good s' → s'.chains ≡ s.chains → (r : ℕ)
    → ((p : ℕ) → 1 ≤ p → p ≤ s.chains.used → InChain s.chains r p → Hidden s p → Hidden s' p)
    → ((p : ℕ) → 1 ≤ p → p ≤ s.chains.used → InChain s.chains r p → Hidden s' p → Hidden s p) → live_row s' r ≡ live_row s r
unfolding content_of snapshot_now
alike s s' g g' e r to from = ap (λ c. content (key_at c (version_of c (snapshot_now s') r)) (c.payload (version_of c (snapshot_now s') r))) e
    ∙ ap (λ p. content (key_at s.chains p) (s.chains.payload p)) same
  where
    eyes : (p : ℕ) → 1 ≤ p → p ≤ s.chains.used → InChain s.chains r p
        → seen (snapshot_now s') (s.chains.xmin p) ≡ seen (snapshot_now s) (s.chains.xmin p)
    eyes p l u i = same_false _ _
        (λ f. hidden-unseen s g p l u (from p l u i (unseen-hidden s' g' p l (rw e u) (rw e f))))
        (λ f. rw e at (hidden-unseen s' g' p l (rw e u) (to p l u i (unseen-hidden s g p l u f))))
      where
        same_false : (a b : Bool) → (a ≡ false → b ≡ false) → (b ≡ false → a ≡ false) → a ≡ b
        same_false true true f h = refl
        same_false true false f h = h refl
        same_false false true f h = sym (f refl)
        same_false false false f h = refl

    same : version_of s.chains (snapshot_now s') r ≡ version_of s.chains (snapshot_now s) r
    same = finds-one s.chains (snapshot_now s') (s.chains.head r) _ _ (version-finds s.chains (snapshot_now s') g.chained r)
        (finds-alike s.chains (snapshot_now s) (snapshot_now s') r eyes (s.chains.head r) _ (heads refl)
        (version-finds s.chains (snapshot_now s) g.chained r))

-- one place changes, and neither before nor after is Installed
module _ (s s' : Store) (i : ℕ) (x : Txn) (t-is : s'.txns ≡ update s.txns i x) (c-is : s'.chains ≡ s.chains)
    (old : Live (s.txns i) → rank (s.txns i).phase ≢ phase_installed) (new : rank x.phase ≢ phase_installed) where
  hidden-to : (p : ℕ) → Hidden s p → Hidden s' p
  hidden-to p h = rw (t-is, c-is) (h.0, rw other h.1, rw other h.2, rw other h.3)
    where
      other : update s.txns i x h.0 ≡ s.txns h.0
      other = update_other s.txns i x h.0 (λ e. old (rw e at h.1) (rw e at h.2))

  hidden-from : (p : ℕ) → Hidden s' p → Hidden s p
  hidden-from p h = go h.0 (rw t-is at h.1) (rw t-is at h.2) (rw (t-is, c-is) at h.3)
    where
      go : (j : ℕ) → Live (update s.txns i x j) → rank (update s.txns i x j).phase ≡ phase_installed → s.chains.xmin p ≡ (update s.txns i x j).number
          → Hidden s p
      go j = update-elim (λ y. Live y → rank y.phase ≡ phase_installed → s.chains.xmin p ≡ y.number → Hidden s p) s.txns i x j
          (λ e a b d. absurd (new b)) (λ e a b d. (j, a, b, d))

  pub live-set : Good s → Good s' → (r : ℕ) → live_row s' r ≡ live_row s r
  live-set g g' r = alike s s' g g' c-is r (λ p l u n. hidden-to p) (λ p l u n. hidden-from p)

-- install: its versions are hidden
module _ (s : Store) (i : ℕ) (g : Good s) (g' : Good (installed s i)) (l : Live (s.txns i)) (a : rank (s.txns i).phase ≡ phase_prepared) where
  now-installed : snapshot_now (installed s i) ≡ snapshot_now s
  unfolding snapshot_now active_numbers
  now-installed = rw same
    where
      same : active_numbers (installed s i).txns ≡ active_numbers s.txns
      same = map-pick (λ j. ((installed s i).txns j).number) (λ j. (s.txns j).number) (λ j. active ((installed s i).txns j))
          (λ j. active (s.txns j)) 0 most_live
          (λ r lo hi. update-field (λ y. active y) s.txns i (with_phase (s.txns i) Installed) r (rw a))
          (λ r lo hi e. update-field (λ y. y.number) s.txns i (with_phase (s.txns i) Installed) r refl)

  unseen : seen (snapshot_now s) (s.txns i).number ≡ false
  unfolding snapshot_now
  unseen = unseen-active (snapshot_now s) (s.txns i).number (which-active s.txns i (in-place s.clock s.txns g.numbers i l) l (omega arith))

  pub live-install : (r : ℕ) → live_row (installed s i) r ≡ live_row s r
  live-install r = ap (λ v. content_of (installed s i).chains v r) now-installed
      ∙ content-grown (s.txns i) _ s.chains (installed s i).chains g.chained g'.chained (installs s i g.chained) (snapshot_now s) unseen r

-- a row whose head is not hidden shows its head
pub head-shown : (s : Store) → Good s → (r : ℕ) → (1 ≤ s.chains.head r → Hidden s (s.chains.head r) → ⊥)
    → version_of s.chains (snapshot_now s) r ≡ s.chains.head r
head-shown s g r open-head =
    finds-head s.chains (snapshot_now s) g.chained r (λ l. sees l (seen (snapshot_now s) (s.chains.xmin (s.chains.head r))) refl)
  where
    sees : 1 ≤ s.chains.head r → (b : Bool) → seen (snapshot_now s) (s.chains.xmin (s.chains.head r)) ≡ b → b ≡ true
    sees l true e = refl
    sees l false e = absurd (open-head l (unseen-hidden s g (s.chains.head r) l (g.chained.heads-in r) e))

-- a row that an Installed transaction has written is shown as it was before
module _ (s : Store) (i : ℕ) (g : Good s) (l : Live (s.txns i)) (a : rank (s.txns i).phase ≡ phase_installed) (r : ℕ) where
  -- its head
  abbrev h : ℕ
  h = s.chains.head r

  before-end : Made s.sizes s.chains (s.txns i) r → version_of s.chains (snapshot_now s) r ≡ s.chains.next h
  before-end w = let m = g.written.mine i r l (omega arith) w in
      finds-one s.chains (snapshot_now s) h _ _ (version-finds s.chains (snapshot_now s) g.chained r)
      (down {p = h} m.head-pos (g.chained.heads-in r) (hidden-unseen s g h m.head-pos (g.chained.heads-in r) (i, l, a, m.xmin-is))
      (under m.head-pos (ℕ_discrete (s.chains.next h) 0)))
    where
      under : 1 ≤ h → Dec (s.chains.next h ≡ 0) → Finds s.chains (snapshot_now s) (s.chains.next h) (s.chains.next h)
      under pos (yes e) = nothing e e
      under pos (no d) = here {p = s.chains.next h} (omega arith)
          (omega (arith, g.chained.next-falls h pos (g.chained.heads-in r), g.chained.heads-in r))
          (shown (seen (snapshot_now s) (s.chains.xmin (s.chains.next h))) refl) refl
        where
          shown : (b : Bool) → seen (snapshot_now s) (s.chains.xmin (s.chains.next h)) ≡ b → b ≡ true
          shown true e = refl
          shown false e =
              let u = unseen-hidden s g (s.chains.next h) (omega arith)
              (omega (arith, g.chained.next-falls h pos (g.chained.heads-in r), g.chained.heads-in r)) e in
              let m = g.written.made (s.chains.next h) u.0 (omega arith)
              (omega (arith, g.chained.next-falls h pos (g.chained.heads-in r), g.chained.heads-in r)) u.1 u.3 in
              absurd (top s.chains g.chained h m.1.0 pos (g.chained.heads-in r) d (sym m.1.2))

  -- where it got no version the head is not hidden
  head-open : Writes s.sizes (s.txns i) r → (Made s.sizes s.chains (s.txns i) r → ⊥) → 1 ≤ h → Hidden s h → ⊥
  head-open w no-version pos q =
      let m = g.written.made h q.0 pos (g.chained.heads-in r) q.1 q.3 in
      let m' : Made s.sizes s.chains (s.txns q.0) r = rw (g.chained.one-head m.1.0 r (λ e. omega (arith, m.1.2)) m.1.2) at m.1.1 in
      no-version (rw (one-claim s i g.numbers g.holders q.0 i r (omega (arith, q.2), made-writes s.sizes s.chains (s.txns q.0) r m')
      (omega arith, w)) at m')

  -- it got a version, or it erased nothing
  pub made-or-none : Writes s.sizes (s.txns i) r
      → Made s.sizes s.chains (s.txns i) r
      ⊎ ((Made s.sizes s.chains (s.txns i) r → ⊥) × ErasesNothing s.chains (s.txns i) r × (s.index.posted r ≡ none))
  made-or-none w = go (member r (made_rows s.sizes s.chains (s.txns i).number (s.txns i).writes)) refl
    where
      go : (b : Bool) → member r (made_rows s.sizes s.chains (s.txns i).number (s.txns i).writes) ≡ b
          → Made s.sizes s.chains (s.txns i) r
          ⊎ ((Made s.sizes s.chains (s.txns i) r → ⊥) × ErasesNothing s.chains (s.txns i) r × (s.index.posted r ≡ none))
      go true e = inl (member-among r _ e)
      go false e = let no-version : Made s.sizes s.chains (s.txns i) r → ⊥ = λ m. true≢false (sym (among-member r _ m) ∙ e) in
          ⊎_elim (λ m. absurd (no-version m)) (λ o. inr (no-version, o.0, o.1)) (posted-either s g.numbers g.holders g.written i r l (omega arith) w)

  pub key-before-end : Writes s.sizes (s.txns i) r → key_at s.chains (version_of s.chains (snapshot_now s) r) ≡ s.index.posted r
  key-before-end w = ⊎_elim
      (λ m. ap (key_at s.chains) (before-end m) ∙ (g.written.mine i r l (omega arith) m).before)
      (λ o. ap (key_at s.chains) (head-shown s g r (head-open w o.0)) ∙ (o.1.0 ∙ sym o.2))
      (made-or-none w)

-- end: its versions are shown from then on
module _ (s : Store) (i : ℕ) (g : Good s) (g' : Good (becomes s i Ended)) (l : Live (s.txns i)) (a : rank (s.txns i).phase ≡ phase_installed) where
  ended-from : (p : ℕ) → Hidden (becomes s i Ended) p
      → (j : ℕ) × (j ≢ i) × Live (s.txns j) × (rank (s.txns j).phase ≡ phase_installed) × (s.chains.xmin p ≡ (s.txns j).number)
  ended-from p h = go h.0 h.1 h.2 h.3
    where
      go : (j : ℕ) → Live ((becomes s i Ended).txns j) → rank ((becomes s i Ended).txns j).phase ≡ phase_installed
          → s.chains.xmin p ≡ ((becomes s i Ended).txns j).number
          → (k : ℕ) × (k ≢ i) × Live (s.txns k) × (rank (s.txns k).phase ≡ phase_installed) × (s.chains.xmin p ≡ (s.txns k).number)
      go j = update-elim (λ y. Live y → rank y.phase ≡ phase_installed → s.chains.xmin p ≡ y.number → (k : ℕ) × (k ≢ i) × Live (s.txns k) ×
          (rank (s.txns k).phase ≡ phase_installed) × (s.chains.xmin p ≡ (s.txns k).number)) s.txns i (with_phase (s.txns i) Ended) j
          (λ e v b d. absurd (omega arith))
          (λ e v b d. (j, e, v, b, d))

  unmade-same : (r : ℕ) → (Made s.sizes s.chains (s.txns i) r → ⊥) → live_row (becomes s i Ended) r ≡ live_row s r
  unmade-same r none_made = alike s (becomes s i Ended) g g' refl r to (λ p lo hi c h. let w = ended-from p h in (w.0, w.2, w.3, w.4))
    where
      to : (p : ℕ) → 1 ≤ p → p ≤ s.chains.used → InChain s.chains r p → Hidden s p → Hidden (becomes s i Ended) p
      to p lo hi c h = (h.0, rw other h.1, rw other h.2, rw other h.3)
        where
          apart : h.0 ≢ i
          apart e =
              let m = g.written.made p i lo hi l (h.3 ∙ ap (λ j. (s.txns j).number) e) in
              none_made (rw (chains-apart s.chains g.chained m.1.0 r p (heads (sym m.1.2)) c (λ z. omega arith)) at m.1.1)

          other : update s.txns i (with_phase (s.txns i) Ended) h.0 ≡ s.txns h.0
          other = update_other s.txns i _ h.0 apart

  made-shown : (r : ℕ) → Made s.sizes s.chains (s.txns i) r
      → live_row (becomes s i Ended) r ≡ content (new_key (s.txns i) r) (written_payload (last_write (s.txns i).writes r))
  unfolding content_of
  made-shown r w = rw (top-shown, m.key-is, m.payload-is) refl
    where
      m : Mine s.chains s.index.posted (s.txns i) r
      m = g.written.mine i r l (omega arith) w

      not_hidden : 1 ≤ s.chains.head r → Hidden (becomes s i Ended) (s.chains.head r) → ⊥
      not_hidden p q = let h = ended-from (s.chains.head r) q in h.1 (g.numbers.distinct h.0 i h.2 (sym h.4 ∙ m.xmin-is))

      top-shown : version_of s.chains (snapshot_now (becomes s i Ended)) r ≡ s.chains.head r
      top-shown = head-shown (becomes s i Ended) g' r not_hidden

  pub live-others : (r : ℕ) → (Writes s.sizes (s.txns i) r → ⊥) → live_row (becomes s i Ended) r ≡ live_row s r
  live-others r none_written = unmade-same r (λ m. none_written (made-writes s.sizes s.chains (s.txns i) r m))

  pub live_own : (r : ℕ) → Writes s.sizes (s.txns i) r
      → live_row (becomes s i Ended) r ≡ content (new_key (s.txns i) r) (written_payload (last_write (s.txns i).writes r))
  unfolding content_of
  live_own r w = ⊎_elim (made-shown r)
      (λ o. unmade-same r o.0
      ∙ (ap (λ k. content k (s.chains.payload (version_of s.chains (snapshot_now s) r))) (key-before-end s i g l a r w ∙ o.2)
      ∙ ap (λ k. content k (written_payload (last_write (s.txns i).writes r))) (sym o.1.1)))
      (made-or-none s i g l a r w)

-- any other step leaves every row as it was
pub live-kept : (s s' : Store) {b : ℕ} → Good s → Good s' → Move s b s'
    → ((i : ℕ) → Live (s.txns i) → rank (s.txns i).phase ≡ phase_installed → s' ≡ becomes s i Ended → ⊥) → (r : ℕ) → live_row s' r ≡ live_row s r
live-kept s s' = go s'
  where
    go : {b : ℕ} (s' : Store) → Good s → Good s' → Move s b s'
        → ((i : ℕ) → Live (s.txns i) → rank (s.txns i).phase ≡ phase_installed → s' ≡ becomes s i Ended → ⊥) → (r : ℕ) → live_row s' r ≡ live_row s r
    go s' g g' (stay i) no_end r = refl
    go s' g g' (did-begin i a b c d) no_end r = live-set s s' i _ refl refl (λ l e. omega arith) (λ e. omega arith) g g' r
    go s' g g' (did-mark i a b) no_end r = live-set s s' i _ refl refl (λ l e. omega arith) (λ e. omega arith) g g' r
    go s' g g' (did-capture i k a b c) no_end r = live-set s s' i _ refl refl (λ l e. omega arith) (λ e. omega arith) g g' r
    go s' g g' (did-collect i a b) no_end r = live-set s s' i _ refl refl (λ l e. omega arith) (λ e. omega arith) g g' r
    go s' g g' (did-rows i a b c) no_end r = live-set s s' i _ refl refl (λ l e. omega arith) (λ e. omega arith) g g' r
    go s' g g' (did_write i w a b c d) no_end r = live-set s s' i _ refl refl (λ l e. omega arith) (λ e. omega arith) g g' r
    go s' g g' (did-prepare i a b c) no_end r = live-set s s' i _ refl refl (λ l e. omega arith) (λ e. omega arith) g g' r
    go s' g g' (did-install i a b) no_end r = live-install s i g g' a b r
    go s' g g' (did-end i a b) no_end r = absurd (no_end i a b refl)
    go s' g g' (did-publish i a b) no_end r = live-set s s' i _ refl refl (λ l e. omega arith) (λ e. omega arith) g g' r
    go s' g g' (did-abort i a b) no_end r = live-set s s' i _ refl refl (λ l e. omega arith) (λ e. omega arith) g g' r

-- a publish ends nobody, so it shows nothing new
publish-ends-none : (s : Store) (t i : ℕ) → Live (s.txns i) → rank (s.txns i).phase ≡ phase_installed → (step s (publish t)).store ≡ becomes s i Ended → ⊥
unfolding accepted
publish-ends-none s t i l a e = go (ℕ_discrete (number s (publish t)) 0)
  where
    sixth : rank ((becomes s i Ended).txns i).phase ≡ phase_ended
    sixth = ap (λ (v : Txn). rank v.phase) (update_same s.txns i (with_phase (s.txns i) Ended))

    go : Dec (number s (publish t) ≡ 0) → ⊥
    go (yes ok) = let ticks : s.clock ≡ suc s.clock = sym (ap (λ w. w.clock) e) ∙ ap (λ v. v.store.clock) (done-does s (publish t) ok) in
        omega (arith, ticks)
    go (no d) = ⊎_elim
        (λ f. omega (arith, a, sixth, ap (λ w. rank (w.txns i).phase) (sym e ∙ f)))
        (λ f. omega (
          arith,
          a,
          sixth,
          ap (λ w. rank (w.txns i).phase) (sym e ∙ f),
          ap rank (update-field (λ (v : Txn). v.phase) s.txns (at s t) (marked_txn (s.txns (at s t))) i refl),
        ))
        (refused-store s (publish t) d)

pub rows-published : (s : Store) → Good s → (ns : List ℕ) (r : ℕ) → live_row (run s (map publish ns)) r ≡ live_row s r
unfolding run
rows-published s g [] r = refl
rows-published s g (t ∷ ns) r =
    let s' = (step s (publish t)).store in
    let g' = good-move s s' g (step_move s (publish t)) in
    rows-published s' g' ns r ∙ live-kept s s' g g' (step_move s (publish t)) (publish-ends-none s t) r
