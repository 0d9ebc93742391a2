-- The claim keeps the head: from an accepted prepare on nobody else gives a version to its pending rows, so install and publish see what prepare saw; and one
-- that erases nothing leaves nothing. Assumes nothing.
use mathlib.Core.Path.{◌≡◌, refl, sym, ap, ◌∙◌}
use mathlib.Core.Bool.{true}
use mathlib.Core.Logic.{◌≢◌, inl, ⊎_elim}
use mathlib.Core.List.{List, [], ◌∷◌}
use Prim.Native.Nat.{ℕ, ◌≤◌, ◌<◌}
use native.Mathlib.Omega.{arith}
use Rattle.base_limits.specs.Limits.{last_number}
use Rattle.base_lists.specs.Lists.{member, join, Among}
use Rattle.base_lists.specs.Table.{update, update_all}
use Rattle.base_lists.proofs.TableLaws.{update-elim}
use Rattle.base_lists.proofs.ListLaws.{pick-among}
use Rattle.model.specs.Store.{Sizes, Chains, Prepared, Installed, Ended, Txn, Store, no_txn, fresh, rank, phase_open, phase_prepared, phase_installed}
use Rattle.model.specs.Seeing.{key_at}
use Rattle.model.specs.Steps.{new_txn, with_phase, pending_rows, old_key, version_rows, made_rows, prepared, push_all, installed, changed_buckets}
use Rattle.model.specs.Refusals.{Step, prepare, install, publish, txn_of}
use Rattle.model.specs.Machine.{at, accepted, step, run, can_open}
use Rattle.model.specs.Holding.{Writes, Gets, Made, ErasesNothing}
use Rattle.model.specs.Given.{number, Lives}
use Rattle.model.specs.Demands.{HeadKept, CostsNothing}
use Rattle.model.proofs.Tests.{lives-number}
use Rattle.model.proofs.Move.{Move, stay, did-begin, did-mark, did-capture, did-collect, did-rows, did_write, did-prepare, did-install, did-end}
use Rattle.model.proofs.Move.{did-publish, did-abort}
use Rattle.model.proofs.Moving.{step_move, run-inv}
use Rattle.model.proofs.Numbers.{clock-move}
use Rattle.model.proofs.Holders.{one-claim, repost-elim}
use Rattle.model.proofs.Made.{gets-writes, made-writes, made-head, which-made, gets-or-not, nothing-got, version_rows-same}
use Rattle.model.proofs.Grown.{Grown}
use Rattle.model.proofs.Written.{key_at-grown, installs, posted-new}
use Rattle.model.proofs.Good.{Good, good-move, good-run, sizes_run, opened-good}
use Rattle.model.proofs.Refused.{prepare-0, install-0, publish-0}
use Rattle.model.proofs.Outcomes.{done-does}

-- row r is headed in c as it was in c₁
record SameHead (c₁ c : Chains) (r : ℕ) : Type 0 where
  head-is : c.head r ≡ c₁.head r
  key-is : old_key c r ≡ old_key c₁ r
  xmin-is : c.xmin (c.head r) ≡ c₁.xmin (c₁.head r)

-- row r is headed in c by a version of transaction n, over the head that it had in c₁
record OverHead (c₁ : Chains) (n : ℕ) (c : Chains) (r : ℕ) : Type 0 where
  head-pos : 1 ≤ c.head r
  xmin-is : c.xmin (c.head r) ≡ n
  next-is : c.next (c.head r) ≡ c₁.head r

-- a row that an install leaves alone
module _ (x : Txn) (rs : List ℕ) (c₁ c c' : Chains) (gr : Grown x rs c c') (r : ℕ) (u : c.head r ≤ c.used) (e : c'.head r ≡ c.head r) where
  same-grown : SameHead c₁ c r → SameHead c₁ c' r
  same-grown h = record {
    head-is = e ∙ h.head-is;
    key-is = ap (key_at c') e ∙ (key_at-grown x rs c c' gr (c.head r) u ∙ h.key-is);
    xmin-is = ap c'.xmin e ∙ (gr.xmin-old (c.head r) u ∙ h.xmin-is);
  }

  over-grown : (n : ℕ) → OverHead c₁ n c r → OverHead c₁ n c' r
  over-grown n h = record {
    head-pos = omega (arith, h.head-pos);
    xmin-is = ap c'.xmin e ∙ (gr.xmin-old (c.head r) u ∙ h.xmin-is);
    next-is = ap c'.next e ∙ (gr.next-old (c.head r) u ∙ h.next-is);
  }

-- what stays of a prepare by x₁ that saw the versions c₁; x is the transaction now, and c the versions
record Keeps (c₁ : Chains) (x₁ : Txn) (z : Sizes) (c : Chains) (x : Txn) : Type 0 where
  writes_are : x.writes ≡ x₁.writes
  late : phase_prepared ≤ rank x.phase
  waits : rank x.phase ≡ phase_prepared → (r : ℕ) → Writes z x₁ r → SameHead c₁ c r
  over : phase_installed ≤ rank x.phase → (r : ℕ) → Gets z c₁ x₁ r → OverHead c₁ x₁.number c r
  stays : phase_installed ≤ rank x.phase → (r : ℕ) → Writes z x₁ r → (Gets z c₁ x₁ r → ⊥) → SameHead c₁ c r

-- of the transaction of that number, as long as it lives; no other gets its number
record KeepsAt (c₁ : Chains) (x₁ : Txn) (s : Store) : Type 0 where
  number-pos : 1 ≤ x₁.number
  number-old : x₁.number < s.clock
  here : (i : ℕ) → (s.txns i).number ≡ x₁.number → Keeps c₁ x₁ s.sizes s.chains (s.txns i)

module _ (c₁ : Chains) (x₁ : Txn) where
  -- the rows that get a version are those that prepare saw
  gets-as-seen : (z : Sizes) (c : Chains) (x : Txn) → Keeps c₁ x₁ z c x → rank x.phase ≡ phase_prepared
      → version_rows z c x.writes ≡ version_rows z c₁ x₁.writes
  gets-as-seen z c x k a = ap (version_rows z c) k.writes_are ∙ version_rows-same z c₁ c x₁ (λ r w. (k.waits a r w).key-is)

  -- and those that got one
  made-as-seen : (z : Sizes) (c : Chains) (x : Txn) → Keeps c₁ x₁ z c x → ((r : ℕ) → 1 ≤ c₁.head r → c₁.xmin (c₁.head r) ≢ x₁.number)
      → phase_installed ≤ rank x.phase → made_rows z c x₁.number x₁.writes ≡ version_rows z c₁ x₁.writes
  unfolding made_rows version_rows
  made-as-seen z c x k none-own a = pick-among _ _ 0 z.rows forth back
    where
      forth : (r : ℕ) → Made z c x₁ r → Gets z c₁ x₁ r
      forth r m = let w = made-writes z c x₁ r m in
          ⊎_elim (λ g. g) (λ e. absurd (not_own (k.stays a r w (nothing-got z c₁ x₁ r e)) (made-head z c x₁ r m))) (gets-or-not z c₁ x₁ r w)
        where
          not_own : SameHead c₁ c r → (1 ≤ c.head r) × (c.xmin (c.head r) ≡ x₁.number) → ⊥
          not_own h p = none-own r (omega (arith, h.head-is, p.0)) (sym h.xmin-is ∙ p.1)

      back : (r : ℕ) → Gets z c₁ x₁ r → Made z c x₁ r
      back r m = let h = k.over a r m in which-made z c x₁ r (gets-writes z c₁ x₁ r m) h.head-pos h.xmin-is

  -- one place is filled by another, or freed
  keeps-other : (s : Store) (i : ℕ) (x : Txn) → KeepsAt c₁ x₁ s → x.number ≢ x₁.number → (j : ℕ) → (update s.txns i x j).number ≡ x₁.number
      → Keeps c₁ x₁ s.sizes s.chains (update s.txns i x j)
  keeps-other s i x w e j =
      update-elim (λ y. y.number ≡ x₁.number → Keeps c₁ x₁ s.sizes s.chains y) s.txns i x j (λ d p. absurd (e p)) (λ d p. w.here j p)

  -- one goes on that is not yet Prepared, so it is another
  keeps-early : (s : Store) (i : ℕ) (x : Txn) → KeepsAt c₁ x₁ s → x.number ≡ (s.txns i).number → rank (s.txns i).phase < phase_prepared → (j : ℕ)
      → (update s.txns i x j).number ≡ x₁.number → Keeps c₁ x₁ s.sizes s.chains (update s.txns i x j)
  keeps-early s i x w e a = keeps-other s i x w (λ p. omega (arith, (w.here i (sym e ∙ p)).late))

  keeps-end : (s : Store) (i : ℕ) → KeepsAt c₁ x₁ s → rank (s.txns i).phase ≡ phase_installed → let x = with_phase (s.txns i) Ended in (j : ℕ)
      → (update s.txns i x j).number ≡ x₁.number → Keeps c₁ x₁ s.sizes s.chains (update s.txns i x j)
  keeps-end s i w a j = update-elim (λ y. y.number ≡ x₁.number → Keeps c₁ x₁ s.sizes s.chains y) s.txns i (with_phase (s.txns i) Ended) j
      (λ d p. let k = w.here i p in
      record {
        writes_are = k.writes_are;
        late = omega arith;
        waits = λ b. absurd (omega arith);
        over = λ b. k.over (omega arith);
        stays = λ b. k.stays (omega arith);
      })
      (λ d p. w.here j p)

  module _ (s : Store) (i : ℕ) (g : Good s) (a : rank (s.txns i).phase ≡ phase_prepared) where
    gr : Grown (s.txns i) (version_rows s.sizes s.chains (s.txns i).writes) s.chains (installed s i).chains
    gr = installs s i g.chained

    same-on : (r : ℕ) → (installed s i).chains.head r ≡ s.chains.head r → SameHead c₁ s.chains r → SameHead c₁ (installed s i).chains r
    same-on r e = same-grown (s.txns i) _ c₁ s.chains (installed s i).chains gr r (g.chained.heads-in r) e

    over-on : (r : ℕ) → (installed s i).chains.head r ≡ s.chains.head r → OverHead c₁ x₁.number s.chains r
        → OverHead c₁ x₁.number (installed s i).chains r
    over-on r e = over-grown (s.txns i) _ c₁ s.chains (installed s i).chains gr r (g.chained.heads-in r) e x₁.number

    -- its own install: over the heads that prepare saw
    keeps-own : (s.txns i).number ≡ x₁.number → Keeps c₁ x₁ s.sizes s.chains (s.txns i)
        → Keeps c₁ x₁ s.sizes (installed s i).chains (with_phase (s.txns i) Installed)
    keeps-own p k =
        let same = gets-as-seen s.sizes s.chains (s.txns i) k a in
        record {
          writes_are = k.writes_are;
          late = omega arith;
          waits = λ b. absurd (omega arith);
          over = λ b r m. let h = gr.head-new r (rw same m) in
              record {
                head-pos = omega (arith, h.above);
                xmin-is = h.xmin-is ∙ p;
                next-is = h.next-is ∙ (k.waits a r (gets-writes s.sizes c₁ x₁ r m)).head-is;
              };
          stays = λ b r w no. same-on r (gr.head-old r (λ m. no (rw same at m))) (k.waits a r w);
        }

    -- the install of another leaves its rows alone, for they are claimed
    keeps-apart : (j : ℕ) → j ≢ i → Keeps c₁ x₁ s.sizes s.chains (s.txns j) → Keeps c₁ x₁ s.sizes (installed s i).chains (s.txns j)
    keeps-apart j d k = record {
      writes_are = k.writes_are;
      late = k.late;
      waits = λ b r w. same-on r (alone r w) (k.waits b r w);
      over = λ b r m. over-on r (alone r (gets-writes s.sizes c₁ x₁ r m)) (k.over b r m);
      stays = λ b r w no. same-on r (alone r w) (k.stays b r w no);
    }
      where
        alone : (r : ℕ) → Writes s.sizes x₁ r → (installed s i).chains.head r ≡ s.chains.head r
        alone r w = gr.head-old r
            (λ m. d (one-claim s i g.numbers g.holders j i r (k.late, rw k.writes_are w)
            (omega arith, gets-writes s.sizes s.chains (s.txns i) r m)))

    keeps-install : KeepsAt c₁ x₁ s → (j : ℕ) → ((installed s i).txns j).number ≡ x₁.number
        → Keeps c₁ x₁ s.sizes (installed s i).chains ((installed s i).txns j)
    keeps-install w j = update-elim (λ y. y.number ≡ x₁.number → Keeps c₁ x₁ s.sizes (installed s i).chains y) s.txns i
        (with_phase (s.txns i) Installed) j
        (λ d p. keeps-own p (w.here i p))
        (λ d p. keeps-apart j d (w.here j p))

  here-move : (s s' : Store) {a : ℕ} → Good s → KeepsAt c₁ x₁ s → Move s a s' → (j : ℕ) → (s'.txns j).number ≡ x₁.number
      → Keeps c₁ x₁ s'.sizes s'.chains (s'.txns j)
  here-move s s' = go s'
    where
      go : {a : ℕ} (s' : Store) → Good s → KeepsAt c₁ x₁ s → Move s a s' → (j : ℕ) → (s'.txns j).number ≡ x₁.number
          → Keeps c₁ x₁ s'.sizes s'.chains (s'.txns j)
      go s' g w (stay i) = w.here
      go s' g w (did-begin i a b c d) = keeps-other s i (new_txn s) w (λ e. omega (arith, w.number-old))
      go s' g w (did-mark i a b) = keeps-early s i _ w refl (omega arith)
      go s' g w (did-capture i k a b c) = keeps-early s i _ w refl (omega arith)
      go s' g w (did-collect i a b) = keeps-early s i _ w refl (omega arith)
      go s' g w (did-rows i a b c) = keeps-early s i _ w refl (omega arith)
      go s' g w (did_write i v a b c d) = keeps-early s i _ w refl (omega arith)
      go s' g w (did-prepare i a b c) = keeps-early s i _ w refl (omega arith)
      go s' g w (did-install i a b) = keeps-install s i g b w
      go s' g w (did-end i a b) = keeps-end s i w b
      go s' g w (did-publish i a b) = keeps-other s i no_txn w (λ e. omega (arith, w.number-pos))
      go s' g w (did-abort i a b) = keeps-other s i no_txn w (λ e. omega (arith, w.number-pos))

  keeps-move : (s s' : Store) {a : ℕ} → Good s → KeepsAt c₁ x₁ s → Move s a s' → KeepsAt c₁ x₁ s'
  keeps-move s s' g w m = record { number-pos = w.number-pos; number-old = omega (arith, w.number-old, clock-move s s' m); here = here-move s s' g w m }

  keeps-run : (s : Store) → Good s → KeepsAt c₁ x₁ s → (more : List Step) → KeepsAt c₁ x₁ (run s more)
  keeps-run s g w more = (run-inv (λ v. Good v × KeepsAt c₁ x₁ v) (λ v v' i p m. (good-move v v' p.0 m, keeps-move v v' p.0 p.1 m)) s more (g, w)).1

module _ (s₁ : Store) (t : ℕ) (g : Good s₁) (l : Lives s₁ t) (a : rank (txn_of s₁ t).phase ≡ phase_open) where
  numbered : (txn_of s₁ t).number ≡ t
  numbered = lives-number s₁ t l

  -- the store that an accepted prepare leaves
  keeps-prepared : KeepsAt s₁.chains (txn_of s₁ t) (prepared s₁ (at s₁ t))
  keeps-prepared = record {
    number-pos = omega (arith, numbered, l.3);
    number-old = g.numbers.below (at s₁ t);
    here = λ j. update-elim (λ y. y.number ≡ (txn_of s₁ t).number → Keeps s₁.chains (txn_of s₁ t) s₁.sizes s₁.chains y) s₁.txns (at s₁ t)
        (with_phase (txn_of s₁ t) Prepared) j
        (λ e p. record {
          writes_are = refl;
          late = omega arith;
          waits = λ b r w. record { head-is = refl; key-is = refl; xmin-is = refl };
          over = λ b. absurd (omega arith);
          stays = λ b. absurd (omega arith);
        })
        (λ d p. absurd (d (sym (g.numbers.distinct (at s₁ t) j (omega (arith, numbered, l.3)) (sym p)))));
  }

  -- who is Open has made no version
  none-own : (r : ℕ) → 1 ≤ s₁.chains.head r → s₁.chains.xmin (s₁.chains.head r) ≢ (txn_of s₁ t).number
  none-own r p e = omega (arith, (g.written.made (s₁.chains.head r) (at s₁ t) p (g.chained.heads-in r) (omega (arith, numbered, l.3)) e).0)

  -- what is kept of it in s
  kept-in : (s : Store) → s.sizes ≡ s₁.sizes → Keeps s₁.chains (txn_of s₁ t) s₁.sizes s.chains (txn_of s t) → HeadKept s₁ s t
  kept-in s e k = record {
    writes-stay = k.writes_are;
    from-prepared = k.late;
    head-waits = λ b r w. (k.waits b r w).head-is;
    gets-same = λ b. rw e (gets-as-seen s₁.chains (txn_of s₁ t) s₁.sizes s.chains (txn_of s t) k b);
    made-same = λ b. rw (e, k.writes_are) (ap (λ m. made_rows s₁.sizes s.chains m (txn_of s₁ t).writes) (sym numbered)
        ∙ made-as-seen s₁.chains (txn_of s₁ t) s₁.sizes s.chains (txn_of s t) k none-own b);
    made-over = λ b r m. (k.over b r m).next-is;
    head-stays = λ b r w no. (k.stays b r w no).head-is;
  }

pub head-kept : (z : Sizes) (clock : ℕ) (before : List Step) → can_open z clock ≡ true → clock ≤ last_number → (t : ℕ) (more : List Step) →
    let s₁ = run (fresh z clock) before in
    let s = run (step s₁ (prepare t)).store more in
    number s₁ (prepare t) ≡ 0 → Lives s t → HeadKept s₁ s t
unfolding accepted
head-kept z clock before e c t more o l =
    let s₁ = run (fresh z clock) before in
    let s₂ = (step s₁ (prepare t)).store in
    let s = run s₂ more in
    let g = opened-good z clock before e c in
    let r = ((prepare-0 s₁ t).0 o).0 in
    let after : s₂ ≡ prepared s₁ (at s₁ t) = ap (λ w. w.store) (done-does s₁ (prepare t) o) in
    let sizes : s.sizes ≡ s₁.sizes = sizes_run s₂ more ∙ ap (λ w. w.sizes) after in
    let w = keeps-run s₁.chains (txn_of s₁ t) s₂ (good-move s₁ s₂ g (step_move s₁ (prepare t))) (rw after (keeps-prepared s₁ t g r.1 r.2)) more in
    kept-in s₁ t g r.1 r.2 s sizes (rw sizes at (w.here (at s t) (lives-number s t l ∙ sym (lives-number s₁ t r.1))))

-- ---- where every pending row erases nothing

no-entries : (xs : List ℕ) → ((x : ℕ) → Among x xs → ⊥) → xs ≡ []
no-entries [] empty = refl
no-entries (x ∷ xs) empty = absurd (empty x (inl refl))

module _ (s : Store) (t : ℕ) (g : Good s) (l : Lives s t) where
  -- no row gets a version
  nothing-installed : version_rows s.sizes s.chains (txn_of s t).writes ≡ [] → number s (install t) ≡ 0 → (step s (install t)).store.chains ≡ s.chains
  unfolding accepted push_all
  nothing-installed e z = ap (λ w. w.store.chains) (done-does s (install t) z) ∙ rw e

  -- no row got one
  module _ (e : made_rows s.sizes s.chains t (txn_of s t).writes ≡ []) (z : number s (publish t) ≡ 0) where
    made_none : made_rows s.sizes s.chains (txn_of s t).number (txn_of s t).writes ≡ []
    made_none = ap (λ n. made_rows s.sizes s.chains n (txn_of s t).writes) (lives-number s t l) ∙ e

    nothing-published : (step s (publish t)).store.chains ≡ s.chains
    unfolding accepted
    nothing-published = ap (λ w. w.store.chains) (done-does s (publish t) z)

    nothing-stamped : (b : ℕ) → (step s (publish t)).store.index.stamp b ≡ s.index.stamp b
    unfolding accepted update_all changed_buckets join member
    nothing-stamped b = ap (λ w. w.store.index.stamp b) (done-does s (publish t) z) ∙ rw made_none

    nothing-posted : (r : ℕ) → (step s (publish t)).store.index.posted r ≡ s.index.posted r
    unfolding accepted
    nothing-posted r = ap (λ w. w.store.index.posted r) (done-does s (publish t) z)
        ∙ repost-elim (λ o. o ≡ s.index.posted r) (txn_of s t) (pending_rows s.sizes (txn_of s t).writes) s.index.posted r
        (λ w. sym (posted-new s g.numbers g.holders g.written (at s t) r (omega (arith, lives-number s t l, l.3))
        (omega (arith, ((publish-0 s t).0 z).2)) w (λ m. rw made_none at m)))
        (λ d. refl)

pub costs-nothing : (z : Sizes) (clock : ℕ) (before : List Step) → can_open z clock ≡ true → clock ≤ last_number → (t : ℕ) (more : List Step) →
    let s₁ = run (fresh z clock) before in
    let s = run (step s₁ (prepare t)).store more in
    number s₁ (prepare t) ≡ 0 → Lives s t → ((r : ℕ) → Writes s₁.sizes (txn_of s₁ t) r → ErasesNothing s₁.chains (txn_of s₁ t) r) → CostsNothing s t
costs-nothing z clock before e c t more o l nothing =
    let s₁ = run (fresh z clock) before in
    let s = run (step s₁ (prepare t)).store more in
    let k = head-kept z clock before e c t more o l in
    let g = good-run _ (good-move s₁ _ (opened-good z clock before e c) (step_move s₁ (prepare t))) more in
    let none = no-entries (version_rows s₁.sizes s₁.chains (txn_of s₁ t).writes)
    (λ r m. nothing-got s₁.sizes s₁.chains (txn_of s₁ t) r (nothing r (gets-writes s₁.sizes s₁.chains (txn_of s₁ t) r m)) m) in
    let made : number s (publish t) ≡ 0 → made_rows s.sizes s.chains t (txn_of s t).writes ≡ [] =
    λ d. k.made-same (omega (arith, ((publish-0 s t).0 d).2)) ∙ none in
    record {
      installs-none = λ d. nothing-installed s t g l (k.gets-same ((install-0 s t).0 d).2 ∙ none) d;
      publishes-none = λ d. nothing-published s t g l (made d) d;
      stamps-none = λ d. nothing-stamped s t g l (made d) d;
      posts-none = λ d. nothing-posted s t g l (made d) d;
    }
