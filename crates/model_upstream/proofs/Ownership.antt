-- Ownership: a lease is the holder's number, and another actor's event is another transaction's step.
-- Assumes nothing.
use Prim.Native.Nat.{ℕ, ◌≤◌, ◌<◌}
use mathlib.Core.Path.{◌≡◌, refl, sym, ap, ◌∙◌}
use mathlib.Core.Bool.{true, true≢false}
use mathlib.Core.Logic.{◌≢◌, ◌⊎◌, inl, inr, ⊎_elim}
use mathlib.Core.List.{List, [], ◌∷◌}
use native.Mathlib.Decide.{dec_lt}
use native.Mathlib.Omega.{arith}
use borrow.Author.Tests.{ne_eqb}
use Rattle.base_limits.specs.Limits.{most_live}
use Rattle.base_lists.specs.Table.{update}
use Rattle.base_lists.proofs.TableLaws.{update_same, update_other, update-elim, update_all-elim}
use Rattle.base_lists.proofs.ListLaws.{member-among, none_each}
use Rattle.model.specs.Store.{Store, bucket_in, key_in}
use Rattle.model.specs.Steps.{release, needed_buckets}
use Rattle.model.specs.Refusals.{Step, capture, collect, by_another, txn_of}
use Rattle.model.specs.Machine.{at, actor, accepted, step, run}
use Rattle.model.specs.Seeing.{Live}
use Rattle.model.specs.Holding.{Wants}
use Rattle.model.specs.Given.{number, Lives, Free, ByAnother, bucket_for}
use Rattle.model.proofs.Move.{Move, stay, did-begin, did-mark, did-capture, did-collect, did-rows, did_write, did-prepare, did-install, did-end, did-publish}
use Rattle.model.proofs.Move.{did-abort}
use Rattle.model.proofs.Numbers.{Numbering, began, kept, numbering, in-place}
use Rattle.model.proofs.Phases.{holding-is}
use Rattle.model.proofs.Holders.{wants-busy}
use Rattle.model.proofs.Owned.{has-none, release-elim}
use Rattle.model.proofs.Good.{Good, good-move, good-run}
use Rattle.model.proofs.Refused.{capture-0}
use Rattle.model.proofs.Outcomes.{refused-store, done-does}
use Rattle.model.proofs.Tests.{place-number, lives-number}
use Rattle.model.proofs.Moving.{step_move, run-inv}
use Rattle.model_upstream.specs.Clauses.{Gone, Others}

-- `valid`: who holds a bucket is live, and its number is below the clock
pub valid : (s : Store) → Good s → (b : ℕ) → s.held.holder b ≢ 0 → Lives s (s.held.holder b) × (s.held.holder b < s.clock)
valid s g b h =
    let w = g.holders.buckets.owner b h in
    let e : s.held.holder b ≡ (s.txns w.0).number = w.1 in
    let l : Live (s.txns w.0) = omega (arith, h) in
    ((w.0, in-place s.clock s.txns g.numbers w.0 l, sym e, omega arith), omega (arith, g.numbers.below w.0))

-- `try_acquire`, `acquire_index_bucket`: an accepted capture holds its bucket, and every other bucket is as it was (`framed`)
module _ (s : Store) (t k : ℕ) (e : number s (capture t k) ≡ 0) where
  after-capture : (step s (capture t k)).store.held.holder ≡ update s.held.holder (bucket_for s k) t
  unfolding accepted
  after-capture = ap (λ w. w.store.held.holder) (done-does s (capture t k) e)
      ∙ ap (update s.held.holder (bucket_for s k)) (lives-number s t ((capture-0 s t k).0 e).0.1)

  pub acquired : (step s (capture t k)).store.held.holder (bucket_for s k) ≡ t
  acquired = rw after-capture (update_same s.held.holder (bucket_for s k) t)

  pub framed : (b : ℕ) → b ≢ bucket_for s k → (step s (capture t k)).store.held.holder b ≡ s.held.holder b
  framed b d = rw after-capture (update_other s.held.holder (bucket_for s k) t b d)

-- in a reached store the bucket was free: one who is Open holds nothing
pub was_free : (s : Store) → Good s → (t k : ℕ) → number s (capture t k) ≡ 0 → s.held.holder (bucket_for s k) ≡ 0
was_free s g t k e =
    let w = (capture-0 s t k).0 e in
    let n = lives-number s t w.0.1 in
    let busy = wants-busy s.sizes s.index.posted in
    let none = has-none (Wants s.sizes s.index.posted) busy s.held.holder s.clock s.txns g.numbers g.holders.buckets (at s t)
    (bucket_for s k) (omega (arith, n, w.0.1.3)) (λ v. omega (arith, busy (txn_of s t) (bucket_for s k) v, w.0.2)) in
    ⊎_elim (λ z. z) (λ f. absurd (none (f ∙ sym n))) w.1.1.0

-- a refused step takes and frees nothing
pub refused-holds : (s : Store) (a : Step) → number s a ≢ 0 → (step s a).store.held ≡ s.held
refused-holds s a d = ⊎_elim (ap (λ w. w.held)) (ap (λ w. w.held)) (refused-store s a d)

-- `competing_acquire_is_excluded`: a bucket that another holds is not captured
pub excluded : (s : Store) (t k : ℕ) → ByAnother s.held.holder t (bucket_for s k) → number s (capture t k) ≢ 0
excluded s t k h e = ⊎_elim h.0 h.1 ((capture-0 s t k).0 e).1.1.0

-- `drop_lease`: collect frees the bucket and no other
module _ (s : Store) (t : ℕ) (e : number s (collect t) ≡ 0) where
  after-collect : (step s (collect t)).store.held.holder ≡ update s.held.holder (bucket_in (txn_of s t).phase) 0
  unfolding accepted
  after-collect = ap (λ w. w.store.held.holder) (done-does s (collect t) e)

  pub dropped : (step s (collect t)).store.held.holder (bucket_in (txn_of s t).phase) ≡ 0
  dropped = rw after-collect (update_same s.held.holder (bucket_in (txn_of s t).phase) 0)

  pub drop-framed : (b : ℕ) → b ≢ bucket_in (txn_of s t).phase → (step s (collect t)).store.held.holder b ≡ s.held.holder b
  drop-framed b d = rw after-collect (update_other s.held.holder (bucket_in (txn_of s t).phase) 0 b d)

  -- `release_then_handoff`, `foreign_release_between_attempts`: then nobody is kept from it by a holder
  pub handed-over : (u : ℕ) → Free (step s (collect t)).store.held.holder u (bucket_in (txn_of s t).phase)
  handed-over u = inl dropped

-- `release_all`: what is freed no longer carries the number, and what another holds is as it was
pub released : (n : ℕ) (h : ℕ → ℕ) (b : ℕ) → n ≢ 0 → release n h b ≢ n
released n h b d = release-elim (λ m. m ≢ n) n h b (λ e z. d (sym z)) (λ f. f)

pub release-framed : (n : ℕ) (h : ℕ → ℕ) (b : ℕ) → h b ≢ n → release n h b ≡ h b
unfolding release
release-framed n h b d = rw (ne_eqb (h b) n d)

-- `environment`, `protected_valid`, `acquire_preserving_borrows`, `drop_preserving_borrows`: no step of another takes or frees what somebody holds
another-true : (h : ℕ → ℕ) (n b : ℕ) → h b ≢ 0 → h b ≢ n → by_another h n b ≡ true
unfolding by_another
another-true h n b y d = rw (ne_eqb (h b) 0 y, ne_eqb (h b) n d)

module _ (s : Store) (g : Good s) (b : ℕ) (y : s.held.holder b ≢ 0) where
  held-through : (s' : Store) {i : ℕ} → Move s i s' → s.held.holder b ≢ (s.txns i).number → s'.held.holder b ≡ s.held.holder b
  held-through s' = go s'
    where
      go : {i : ℕ} (s' : Store) → Move s i s' → s.held.holder b ≢ (s.txns i).number → s'.held.holder b ≡ s.held.holder b
      go s' (stay i) d = refl
      go s' (did-begin i p q u v) d = refl
      go s' (did-mark i p q) d = refl
      go s' (did-capture i k p q c) d =
          update-elim (◌≡ s.held.holder b) s.held.holder _ _ b
          (λ e. absurd (true≢false (sym (another-true s.held.holder _ b y d) ∙ (rw (← e) at c.free)))) (λ f. refl)
      go s' (did-collect i p q) d =
          let ph = (s.txns i).phase in
          update-elim (◌≡ s.held.holder b) s.held.holder _ _ b
          (λ e. absurd (d (ap s.held.holder e ∙ g.holders.buckets.owns i (bucket_in ph) (inl (key_in ph, holding-is ph q))))) (λ f. refl)
      go s' (did-rows i p q u) d = refl
      go s' (did_write i w p q u v) d = refl
      go s' (did-prepare i p q c) d =
          update_all-elim (◌≡ s.held.holder b) s.held.holder (needed_buckets s (s.txns i)) _ b
          (λ e. absurd (true≢false (sym (another-true s.held.holder _ b y d)
          ∙ none_each _ (needed_buckets s (s.txns i)) c.buckets-free b (member-among b _ e))))
          (λ f. refl)
      go s' (did-install i p q) d = refl
      go s' (did-end i p q) d = refl
      go s' (did-publish i p q) d = release-framed (s.txns i).number s.held.holder b d
      go s' (did-abort i p q) d = release-framed (s.txns i).number s.held.holder b d

  -- who acts stands at its place, or nobody does
  actor-number : (a : Step) → ((s.txns (at s (actor a))).number ≡ actor a) ⊎ ((s.txns (at s (actor a))).number ≡ 0)
  actor-number a = elim (dec_lt (at s (actor a)) most_live)
      [ yes l ↦ inl (place-number s (actor a) l) | no l ↦ inr (g.numbers.beyond (at s (actor a)) (omega (arith, l))) ]

  step-of-another : (a : Step) → s.held.holder b ≢ actor a → (step s a).store.held.holder b ≡ s.held.holder b
  step-of-another a d = held-through _ (step_move s a) (λ e. ⊎_elim (λ f. d (e ∙ f)) (λ f. y (e ∙ f)) (actor-number a))

pub environment : (s : Store) → Good s → (b : ℕ) → s.held.holder b ≢ 0 → (more : List Step) → Others (s.held.holder b) more
    → (run s more).held.holder b ≡ s.held.holder b
unfolding run
environment s g b y [] o = refl
environment s g b y (a ∷ more) o =
    let e = step-of-another s g b y a o.0 in
    environment (step s a).store (good-run s g (a ∷ [])) b (λ z. y (sym e ∙ z)) more (rw e o.1) ∙ e

-- `no_resurrection`: a number below the clock that is not live never is again, so it never holds a bucket or claims a row again
dead-through : (s s' : Store) {i : ℕ} → Move s i s' → (n : ℕ) → n ≢ 0 → n < s.clock → ((j : ℕ) → (s.txns j).number ≢ n) → (j : ℕ) → (s'.txns j).number ≢ n
dead-through s s' m n y l h j = go (numbering s s' m)
  where
    go : Numbering s s' → (s'.txns j).number ≢ n
    go (began i e p q u) = rw e (update-elim (λ x. x.number ≢ n) s.txns i _ j (λ f z. omega arith) (λ f. h j))
    go (kept k c) = λ z. h j (sym (k.number j (omega (arith, z, y))) ∙ z)

-- the clock does not fall, so what is below it stays so
clock-grows : (s s' : Store) {i : ℕ} → Move s i s' → s.clock ≤ s'.clock
clock-grows s s' m = go (numbering s s' m)
  where
    go : Numbering s s' → s.clock ≤ s'.clock
    go (began i e p q u) = rw e (omega arith)
    go (kept k c) = c

pub clock-rises : (s : Store) (more : List Step) → s.clock ≤ (run s more).clock
clock-rises s more = run-inv (λ v. s.clock ≤ v.clock) (λ v v' i d m. omega (arith, clock-grows v v' m)) s more (omega arith)

abbrev Dead : ℕ → Store → Type 0
Dead n s = Good s × (n < s.clock) × ((j : ℕ) → (s.txns j).number ≢ n)

dead-gone : (n : ℕ) → n ≢ 0 → (s : Store) → Dead n s → Gone s n
dead-gone n y s d = record {
  not_live = d.2;
  holds-none = λ b e. let w = d.0.holders.buckets.owner b (λ z. y (sym e ∙ z)) in d.2 w.0 (sym w.1 ∙ e);
  claims-none = λ r e. let w = d.0.holders.claims.owner r (λ z. y (sym e ∙ z)) in d.2 w.0 (sym w.1 ∙ e);
}

pub no-resurrection : (s : Store) → Good s → (n : ℕ) → n ≢ 0 → n < s.clock → ((j : ℕ) → (s.txns j).number ≢ n) → (more : List Step) → Gone (run s more) n
no-resurrection s g n y l h more =
    dead-gone n y (run s more)
    (run-inv (Dead n) (λ v v' i d m. (good-move v v' d.0 m, omega (arith, clock-grows v v' m, d.1), dead-through v v' m n y d.1 d.2)) s more
    (g, l, h))
