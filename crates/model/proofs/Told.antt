-- A live transaction that does not see a change of key is told of it: the maker is still live, or both keys' buckets are stamped above the transaction's
-- number. Assumes nothing.
use mathlib.Core.Path.{◌≡◌, refl, sym, ap, ◌∙◌}
use mathlib.Core.Bool.{Bool, true, false, cond, not, true≢false}
use mathlib.Core.Logic.{◌≢◌, ◌⊎◌, inl, inr, ⊎_elim}
use mathlib.Core.Option.{some}
use mathlib.Core.List.{[], ◌++◌}
use Prim.Native.Nat.{ℕ, ◌≤◌, ◌<◌}
use native.Mathlib.Omega.{arith}
use native.Mathlib.Decide.{ℕ_discrete}
use lib.Dec.{ltb}
use borrow.Author.Tests.{ltb-true, lt-ltb, not-true}
use Rattle.base_lists.specs.Lists.{member, Among}
use Rattle.base_lists.specs.Table.{update}
use Rattle.base_lists.proofs.TableLaws.{update-elim, update_same, update_other, update_all-elim}
use Rattle.base_lists.proofs.ListLaws.{and_l, and_r, is_false, member-among, among-member, not-member, among-left, among-right, which-join}
use Rattle.model.specs.Store.{Sizes, Chains, Snapshot, Installed, Txn, Store, no_txn, fresh, rank, phase_prepared, phase_installed, phase_ended, same_key}
use Rattle.model.specs.Store.{bucket_of}
use Rattle.model.specs.Seeing.{seen, key_at, Live}
use Rattle.model.specs.Steps.{with_phase, new_txn, begun, key_before, new_key, key_buckets, changed_buckets, installed, published, version_rows, made_rows}
use Rattle.model.specs.Holding.{Made}
use Rattle.model.proofs.Move.{Move, stay, did-begin, did-mark, did-capture, did-collect, did-rows, did_write, did-prepare, did-install, did-end}
use Rattle.model.proofs.Move.{did-publish, did-abort}
use Rattle.model.proofs.Chained.{Chained}
use Rattle.model.proofs.Numbers.{Numbers, BelowAt, Kept, kept_free, active-which}
use Rattle.model.proofs.SeeingLaws.{same-key, key-same, key-bucket}
use Rattle.model.proofs.Grown.{Grown}
use Rattle.model.proofs.Written.{WrittenAt, old-or-new, key_at-grown, installs}

-- what a snapshot sees, in facts
pub seen-which : (v : Snapshot) (n : ℕ) → seen v n ≡ true → (n < v.xmax) × (Among n v.active → ⊥)
unfolding seen
seen-which v n e = (
  ltb-true n v.xmax (and_l (ltb n v.xmax) (not (member n v.active)) e),
  (λ m. true≢false (sym (among-member n v.active m) ∙ not-true _ (and_r (ltb n v.xmax) (not (member n v.active)) e))),
)

pub which-seen : (v : Snapshot) (n : ℕ) → n < v.xmax → (Among n v.active → ⊥) → seen v n ≡ true
unfolding seen
which-seen v n l h = rw (lt-ltb n v.xmax l, not-member n v.active h)

pub unseen-late : (v : Snapshot) (n : ℕ) → v.xmax ≤ n → seen v n ≡ false
unseen-late v n l = is_false _ (λ e. omega (arith, (seen-which v n e).0))

pub unseen-active : (v : Snapshot) (n : ℕ) → Among n v.active → seen v n ≡ false
unseen-active v n m = is_false _ (λ e. (seen-which v n e).1 m)

pub unseen-which : (v : Snapshot) (n : ℕ) → seen v n ≡ false → n < v.xmax → Among n v.active
unseen-which v n e l = go (member n v.active) refl
  where
    go : (b : Bool) → member n v.active ≡ b → Among n v.active
    go true m = member-among n v.active m
    go false m = absurd (true≢false (sym (which-seen v n l (λ a. true≢false (sym (among-member n v.active a) ∙ m))) ∙ e))

-- version q has another key than the version under it
pub record KeyChange (c : Chains) (q : ℕ) : Type 0 where
  pub from : 1 ≤ q
  pub in_use : q ≤ c.used
  pub changes : same_key (key_at c q) (key_at c (c.next q)) ≡ false

-- k is one of the two keys
abbrev pub Carries : Chains → ℕ → ℕ → Type 0
Carries c q k = (key_at c q ≡ some k) ⊎ (key_at c (c.next q) ≡ some k)

-- number n is told of the change q: its maker lives, or the buckets of both keys are stamped above n
abbrev pub Learns : Sizes → Chains → (ℕ → ℕ) → (ℕ → Txn) → ℕ → ℕ → Type 0
Learns z c stamp t q n = ((m : ℕ) × Live (t m) × (c.xmin q ≡ (t m).number)) ⊎ ((k : ℕ) → Carries c q k → n < stamp (bucket_of z k))

abbrev pub Told : Sizes → Chains → (ℕ → ℕ) → (ℕ → Txn) → Type 0
Told z c stamp t = (q j : ℕ) → KeyChange c q → Live (t j) → seen (t j).snapshot (c.xmin q) ≡ false → Learns z c stamp t q (t j).number

abbrev pub ToldAt : Store → Type 0
ToldAt s = Told s.sizes s.chains s.index.stamp s.txns

-- versions stay, stamps do not fall, and who dies has stamped
told-frame : (z : Sizes) (c : Chains) (stamp stamp' : ℕ → ℕ) (t t' : ℕ → Txn) → Kept t t' → ((b : ℕ) → stamp b ≤ stamp' b)
    → ((q m : ℕ) → KeyChange c q → Live (t m) → c.xmin q ≡ (t m).number → Live (t' m) ⊎ ((j k : ℕ) → Carries c q k → (t j).number < stamp' (bucket_of z k)))
    → Told z c stamp t → Told z c stamp' t'
told-frame z c stamp stamp' t t' kp up fate g q j u l e = go (g q j u (omega (arith, kp.number j l)) (rw (kp.snapshot j l) at e))
  where
    fated : (m : ℕ) → c.xmin q ≡ (t m).number → Live (t' m) ⊎ ((j k : ℕ) → Carries c q k → (t j).number < stamp' (bucket_of z k))
        → Learns z c stamp' t' q (t' j).number
    fated m f (inl v) = inl (m, v, f ∙ sym (kp.number m v))
    fated m f (inr h) = inr (λ k w. omega (arith, h j k w, kp.number j l))

    go : Learns z c stamp t q (t j).number → Learns z c stamp' t' q (t' j).number
    go (inl o) = fated o.0 o.2 (fate q o.0 u o.1 o.2)
    go (inr h) = inr (λ k w. omega (arith, h k w, kp.number j l, up (bucket_of z k)))

-- the buckets that publish stamps
changed-has : (s : Store) (x : Txn) (r k : ℕ) → Made s.sizes s.chains x r → same_key (key_before s.chains r) (new_key x r) ≡ false
    → (key_before s.chains r ≡ some k) ⊎ (new_key x r ≡ some k) → Among (bucket_of s.sizes k) (changed_buckets s x)
unfolding changed_buckets
changed-has s x r k w d h =
    which-join (λ q. cond (same_key (key_before s.chains q) (new_key x q)) []
    (key_buckets s.sizes (key_before s.chains q) ++ key_buckets s.sizes (new_key x q))) (made_rows s.sizes s.chains x.number x.writes)
    (bucket_of s.sizes k) r w
    (rw d (⊎_elim (λ e. among-left _ (key_buckets s.sizes (key_before s.chains r)) _ (key-bucket s.sizes _ k e))
    (λ e. among-right _ (key_buckets s.sizes (key_before s.chains r)) _ (key-bucket s.sizes _ k e)) h))

module _ (s : Store) (i : ℕ) (g : ToldAt s) where
  -- one place goes on under its number, with its snapshot
  told-on : (x : Txn) → x.number ≡ (s.txns i).number → x.snapshot ≡ (s.txns i).snapshot → Told s.sizes s.chains s.index.stamp (update s.txns i x)
  told-on x e v q j u = update-elim (λ y. Live y → seen y.snapshot (s.chains.xmin q) ≡ false
      → Learns s.sizes s.chains s.index.stamp (update s.txns i x) q y.number) s.txns i x j
      (λ d l f. go x e (g q i u (omega arith) (rw v at f)))
      (λ d l f. go (s.txns j) refl (g q j u l f))
    where
      go : {m : ℕ} (y : Txn) → y.number ≡ m → Learns s.sizes s.chains s.index.stamp s.txns q m
          → Learns s.sizes s.chains s.index.stamp (update s.txns i x) q y.number
      go y f (inl o) =
          let w = update-elim (λ w. Live w × (s.chains.xmin q ≡ w.number)) s.txns i x o.0
          (λ d. (omega (arith, rw d at o.1), (rw d at o.2) ∙ sym e)) (λ d. (o.1, o.2)) in
          inl (o.0, w.0, w.1)
      go y f (inr h) = inr (λ k w. omega (arith, h k w))

  told-abort : WrittenAt s → rank (s.txns i).phase < phase_installed → Told s.sizes s.chains s.index.stamp (update s.txns i no_txn)
  told-abort w a = told-frame s.sizes s.chains s.index.stamp s.index.stamp s.txns _ (kept_free s.txns i) (λ b. omega arith)
      (λ q m u l f. inl (update-elim Live s.txns i no_txn m (λ d. absurd (omega (arith, rw d at (w.made q m u.from u.in_use l f).0))) (λ d. l))) g

  -- a change of key by the one who publishes is stamped
  change-stamped : WrittenAt s → Live (s.txns i) → rank (s.txns i).phase ≡ phase_ended → (q k : ℕ) → KeyChange s.chains q
      → s.chains.xmin q ≡ (s.txns i).number
      → Carries s.chains q k → Among (bucket_of s.sizes k) (changed_buckets s (s.txns i))
  change-stamped w l a q k u f h =
      let m = w.made q i u.from u.in_use l f in
      let r = m.1.0 in
      let mine = w.mine i r l m.0 m.1.1 in
      let key : key_at s.chains q ≡ new_key (s.txns i) r = ap (key_at s.chains) (sym m.1.2) ∙ mine.key-is in
      let old : key_before s.chains r ≡ key_at s.chains (s.chains.next q) = ap (λ p. key_at s.chains (s.chains.next p)) m.1.2 in
      changed-has s (s.txns i) r k m.1.1
      (is_false _ (λ e. true≢false (sym (key-same _ _ (key ∙ (sym (same-key _ _ e) ∙ old))) ∙ u.changes)))
      (⊎_elim (λ e. inr (sym key ∙ e)) (λ e. inl (old ∙ e)) h)

  told-publish : Numbers s.clock s.txns → BelowAt s → WrittenAt s → Live (s.txns i) → rank (s.txns i).phase ≡ phase_ended → ToldAt (published s i)
  told-publish n b w l a = told-frame s.sizes s.chains s.index.stamp (published s i).index.stamp s.txns _ (kept_free s.txns i)
      (λ c. update_all-elim (λ v. s.index.stamp c ≤ v) s.index.stamp (changed_buckets s (s.txns i)) _ c (λ m. omega (arith, b.stamp-below c))
      (λ m. omega arith))
      (λ q m u v f. fate q m u v f (ℕ_discrete m i)) g
    where
      fate : (q m : ℕ) → KeyChange s.chains q → Live (s.txns m) → s.chains.xmin q ≡ (s.txns m).number → Dec (m ≡ i)
          → Live ((published s i).txns m) ⊎ ((j k : ℕ) → Carries s.chains q k → (s.txns j).number < (published s i).index.stamp (bucket_of s.sizes k))
      fate q m u v f (yes d) =
          inr (λ j k h. update_all-elim (λ o. (s.txns j).number < o) s.index.stamp (changed_buckets s (s.txns i)) _ (bucket_of s.sizes k)
          (λ y. n.below j)
          (λ y. absurd (true≢false (sym (among-member _ _ (change-stamped w l a q k u (rw d at f) h)) ∙ y))))
      fate q m u v f (no d) = inl (rw (update_other s.txns i no_txn m d) v)

  told-begin : Numbers s.clock s.txns → BelowAt s → (s.txns i).number ≡ 0 → Told s.sizes s.chains s.index.stamp (begun s i).txns
  told-begin n b z q j u =
      update-elim (λ y. Live y → seen y.snapshot (s.chains.xmin q) ≡ false
      → Learns s.sizes s.chains s.index.stamp (begun s i).txns q y.number) s.txns i (new_txn s) j
      (λ d l e. let w = active-which s.txns _ (unseen-which (new_txn s).snapshot _ e (omega (arith, b.xmin-below q))) in inl (other w.0 w.2 w.4))
      (λ d l e. ⊎_elim (λ o. inl (other o.0 o.1 o.2)) inr (g q j u l e))
    where
      other : (m : ℕ) → Live (s.txns m) → s.chains.xmin q ≡ (s.txns m).number
          → (k : ℕ) × Live ((begun s i).txns k) × (s.chains.xmin q ≡ ((begun s i).txns k).number)
      other m l f =
          let d : m ≢ i = λ e. omega (arith, rw e at l) in
          (m, rw (update_other s.txns i (new_txn s) m d) l, rw (update_other s.txns i (new_txn s) m d) f)

  told-install : Chained s.chains → Live (s.txns i) → rank (s.txns i).phase ≡ phase_prepared → ToldAt (installed s i)
  told-install ch l a q j u v e = ⊎_elim old new (old-or-new s.chains.used q)
    where
      gr : Grown (s.txns i) (version_rows s.sizes s.chains (s.txns i).writes) s.chains (installed s i).chains
      gr = installs s i ch

      on : Told s.sizes s.chains s.index.stamp (installed s i).txns
      on = told-on (with_phase (s.txns i) Installed) refl refl

      key-under : q ≤ s.chains.used → key_at (installed s i).chains ((installed s i).chains.next q) ≡ key_at s.chains (s.chains.next q)
      key-under o = ap (key_at (installed s i).chains) (gr.next-old q o)
          ∙ key_at-grown _ _ _ _ gr (s.chains.next q) (omega (arith, ch.next-falls q u.from o))

      key_here : q ≤ s.chains.used → key_at (installed s i).chains q ≡ key_at s.chains q
      key_here o = key_at-grown _ _ _ _ gr q o

      old : q ≤ s.chains.used → Learns s.sizes (installed s i).chains s.index.stamp (installed s i).txns q ((installed s i).txns j).number
      old o = ⊎_elim
          (λ w. inl (w.0, w.1, gr.xmin-old q o ∙ w.2))
          (λ h. inr (λ k w. h k (⊎_elim (λ f. inl (sym (key_here o) ∙ f)) (λ f. inr (sym (key-under o) ∙ f)) w)))
          (on q j (record { from = u.from; in_use = o; changes = rw (key_here o, key-under o) at u.changes }) v (rw (gr.xmin-old q o) at e))

      new : s.chains.used < q → Learns s.sizes (installed s i).chains s.index.stamp (installed s i).txns q ((installed s i).txns j).number
      new o = let w = gr.made q o u.in_use in
          inl (i, rw update_same l, rw update_same (ap (installed s i).chains.xmin (sym w.2) ∙ (gr.head-new w.0 w.1).xmin-is))

pub told_move : (s s' : Store) {a : ℕ} → Chained s.chains → Numbers s.clock s.txns → BelowAt s → WrittenAt s → ToldAt s → Move s a s' → ToldAt s'
told_move s s' = go s'
  where
    go : {a : ℕ} (s' : Store) → Chained s.chains → Numbers s.clock s.txns → BelowAt s → WrittenAt s → ToldAt s → Move s a s' → ToldAt s'
    go s' ch n b w g (stay i) = g
    go s' ch n b w g (did-begin i a e c d) = told-begin s i g n b e
    go s' ch n b w g (did-mark i a e) = told-on s i g _ refl refl
    go s' ch n b w g (did-capture i k a e c) = told-on s i g _ refl refl
    go s' ch n b w g (did-collect i a e) = told-on s i g _ refl refl
    go s' ch n b w g (did-rows i a e c) = told-on s i g _ refl refl
    go s' ch n b w g (did_write i x a e c d) = told-on s i g _ refl refl
    go s' ch n b w g (did-prepare i a e c) = told-on s i g _ refl refl
    go s' ch n b w g (did-install i a e) = told-install s i g ch a e
    go s' ch n b w g (did-end i a e) = told-on s i g _ refl refl
    go s' ch n b w g (did-publish i a e) = told-publish s i g n b w a e
    go s' ch n b w g (did-abort i a e) = told-abort s i g w e

pub told_fresh : (z : Sizes) (clock : ℕ) → ToldAt (fresh z clock)
told_fresh z clock q j u l e = absurd (omega arith)
