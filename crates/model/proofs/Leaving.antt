-- What an accepted step leaves, part by part: each column of the table of effects. Assumes nothing.
use mathlib.Core.Path.{◌≡◌, refl, sym, ap, ◌∙◌}
use mathlib.Core.Bool.{Bool, true, false, cond, ◌&&◌, true≢false}
use mathlib.Core.Logic.{◌≢◌, ◌⊎◌, inl, inr, ⊎_elim}
use mathlib.Core.Option.{Option, none, some}
use mathlib.Core.List.{List, [], ◌∷◌, ◌++◌}
use Prim.Native.Nat.{ℕ, ◌≤◌, ◌<◌}
use native.Mathlib.Omega.{arith}
use lib.Dec.{ltb, leb}
use borrow.Author.Tests.{eq-eqb, ne_eqb, leb-true}
use Rattle.base_lists.specs.Lists.{least, every, Among, Rising}
use Rattle.base_lists.specs.Table.{update, update_all}
use Rattle.base_lists.proofs.TableLaws.{update_same, update_other, cond-elim}
use Rattle.base_lists.proofs.ListLaws.{and_l, and_r, is_false, among-left, among-right, among_cases, join-which, which-join, among-member, not-member}
use Rattle.base_lists.proofs.ListLaws.{least-own, least-each, pick-rising, pick-which}
use Rattle.model.specs.Store.{Sizes, Open, Write, Txn, Store, rank, phase_open, bucket_in, same_key, bucket_of}
use Rattle.model.specs.Seeing.{pending, written_key, active_numbers}
use Rattle.model.specs.Steps.{with_phase, new_txn, has_read, add_read, captured_txn, written_txn, pending_rows, key_before, new_key, version_rows, made_rows}
use Rattle.model.specs.Steps.{key_buckets, needed_buckets, prepared_held, repost, changed_buckets, published_index, release, freed}
use Rattle.model.specs.Refusals.{Step, begin, capture, collect, rows, write, prepare, install, end, publish, validate, abort, txn_of}
use Rattle.model.specs.Shape.{good_chains, right_shape}
use Rattle.model.specs.Machine.{at, accepted, actor, step}
use Rattle.model.specs.Holding.{Gets}
use Rattle.model.specs.Given.{number, Shaped, Lives, bucket_for, stamp_for}
use Rattle.model.specs.Effects.{Stamps, posts, Takes, Frees, Claimed, Unclaimed}
use Rattle.model.specs.Leaves.{Captures, TakenAt, asker_after, IndexAfter, HeldAfter, Leaves}
use Rattle.model.proofs.Phases.{open_is}
use Rattle.model.proofs.Tests.{lives-number}
use Rattle.model.proofs.Numbers.{active-which, which-active}
use Rattle.model.proofs.SeeingLaws.{same-key, key-same, key-bucket, read-bucket, bucket-read}
use Rattle.model.proofs.Made.{gets-writes}
use Rattle.model.proofs.Making.{last-write, makes-all, makes_none}
use Rattle.model.proofs.Conditions.{each_below}
use Rattle.model.proofs.Refused.{capture-0, write-0, prepare-0, validate-0, install-0, publish-0, abort-0}
use Rattle.model.proofs.Outcomes.{done-does}

-- THE SNAPSHOT THAT BEGIN TAKES

least-one : (n : ℕ) (xs : List ℕ) → (least n xs ≡ n) ⊎ Among (least n xs) xs
unfolding least
least-one n [] = inl refl
least-one n (x ∷ xs) = cond-elim (λ k. (least k xs ≡ n) ⊎ Among (least k xs) (x ∷ xs)) (ltb x n) x n (λ e. inr (⊎_elim inl inr (least-one x xs)))
    (λ e. ⊎_elim inl (λ m. inr (inr m)) (least-one n xs))

taken : (s : Store) → TakenAt s (new_txn s).snapshot
taken s = record {
  xmax-is = refl;
  active-are = λ n. (active-which s.txns n, λ w. rw w.4 (which-active s.txns w.0 w.1 w.2 w.3));
  xmin-below = (least-own s.clock (active_numbers s.txns), least-each s.clock (active_numbers s.txns));
  xmin-is = least-one s.clock (active_numbers s.txns);
}

-- STAMPS AND POSTINGS

-- a bucket of a key that there is, or of none
bucket-key : (z : Sizes) (o : Option ℕ) (b : ℕ) → Among b (key_buckets z o) → (k : ℕ) × (o ≡ some k) × (b ≡ bucket_of z k)
unfolding key_buckets
bucket-key z none b m = absurd m
bucket-key z (some k) b m = ⊎_elim (λ e. (k, refl, e)) (λ n. absurd n) m

module _ (s : Store) (t : ℕ) where
  abbrev both-keys : ℕ → List ℕ
  both-keys r = key_buckets s.sizes (key_before s.chains r) ++ key_buckets s.sizes (new_key (txn_of s t) r)

  changes-in : (r b : ℕ) (same : Bool) → same_key (key_before s.chains r) (new_key (txn_of s t) r) ≡ same → Among b (cond same [] (both-keys r))
      → Among r (made_rows s.sizes s.chains (txn_of s t).number (txn_of s t).writes) → Stamps s (publish t) b
  changes-in r b true e m w = absurd m
  changes-in r b false e m w = (
    r,
    w,
    (λ d. true≢false (sym (key-same _ _ d) ∙ e)),
    ⊎_elim
        (λ a. let k = bucket-key s.sizes (key_before s.chains r) b a in (k.0, inl k.1, k.2))
        (λ a. let k = bucket-key s.sizes (new_key (txn_of s t) r) b a in (k.0, inr k.1, k.2))
        (among_cases b (key_buckets s.sizes (key_before s.chains r)) (key_buckets s.sizes (new_key (txn_of s t) r)) m),
  )

  changed-stamps : (b : ℕ) → Among b (changed_buckets s (txn_of s t)) → Stamps s (publish t) b
  unfolding changed_buckets
  changed-stamps b m = let w = join-which _ (made_rows s.sizes s.chains (txn_of s t).number (txn_of s t).writes) b m in
      changes-in w.0 b _ refl w.2 w.1

  stamps-changed : (b : ℕ) → Stamps s (publish t) b → Among b (changed_buckets s (txn_of s t))
  unfolding changed_buckets
  stamps-changed b w = which-join _ (made_rows s.sizes s.chains (txn_of s t).number (txn_of s t).writes) b w.0 w.1
      (rw (is_false (same_key (key_before s.chains w.0) (new_key (txn_of s t) w.0)) (λ e. w.2 (same-key _ _ e)))
      (rw w.3.2 (⊎_elim
      (λ e. among-left _ (key_buckets s.sizes (key_before s.chains w.0)) _ (key-bucket s.sizes _ w.3.0 e))
      (λ e. among-right _ (key_buckets s.sizes (key_before s.chains w.0)) _ (key-bucket s.sizes _ w.3.0 e))
      w.3.1)))

-- a step that stamps and posts nothing
quiet-index : (s : Store) (a : Step) → ((b : ℕ) → Stamps s a b → ⊥) → posts s a ≡ [] → IndexAfter s a s.index
quiet-index s a no-stamp no-post =
    record { stamp-new = λ b w. absurd (no-stamp b w); stamp-stays = λ b n. refl; posted-new = λ r m. absurd (rw no-post at m); posted-stays = λ r n. refl }

-- HOLDERS AND CLAIMS

-- a step that takes and frees nothing
quiet-held : (s : Store) (a : Step) → ((j : ℕ) → Takes s a j ⊎ Frees s a j ⊎ Claimed s a j ⊎ Unclaimed s a j → ⊥) → HeldAfter s a s.held
quiet-held s a none-such = record {
  holder-taken = λ b w. absurd (none-such b (inl w));
  holder-freed = λ b w. absurd (none-such b (inr (inl w)));
  holder-stays = λ b n m. refl;
  claim-taken = λ r w. absurd (none-such r (inr (inr (inl w))));
  claim-freed = λ r w. absurd (none-such r (inr (inr (inr w))));
  claim-stays = λ r n m. refl;
}

nothing : (j : ℕ) → ⊥ ⊎ ⊥ ⊎ ⊥ ⊎ ⊥ → ⊥
nothing j (inl w) = w
nothing j (inr (inl w)) = w
nothing j (inr (inr (inl w))) = w
nothing j (inr (inr (inr w))) = w

taken-all : (f : ℕ → ℕ) (is : List ℕ) (n j : ℕ) → Among j is → update_all f is n j ≡ n
unfolding update_all
taken-all f is n j m = rw (among-member j is m)

untaken-all : (f : ℕ → ℕ) (is : List ℕ) (n j : ℕ) → (Among j is → ⊥) → update_all f is n j ≡ f j
unfolding update_all
untaken-all f is n j m = rw (not-member j is m)

release-own : (n t : ℕ) (f : ℕ → ℕ) (j : ℕ) → n ≡ t → f j ≡ t → release n f j ≡ 0
unfolding release
release-own n t f j e d = rw (eq-eqb (f j) n (d ∙ sym e))

release_other : (n t : ℕ) (f : ℕ → ℕ) (j : ℕ) → n ≡ t → (f j ≡ t → ⊥) → release n f j ≡ f j
unfolding release
release_other n t f j e d = rw (ne_eqb (f j) n (λ c. d (c ∙ e)))

-- THE VERSIONS

-- in a store of right shape a row's head is in use
heads-used : (s : Store) → Shaped s → (r : ℕ) → r < s.sizes.rows → s.chains.head r ≤ s.chains.used
unfolding right_shape good_chains
heads-used s e r l =
    let c : leb s.chains.used s.sizes.versions && every s.sizes.rows (λ r. leb (s.chains.head r) s.chains.used) ≡ true =
    search (and_l, and_r) depth 10 in
    leb-true _ _ (each_below s.sizes.rows (λ q. leb (s.chains.head q) s.chains.used) (and_r (leb s.chains.used s.sizes.versions) _ c) r l)

rising : (s : Store) (t : ℕ) → Rising 0 (version_rows s.sizes s.chains (txn_of s t).writes)
unfolding version_rows
rising s t = pick-rising _ 0 s.sizes.rows

pending-in : (z : Sizes) (ws : List Write) (r : ℕ) → Among r (pending_rows z ws) → (r < z.rows) × (pending ws r ≡ true)
unfolding pending_rows
pending-in z ws r m = let w = pick-which (pending ws) 0 z.rows r m in (omega (arith, w.1), w.2)

getting-in : (s : Store) (t r : ℕ) → Gets s.sizes s.chains (txn_of s t) r → (r < s.sizes.rows) × (pending (txn_of s t).writes r ≡ true)
getting-in s t r m = pending-in s.sizes (txn_of s t).writes r (gets-writes s.sizes s.chains (txn_of s t) r m)

-- EVERY STEP

module _ (s : Store) where
  -- place i gets a record, and the others stay
  others : (i : ℕ) (x : Txn) (j : ℕ) → j ≢ i → update s.txns i x j ≡ s.txns j
  others i x j d = update_other s.txns i x j d

  -- the record at place i is the one that it got
  asker : (i : ℕ) (x : Txn) → update s.txns i x i ≡ x
  asker i x = update_same s.txns i x

  module _ (t : ℕ) (l : Lives s t) where
    own : (txn_of s t).number ≡ t
    own = lives-number s t l

    captured-held : (k : ℕ) → HeldAfter s (capture t k)
        (record { holder = update s.held.holder (bucket_for s k) (txn_of s t).number; claim = s.held.claim })
    captured-held k = record {
      holder-taken = λ b e. ap (update s.held.holder (bucket_for s k) (txn_of s t).number) e
          ∙ (update_same s.held.holder (bucket_for s k) (txn_of s t).number ∙ own);
      holder-freed = λ b w. absurd w;
      holder-stays = λ b d n. update_other s.held.holder (bucket_for s k) (txn_of s t).number b d;
      claim-taken = λ r w. absurd w;
      claim-freed = λ r w. absurd w;
      claim-stays = λ r n m. refl;
    }

    prepared-held : HeldAfter s (prepare t) (prepared_held s (txn_of s t))
    prepared-held = record {
      holder-taken = λ b m. taken-all s.held.holder (needed_buckets s (txn_of s t)) (txn_of s t).number b m ∙ own;
      holder-freed = λ b w. absurd w;
      holder-stays = λ b d n. untaken-all s.held.holder (needed_buckets s (txn_of s t)) (txn_of s t).number b d;
      claim-taken = λ r m. taken-all s.held.claim (pending_rows s.sizes (txn_of s t).writes) (txn_of s t).number r m ∙ own;
      claim-freed = λ r w. absurd w;
      claim-stays = λ r d n. untaken-all s.held.claim (pending_rows s.sizes (txn_of s t).writes) (txn_of s t).number r d;
    }

    aborted-held : HeldAfter s (abort t) (freed s.held (txn_of s t).number)
    aborted-held = record {
      holder-taken = λ b w. absurd w;
      holder-freed = λ b e. release-own (txn_of s t).number t s.held.holder b own e;
      holder-stays = λ b n d. release_other (txn_of s t).number t s.held.holder b own d;
      claim-taken = λ r w. absurd w;
      claim-freed = λ r e. release-own (txn_of s t).number t s.held.claim r own e;
      claim-stays = λ r n d. release_other (txn_of s t).number t s.held.claim r own d;
    }

    -- publish frees what abort frees
    published-held : HeldAfter s (publish t) (freed s.held (txn_of s t).number)
    published-held = let h = aborted-held in
        record {
          holder-taken = λ b w. absurd w;
          holder-freed = h.holder-freed;
          holder-stays = h.holder-stays;
          claim-taken = λ r w. absurd w;
          claim-freed = h.claim-freed;
          claim-stays = h.claim-stays;
        }

  collected-held : (t : ℕ) → HeldAfter s (collect t) (record { holder = update s.held.holder (bucket_in (txn_of s t).phase) 0; claim = s.held.claim })
  collected-held t = record {
    holder-taken = λ b w. absurd w;
    holder-freed = λ b e. ap (update s.held.holder (bucket_in (txn_of s t).phase) 0) e ∙ update_same s.held.holder (bucket_in (txn_of s t).phase) 0;
    holder-stays = λ b n d. update_other s.held.holder (bucket_in (txn_of s t).phase) 0 b d;
    claim-taken = λ r w. absurd w;
    claim-freed = λ r w. absurd w;
    claim-stays = λ r n m. refl;
  }

  published-index : (t : ℕ) → IndexAfter s (publish t) (published_index s (txn_of s t))
  unfolding repost written_key
  published-index t = record {
    stamp-new = λ b w. taken-all s.index.stamp (changed_buckets s (txn_of s t)) s.clock b (stamps-changed s t b w);
    stamp-stays = λ b n. untaken-all s.index.stamp (changed_buckets s (txn_of s t)) s.clock b (λ m. n (changed-stamps s t b m));
    posted-new = λ r m. let w = last-write (txn_of s t).writes r (pending-in s.sizes (txn_of s t).writes r m).1 in
        (w.0, w.1, rw (among-member r (pending_rows s.sizes (txn_of s t).writes) m) (ap written_key w.2));
    posted-stays = λ r n. rw (not-member r (pending_rows s.sizes (txn_of s t).writes) n);
  }

-- capture adds an index read where the bucket has none
adds : (s : Store) (t k : ℕ) → Captures s (capture t k) (txn_of s t).reads (add_read (txn_of s t).reads (bucket_for s k) (stamp_for s k))
unfolding add_read
adds s t k = (
  λ r m e. rw (bucket-read (txn_of s t).reads (bucket_for s k) r m e),
  λ n. rw (is_false (has_read (txn_of s t).reads (bucket_for s k)) (λ h. let w = read-bucket (txn_of s t).reads (bucket_for s k) h in n w.0 w.1 w.2)),
)

-- a write and validate leave the phase, which is Open
still_open : (s : Store) (a : Step) (x : Txn) → with_phase x Open ≡ asker_after s a (txn_of s (actor a)) → rank x.phase ≡ phase_open
    → x ≡ asker_after s a (txn_of s (actor a))
still_open s a x same e = ap (with_phase x) (open_is x.phase e) ∙ same

pub leaves : (s : Store) (a : Step) → number s a ≡ 0 → Leaves s a (step s a).store
unfolding accepted
leaves s begin e = rw (done-does s begin e) (record {
  sizes-stay = refl;
  clock-is = refl;
  versions-are = makes_none _ s.chains;
  index_is = quiet-index s begin (λ b w. w) refl;
  held-is = quiet-held s begin nothing;
  asker-is = asker s (at s 0) _;
  snapshot-taken = rw (asker s (at s 0) (new_txn s)) (taken s);
  read-added = tt;
  others-stay = others s (at s 0) _;
})
leaves s (capture t k) e = rw (done-does s (capture t k) e) (record {
  sizes-stay = refl;
  clock-is = refl;
  versions-are = makes_none _ s.chains;
  index_is = quiet-index s (capture t k) (λ b w. w) refl;
  held-is = captured-held s t ((capture-0 s t k).0 e).0.1 k;
  asker-is = asker s (at s t) _;
  snapshot-taken = tt;
  read-added = rw (asker s (at s t) (captured_txn s (txn_of s t) k)) (adds s t k);
  others-stay = others s (at s t) _;
})
leaves s (collect t) e = rw (done-does s (collect t) e) (record {
  sizes-stay = refl;
  clock-is = refl;
  versions-are = makes_none _ s.chains;
  index_is = quiet-index s (collect t) (λ b w. w) refl;
  held-is = collected-held s t;
  asker-is = asker s (at s t) _;
  snapshot-taken = tt;
  read-added = tt;
  others-stay = others s (at s t) _;
})
leaves s (rows t room) e = rw (done-does s (rows t room) e) (record {
  sizes-stay = refl;
  clock-is = refl;
  versions-are = makes_none _ s.chains;
  index_is = quiet-index s (rows t room) (λ b w. w) refl;
  held-is = quiet-held s (rows t room) nothing;
  asker-is = asker s (at s t) _;
  snapshot-taken = tt;
  read-added = tt;
  others-stay = others s (at s t) _;
})
leaves s (write t r c) e = rw (done-does s (write t r c) e) (record {
  sizes-stay = refl;
  clock-is = refl;
  versions-are = makes_none _ s.chains;
  index_is = quiet-index s (write t r c) (λ b w. w) refl;
  held-is = quiet-held s (write t r c) nothing;
  asker-is = asker s (at s t) _ ∙ still_open s (write t r c) (written_txn (txn_of s t) _) refl ((write-0 s t r c).0 e).0.2;
  snapshot-taken = tt;
  read-added = tt;
  others-stay = others s (at s t) _;
})
leaves s (prepare t) e = rw (done-does s (prepare t) e) (record {
  sizes-stay = refl;
  clock-is = refl;
  versions-are = makes_none _ s.chains;
  index_is = quiet-index s (prepare t) (λ b w. w) refl;
  held-is = prepared-held s t ((prepare-0 s t).0 e).0.1;
  asker-is = asker s (at s t) _;
  snapshot-taken = tt;
  read-added = tt;
  others-stay = others s (at s t) _;
})
leaves s (install t) e = rw (done-does s (install t) e) (record {
  sizes-stay = refl;
  clock-is = refl;
  versions-are = makes-all (txn_of s t) (version_rows s.sizes s.chains (txn_of s t).writes) s.chains
      (λ r m. heads-used s ((install-0 s t).0 e).0 r (getting-in s t r m).0) (rising s t) (λ r m. (getting-in s t r m).1);
  index_is = quiet-index s (install t) (λ b w. w) refl;
  held-is = quiet-held s (install t) nothing;
  asker-is = asker s (at s t) _;
  snapshot-taken = tt;
  read-added = tt;
  others-stay = others s (at s t) _;
})
leaves s (end t) e = rw (done-does s (end t) e) (record {
  sizes-stay = refl;
  clock-is = refl;
  versions-are = makes_none _ s.chains;
  index_is = quiet-index s (end t) (λ b w. w) refl;
  held-is = quiet-held s (end t) nothing;
  asker-is = asker s (at s t) _;
  snapshot-taken = tt;
  read-added = tt;
  others-stay = others s (at s t) _;
})
leaves s (publish t) e = rw (done-does s (publish t) e) (record {
  sizes-stay = refl;
  clock-is = refl;
  versions-are = makes_none _ s.chains;
  index_is = published-index s t;
  held-is = published-held s t ((publish-0 s t).0 e).1;
  asker-is = asker s (at s t) _;
  snapshot-taken = tt;
  read-added = tt;
  others-stay = others s (at s t) _;
})
leaves s (validate t) e = rw (done-does s (validate t) e) (record {
  sizes-stay = refl;
  clock-is = refl;
  versions-are = makes_none _ s.chains;
  index_is = quiet-index s (validate t) (λ b w. w) refl;
  held-is = quiet-held s (validate t) nothing;
  asker-is = still_open s (validate t) (txn_of s t) refl ((validate-0 s t).0 e).0.2;
  snapshot-taken = tt;
  read-added = tt;
  others-stay = λ i d. refl;
})
leaves s (abort t) e = rw (done-does s (abort t) e) (record {
  sizes-stay = refl;
  clock-is = refl;
  versions-are = makes_none _ s.chains;
  index_is = quiet-index s (abort t) (λ b w. w) refl;
  held-is = aborted-held s t ((abort-0 s t).0 e).1;
  asker-is = asker s (at s t) _;
  snapshot-taken = tt;
  read-added = tt;
  others-stay = others s (at s t) _;
})
