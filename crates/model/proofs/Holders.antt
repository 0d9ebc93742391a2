-- Nothing held is lost: a holder or a claim that is not 0 is the number of a live transaction in a phase that needs it, which holds all that it needs. Assumes
-- nothing.
use mathlib.Core.Path.{◌≡◌, refl, sym, ap, ◌∙◌}
use mathlib.Core.Bool.{true≢false}
use mathlib.Core.Logic.{◌≢◌, inl, inr, ⊎_elim}
use mathlib.Core.Option.{Option, none, some}
use mathlib.Core.List.{List, ◌++◌}
use Prim.Native.Nat.{ℕ, ◌≤◌, ◌<◌}
use native.Mathlib.Omega.{arith}
use Rattle.base_lists.specs.Lists.{member, Among}
use Rattle.base_lists.specs.Table.{update}
use Rattle.base_lists.proofs.TableLaws.{update-elim, cond-elim}
use Rattle.base_lists.proofs.ListLaws.{among-left, among-right, none_each, which-join, join-same, member-among, among-member}
use Rattle.model.specs.Store.{Sizes, Held, Phase, Prepared, Installed, Ended, Txn, Store, no_txn, fresh, rank, phase_open, phase_holding, phase_prepared}
use Rattle.model.specs.Store.{phase_ended, bucket_in, key_in, bucket_of}
use Rattle.model.specs.Seeing.{Live}
use Rattle.model.specs.Steps.{with_phase, captured_txn, captured, collected_txn, collected, pending_rows, old_key, new_key, key_buckets, read_buckets}
use Rattle.model.specs.Steps.{needed_buckets, prepared, repost, freed, published}
use Rattle.model.specs.Holding.{Writes, needs, Wants, Claims}
use Rattle.model.proofs.Phases.{holding-is}
use Rattle.model.proofs.Move.{CanCapture, CanPrepare, Move, stay, did-begin, did-mark, did-capture, did-collect, did-rows, did_write, did-prepare}
use Rattle.model.proofs.Move.{did-install, did-end, did-publish, did-abort}
use Rattle.model.proofs.Numbers.{Numbers}
use Rattle.model.proofs.SeeingLaws.{key-bucket}
use Rattle.model.proofs.Owned.{Owned, owned-wants, one-wanter, free, owned-quiet, owned-same, owned-release, owned-take, owned-one, owned-drop}

pub record Holders (z : Sizes) (h : Held) (posted : ℕ → Option ℕ) (t : ℕ → Txn) : Type 0 where
  pub buckets : Owned (Wants z posted) h.holder t
  pub claims : Owned (Claims z) h.claim t

abbrev pub HoldersAt : Store → Type 0
HoldersAt s = Holders s.sizes s.held s.index.posted s.txns

pub wants-busy : (z : Sizes) (posted : ℕ → Option ℕ) (y : Txn) (b : ℕ) → Wants z posted y b → phase_holding ≤ rank y.phase
wants-busy z posted y b (inl w) = omega (arith, ap rank w.1)
wants-busy z posted y b (inr w) = omega (arith, w.0)

pub claims-busy : (z : Sizes) (y : Txn) (r : ℕ) → Claims z y r → phase_holding ≤ rank y.phase
claims-busy z y r w = omega (arith, w.0)

-- who is neither Holding nor past prepare wants nothing
wants-none : (z : Sizes) (posted : ℕ → Option ℕ) (y : Txn) → rank y.phase ≢ phase_holding → rank y.phase < phase_prepared → (b : ℕ) → Wants z posted y b → ⊥
wants-none z posted y d l b (inl w) = d (ap rank w.1)
wants-none z posted y d l b (inr w) = omega (arith, w.0)

claims-none : (z : Sizes) (y : Txn) → rank y.phase < phase_prepared → (r : ℕ) → Claims z y r → ⊥
claims-none z y l r w = omega (arith, w.0)

-- what is needed for a row
needs-row : (z : Sizes) (posted : ℕ → Option ℕ) (x : Txn) (r b : ℕ) → Writes z x r → Among b (key_buckets z (posted r) ++ key_buckets z (new_key x r))
    → Among b (needs z posted x)
unfolding needs
needs-row z posted x r b w m =
    among-right b (read_buckets x) _ (which-join (λ q. key_buckets z (posted q) ++ key_buckets z (new_key x q)) (pending_rows z x.writes) b r w m)

pub needs-old : (z : Sizes) (posted : ℕ → Option ℕ) (x : Txn) (r k : ℕ) → Writes z x r → posted r ≡ some k → Among (bucket_of z k) (needs z posted x)
needs-old z posted x r k w e = needs-row z posted x r (bucket_of z k) w (among-left (bucket_of z k) (key_buckets z (posted r)) _ (key-bucket z (posted r) k e))

pub needs-new : (z : Sizes) (posted : ℕ → Option ℕ) (x : Txn) (r k : ℕ) → Writes z x r → new_key x r ≡ some k → Among (bucket_of z k) (needs z posted x)
needs-new z posted x r k w e =
    needs-row z posted x r (bucket_of z k) w (among-right (bucket_of z k) (key_buckets z (posted r)) _ (key-bucket z (new_key x r) k e))

-- the needs look at the pending rows' postings alone
needs-posted : (z : Sizes) (po po' : ℕ → Option ℕ) (x : Txn) → ((r : ℕ) → Writes z x r → po r ≡ po' r) → needs z po x ≡ needs z po' x
unfolding needs
needs-posted z po po' x h =
    ap (λ bs. read_buckets x ++ bs)
    (join-same (λ r. key_buckets z (po r) ++ key_buckets z (new_key x r)) (λ r. key_buckets z (po' r) ++ key_buckets z (new_key x r))
    (pending_rows z x.writes) (λ r m. rw (h r m)))

wants-posted : (z : Sizes) (po po' : ℕ → Option ℕ) (y : Txn) (b : ℕ) → (phase_prepared ≤ rank y.phase → needs z po y ≡ needs z po' y) → Wants z po y b
    → Wants z po' y b
wants-posted z po po' y b h (inl w) = inl w
wants-posted z po po' y b h (inr w) = inr (w.0, rw (h w.0) at w.1)

needed-needs : (s : Store) (x : Txn) → ((r : ℕ) → Writes s.sizes x r → s.index.posted r ≡ old_key s.chains r)
    → needed_buckets s x ≡ needs s.sizes s.index.posted x
unfolding needs needed_buckets
needed-needs s x h = ap (λ bs. read_buckets x ++ bs)
    (join-same (λ r. key_buckets s.sizes (old_key s.chains r) ++ key_buckets s.sizes (new_key x r))
    (λ r. key_buckets s.sizes (s.index.posted r) ++ key_buckets s.sizes (new_key x r)) (pending_rows s.sizes x.writes) (λ r m. rw (h r m)))

pub repost-elim : (P : Option ℕ → Type 0) (x : Txn) (rs : List ℕ) (posted : ℕ → Option ℕ) (r : ℕ) → (Among r rs → P (new_key x r))
    → ((Among r rs → ⊥) → P (posted r)) → P (repost x rs posted r)
unfolding repost
repost-elim P x rs posted r p q =
    cond-elim P (member r rs) (new_key x r) (posted r) (λ e. p (member-among r rs e)) (λ e. q (λ m. true≢false (sym (among-member r rs m) ∙ e)))

module _ (s : Store) (i : ℕ) (n : Numbers s.clock s.txns) (g : HoldersAt s) where
  abbrev W : Txn → ℕ → Type 0
  W = Wants s.sizes s.index.posted

  -- two that claim one row are one
  pub one-claim : (j k r : ℕ) → Claims s.sizes (s.txns j) r → Claims s.sizes (s.txns k) r → j ≡ k
  one-claim j k r v w = one-wanter (Claims s.sizes) (claims-busy s.sizes) s.held.claim s.clock s.txns n g.claims j k r v w

  pub one-bucket : (j k b : ℕ) → W (s.txns j) b → W (s.txns k) b → j ≡ k
  one-bucket j k b v w = one-wanter W (wants-busy _ _) s.held.holder s.clock s.txns n g.buckets j k b v w

  holders-quiet : (x : Txn) → rank (s.txns i).phase ≢ phase_holding → rank (s.txns i).phase < phase_prepared → rank x.phase ≢ phase_holding
      → rank x.phase < phase_prepared → Holders s.sizes s.held s.index.posted (update s.txns i x)
  holders-quiet x a b c d = record {
    buckets = owned-quiet W (wants-busy _ _) s.held.holder s.clock s.txns n g.buckets i x (wants-none _ _ _ a b) (wants-none _ _ _ c d);
    claims = owned-quiet (Claims s.sizes) (claims-busy _) s.held.claim s.clock s.txns n g.claims i x
        (claims-none s.sizes (s.txns i) b) (claims-none s.sizes x d);
  }

  -- past prepare nothing is taken or freed until the record ends
  holders-late : (ph : Phase) → phase_prepared ≤ rank (s.txns i).phase → phase_prepared ≤ rank ph
      → Holders s.sizes s.held s.index.posted (update s.txns i (with_phase (s.txns i) ph))
  unfolding needs read_buckets
  holders-late ph a b = record {
    buckets = owned-same W (wants-busy _ _) s.held.holder s.clock s.txns n g.buckets i (with_phase (s.txns i) ph) refl
        (λ c w. ⊎_elim (λ v. absurd (omega (arith, ap rank v.1))) (λ v. inr (a, v.1)) w)
        (λ c w. ⊎_elim (λ v. absurd (omega (arith, ap rank v.1))) (λ v. inr (b, v.1)) w);
    claims = owned-same (Claims s.sizes) (claims-busy _) s.held.claim s.clock s.txns n g.claims i (with_phase (s.txns i) ph) refl
        (λ r w. (a, w.1)) (λ r w. (b, w.1));
  }

  holders-capture : (k : ℕ) → Live (s.txns i) → rank (s.txns i).phase ≡ phase_open → CanCapture s i k → HoldersAt (captured s i k)
  holders-capture k l r c = record {
    buckets = owned-one W (wants-busy _ _) s.held.holder s.clock s.txns n g.buckets i (captured_txn s (s.txns i) k) (bucket_of s.sizes k) refl
        (wants-none _ _ _ (λ e. omega arith) (omega arith))
        (free W (wants-busy _ _) s.held.holder s.clock s.txns n g.buckets i (bucket_of s.sizes k) l
        (wants-none _ _ _ (λ e. omega arith) (omega arith) _) c.free)
        (λ b w. ⊎_elim (λ v. let e = v.1 in cc) (λ v. absurd (omega (arith, v.0))) w)
        (inl (k, refl));
    claims = owned-quiet (Claims s.sizes) (claims-busy _) s.held.claim s.clock s.txns n g.claims i (captured_txn s (s.txns i) k)
        (claims-none s.sizes (s.txns i) (omega arith)) (claims-none s.sizes (captured_txn s (s.txns i) k) (omega arith));
  }

  holders-collect : rank (s.txns i).phase ≡ phase_holding → HoldersAt (collected s i)
  holders-collect r = let e = holding-is (s.txns i).phase r in record {
    buckets = owned-drop W (wants-busy _ _) s.held.holder s.clock s.txns n g.buckets i _ (bucket_in (s.txns i).phase)
        (inl (key_in (s.txns i).phase, e))
        (λ b w. ⊎_elim (λ v. let f = v.1 in cc) (λ v. absurd (omega (arith, v.0))) w)
        (wants-none _ _ _ (λ f. omega arith) (omega arith));
    claims = owned-quiet (Claims s.sizes) (claims-busy _) s.held.claim s.clock s.txns n g.claims i (collected_txn s (s.txns i))
        (claims-none s.sizes (s.txns i) (omega arith)) (claims-none s.sizes (collected_txn s (s.txns i)) (omega arith));
  }

  -- the posted key of a pending row is the old one at prepare
  holders-prepare : Live (s.txns i) → rank (s.txns i).phase ≡ phase_open → CanPrepare s i
      → ((r : ℕ) → Writes s.sizes (s.txns i) r → s.index.posted r ≡ old_key s.chains r) → HoldersAt (prepared s i)
  unfolding needs read_buckets
  holders-prepare l r c h =
      let e = needed-needs s (s.txns i) h in
      record {
        buckets = owned-take W (wants-busy _ _) s.held.holder s.clock s.txns n g.buckets i (with_phase (s.txns i) Prepared)
            (needed_buckets s (s.txns i)) refl
            (wants-none s.sizes s.index.posted (s.txns i) (λ f. omega arith) (omega arith))
            (λ b m. free W (wants-busy _ _) s.held.holder s.clock s.txns n g.buckets i b l
            (wants-none s.sizes s.index.posted (s.txns i) (λ f. omega arith) (omega arith) b)
            (none_each _ (needed_buckets s (s.txns i)) c.buckets-free b m))
            (λ b w. ⊎_elim (λ v. absurd (omega (arith, ap rank v.1))) (λ v. rw e v.1) w)
            (λ b m. inr (omega arith, rw e at m));
        claims = owned-take (Claims s.sizes) (claims-busy _) s.held.claim s.clock s.txns n g.claims i (with_phase (s.txns i) Prepared)
            (pending_rows s.sizes (s.txns i).writes) refl
            (claims-none s.sizes (s.txns i) (omega arith))
            (λ q m. free (Claims s.sizes) (claims-busy _) s.held.claim s.clock s.txns n g.claims i q l
            (claims-none s.sizes (s.txns i) (omega arith) q) (none_each _ (pending_rows s.sizes (s.txns i).writes) c.rows-free q m))
            (λ q w. w.1)
            (λ q m. (omega arith, m));
      }

  holders-free : Live (s.txns i) → Holders s.sizes (freed s.held (s.txns i).number) s.index.posted (update s.txns i no_txn)
  holders-free l = record {
    buckets = owned-release W (wants-busy _ _) s.held.holder s.clock s.txns n g.buckets i l;
    claims = owned-release (Claims s.sizes) (claims-busy _) s.held.claim s.clock s.txns n g.claims i l;
  }

  -- the rows of another that is past `prepare` stay posted as they are
  pub posted-kept : phase_prepared ≤ rank (s.txns i).phase → (j r : ℕ) → j ≢ i → phase_prepared ≤ rank (s.txns j).phase → Writes s.sizes (s.txns j) r
      → (published s i).index.posted r ≡ s.index.posted r
  posted-kept a j r d b w =
      repost-elim (λ o. o ≡ s.index.posted r) (s.txns i) (pending_rows s.sizes (s.txns i).writes) s.index.posted r
      (λ m. absurd (d (one-claim j i r (b, w) (a, m)))) (λ m. refl)

  late-needs : rank (s.txns i).phase ≡ phase_ended → (j : ℕ) → phase_prepared ≤ rank ((published s i).txns j).phase
      → needs s.sizes s.index.posted ((published s i).txns j) ≡ needs s.sizes (published s i).index.posted ((published s i).txns j)
  late-needs a j = update-elim (λ y. phase_prepared ≤ rank y.phase → needs s.sizes s.index.posted y ≡ needs s.sizes
      (published s i).index.posted y) s.txns i no_txn j
      (λ e h. absurd (omega arith))
      (λ d h. needs-posted s.sizes s.index.posted (published s i).index.posted (s.txns j) (λ r w. sym (posted-kept (omega arith) j r d h w)))

  holders-publish : Live (s.txns i) → rank (s.txns i).phase ≡ phase_ended → HoldersAt (published s i)
  holders-publish l a = let f = holders-free l in record {
    buckets = owned-wants W (Wants s.sizes (published s i).index.posted) (freed s.held (s.txns i).number).holder (published s i).txns
        (λ j b w. wants-posted s.sizes s.index.posted (published s i).index.posted ((published s i).txns j) b (late-needs a j) w)
        (λ j b w. wants-posted s.sizes (published s i).index.posted s.index.posted ((published s i).txns j) b (λ h. sym (late-needs a j h)) w)
        f.buckets;
    claims = f.claims;
  }

pub holders-move : (s s' : Store) {a : ℕ} → Numbers s.clock s.txns → HoldersAt s
    → ((i r : ℕ) → Live (s.txns i) → rank (s.txns i).phase ≡ phase_open → CanPrepare s i → Writes s.sizes (s.txns i) r
    → s.index.posted r ≡ old_key s.chains r)
    → Move s a s' → HoldersAt s'
holders-move s s' = go s'
  where
    go : {a : ℕ} (s' : Store) → Numbers s.clock s.txns → HoldersAt s
        → ((i r : ℕ) → Live (s.txns i) → rank (s.txns i).phase ≡ phase_open → CanPrepare s i → Writes s.sizes (s.txns i) r
        → s.index.posted r ≡ old_key s.chains r)
        → Move s a s' → HoldersAt s'
    go s' n g h (stay i) = g
    go s' n g h (did-begin i a b c d) =
        holders-quiet s i n g _ (λ e. omega (arith, n.idle i b)) (omega (arith, n.idle i b)) (λ e. omega arith) (omega arith)
    go s' n g h (did-mark i a b) = holders-quiet s i n g _ (λ e. omega arith) (omega arith) (λ e. omega arith) (omega arith)
    go s' n g h (did-capture i k a b c) = holders-capture s i n g k a b c
    go s' n g h (did-collect i a b) = holders-collect s i n g b
    go s' n g h (did-rows i a b c) = holders-quiet s i n g _ (λ e. omega arith) (omega arith) (λ e. omega arith) (omega arith)
    go s' n g h (did_write i w a b c d) = holders-quiet s i n g _ (λ e. omega arith) (omega arith) (λ e. omega arith) (omega arith)
    go s' n g h (did-prepare i a b c) = holders-prepare s i n g a b c (λ r w. h i r a b c w)
    go s' n g h (did-install i a b) = holders-late s i n g Installed (omega arith) (omega arith)
    go s' n g h (did-end i a b) = holders-late s i n g Ended (omega arith) (omega arith)
    go s' n g h (did-publish i a b) = holders-publish s i n g a b
    go s' n g h (did-abort i a b) = holders-free s i n g a

pub holders-fresh : (z : Sizes) (clock : ℕ) → HoldersAt (fresh z clock)
holders-fresh z clock = record {
  buckets = record { owns = λ j b w. absurd (omega (arith, wants-busy z (λ r. none) no_txn b w)); owner = λ b nz. absurd (nz refl) };
  claims = record { owns = λ j r w. absurd (omega (arith, w.0)); owner = λ b nz. absurd (nz refl) };
}
