-- The history of every run: `affects`, `guarded_stamp_history`, `event_chronology`, `history_maps_snapshot` and `history_valid`.
-- Assumes nothing.
use Prim.Native.Nat.{ℕ, zero, suc, ◌≤◌, ◌<◌}
use mathlib.Core.Path.{◌≡◌, refl, sym, ap, ◌∙◌}
use mathlib.Core.Bool.{Bool, true, false, cond}
use mathlib.Core.Logic.{◌⊎◌, inl, inr, ⊎_elim}
use mathlib.Core.Option.{some}
use mathlib.Core.List.{List, [], ◌∷◌}
use native.Mathlib.Omega.{arith}
use lib.Dec.{eqb, ltb}
use borrow.Author.Tests.{ltb-true}
use Rattle.base_limits.specs.Limits.{last_number}
use Rattle.base_lists.specs.Lists.{member, least, Among}
use Rattle.base_lists.proofs.TableLaws.{cond-elim}
use Rattle.base_lists.proofs.ListLaws.{among-left, among-right, or_cases, member-among, among-member}
use Rattle.model.specs.Store.{Sizes, Txn, Store, fresh, same_key, bucket_of}
use Rattle.model.specs.Seeing.{version_of, key_at, Live}
use Rattle.model.specs.Steps.{made_rows, new_key, key_buckets}
use Rattle.model.specs.Upstream.{Event, event_buckets, stamp_at, pointer}
use Rattle.model.specs.History.{event_of, add_events, step_events, history_over, history, changing}
use Rattle.model.specs.Refusals.{Step, publish, txn_of}
use Rattle.model.specs.Machine.{step, run, can_open}
use Rattle.model.specs.Given.{number}
use Rattle.model.specs.Holding.{Unpublished}
use Rattle.model.proofs.Ruled.{Publishes, may-publish, quiet, ruled}
use Rattle.model.proofs.SeeingLaws.{same-key, key_at-zero, key_at-key, key-bucket}
use Rattle.model.proofs.Made.{made-writes}
use Rattle.model.proofs.Holders.{needs-old, needs-new}
use Rattle.model.proofs.Good.{Good, good-run, opened-good}
use Rattle.model.proofs.UpstreamLaws.{first-same}
use Rattle.model.proofs.Promises.{kept-held, kept-history}
use Rattle.model_upstream.specs.Clauses.{affects, GuardedStampHistory, EventChronology, key_there, stored_snapshot_key, MapsRow}
use Rattle.model_upstream.specs.Protocol.{Action, protocol_after, ProtocolValid, step_actions, actions_over, actions}
use Rattle.model_upstream.specs.Valid.{Known, ImageValid, TransactionValid, HistoryKept, HistoryValid, NoneWaiting}
use Rattle.model_upstream.proofs.Protocols.{protocol-valid}
use Rattle.model_upstream.proofs.Follows.{Beside, step-beside, protocol-follows}

-- `guarded_stamp_history`: of a history whose stamps do not fall
module _ (z : Sizes) where
  abbrev Guarded : List Event → Type 0
  Guarded es = GuardedStampHistory z (λ b. 0) es

  abbrev stamp_of : List Event → ℕ → ℕ
  stamp_of es b = stamp_at z (λ c. 0) es b

  at_most : (es : List Event) (m : ℕ) → ((e : Event) → Among e es → e.stamp ≤ m) → (b : ℕ) → stamp_of es b ≤ m
  unfolding stamp_at
  at_most [] m h b = omega arith
  at_most (e ∷ older) m h b =
      cond-elim (◌≤ m) (member b (event_buckets z e)) e.stamp (stamp_of older b) (λ t. h e (inl refl)) (λ t. at_most older m (λ f q. h f (inr q)) b)

  guarded-added : (s : Store) (x : Txn) (rs : List ℕ) (older : List Event) → ((e : Event) → Among e older → e.stamp ≤ s.clock) → Guarded older
      → Guarded (add_events s x rs older)
  unfolding add_events
  guarded-added s x [] older h g = g
  guarded-added s x (r ∷ rs) older h g =
      guarded-added s x rs (event_of s x r ∷ older) (λ e m. ⊎_elim (λ f. rw f (omega arith)) (h e) m) ((λ b m. at_most older s.clock h b), g)

  -- a bucket's stamp is the highest of its events
  highest : (es : List Event) → Guarded es → (f : Event) → Among f es → (b : ℕ) → Among b (event_buckets z f) → f.stamp ≤ stamp_of es b
  unfolding stamp_at
  highest (e ∷ older) g f (inl q) b m = rw (← q, among-member b (event_buckets z f) m) (omega arith)
  highest (e ∷ older) g f (inr n) b m =
      let ih = highest older g.1 f n b m in
      cond-elim (λ v. f.stamp ≤ v) (member b (event_buckets z e)) e.stamp (stamp_of older b)
      (λ t. omega (arith, g.0 b (member-among b (event_buckets z e) t))) (λ t. ih)
  highest [] g f m b o = elim m [ ]

  -- events whose key changes give a bucket no higher stamp than all events, and are guarded too
  lower : (es : List Event) → Guarded es → (b : ℕ) → stamp_of (changing es) b ≤ stamp_of es b
  unfolding stamp_at changing
  lower [] g b = omega arith
  lower (e ∷ older) g b =
      let ih = lower older g.1 b in
      cond-elim (λ es. stamp_of es b ≤ cond (member b (event_buckets z e)) e.stamp (stamp_of older b)) (same_key e.before e.after) (changing older)
      (e ∷ changing older)
      (λ t. cond-elim (λ v. stamp_of (changing older) b ≤ v) (member b (event_buckets z e)) e.stamp (stamp_of older b)
      (λ m. omega (arith, g.0 b (member-among b (event_buckets z e) m))) (λ m. ih))
      (λ t. both (member b (event_buckets z e)) ih)
    where
      both : (m : Bool) → stamp_of (changing older) b ≤ stamp_of older b → cond m e.stamp (stamp_of (changing older) b) ≤ cond m e.stamp (stamp_of older b)
      both true ih = omega arith
      both false ih = ih

  guarded-changing : (es : List Event) → Guarded es → Guarded (changing es)
  unfolding changing
  guarded-changing [] g = tt
  guarded-changing (e ∷ older) g =
      cond-elim Guarded (same_key e.before e.after) (changing older) (e ∷ changing older) (λ t. guarded-changing older g.1)
      (λ t. ((λ b m. omega (arith, lower older g.1 b, g.0 b m)), guarded-changing older g.1))

-- `affects`: an event that affects a key has the key's bucket among its own
pub affects-bucket : (z : Sizes) (k : ℕ) (e : Event) → affects k e ≡ true → Among (bucket_of z k) (event_buckets z e)
unfolding affects
affects-bucket z k e t = ⊎_elim
    (λ a. among-left _ (key_buckets z e.before) _ (key-bucket z e.before k (same-key _ _ a)))
    (λ a. among-right _ (key_buckets z e.before) _ (key-bucket z e.after k (same-key _ _ a)))
    (or_cases _ _ t)

module _ (clock : ℕ) (s : Store) (es : List Event) (acts : List Action) (h : Beside clock s es acts) where
  -- a stamp that was published is below the clock
  stamp-below : (e : Event) → Among e es → (e.creator < e.stamp) × (e.stamp < s.clock)
  stamp-below e m =
      let w = (protocol-valid clock acts h.0).published-ended e.creator e.stamp (h.1.stamped e m) in
      (w.1, omega (arith, w.2, h.1.clock-is))

  guarded-step : (z : Sizes) → GuardedStampHistory z (λ b. 0) es → (a : Step) → GuardedStampHistory z (λ b. 0) (step_events s a es)
  unfolding step_events
  guarded-step z g a = by a (ruled s a).publishes
    where
      by : (b : Step) → Publishes s b → GuardedStampHistory z (λ b. 0) (step_events s b es)
      by b (may-publish t) = cond-elim (GuardedStampHistory z (λ b. 0)) (eqb (number s (publish t)) 0) _ es
          (λ e. guarded-added z s (txn_of s t) (made_rows s.sizes s.chains (txn_of s t).number (txn_of s t).writes) es
          (λ q m. omega (arith, (stamp-below q m).1)) g) (λ e. g)
      by b (quiet i q silent) = rw (q es) g

guarded-run : (z : Sizes) (clock : ℕ) (s : Store) (es : List Event) (acts : List Action) (more : List Step) → Good s → Beside clock s es acts
    → GuardedStampHistory z (λ b. 0) es → GuardedStampHistory z (λ b. 0) (history_over es s more)
unfolding history_over run
guarded-run z clock s es acts [] g h d = d
guarded-run z clock s es acts (a ∷ more) g h d =
    guarded-run z clock (step s a).store (step_events s a es) (step_actions s a acts) more (good-run s g (a ∷ [])) (step-beside clock s es acts g h a)
    (guarded-step clock s es acts h z d a)

-- the least of numbers from 1 on is from 1 on, and at most the first
least-in : (n : ℕ) (xs : List ℕ) → 1 ≤ n → ((m : ℕ) → Among m xs → 1 ≤ m) → (1 ≤ least n xs) × (least n xs ≤ n)
unfolding least
least-in n [] l h = (l, omega arith)
least-in n (x ∷ xs) l h = cond-elim (λ m. (1 ≤ least m xs) × (least m xs ≤ n)) (ltb x n) x n
    (λ t. let w = least-in x xs (h x (inl refl)) (λ m q. h m (inr q)) in (w.0, omega (arith, w.1, ltb-true x n t)))
    (λ t. least-in n xs l (λ m q. h m (inr q)))

-- `image_valid`: of every store that is reached
pub image-valid : (s : Store) → Good s → ImageValid s
image-valid s g = record {
  heads = λ r l. at_all (s.chains.head r) (g.chained.heads-in r);
  nexts = λ p k. let f = g.chained.next-falls p k.0 k.1 in ⊎_elim inl (λ q. inr (q, f)) (at_all (s.chains.next p) (omega (arith, f)));
}
  where
    at_all : (p : ℕ) → p ≤ s.chains.used → (p ≡ 0) ⊎ Known s.chains p
    at_all zero l = inl refl
    at_all (suc p) l = inr (omega arith, l)

-- `stored_snapshot_key`: what a live transaction sees of a row
pub stored-key : (s : Store) → Good s → (j : ℕ) → Live (s.txns j) → (r : ℕ)
    → stored_snapshot_key s.chains (s.txns j) r ≡ key_at s.chains (version_of s.chains (s.txns j).snapshot r)
unfolding pointer
stored-key s g j l r = ap (key_there s.chains) (first-same s g j l (s.chains.head r)) ∙ there (version_of s.chains (s.txns j).snapshot r)
  where
    there : (q : ℕ) → key_there s.chains (pointer q) ≡ key_at s.chains q
    there zero = rw (key_at-zero s.chains)
    there (suc q) = rw (key_at-key s.chains (suc q) (omega arith))

-- a run from a store that could be opened
module _ (z : Sizes) (clock : ℕ) (before : List Step) (o : can_open z clock ≡ true) (l : clock ≤ last_number) where
  abbrev now : Store
  now = run (fresh z clock) before

  abbrev events : List Event
  events = history (fresh z clock) before

  abbrev done : List Action
  done = actions (fresh z clock) before

  beside : Beside clock now events done
  beside = protocol-follows z clock before o l

  pub guarded-stamp-history : GuardedStampHistory now.sizes (λ b. 0) events
  unfolding run actions_over history_over
  guarded-stamp-history = guarded-run now.sizes clock (fresh z clock) [] [] before (opened-good z clock [] o l) (protocol-follows z clock [] o l) tt

  -- the same of the events whose key changes, of which the stamps are
  pub guarded-changing-history : GuardedStampHistory now.sizes (λ b. 0) (changing events)
  guarded-changing-history = guarded-changing now.sizes events guarded-stamp-history

  -- an event that affects a key, and changes it, has left its stamp or a later one at the key's bucket
  pub affects-stamp : (k : ℕ) (e : Event) → Among e (changing events) → affects k e ≡ true → e.stamp ≤ now.index.stamp (bucket_of now.sizes k)
  affects-stamp k e m a = rw ((kept-history z clock before o l).stamps-are (bucket_of now.sizes k))
      (highest now.sizes (changing events) guarded-changing-history e m (bucket_of now.sizes k) (affects-bucket now.sizes k e a))

  -- `protocol_valid`
  pub protocol-is-valid : ProtocolValid (protocol_after clock done)
  protocol-is-valid = protocol-valid clock done beside.0

  -- who has made a version of a row and not published it holds the buckets of both its keys, so that nobody captures them meanwhile
  pub waiting-held : (w r k : ℕ) → Unpublished now.sizes now.chains (now.txns w) r
      → (now.index.posted r ≡ some k) ⊎ (new_key (now.txns w) r ≡ some k) → now.held.holder (bucket_of now.sizes k) ≡ (now.txns w).number
  waiting-held w r k u e =
      let m = made-writes now.sizes now.chains (now.txns w) r u.2 in
      (kept-held z clock before o l).holds w _
      (inr (
        omega (arith, u.1),
        ⊎_elim (needs-old now.sizes now.index.posted (now.txns w) r k m) (needs-new now.sizes now.index.posted (now.txns w) r k m) e,
      ))

  module _ (j : ℕ) (a : Live (now.txns j)) where
    -- `event_chronology`: of every event and every live transaction
    pub event-chronology : (e : Event) → Among e events → EventChronology (now.txns j) e
    event-chronology e m = (
      (stamp-below clock now events done beside e m).0,
      λ q. protocol-is-valid.observed-later (now.txns j).number e.creator e.stamp _ (beside.1.observes j a) (among-member e.creator _ q)
          (beside.1.stamped e m),
    )

    -- `transaction_valid`
    pub transaction-valid : TransactionValid now (now.txns j)
    transaction-valid =
        let g = opened-good z clock before o l in
        let v = g.numbers.snapped j a in
        let w = least-in (now.txns j).number (now.txns j).snapshot.active a (beside.1.active-pos j a) in
        record {
          image = image-valid now g;
          number_in = (a, omega (arith, v.xmax-is));
          xmin-in = (omega (arith, v.xmin-is, w.0), omega (arith, v.xmin-is, w.1));
          writes-in = (g.ranges j).0.writes-in;
        }

    -- `history_valid`, all but `history_maps_snapshot`
    pub history-kept : HistoryKept clock now (now.txns j) events done
    history-kept = record {
      transaction = transaction-valid;
      coherent = (kept-history z clock before o l).coherent;
      protocol = beside.0;
      observed = beside.1.observes j a;
      published = beside.1.stamped;
      guarded = guarded-stamp-history;
    }

    -- `history_maps_snapshot`: of every row of which the transaction sees no version that waits for its publish
    pub maps-row : (r : ℕ) → NoneWaiting now (now.txns j) r → MapsRow now (now.txns j) events r
    maps-row r u = stored-key now (opened-good z clock before o l) j a r ∙ sym ((kept-history z clock before o l).snapshots-are j r a u)

    -- `history_valid`, where no row has such a version
    pub history-valid : ((r : ℕ) → r < now.sizes.rows → NoneWaiting now (now.txns j) r) → HistoryValid clock now (now.txns j) events done
    history-valid u = (history-kept, λ r b. maps-row r (u r b))
