-- In every reached store the postings are upstream's replay of the run's events, these are coherent, and the stamps are those of the events that change a key.
-- Assumes nothing.
use mathlib.Core.Path.{◌≡◌, refl, sym, ap, ◌∙◌}
use mathlib.Core.Bool.{Bool, true, false, cond, not, ◌&&◌, ◌||◌, true≢false}
use mathlib.Core.Logic.{◌≢◌, inl, inr, ⊎_elim}
use mathlib.Core.Option.{Option, none, some}
use mathlib.Core.List.{List, [], ◌∷◌, ◌++◌}
use Prim.Native.Nat.{ℕ, suc, ◌≤◌}
use native.Mathlib.Omega.{arith}
use native.Mathlib.Decide.{ℕ_discrete}
use lib.Dec.{eqb, ltb}
use borrow.Author.Tests.{eqb-true, eqb-false, eq-eqb, ne_eqb, ltb-true, lt-ltb}
use Rattle.base_limits.specs.Limits.{last_number}
use Rattle.base_lists.specs.Lists.{member, join, Among, Rising}
use Rattle.base_lists.specs.Table.{update, update_all}
use Rattle.base_lists.proofs.TableLaws.{update_same, update_other}
use Rattle.base_lists.proofs.ListLaws.{and_l, and_r, and_both, same_test, member-among, among-member, pick-which, which-pick, rising-above, pick-rising}
use Rattle.model.specs.Store.{Sizes, Txn, Store, fresh, rank, phase_ended, same_key}
use Rattle.model.specs.Seeing.{Live}
use Rattle.model.specs.Steps.{posted_rows, pending_rows, key_before, new_key, key_buckets, repost, changed_buckets, published, made_rows}
use Rattle.model.specs.Refusals.{Step, publish, txn_of}
use Rattle.model.specs.Machine.{at, accepted, step, run, can_open}
use Rattle.model.specs.Upstream.{Event, Postings, postings_of, remove, insert, posting_step, posting_replay, live_rows, Coherent, stamp_at, raw_candidates}
use Rattle.model.specs.History.{event_of, add_events, step_events, history_over, history, changing}
use Rattle.model.specs.Given.{number}
use Rattle.model.proofs.Tests.{lives-number}
use Rattle.model.proofs.Ruled.{Publishes, may-publish, quiet, ruled}
use Rattle.model.proofs.Made.{made-writes}
use Rattle.model.proofs.Written.{posted-new}
use Rattle.model.proofs.Good.{Good, sizes_run, good-run, opened-good}
use Rattle.model.proofs.Refused.{publish-0}
use Rattle.model.proofs.Outcomes.{refused-store, done-does}

-- a pair is removed, or inserted, where the key is the one named and the row is
same_number : (j k : ℕ) → eqb k j ≡ eqb j k
same_number j k = same_test _ _ (λ e. eq-eqb j k (sym (eqb-true k j e))) (λ e. eq-eqb k j (sym (eqb-true j k e)))

removed : (ps : Postings) (o : Option ℕ) (row k r : ℕ) → remove ps o row k r ≡ ps k r && not (same_key o (some k) && eqb r row)
unfolding remove same_key
removed ps none row k r = go (ps k r)
  where
    go : (b : Bool) → b ≡ b && true
    go true = refl
    go false = refl
removed ps (some key) row k r = rw (same_number key k)

inserted : (ps : Postings) (o : Option ℕ) (row k r : ℕ) → insert ps o row k r ≡ ps k r || (same_key o (some k) && eqb r row)
unfolding insert same_key
inserted ps none row k r = go (ps k r)
  where
    go : (b : Bool) → b ≡ b || false
    go true = refl
    go false = refl
inserted ps (some key) row k r = rw (same_number key k)

-- posting_step follows the row's key
posting-step : (ps : Postings) (live : ℕ → Option ℕ) (e : Event) → e.before ≡ live e.row → (k r : ℕ) → ps k r ≡ same_key (live r) (some k)
    → posting_step ps e k r ≡ same_key (update live e.row e.after r) (some k)
posting-step ps live e g k r h = inserted (remove ps e.before e.row) e.after e.row k r
    ∙ (rw (removed ps e.before e.row k r, h) (elim (ℕ_discrete r e.row) [
      | yes d ↦ rw (d, update_same, g, eq-eqb e.row e.row refl) (here (same_key (live e.row) (some k)) (same_key e.after (some k)))
      | no d ↦ rw (update_other live e.row e.after r d, ne_eqb r e.row d)
          (there (same_key (live r) (some k)) (same_key e.before (some k)) (same_key e.after (some k)))
    ]))
  where
    here : (b a : Bool) → (b && not (b && true)) || (a && true) ≡ a
    here true true = refl
    here true false = refl
    here false true = refl
    here false false = refl

    there : (p b a : Bool) → (p && not (b && false)) || (a && false) ≡ p
    there true true true = refl
    there true true false = refl
    there true false true = refl
    there true false false = refl
    there false b true = refl
    there false b false = refl

-- posting_replay over coherent events gives the postings of the live rows
pub replay-live : (initial : ℕ → Option ℕ) (es : List Event) → Coherent initial es → (k r : ℕ)
    → posting_replay (postings_of initial) es k r ≡ same_key (live_rows initial es r) (some k)
unfolding posting_replay postings_of live_rows
replay-live initial [] g k r = refl
replay-live initial (e ∷ older) g k r =
    posting-step (posting_replay (postings_of initial) older) (live_rows initial older) e g.0 k r (replay-live initial older g.1 k r)

member-append : (b : ℕ) (xs ys : List ℕ) → member b (xs ++ ys) ≡ member b xs || member b ys
unfolding member
member-append b [] ys = refl
member-append b (x ∷ xs) ys = rw (member-append b xs ys) (go (eqb b x) (member b xs) (member b ys))
  where
    go : (p q r : Bool) → p || (q || r) ≡ (p || q) || r
    go true q r = refl
    go false q r = refl

module _ (s : Store) (x : Txn) where
  -- the live keys after a publish
  live-added : (rs : List ℕ) (older : List Event) (r : ℕ)
      → live_rows (λ q. none) (add_events s x rs older) r ≡ cond (member r rs) (new_key x r) (live_rows (λ q. none) older r)
  unfolding add_events live_rows member
  live-added [] older r = refl
  live-added (q ∷ rs) older r = live-added rs (event_of s x q ∷ older) r ∙ go (member r rs) (ℕ_discrete r q)
    where
      go : (b : Bool) → Dec (r ≡ q) → cond b (new_key x r) (update (live_rows (λ q. none) older) q (new_key x q) r)
          ≡ cond (eqb r q || b) (new_key x r) (live_rows (λ q. none) older r)
      go true (yes e) = rw (eq-eqb r q e)
      go true (no d) = rw (ne_eqb r q d)
      go false (yes e) = rw (eq-eqb r q e, e, update_same)
      go false (no d) = rw (ne_eqb r q d, update_other)

  -- distinct rows: each event's key before is the row's live key
  coherent-added : (k : ℕ) (rs : List ℕ) (older : List Event) → Rising k rs → Coherent (λ q. none) older
      → ((r : ℕ) → Among r rs → key_before s.chains r ≡ live_rows (λ q. none) older r) → Coherent (λ q. none) (add_events s x rs older)
  unfolding add_events live_rows
  coherent-added k [] older o g h = g
  coherent-added k (q ∷ rs) older o g h = coherent-added (suc q) rs (event_of s x q ∷ older) o.1 (h q (inl refl), g)
      (λ r m. h r (inr m) ∙ sym (update_other (live_rows (λ q. none) older) q (new_key x q) r (λ e. omega (arith, rising-above (suc q) rs o.1 r m))))

  -- only where the keys differ do both their buckets get the stamp
  buckets-changed : ℕ → List ℕ
  buckets-changed r = cond (same_key (key_before s.chains r) (new_key x r)) []
      (key_buckets s.sizes (key_before s.chains r) ++ key_buckets s.sizes (new_key x r))

  stamp-one : (q : ℕ) (older : List Event) (b : ℕ) (later : Bool)
      → cond later s.clock (stamp_at s.sizes (λ c. 0) (changing (event_of s x q ∷ older)) b) ≡ cond (member b (buckets-changed q) || later) s.clock
      (stamp_at s.sizes (λ c. 0) (changing older) b)
  unfolding changing buckets-changed stamp_at member
  stamp-one q older b later = go (same_key (key_before s.chains q) (new_key x q))
    where
      told : (m later : Bool) → cond later s.clock (cond m s.clock (stamp_at s.sizes (λ c. 0) (changing older) b))
          ≡ cond (m || later) s.clock (stamp_at s.sizes (λ c. 0) (changing older) b)
      told true true = refl
      told true false = refl
      told false later = refl

      go : (same : Bool) → cond later s.clock (stamp_at s.sizes (λ c. 0) (cond same (changing older) (event_of s x q ∷ changing older)) b)
          ≡ cond (member b (cond same [] (key_buckets s.sizes (key_before s.chains q) ++ key_buckets s.sizes (new_key x q))) || later) s.clock
          (stamp_at s.sizes (λ c. 0) (changing older) b)
      go true = refl
      go false = told (member b (key_buckets s.sizes (key_before s.chains q) ++ key_buckets s.sizes (new_key x q))) later

  stamp-added : (rs : List ℕ) (older : List Event) (b : ℕ)
      → stamp_at s.sizes (λ c. 0) (changing (add_events s x rs older)) b ≡ cond (member b (join buckets-changed rs)) s.clock
      (stamp_at s.sizes (λ c. 0) (changing older) b)
  unfolding add_events join member
  stamp-added [] older b = refl
  stamp-added (q ∷ rs) older b = stamp-added rs (event_of s x q ∷ older) b
      ∙ rw (member-append b (buckets-changed q) (join buckets-changed rs)) (stamp-one q older b (member b (join buckets-changed rs)))

-- the events of a run stand behind its index
pub record Recorded (s : Store) (es : List Event) : Type 0 where
  pub posts : (r : ℕ) → s.index.posted r ≡ live_rows (λ q. none) es r
  pub coherent : Coherent (λ q. none) es
  pub stamps : (b : ℕ) → s.index.stamp b ≡ stamp_at s.sizes (λ c. 0) (changing es) b

recorded-kept : (s s' : Store) (es : List Event) → s'.index ≡ s.index → s'.sizes ≡ s.sizes → Recorded s es → Recorded s' es
recorded-kept s s' es e f g = record {
  posts = λ r. ap (λ i. i.posted r) e ∙ g.posts r;
  coherent = g.coherent;
  stamps = λ b. ap (λ i. i.stamp b) e ∙ (g.stamps b ∙ ap (λ z. stamp_at z (λ c. 0) (changing es) b) (sym f));
}

-- what is not an accepted publish leaves the index
index-refused : (s : Store) (a : Step) → number s a ≢ 0 → (step s a).store.index ≡ s.index
index-refused s a d = ⊎_elim (λ e. ap (λ w. w.index) e) (λ e. ap (λ w. w.index) e) (refused-store s a d)

index_kept : (s : Store) (a : Step) → (accepted s a).store.index ≡ s.index → (step s a).store.index ≡ s.index
index_kept s a e = elim (ℕ_discrete (number s a) 0) [ yes z ↦ ap (λ w. w.store.index) (done-does s a z) ∙ e | no d ↦ index-refused s a d ]

sizes-kept : (s : Store) (a : Step) → (step s a).store.sizes ≡ s.sizes
unfolding run
sizes-kept s a = sizes_run s (a ∷ [])

-- a publish that is accepted
module _ (s : Store) (i : ℕ) (es : List Event) (g : Good s) (l : Live (s.txns i)) (a : rank (s.txns i).phase ≡ phase_ended) (h : Recorded s es) where
  abbrev rs : List ℕ
  rs = made_rows s.sizes s.chains (s.txns i).number (s.txns i).writes

  -- a pending row that got no version is posted as it was
  posts-same : (r : ℕ) (b d : Bool) → member r (pending_rows s.sizes (s.txns i).writes) ≡ b → member r rs ≡ d
      → cond b (new_key (s.txns i) r) (s.index.posted r) ≡ cond d (new_key (s.txns i) r) (live_rows (λ q. none) es r)
  posts-same r true true e f = refl
  posts-same r true false e f =
      sym (posted-new s g.numbers g.holders g.written i r l (omega arith) (member-among r _ e) (λ m. true≢false (sym (among-member r rs m) ∙ f)))
      ∙ h.posts r
  posts-same r false true e f = absurd (true≢false (sym (among-member r _ (made-writes s.sizes s.chains (s.txns i) r (member-among r rs f))) ∙ e))
  posts-same r false false e f = h.posts r

  recorded-publish : Recorded (published s i) (add_events s (s.txns i) rs es)
  unfolding repost update_all changed_buckets made_rows buckets-changed
  recorded-publish = record {
    posts = λ r. posts-same r _ _ refl refl ∙ sym (live-added s (s.txns i) rs es r);
    coherent = coherent-added s (s.txns i) 0 rs es (pick-rising _ 0 s.sizes.rows) h.coherent
        (λ r m. (g.written.mine i r l (omega arith) m).before ∙ h.posts r);
    stamps = λ b. ap (λ n. cond (member b (changed_buckets s (s.txns i))) s.clock n) (h.stamps b) ∙ sym (stamp-added s (s.txns i) rs es b);
  }

published-or-not : (s : Store) (t : ℕ) (es : List Event) → Good s → Recorded s es → Recorded (step s (publish t)).store (step_events s (publish t) es)
unfolding step_events accepted
published-or-not s t es g h = go (eqb (number s (publish t)) 0) refl
  where
    go : (b : Bool) → eqb (number s (publish t)) 0 ≡ b
        → Recorded (step s (publish t)).store
        (cond b (add_events s (txn_of s t) (made_rows s.sizes s.chains (txn_of s t).number (txn_of s t).writes) es) es)
    go true e =
        let z = eqb-true _ _ e in
        let r = (publish-0 s t).0 z in
        rw (done-does s (publish t) z) (recorded-publish s (at s t) es g (rw (lives-number s t r.1) r.1.3) r.2 h)
    go false e = recorded-kept s (step s (publish t)).store es (index-refused s (publish t) (eqb-false _ _ e)) (sizes-kept s (publish t)) h

recorded-step : (s : Store) (a : Step) (es : List Event) → Good s → Recorded s es → Recorded (step s a).store (step_events s a es)
recorded-step s a es g h = by a (ruled s a).publishes
  where
    by : (b : Step) → Publishes s b → Recorded (step s b).store (step_events s b es)
    by b (may-publish t) = published-or-not s t es g h
    by b (quiet i e silent) = rw (e es) (recorded-kept s (step s b).store es (index_kept s b i) (sizes-kept s b) h)

recorded-run : (s : Store) (es : List Event) (more : List Step) → Good s → Recorded s es → Recorded (run s more) (history_over es s more)
unfolding run history_over
recorded-run s es [] g h = h
recorded-run s es (a ∷ more) g h = recorded-run (step s a).store (step_events s a es) more (good-run s g (a ∷ [])) (recorded-step s a es g h)

pub recorded-opened : (z : Sizes) (clock : ℕ) (before : List Step) → can_open z clock ≡ true → clock ≤ last_number
    → Recorded (run (fresh z clock) before) (history (fresh z clock) before)
unfolding run live_rows stamp_at changing
recorded-opened z clock before e l =
    recorded-run (fresh z clock) [] before (opened-good z clock [] e l) (record { posts = λ r. refl; coherent = tt; stamps = λ b. refl })

-- collect's rows are upstream's raw_candidates
pub candidates-raw : (s : Store) (es : List Event) → Recorded s es → (k r : ℕ)
    → member r (posted_rows s k) ≡ ltb r s.sizes.rows && raw_candidates (posting_replay (postings_of (λ q. none)) es) k r
unfolding posted_rows
candidates-raw s es h k r = rw (replay-live (λ q. none) es h.coherent k r, ← h.posts r) (same_test _ _
    (λ e. let w = pick-which _ 0 s.sizes.rows r (member-among r _ e) in and_both _ _ (lt-ltb r s.sizes.rows (omega (arith, w.1))) w.2)
    (λ e. among-member r _ (which-pick (λ q. same_key (s.index.posted q) (some k)) 0 s.sizes.rows r (omega arith)
    (omega (arith, ltb-true r s.sizes.rows (and_l (ltb r s.sizes.rows) (same_key (s.index.posted r) (some k)) e)))
    (and_r (ltb r s.sizes.rows) _ e))))
