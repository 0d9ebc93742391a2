-- The map of a history to a snapshot where upstream uses it: of the key whose bucket a transaction holds, for every row.
-- Assumes nothing.
use Prim.Native.Nat.{ℕ, ◌≤◌, ◌<◌}
use mathlib.Core.Path.{◌≡◌, refl, sym, ap, ◌∙◌}
use mathlib.Core.Bool.{Bool, true, false, cond, true≢false}
use mathlib.Core.Logic.{◌↔◌, ◌⊎◌, inl, inr, ⊎_elim}
use mathlib.Core.Option.{Option, none, some}
use mathlib.Core.List.{List, [], ◌∷◌}
use native.Mathlib.Omega.{arith}
use native.Mathlib.Decide.{ℕ_discrete}
use Rattle.base_limits.specs.Limits.{last_number}
use Rattle.base_lists.specs.Table.{update}
use Rattle.base_lists.proofs.TableLaws.{update_same, update_other, cond-elim}
use Rattle.base_lists.specs.Lists.{Among}
use Rattle.base_lists.proofs.ListLaws.{or_left, or_right}
use Rattle.model.specs.Store.{Sizes, Holding, Txn, Store, fresh, rank, same_key, bucket_of}
use Rattle.model.specs.Seeing.{key_at, Live}
use Rattle.model.specs.Steps.{new_key}
use Rattle.model.specs.Upstream.{creator_visible, Event, live_rows, snapshot_rows, Coherent}
use Rattle.model.specs.History.{history, changing}
use Rattle.model.specs.Refusals.{Step}
use Rattle.model.specs.Machine.{run, can_open}
use Rattle.model.specs.Holding.{Unpublished}
use Rattle.model.proofs.SeeingLaws.{same-key, key-same}
use Rattle.model.proofs.Walk.{version-finds}
use Rattle.model.proofs.Told.{which-seen}
use Rattle.model.proofs.Complete.{key-up, key-down, untold}
use Rattle.model.proofs.Good.{Good, opened-good}
use Rattle.model.proofs.UpstreamLaws.{creator-seen}
use Rattle.model.proofs.Promises.{kept-history}
use Rattle.model_upstream.specs.Clauses.{affects, stored_snapshot_key}
use Rattle.model_upstream.proofs.Histories.{affects-stamp, event-chronology, stored-key, waiting-held}

changing-has : (es : List Event) (e : Event) → Among e es → same_key e.before e.after ≡ false → Among e (changing es)
unfolding changing
changing-has (q ∷ older) e (inl f) d = rw (← f, d) (inl refl)
changing-has (q ∷ older) e (inr m) d =
    cond-elim (Among e) (same_key q.before q.after) (changing older) (q ∷ changing older) (λ t. changing-has older e m d)
    (λ t. inr (changing-has older e m d))
changing-has [] e m d = elim m [ ]

-- where every event that changes a row from or to the key is seen, the snapshot has the key just where the live row has it
module _ (x : Txn) (k : ℕ) where
  abbrev live : List Event → ℕ → Option ℕ
  live es = live_rows (λ q. none) es

  abbrev snap : List Event → ℕ → Option ℕ
  snap es = snapshot_rows (λ q. none) es x

  abbrev AllSeen : List Event → Type 0
  AllSeen es = (e : Event) → Among e es → affects k e ≡ true → same_key e.before e.after ≡ false → creator_visible x e.creator ≡ true

  -- an event that is not seen keeps the key, or is of other keys
  seen-live : (es : List Event) → Coherent (λ q. none) es → AllSeen es → (r : ℕ) → snap es r ≡ some k ↔ live es r ≡ some k
  unfolding snapshot_rows live_rows affects
  seen-live [] g h r = ((λ z. z), (λ z. z))
  seen-live (e ∷ older) g h r =
      go (creator_visible x e.creator) refl (ℕ_discrete r e.row) (same_key e.before e.after) refl (seen-live older g.1 (λ q m. h q (inr m)) r)
    where
      -- the row's key before
      was : r ≡ e.row → e.before ≡ live older r
      was d = g.0 ∙ ap (live older) (sym d)

      becomes : r ≡ e.row → update (live older) e.row e.after r ≡ e.after
      becomes d = rw (d, update_same (live older) e.row e.after)

      go : (v : Bool) → creator_visible x e.creator ≡ v → Dec (r ≡ e.row) → (same : Bool) → same_key e.before e.after ≡ same
          → (snap older r ≡ some k ↔ live older r ≡ some k)
          → cond v (update (snap older) e.row e.after) (snap older) r ≡ some k ↔ update (live older) e.row e.after r ≡ some k
      go true c (yes d) same t ih = rw (d, update_same (snap older) e.row e.after, update_same (live older) e.row e.after) ((λ z. z), (λ z. z))
      go true c (no d) same t ih = rw (update_other (snap older) e.row e.after r d, update_other (live older) e.row e.after r d) ih
      go false c (no d) same t ih = rw (update_other (live older) e.row e.after r d) ih
      go false c (yes d) true t ih = let q = becomes d ∙ (sym (same-key _ _ t) ∙ was d) in ((λ z. q ∙ ih.0 z), (λ z. ih.1 (sym q ∙ z)))
      go false c (yes d) false t ih = (
        (λ z. absurd (true≢false (sym (h e (inl refl) (or_left _ _ (key-same e.before (some k) (was d ∙ ih.0 z))) t) ∙ c))),
        (λ z. absurd (true≢false (sym (h e (inl refl) (or_right (same_key e.before (some k)) _ (key-same e.after (some k) (sym (becomes d) ∙ z))) t)
            ∙ c))),
      )

module _ (z : Sizes) (clock : ℕ) (before : List Step) (o : can_open z clock ≡ true) (l : clock ≤ last_number) where
  abbrev now : Store
  now = run (fresh z clock) before

  abbrev events : List Event
  events = history (fresh z clock) before

  module _ (j k : ℕ) (a : Live (now.txns j)) (ph : (now.txns j).phase ≡ Holding (bucket_of now.sizes k) k) where
    g : Good now
    g = opened-good z clock before o l

    below : now.index.stamp (bucket_of now.sizes k) < (now.txns j).number
    below = ((g.reading j a).captures (bucket_of now.sizes k) k ph).1

    mine : now.held.holder (bucket_of now.sizes k) ≡ (now.txns j).number
    mine = g.holders.buckets.owns j (bucket_of now.sizes k) (inl (k, ph))

    -- nobody else who has installed has the key before or after
    none-waits : (w r : ℕ) → Unpublished now.sizes now.chains (now.txns w) r → (now.index.posted r ≡ some k) ⊎ (new_key (now.txns w) r ≡ some k) → ⊥
    none-waits w r u e =
        let q : w ≡ j = g.numbers.distinct w j u.0 (sym (waiting-held z clock before o l w r k u e) ∙ mine) in
        omega (arith, ap rank ph, rw q at u.1)

    -- the posted key is the head's, as far as k goes
    head-posted : (r : ℕ) → key_at now.chains (now.chains.head r) ≡ some k ↔ now.index.posted r ≡ some k
    head-posted r = ⊎_elim
        (λ e. ((λ q. e ∙ q), (λ q. sym e ∙ q)))
        (λ w. (
          (λ q. absurd (none-waits w.0 r (w.1, w.2, w.3) (inr (sym (g.written.mine w.0 r w.1 w.2 w.3).key-is ∙ q)))),
          (λ q. absurd (none-waits w.0 r (w.1, w.2, w.3) (inl q))),
        ))
        (g.written.posts r)

    all_seen : AllSeen (now.txns j) k events
    all_seen e m t d =
        let c = event-chronology z clock before o l j a e m in
        let st = affects-stamp z clock before o l k e (changing-has events e m d) t in
        let v = g.numbers.snapped j a in
        creator-seen (now.txns j) v e.creator
        ∙ which-seen (now.txns j).snapshot e.creator (omega (arith, c.0, below, v.xmax-is)) (λ q. omega (arith, c.1 q, below))

    -- `history_maps_snapshot` at the key whose bucket is held: what is seen of a row has the key just where what the seen events leave has it
    pub maps-key : (r : ℕ) → stored_snapshot_key now.chains (now.txns j) r ≡ some k ↔ snapshot_rows (λ q. none) events (now.txns j) r ≡ some k
    maps-key r =
        let free = untold now g.numbers g.holders g.written g.told j k a (omega (arith, ap rank ph)) below (inr mine) in
        let f = version-finds now.chains (now.txns j).snapshot g.chained r in
        let h = kept-history z clock before o l in
        let q = seen-live (now.txns j) k events h.coherent all_seen r in
        let s = stored-key now g j a r in
        let p = head-posted r in (
          (λ e. q.1 (sym (h.live-keys r) ∙ p.0 (key-up now.chains (now.txns j).snapshot k free (now.chains.head r) _ f (sym s ∙ e)))),
          (λ e. s ∙ key-down now.chains (now.txns j).snapshot k free (now.chains.head r) _ f (p.1 (h.live-keys r ∙ q.0 e))),
        )
