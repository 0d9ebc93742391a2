-- Abort over the words is the model's: what the words list is all that carries the number.
-- Assumes nothing.
use Prim.Native.Nat.{ℕ, ◌*◌, ◌%◌, ◌≤◌, ◌<◌}
use mathlib.Core.Path.{◌≡◌, refl, sym, ap, ◌∙◌}
use mathlib.Core.Bool.{Bool, true, false, cond, not}
use mathlib.Core.Logic.{inl, inr, ⊎_elim}
use mathlib.Core.Option.{none, some}
use mathlib.Core.List.{List, [], ◌∷◌, ◌++◌}
use native.Mathlib.Nat.{mod-lt}
use native.Mathlib.Decide.{dec_lt}
use native.Mathlib.Omega.{arith}
use lib.Dec.{eqb, ltb, leb}
use lib.ListN.{length, length-append, length-map}
use borrow.Author.Tests.{lt-ltb, le-ltb, lt-leb, le-leb, leb-false}
use Rattle.base_limits.specs.Limits.{most_live}
use Rattle.base_lists.specs.Lists.{join, Among}
use Rattle.base_lists.specs.Table.{update}
use Rattle.base_lists.proofs.ListLaws.{among_cases, join-which, join-same}
use Rattle.model.specs.Store as model
use Rattle.model.specs.Store.{bucket_in, rank, phase_installed}
use Rattle.model.specs.Steps.{freed, key_buckets, old_key, new_key, needed_buckets, pending_rows}
use Rattle.model.specs.Refusals.{WrongPhase, refusal}
use Rattle.model.specs.Machine.{gives, lent_after, accepted, after_refusal, carried}
use Rattle.model.specs.Machine as machine
use Rattle.model.specs.Holding.{needs, Wants}
use Rattle.model.proofs.Good.{Good, right-shape}
use Rattle.model.proofs.Written.{posted-old}
use Rattle.base_protocol.specs.declared.Step.TheVariants as ask
use Rattle.base_protocol.specs.declared.Answer.{Answer}
use Rattle.base_protocol.specs.declared.Answer.TheVariants as tell
use Rattle.base_protocol.specs.View.{asked, told, sizes_view, refusal_told}
use Rattle.table.specs.Lists as lists
use Rattle.table.proofs.Spans.{list_length}
use Rattle.table.specs.declared.lists.Write.{Write}
use Rattle.txn.specs.View.{phase_view, rows_part, versions_part, buckets_part, chains_view, index_view, held_view}
use Rattle.txn.specs.Methods.{idle_of, refused_of}
use Rattle.txn.specs.declared.Transaction.{Transaction}
use Rattle.txn_needs.specs.declared.Key.{Key}
use Rattle.txn_needs.specs.declared.Keys.{Keys}
use Rattle.txn_needs.specs.Keys.{keys_of}
use Rattle.txn_needs.specs.Needs.{buckets_for, keys_need, reads_need, written_by}
use Rattle.table.specs.Fields.{row_words, bucket_words, clear_holders, clear_claims}
use Rattle.finish_publish.specs.Publish.{needed_in, freed_in, abort_of}
use Rattle.step.specs.Steps.{in_aborted}
use Rattle.step.specs.Words.{Words, view, txn_at, SizedTxn, Sized}
use Rattle.step_bridge.proofs.Shaped.{Shaped, shaped, count-pos}
use Rattle.step_bridge.proofs.Places.{standing, sized-at, live_at}
use Rattle.step_bridge.proofs.Placed.{idle-view, txns-set, sized_set}
use Rattle.step_bridge.proofs.Same.{same_store, SameAt, Same, refused-same}
use Rattle.step_bridge.proofs.SameLaws.{by_place}
use Rattle.step_bridge.proofs.Listing.{listed-all}
use Rattle.step_bridge.proofs.Judging.{needs-length, read-in}
use Rattle.step_bridge.proofs.Tabled.{InRange}
use Rattle.step_bridge.proofs.Telling.{Tells, tells-kept}
use Rattle.step_bridge.proofs.Freeing.{freed-release, clear-all, clear-other, clear-length}
use Rattle.step_bridge.proofs.Needing.{row_needs, listed_needs, row_in, pending-row, needed-listed}

-- one bucket for a key, at most, and in range
for-few : (count : ℕ) (k : Key) → length (buckets_for count k) ≤ 1
unfolding buckets_for
for-few count k = by (eqb k.keyed 0)
  where
    by : (b : Bool) → length (cond b [] ((k.key % count) ∷ [])) ≤ 1
    by true = omega arith
    by false = omega arith

for-in : (count : ℕ) (k : Key) → 1 ≤ count → InRange count (buckets_for count k)
unfolding buckets_for
for-in count k h = by (eqb k.keyed 0)
  where
    by : (b : Bool) → InRange count (cond b [] ((k.key % count) ∷ []))
    by true i m = absurd m
    by false i (inl e) = rw e (mod-lt k.key h)
    by false i (inr m) = absurd m

pub join-few : (f : ℕ → List ℕ) (rs : List ℕ) → ((r : ℕ) → length (f r) ≤ 2) → length (join f rs) ≤ 2 * length rs
unfolding join
join-few f [] h = omega arith
join-few f (r ∷ rs) h = rw (length-append (f r) (join f rs)) (omega (arith, h r, join-few f rs h))

pub needs-few : (count : ℕ) (k : Keys) → length (keys_need count k) ≤ 2
unfolding keys_need
needs-few count k = rw length-append (omega (arith, for-few count k.old, for-few count k.new))

pub needs-in : (count : ℕ) (k : Keys) → 1 ≤ count → InRange count (keys_need count k)
unfolding keys_need
needs-in count k h i m =
    ⊎_elim (λ a. for-in count k.old h i a) (λ a. for-in count k.new h i a) (among_cases i (buckets_for count k.old) (buckets_for count k.new) m)

-- wrong phase, as both test it
pub late-test : (r : ℕ) → leb 5 r ≡ not (ltb r 5)
late-test r = elim (dec_lt r 5) [ yes l ↦ rw (lt-leb 5 r l, lt-ltb r 5 l) | no l ↦ let h : 5 ≤ r = omega (arith, l) in rw (le-leb 5 r h, le-ltb r 5 h) ]

module _ (w : Words) (p : ℕ) where
  pub writes-few : length (written_by w.tables.lists (txn_at w p)) ≡ (txn_at w p).writes_n
  writes-few = length-map (lists.writes_of w.tables.lists (txn_at w p).slot (txn_at w p).writes_n) (λ (x : Write). x.row)
      ∙ list_length lists.write_of (lists.writes).w (lists.start_of lists.writes (txn_at w p).slot) w.tables.lists (txn_at w p).writes_n

  -- the listed buckets are few
  pub listed-few : Sized w → length (listed_needs w p) ≤ 48
  listed-few z =
      let s = sized-at w z p in
      rw length-append (omega (
        arith,
        s.reads,
        s.writes,
        writes-few,
        needs-length w.tables.lists (txn_at w p),
        join-few (row_needs w p) (written_by w.tables.lists (txn_at w p))
            (λ r. needs-few w.sizes.buckets (keys_of w.tables.rows w.tables.versions w.tables.lists (txn_at w p) r)),
      ))

  -- the buckets that an abort or a publish frees
  abbrev pub freed_list : List ℕ
  freed_list = bucket_in (phase_view (txn_at w p).phase) ∷ listed_needs w p

  pub freed-buckets : Sized w → (bs : List ℕ)
      → freed_in w.tables.rows w.tables.versions bs w.tables.lists w.sizes.buckets (txn_at w p)
      ≡ clear_holders bs (txn_at w p).number freed_list
  unfolding freed_in needed_in
  freed-buckets z bs = ap (λ (hs : List ℕ). clear_holders bs (txn_at w p).number hs) (listed-all 49 freed_list (omega (arith, listed-few z)))

module _ (w : Words) (z : Sized w) (g : Shaped w) (p : ℕ) (l : 1 ≤ (txn_at w p).number) where
  -- what is listed is in range
  pub listed-in : InRange w.sizes.buckets (listed_needs w p)
  listed-in b m =
      let rs = written_by w.tables.lists (txn_at w p) in
      ⊎_elim (λ n. read-in w z g p l b n)
      (λ n. let a = join-which (row_needs w p) rs b n in
      needs-in w.sizes.buckets (keys_of w.tables.rows w.tables.versions w.tables.lists (txn_at w p) a.0) (count-pos w g) b a.2)
      (among_cases b (reads_need w.tables.lists (txn_at w p)) (join (row_needs w p) rs) m)

  pub freed-in : InRange w.sizes.buckets (freed_list w p)
  freed-in b (inl e) = rw e (g.in-store p l).bucket-in
  freed-in b (inr m) = listed-in b m

module _ (w : Words) (z : Sized w) (g : Good (view w)) (p : ℕ) (l : 1 ≤ (txn_at w p).number) where
  abbrev sh : Shaped w
  sh = shaped w z (right-shape (view w) g)

  -- all that is held by the number is listed, before install
  own-listed : rank (phase_view (txn_at w p).phase) < phase_installed → (b : ℕ) → (view w).held.holder b ≡ (txn_at w p).number → Among b (freed_list w p)
  unfolding needs needed_buckets
  own-listed r b e = by (g.holders.buckets.owner b (λ q. omega (arith, q)))
    where
      wanted : Wants (view w).sizes (view w).index.posted ((view w).txns p) b → Among b (freed_list w p)
      wanted (inl h) = inl (sym (ap bucket_in h.1))
      wanted (inr h) = inr (needed-listed w z sh p l (lt-leb phase_installed _ r) b
          (rw (join-same (λ q. key_buckets (view w).sizes ((view w).index.posted q) ++ key_buckets (view w).sizes (new_key ((view w).txns p) q))
          (λ q. key_buckets (view w).sizes (old_key (view w).chains q) ++ key_buckets (view w).sizes (new_key ((view w).txns p) q))
          (pending_rows (view w).sizes ((view w).txns p).writes)
          (λ q m. rw (posted-old (view w) g.numbers g.holders g.written p q (omega (arith, h.0)) m))) at h.1))

      by : (j : ℕ) × ((view w).held.holder b ≡ ((view w).txns j).number) × Wants (view w).sizes (view w).index.posted ((view w).txns j) b
          → Among b (freed_list w p)
      by o = wanted (rw (g.numbers.distinct p o.0 l (sym e ∙ o.1)) o.2)

  pub own-rows : (r : ℕ) → (view w).held.claim r ≡ (txn_at w p).number → Among r (written_by w.tables.lists (txn_at w p))
  own-rows r e =
      let o = g.holders.claims.owner r (λ q. omega (arith, q)) in
      let d = g.numbers.distinct p o.0 l (sym e ∙ o.1) in
      pending-row w z sh p r (rw d o.2.1)

  -- the words after freeing, as the model has them
  abort-held : rank (phase_view (txn_at w p).phase) < phase_installed
      → held_view (rows_part (sizes_view w.sizes)
      (clear_claims w.tables.rows (txn_at w p).number (written_by w.tables.lists (txn_at w p))))
      (buckets_part (sizes_view w.sizes) (clear_holders w.tables.buckets (txn_at w p).number (freed_list w p)))
      ≡ freed (view w).held (txn_at w p).number
  abort-held r =
      let n = (txn_at w p).number in
      let rs = written_by w.tables.lists (txn_at w p) in
      rw (
        clear-all row_words 1 (omega arith) w.sizes.rows n w.tables.rows rs (λ q m. row_in w z sh p l q m) z.rows,
        freed-release n (view w).held.claim rs own-rows,
        clear-all bucket_words 1 (omega arith) w.sizes.buckets n w.tables.buckets (freed_list w p) (freed-in w z sh p l) z.buckets,
        freed-release n (view w).held.holder (freed_list w p) (own-listed r),
      )

module _ (w : Words) where
  pub abort-chains : (n : ℕ) (rs : List ℕ)
      → chains_view (rows_part (sizes_view w.sizes) (clear_claims w.tables.rows n rs)) (versions_part (sizes_view w.sizes) w.tables.versions)
      w.used ≡ (view w).chains
  abort-chains n rs = rw (clear-other row_words 1 (omega arith) w.sizes.rows n w.tables.rows rs 0 (omega arith) (omega arith))

  pub abort-index : (n : ℕ) (rs bs : List ℕ)
      → index_view (rows_part (sizes_view w.sizes) (clear_claims w.tables.rows n rs))
      (buckets_part (sizes_view w.sizes) (clear_holders w.tables.buckets n bs)) ≡ (view w).index
  abort-index n rs bs = rw (
    clear-other row_words 1 (omega arith) w.sizes.rows n w.tables.rows rs 2 (omega arith) (omega arith),
    clear-other row_words 1 (omega arith) w.sizes.rows n w.tables.rows rs 3 (omega arith) (omega arith),
    clear-other bucket_words 1 (omega arith) w.sizes.buckets n w.tables.buckets bs 0 (omega arith) (omega arith),
  )

-- the lists tell as before
pub abort-told : (w : Words) → Sized w → (n : ℕ) (rs : List ℕ) → Tells w (clear_claims w.tables.rows n rs)
abort-told w z n rs =
    tells-kept _ _ w.sizes.rows
    (λ k lo hi. clear-other row_words 1 (omega arith) w.sizes.rows n w.tables.rows rs k hi (λ e. omega arith)) z.told

pub sized-idle : (p : ℕ) (t : Transaction) → SizedTxn p t → SizedTxn p (idle_of t.slot)
sized-idle p t s = record {
  slot = s.slot;
  active = omega arith;
  seven = refl;
  reads = omega arith;
  writes = omega arith;
  records = omega arith;
  candidates = omega arith;
}

-- a record that ends, whatever else is left: where its rows and buckets stand for these parts of the store, the whole stands for that store
pub ended_at : (w : Words) → Sized w → (p : ℕ) → p < most_live
    → (rows buckets : List ℕ) (a : Answer) (o : machine.Answer) (clock clock' : ℕ) (c : model.Chains) (x : model.Index) (h : model.Held)
    → clock ≡ clock' → chains_view (rows_part (sizes_view w.sizes) rows) (versions_part (sizes_view w.sizes) w.tables.versions) w.used ≡ c
    → index_view (rows_part (sizes_view w.sizes) rows) (buckets_part (sizes_view w.sizes) buckets) ≡ x
    → held_view (rows_part (sizes_view w.sizes) rows) (buckets_part (sizes_view w.sizes) buckets) ≡ h
    → length rows ≡ length w.tables.rows → length buckets ≡ length w.tables.buckets → Tells w rows → a ≡ told o
    → w.tables.found ≡ lent_after o w.tables.found
    → SameAt w p (record {
      stepped = record { answer = a; txn = idle_of (txn_at w p).slot; clock = clock; used = w.used };
      rows = rows;
      versions = w.tables.versions;
      buckets = buckets;
      lists = w.tables.lists;
      found = w.tables.found;
    })
    (gives (record { sizes = (view w).sizes; clock = clock'; chains = c; index = x; held = h; txns = update (view w).txns p model.no_txn }) o)
ended_at w z p l rows buckets a o clock clock' c x h e₁ e₂ e₃ e₄ r b e₅ t f =
    let s = (txn_at w p).slot in
    record {
      store = same_store _ _ refl e₁ e₂ e₃ e₄ (txns-set w z p l w.tables.lists (idle_of s) (λ j d. refl)
          ∙ ap (λ (y : model.Txn). update (view w).txns p y) (idle-view w.tables.lists s));
      answer = t;
      lent = f;
      sized = sized_set w z p l _ _ _ _ (sized-idle p (txn_at w p) (sized-at w z p)) r refl b refl e₅;
    }

module _ (w : Words) (z : Sized w) (g : Good (view w)) (n : ℕ) where
  aborted-at : standing w n < most_live → 1 ≤ (txn_at w (standing w n)).number → (b : Bool)
      → leb phase_installed (rank (phase_view (txn_at w (standing w n)).phase)) ≡ b
      → SameAt w (standing w n)
      (in_aborted
      (cond b (record { reply = refused_of (txn_at w (standing w n)) (refusal_told WrongPhase); rows = w.tables.rows; buckets = w.tables.buckets })
      (record {
        reply = record { answer = tell.Done; txn = idle_of (txn_at w (standing w n)).slot };
        rows = clear_claims w.tables.rows (txn_at w (standing w n)).number
            (written_by w.tables.lists (txn_at w (standing w n)));
        buckets = clear_holders w.tables.buckets (txn_at w (standing w n)).number (freed_list w (standing w n));
      }))
      w.clock w.used w.tables)
      (carried (view w) (asked (ask.Abort n)) (cond b (some WrongPhase) none))
  unfolding carried accepted after_refusal
  aborted-at l a true e = refused-same w z (standing w n) WrongPhase
  aborted-at l a false e =
      let q = standing w n in
      let t = txn_at w q in
      let rs = written_by w.tables.lists t in
      ended_at w z q l _ _ tell.Done machine.Done w.clock w.clock _ _ _ refl (abort-chains w t.number rs)
      (abort-index w t.number rs (freed_list w q)) (abort-held w z g q a (leb-false 5 (rank (phase_view t.phase)) e))
      (clear-length row_words 1 t.number w.tables.rows rs) (clear-length bucket_words 1 t.number w.tables.buckets (freed_list w q))
      (abort-told w z t.number rs) refl refl

  -- buckets and claims are freed, and the record ends
  pub abort-same : Same w (ask.Abort n)
  unfolding refusal abort_of
  abort-same = by_place w z (ask.Abort n) refl tt
      (λ l d e.
      let q = standing w n in
      let a : 1 ≤ (txn_at w q).number = live_at w n d e in
      rw (freed-buckets w q z w.tables.buckets, ← late-test (rank (phase_view (txn_at w q).phase)))
      (aborted-at l a (leb phase_installed (rank (phase_view (txn_at w q).phase))) refl))
