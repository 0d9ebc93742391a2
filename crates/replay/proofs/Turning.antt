-- A turn of the loop: what the step leaves, put back in its parts, is what the step of the words leaves.
-- Assumes nothing.
use Prim.Native.Nat.{ℕ, ◌<◌}
use mathlib.Core.Path.{◌≡◌, refl, sym, ap, ◌∙◌}
use mathlib.Core.Bool.{true, false}
use mathlib.Core.List.{List, []}
use native.Mathlib.Omega.{arith}
use lib.ListN.{length, get_or, set, length-set}
use lib.Seq.{set-get_or, get_or-set_same}
use Rattle.base_protocol.specs.declared.Answer.{Answer}
use Rattle.base_protocol.specs.declared.Extent.{Extent}
use Rattle.base_protocol.specs.declared.Step.{Step}
use Rattle.table_chain.specs.declared.Snapshot.{Snapshot}
use Rattle.txn.specs.Methods.{idle_of, rest_of, whole_of, parts_of}
use Rattle.txn.specs.declared.Parts.{Parts}
use Rattle.txn.specs.declared.Rest.{Rest}
use Rattle.txn.specs.declared.Transaction.{Transaction}
use Rattle.txn_places.specs.declared.Others.{Others}
use Rattle.txn_places.proofs.Laws.{place-below}
use Rattle.txn_places.specs.Places.{wanted_of, place_in, active_by, prepared_by}
use Rattle.step.specs.declared.Kept.{Kept}
use Rattle.step.specs.declared.Place.{Place}
use Rattle.step.specs.declared.Stepped.{Stepped}
use Rattle.step.specs.Steps.{Tables, Moved, in_published, with_kept, step_of, keeps_of, keeping_of, placing_of, Keeping, kept_in}
use Rattle.step.specs.Words.{Words, others_in, place_for, moved_by}
use Rattle.step.proofs.Laws.{beside, found-kept}
use Rattle.step.proofs.Keeping.{together, kept-stepped}
use Rattle.step_bridge.proofs.Placed.{after}
use Rattle.replay.proofs.Beside.{others_of, others-after, place_of, moved-of}
use Rattle.replay.proofs.Wholes.{parts_at, wholes, wholes-long, whole-at, whole_set, record-set, active-told, prepared-told}

-- the locals as one store of words
abbrev pub before : Tables → Extent → Others → List Snapshot → List Rest → Words
before b z o ss rs = record { tables = b; txns = wholes o.numbers ss rs; sizes = z.sizes; clock = z.clock; used = z.used }

-- all that a step leaves, of its parts
abbrev pub left : Answer → Extent → Transaction → Tables → Moved
left a e t b = record {
  stepped = record { answer = a; txn = t; clock = e.clock; used = e.used };
  rows = b.rows;
  versions = b.versions;
  buckets = b.buckets;
  lists = b.lists;
  found = b.found;
}

-- what is told of place k, beside the numbers
abbrev pub marked : Others → ℕ → ℕ → ℕ → Others
marked o k a p = record { numbers = o.numbers; active = set o.active k a; prepared = set o.prepared k p }

-- the locals behind a step of the words w at place k
pub record Turned (w : Words) (s : Step) (k : ℕ) (a : Answer) (e : Extent) (o : Others) (ss : List Snapshot) (rs : List Rest) (b : Tables) : Type 0 where
  pub txn : Transaction
  pub moved : left a e txn b ≡ moved_by w s
  pub back : wholes o.numbers ss rs ≡ set w.txns k txn
  pub besides : o ≡ others_in (wholes o.numbers ss rs)
  pub sizes : e.sizes ≡ w.sizes
  pub numbers-long : length o.numbers ≡ 8
  pub snapshots-long : length ss ≡ 8
  pub rests-long : length rs ≡ 8

-- they stand for the words behind it
pub behind : {w : Words} {s : Step} {k : ℕ} {a : Answer} {e : Extent} {o : Others} {ss : List Snapshot} {rs : List Rest} {b : Tables}
    (t : Turned w s k a e o ss rs b) → before b e o ss rs ≡ after w k (left a e t.txn b)
behind t = rw (t.back, t.sizes)

-- the same where the ways meet, of variables that are those
pub met : {w : Words} {s : Step} {k : ℕ} {a : Answer} {e : Extent} {o : Others} {ss : List Snapshot} {rs : List Rest} {b : Tables} → Turned w s k a e o ss rs b
    → {rows versions buckets lists found : List ℕ} {ss' : List Snapshot} {rs' : List Rest} {o' : Others} {e' : Extent} {a' : Answer}
    → rows ≡ b.rows → versions ≡ b.versions → buckets ≡ b.buckets → lists ≡ b.lists → found ≡ b.found → ss' ≡ ss → rs' ≡ rs → o' ≡ o → e' ≡ e → a' ≡ a
    → Turned w s k a' e' o' ss' rs' (record { rows = rows; versions = versions; buckets = buckets; lists = lists; found = found })
met t er ev eb el ef es es' eo ee ea = rw (er, ev, eb, el, ef, es, es', eo, ee, ea) t

-- the locals before it, with the place that the step goes to
pub record Found (b : Tables) (z : Extent) (o : Others) (ss : List Snapshot) (rs : List Rest) (s : Step) (n k : ℕ) : Type 0 where
  pub besides : o ≡ others_in (before b z o ss rs).txns
  pub numbers-long : length o.numbers ≡ 8
  pub snapshots-long : length ss ≡ 8
  pub rests-long : length rs ≡ 8
  pub wanted : n ≡ wanted_of s
  pub place : k ≡ place_in o.numbers n

-- a place is one of the eight
pub place_small : (ns : List ℕ) (n : ℕ) → length ns ≡ 8 → place_in ns n < 8
place_small ns n l = place-below 0 ns n 8 (omega arith) (omega (arith, l))

module _ {b : Tables} {z : Extent} {o : Others} {ss : List Snapshot} {rs : List Rest} {s : Step} {n k : ℕ} (f : Found b z o ss rs s n k) where
  abbrev from : Words
  from = before b z o ss rs

  -- eight records, and one of them is meant
  eight : length from.txns ≡ 8
  eight =
      let l = f.numbers-long in
      wholes-long 0 o.numbers ss rs (f.snapshots-long ∙ sym l) (f.rests-long ∙ sym l) ∙ l

  pub below : k < 8
  below = rw f.place (place_small o.numbers n f.numbers-long)

  pub placed-for : k ≡ place_for from.txns s
  placed-for = place_of from s f.besides eight f.wanted below f.place

  module _ (ds : Snapshot) (dr : Rest) where
    abbrev parts : Parts
    parts = parts_at (get_or o.numbers k 0) (get_or ss k ds) (get_or rs k dr) k

    abbrev place : Transaction → Place
    place t = record { extent = z; others = o; txn = t }

    -- the record that the step finds is the one at its place
    moved-from : (m : Moved) → m ≡ step_of b (place (whole_of parts)) s → m ≡ moved_by from s
    moved-from m em =
        moved-of from s f.besides eight f.wanted below f.place (idle_of 0) m
        (em ∙ ap (λ (t : Transaction). step_of b (place t) s)
        (sym (whole-at (idle_of 0) ds dr o.numbers ss rs k (omega (arith, f.numbers-long, below)) (omega (arith, f.snapshots-long, below))
        (omega (arith, f.rests-long, below)))))

    -- the rest that the step stored
    stored : {rs' : List Rest} (d r : Rest) → rs' ≡ set rs k r → get_or rs' k d ≡ r
    stored d r e = rw e (get_or-set_same rs k r d (omega (arith, f.rests-long, below)))

    -- a step that keeps its transaction
    keeping : (kept : Kept) (after : Tables) (a p : ℕ) → keeps_of s ≡ true
        → ◌≡◌ {A = Keeping}
        (record { kept = kept; rows = after.rows; versions = after.versions; buckets = after.buckets; lists = after.lists; found = after.found })
        (kept_in (keeping_of b (place (whole_of parts)) s))
        → a ≡ active_by parts.number kept.rest.rank → p ≡ prepared_by parts.number kept.rest.rank kept.rest.writes_n
        → Turned from s k kept.answer (record { sizes = z.sizes; clock = z.clock; used = kept.used })
        (record { numbers = o.numbers; active = set o.active k a; prepared = set o.prepared k p }) ss (set rs k kept.rest) after
    keeping kept after a p q em ea ep =
        let found-here = place (whole_of parts) in
        let step : kept_in (keeping_of b found-here s) ≡ kept_in (step_of b found-here s) = rw q in
        let r = kept.rest in
        let t = (with_kept kept parts z.clock).txn in
        let back : wholes o.numbers ss (set rs k r) ≡ set from.txns k t =
        sym (whole_set o.numbers ss rs k parts.number parts.snapshot r
        ∙ rw (set-get_or o.numbers k 0, set-get_or ss k ds)) in
        record {
          txn = t;
          moved = moved-from _ (together (step_of b found-here s) (whole_of parts) (em ∙ step) refl refl (kept-stepped b found-here s q));
          back = back;
          besides = ap (λ (ns : List ℕ). others_of ns (set o.active k a) (set o.prepared k p)) (sym (set-get_or o.numbers k 0))
              ∙ others-after o.numbers o.active o.prepared from.txns k t a p f.besides
              (ea ∙ sym (active-told parts.number r.rank r.bucket r.key))
              (ep ∙ sym (prepared-told parts.number r.rank r.bucket r.key r.writes_n))
              ∙ ap others_in (sym back);
          sizes = refl;
          numbers-long = f.numbers-long;
          snapshots-long = f.snapshots-long;
          rests-long = length-set rs k r ∙ f.rests-long;
        }

    -- the same, told of what is stored at its place
    pub kept-told : (kept : Kept) (after : Tables) (a p : ℕ) → keeps_of s ≡ true
        → ◌≡◌ {A = Keeping}
        (record { kept = kept; rows = after.rows; versions = after.versions; buckets = after.buckets; lists = after.lists; found = after.found })
        (kept_in (keeping_of b (place (whole_of parts)) s))
        → (d : Rest) {rs' : List Rest} {o' : Others} → rs' ≡ set rs k kept.rest → o' ≡ o
        → a ≡ active_by (get_or o'.numbers k 0) (get_or rs' k d).rank
        → p ≡ prepared_by (get_or o'.numbers k 0) (get_or rs' k d).rank (get_or rs' k d).writes_n
        → Turned from s k kept.answer (record { sizes = z.sizes; clock = z.clock; used = kept.used }) (marked o' k a p) ss rs' after
    kept-told kept after a p q em d er eo ea ep =
        let same = stored d kept.rest er in
        rw (er, eo) (keeping kept after a p q em (ea ∙ rw (same, eo)) (ep ∙ rw (same, eo)))

    -- begin, publish, abort: the lent row list is not theirs
    abbrev bare : Tables
    bare = record { rows = b.rows; versions = b.versions; buckets = b.buckets; lists = b.lists; found = [] }

    module _ (u : Stepped) (rows buckets : List ℕ) (q : keeps_of s ≡ false) (t : Transaction) (et : t ≡ whole_of parts)
        (em : in_published (record { stepped = u; rows = rows; buckets = buckets }) bare ≡ placing_of bare (place t) s) where
      abbrev lent : Tables
      lent = record { rows = rows; versions = b.versions; buckets = buckets; lists = b.lists; found = b.found }

      abbrev reach : Extent
      reach = record { sizes = z.sizes; clock = u.clock; used = u.used }

      pub placing-moved : left u.answer reach u.txn lent ≡ moved_by from s
      placing-moved =
          let placed : in_published (record { stepped = u; rows = rows; buckets = buckets }) bare ≡ step_of bare (place (whole_of parts)) s = em ∙ rw (q, et) in
          moved-from _ (ap (beside b.found) placed ∙ found-kept b.found bare (place (whole_of parts)) s q)

      placing : (after : Parts) (a p : ℕ) → after ≡ parts_of u.txn → u.txn.slot ≡ k
          → a ≡ active_by after.number after.rest.rank → p ≡ prepared_by after.number after.rest.rank after.rest.writes_n
          → Turned from s k u.answer reach
          (record { numbers = set o.numbers k after.number; active = set o.active k a; prepared = set o.prepared k p })
          (set ss k after.snapshot) (set rs k after.rest) lent
      placing after a p eu slot ea ep = rw eu (
          let back = sym (record-set o.numbers ss rs k u.txn slot) in
          record {
            txn = u.txn;
            moved = placing-moved;
            back = back;
            besides = others-after o.numbers o.active o.prepared from.txns k u.txn a p f.besides (rw eu at ea) (rw eu at ep)
                ∙ ap others_in (sym back);
            sizes = refl;
            numbers-long = length-set o.numbers k u.txn.number ∙ f.numbers-long;
            snapshots-long = length-set ss k u.txn.snapshot ∙ f.snapshots-long;
            rests-long = length-set rs k (rest_of u.txn) ∙ f.rests-long;
          })

      pub placed-told : (after : Parts) (a p : ℕ) → after ≡ parts_of u.txn → u.txn.slot ≡ k
          → (d : Rest) {rs' : List Rest} {o' : Others} → rs' ≡ set rs k after.rest
          → o' ≡ record { numbers = set o.numbers k after.number; active = o.active; prepared = o.prepared }
          → a ≡ active_by (get_or o'.numbers k 0) (get_or rs' k d).rank
          → p ≡ prepared_by (get_or o'.numbers k 0) (get_or rs' k d).rank (get_or rs' k d).writes_n
          → Turned from s k u.answer reach (marked o' k a p) (set ss k after.snapshot) rs' lent
      placed-told after a p eu slot d er eo ea ep =
          let same = stored d after.rest er in
          let number = get_or-set_same o.numbers k after.number 0 (omega (arith, f.numbers-long, below)) in
          rw (er, eo) (placing after a p eu slot (ea ∙ rw (same, eo, number)) (ep ∙ rw (same, eo, number)))
