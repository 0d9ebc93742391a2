-- Alone in a quiet store, each step from capture to validate that a transaction takes by itself is accepted and reads the same. Assumes nothing.
use mathlib.Core.Path.{◌≡◌, refl, sym, ap, ◌∙◌}
use mathlib.Core.Bool.{Bool, true, false, cond}
use mathlib.Core.Logic.{◌⊎◌, ⊎_elim}
use mathlib.Core.List.{List, [], ◌∷◌, ◌++◌, map, map-append}
use Prim.Native.Nat.{ℕ, ◌≤◌, ◌<◌, min}
use native.Mathlib.Omega.{arith}
use lib.Dec.{eqb}
use lib.ListN.{length, length-map}
use borrow.Author.Tests.{eqb-true, eq-eqb}
use Rattle.base_limits.specs.Limits.{most_rows, most_index_reads, most_records, most_writes}
use Rattle.base_lists.specs.Lists.{member, some_of, Among}
use Rattle.base_lists.specs.Table.{update}
use Rattle.base_lists.proofs.TableLaws.{update_same, update_other, cond-elim}
use Rattle.base_lists.proofs.ListLaws.{same_test, among-last}
use Rattle.model.specs.Store.{
  Index,
  Open,
  Holding,
  Collected,
  IndexRead,
  Write,
  ReadRecord,
  Txn,
  Store,
  rank,
  phase_collected,
  phase_installed,
  key_in,
  bucket_of,
}
use Rattle.model.specs.Seeing.{version_of, Live}
use Rattle.model.specs.Steps.{has_read, add_read, captured, collected, found_rows, records_after, read_done, written}
use Rattle.model.specs.Contents.{Content, shown_to, live_row, pending_write}
use Rattle.model.specs.Refusals.{Step, capture, collect, rows, write, validate, txn_of}
use Rattle.model.specs.Machine.{accepted, actor, step}
use Rattle.model.specs.Given.{number}
use Rattle.model.proofs.SeeingLaws.{key_at-pos, match-version, found-which}
use Rattle.model.proofs.Good.{Good, good-move, right-shape}
use Rattle.model.proofs.Refused.{capture-0, rows-0, write-0, validate-0, collect-0}
use Rattle.model.proofs.Outcomes.{done-does}
use Rattle.model_in_turn.specs.Done.{returned}
use Rattle.model_in_turn.proofs.ByItself.{rows_in, read_in, record_rows, add_bucket, Local, phased, writing}
use Rattle.model_in_turn.proofs.Returned.{found-is, read_is, records_is}
use Rattle.model_in_turn.proofs.Alone.{Quiet, Alone, lives, place, txn-is, unheld, shows-quiet}
use Rattle.model.proofs.Moving.{step_move}

abbrev pub buckets_of : List IndexRead → List ℕ
buckets_of rs = map (λ (r : IndexRead). r.bucket) rs

pub has-member : (rs : List IndexRead) (b : ℕ) → has_read rs b ≡ member b (buckets_of rs)
unfolding has_read some_of member
has-member [] b = refl
has-member (r ∷ rs) b = rw (
  has-member rs b,
  same_test (eqb r.bucket b) (eqb b r.bucket) (λ e. eq-eqb b r.bucket (sym (eqb-true r.bucket b e)))
      (λ e. eq-eqb r.bucket b (sym (eqb-true b r.bucket e))),
) refl

pub buckets-add : (rs : List IndexRead) (b stamp : ℕ) → buckets_of (add_read rs b stamp) ≡ add_bucket (buckets_of rs) b
unfolding add_read add_bucket
buckets-add rs b stamp = rw (has-member rs b) (go (member b (buckets_of rs)))
  where
    go : (t : Bool) → buckets_of (cond t rs (rs ++ (record { bucket = b; stamp = stamp } ∷ []))) ≡ cond t (buckets_of rs) (buckets_of rs ++ (b ∷ []))
    go true = refl
    go false = map-append (λ (r : IndexRead). r.bucket) rs (record { bucket = b; stamp = stamp } ∷ [])

add-stamps : (rs : List IndexRead) (b stamp : ℕ) (f : ℕ → ℕ) → ((r : IndexRead) → Among r rs → r.stamp ≡ f r.bucket) → stamp ≡ f b → (r : IndexRead)
    → Among r (add_read rs b stamp) → r.stamp ≡ f r.bucket
unfolding add_read
add-stamps rs b stamp f h e r =
    cond-elim (λ l. Among r l → r.stamp ≡ f r.bucket) (has_read rs b) rs (rs ++ (record { bucket = b; stamp = stamp } ∷ [])) (λ t m. h r m)
    (λ t m. ⊎_elim (λ o. h r o) (λ o. rw o e) (among-last r (record { bucket = b; stamp = stamp }) rs m))

-- what a step gives to one that is alone
pub record Acts (s : Store) (y : Local) (t : Store) (a : Step) (read : List (ℕ × Content)) : Type 0 where
  pub done : number t a ≡ 0
  pub reads-are : returned t (actor a) (step t a).answer ≡ read
  pub next : Alone s y (step t a).store

module _ (s : Store) (q : Quiet s) (x : Local) (t : Store) (a : Alone s x t) where
  -- one place goes on
  pub alone-set : (t' : Store) (w : Txn) (y : Local) → Good t' → t'.sizes ≡ t.sizes → t'.clock ≡ t.clock → t'.chains ≡ t.chains
      → t'.index ≡ t.index → t'.txns ≡ update t.txns 0 w
      → w.number ≡ (t.txns 0).number → w.snapshot ≡ (t.txns 0).snapshot → w.marked ≡ (t.txns 0).marked → w.phase ≡ y.phase
      → rank y.phase < phase_installed
      → buckets_of w.reads ≡ y.buckets → ((r : IndexRead) → Among r w.reads → r.stamp ≡ s.index.stamp r.bucket) → w.writes ≡ y.writes
      → map (λ (r : ReadRecord). r.row) w.records ≡ y.records → Alone s y t'
  alone-set t' w y g zs ck cs ix ts nu sn ma ph early bu st wr re =
      let here : t'.txns 0 ≡ w = ap (λ f. f 0) ts ∙ update_same t.txns 0 w in
      record {
        good = g;
        early = early;
        sizes-are = zs ∙ a.sizes-are;
        clock-is = ck ∙ a.clock-is;
        chains-are = cs ∙ a.chains-are;
        index_is = ix ∙ a.index_is;
        mine = ap (λ (v : Txn). v.number) here ∙ (nu ∙ a.mine);
        others = λ i d. ap (λ f. (f i).number) ts ∙ (ap (λ (v : Txn). v.number) (update_other t.txns 0 w i d) ∙ a.others i d);
        phase-is = ap (λ (v : Txn). v.phase) here ∙ ph;
        unmarked = ap (λ (v : Txn). v.marked) here ∙ (ma ∙ a.unmarked);
        xmax-is = ap (λ (v : Txn). v.snapshot.xmax) here ∙ (ap (λ v. v.xmax) sn ∙ a.xmax-is);
        active-is = ap (λ (v : Txn). v.snapshot.active) here ∙ (ap (λ v. v.active) sn ∙ a.active-is);
        buckets-are = ap (λ (v : Txn). buckets_of v.reads) here ∙ bu;
        stamps-are = λ r m. st r (rw here at m);
        writes_are = ap (λ (v : Txn). v.writes) here ∙ wr;
        records-are = ap (λ (v : Txn). map (λ (r : ReadRecord). r.row) v.records) here ∙ re;
      }

  pub phase-of : rank (txn_of t s.clock).phase ≡ rank x.phase
  phase-of = ap (λ (v : Txn). rank v.phase) (txn-is s q x t a) ∙ ap rank a.phase-is

  pub capture-acts : (k : ℕ) → x.phase ≡ Open → (member (bucket_of s.sizes k) x.buckets ≡ true) ⊎ (length x.buckets < most_index_reads)
      → Acts s (record {
        phase = Holding (bucket_of s.sizes k) k;
        buckets = add_bucket x.buckets (bucket_of s.sizes k);
        writes = x.writes;
        records = x.records;
        done = x.done;
      }) t (capture s.clock k) []
  unfolding accepted
  capture-acts k p o = record { done = ok; reads-are = ap (λ v. returned t s.clock v.answer) does; next = rw store_is after }
    where
      below : t.index.stamp (bucket_of t.sizes k) < s.clock
      below = rw a.index_is (q.good.below.stamp-below (bucket_of t.sizes k))

      room : (has_read (txn_of t s.clock).reads (bucket_of t.sizes k) ≡ true) ⊎ (length (txn_of t s.clock).reads < most_index_reads)
      room = rw (
        txn-is s q x t a,
        a.sizes-are,
        has-member (t.txns 0).reads (bucket_of s.sizes k),
        sym (length-map (t.txns 0).reads (λ (r : IndexRead). r.bucket)),
        a.buckets-are,
      ) o

      ok : number t (capture s.clock k) ≡ 0
      ok = (capture-0 t s.clock k).1 (
        (right-shape t a.good, lives s q x t a, phase-of ∙ ap rank p),
        (ap (λ (v : Txn). v.marked) (txn-is s q x t a) ∙ a.unmarked, (unheld s q x t a (bucket_of t.sizes k), (below, room))),
      )

      does : step t (capture s.clock k) ≡ accepted t (capture s.clock k)
      does = done-does t (capture s.clock k) ok

      store_is : (step t (capture s.clock k)).store ≡ captured t 0 k
      store_is = ap (λ v. v.store) does ∙ ap (λ i. captured t i k) (place s q x t a)

      after : Alone s (record {
        phase = Holding (bucket_of s.sizes k) k;
        buckets = add_bucket x.buckets (bucket_of s.sizes k);
        writes = x.writes;
        records = x.records;
        done = x.done;
      }) (captured t 0 k)
      after = alone-set (captured t 0 k) _ _ (rw store_is at (good-move t _ a.good (step_move t (capture s.clock k)))) refl refl refl refl refl refl
          refl refl (ap (λ z. Holding (bucket_of z k) k) a.sizes-are) (omega arith)
          (buckets-add (t.txns 0).reads (bucket_of t.sizes k) _
          ∙ (ap (λ bs. add_bucket bs (bucket_of t.sizes k)) a.buckets-are ∙ ap (λ z. add_bucket x.buckets (bucket_of z k)) a.sizes-are))
          (add-stamps (t.txns 0).reads (bucket_of t.sizes k) _ s.index.stamp a.stamps-are
          (ap (λ (i : Index). i.stamp (bucket_of t.sizes k)) a.index_is)) a.writes_are a.records-are

  pub collect-acts : (b k : ℕ) → x.phase ≡ Holding b k → Acts s (phased x (Collected k)) t (collect s.clock) []
  unfolding accepted
  collect-acts b k p = record { done = ok; reads-are = ap (λ v. returned t s.clock v.answer) does; next = rw store_is after }
    where
      ok : number t (collect s.clock) ≡ 0
      ok = (collect-0 t s.clock).1 (right-shape t a.good, lives s q x t a, phase-of ∙ ap rank p)

      does : step t (collect s.clock) ≡ accepted t (collect s.clock)
      does = done-does t (collect s.clock) ok

      store_is : (step t (collect s.clock)).store ≡ collected t 0
      store_is = ap (λ v. v.store) does ∙ ap (collected t) (place s q x t a)

      after : Alone s (phased x (Collected k)) (collected t 0)
      after = alone-set (collected t 0) _ _ (rw store_is at (good-move t _ a.good (step_move t (collect s.clock)))) refl refl refl refl refl refl
          refl refl (ap (λ ph. Collected (key_in ph)) (a.phase-is ∙ p)) (omega arith)
          a.buckets-are a.stamps-are a.writes_are a.records-are

  live-mine : Live (t.txns 0)
  live-mine = omega (arith, a.mine, q.good.numbers.clock-pos)

  pub rows-acts : (room k : ℕ) (rs : List ℕ) (read : List (ℕ × Content)) → x.phase ≡ Collected k → rs ≡ rows_in s.sizes (live_row s) x.writes k
      → read ≡ read_in s.sizes (live_row s) x.writes k
      → length rs ≤ min room most_rows → length (record_rows x.writes x.records rs) ≤ most_records
      → Acts s (record {
        phase = Open;
        buckets = x.buckets;
        writes = x.writes;
        records = record_rows x.writes x.records rs;
        done = x.done ++ ((k, x.writes) ∷ []);
      }) t (rows s.clock room) read
  unfolding accepted
  rows-acts room k rs read p e f few fit = record { done = ok; reads-are = ap (λ v. returned t s.clock v.answer) does ∙ told; next = rw store_is after }
    where
      third : rank (t.txns 0).phase ≡ phase_collected
      third = ap rank (a.phase-is ∙ p)

      key : key_in (t.txns 0).phase ≡ k
      key = ap key_in (a.phase-is ∙ p)

      found : found_rows t (t.txns 0) ≡ rs
      found = found-is t a.good 0 live-mine third (live_row s) (shows-quiet s q x t a) ∙ (rw (a.sizes-are, a.writes_are, key) (sym e))

      recorded : map (λ (r : ReadRecord). r.row) (records_after t (t.txns 0)) ≡ record_rows x.writes x.records rs
      recorded = records_is t.chains a.good.chained (t.txns 0) (t.txns 0).records (found_rows t (t.txns 0))
          ((a.good.reading 0 live-mine).records-are (omega (arith, third)))
          (λ r m n. let w = found-which t (t.txns 0) r m in
          key_at-pos t.chains (version_of t.chains (t.txns 0).snapshot r) (key_in (t.txns 0).phase)
          (match-version t.chains (t.txns 0) (key_in (t.txns 0).phase) r n w.1))
          ∙ (rw (found, a.writes_are, a.records-are) refl)

      ok : number t (rows s.clock room) ≡ 0
      ok = (rows-0 t s.clock room).1 (
        (right-shape t a.good, lives s q x t a, phase-of ∙ ap rank p),
        (rw (txn-is s q x t a, found) few, rw (txn-is s q x t a, sym (length-map (records_after t (t.txns 0)) (λ (r : ReadRecord). r.row)), recorded) fit),
      )

      does : step t (rows s.clock room) ≡ accepted t (rows s.clock room)
      does = done-does t (rows s.clock room) ok

      told : map (λ r. (r, shown_to t.chains (txn_of t s.clock) r)) (found_rows t (txn_of t s.clock)) ≡ read
      told = rw (txn-is s q x t a) (read_is t a.good 0 live-mine third (live_row s) (shows-quiet s q x t a) ∙ (rw (a.sizes-are, a.writes_are, key) (sym f)))

      store_is : (step t (rows s.clock room)).store ≡ read_done t 0
      store_is = ap (λ v. v.store) does ∙ ap (read_done t) (place s q x t a)

      after : Alone s (record {
        phase = Open;
        buckets = x.buckets;
        writes = x.writes;
        records = record_rows x.writes x.records rs;
        done = x.done ++ ((k, x.writes) ∷ []);
      }) (read_done t 0)
      after = alone-set (read_done t 0) _ _ (rw store_is at (good-move t _ a.good (step_move t (rows s.clock room)))) refl refl refl refl refl refl
          refl refl refl (omega arith)
          a.buckets-are a.stamps-are a.writes_are recorded

  -- a write is appended
  after_write : (w : Write) → Good (written t 0 w) → Alone s (writing x w) (written t 0 w)
  after_write w g = alone-set (written t 0 w) _ _ g refl refl refl refl refl refl refl refl a.phase-is a.early a.buckets-are a.stamps-are
      (ap (λ ws. ws ++ (w ∷ [])) a.writes_are) a.records-are

  -- it is ready, unmarked, and has room
  can_write : (r : ℕ) → r < s.sizes.rows → length x.writes < most_writes
      → ((txn_of t s.clock).marked ≡ false) × ((r < t.sizes.rows) × (length (txn_of t s.clock).writes < most_writes))
  can_write r u v = (ap (λ (w : Txn). w.marked) (txn-is s q x t a) ∙ a.unmarked, (rw a.sizes-are u, rw (txn-is s q x t a, a.writes_are) v))

  pub write-acts : (r : ℕ) (c : Content) → x.phase ≡ Open → r < s.sizes.rows → length x.writes < most_writes
      → Acts s (writing x (pending_write r c)) t (write s.clock r c) []
  unfolding accepted
  write-acts r c p u v =
      let ok = (write-0 t s.clock r c).1 ((right-shape t a.good, lives s q x t a, phase-of ∙ ap rank p), can_write r u v) in
      let does = done-does t (write s.clock r c) ok in
      let store_is = ap (λ v. v.store) does ∙ ap (λ i. written t i (pending_write r c)) (place s q x t a) in
      record {
        done = ok;
        reads-are = ap (λ v. returned t s.clock v.answer) does;
        next = rw store_is
            (after_write (pending_write r c) (rw store_is at (good-move t _ a.good (step_move t (write s.clock r c)))));
      }

  pub validate-acts : x.phase ≡ Open → Acts s x t (validate s.clock) []
  unfolding accepted
  validate-acts p = record { done = ok; reads-are = ap (λ v. returned t s.clock v.answer) does; next = rw (ap (λ v. v.store) does) a }
    where
      ok : number t (validate s.clock) ≡ 0
      ok = (validate-0 t s.clock).1 ((right-shape t a.good, lives s q x t a, phase-of ∙ ap rank p), (λ b m. unheld s q x t a b))

      does : step t (validate s.clock) ≡ accepted t (validate s.clock)
      does = done-does t (validate s.clock) ok
