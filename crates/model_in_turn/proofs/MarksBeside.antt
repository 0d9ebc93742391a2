-- Side by side, a mark: what a stale stamp sets is not looked at. Assumes nothing.
use mathlib.Core.Path.{◌≡◌, refl, sym, ap, ◌∙◌}
use mathlib.Core.List.{List, map}
use Prim.Native.Nat.{ℕ, ◌+◌}
use native.Mathlib.Omega.{arith}
use Rattle.base_limits.specs.Limits.{most_live}
use Rattle.base_lists.proofs.TableLaws.{update-field}
use Rattle.model.specs.Store.{Sizes, IndexRead, ReadRecord, Txn, Store, rank}
use Rattle.model.specs.Steps.{marked_txn, stale}
use Rattle.model.specs.Contents.{Content, content_of, live_row}
use Rattle.model.proofs.Sums.{sum_same}
use Rattle.model.proofs.Good.{Good}
use Rattle.model.proofs.LiveRows.{alike}
use Rattle.model_in_turn.specs.Done.{Entry}
use Rattle.model_in_turn.specs.InTurn.{done_by}
use Rattle.model_in_turn.proofs.ByItself.{Local}
use Rattle.model_in_turn.proofs.Following.{Follow}
use Rattle.model_in_turn.proofs.Counting.{waiting, running, over}
use Rattle.model_in_turn.proofs.Beside.{SideBySide, beside-still}

module _ (z : Sizes) (c₀ : ℕ) where
  -- a mark changes nothing that is followed
  module _ (s : Store) (b : ℕ) (g : Good s) (g' : Good (stale s b)) where
    same_number : (i : ℕ) → ((stale s b).txns i).number ≡ (s.txns i).number
    same_number i = update-field (λ (v : Txn). v.number) s.txns b (marked_txn (s.txns b)) i refl

    same-phase : (i : ℕ) → ((stale s b).txns i).phase ≡ (s.txns i).phase
    same-phase i = update-field (λ (v : Txn). v.phase) s.txns b (marked_txn (s.txns b)) i refl

    same-snapshot : (i : ℕ) → ((stale s b).txns i).snapshot ≡ (s.txns i).snapshot
    same-snapshot i = update-field (λ (v : Txn). v.snapshot) s.txns b (marked_txn (s.txns b)) i refl

    same_reads : (i : ℕ) → ((stale s b).txns i).reads ≡ (s.txns i).reads
    same_reads i = update-field (λ (v : Txn). v.reads) s.txns b (marked_txn (s.txns b)) i refl

    same_writes : (i : ℕ) → ((stale s b).txns i).writes ≡ (s.txns i).writes
    same_writes i = update-field (λ (v : Txn). v.writes) s.txns b (marked_txn (s.txns b)) i refl

    same-records : (i : ℕ) → ((stale s b).txns i).records ≡ (s.txns i).records
    same-records i = update-field (λ (v : Txn). v.records) s.txns b (marked_txn (s.txns b)) i refl

    stale-rows : (r : ℕ) → live_row (stale s b) r ≡ live_row s r
    stale-rows r = alike s (stale s b) g g' refl r
        (λ p lo hi c w. (w.0, rw (same_number w.0) w.1, ap rank (same-phase w.0) ∙ w.2, w.3 ∙ sym (same_number w.0)))
        (λ p lo hi c w. (w.0, rw (same_number w.0) at w.1, sym (ap rank (same-phase w.0)) ∙ w.2, w.3 ∙ same_number w.0))

    follow-stale : (i n : ℕ) (script : List Entry) (x : Local) (m : ℕ → Content) → Follow s i n script x m → Follow (stale s b) i n script x m
    follow-stale i n script x m f = record {
      number_is = same_number i ∙ f.number_is;
      alive = f.alive;
      phase-is = same-phase i ∙ f.phase-is;
      buckets-are = ap (map (λ (q : IndexRead). q.bucket)) (same_reads i) ∙ f.buckets-are;
      writes_are = same_writes i ∙ f.writes_are;
      records-are = ap (map (λ (q : ReadRecord). q.row)) (same-records i) ∙ f.records-are;
      plays = f.plays;
      early = λ l r. f.early l r ∙ ap (λ v. content_of s.chains v r) (sym (same-snapshot i));
      late = λ l r. f.late l r ∙ sym (stale-rows r);
      kept = λ l q o. let k = f.kept l q o in record {
        bucket-in = rw (same_reads i) k.bucket-in;
        recorded-in = λ r u p e. rw (same-records i, same-snapshot i) (k.recorded-in r u p (rw (same-snapshot i) at e));
      };
      reads-in = λ q o. rw (same_reads i) (f.reads-in q o);
    }

  pub beside-stale : (s : Store) (b : ℕ) (es : List Entry) → SideBySide z c₀ s es → Good (stale s b) → SideBySide z c₀ (stale s b) es
  unfolding waiting running over
  beside-stale s b es h g' = record {
    good = g';
    follow = λ i l a. let w = h.follow i (rw (same_number s b h.good g' i) at l) (rw (same-phase s b h.good g' i) at a) in (
      w.0,
      (
        w.1.0,
        rw (same_number s b h.good g' i)
            (follow-stale s b h.good g' i (s.txns i).number (done_by (s.txns i).number es) w.0 w.1.0 w.1.1),
      ),
    );
    older = h.older;
    gone = λ n o. (
      (h.gone n o).0,
      λ i l p. ap rank (same-phase s b h.good g' i)
          ∙ (h.gone n o).1 i (rw (same_number s b h.good g' i) at l) (sym (same_number s b h.good g' i) ∙ p),
    );
    beside = beside-still z c₀ s (stale s b) es es h.beside refl refl refl (stale-rows s b h.good g') (record {
      wait-is = ap (λ w. s.chains.used + w)
          (sum_same (waiting s.sizes s.index.posted) (waiting s.sizes s.index.posted) s.txns (stale s b).txns most_live
          (λ j u. update-field (waiting s.sizes s.index.posted) s.txns b (marked_txn (s.txns b)) j refl));
      count-is = omega (
        arith,
        sum_same running running s.txns (stale s b).txns most_live (λ j u. update-field running s.txns b (marked_txn (s.txns b)) j refl),
        sum_same over over s.txns (stale s b).txns most_live (λ j u. update-field over s.txns b (marked_txn (s.txns b)) j refl),
      );
    });
  }
