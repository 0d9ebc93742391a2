-- A read on its way: a capture's bucket is stamped below the number, no row that is seen with the key misses among the candidates, and each record is of the
-- version that its row is seen at. Assumes nothing.
use mathlib.Core.Path.{◌≡◌, refl, sym, ap, ◌∙◌}
use mathlib.Core.Bool.{true, false}
use mathlib.Core.Logic.{◌≢◌, inl, ⊎_elim}
use mathlib.Core.Option.{some}
use Prim.Native.Nat.{ℕ, ◌<◌}
use native.Mathlib.Omega.{arith}
use Rattle.base_lists.specs.Lists.{Among}
use Rattle.base_lists.specs.Table.{update}
use Rattle.base_lists.proofs.TableLaws.{update-elim, update_all-elim}
use Rattle.base_lists.proofs.ListLaws.{member-among}
use Rattle.model.specs.Store.{Sizes, Chains, Holding, Collected, Prepared, Installed, Ended, ReadRecord, Txn, Store, no_txn, fresh, rank, phase_open}
use Rattle.model.specs.Store.{phase_holding, phase_collected, phase_prepared, phase_installed, phase_ended, bucket_in, key_in, bucket_of}
use Rattle.model.specs.Seeing.{seen, version_of, key_at, record_of, Live}
use Rattle.model.specs.Steps.{
  with_phase,
  new_txn,
  marked_txn,
  has_read,
  captured_txn,
  posted_rows,
  collected_txn,
  found_rows,
  read_txn,
  written_txn,
  version_rows,
}
use Rattle.model.specs.Steps.{installed, changed_buckets, published}
use Rattle.model.proofs.Phases.{holding-is}
use Rattle.model.proofs.Move.{CanCapture, Move, stay, did-begin, did-mark, did-capture, did-collect, did-rows, did_write, did-prepare, did-install}
use Rattle.model.proofs.Move.{did-end, did-publish, did-abort}
use Rattle.model.proofs.Chained.{Chained}
use Rattle.model.proofs.Numbers.{Numbers}
use Rattle.model.proofs.SeeingLaws.{add_read-has, record_all-cases}
use Rattle.model.proofs.Holders.{HoldersAt, one-bucket}
use Rattle.model.proofs.Grown.{Grown}
use Rattle.model.proofs.Written.{WrittenAt, installs}
use Rattle.model.proofs.Told.{ToldAt}
use Rattle.model.proofs.Stable.{unseen-other, version-grown, key-grown, xmin-grown}
use Rattle.model.proofs.Complete.{complete, changed-wants}

pub record Reading (z : Sizes) (c : Chains) (stamp : ℕ → ℕ) (x : Txn) : Type 0 where
  pub captures : (b k : ℕ) → x.phase ≡ Holding b k → (b ≡ bucket_of z k) × (stamp b < x.number) × (has_read x.reads b ≡ true)
  pub collects : (k : ℕ) → x.phase ≡ Collected k
      → (has_read x.reads (bucket_of z k) ≡ true) × ((r : ℕ) → r < z.rows → key_at c (version_of c x.snapshot r) ≡ some k → Among r x.candidates)
  pub records-are : rank x.phase < phase_installed → (q : ReadRecord) → Among q x.records → q ≡ record_of c x.snapshot q.row

abbrev pub ReadingAt : Store → Type 0
ReadingAt s = (j : ℕ) → Live (s.txns j) → Reading s.sizes s.chains s.index.stamp (s.txns j)

-- neither Holding nor Collected
quiet : (z : Sizes) (c : Chains) (stamp : ℕ → ℕ) (x : Txn) → rank x.phase ≢ phase_holding → rank x.phase ≢ phase_collected
    → (rank x.phase < phase_installed → (q : ReadRecord) → Among q x.records → q ≡ record_of c x.snapshot q.row) → Reading z c stamp x
quiet z c stamp x a b h = record { captures = λ d k e. absurd (a (ap rank e)); collects = λ k e. absurd (b (ap rank e)); records-are = h }

-- one place changes
reading-set : (s : Store) (i : ℕ) (x : Txn) → ReadingAt s → (Live x → Reading s.sizes s.chains s.index.stamp x) → (j : ℕ)
    → Live (update s.txns i x j) → Reading s.sizes s.chains s.index.stamp (update s.txns i x j)
reading-set s i x g h j = update-elim (λ y. Live y → Reading s.sizes s.chains s.index.stamp y) s.txns i x j (λ e. h) (λ d. g j)

module _ (s : Store) (i : ℕ) (g : ReadingAt s) (l : Live (s.txns i)) where
  reading-mark : Reading s.sizes s.chains s.index.stamp (marked_txn (s.txns i))
  reading-mark = let r = g i l in record { captures = r.captures; collects = r.collects; records-are = r.records-are }

  reading-capture : (k : ℕ) → rank (s.txns i).phase ≡ phase_open → CanCapture s i k
      → Reading s.sizes s.chains s.index.stamp (captured_txn s (s.txns i) k)
  reading-capture k a c = record {
    captures = λ b m e. held b m (cc) (cc);
    collects = λ m e. absurd (omega (arith, ap rank e));
    records-are = λ h q m. (g i l).records-are (omega arith) q m;
  }
    where
      held : (b m : ℕ) → b ≡ bucket_of s.sizes k → m ≡ k
          → (b ≡ bucket_of s.sizes m) × (s.index.stamp b < (s.txns i).number) × (has_read (captured_txn s (s.txns i) k).reads b ≡ true)
      held b m e f = (rw f e, rw e c.old-stamp, rw e (add_read-has (s.txns i).reads (bucket_of s.sizes k) (s.index.stamp (bucket_of s.sizes k))))

  reading-collect : Chained s.chains → Numbers s.clock s.txns → HoldersAt s → WrittenAt s → ToldAt s → rank (s.txns i).phase ≡ phase_holding
      → Reading s.sizes s.chains s.index.stamp (collected_txn s (s.txns i))
  reading-collect ch n h w told a = record {
    captures = λ b m e. absurd (omega (arith, ap rank e));
    collects = λ m e. all m (cc);
    records-are = λ h q m. (g i l).records-are (omega arith) q m;
  }
    where
      ph : (s.txns i).phase ≡ Holding (bucket_in (s.txns i).phase) (key_in (s.txns i).phase)
      ph = holding-is (s.txns i).phase a

      cap : (bucket_in (s.txns i).phase ≡ bucket_of s.sizes (key_in (s.txns i).phase))
          × (s.index.stamp (bucket_in (s.txns i).phase) < (s.txns i).number) × (has_read (s.txns i).reads (bucket_in (s.txns i).phase) ≡ true)
      cap = (g i l).captures _ _ ph

      all : (m : ℕ) → m ≡ key_in (s.txns i).phase
          → (has_read (s.txns i).reads (bucket_of s.sizes m) ≡ true)
          × ((r : ℕ) → r < s.sizes.rows → key_at s.chains (version_of s.chains (s.txns i).snapshot r) ≡ some m
          → Among r (posted_rows s (key_in (s.txns i).phase)))
      all m e = (
        rw (e, ← cap.0) cap.2,
        (λ r v f. complete s n h w ch told i (key_in (s.txns i).phase) l (ph ∙ ap (λ b. Holding b (key_in (s.txns i).phase)) cap.0)
            (rw cap.0 at cap.1) r v (f ∙ ap some e)),
      )

  reading-rows : rank (s.txns i).phase ≡ phase_collected → Reading s.sizes s.chains s.index.stamp (read_txn s (s.txns i))
  reading-rows a = quiet s.sizes s.chains s.index.stamp (read_txn s (s.txns i)) (λ e. omega arith) (λ e. omega arith)
      (λ h q m. ⊎_elim
      (λ n. (g i l).records-are (omega arith) q n)
      (λ w. w.3 ∙ ap (record_of s.chains (s.txns i).snapshot) (sym (ap (λ o. o.row) w.3)))
      (record_all-cases s.chains (s.txns i) (s.txns i).records (found_rows s (s.txns i)) q m))

  -- the phase goes on to one that neither holds nor has collected
  reading-phase : (x : Txn) → x.snapshot ≡ (s.txns i).snapshot → x.records ≡ (s.txns i).records → rank x.phase ≢ phase_holding
      → rank x.phase ≢ phase_collected → (rank x.phase < phase_installed → rank (s.txns i).phase < phase_installed)
      → Reading s.sizes s.chains s.index.stamp x
  reading-phase x e f a b h = quiet s.sizes s.chains s.index.stamp x a b (λ c q m. rw e ((g i l).records-are (h c) q (rw f at m)))

-- others' versions of an install are not seen
reading-grown : (s : Store) (i j : ℕ) → i ≢ j → Chained s.chains → Chained (installed s i).chains → Numbers s.clock s.txns → Live (s.txns i)
    → rank (s.txns i).phase ≡ phase_prepared → Live (s.txns j)
    → Reading s.sizes s.chains s.index.stamp (s.txns j) → Reading s.sizes (installed s i).chains s.index.stamp (s.txns j)
reading-grown s i j d ch ch' n l a v g = record {
  captures = g.captures;
  collects = λ k e. let o = g.collects k e in
      (o.0, λ r u f. o.1 r u (sym (key-grown (s.txns i) _ s.chains (installed s i).chains ch ch' gr (s.txns j).snapshot unseen r) ∙ f));
  records-are = λ h q m. g.records-are h q m ∙ sym (same q.row);
}
  where
    gr : Grown (s.txns i) (version_rows s.sizes s.chains (s.txns i).writes) s.chains (installed s i).chains
    gr = installs s i ch

    unseen : seen (s.txns j).snapshot (s.txns i).number ≡ false
    unseen = unseen-other s.clock s.txns n i j d l v (omega arith)

    same : (r : ℕ) → record_of (installed s i).chains (s.txns j).snapshot r ≡ record_of s.chains (s.txns j).snapshot r
    same r = rw (
      xmin-grown (s.txns i) _ s.chains (installed s i).chains ch ch' gr (s.txns j).snapshot unseen r,
      version-grown (s.txns i) _ s.chains (installed s i).chains ch ch' gr (s.txns j).snapshot unseen r,
    )

reading-install : (s : Store) (i : ℕ) → Chained s.chains → Chained (installed s i).chains → Numbers s.clock s.txns → Live (s.txns i)
    → rank (s.txns i).phase ≡ phase_prepared → ReadingAt s → ReadingAt (installed s i)
reading-install s i ch ch' n l a g j =
    update-elim (λ y. Live y → Reading s.sizes (installed s i).chains s.index.stamp y) s.txns i (with_phase (s.txns i) Installed) j
    (λ e v. quiet s.sizes (installed s i).chains s.index.stamp (with_phase (s.txns i) Installed) (λ f. omega arith) (λ f. omega arith)
    (λ h. absurd (omega arith)))
    (λ d v. reading-grown s i j (λ e. d (sym e)) ch ch' n l a v (g j v))

-- the bucket of a capture is stamped by nobody else
reading-publish : (s : Store) (i : ℕ) → Numbers s.clock s.txns → HoldersAt s → WrittenAt s → Live (s.txns i) → rank (s.txns i).phase ≡ phase_ended
    → ReadingAt s → ReadingAt (published s i)
reading-publish s i n h w l a g j = update-elim (λ y. Live y → Reading s.sizes s.chains (published s i).index.stamp y) s.txns i no_txn j
    (λ e v. absurd (omega arith))
    (λ d v. let r = g j v in record {
      captures = λ b k e. let c = r.captures b k e in (
        c.0,
        update_all-elim (◌< (s.txns j).number) s.index.stamp (changed_buckets s (s.txns i)) _ b
            (λ m. absurd (d (one-bucket s i n h j i b (inl (k, e)) (changed-wants s n h w i b l (omega arith) (member-among b _ m)))))
            (λ m. c.1),
        c.2,
      );
      collects = r.collects;
      records-are = r.records-are;
    })

pub reading-move : (s s' : Store) {a : ℕ} → Chained s.chains → Chained s'.chains → Numbers s.clock s.txns → HoldersAt s → WrittenAt s
    → ToldAt s → ReadingAt s → Move s a s' → ReadingAt s'
reading-move s s' = go s'
  where
    go : {a : ℕ} (s' : Store) → Chained s.chains → Chained s'.chains → Numbers s.clock s.txns → HoldersAt s → WrittenAt s
        → ToldAt s → ReadingAt s → Move s a s' → ReadingAt s'
    go s' ch ch' n h w o g (stay i) = g
    go s' ch ch' n h w o g (did-begin i a e c d) =
        reading-set s i _ g (λ l. quiet _ _ _ (new_txn s) (λ f. omega arith) (λ f. omega arith) (λ f q m. absurd m))
    go s' ch ch' n h w o g (did-mark i a e) = reading-set s i _ g (λ l. reading-mark s i g a)
    go s' ch ch' n h w o g (did-capture i k a e c) = reading-set s i _ g (λ l. reading-capture s i g a k e c)
    go s' ch ch' n h w o g (did-collect i a e) = reading-set s i _ g (λ l. reading-collect s i g a ch n h w o e)
    go s' ch ch' n h w o g (did-rows i a e c) = reading-set s i _ g (λ l. reading-rows s i g a e)
    go s' ch ch' n h w o g (did_write i x a e c d) =
        reading-set s i _ g (λ l. reading-phase s i g a (written_txn (s.txns i) x) refl refl (λ f. omega arith) (λ f. omega arith) (λ f. omega arith))
    go s' ch ch' n h w o g (did-prepare i a e c) =
        reading-set s i _ g (λ l. reading-phase s i g a (with_phase (s.txns i) Prepared) refl refl (λ f. omega arith) (λ f. omega arith) (λ f. omega arith))
    go s' ch ch' n h w o g (did-install i a e) = reading-install s i ch ch' n a e g
    go s' ch ch' n h w o g (did-end i a e) =
        reading-set s i _ g
        (λ l. reading-phase s i g a (with_phase (s.txns i) Ended) refl refl (λ f. omega arith) (λ f. omega arith) (λ f. absurd (omega arith)))
    go s' ch ch' n h w o g (did-publish i a e) = reading-publish s i n h w a e g
    go s' ch ch' n h w o g (did-abort i a e) = reading-set s i no_txn g (λ l. absurd (omega arith))

pub reading-fresh : (z : Sizes) (clock : ℕ) → ReadingAt (fresh z clock)
reading-fresh z clock j l = absurd (omega arith)
