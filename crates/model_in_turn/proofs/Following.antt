-- A live transaction of any run is followed by itself: over what its snapshot shows until it prepares, over the live rows from then on. What others do keeps
-- that. Assumes nothing.
use mathlib.Core.Path.{◌≡◌, refl, sym, ap, ◌∙◌}
use mathlib.Core.Bool.{Bool, true, false}
use mathlib.Core.Logic.{◌≢◌}
use mathlib.Core.List.{List, map}
use Prim.Native.Nat.{ℕ, ◌≤◌, ◌<◌}
use native.Mathlib.Omega.{arith}
use lib.Dec.{ltb}
use borrow.Author.Tests.{ltb-true, ltb-false}
use Rattle.base_lists.specs.Lists.{Among}
use Rattle.base_lists.specs.Table.{update}
use Rattle.base_lists.proofs.TableLaws.{update_other}
use Rattle.model.specs.Store.{Ended, IndexRead, Write, ReadRecord, Txn, Store, rank, phase_prepared, phase_installed, bucket_of}
use Rattle.model.specs.Seeing.{seen, version_of, key_at, record_of, Live}
use Rattle.model.specs.Steps.{becomes, has_read, version_rows, installed}
use Rattle.model.specs.Contents.{Content, content_of, live_row}
use Rattle.model.proofs.Move.{Move, stay, did-begin, did-mark, did-capture, did-collect, did-rows, did_write, did-prepare, did-install, did-end, did-publish}
use Rattle.model.proofs.Move.{did-abort}
use Rattle.model.proofs.Grown.{Grown}
use Rattle.model.proofs.Written.{installs}
use Rattle.model.proofs.Stable.{unseen-other, version-grown, key-grown, xmin-grown, content-grown}
use Rattle.model.proofs.Good.{Good}
use Rattle.model.proofs.Relied.{Relied}
use Rattle.model.proofs.LiveRows.{live-set, live-install}
use Rattle.model_in_turn.specs.Done.{Entry}
use Rattle.model_in_turn.proofs.ByItself.{Local, Played, Agreeing, played-switch}
use Rattle.model_in_turn.proofs.ReadsHold.{undisturbed}

-- the transaction at place i, of number n, has come as far as x by itself, and script is what it has done
pub record Follow (s : Store) (i n : ℕ) (script : List Entry) (x : Local) (m : ℕ → Content) : Type 0 where
  pub number_is : (s.txns i).number ≡ n
  pub alive : 1 ≤ n
  pub phase-is : (s.txns i).phase ≡ x.phase
  pub buckets-are : map (λ (q : IndexRead). q.bucket) (s.txns i).reads ≡ x.buckets
  pub writes_are : (s.txns i).writes ≡ x.writes
  pub records-are : map (λ (q : ReadRecord). q.row) (s.txns i).records ≡ x.records
  -- its script is what it does by itself over the contents m
  pub plays : Played s.sizes m n script x
  -- until it prepares these are what its snapshot shows, and from then on the live rows
  pub early : rank x.phase < phase_prepared → (r : ℕ) → m r ≡ content_of s.chains (s.txns i).snapshot r
  pub late : phase_prepared ≤ rank x.phase → (r : ℕ) → m r ≡ live_row s r
  -- until it prepares all that it relies on is recorded; the buckets of its reads are its index reads to the end
  pub kept : rank x.phase < phase_prepared → (q : ℕ × List Write) → Among q x.done → Relied s.sizes s.chains (s.txns i) q.0 q.1
  pub reads-in : (q : ℕ × List Write) → Among q x.done → has_read (s.txns i).reads (bucket_of s.sizes q.0) ≡ true

-- over some contents
abbrev pub Followed : Store → ℕ → ℕ → List Entry → Local → Type 0
Followed s i n script x = (m : ℕ → Content) × Follow s i n script x m

module _ (s : Store) (i n : ℕ) (script : List Entry) (x : Local) (m : ℕ → Content) (f : Follow s i n script x m) where
  -- another changes neither versions nor rows
  follow-still : (s' : Store) → s'.sizes ≡ s.sizes → s'.chains ≡ s.chains → s'.txns i ≡ s.txns i → ((r : ℕ) → live_row s' r ≡ live_row s r)
      → Follow s' i n script x m
  follow-still s' zs cs ts live = record {
    number_is = rw ts f.number_is;
    alive = f.alive;
    phase-is = rw ts f.phase-is;
    buckets-are = rw ts f.buckets-are;
    writes_are = rw ts f.writes_are;
    records-are = rw ts f.records-are;
    plays = rw zs f.plays;
    early = λ l r. rw (ts, cs) (f.early l r);
    late = λ l r. f.late l r ∙ sym (live r);
    kept = λ l q a. rw (zs, cs, ts) (f.kept l q a);
    reads-in = λ q a. rw (zs, ts) (f.reads-in q a);
  }

  -- another installs
  module _ (j : ℕ) (d : i ≢ j) (g : Good s) (g' : Good (installed s j)) (l : Live (s.txns j)) (a : rank (s.txns j).phase ≡ phase_prepared) where
    -- its place is as it was, and its snapshot does not see the other's versions
    here : (installed s j).txns i ≡ s.txns i
    here = update_other s.txns j _ i d

    gr : Grown (s.txns j) (version_rows s.sizes s.chains (s.txns j).writes) s.chains (installed s j).chains
    gr = installs s j g.chained

    unseen : seen (s.txns i).snapshot (s.txns j).number ≡ false
    unseen = unseen-other s.clock s.txns g.numbers j i (λ e. d (sym e)) l (omega (arith, f.number_is, f.alive)) (omega arith)

    version-same : (r : ℕ) → version_of (installed s j).chains (s.txns i).snapshot r ≡ version_of s.chains (s.txns i).snapshot r
    version-same = version-grown (s.txns j) _ s.chains (installed s j).chains g.chained g'.chained gr (s.txns i).snapshot unseen

    key-same : (r : ℕ) → key_at (installed s j).chains (version_of (installed s j).chains (s.txns i).snapshot r)
        ≡ key_at s.chains (version_of s.chains (s.txns i).snapshot r)
    key-same = key-grown (s.txns j) _ s.chains (installed s j).chains g.chained g'.chained gr (s.txns i).snapshot unseen

    content-same : (r : ℕ) → content_of (installed s j).chains (s.txns i).snapshot r ≡ content_of s.chains (s.txns i).snapshot r
    content-same = content-grown (s.txns j) _ s.chains (installed s j).chains g.chained g'.chained gr (s.txns i).snapshot unseen

    record_same : (r : ℕ) → record_of (installed s j).chains (s.txns i).snapshot r ≡ record_of s.chains (s.txns i).snapshot r
    record_same r = rw (
      xmin-grown (s.txns j) _ s.chains (installed s j).chains g.chained g'.chained gr (s.txns i).snapshot unseen r,
      version-same r,
    ) refl

    follow-install : Follow (installed s j) i n script x m
    follow-install = record {
      number_is = rw here f.number_is;
      alive = f.alive;
      phase-is = rw here f.phase-is;
      buckets-are = rw here f.buckets-are;
      writes_are = rw here f.writes_are;
      records-are = rw here f.records-are;
      plays = f.plays;
      early = λ b r. rw here (f.early b r ∙ sym (content-same r));
      late = λ b r. f.late b r ∙ sym (live-install s j g g' l a r);
      kept = λ b q o. let k = f.kept b q o in
          rw here (record { bucket-in = k.bucket-in; recorded-in = λ r u p e. rw (record_same r) (k.recorded-in r u p (sym (key-same r) ∙ e)) });
      reads-in = λ q o. rw here (f.reads-in q o);
    }

  -- another ends
  module _ (j : ℕ) (d : i ≢ j) (g : Good s) (g' : Good (becomes s j Ended)) (l : Live (s.txns j)) (a : rank (s.txns j).phase ≡ phase_installed) where
    same_place : (becomes s j Ended).txns i ≡ s.txns i
    same_place = update_other s.txns j _ i d

    follow-end-early : rank x.phase < phase_prepared → Follow (becomes s j Ended) i n script x m
    follow-end-early b = record {
      number_is = rw same_place f.number_is;
      alive = f.alive;
      phase-is = rw same_place f.phase-is;
      buckets-are = rw same_place f.buckets-are;
      writes_are = rw same_place f.writes_are;
      records-are = rw same_place f.records-are;
      plays = f.plays;
      early = λ c r. rw same_place (f.early c r);
      late = λ c r. absurd (omega arith);
      kept = λ c q o. rw same_place (f.kept c q o);
      reads-in = λ q o. rw same_place (f.reads-in q o);
    }

    follow-end-late : phase_prepared ≤ rank x.phase → Follow (becomes s j Ended) i n script x (live_row (becomes s j Ended))
    follow-end-late b = record {
      number_is = rw same_place f.number_is;
      alive = f.alive;
      phase-is = rw same_place f.phase-is;
      buckets-are = rw same_place f.buckets-are;
      writes_are = rw same_place f.writes_are;
      records-are = rw same_place f.records-are;
      plays = played-switch s.sizes m (live_row (becomes s j Ended)) n script x agree f.plays;
      early = λ c r. absurd (omega arith);
      late = λ c r. refl;
      kept = λ c q o. absurd (omega arith);
      reads-in = λ q o. rw same_place (f.reads-in q o);
    }
      where
        agree : Agreeing s.sizes m (live_row (becomes s j Ended)) x
        agree q o r u p = rw (f.late b r) (undisturbed s g j g' l a i d (omega (arith, ap rank f.phase-is)) q.0 (f.reads-in q o) r)

-- another goes on, neither from Installed nor to it
one_place : (s s' : Store) (i n : ℕ) (script : List Entry) (x : Local) (j : ℕ) (y : Txn) → i ≢ j → s'.sizes ≡ s.sizes → s'.chains ≡ s.chains
    → s'.txns ≡ update s.txns j y → (Live (s.txns j) → rank (s.txns j).phase ≢ phase_installed) → rank y.phase ≢ phase_installed
    → Good s → Good s' → Followed s i n script x → Followed s' i n script x
one_place s s' i n script x j y d zs cs ts old new g g' f =
    (f.0, follow-still s i n script x f.0 f.1 s' zs cs (ap (λ t. t i) ts ∙ update_other s.txns j y i d) (live-set s s' j y ts cs old new g g'))

-- whatever another does
pub follow-others : (s s' : Store) {b : ℕ} (i n : ℕ) (script : List Entry) (x : Local) → Good s → Good s' → Move s b s' → i ≢ b → Followed s i n script x
    → Followed s' i n script x
follow-others s s' = others s'
  where
    others : {b : ℕ} (s' : Store) (i n : ℕ) (script : List Entry) (x : Local) → Good s → Good s' → Move s b s' → i ≢ b → Followed s i n script x
        → Followed s' i n script x
    others s' i n script x g g' (stay j) d f = f
    others s' i n script x g g' (did-begin j a b c e) d f = one_place s s' i n script x j _ d refl refl refl (λ l o. omega arith) (λ o. omega arith) g g' f
    others s' i n script x g g' (did-mark j a b) d f = one_place s s' i n script x j _ d refl refl refl (λ l o. omega arith) (λ o. omega arith) g g' f
    others s' i n script x g g' (did-capture j k a b c) d f =
        one_place s s' i n script x j _ d refl refl refl (λ l o. omega arith) (λ o. omega arith) g g' f
    others s' i n script x g g' (did-collect j a b) d f = one_place s s' i n script x j _ d refl refl refl (λ l o. omega arith) (λ o. omega arith) g g' f
    others s' i n script x g g' (did-rows j a b c) d f = one_place s s' i n script x j _ d refl refl refl (λ l o. omega arith) (λ o. omega arith) g g' f
    others s' i n script x g g' (did_write j w a b c e) d f =
        one_place s s' i n script x j _ d refl refl refl (λ l o. omega arith) (λ o. omega arith) g g' f
    others s' i n script x g g' (did-prepare j a b c) d f = one_place s s' i n script x j _ d refl refl refl (λ l o. omega arith) (λ o. omega arith) g g' f
    others s' i n script x g g' (did-install j a b) d f = (f.0, follow-install s i n script x f.0 f.1 j d g g' a b)
    others s' i n script x g g' (did-end j a b) d f = go (ltb (rank x.phase) phase_prepared) refl
      where
        go : (t : Bool) → ltb (rank x.phase) phase_prepared ≡ t → Followed (becomes s j Ended) i n script x
        go true e = (f.0, follow-end-early s i n script x f.0 f.1 j d g g' a b (ltb-true _ _ e))
        go false e = (live_row (becomes s j Ended), follow-end-late s i n script x f.0 f.1 j d g g' a b (ltb-false _ _ e))
    others s' i n script x g g' (did-publish j a b) d f = one_place s s' i n script x j _ d refl refl refl (λ l o. omega arith) (λ o. omega arith) g g' f
    others s' i n script x g g' (did-abort j a b) d f = one_place s s' i n script x j _ d refl refl refl (λ l o. omega arith) (λ o. omega arith) g g' f
