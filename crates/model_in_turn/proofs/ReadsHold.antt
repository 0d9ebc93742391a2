-- What a transaction has read holds: where its verdict is clear the rows show now what it read, and while it is prepared no end of another changes them.
-- Assumes nothing.
use mathlib.Core.Path.{◌≡◌, refl, sym, ap, ◌∙◌}
use mathlib.Core.Bool.{Bool, true, false, true≢false}
use mathlib.Core.Logic.{◌≢◌, inr}
use mathlib.Core.Option.{Option, some}
use mathlib.Core.List.{List}
use Prim.Native.Nat.{ℕ, ◌≤◌, ◌<◌}
use native.Mathlib.Omega.{arith}
use Rattle.base_lists.specs.Lists.{member, Among}
use Rattle.base_lists.proofs.ListLaws.{among-left, among-map, member-among, among-member}
use Rattle.model.specs.Store.{Ended, IndexRead, Write, Store, rank, phase_prepared, phase_installed, bucket_of}
use Rattle.model.specs.Seeing.{version_of, key_at, pending, Live}
use Rattle.model.specs.Steps.{becomes, has_read, pending_rows, read_buckets}
use Rattle.model.specs.Contents.{content, content_of, live_row}
use Rattle.model.specs.Refusals.{by_another}
use Rattle.model.specs.Holding.{needs, Wants}
use Rattle.model.proofs.SeeingLaws.{same-key, read-bucket}
use Rattle.model.proofs.Holders.{needs-old, needs-new, one-bucket}
use Rattle.model.proofs.Good.{Good}
use Rattle.model.proofs.Cleared.{Cleared}
use Rattle.model.proofs.Relied.{Relied, read-now, now-read}
use Rattle.model.proofs.LiveRows.{key-before-end, live-others, live_own}
use Rattle.model_in_turn.proofs.ByItself.{key-content, carries, SameOn}

-- a content that carries a key is that of a version with the key
carries-key : (o : Option ℕ) (payload k : ℕ) → carries (content o payload) k ≡ true → o ≡ some k
unfolding carries
carries-key o payload k e = sym (key-content o payload) ∙ same-key _ _ e

-- clear: each row that was read, or would be read now, holds the same
module _ (s : Store) (g : Good s) (i : ℕ) (l : Live (s.txns i)) (a : rank (s.txns i).phase < phase_installed) (k : ℕ) (ws : List Write)
    (relied : Relied s.sizes s.chains (s.txns i) k ws) (clear : Cleared s.chains s.index (s.txns i))
    (untaken : (b : ℕ) → Among b (read_buckets (s.txns i)) → by_another s.held.holder (s.txns i).number b ≡ false) where
  same-content : (r : ℕ) → r < s.sizes.rows → pending ws r ≡ false → key_at s.chains (version_of s.chains (s.txns i).snapshot r) ≡ some k
      → live_row s r ≡ content_of s.chains (s.txns i).snapshot r
  unfolding content_of
  same-content r u b e = ap (λ p. content (key_at s.chains p) (s.chains.payload p)) (read-now s g i l a k ws relied clear untaken r u b e)

  pub agrees : (r : ℕ) → r < s.sizes.rows → pending ws r ≡ false → SameOn k (content_of s.chains (s.txns i).snapshot r) (live_row s r)
  unfolding content_of
  agrees r u b = (λ e. same-content r u b (carries-key _ _ k e), λ e. same-content r u b (now-read s g i l a k ws relied clear untaken r (carries-key _ _ k e)))

-- prepared: it holds the buckets of its reads, so who ends meanwhile writes no row from or to a key that it read
module _ (s : Store) (g : Good s) (i : ℕ) (g' : Good (becomes s i Ended)) (l : Live (s.txns i)) (a : rank (s.txns i).phase ≡ phase_installed) (j : ℕ)
    (d : j ≢ i) (b : phase_prepared ≤ rank (s.txns j).phase) (k : ℕ) (h : has_read (s.txns j).reads (bucket_of s.sizes k) ≡ true) where
  reads : Wants s.sizes s.index.posted (s.txns j) (bucket_of s.sizes k)
  unfolding needs read_buckets
  reads = let w = read-bucket (s.txns j).reads (bucket_of s.sizes k) h in
      inr (b, among-left _ (read_buckets (s.txns j)) _ (rw w.2 at (among-map (λ (q : IndexRead). q.bucket) (s.txns j).reads w.0 w.1)))

  apart : Among (bucket_of s.sizes k) (needs s.sizes s.index.posted (s.txns i)) → ⊥
  apart w = d (one-bucket s i g.numbers g.holders j i (bucket_of s.sizes k) reads (inr (omega arith, w)))

  pub undisturbed : (r : ℕ) → SameOn k (live_row s r) (live_row (becomes s i Ended) r)
  unfolding content_of
  undisturbed r = go (member r (pending_rows s.sizes (s.txns i).writes)) refl
    where
      go : (t : Bool) → member r (pending_rows s.sizes (s.txns i).writes) ≡ t → SameOn k (live_row s r) (live_row (becomes s i Ended) r)
      go true e = let w = member-among r _ e in (
        (λ c. absurd (apart (needs-old s.sizes s.index.posted (s.txns i) r k w (sym (key-before-end s i g l a r w) ∙ carries-key _ _ k c)))),
        (λ c. absurd (apart (needs-new s.sizes s.index.posted (s.txns i) r k w (carries-key _ _ k (rw (live_own s i g g' l a r w) at c))))),
      )
      go false e = let same = live-others s i g g' l a r (λ w. true≢false (sym (among-member r _ w) ∙ e)) in ((λ c. same), (λ c. same))
