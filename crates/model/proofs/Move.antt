-- What a step does, as a relation, and what a list of tests that refuses nothing says. Assumes nothing.
use mathlib.Core.Path.{◌≡◌, refl, sym, ap, ◌∙◌}
use mathlib.Core.Bool.{Bool, true, false, not, false≢true, true≢false}
use mathlib.Core.Logic.{◌≢◌, ◌⊎◌}
use mathlib.Core.Option.{none, some}
use mathlib.Core.List.{List, [], ◌∷◌}
use Prim.Native.Nat.{ℕ, ◌+◌, ◌≤◌, ◌<◌}
use native.Mathlib.Omega.{arith}
use lib.Dec.{eqb}
use lib.ListN.{length}
use borrow.Author.Tests.{eqb-false, ne_eqb, ltb-true, not-true, not-false}
use Rattle.base_limits.specs.Limits.{most_live, most_index_reads, most_records, most_writes, last_number}
use Rattle.base_lists.specs.Lists.{some_of, all_of}
use Rattle.base_lists.proofs.TableLaws.{update_other}
use Rattle.base_lists.proofs.ListLaws.{and_l, and_r, or_l, or_r}
use Rattle.model.specs.Store.{Ended, Write, Txn, Store, rank, phase_open, phase_holding, phase_collected, phase_prepared, phase_installed, phase_ended}
use Rattle.model.specs.Store.{bucket_of}
use Rattle.model.specs.Seeing.{live, Live}
use Rattle.model.specs.Verdict.{verdict_number, verdict}
use Rattle.model.specs.Steps.{becomes, begun, stale, has_read, captured, collected, records_after, read_done, written, pending_rows, needed_buckets, prepared}
use Rattle.model.specs.Steps.{installed, ended, published}
use Rattle.model.specs.Refusals.{Refusal, place_of, txn_of, live_count, by_another, versions_after, found, refusal}
use Rattle.model.specs.Machine.{is_stale}
use Rattle.model.proofs.Tests.{place-number}

-- the test of a live transaction, and its fact
pub test_live : (x : Txn) → live x ≡ true → Live x
test_live x e = pos (eqb-false x.number 0 (not-true _ e))
  where
    pos : (x.number ≡ 0 → ⊥) → Live x
    pos z = omega arith

pub live_test : (x : Txn) → Live x → live x ≡ true
live_test x l = rw (ne_eqb x.number 0 (λ e. omega arith))

-- what capture tests after the phase
pub record CanCapture (s : Store) (i k : ℕ) : Type 0 where
  pub unmarked : (s.txns i).marked ≡ false
  pub free : by_another s.held.holder (s.txns i).number (bucket_of s.sizes k) ≡ false
  pub old-stamp : s.index.stamp (bucket_of s.sizes k) < (s.txns i).number
  pub room : (has_read (s.txns i).reads (bucket_of s.sizes k) ≡ true) ⊎ (length (s.txns i).reads < most_index_reads)

-- what prepare tests after the phase
pub record CanPrepare (s : Store) (i : ℕ) : Type 0 where
  pub buckets-free : some_of (by_another s.held.holder (s.txns i).number) (needed_buckets s (s.txns i)) ≡ false
  pub rows-free : some_of (by_another s.held.claim (s.txns i).number) (pending_rows s.sizes (s.txns i).writes) ≡ false
  pub clear : verdict_number (verdict s.chains s.index (s.txns i)) ≡ 0
  pub room : versions_after s (s.txns i) ≤ s.sizes.versions

-- a constructor for each outcome of a step that changes the store; i is the place of the one who acts
pub data Move (s : Store) : ℕ → Store → Type 0 where
  stay : (i : ℕ) → Move s i s
  did-begin : (i : ℕ) → i < most_live → (s.txns i).number ≡ 0 → live_count s.txns < most_live → s.clock + live_count s.txns + 2 ≤ last_number
      → Move s i (begun s i)
  did-mark : (i : ℕ) → Live (s.txns i) → rank (s.txns i).phase ≡ phase_open → Move s i (stale s i)
  did-capture : (i k : ℕ) → Live (s.txns i) → rank (s.txns i).phase ≡ phase_open → CanCapture s i k → Move s i (captured s i k)
  did-collect : (i : ℕ) → Live (s.txns i) → rank (s.txns i).phase ≡ phase_holding → Move s i (collected s i)
  did-rows : (i : ℕ) → Live (s.txns i) → rank (s.txns i).phase ≡ phase_collected → length (records_after s (s.txns i)) ≤ most_records → Move s i (read_done s i)
  did_write : (i : ℕ) (w : Write) → Live (s.txns i) → rank (s.txns i).phase ≡ phase_open → w.row < s.sizes.rows → length (s.txns i).writes < most_writes
      → Move s i (written s i w)
  did-prepare : (i : ℕ) → Live (s.txns i) → rank (s.txns i).phase ≡ phase_open → CanPrepare s i → Move s i (prepared s i)
  did-install : (i : ℕ) → Live (s.txns i) → rank (s.txns i).phase ≡ phase_prepared → Move s i (installed s i)
  did-end : (i : ℕ) → Live (s.txns i) → rank (s.txns i).phase ≡ phase_installed → Move s i (becomes s i Ended)
  did-publish : (i : ℕ) → Live (s.txns i) → rank (s.txns i).phase ≡ phase_ended → Move s i (published s i)
  did-abort : (i : ℕ) → Live (s.txns i) → rank (s.txns i).phase < phase_installed → Move s i (ended s i)

-- a publish, and no other move
abbrev pub publishing : {s s' : Store} {i : ℕ} → Move s i s' → Bool
publishing {s = s} m = go m
  where
    go : {i : ℕ} {s' : Store} → Move s i s' → Bool
    go (stay i) = false
    go (did-begin i a b c d) = false
    go (did-mark i a b) = false
    go (did-capture i k a b c) = false
    go (did-collect i a b) = false
    go (did-rows i a b c) = false
    go (did_write i w a b c d) = false
    go (did-prepare i a b c) = false
    go (did-install i a b) = false
    go (did-end i a b) = false
    go (did-publish i a b) = true
    go (did-abort i a b) = false

-- a list of tests that refuses nothing: the first test is false, and so are the others
pub passes : (b : Bool) (r : Refusal) (cs : List (Bool × Refusal)) → refusal ((b, r) ∷ cs) ≡ none → (b ≡ false) × (refusal cs ≡ none)
unfolding refusal
passes true r cs e = let z : ◌≡◌ {A = ℕ} 0 1 = cc in absurd (omega arith)
passes false r cs e = (refl, e)

-- the refusal that marks comes from a later test
pub passes-to-stale : (b : Bool) (q r : Refusal) (cs : List (Bool × Refusal)) → is_stale q ≡ false → is_stale r ≡ true → refusal ((b, q) ∷ cs) ≡ some r
    → (b ≡ false) × (refusal cs ≡ some r)
unfolding refusal
passes-to-stale true q r cs n y e = let p : q ≡ r = cc in absurd (false≢true (sym n ∙ (rw p y)))
passes-to-stale false q r cs n y e = (refl, e)

-- no test of these marks
abbrev pub unmarking : List (Bool × Refusal) → Bool
unmarking cs = all_of (λ c. not (is_stale c.1)) cs

-- what all refusals of a list of tests are, the one that is given is
pub given_so : (p : Refusal → Bool) (cs : List (Bool × Refusal)) (r : Refusal) → all_of (λ c. p c.1) cs ≡ true → refusal cs ≡ some r → p r ≡ true
unfolding refusal all_of
given_so p [] r a e = let z : ◌≡◌ {A = ℕ} 0 1 = cc in absurd (omega arith)
given_so p (c ∷ cs) r a e = go c.0 refl (λ f. given_so p cs r (and_r (p c.1) (all_of (λ d. p d.1) cs) a) f)
  where
    go : (b : Bool) → c.0 ≡ b → (refusal cs ≡ some r → p r ≡ true) → p r ≡ true
    go true t later = let q : c.1 ≡ r = cc in ap p (sym q) ∙ and_l (p c.1) (all_of (λ d. p d.1) cs) a
    go false t later = later (rw t at e)

-- a list of tests with no refusal that marks
pub never-stale : (cs : List (Bool × Refusal)) (r : Refusal) → unmarking cs ≡ true → refusal cs ≡ some r → is_stale r ≡ true → ⊥
never-stale cs r a e y = true≢false (sym y ∙ not-true (is_stale r) (given_so (λ q. not (is_stale q)) cs r a e))

pub record Found (s : Store) (t : ℕ) (phase : Bool) (more : List (Bool × Refusal)) : Type 0 where
  pub place : place_of s.txns t < most_live
  pub number : (txn_of s t).number ≡ t
  pub alive : Live (txn_of s t)
  pub phase-is : phase ≡ true
  pub rest : refusal more ≡ none

pub finds : (s : Store) (t : ℕ) (phase : Bool) (more : List (Bool × Refusal)) → refusal (found s t phase more) ≡ none → Found s t phase more
finds s t phase more e =
    let a = passes _ _ _ e in
    let b = passes _ _ _ a.1 in
    let l : place_of s.txns t < most_live = ltb-true _ _ (not-false _ (or_r (eqb t 0) _ a.0)) in
    let n = place-number s t l in
    record { place = l; number = n; alive = pos (eqb-false t 0 (or_l (eqb t 0) _ a.0)) n; phase-is = not-false _ b.0; rest = b.1 }
  where
    pos : (t ≡ 0 → ⊥) → (txn_of s t).number ≡ t → Live (txn_of s t)
    pos z n = omega arith

-- only the acting place changes
pub untouched : (s s' : Store) {b : ℕ} → Move s b s' → (i : ℕ) → i ≢ b → s'.txns i ≡ s.txns i
untouched s s' = go s'
  where
    go : {b : ℕ} (s' : Store) → Move s b s' → (i : ℕ) → i ≢ b → s'.txns i ≡ s.txns i
    go s' (stay j) i d = refl
    go s' (did-begin j a b c e) i d = update_other s.txns j _ i d
    go s' (did-mark j a b) i d = update_other s.txns j _ i d
    go s' (did-capture j k a b c) i d = update_other s.txns j _ i d
    go s' (did-collect j a b) i d = update_other s.txns j _ i d
    go s' (did-rows j a b c) i d = update_other s.txns j _ i d
    go s' (did_write j w a b c e) i d = update_other s.txns j _ i d
    go s' (did-prepare j a b c) i d = update_other s.txns j _ i d
    go s' (did-install j a b) i d = update_other s.txns j _ i d
    go s' (did-end j a b) i d = update_other s.txns j _ i d
    go s' (did-publish j a b) i d = update_other s.txns j _ i d
    go s' (did-abort j a b) i d = update_other s.txns j _ i d
