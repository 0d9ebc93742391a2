-- A read of the store is the read of a transaction by itself, over what its snapshot shows. Assumes nothing.
use mathlib.Core.Path.{◌≡◌, refl, sym, ap, subst, ◌∙◌}
use mathlib.Core.Bool.{Bool, true, false, cond, ◌||◌}
use mathlib.Core.Logic.{◌≢◌, inl, inr, ⊎_elim}
use mathlib.Core.Option.{Option, none, some}
use mathlib.Core.List.{List, [], ◌∷◌, ◌++◌, map, map-append}
use Prim.Native.Nat.{ℕ}
use native.Mathlib.Omega.{arith}
use lib.Dec.{eqb}
use borrow.Author.Tests.{eqb-true, eq-eqb}
use Rattle.base_lists.specs.Lists.{member, Among}
use Rattle.base_lists.proofs.TableLaws.{cond-elim}
use Rattle.base_lists.proofs.ListLaws.{same_test, some-which, which-some, among-map, map_same, map-among, member-among, among-member, pick_same}
use Rattle.model.specs.Store.{Chains, ReadRecord, Txn, Store, rank, phase_collected, key_in, same_key}
use Rattle.model.specs.Seeing.{version_of, key_at, last_write, pending, written_key, shown_key, matches, record_of, Live}
use Rattle.model.specs.Steps.{found_rows, recorded, recording, record_all, written_payload}
use Rattle.model.specs.Contents.{Content, content, content_of, shown_to}
use Rattle.model.specs.Refusals.{rows, txn_of}
use Rattle.model.specs.Machine.{Rows, step}
use Rattle.model.proofs.Chained.{Chained}
use Rattle.model.proofs.SeeingLaws.{same-key, recording-cases, found-which}
use Rattle.model.proofs.Good.{Good}
use Rattle.model.proofs.Finished.{one-row, found-whole, rows-done}
use Rattle.model_in_turn.specs.Done.{returned}
use Rattle.model_in_turn.proofs.ByItself.{key-content, carries, shown_in, rows_in, read_in, record_rows}

-- the key's test
carries_same : (o : Option ℕ) (payload k : ℕ) → carries (content o payload) k ≡ same_key o (some k)
unfolding carries
carries_same o payload k = ap (λ j. same_key j (some k)) (key-content o payload)

module _ (c : Chains) (x : Txn) (m : ℕ → Content) (m-is : (r : ℕ) → m r ≡ content_of c x.snapshot r) where
  pub shown-is : (r : ℕ) → shown_to c x r ≡ shown_in m x.writes r
  unfolding shown_to shown_in
  shown-is r = rw (m-is r) refl

  pub match_is : (k r : ℕ) → matches c x k r ≡ carries (shown_in m x.writes r) k
  unfolding matches shown_key shown_in content_of
  match_is k r = rw (m-is r) (go (pending x.writes r))
    where
      go : (b : Bool) → same_key (cond b (written_key (last_write x.writes r)) (key_at c (version_of c x.snapshot r))) (some k)
          ≡ carries (cond b (content (written_key (last_write x.writes r)) (written_payload (last_write x.writes r)))
          (content (key_at c (version_of c x.snapshot r)) (c.payload (version_of c x.snapshot r)))) k
      go true = sym (carries_same _ _ k)
      go false = sym (carries_same _ _ k)

module _ (s : Store) (g : Good s) (i : ℕ) (l : Live (s.txns i)) (a : rank (s.txns i).phase ≡ phase_collected) (m : ℕ → Content)
    (m-is : (r : ℕ) → m r ≡ content_of s.chains (s.txns i).snapshot r) where
  abbrev x : Txn
  x = s.txns i

  abbrev k : ℕ
  k = key_in x.phase

  pub found-is : found_rows s x ≡ rows_in s.sizes m x.writes k
  unfolding rows_in
  found-is = found-whole s g i l a ∙ pick_same _ _ 0 s.sizes.rows (λ r lo hi. match_is s.chains x m m-is k r)

  pub read_is : map (λ r. (r, shown_to s.chains x r)) (found_rows s x) ≡ read_in s.sizes m x.writes k
  unfolding read_in
  read_is = map_same _ _ (λ r. ap (λ o. (r, o)) (shown-is s.chains x m m-is r)) (found_rows s x) ∙ ap (map (λ r. (r, shown_in m x.writes r))) found-is

-- a content that carries a key holds it, with some payload
holds-key : (m : Content) (k : ℕ) → carries m k ≡ true → (payload : ℕ) × (m ≡ some (k, payload))
unfolding carries
holds-key none k e = absurd (no-key (same-key none (some k) e))
  where
    no-key : ◌≡◌ {A = Option ℕ} none (some k) → ⊥
    no-key f = let z : ◌≡◌ {A = ℕ} 0 1 = cc in omega arith
holds-key (some q) k e = let f : some q.0 ≡ some k = same-key (some q.0) (some k) e in let j : q.0 ≡ k = cc in (q.1, ap (λ i. some (i, q.1)) j)

-- each row that a read returns holds the key that was asked for
pub returned-keys : (s : Store) (t room : ℕ) (rs : List ℕ) → (step s (rows t room)).answer ≡ Rows rs → (q : ℕ × Content) → Among q (returned s t (Rows rs))
    → (payload : ℕ) × (q.1 ≡ some (key_in (txn_of s t).phase, payload))
returned-keys s t room rs e q o =
    let x = txn_of s t in
    let d = rows-done s t room rs e in
    let w = map-among (λ r. (r, shown_to s.chains x r)) rs q o in
    let f = found-which s x w.0 (subst (Among w.0) d.answer-is w.1) in
    let c : carries (shown_to s.chains x w.0) (key_in x.phase) ≡ true =
    ap (λ m. carries m (key_in x.phase)) (shown-is s.chains x (content_of s.chains x.snapshot) (λ r. refl) w.0)
    ∙ (sym (match_is s.chains x (content_of s.chains x.snapshot) (λ r. refl) (key_in x.phase) w.0) ∙ f.1) in
    let h = holds-key _ (key_in x.phase) c in
    (h.0, ap (λ (p : ℕ × Content). p.1) w.2 ∙ h.1)

-- records and the rows recorded
module _ (c : Chains) (ch : Chained c) (x : Txn) where
  abbrev True : List ReadRecord → Type 0
  True rs = (q : ReadRecord) → Among q rs → q ≡ record_of c x.snapshot q.row

  abbrev rows_of : List ReadRecord → List ℕ
  rows_of rs = map (λ (q : ReadRecord). q.row) rs

  recorded_row : (rs : List ReadRecord) → True rs → (r : ℕ) → version_of c x.snapshot r ≢ 0 → recorded rs (version_of c x.snapshot r) ≡ member r (rows_of rs)
  unfolding recorded
  recorded_row rs h r z = same_test _ _
      (λ e.
      let w = some-which (λ (q : ReadRecord). eqb q.ptr (version_of c x.snapshot r)) rs e in
      let f : version_of c x.snapshot w.0.row ≡ version_of c x.snapshot r = sym (ap (λ (q : ReadRecord). q.ptr) (h w.0 w.1))
      ∙ eqb-true _ _ w.2 in
      among-member r (rows_of rs) (rw (one-row c x.snapshot ch w.0.row r f z) at (among-map (λ (q : ReadRecord). q.row) rs w.0 w.1)))
      (λ e.
      let w = map-among (λ (q : ReadRecord). q.row) rs r (member-among r (rows_of rs) e) in
      which-some (λ (q : ReadRecord). eqb q.ptr (version_of c x.snapshot r)) rs w.0 w.1
      (eq-eqb _ _ (ap (λ (q : ReadRecord). q.ptr) (h w.0 w.1) ∙ ap (version_of c x.snapshot) (sym w.2))))

  -- one row
  abbrev noted : List ReadRecord → ℕ → List ReadRecord
  noted rs r = cond (pending x.writes r) rs (recording rs (record_of c x.snapshot r))

  still : (rs : List ReadRecord) (r : ℕ) → True rs → True (noted rs r)
  still rs r h = cond-elim True (pending x.writes r) rs (recording rs (record_of c x.snapshot r)) (λ e. h)
      (λ e q n. ⊎_elim (λ o. h q o) (λ f. f ∙ ap (λ (w : ReadRecord). record_of c x.snapshot w.row) (sym f))
      (recording-cases rs (record_of c x.snapshot r) q n))

  noted-rows : (rs : List ReadRecord) (r : ℕ) → True rs → (pending x.writes r ≡ false → version_of c x.snapshot r ≢ 0)
      → rows_of (noted rs r) ≡ cond (pending x.writes r || member r (rows_of rs)) (rows_of rs) (rows_of rs ++ (r ∷ []))
  unfolding recording
  noted-rows rs r h z = go (pending x.writes r) refl
    where
      one : (b : Bool) → member r (rows_of rs) ≡ b → rows_of (cond b rs (rs ++ (record_of c x.snapshot r ∷ []))) ≡ cond b (rows_of rs) (rows_of rs ++ (r ∷ []))
      one true e = refl
      one false e = map-append (λ (q : ReadRecord). q.row) rs (record_of c x.snapshot r ∷ [])

      go : (b : Bool) → pending x.writes r ≡ b
          → rows_of (cond b rs (recording rs (record_of c x.snapshot r))) ≡ cond (b || member r (rows_of rs)) (rows_of rs) (rows_of rs ++ (r ∷ []))
      go true p = refl
      go false p = rw (recorded_row rs h r (z p)) (one (member r (rows_of rs)) refl)

  pub records_is : (rs : List ReadRecord) (found : List ℕ) → True rs
      → ((r : ℕ) → Among r found → pending x.writes r ≡ false → version_of c x.snapshot r ≢ 0)
      → rows_of (record_all c x rs found) ≡ record_rows x.writes (rows_of rs) found
  unfolding record_all record_rows
  records_is rs [] h z = refl
  records_is rs (r ∷ more) h z = records_is (noted rs r) more (still rs r h) (λ q n. z q (inr n))
      ∙ ap (λ l. record_rows x.writes l more) (noted-rows rs r h (z r (inl refl)))
