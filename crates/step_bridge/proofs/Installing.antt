-- Install over the words is the model's.
-- Assumes nothing.
use Prim.Native.Nat.{ℕ, ◌*◌, ◌≤◌, ◌<◌}
use mathlib.Core.Path.{◌≡◌, refl, ap, ◌∙◌, fun_ext}
use mathlib.Core.Logic.{◌≢◌}
use mathlib.Core.List.{List}
use native.Mathlib.Decide.{ℕ_discrete}
use native.Mathlib.Omega.{arith}
use lib.ListN.{length}
use Rattle.std.specs.Prelude.{Option, Some, None}
use Rattle.base_limits.specs.Limits.{most_writes}
use Rattle.base_lists.specs.Table.{update}
use Rattle.base_lists.proofs.TableLaws.{update_same, update_other}
use Rattle.model.specs.Seeing.{last_write, written_key}
use Rattle.model.specs.Steps.{new_key, written_payload}
use Rattle.table.specs.Fields.{version_words, set_xmax}
use Rattle.table.specs.Words.{field, set_field}
use Rattle.table.specs.declared.lists.Write.{Write}
use Rattle.table.proofs.Laws.{field-length}
use Rattle.table_scans.specs.Scans.{latest_pending}
use Rattle.txn.specs.View.{key_view, txn_view, writes_in}
use Rattle.txn.specs.declared.Transaction.{Transaction}
use Rattle.finish_install.specs.Install.{write_found, last_write_of, version_stored}
use Rattle.step_bridge.proofs.Tabled.{part, part-update, part-other}
use Rattle.step_bridge.proofs.Keyed.{found_write, last-same}

-- a row's last pending write: its key and its payload
write-key : (xs : List ℕ) (s r : ℕ) (f : Option ℕ) → key_view (write_found xs s r f).keyed (write_found xs s r f).key ≡ written_key (found_write xs s f)
unfolding written_key
write-key xs s r (Some i) = refl
write-key xs s r None = refl

write-payload : (xs : List ℕ) (s r : ℕ) (f : Option ℕ) → (write_found xs s r f).payload ≡ written_payload (found_write xs s f)
unfolding written_payload
write-payload xs s r (Some i) = refl
write-payload xs s r None = refl

module _ (xs : List ℕ) (t : Transaction) (few : t.writes_n ≤ most_writes) (r : ℕ) where
  pub last-key : key_view (last_write_of xs t.slot t.writes_n r).keyed (last_write_of xs t.slot t.writes_n r).key ≡ new_key (txn_view xs t) r
  unfolding last_write_of
  last-key = write-key xs t.slot r (latest_pending xs t.slot t.writes_n r) ∙ ap written_key (last-same xs t few r)

  pub last-payload : (last_write_of xs t.slot t.writes_n r).payload ≡ written_payload (last_write (writes_in xs t) r)
  unfolding last_write_of
  last-payload = write-payload xs t.slot r (latest_pending xs t.slot t.writes_n r) ∙ ap written_payload (last-same xs t few r)

-- a field of the versions of the part with m entries
abbrev version_field : ℕ → ℕ → List ℕ → ℕ → ℕ
version_field m k xs = field version_words k (part version_words m xs)

-- a version stored at p, and the old head's xmax: each field of that part
module _ (m : ℕ) (vs : List ℕ) (p n h : ℕ) (x : Write) (hp : p < m) (hh : h < m) (l : version_words * m ≤ length vs) where
  v1 : List ℕ
  v1 = set_field version_words 0 vs p n

  v2 : List ℕ
  v2 = set_field version_words 1 v1 p 0

  v3 : List ℕ
  v3 = set_field version_words 2 v2 p h

  v4 : List ℕ
  v4 = set_field version_words 3 v3 p x.keyed

  v5 : List ℕ
  v5 = set_field version_words 4 v4 p x.key

  v6 : List ℕ
  v6 = set_field version_words 5 v5 p x.payload

  l1 : length v1 ≡ length vs
  unfolding v1
  l1 = field-length version_words 0 vs p n

  l2 : length v2 ≡ length vs
  unfolding v2
  l2 = field-length version_words 1 v1 p 0 ∙ l1

  l3 : length v3 ≡ length vs
  unfolding v3
  l3 = field-length version_words 2 v2 p h ∙ l2

  l4 : length v4 ≡ length vs
  unfolding v4
  l4 = field-length version_words 3 v3 p x.keyed ∙ l3

  l5 : length v5 ≡ length vs
  unfolding v5
  l5 = field-length version_words 4 v4 p x.key ∙ l4

  l6 : length v6 ≡ length vs
  unfolding v6
  l6 = field-length version_words 5 v5 p x.payload ∙ l5

  pub stored-length : length (set_xmax (version_stored vs p n h x) h n) ≡ length vs
  unfolding version_stored v1 v2 v3 v4 v5 v6
  stored-length = field-length version_words 1 v6 h n ∙ l6

  -- a field that a store leaves
  past : (k : ℕ) (ys : List ℕ) (i v j : ℕ) → j < version_words → k < version_words → j ≢ k
      → version_field m j (set_field version_words k ys i v) ≡ version_field m j ys
  past k ys i v j a b d = part-other version_words k m ys i v j a b d

  pub stored-xmin : version_field m 0 (set_xmax (version_stored vs p n h x) h n) ≡ update (version_field m 0 vs) p n
  unfolding version_stored v1 v2 v3 v4 v5 v6
  stored-xmin = past 1 v6 h n 0 (omega arith) (omega arith) (omega arith)
      ∙ (past 5 v5 p x.payload 0 (omega arith) (omega arith) (omega arith)
      ∙ (past 4 v4 p x.key 0 (omega arith) (omega arith) (omega arith) ∙ (past 3 v3 p x.keyed 0 (omega arith) (omega arith) (omega arith)
      ∙ (past 2 v2 p h 0 (omega arith) (omega arith) (omega arith)
      ∙ (past 1 v1 p 0 0 (omega arith) (omega arith) (omega arith) ∙ part-update version_words 0 m vs p n (omega arith) hp l)))))

  pub stored-xmax : version_field m 1 (set_xmax (version_stored vs p n h x) h n) ≡ update (update (version_field m 1 vs) p 0) h n
  unfolding version_stored v1 v2 v3 v4 v5 v6
  stored-xmax = part-update version_words 1 m v6 h n (omega arith) hh (rw l6 l)
      ∙ ap (λ (f : ℕ → ℕ). update f h n) (past 5 v5 p x.payload 1 (omega arith) (omega arith) (omega arith)
      ∙ (past 4 v4 p x.key 1 (omega arith) (omega arith) (omega arith) ∙ (past 3 v3 p x.keyed 1 (omega arith) (omega arith) (omega arith)
      ∙ (past 2 v2 p h 1 (omega arith) (omega arith) (omega arith)
      ∙ (part-update version_words 1 m v1 p 0 (omega arith) hp (rw l1 l)
      ∙ ap (λ (f : ℕ → ℕ). update f p 0) (past 0 vs p n 1 (omega arith) (omega arith) (omega arith)))))))

  pub stored_next : version_field m 2 (set_xmax (version_stored vs p n h x) h n) ≡ update (version_field m 2 vs) p h
  unfolding version_stored v1 v2 v3 v4 v5 v6
  stored_next = past 1 v6 h n 2 (omega arith) (omega arith) (omega arith)
      ∙ (past 5 v5 p x.payload 2 (omega arith) (omega arith) (omega arith)
      ∙ (past 4 v4 p x.key 2 (omega arith) (omega arith) (omega arith) ∙ (past 3 v3 p x.keyed 2 (omega arith) (omega arith) (omega arith)
      ∙ (part-update version_words 2 m v2 p h (omega arith) hp (rw l2 l)
      ∙ ap (λ (f : ℕ → ℕ). update f p h) (past 1 v1 p 0 2 (omega arith) (omega arith) (omega arith)
      ∙ past 0 vs p n 2 (omega arith) (omega arith) (omega arith))))))

  stored-keyed : version_field m 3 (set_xmax (version_stored vs p n h x) h n) ≡ update (version_field m 3 vs) p x.keyed
  unfolding version_stored v1 v2 v3 v4 v5 v6
  stored-keyed = past 1 v6 h n 3 (omega arith) (omega arith) (omega arith)
      ∙ (past 5 v5 p x.payload 3 (omega arith) (omega arith) (omega arith) ∙ (past 4 v4 p x.key 3 (omega arith) (omega arith) (omega arith)
      ∙ (part-update version_words 3 m v3 p x.keyed (omega arith) hp (rw l3 l)
      ∙ ap (λ (f : ℕ → ℕ). update f p x.keyed) (past 2 v2 p h 3 (omega arith) (omega arith) (omega arith)
      ∙ (past 1 v1 p 0 3 (omega arith) (omega arith) (omega arith) ∙ past 0 vs p n 3 (omega arith) (omega arith) (omega arith))))))

  stored-key : version_field m 4 (set_xmax (version_stored vs p n h x) h n) ≡ update (version_field m 4 vs) p x.key
  unfolding version_stored v1 v2 v3 v4 v5 v6
  stored-key = past 1 v6 h n 4 (omega arith) (omega arith) (omega arith)
      ∙ (past 5 v5 p x.payload 4 (omega arith) (omega arith) (omega arith) ∙ (part-update version_words 4 m v4 p x.key (omega arith) hp (rw l4 l)
      ∙ ap (λ (f : ℕ → ℕ). update f p x.key) (past 3 v3 p x.keyed 4 (omega arith) (omega arith) (omega arith)
      ∙ (past 2 v2 p h 4 (omega arith) (omega arith) (omega arith)
      ∙ (past 1 v1 p 0 4 (omega arith) (omega arith) (omega arith) ∙ past 0 vs p n 4 (omega arith) (omega arith) (omega arith))))))

  pub stored-payload : version_field m 5 (set_xmax (version_stored vs p n h x) h n) ≡ update (version_field m 5 vs) p x.payload
  unfolding version_stored v1 v2 v3 v4 v5 v6
  stored-payload = past 1 v6 h n 5 (omega arith) (omega arith) (omega arith) ∙ (part-update version_words 5 m v5 p x.payload (omega arith) hp (rw l5 l)
      ∙ ap (λ (f : ℕ → ℕ). update f p x.payload) (past 4 v4 p x.key 5 (omega arith) (omega arith) (omega arith)
      ∙ (past 3 v3 p x.keyed 5 (omega arith) (omega arith) (omega arith)
      ∙ (past 2 v2 p h 5 (omega arith) (omega arith) (omega arith)
      ∙ (past 1 v1 p 0 5 (omega arith) (omega arith) (omega arith) ∙ past 0 vs p n 5 (omega arith) (omega arith) (omega arith))))))

  -- a key is of both its words
  pub stored-keys : (λ (q : ℕ). key_view (version_field m 3 (set_xmax (version_stored vs p n h x) h n) q)
      (version_field m 4 (set_xmax (version_stored vs p n h x) h n) q))
      ≡ update (λ (q : ℕ). key_view (version_field m 3 vs q) (version_field m 4 vs q)) p (key_view x.keyed x.key)
  stored-keys = rw (stored-keyed, stored-key) (fun_ext λ q. by q (ℕ_discrete q p))
    where
      by : (q : ℕ) → Dec (q ≡ p) → key_view (update (version_field m 3 vs) p x.keyed q) (update (version_field m 4 vs) p x.key q)
          ≡ update (λ (q : ℕ). key_view (version_field m 3 vs q) (version_field m 4 vs q)) p (key_view x.keyed x.key) q
      by q (yes e) = rw (
        e,
        update_same (version_field m 3 vs) p x.keyed,
        update_same (version_field m 4 vs) p x.key,
        update_same (λ (q : ℕ). key_view (version_field m 3 vs q) (version_field m 4 vs q)) p (key_view x.keyed x.key),
      )
      by q (no d) = rw (
        update_other (version_field m 3 vs) p x.keyed q d,
        update_other (version_field m 4 vs) p x.key q d,
        update_other (λ (q : ℕ). key_view (version_field m 3 vs q) (version_field m 4 vs q)) p (key_view x.keyed x.key) q d,
      )
