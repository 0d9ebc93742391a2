-- A row's last pending write and its new key, over the words and in the model.
-- Assumes nothing.
use Prim.Native.Nat.{ℕ, zero, suc, ◌≤◌, min}
use mathlib.Core.Path.{◌≡◌, refl, sym, ap, ◌∙◌}
use mathlib.Core.Bool.{Bool, true, false, cond}
use mathlib.Core.Option.{Option, none, some}
use mathlib.Core.List.{List, [], ◌∷◌, ◌++◌, map, map-append}
use native.Mathlib.Omega.{arith}
use lib.Dec.{eqb}
use Rattle.std.specs.Prelude.{Option as StdOption, Some, None}
use Rattle.base_limits.specs.Limits.{most_writes}
use Rattle.model.specs.Store as model
use Rattle.model.specs.Seeing.{last_write_from, last_write, written_key}
use Rattle.model.specs.Steps.{new_key}
use Rattle.table.specs.Regions.{list_of}
use Rattle.table.specs.Lists as lists
use Rattle.table.specs.declared.lists.Write.{Write}
use Rattle.table_scans.specs.Scans.{last_below, latest_pending, rows_written}
use Rattle.table_scans.proofs.Laws.{fields-length, fields_at}
use Rattle.txn.specs.View.{write_view, writes_in, txn_view}
use Rattle.txn.specs.declared.Transaction.{Transaction}
use Rattle.txn_needs.specs.Keys.{key_of, written_at, new_key_of}

-- the last write of a list with one more
last_snoc : (so : Option model.Write) (ws : List model.Write) (x : model.Write) (r : ℕ)
    → last_write_from so (ws ++ (x ∷ [])) r ≡ cond (eqb x.row r) (some x) (last_write_from so ws r)
unfolding last_write_from
last_snoc so [] x r = refl
last_snoc so (y ∷ ws) x r = last_snoc (cond (eqb y.row r) (some y) so) ws x r

-- a place of the slot's writes, as the model has what stands there
abbrev pub found_write : List ℕ → ℕ → StdOption ℕ → Option model.Write
found_write xs s (Some i) = some (write_view (lists.write_at xs s i))
found_write xs s None = none

none_yet : (r : ℕ) → last_write [] r ≡ none
unfolding last_write_from
none_yet r = refl

-- below m of the slot's n writes
last-below : (xs : List ℕ) (s n m r : ℕ) → m ≤ n
    → found_write xs s (last_below (rows_written (lists.writes_of xs s n)) r m) ≡ last_write (map write_view (lists.writes_of xs s m)) r
unfolding last_below list_of
last-below xs s n zero r h = sym (none_yet r)
last-below xs s n (suc m) r h =
    rw (
      map-append,
      last_snoc none (map write_view (lists.writes_of xs s m)) (write_view (lists.write_at xs s m)) r,
      fields_at (λ (w : Write). w.row) lists.write_of lists.writes xs s n m (omega arith),
    )
    (go (eqb (lists.write_at xs s m).row r) (last-below xs s n m r (omega arith)))
  where
    go : (b : Bool) → found_write xs s (last_below (rows_written (lists.writes_of xs s n)) r m) ≡ last_write (map write_view (lists.writes_of xs s m)) r
        → found_write xs s (cond b (Some m) (last_below (rows_written (lists.writes_of xs s n)) r m)) ≡ cond b (some (write_view (lists.write_at xs s m)))
        (last_write (map write_view (lists.writes_of xs s m)) r)
    go true ih = refl
    go false ih = ih

key-found : (xs : List ℕ) (s : ℕ) (f : StdOption ℕ) → key_of (written_at xs s f) ≡ written_key (found_write xs s f)
unfolding written_key
key-found xs s (Some i) = refl
key-found xs s None = refl

module _ (xs : List ℕ) (t : Transaction) (few : t.writes_n ≤ most_writes) (r : ℕ) where
  -- the last pending write of a row, and its new key
  pub last-same : found_write xs t.slot (latest_pending xs t.slot t.writes_n r) ≡ last_write (writes_in xs t) r
  last-same =
      let e : min t.writes_n most_writes ≡ t.writes_n = omega arith in
      let n = fields-length (λ (w : Write). w.row) lists.write_of lists.writes xs t.slot t.writes_n in
      rw (e, n) (last-below xs t.slot t.writes_n t.writes_n r (omega arith))

  pub new-key-same : key_of (new_key_of xs t.slot t.writes_n r) ≡ new_key (txn_view xs t) r
  unfolding new_key_of
  new-key-same = key-found xs t.slot (latest_pending xs t.slot t.writes_n r) ∙ ap written_key last-same
