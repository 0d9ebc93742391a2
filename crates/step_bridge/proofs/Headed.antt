-- Heads and keys over the words and in the model, from what both a shaped store and the shape test have of the chains.
-- Assumes nothing.
use Prim.Native.Nat.{ℕ, suc, ◌≤◌, ◌<◌}
use mathlib.Core.Path.{◌≡◌, refl, sym}
use mathlib.Core.Bool.{Bool, true, false, cond}
use mathlib.Core.Option.{none}
use mathlib.Core.List.{List}
use native.Mathlib.Omega.{arith}
use lib.Dec.{eqb}
use Rattle.base_limits.specs.Limits.{most_writes}
use Rattle.base_lists.specs.Lists.{Among}
use Rattle.model.specs.Store as model
use Rattle.model.specs.Seeing.{key_at}
use Rattle.model.specs.Steps.{old_key, headed_by}
use Rattle.table.specs.Words.{field}
use Rattle.table.specs.Fields as fields
use Rattle.table.specs.Fields.{row_words, version_words, head_of}
use Rattle.table.proofs.Parts.{part_field}
use Rattle.txn.specs.View.{key_view, rows_part, versions_part, chains_view}
use Rattle.txn.specs.declared.Transaction.{Transaction}
use Rattle.txn_needs.specs.Keys as words
use Rattle.txn_needs.specs.Keys.{key_of, version_key, old_key_of}
use Rattle.txn_needs.specs.Needs.{rows_written}

-- heads are at most the last used pointer, and that is at most the versions
pub record Headed (z : model.Sizes) (rows : List ℕ) (used : ℕ) : Type 0 where
  pub room : used ≤ z.versions
  pub heads : (r : ℕ) → r < z.rows → head_of rows r ≤ used

-- the pending writes are no more than their list holds, and all of rows that the store has
pub record WritesIn (z : model.Sizes) (xs : List ℕ) (t : Transaction) : Type 0 where
  pub few : t.writes_n ≤ most_writes
  pub below : (r : ℕ) → Among r (rows_written xs t.slot t.writes_n) → r < z.rows

-- the chains that the parts of the tables stand for
abbrev pub chains_in : model.Sizes → List ℕ → List ℕ → ℕ → model.Chains
chains_in z rows versions used = chains_view (rows_part z rows) (versions_part z versions) used

module _ (z : model.Sizes) (rows versions : List ℕ) (used : ℕ) (g : Headed z rows used) where
  pub head-same : (r : ℕ) → r < z.rows → head_of rows r ≡ (chains_in z rows versions used).head r
  head-same r h = sym (part_field row_words 0 z.rows rows r (omega arith) h)

  -- a field of the version at a pointer that was given
  pub version-field : (k p : ℕ) → k < version_words → p ≤ used → field version_words k (versions_part z versions) p ≡ field version_words k versions p
  version-field k p hk h = part_field version_words k (suc z.versions) versions p hk (omega (arith, g.room))

  -- its key
  pub version-key : (p : ℕ) → p ≤ used → key_of (version_key versions p) ≡ key_at (chains_in z rows versions used) p
  unfolding version_key key_at
  version-key p h = rw (version-field 3 p (omega arith) h, version-field 4 p (omega arith) h) (by (eqb p 0))
    where
      by : (b : Bool) → key_of (cond b (record { keyed = 0; key = 0 }) (record { keyed = fields.keyed_of versions p; key = fields.key_of versions p }))
          ≡ cond b none (key_view (fields.keyed_of versions p) (fields.key_of versions p))
      by true = refl
      by false = refl

  -- a row headed by a version of this number, and the head version's key
  pub headed-same : (n r : ℕ) → r < z.rows → words.headed_by rows versions n r ≡ headed_by (chains_in z rows versions used) n r
  unfolding words.headed_by headed_by
  headed-same n r h = rw (← head-same r h, version-field 0 (head_of rows r) (omega arith) (g.heads r h))

  pub old-key-same : (r : ℕ) → r < z.rows → key_of (old_key_of rows versions false r) ≡ old_key (chains_in z rows versions used) r
  unfolding old_key_of
  old-key-same r h = rw (← head-same r h) (version-key (head_of rows r) (g.heads r h))
