-- A record put at its place, and stores within its slot: what the model sees of them, and that all stays in order.
-- Assumes nothing.
use Prim.Native.Nat.{ℕ, suc, ◌+◌, ◌*◌, ◌≤◌, ◌<◌}
use mathlib.Core.Path.{◌≡◌, refl, sym, ap, ◌∙◌, fun_ext}
use mathlib.Core.Bool.{true}
use mathlib.Core.Logic.{◌≢◌, inl, inr}
use mathlib.Core.List.{List}
use native.Mathlib.Nat.{mul-le-mul_left}
use native.Mathlib.Decide.{ℕ_discrete, dec_lt}
use native.Mathlib.Omega.{arith}
use lib.ListN.{length, get_or, set, length-set}
use lib.Seq.{sets, get_or-set_same, get_or-set_other, set-get_or}
use Rattle.base_limits.specs.Limits.{most_live}
use Rattle.base_lists.specs.Table.{update}
use Rattle.base_lists.proofs.TableLaws.{update_same, update_other}
use Rattle.model.specs.Store as model
use Rattle.table.specs.Regions.{list_of}
use Rattle.table.specs.Lists.{Kind, slot_words, start_of, list_at, reads, writes, records, candidates, read_of, write_of, record_of, candidate_of}
use Rattle.table.proofs.Spans.{list-kept}
use Rattle.table.proofs.Stored.{Within}
use Rattle.table_postings.specs.Links.{lists_tell}
use Rattle.txn.specs.View.{txn_view}
use Rattle.txn.specs.Methods.{idle_of}
use Rattle.txn.specs.declared.Transaction.{Transaction}
use Rattle.base_protocol.specs.declared.Answer.{Answer}
use Rattle.step.specs.Steps.{Tables, Moved, stays}
use Rattle.step.specs.Words.{Words, view, txn_at, tables_after, SizedTxn, Sized}
use Rattle.step_bridge.proofs.Places.{sized-at}

-- a free place is the model's
pub idle-view : (xs : List ℕ) (i : ℕ) → txn_view xs (idle_of i) ≡ model.no_txn
unfolding list_of
idle-view xs i = refl

-- stores within one slot leave every list of another
slot-list : {A : Type 0} (f : List ℕ → A) (l : Kind) (xs : List ℕ) (p j n at : ℕ) (vs : List ℕ) → Within l → n ≤ l.room → slot_words * p ≤ at
    → at + length vs ≤ slot_words * suc p → j ≢ p
    → list_at f l (sets xs at vs) j n ≡ list_at f l xs j n
slot-list f l xs p j n at vs il hn lo hi d =
    let b = mul-le-mul_left {m = n} {n = l.room} l.w hn in
    list-kept f l.w (start_of l j) xs n at vs
    (elim (dec_lt j p) [ yes q ↦ inl (omega arith) | no q ↦ let q : p < j = omega (arith, d) in inr (omega arith) ])

pub slot-view : (xs : List ℕ) (p j at : ℕ) (vs : List ℕ) (t : Transaction) → SizedTxn j t → slot_words * p ≤ at → at + length vs ≤ slot_words * suc p
    → j ≢ p → txn_view (sets xs at vs) t ≡ txn_view xs t
slot-view xs p j at vs t z lo hi d =
    let e : t.slot ≢ p = λ q. d (sym z.slot ∙ q) in
    rw (
      slot-list read_of reads xs p t.slot t.reads_n at vs (omega arith) z.reads lo hi e,
      slot-list write_of writes xs p t.slot t.writes_n at vs (omega arith) z.writes lo hi e,
      slot-list record_of records xs p t.slot t.records_n at vs (omega arith) z.records lo hi e,
      slot-list candidate_of candidates xs p t.slot t.candidates_n at vs (omega arith) z.candidates lo hi e,
    )

-- all that a step leaves, at a place
abbrev pub after : Words → ℕ → Moved → Words
after w p m = record { tables = tables_after m; txns = set w.txns p m.stepped.txn; sizes = w.sizes; clock = m.stepped.clock; used = m.stepped.used }

abbrev pub unmoved : Words → ℕ → Answer → Moved
unmoved w p a = stays (record { answer = a; txn = txn_at w p; clock = w.clock; used = w.used }) w.tables

-- a refusal that changes nothing
pub unmoved-same : (w : Words) (p : ℕ) (a : Answer) → after w p (unmoved w p a) ≡ w
unmoved-same w p a = rw (set-get_or w.txns p (idle_of p))

module _ (w : Words) (z : Sized w) (p : ℕ) (l : p < most_live) where
  at_place : (t : Transaction) → get_or (set w.txns p t) p (idle_of p) ≡ t
  at_place t = get_or-set_same w.txns p t (idle_of p) (omega (arith, z.eight))

  -- the model sees one transaction anew
  pub txns-set : (xs : List ℕ) (t : Transaction) → ((j : ℕ) → j ≢ p → txn_view xs (txn_at w j) ≡ txn_view w.tables.lists (txn_at w j))
      → (λ (i : ℕ). txn_view xs (get_or (set w.txns p t) i (idle_of i))) ≡ update (view w).txns p (txn_view xs t)
  txns-set xs t h = fun_ext λ j. by j (ℕ_discrete j p)
    where
      by : (j : ℕ) → Dec (j ≡ p) → txn_view xs (get_or (set w.txns p t) j (idle_of j)) ≡ update (view w).txns p (txn_view xs t) j
      by j (yes e) = rw (e, update_same) (ap (txn_view xs) (at_place t))
      by j (no n) = rw (update_other (view w).txns p (txn_view xs t) j n) (ap (txn_view xs) (get_or-set_other w.txns p j t (idle_of j) n) ∙ h j n)

  -- what is left is in order
  pub sized_set : (t : Transaction) (b : Tables) (clock used : ℕ) → SizedTxn p t → length b.rows ≡ length w.tables.rows
      → length b.versions ≡ length w.tables.versions
      → length b.buckets ≡ length w.tables.buckets → length b.lists ≡ length w.tables.lists
      → lists_tell b.rows w.sizes.rows ≡ true
      → Sized (record { tables = b; txns = set w.txns p t; sizes = w.sizes; clock = clock; used = used })
  sized_set t b clock used h r v c d e = record {
    eight = length-set w.txns p t ∙ z.eight;
    rows = rw r z.rows;
    versions = rw v z.versions;
    buckets = rw c z.buckets;
    lists = rw d z.lists;
    txns = λ i k. by i (ℕ_discrete i p);
    told = e;
  }
    where
      by : (i : ℕ) → Dec (i ≡ p) → SizedTxn i (get_or (set w.txns p t) i (idle_of i))
      by i (yes q) = rw (q, at_place t) h
      by i (no n) = rw (get_or-set_other w.txns p i t (idle_of i) n) (sized-at w z i)
