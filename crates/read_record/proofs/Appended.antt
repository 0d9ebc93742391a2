-- Read records appended to a slot: that list grows by them, every other list of every slot is as it was.
-- Assumes nothing.
use Prim.Native.Nat.{ℕ, suc, ◌+◌, ◌≤◌, ◌<◌}
use mathlib.Core.Path.{◌≡◌, refl, ◌∙◌}
use mathlib.Core.Logic.{◌≢◌}
use mathlib.Core.List.{List, [], ◌∷◌, ◌++◌, append_assoc, append-nil}
use native.Mathlib.Nat.{add-zero}
use native.Mathlib.Omega.{arith}
use lib.ListN.{length}
use lib.Seq.{length-sets}
use Rattle.base_limits.specs.Limits.{most_live, most_records}
use Rattle.table.specs.Lists.{Kind, records, record_of, place_of, lists_words, list_at, records_of, stored}
use Rattle.table.specs.declared.lists.ReadRecord.{ReadRecord}
use Rattle.table.proofs.Stored.{Within, Apart, other-list, other-slot, same-list}
use Rattle.read_record.specs.Recording.{put_records}

pub put-length : (lists : List ℕ) (slot n : ℕ) (rs : List ReadRecord) → length (put_records lists slot n rs) ≡ length lists
unfolding put_records
put-length lists slot n [] = refl
put-length lists slot n (r ∷ rs) = put-length (stored records lists slot n (r.row ∷ r.ptr ∷ r.xmin ∷ [])) slot (n + 1) rs
    ∙ length-sets lists (place_of records slot n) (r.row ∷ r.ptr ∷ r.xmin ∷ [])

-- the slot's own records
pub put-records : (lists : List ℕ) (slot n : ℕ) (rs : List ReadRecord) → slot < most_live → lists_words ≤ length lists → n + length rs ≤ most_records
    → records_of (put_records lists slot n rs) slot (n + length rs) ≡ records_of lists slot n ++ rs
unfolding put_records
put-records lists slot n [] hs long h = rw (add-zero n, append-nil)
put-records lists slot n (r ∷ rs) hs long h =
    let ws = r.row ∷ r.ptr ∷ r.xmin ∷ [] in
    let e : n + suc (length rs) ≡ n + 1 + length rs = omega arith in
    let more : lists_words ≤ length (stored records lists slot n ws) = omega (arith, length-sets lists (place_of records slot n) ws) in
    rw e (put-records (stored records lists slot n ws) slot (n + 1) rs hs more (omega arith)
    ∙ rw (same-list record_of records lists slot n ws refl (omega arith) (omega arith) hs long) (append_assoc (records_of lists slot n) (r ∷ []) rs))

module _ {A : Type 0} (f : List ℕ → A) (k : Kind) (m : ℕ) (hm : m ≤ k.room) where
  -- another list of the slot
  pub put-other-list : Apart records k → (lists : List ℕ) (slot n : ℕ) (rs : List ReadRecord) → n + length rs ≤ most_records
      → list_at f k (put_records lists slot n rs) slot m ≡ list_at f k lists slot m
  unfolding put_records
  put-other-list d lists slot n [] h = refl
  put-other-list d lists slot n (r ∷ rs) h =
      put-other-list d (stored records lists slot n (r.row ∷ r.ptr ∷ r.xmin ∷ [])) slot (n + 1) rs (omega arith)
      ∙ other-list f records k lists slot n m (r.row ∷ r.ptr ∷ r.xmin ∷ []) refl (omega arith) hm d

  -- a list of another slot
  pub put-other-slot : Within k → (u : ℕ) (lists : List ℕ) (slot n : ℕ) (rs : List ReadRecord) → u ≢ slot → n + length rs ≤ most_records
      → list_at f k (put_records lists slot n rs) u m ≡ list_at f k lists u m
  unfolding put_records
  put-other-slot w u lists slot n [] d h = refl
  put-other-slot w u lists slot n (r ∷ rs) d h =
      put-other-slot w u (stored records lists slot n (r.row ∷ r.ptr ∷ r.xmin ∷ [])) slot (n + 1) rs d (omega arith)
      ∙ other-slot f records k lists slot n m (r.row ∷ r.ptr ∷ r.xmin ∷ []) refl (omega arith) hm (omega arith) w u d
