-- Each name of a table's word is that of the field which the tables have under it.
-- Assumes nothing.
use Prim.Native.Nat.{ℕ, ◌+◌, ◌*◌, ◌≤◌, ◌<◌}
use mathlib.Core.Path.{◌≡◌}
use mathlib.Core.List.{List}
use Rattle.std.specs.Prelude.{Some}
use native.Mathlib.Nat.{mul-le-mul_right}
use native.Mathlib.Omega.{arith}
use borrow.Author.Tests.{lt-ltb}
use lib.ListN.{length}
use Rattle.run_script.specs.Names.{named}
use Rattle.table.specs.Words.{field}
use Rattle.table.specs.Fields.{
  row_words,
  version_words,
  bucket_words,
  head_of,
  claim_of,
  posted_of,
  posted_key_of,
  later_of,
  first_of,
  xmin_of,
  xmax_of,
  next_of,
  keyed_of,
}
use Rattle.table.specs.Fields.{key_of, payload_of, stamp_of, holder_of}
use Rattle.run_changes.specs.WordNames.{names}
use Rattle.run_changes.specs.Changes.{State, entry_place, seen_in, look_of}

-- a field that is in the table is seen
field-seen : (ws : List ℕ) (w f i : ℕ) → 1 ≤ w → w * i + f < length ws → seen_in ws (entry_place (length ws) w f i) ≡ Some (field w f ws i)
unfolding field
field-seen ws w f i h l = let below : i < length ws = omega (arith, mul-le-mul_right {m = 1} {n = w} i h) in
    rw (lt-ltb i (length ws) below, lt-ltb (w * i + f) (length ws) l)

module _ (s : State) (i b : ℕ) where
  pub head-named : row_words * i + 0 < length s.rows → look_of s (record { name = named "head"; a = i; b = b }) ≡ Some (head_of s.rows i)
  unfolding names
  head-named h = field-seen s.rows row_words 0 i (omega arith) h

  pub claim-named : row_words * i + 1 < length s.rows → look_of s (record { name = named "claim"; a = i; b = b }) ≡ Some (claim_of s.rows i)
  unfolding names
  claim-named h = field-seen s.rows row_words 1 i (omega arith) h

  pub posted-named : row_words * i + 2 < length s.rows → look_of s (record { name = named "posted"; a = i; b = b }) ≡ Some (posted_of s.rows i)
  unfolding names
  posted-named h = field-seen s.rows row_words 2 i (omega arith) h

  pub postkey-named : row_words * i + 3 < length s.rows → look_of s (record { name = named "postkey"; a = i; b = b }) ≡ Some (posted_key_of s.rows i)
  unfolding names
  postkey-named h = field-seen s.rows row_words 3 i (omega arith) h

  pub later-named : row_words * i + 4 < length s.rows → look_of s (record { name = named "later"; a = i; b = b }) ≡ Some (later_of s.rows i)
  unfolding names
  later-named h = field-seen s.rows row_words 4 i (omega arith) h

  pub first-named : row_words * i + 5 < length s.rows → look_of s (record { name = named "first"; a = i; b = b }) ≡ Some (first_of s.rows i)
  unfolding names
  first-named h = field-seen s.rows row_words 5 i (omega arith) h

  pub xmin-named : version_words * i + 0 < length s.versions → look_of s (record { name = named "xmin"; a = i; b = b }) ≡ Some (xmin_of s.versions i)
  unfolding names
  xmin-named h = field-seen s.versions version_words 0 i (omega arith) h

  pub xmax-named : version_words * i + 1 < length s.versions → look_of s (record { name = named "xmax"; a = i; b = b }) ≡ Some (xmax_of s.versions i)
  unfolding names
  xmax-named h = field-seen s.versions version_words 1 i (omega arith) h

  pub next-named : version_words * i + 2 < length s.versions → look_of s (record { name = named "next"; a = i; b = b }) ≡ Some (next_of s.versions i)
  unfolding names
  next-named h = field-seen s.versions version_words 2 i (omega arith) h

  pub keyed-named : version_words * i + 3 < length s.versions → look_of s (record { name = named "keyed"; a = i; b = b }) ≡ Some (keyed_of s.versions i)
  unfolding names
  keyed-named h = field-seen s.versions version_words 3 i (omega arith) h

  pub key-named : version_words * i + 4 < length s.versions → look_of s (record { name = named "key"; a = i; b = b }) ≡ Some (key_of s.versions i)
  unfolding names
  key-named h = field-seen s.versions version_words 4 i (omega arith) h

  pub payload-named : version_words * i + 5 < length s.versions
      → look_of s (record { name = named "payload"; a = i; b = b }) ≡ Some (payload_of s.versions i)
  unfolding names
  payload-named h = field-seen s.versions version_words 5 i (omega arith) h

  pub stamp-named : bucket_words * i + 0 < length s.buckets → look_of s (record { name = named "stamp"; a = i; b = b }) ≡ Some (stamp_of s.buckets i)
  unfolding names
  stamp-named h = field-seen s.buckets bucket_words 0 i (omega arith) h

  pub holder-named : bucket_words * i + 1 < length s.buckets → look_of s (record { name = named "holder"; a = i; b = b }) ≡ Some (holder_of s.buckets i)
  unfolding names
  holder-named h = field-seen s.buckets bucket_words 1 i (omega arith) h
