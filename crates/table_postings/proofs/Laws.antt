-- What a turn of the walk over a list keeps, and the link behind a place.
-- Assumes nothing.
use Prim.Native.Nat.{ℕ, zero, suc, ◌+◌, ◌-◌, ◌≤◌, ◌<◌}
use mathlib.Core.Path.{◌≡◌, refl, sym, ap}
use mathlib.Core.List.{List, [], ◌∷◌, ◌++◌}
use mathlib.Core.Bool.{Bool, true, false, cond}
use mathlib.Core.Logic.{◌≢◌}
use native.Mathlib.Nat.{add-zero, zero-add}
use native.Mathlib.Omega.{arith}
use lib.ListN.{length, length-append}
use Rattle.table.specs.Fields.{later_of, set_later, first_of, set_first}
use Rattle.table.specs.Lists.{candidates, place_of}
use Rattle.table_postings.specs.Postings.{posted_with, follow, keyed_of, kept_in}
use Rattle.table_postings.specs.Links.{link_at, set_link, last_place}
use Rattle.table_postings.specs.Keeping.{Kept, keep_all}
use Rattle.table.proofs.Runs.{sets-append}
use Rattle.table_postings.proofs.Following.{follow-back, follow-past, follow-next}

-- rows kept, and then others behind them
keep-pieces : (slot : ℕ) (us vs : List ℕ) (st : Kept) → keep_all slot vs (keep_all slot us st) ≡ keep_all slot (us ++ vs) st
keep-pieces slot us vs st =
    let at : place_of candidates slot (st.n + length us) ≡ place_of candidates slot st.n + length us = omega arith in
    let n : st.n + length us + length vs ≡ st.n + (length us + length vs) = omega arith in
    rw (length-append, sets-append, ← at, n)

-- of a list those posted with the key: the first, where it is, and those of the rest
keyed-next : (rows : List ℕ) (key r : ℕ) (rs : List ℕ)
    → keyed_of rows key (r ∷ rs) ≡ cond (posted_with rows key r) (r ∷ []) [] ++ keyed_of rows key rs
unfolding keyed_of
keyed-next rows key r rs = by (posted_with rows key r)
  where
    by : (t : Bool) → cond t (r ∷ keyed_of rows key rs) (keyed_of rows key rs) ≡ cond t (r ∷ []) [] ++ keyed_of rows key rs
    by true = refl
    by false = refl

-- what a link leads to, of the rows from a place up to most, posted with the key
abbrev pub left_of : List ℕ → ℕ → ℕ → ℕ → ℕ → List ℕ
left_of rows key link place most = keyed_of rows key (follow rows link place (most - place))

module _ (rows : List ℕ) (key slot link place most : ℕ) (st : Kept) where
  -- a turn: the row that the link names is kept where it is posted with the key, and then what its own link leads to
  pub keep-turn : (after : Kept) (posted : Bool) → place < link → link ≤ most → posted ≡ posted_with rows key (link - 1)
      → after ≡ keep_all slot (cond posted ((link - 1) ∷ []) []) st
      → keep_all slot (left_of rows key link place most) st ≡ keep_all slot (left_of rows key (later_of rows (link - 1)) link most) after
  keep-turn after posted h u p e =
      let rest : place + (most - place) - link ≡ most - link = omega arith in
      rw (follow-next rows link place (most - place) h (omega arith), rest, keyed-next, ← p, e)
      (sym (keep-pieces slot (cond posted ((link - 1) ∷ []) []) (left_of rows key (later_of rows (link - 1)) link most) st))

  -- the end of the list: its link leads back, or past the rows
  pub keep-back : link ≤ place → keep_all slot (left_of rows key link place most) st ≡ st
  unfolding keyed_of
  keep-back h = rw (follow-back rows link place (most - place) h, add-zero)

  pub keep-past : place ≤ most → most < link → keep_all slot (left_of rows key link place most) st ≡ st
  unfolding keyed_of
  keep-past l h = rw (follow-past rows link place (most - place) (omega arith), add-zero)

-- a turn keeps one row at most
pub keep-few : (slot r : ℕ) (posted : Bool) (before after : Kept) → after ≡ keep_all slot (cond posted (r ∷ []) []) before → after.n ≤ before.n + 1
keep-few slot r true before after e = rw e (omega arith)
keep-few slot r false before after e = rw e (omega arith)

-- all that was kept, as the contract has it
pub kept-all : (rows : List ℕ) (key slot first most : ℕ) (lists : List ℕ) (st : Kept)
    → keep_all slot (left_of rows key first 0 most) (record { n = 0; lists = lists }) ≡ st
    → let rs = keyed_of rows key (follow rows first 0 most) in (st.n ≡ length rs) × (st.lists ≡ kept_in lists slot rs)
kept-all rows key slot first most lists st e =
    let whole : most - 0 ≡ most = omega arith in
    rw (← e, whole, zero-add) (refl, refl)

-- the link behind a place: the list's word before the first row, and a row's own behind it
pub link-first : (rows : List ℕ) (i p : ℕ) → p ≡ 0 → link_at rows i p ≡ first_of rows i
unfolding link_at
link-first rows i zero e = refl
link-first rows i (suc p) e = absurd (omega arith)

pub link-later : (rows : List ℕ) (i p : ℕ) → p ≢ 0 → link_at rows i p ≡ later_of rows (p - 1)
unfolding link_at
link-later rows i zero d = absurd (d refl)
link-later rows i (suc p) d = let e : suc p - 1 ≡ p = omega arith in rw e

-- the same, stored
pub set-link-first : (rows : List ℕ) (i p v : ℕ) → p ≡ 0 → set_link rows i p v ≡ set_first rows i v
unfolding set_link
set-link-first rows i zero v e = refl
set-link-first rows i (suc p) v e = absurd (omega arith)

pub set-link-later : (rows : List ℕ) (i p v : ℕ) → p ≢ 0 → set_link rows i p v ≡ set_later rows (p - 1) v
unfolding set_link
set-link-later rows i zero v d = absurd (d refl)
set-link-later rows i (suc p) v d = let e : suc p - 1 ≡ p = omega arith in rw e

-- the last place of what a link leads to, of the rows from a place up to most
abbrev pub last_of : List ℕ → ℕ → ℕ → ℕ → ℕ
last_of rows link place most = last_place place (follow rows link place (most - place))

module _ (rows : List ℕ) (link place most : ℕ) where
  -- a turn of the walk: the place of the row that the link names
  pub last_turn : place < link → link ≤ most → last_of rows link place most ≡ last_of rows (later_of rows (link - 1)) link most
  unfolding last_place
  last_turn h u =
      let rest : place + (most - place) - link ≡ most - link = omega arith in
      let at : suc (link - 1) ≡ link = omega arith in
      rw (follow-next rows link place (most - place) h (omega arith), rest)
      (ap (λ (p : ℕ). last_place p (follow rows (later_of rows (link - 1)) link (most - link))) at)

  pub last-back : link ≤ place → last_of rows link place most ≡ place
  unfolding last_place
  last-back h = rw (follow-back rows link place (most - place) h)

  pub last-past : place ≤ most → most < link → last_of rows link place most ≡ place
  unfolding last_place
  last-past l h = rw (follow-past rows link place (most - place) (omega arith))

-- the place that the walk comes to, as the contract has it
pub last-all : (rows : List ℕ) (first most place : ℕ) → last_of rows first 0 most ≡ place → place ≡ last_place 0 (follow rows first 0 most)
last-all rows first most place e = let whole : most - 0 ≡ most = omega arith in sym (rw (← e, whole))
