-- Rows kept one behind the other: cited by the contracts of the inner functions, and by no caller's.
use Rattle.std.specs.Prelude.{ℕ, ◌+◌, List, length}
use Rattle.std.proofs.lemmas.List.Edits.{sets}
use Rattle.table.specs.Lists.{candidates, place_of}

-- how many were kept, and the lists
pub record Kept : Type 0 where
  pub n : ℕ
  pub lists : List ℕ

-- rows kept behind those kept before them
abbrev pub keep_all : ℕ → List ℕ → Kept → Kept
keep_all slot rs st = record { n = st.n + length rs; lists = sets st.lists (place_of candidates slot st.n) rs }
