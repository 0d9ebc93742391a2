-- What the inner functions do: cited by their contracts, and by no caller's.
use Rattle.std.specs.Prelude.{ℕ, suc, ◌+◌, cond, ◌||◌, List, [], ◌∷◌, eqb}
use Rattle.base_lists.specs.Lists.{member}
use Rattle.table.specs.Fields.{xmin_of}
use Rattle.table.specs.Lists.{records, stored}

-- a pointer, or 0 where it is known or stands before
abbrev pub new_pointer : List ℕ → List ℕ → ℕ → ℕ
new_pointer known before p = cond (member p known || member p before) 0 p

-- how many of the pointers are not 0
unfoldable pub count_of : List ℕ → ℕ
count_of [] = 0
count_of (p ∷ ps) = cond (eqb p 0) (count_of ps) (suc (count_of ps))

-- the lists, and where the next read record goes
pub record Behind : Type 0 where
  pub at : ℕ
  pub lists : List ℕ

-- one read record stored
abbrev pub add_record : List ℕ → Behind → ℕ → ℕ → ℕ → Behind
add_record versions st slot row ptr =
    cond (eqb ptr 0) st (record { at = st.at + 1; lists = stored records st.lists slot st.at (row ∷ ptr ∷ xmin_of versions ptr ∷ []) })
