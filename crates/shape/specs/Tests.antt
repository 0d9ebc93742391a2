-- The tests of the eight records as the code makes them.
use Rattle.std.specs.Prelude.{ℕ, ◌+◌, Bool, not, ◌&&◌, ◌||◌, List, eqb, leb, get_or}
use Rattle.base_limits.specs.Limits.{most_live, last_number}
use Rattle.base_lists.specs.Lists.{every}
use Rattle.base_protocol.specs.declared.Extent.{Extent}
use Rattle.txn.specs.Methods.{idle_of}
use Rattle.txn.specs.declared.Transaction.{Transaction}
use Rattle.txn_needs.specs.Versions.{reserved_in}
use Rattle.txn_places.specs.Places.{live_in}
use Rattle.txn_places.specs.declared.Others.{Others}
use Rattle.shape_txn.specs.TxnShape.{place_fits}

-- each record has its shape, or its place is free
abbrev pub txns_fit : List ℕ → List ℕ → List ℕ → Extent → List Transaction → Bool
txns_fit rows versions lists e ts = every most_live (λ i. place_fits rows versions lists e (get_or ts i (idle_of i)))

-- live numbers distinct: none stands at an earlier place
abbrev pub unlike : List ℕ → ℕ → ℕ → Bool
unlike numbers n x = every n (λ j. not (eqb x (get_or numbers j 0)))

abbrev pub distinct_at : List ℕ → ℕ → Bool
distinct_at numbers i = eqb (get_or numbers i 0) 0 || unlike numbers i (get_or numbers i 0)

abbrev pub all_distinct : List ℕ → Bool
all_distinct numbers = every most_live (distinct_at numbers)

-- and the numbers and the versions last for what is live
abbrev pub numbers_fit : List ℕ → List ℕ → List ℕ → Extent → Others → Bool
numbers_fit rows versions lists e o =
    all_distinct o.numbers
    && leb (e.clock + live_in o.numbers) last_number
    && leb (e.used + reserved_in rows versions lists o.prepared most_live) e.sizes.versions
