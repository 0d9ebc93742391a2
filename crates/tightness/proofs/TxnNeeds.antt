-- Wrong bodies of the crate `txn_needs`.
-- Assumes nothing.
use Prim.Native.Nat.{ℕ, ◌+◌, ◌-◌, ◌%◌, min}
use mathlib.Core.Path.{refl}
use mathlib.Core.Bool.{Bool, true, false, cond, not, ◌||◌}
use mathlib.Core.List.{List, [], ◌∷◌, map}
use lib.Dec.{eqb, leb}
use lib.ListN.{length, get_or, set, take, replicate}
use Rattle.base_limits.specs.Limits.{most_writes}
use Rattle.base_lists.specs.Lists.{some_of, all_of, join}
use Rattle.model.specs.Store as model
use Rattle.table.specs.Fields as fields
use Rattle.table.specs.Lists.{reads_of, writes as pending}
use Rattle.table.specs.declared.lists.IndexRead.{IndexRead}
use Rattle.table_scans.specs.Scans.{first_place}
use Rattle.txn.specs.Methods.{with_phase, with_reads, with_writes, taken_by}
use Rattle.txn.specs.declared.Phase.{Phase}
use Rattle.txn.specs.declared.Phase.TheVariants as phase
use Rattle.txn.specs.declared.Transaction.{Transaction}
use Rattle.txn_needs.specs.declared.Key.{Key}
use Rattle.txn_needs.specs.Keys as keys
use Rattle.txn_needs.specs.Keys.{key_of, no_key, version_key, old_key_of, written_at, new_key_of, gets_version_of, keys_of, same_keys, changed_keys}
use Rattle.txn_needs.specs.Needs.{Listed, push_one, push_all, front, buckets_for, keys_need, reads_need, rows_written, written_by, writes_need, writes_change}
use Rattle.txn_needs.specs.Taken as spec
use Rattle.tightness.specs.Wrong.{Excludes}
use Rattle.tightness.proofs.Apart.{apart, bit, count}
use Rattle.tightness.proofs.Computes.{computes}
use Rattle.tightness.proofs.Table.{two}
use Rattle.tightness.proofs.Small.{live, starting, erases, headed, keyed_by, erased_by, twice}

-- row 0 of head 2 and claim 6, whose chain is version 2, of key 7, over version 1, of this key
abbrev row : List ℕ
row = 2 ∷ 6 ∷ 0 ∷ 0 ∷ 0 ∷ 0 ∷ []

abbrev chain : ℕ → List ℕ
chain key = 0 ∷ 0 ∷ 0 ∷ 0 ∷ 0 ∷ 0 ∷ 1 ∷ 2 ∷ 0 ∷ 1 ∷ key ∷ 0 ∷ 2 ∷ 0 ∷ 1 ∷ 1 ∷ 7 ∷ 9 ∷ []

abbrev keyed : Key → ℕ
keyed k = k.keyed

abbrev key : Key → ℕ
key k = k.key

-- what the contracts of the functions about keys ask for
abbrev key_of_version : List ℕ × ℕ → Key
key_of_version (versions, p) = version_key versions p

abbrev old_key : List ℕ × List ℕ × Bool × ℕ → Key
old_key (rows, versions, installed, r) = old_key_of rows versions installed r

abbrev new_key : List ℕ × ℕ × ℕ × ℕ → Key
new_key (lists, slot, n, r) = new_key_of lists slot n r

abbrev same_key : Key × Key → Bool
same_key (a, b) = model.same_key (key_of a) (key_of b)

-- `key_of_version`: pointer 0 is read like any other
pub key-of-version-0-read : Excludes key_of_version (λ (versions, p). record { keyed = fields.keyed_of versions p; key = fields.key_of versions p })
unfolding computes
key-of-version-0-read = apart (0 ∷ 0 ∷ 0 ∷ 1 ∷ 0 ∷ 0 ∷ [], 0) keyed refl

-- `key_of_version`: the payload for the key
pub key-of-version-payload : Excludes key_of_version
    (λ (versions, p). cond (eqb p 0) no_key (record { keyed = fields.keyed_of versions p; key = fields.payload_of versions p }))
unfolding computes
key-of-version-payload = apart (chain 6, 2) key refl

-- `old_key`: the head's, once installed too
pub old-key-head : Excludes old_key (λ (rows, versions, installed, r). old_key_of rows versions false r)
unfolding computes
old-key-head = apart (row, chain 6, true, 0) key refl

-- `old_key`: that of the version after the head, before the install too
pub old-key-after-head : Excludes old_key (λ (rows, versions, installed, r). old_key_of rows versions true r)
unfolding computes
old-key-after-head = apart (row, chain 6, false, 0) key refl

-- `new_key`: the row's first write, not its last
pub new-key-first : Excludes new_key (λ (lists, slot, n, r). written_at lists slot (first_place (rows_written lists slot (min n most_writes)) r))
unfolding computes
new-key-first = apart (twice, 0, 2, 0) key refl

-- `new_key`: the last write of all is not looked at
pub new-key-last-missed : Excludes new_key (λ (lists, slot, n, r). new_key (lists, slot, n - 1, r))
unfolding computes
new-key-last-missed = apart (twice, 0, 2, 0) key refl

-- `same-key`: no key is key 0
pub same-key-none-is-0 : Excludes same_key (λ (a, b). eqb a.key b.key)
unfolding computes
same-key-none-is-0 = apart (no_key, record { keyed = 1; key = 0 }) bit refl

-- `same-key`: any two keys are the same
pub same-key-any : Excludes same_key (λ (a, b). eqb a.keyed b.keyed)
unfolding computes
same-key-any = apart (record { keyed = 1; key = 6 }, record { keyed = 1; key = 7 }) bit refl

-- what the contracts of `headed_by` and `gets_version` ask for
abbrev headed_by : List ℕ × List ℕ × ℕ × ℕ → Bool
headed_by (rows, versions, number, r) = keys.headed_by rows versions number r

abbrev gets_version : List ℕ × List ℕ × List ℕ × ℕ × ℕ × ℕ → Bool
gets_version (rows, versions, lists, slot, n, r) = gets_version_of rows versions lists slot n r

-- `headed_by`: a row without a head is headed by 0
pub headed-by-no-head : Excludes headed_by (λ (rows, versions, number, r). eqb (fields.xmin_of versions (fields.head_of rows r)) number)
unfolding computes
headed-by-no-head = apart ([], [], 0, 0) bit refl

-- `headed_by`: whoever made the head
pub headed-by-anyone : Excludes headed_by (λ (rows, versions, number, r). leb 1 (fields.head_of rows r))
unfolding computes
headed-by-anyone = apart (row, chain 6, 5, 0) bit refl

-- `gets_version`: every pending row, an erase of an empty one too
pub gets-version-always : Excludes gets_version (λ (rows, versions, lists, slot, n, r). true)
unfolding computes
gets-version-always = apart ([], [], erases, 0, 1, 0) bit refl

-- `gets_version`: an erase never, not even of a live row
pub gets-version-puts-only : Excludes gets_version (λ (rows, versions, lists, slot, n, r). not (eqb (new_key_of lists slot n r).keyed 0))
unfolding computes
gets-version-puts-only = apart (row, chain 6, erases, 0, 1, 0) bit refl

-- `gets_version`: an erased head is live
pub gets-version-any-head : Excludes gets_version
    (λ (rows, versions, lists, slot, n, r). leb 1 (fields.head_of rows r) || not (eqb (new_key_of lists slot n r).keyed 0))
unfolding computes
gets-version-any-head = apart (headed, erased_by 3, erases, 0, 1, 0) bit refl

-- `gets_version`: a live row is judged by the version under its head
pub gets-version-under-head : Excludes gets_version
    (λ (rows, versions, lists, slot, n, r). not (eqb (old_key_of rows versions true r).keyed 0) || not (eqb (new_key_of lists slot n r).keyed 0))
unfolding computes
gets-version-under-head = apart (headed, keyed_by 3, erases, 0, 1, 0) bit refl

-- what the contracts of `new` and `as_slice` of a listing ask for
abbrev new : List ℕ → Listed
new out = record { out = out; n = 0 }

abbrev as_slice : Listed → List ℕ
as_slice l = front l

-- the first of some words
abbrev word₀ : List ℕ → ℕ
word₀ xs = get_or xs 0 0

-- `new`: every word counts as listed
pub new-all-listed : Excludes new (λ out. record { out = out; n = length out })
new-all-listed = apart (7 ∷ []) count refl

-- `new`: the lent words become 0
pub new-words-cleared : Excludes new (λ out. record { out = replicate (length out) 0; n = 0 })
new-words-cleared = apart (7 ∷ []) (λ (l : Listed). word₀ l.out) refl

-- `as_slice`: every lent word, and not only those listed
pub as-slice-all-words : Excludes as_slice (λ l. l.out)
as-slice-all-words = apart (record { out = 7 ∷ []; n = 0 }) word₀ refl

-- `as_slice`: the last that is listed is left out
pub as-slice-last-missed : Excludes as_slice (λ l. front (record { out = l.out; n = l.n - 1 }))
as-slice-last-missed = apart (record { out = 7 ∷ []; n = 1 }) word₀ refl

-- numbers put behind the first n of a list
abbrev pushed : List ℕ → ℕ → List ℕ → Listed
pushed out n xs = push_all (record { out = out; n = n }) xs

-- what the contracts of `push` and its kin ask for
abbrev push : List ℕ × ℕ × ℕ → Listed
push (out, n, x) = push_one (record { out = out; n = n }) x

abbrev push_key : List ℕ × ℕ × ℕ × Key → Listed
push_key (out, n, buckets, k) = pushed out n (buckets_for buckets k)

abbrev push_reads : List ℕ × Transaction × List ℕ × ℕ → Listed
push_reads (lists, t, out, n) = pushed out n (reads_need lists t)

abbrev push_writes : List ℕ × List ℕ × List ℕ × ℕ × Transaction × List ℕ × ℕ → Listed
push_writes (rows, versions, lists, buckets, t, out, n) = pushed out n (writes_need rows versions lists buckets t)

abbrev push_changes : List ℕ × List ℕ × List ℕ × ℕ × Transaction × List ℕ → Listed
push_changes (rows, versions, lists, buckets, t, out) = pushed out 0 (writes_change rows versions lists buckets t)

-- a transaction of this number and phase, with so many pending writes
abbrev writes : ℕ → ℕ → Phase → Transaction
writes number n ph = with_writes (live number ph) n

-- room for four
abbrev room : List ℕ
room = 0 ∷ 0 ∷ 0 ∷ 0 ∷ []

-- the first number that is listed
abbrev listed₀ : Listed → ℕ
listed₀ l = get_or l.out 0 0

-- `push`: the number is stored, but not counted
pub push-uncounted : Excludes push (λ (out, n, x). record { out = set out n x; n = n })
unfolding computes
push-uncounted = apart (0 ∷ [], 0, 7) count refl

-- `push`: counted though there is no room
pub push-no-room : Excludes push (λ (out, n, x). record { out = set out n x; n = n + 1 })
unfolding computes
push-no-room = apart ([], 0, 7) count refl

-- `push_key`: no key needs bucket 0
pub push-key-none : Excludes push_key (λ (out, n, buckets, k). pushed out n ((k.key % buckets) ∷ []))
unfolding computes
push-key-none = apart (0 ∷ [], 0, 4, no_key) count refl

-- `push_key`: the key itself, not its bucket
pub push-key-itself : Excludes push_key (λ (out, n, buckets, k). pushed out n (cond (eqb k.keyed 0) [] (k.key ∷ [])))
unfolding computes
push-key-itself = apart (0 ∷ [], 0, 4, record { keyed = 1; key = 5 }) listed₀ refl

-- `push_reads`: the stamps, not the buckets
pub push-reads-stamps : Excludes push_reads
    (λ (lists, t, out, n). pushed out n (map (λ (r : IndexRead). r.stamp) (reads_of lists t.slot t.reads_n)))
unfolding computes
push-reads-stamps = apart (1 ∷ 4 ∷ [], with_reads (live 1 phase.Open) 1, 0 ∷ [], 0) listed₀ refl

-- `push_reads`: the last index read is left out
pub push-reads-last-missed : Excludes push_reads (λ (lists, t, out, n). push_reads (lists, with_reads t (t.reads_n - 1), out, n))
unfolding computes
push-reads-last-missed = apart (1 ∷ 4 ∷ [], with_reads (live 1 phase.Open) 1, 0 ∷ [], 0) count refl

-- `push_writes`: the old key's bucket is not needed
pub push-writes-new-key-only : Excludes push_writes
    (λ (rows, versions, lists, buckets, t, out, n). pushed out n
    (join (λ r. buckets_for buckets (new_key_of lists t.slot t.writes_n r)) (written_by lists t)))
unfolding computes
push-writes-new-key-only = apart (row, chain 6, twice, 4, writes 2 2 phase.Installed, room, 0) count refl

-- `push_writes`: a write that keeps its key needs no bucket
pub push-writes-changed-only : Excludes push_writes
    (λ (rows, versions, lists, buckets, t, out, n). pushed out n (writes_change rows versions lists buckets t))
unfolding computes
push-writes-changed-only = apart (row, chain 7, twice, 4, writes 2 2 phase.Installed, room, 0) count refl

-- `push_writes`: the head's key is the old one, once installed too
pub push-writes-head-key : Excludes push_writes
    (λ (rows, versions, lists, buckets, t, out, n). push_writes (rows, versions, lists, buckets, with_phase t phase.Open, out, n))
unfolding computes
push-writes-head-key = apart (row, chain 6, twice, 4, writes 2 2 phase.Installed, room, 0) listed₀ refl

-- `push_changes`: a write that keeps its key changes its bucket
pub push-changes-kept-key-too : Excludes push_changes (λ (rows, versions, lists, buckets, t, out). push_writes (rows, versions, lists, buckets, t, out, 0))
unfolding computes
push-changes-kept-key-too = apart (row, chain 7, twice, 4, writes 2 2 phase.Ended, room) count refl

-- `push_changes`: the new key's bucket alone
pub push-changes-new-key-only : Excludes push_changes
    (λ (rows, versions, lists, buckets, t, out). pushed out 0
    (join (λ r. buckets_for buckets (changed_keys rows versions lists t r).new) (written_by lists t)))
unfolding computes
push-changes-new-key-only = apart (row, chain 6, twice, 4, writes 2 2 phase.Ended, room) count refl

-- `push_changes`: a row that got no version too
pub push-changes-unmade-too : Excludes push_changes
    (λ (rows, versions, lists, buckets, t, out). pushed out 0
    (join (λ r. let k = keys_of rows versions lists t r in cond (same_keys k) [] (keys_need buckets k)) (written_by lists t)))
unfolding computes
push-changes-unmade-too = apart (row, chain 6, erases, 4, writes 5 1 phase.Ended, room) count refl

-- what the contracts of `as_slice`, by which callers cut a list, and then of `any_taken` or `release_all` ask for together, of the first n words of the list
abbrev any_taken : List ℕ × List ℕ × ℕ × ℕ → Bool
any_taken (buckets, list, n, number) = spec.any_taken buckets (front (record { out = list; n = n })) number

abbrev release_all : List ℕ × List ℕ × ℕ × ℕ → List ℕ
release_all (buckets, list, n, number) = fields.clear_holders buckets number (front (record { out = list; n = n }))

-- what the contracts of `any_taken` and `release_all` ask for by themselves, of a whole slice
abbrev taken_slice : List ℕ × List ℕ × ℕ → Bool
taken_slice (buckets, list, number) = spec.any_taken buckets list number

abbrev release_slice : List ℕ × List ℕ × ℕ → List ℕ
release_slice (buckets, list, number) = fields.clear_holders buckets number list

-- who holds the second bucket
abbrev holder₁ : List ℕ → ℕ
holder₁ xs = get_or xs 3 0

-- `any_taken`: the number's own buckets count
pub any-taken-own : Excludes any_taken
    (λ (buckets, list, n, number). some_of (λ b. not (eqb (fields.holder_of buckets b) 0)) (front (record { out = list; n = n })))
unfolding computes
any-taken-own = apart (two, 1 ∷ [], 1, 5) bit refl

-- `any_taken`: buckets behind the first n count
pub any-taken-behind : Excludes any_taken (λ (buckets, list, n, number). spec.any_taken buckets list number)
unfolding computes
any-taken-behind = apart (two, 0 ∷ 1 ∷ [], 1, 6) bit refl

-- `release_all`: freed whoever holds them
pub release-all-of-others : Excludes release_all (λ (buckets, list, n, number). fields.set_holders buckets 0 (front (record { out = list; n = n })))
unfolding computes
release-all-of-others = apart (two, 1 ∷ [], 1, 6) holder₁ refl

-- `release_all`: nothing is freed
pub release-all-nothing : Excludes release_all (λ (buckets, list, n, number). buckets)
unfolding computes
release-all-nothing = apart (two, 1 ∷ [], 1, 5) holder₁ refl

-- `any_taken` of a slice: the number's own buckets count
pub any-taken-slice-own : Excludes taken_slice (λ (buckets, list, number). some_of (λ b. not (eqb (fields.holder_of buckets b) 0)) list)
unfolding computes
any-taken-slice-own = apart (two, 1 ∷ [], 5) bit refl

-- `any_taken` of a slice: only the first bucket is looked at
pub any-taken-slice-first : Excludes taken_slice (λ (buckets, list, number). spec.any_taken buckets (take 1 list) number)
unfolding computes
any-taken-slice-first = apart (two, 0 ∷ 1 ∷ [], 6) bit refl

-- `release_all` of a slice: freed whoever holds them
pub release-all-slice-of-others : Excludes release_slice (λ (buckets, list, number). fields.set_holders buckets 0 list)
unfolding computes
release-all-slice-of-others = apart (two, 1 ∷ [], 6) holder₁ refl

-- `release_all` of a slice: only the first bucket is freed
pub release-all-slice-first : Excludes release_slice (λ (buckets, list, number). fields.clear_holders buckets number (take 1 list))
unfolding computes
release-all-slice-first = apart (two, 0 ∷ 1 ∷ [], 5) holder₁ refl

-- what the contracts of the functions over the pending rows ask for
abbrev any_claimed : List ℕ × List ℕ × Transaction → Bool
any_claimed (rows, lists, t) = spec.any_claimed rows lists t

abbrev claim_all : List ℕ × List ℕ × Transaction → List ℕ
claim_all (rows, lists, t) = fields.set_claims rows t.number (written_by lists t)

abbrev unclaim_all : List ℕ × List ℕ × Transaction → List ℕ
unclaim_all (rows, lists, t) = fields.clear_claims rows t.number (written_by lists t)

abbrev claim₀ : List ℕ → ℕ
claim₀ xs = get_or xs 1 0

-- `any_claimed`: the number's own rows count
pub any-claimed-own : Excludes any_claimed (λ (rows, lists, t). some_of (λ r. not (eqb (fields.claim_of rows r) 0)) (written_by lists t))
unfolding computes
any-claimed-own = apart (row, twice, writes 6 1 phase.Open) bit refl

-- `any_claimed`: only if every row is
pub any-claimed-all : Excludes any_claimed (λ (rows, lists, t). all_of (λ r. taken_by (fields.claim_of rows r) t.number) (written_by lists t))
unfolding computes
any-claimed-all = apart (row, starting pending (0 ∷ 1 ∷ 6 ∷ 9 ∷ 1 ∷ 1 ∷ 7 ∷ 9 ∷ []), writes 5 2 phase.Open) bit refl

-- `claim_all`: the last pending row is left out
pub claim-all-last-missed : Excludes claim_all (λ (rows, lists, t). claim_all (rows, lists, with_writes t (t.writes_n - 1)))
unfolding computes
claim-all-last-missed = apart (row, twice, writes 5 1 phase.Open) claim₀ refl

-- `claim_all`: the claims are freed
pub claim-all-frees : Excludes claim_all (λ (rows, lists, t). fields.set_claims rows 0 (written_by lists t))
unfolding computes
claim-all-frees = apart (row, twice, writes 5 1 phase.Open) claim₀ refl

-- `unclaim_all`: freed whoever claimed them
pub unclaim-all-of-others : Excludes unclaim_all (λ (rows, lists, t). fields.set_claims rows 0 (written_by lists t))
unfolding computes
unclaim-all-of-others = apart (row, twice, writes 5 1 phase.Open) claim₀ refl

-- `unclaim_all`: nothing is freed
pub unclaim-all-nothing : Excludes unclaim_all (λ (rows, lists, t). rows)
unfolding computes
unclaim-all-nothing = apart (row, twice, writes 6 1 phase.Open) claim₀ refl
