-- A transaction by itself: its accepted steps over rows whose content stays, and when other rows give the same. Assumes nothing.
use mathlib.Core.Path.{◌≡◌, refl, sym, ap, ◌∙◌}
use mathlib.Core.Bool.{Bool, true, false, cond, ◌||◌}
use mathlib.Core.Logic.{◌⊎◌, inl}
use mathlib.Core.Option.{Option, none, some}
use mathlib.Core.List.{List, [], ◌∷◌, ◌++◌, map}
use Prim.Native.Nat.{ℕ, ◌≤◌, ◌<◌, min}
use native.Mathlib.Omega.{arith}
use lib.ListN.{length}
use Rattle.base_limits.specs.Limits.{most_rows, most_index_reads, most_records, most_writes}
use Rattle.base_lists.specs.Lists.{member, pick, Among}
use Rattle.base_lists.proofs.ListLaws.{same_test, among-left, among-right, pick_same, map-pick}
use Rattle.model.specs.Store.{Sizes, Phase, Open, Holding, Collected, Prepared, Installed, Ended, Write, same_key, bucket_of}
use Rattle.model.specs.Seeing.{last_write, pending, written_key}
use Rattle.model.specs.Steps.{written_payload}
use Rattle.model.specs.Contents.{Content, content, pending_write}
use Rattle.model.specs.Refusals.{Step, begin, capture, collect, rows, write, prepare, install, end, validate}
use Rattle.model_in_turn.specs.Done.{Entry}

-- the key of a content
abbrev pub content_key : Content → Option ℕ
content_key none = none
content_key (some q) = some q.0

pub key-content : (o : Option ℕ) (payload : ℕ) → content_key (content o payload) ≡ o
key-content none payload = refl
key-content (some k) payload = refl

-- a content carries a key
unfoldable pub carries : Content → ℕ → Bool
carries m k = same_key (content_key m) (some k)

-- what a row shows under pending writes, the rows of a key, and what a read of it returns
unfoldable pub shown_in : (ℕ → Content) → List Write → ℕ → Content
shown_in m ws r = cond (pending ws r) (content (written_key (last_write ws r)) (written_payload (last_write ws r))) (m r)

unfoldable pub rows_in : Sizes → (ℕ → Content) → List Write → ℕ → List ℕ
rows_in z m ws k = pick (λ r. carries (shown_in m ws r) k) 0 z.rows

unfoldable pub read_in : Sizes → (ℕ → Content) → List Write → ℕ → List (ℕ × Content)
read_in z m ws k = map (λ r. (r, shown_in m ws r)) (rows_in z m ws k)

-- the rows recorded: those found through a version, each once
unfoldable pub record_rows : List Write → List ℕ → List ℕ → List ℕ
record_rows ws rs [] = rs
record_rows ws rs (r ∷ more) = record_rows ws (cond (pending ws r || member r rs) rs (rs ++ (r ∷ []))) more

-- the buckets captured, each once
unfoldable pub add_bucket : List ℕ → ℕ → List ℕ
add_bucket bs b = cond (member b bs) bs (bs ++ (b ∷ []))

-- a transaction by itself; `done` are its finished reads, each a key with the writes that were pending then
pub record Local : Type 0 where
  pub phase : Phase
  pub buckets : List ℕ
  pub writes : List Write
  pub records : List ℕ
  pub done : List (ℕ × List Write)

-- at its begin; in another phase; with a write more
abbrev pub started : Local
started = record { phase = Open; buckets = []; writes = []; records = []; done = [] }

abbrev pub phased : Local → Phase → Local
phased x ph = record { phase = ph; buckets = x.buckets; writes = x.writes; records = x.records; done = x.done }

abbrev pub writing : Local → Write → Local
writing x w = record { phase = x.phase; buckets = x.buckets; writes = x.writes ++ (w ∷ []); records = x.records; done = x.done }

-- one accepted step of number n over rows of content m: what it reads, and what it leaves
pub data Plays (z : Sizes) (m : ℕ → Content) (n : ℕ) (x : Local) : Step → List (ℕ × Content) → Local → Type 0 where
  plays-capture : (k : ℕ) → x.phase ≡ Open → (member (bucket_of z k) x.buckets ≡ true) ⊎ (length x.buckets < most_index_reads)
      → Plays z m n x (capture n k) []
      (record {
        phase = Holding (bucket_of z k) k;
        buckets = add_bucket x.buckets (bucket_of z k);
        writes = x.writes;
        records = x.records;
        done = x.done;
      })
  plays-collect : (b k : ℕ) → x.phase ≡ Holding b k → Plays z m n x (collect n) [] (phased x (Collected k))
  plays-rows : (room k : ℕ) (rs : List ℕ) (read : List (ℕ × Content)) → x.phase ≡ Collected k → rs ≡ rows_in z m x.writes k → read ≡ read_in z m x.writes k
      → length rs ≤ min room most_rows → length (record_rows x.writes x.records rs) ≤ most_records
      → Plays z m n x (rows n room) read
      (record {
        phase = Open;
        buckets = x.buckets;
        writes = x.writes;
        records = record_rows x.writes x.records rs;
        done = x.done ++ ((k, x.writes) ∷ []);
      })
  plays-write : (r : ℕ) (c : Content) → x.phase ≡ Open → r < z.rows → length x.writes < most_writes
      → Plays z m n x (write n r c) [] (writing x (pending_write r c))
  plays-validate : x.phase ≡ Open → Plays z m n x (validate n) [] x
  plays-prepare : x.phase ≡ Open → Plays z m n x (prepare n) [] (phased x Prepared)
  plays-install : x.phase ≡ Prepared → Plays z m n x (install n) [] (phased x Installed)
  plays-end : x.phase ≡ Installed → Plays z m n x (end n) [] (phased x Ended)

-- all accepted steps of number n, from its begin on
pub data Played (z : Sizes) (m : ℕ → Content) (n : ℕ) : List Entry → Local → Type 0 where
  begins : Played z m n (record { who = n; what = begin; read = [] } ∷ []) started
  then : {es : List Entry} {x y : Local} {a : Step} {read : List (ℕ × Content)} → Played z m n es x → Plays z m n x a read y
      → Played z m n (es ++ (record { who = n; what = a; read = read } ∷ [])) y

-- two contents are the same wherever one of them carries the key
abbrev pub SameOn : ℕ → Content → Content → Type 0
SameOn k a b = (carries a k ≡ true → b ≡ a) × (carries b k ≡ true → b ≡ a)

-- the contents agree for every finished read, on the rows that had no pending write
abbrev pub Agreeing : Sizes → (ℕ → Content) → (ℕ → Content) → Local → Type 0
Agreeing z m m' x = (q : ℕ × List Write) → Among q x.done → (r : ℕ) → r < z.rows → pending q.1 r ≡ false → SameOn q.0 (m r) (m' r)

-- finished reads stay
done-kept : (z : Sizes) (m : ℕ → Content) (n : ℕ) (x y : Local) (a : Step) (read : List (ℕ × Content)) → Plays z m n x a read y → (q : ℕ × List Write)
    → Among q x.done → Among q y.done
done-kept z m n x y a read (plays-capture k p o) q i = i
done-kept z m n x y a read (plays-collect b k p) q i = i
done-kept z m n x y a read (plays-rows room k rs e p f g u v) q i = among-left q x.done _ i
done-kept z m n x y a read (plays-write r c p u v) q i = i
done-kept z m n x y a read (plays-validate p) q i = i
done-kept z m n x y a read (plays-prepare p) q i = i
done-kept z m n x y a read (plays-install p) q i = i
done-kept z m n x y a read (plays-end p) q i = i

module _ (z : Sizes) (m m' : ℕ → Content) (ws : List Write) (k : ℕ) (same : (r : ℕ) → r < z.rows → pending ws r ≡ false → SameOn k (m r) (m' r)) where
  test-same : (r : ℕ) → r < z.rows → carries (shown_in m ws r) k ≡ carries (shown_in m' ws r) k
  unfolding shown_in
  test-same r u = go (pending ws r) refl
    where
      go : (b : Bool) → pending ws r ≡ b → carries (cond b (content (written_key (last_write ws r)) (written_payload (last_write ws r))) (m r)) k
          ≡ carries (cond b (content (written_key (last_write ws r)) (written_payload (last_write ws r))) (m' r)) k
      go true p = refl
      go false p = let s = same r u p in same_test _ _ (λ e. ap (λ c. carries c k) (s.0 e) ∙ e) (λ e. ap (λ c. carries c k) (sym (s.1 e)) ∙ e)

  shown-same : (r : ℕ) → r < z.rows → carries (shown_in m' ws r) k ≡ true → shown_in m ws r ≡ shown_in m' ws r
  unfolding shown_in
  shown-same r u = go (pending ws r) refl
    where
      go : (b : Bool) → pending ws r ≡ b → carries (cond b (content (written_key (last_write ws r)) (written_payload (last_write ws r))) (m' r)) k ≡ true
          → cond b (content (written_key (last_write ws r)) (written_payload (last_write ws r))) (m r)
          ≡ cond b (content (written_key (last_write ws r)) (written_payload (last_write ws r))) (m' r)
      go true p e = refl
      go false p e = sym ((same r u p).1 e)

  pub rows_same : rows_in z m ws k ≡ rows_in z m' ws k
  unfolding rows_in
  rows_same = pick_same _ _ 0 z.rows (λ r lo hi. test-same r (omega arith))

  pub reads_same : read_in z m ws k ≡ read_in z m' ws k
  unfolding read_in rows_in
  reads_same = map-pick (λ r. (r, shown_in m ws r)) (λ r. (r, shown_in m' ws r)) _ _ 0 z.rows (λ r lo hi. test-same r (omega arith))
      (λ r lo hi e. ap (λ c. (r, c)) (shown-same r (omega arith) e))

-- over rows that agree for its reads, a transaction does the same
plays-switch : (z : Sizes) (m m' : ℕ → Content) (n : ℕ) (x y : Local) (a : Step) (read : List (ℕ × Content)) → Agreeing z m m' y → Plays z m n x a read y
    → Plays z m' n x a read y
plays-switch z m m' n x y a read h (plays-capture k p o) = plays-capture k p o
plays-switch z m m' n x y a read h (plays-collect b k p) = plays-collect b k p
plays-switch z m m' n x y a read h (plays-rows room k rs e p f g u v) =
    let same = h (k, x.writes) (among-right (k, x.writes) x.done _ (inl refl)) in
    plays-rows room k rs e p (f ∙ rows_same z m m' x.writes k same) (g ∙ reads_same z m m' x.writes k same) u v
plays-switch z m m' n x y a read h (plays-write r c p u v) = plays-write r c p u v
plays-switch z m m' n x y a read h (plays-validate p) = plays-validate p
plays-switch z m m' n x y a read h (plays-prepare p) = plays-prepare p
plays-switch z m m' n x y a read h (plays-install p) = plays-install p
plays-switch z m m' n x y a read h (plays-end p) = plays-end p

pub played-switch : (z : Sizes) (m m' : ℕ → Content) (n : ℕ) (es : List Entry) (x : Local) → Agreeing z m m' x → Played z m n es x → Played z m' n es x
played-switch z m m' n es x h begins = begins
played-switch z m m' n es y h (then {x = x} d p) =
    then (played-switch z m m' n _ x (λ q i. h q (done-kept z m n x y _ _ p q i)) d) (plays-switch z m m' n x y _ _ h p)
