-- A followed transaction acts: each accepted step of its own is one that it takes by itself. Assumes nothing.
use mathlib.Core.Path.{◌≡◌, refl, sym, ap, ◌∙◌}
use mathlib.Core.Bool.{true, false}
use mathlib.Core.Logic.{◌⊎◌, ⊎_elim}
use mathlib.Core.Option.{some}
use mathlib.Core.List.{List, [], ◌∷◌, ◌++◌, map}
use Prim.Native.Nat.{ℕ, ◌≤◌, ◌<◌, min}
use native.Mathlib.Omega.{arith}
use lib.ListN.{length, length-map}
use Rattle.base_limits.specs.Limits.{most_rows, most_index_reads, most_records}
use Rattle.base_lists.specs.Lists.{member, Among}
use Rattle.base_lists.specs.Table.{update}
use Rattle.base_lists.proofs.TableLaws.{update_same}
use Rattle.base_lists.proofs.ListLaws.{among-left, among-last, which-pick}
use Rattle.model.specs.Store.{Open, Holding, Collected, Prepared, Installed, Ended, IndexRead, Write, ReadRecord, Txn, Store, rank, phase_open, phase_holding}
use Rattle.model.specs.Store.{Phase, phase_collected, phase_prepared, phase_installed, bucket_in, key_in, bucket_of}
use Rattle.model.specs.Seeing.{version_of, key_at, pending, matches, Live}
use Rattle.model.specs.Steps.{
  with_phase,
  becomes,
  has_read,
  captured,
  collected,
  found_rows,
  records_after,
  read_txn,
  read_done,
  written,
  read_buckets,
  needed_buckets,
}
use Rattle.model.specs.Steps.{prepared, installed}
use Rattle.model.specs.Contents.{Content, content_of, shown_to, live_row, pending_write}
use Rattle.model.specs.Refusals.{Step, capture, collect, rows, write, prepare, install, end, validate, txn_of, by_another}
use Rattle.model.specs.Machine.{Stepped, at, actor, accepted, step}
use Rattle.model.specs.Given.{number}
use Rattle.model.proofs.Phases.{open_is, holding-is, collected-is, prepared-is, installed-is}
use Rattle.model.proofs.Numbers.{in-place}
use Rattle.model.proofs.SeeingLaws.{key-same, key_at-pos, match-version, version-match, add_read-keeps, record_all-keeps, found-which}
use Rattle.model.proofs.Good.{Good, good-move, right-shape}
use Rattle.model.proofs.Finished.{found-whole, found-recorded}
use Rattle.model.proofs.Cleared.{clear-number, Cleared, cleared}
use Rattle.model.proofs.Relied.{Relied}
use Rattle.model.proofs.Conditions.{the_one}
use Rattle.model.proofs.Refused.{capture-0, rows-0, write-0, prepare-0, validate-0, collect-0, install-0, end-0}
use Rattle.model.proofs.Outcomes.{done-does}
use Rattle.model.proofs.LiveRows.{live-set, live-install}
use Rattle.model_in_turn.specs.Done.{returned, Entry, whose, entry_of}
use Rattle.model_in_turn.proofs.ByItself.{rows_in, read_in, record_rows, add_bucket, Local, phased, writing, Plays, plays-capture, plays-collect, plays-rows}
use Rattle.model_in_turn.proofs.ByItself.{plays-write, plays-validate, plays-prepare, plays-install, plays-end, Played, then, Agreeing, played-switch}
use Rattle.model_in_turn.proofs.Returned.{found-is, read_is, records_is}
use Rattle.model_in_turn.proofs.ReadsHold.{agrees}
use Rattle.model_in_turn.proofs.Acting.{buckets_of, has-member, buckets-add}
use Rattle.model_in_turn.proofs.Following.{Follow, Followed}
use Rattle.model.proofs.Moving.{step_move}
use Rattle.model.proofs.Tests.{another}

-- the buckets of index reads are needed
needed-read : (s : Store) (x : Txn) (b : ℕ) → Among b (read_buckets x) → Among b (needed_buckets s x)
unfolding needed_buckets
needed-read s x b o = among-left b (read_buckets x) _ o

module _ (s : Store) (g : Good s) (i n : ℕ) (script : List Entry) (x : Local) (m : ℕ → Content) (f : Follow s i n script x m) where
  live-it : Live (s.txns i)
  live-it = omega (arith, f.number_is, f.alive)

  placed : at s n ≡ i
  placed = the_one s n (right-shape s g) (i, in-place s.clock s.txns g.numbers i live-it, f.number_is, f.alive)

  txn-of : txn_of s n ≡ s.txns i
  txn-of = ap s.txns placed

  rank-of : (k : ℕ) → rank (txn_of s n).phase ≡ k → rank x.phase ≡ k
  rank-of k e = sym (ap rank f.phase-is) ∙ (ap (λ (v : Txn). rank v.phase) (sym txn-of) ∙ e)

  -- an accepted step: the store that it leaves, and its entry
  stored : (a : Step) → number s a ≡ 0 → (step s a).store ≡ (accepted s a).store
  stored a ok = ap (λ v. v.store) (done-does s a ok)

  entered : (a : Step) → number s a ≡ 0 → entry_of s a ≡ record { who = whose s a; what = a; read = returned s (actor a) (accepted s a).answer }
  entered a ok = ap (λ (v : Stepped). record { who = whose s a; what = a; read = returned s (actor a) v.answer }) (done-does s a ok)

  -- its place goes on, before it prepares
  follow-set : (s' : Store) (w : Txn) (y : Local) (script' : List Entry) → s'.sizes ≡ s.sizes → s'.chains ≡ s.chains → s'.txns ≡ update s.txns i w
      → rank x.phase < phase_prepared → rank y.phase < phase_prepared
      → w.number ≡ (s.txns i).number → w.snapshot ≡ (s.txns i).snapshot → w.phase ≡ y.phase → buckets_of w.reads ≡ y.buckets
      → w.writes ≡ y.writes → map (λ (r : ReadRecord). r.row) w.records ≡ y.records
      → Played s.sizes m n script' y → ((q : ℕ × List Write) → Among q y.done → Relied s.sizes s.chains w q.0 q.1) → Follow s' i n script' y m
  follow-set s' w y script' zs cs ts b c nu sn ph bu wr re pl ke =
      let here : s'.txns i ≡ w = ap (λ h. h i) ts ∙ update_same s.txns i w in
      record {
        number_is = ap (λ (v : Txn). v.number) here ∙ (nu ∙ f.number_is);
        alive = f.alive;
        phase-is = ap (λ (v : Txn). v.phase) here ∙ ph;
        buckets-are = ap (λ (v : Txn). buckets_of v.reads) here ∙ bu;
        writes_are = ap (λ (v : Txn). v.writes) here ∙ wr;
        records-are = ap (λ (v : Txn). map (λ (r : ReadRecord). r.row) v.records) here ∙ re;
        plays = rw zs pl;
        early = λ l r. rw (here, cs, sn) (f.early b r);
        late = λ l r. absurd (omega arith);
        kept = λ l q o. rw (zs, cs, here) (ke q o);
        reads-in = λ q o. rw (zs, here) (ke q o).bucket-in;
      }

  -- its place goes on in another phase, from where it prepares
  follow-phase : (s' : Store) (ph : Phase) (script' : List Entry) (m' : ℕ → Content) → s'.sizes ≡ s.sizes
      → s'.txns ≡ update s.txns i (with_phase (s.txns i) ph) → phase_prepared ≤ rank ph
      → Played s.sizes m' n script' (phased x ph) → ((r : ℕ) → m' r ≡ live_row s' r) → Follow s' i n script' (phased x ph) m'
  follow-phase s' ph script' m' zs ts b pl lives =
      let here : s'.txns i ≡ with_phase (s.txns i) ph = ap (λ h. h i) ts ∙ update_same s.txns i _ in
      record {
        number_is = ap (λ (v : Txn). v.number) here ∙ f.number_is;
        alive = f.alive;
        phase-is = ap (λ (v : Txn). v.phase) here;
        buckets-are = ap (λ (v : Txn). buckets_of v.reads) here ∙ f.buckets-are;
        writes_are = ap (λ (v : Txn). v.writes) here ∙ f.writes_are;
        records-are = ap (λ (v : Txn). map (λ (r : ReadRecord). r.row) v.records) here ∙ f.records-are;
        plays = rw zs pl;
        early = λ l r. absurd (omega arith);
        late = λ l r. lives r;
        kept = λ l q o. absurd (omega arith);
        reads-in = λ q o. rw (zs, here) (f.reads-in q o);
      }

  -- what was kept stays kept
  kept_on : (w : Txn) → w.snapshot ≡ (s.txns i).snapshot → ((b : ℕ) → has_read (s.txns i).reads b ≡ true → has_read w.reads b ≡ true)
      → ((q : ReadRecord) → Among q (s.txns i).records → Among q w.records)
      → (k : ℕ) (ws : List Write) → Relied s.sizes s.chains (s.txns i) k ws → Relied s.sizes s.chains w k ws
  kept_on w sn br rr k ws h = record { bucket-in = br _ h.bucket-in; recorded-in = λ r u p e. rw sn (rr _ (h.recorded-in r u p (rw sn at e))) }

  pub own-capture : (k : ℕ) → number s (capture n k) ≡ 0 → (y : Local) × Followed (step s (capture n k)).store i n (script ++ (entry_of s (capture n k) ∷ [])) y
  unfolding accepted
  own-capture k ok = (
    record {
      phase = Holding (bucket_of s.sizes k) k;
      buckets = add_bucket x.buckets (bucket_of s.sizes k);
      writes = x.writes;
      records = x.records;
      done = x.done;
    },
    (
      m,
      rw (store_is, entry-is) (follow-set (captured s i k) _ _ _ refl refl refl (omega (arith, first)) (omega arith) refl refl refl
          (buckets-add (s.txns i).reads (bucket_of s.sizes k) _ ∙ ap (λ bs. add_bucket bs (bucket_of s.sizes k)) f.buckets-are) f.writes_are
          f.records-are
          (then f.plays (plays-capture k (open_is x.phase first) room))
          (λ q o. kept_on _ refl (λ b h. add_read-keeps (s.txns i).reads _ _ b h) (λ q o. o) q.0 q.1 (f.kept (omega (arith, first)) q o))),
    ),
  )
    where
      first : rank x.phase ≡ phase_open
      first = rank-of 1 ((capture-0 s n k).0 ok).0.2

      room : (member (bucket_of s.sizes k) x.buckets ≡ true) ⊎ (length x.buckets < most_index_reads)
      room = rw (
        txn-of,
        has-member (s.txns i).reads (bucket_of s.sizes k),
        sym (length-map (s.txns i).reads (λ (r : IndexRead). r.bucket)),
        f.buckets-are,
      ) at ((capture-0 s n k).0 ok).1.1.1.1

      store_is : (step s (capture n k)).store ≡ captured s i k
      store_is = stored (capture n k) ok ∙ ap (λ j. captured s j k) placed

      entry-is : entry_of s (capture n k) ≡ record { who = n; what = capture n k; read = [] }
      entry-is = entered (capture n k) ok

  pub own-collect : number s (collect n) ≡ 0 → (y : Local) × Followed (step s (collect n)).store i n (script ++ (entry_of s (collect n) ∷ [])) y
  unfolding accepted
  own-collect ok = (
    phased x (Collected (key_in x.phase)),
    (
      m,
      rw (store_is, entry-is) (follow-set (collected s i) _ _ _ refl refl refl (omega (arith, second)) (omega arith) refl refl
          (ap (λ ph. Collected (key_in ph)) f.phase-is) f.buckets-are f.writes_are f.records-are
          (then f.plays (plays-collect (bucket_in x.phase) (key_in x.phase) (holding-is x.phase second)))
          (λ q o. kept_on _ refl (λ b h. h) (λ q o. o) q.0 q.1 (f.kept (omega (arith, second)) q o))),
    ),
  )
    where
      second : rank x.phase ≡ phase_holding
      second = rank-of 2 ((collect-0 s n).0 ok).2

      store_is : (step s (collect n)).store ≡ collected s i
      store_is = stored (collect n) ok ∙ ap (collected s) placed

      entry-is : entry_of s (collect n) ≡ record { who = n; what = collect n; read = [] }
      entry-is = entered (collect n) ok

  pub own-rows : (room : ℕ) → number s (rows n room) ≡ 0 → (y : Local) × Followed (step s (rows n room)).store i n (script ++ (entry_of s (rows n room) ∷ [])) y
  unfolding accepted
  own-rows room ok = (
    record {
      phase = Open;
      buckets = x.buckets;
      writes = x.writes;
      records = record_rows x.writes x.records (found_rows s (s.txns i));
      done = x.done ++ ((key_in x.phase, x.writes) ∷ []);
    },
    (
      m,
      rw (store_is, entry-is) (follow-set (read_done s i) _ _ _ refl refl refl (omega (arith, third)) (omega arith) refl refl refl f.buckets-are
          f.writes_are recorded
          (then f.plays (plays-rows room (key_in x.phase) (found_rows s (s.txns i)) read (collected-is x.phase third) found told few fit))
          kept-all),
    ),
  )
    where
      third : rank x.phase ≡ phase_collected
      third = rank-of 3 ((rows-0 s n room).0 ok).0.2

      third' : rank (s.txns i).phase ≡ phase_collected
      third' = ap rank f.phase-is ∙ third

      m-is : (r : ℕ) → m r ≡ content_of s.chains (s.txns i).snapshot r
      m-is = f.early (omega (arith, third))

      read : List (ℕ × Content)
      read = map (λ r. (r, shown_to s.chains (s.txns i) r)) (found_rows s (s.txns i))

      found : found_rows s (s.txns i) ≡ rows_in s.sizes m x.writes (key_in x.phase)
      found = found-is s g i live-it third' m m-is ∙ (rw (f.phase-is, f.writes_are) refl)

      told : read ≡ read_in s.sizes m x.writes (key_in x.phase)
      told = read_is s g i live-it third' m m-is ∙ (rw (f.phase-is, f.writes_are) refl)

      recorded : map (λ (r : ReadRecord). r.row) (records_after s (s.txns i)) ≡ record_rows x.writes x.records (found_rows s (s.txns i))
      recorded = records_is s.chains g.chained (s.txns i) (s.txns i).records (found_rows s (s.txns i))
          ((g.reading i live-it).records-are (omega (arith, third')))
          (λ r o p. let w = found-which s (s.txns i) r o in
          key_at-pos s.chains (version_of s.chains (s.txns i).snapshot r) (key_in (s.txns i).phase)
          (match-version s.chains (s.txns i) (key_in (s.txns i).phase) r p w.1))
          ∙ ap (λ ws. record_rows ws (map (λ (r : ReadRecord). r.row) (s.txns i).records) (found_rows s (s.txns i))) f.writes_are
          ∙ ap (λ rs. record_rows x.writes rs (found_rows s (s.txns i))) f.records-are

      few : length (found_rows s (s.txns i)) ≤ min room most_rows
      few = rw txn-of at ((rows-0 s n room).0 ok).1.0

      fit : length (record_rows x.writes x.records (found_rows s (s.txns i))) ≤ most_records
      fit = rw (sym recorded, length-map (records_after s (s.txns i)) (λ (r : ReadRecord). r.row)) (rw txn-of at ((rows-0 s n room).0 ok).1.1)

      store_is : (step s (rows n room)).store ≡ read_done s i
      store_is = stored (rows n room) ok ∙ ap (read_done s) placed

      good' : Good (read_done s i)
      good' = rw store_is at (good-move s _ g (step_move s (rows n room)))

      entry-is : entry_of s (rows n room) ≡ record { who = n; what = rows n room; read = read }
      entry-is = entered (rows n room) ok
          ∙ ap (λ (w : Txn). record { who = n; what = rows n room; read = map (λ r. (r, shown_to s.chains w r)) (found_rows s w) }) txn-of

      there : (r : ℕ) → r < s.sizes.rows → pending (s.txns i).writes r ≡ false
          → key_at s.chains (version_of s.chains (s.txns i).snapshot r) ≡ some (key_in (s.txns i).phase) → Among r (found_rows s (s.txns i))
      there r u p e = rw (found-whole s g i live-it third')
          (which-pick (matches s.chains (s.txns i) (key_in (s.txns i).phase)) 0 s.sizes.rows r (omega arith) (omega arith)
          (version-match s.chains (s.txns i) (key_in (s.txns i).phase) r p ∙ key-same _ _ e))

      this : Relied s.sizes s.chains (read_txn s (s.txns i)) (key_in x.phase) x.writes
      this = record {
        bucket-in = rw f.phase-is at ((g.reading i live-it).collects (key_in (s.txns i).phase) (collected-is (s.txns i).phase third')).0;
        recorded-in = λ r u p e. found-recorded s g i live-it third' r (there r u (rw (sym f.writes_are) at p) (rw (sym f.phase-is) at e))
            (rw (sym f.writes_are) at p) (rw update_same at (good'.reading i (rw update_same live-it)));
      }

      kept-all : (q : ℕ × List Write) → Among q (x.done ++ ((key_in x.phase, x.writes) ∷ []))
          → Relied s.sizes s.chains (read_txn s (s.txns i)) q.0 q.1
      kept-all q o = ⊎_elim (λ d. kept_on (read_txn s (s.txns i)) refl (λ b h. h)
          (λ r c. record_all-keeps s.chains (s.txns i) (s.txns i).records (found_rows s (s.txns i)) r c) q.0 q.1
          (f.kept (omega (arith, third)) q d)) (λ e. rw e this) (among-last q (key_in x.phase, x.writes) x.done o)

  appended : (a : Step) (w : Write) → (step s a).store ≡ written s i w → entry_of s a ≡ record { who = n; what = a; read = [] } → rank x.phase ≡ phase_open
      → Plays s.sizes m n x a [] (writing x w) → (y : Local) × Followed (step s a).store i n (script ++ (entry_of s a ∷ [])) y
  appended a w store_is entry-is first d = (
    writing x w,
    (
      m,
      rw (store_is, entry-is) (follow-set (written s i w) _ _ _ refl refl refl (omega (arith, first)) (omega (arith, first)) refl refl f.phase-is
          f.buckets-are (ap (λ ws. ws ++ (w ∷ [])) f.writes_are) f.records-are (then f.plays d)
          (λ q o. kept_on _ refl (λ b h. h) (λ q o. o) q.0 q.1 (f.kept (omega (arith, first)) q o))),
    ),
  )

  pub own-write : (r : ℕ) (c : Content) → number s (write n r c) ≡ 0
      → (y : Local) × Followed (step s (write n r c)).store i n (script ++ (entry_of s (write n r c) ∷ [])) y
  unfolding accepted
  own-write r c ok =
      let d = (write-0 s n r c).0 ok in
      let first = rank-of phase_open d.0.2 in
      appended (write n r c) (pending_write r c)
      (stored (write n r c) ok ∙ ap (λ j. written s j (pending_write r c)) placed) (entered (write n r c) ok)
      first (plays-write r c (open_is x.phase first) d.1.1.0 (rw (txn-of, f.writes_are) at d.1.1.1))

  pub own-validate : number s (validate n) ≡ 0 → (y : Local) × Followed (step s (validate n)).store i n (script ++ (entry_of s (validate n) ∷ [])) y
  unfolding accepted
  own-validate ok =
      let c = (validate-0 s n).0 ok in
      let first = rank-of 1 c.0.2 in
      let entry-is : entry_of s (validate n) ≡ record { who = n; what = validate n; read = [] } = entered (validate n) ok in (
        x,
        (
          m,
          rw (stored (validate n) ok, entry-is) (record {
            number_is = f.number_is;
            alive = f.alive;
            phase-is = f.phase-is;
            buckets-are = f.buckets-are;
            writes_are = f.writes_are;
            records-are = f.records-are;
            plays = then f.plays (plays-validate (open_is x.phase first));
            early = f.early;
            late = f.late;
            kept = f.kept;
            reads-in = f.reads-in;
          }),
        ),
      )

  pub own-prepare : number s (prepare n) ≡ 0 → (y : Local) × Followed (step s (prepare n)).store i n (script ++ (entry_of s (prepare n) ∷ [])) y
  unfolding accepted
  own-prepare ok = (
    phased x Prepared,
    (
      live_row s,
      rw (store_is, entry-is) (follow-phase (prepared s i) Prepared _ (live_row s) refl refl (omega arith)
          (then (played-switch s.sizes m (live_row s) n script x agree f.plays) (plays-prepare (open_is x.phase first)))
          (λ r. sym (live-set s (prepared s i) i _ refl refl (λ l e. omega (arith, first')) (λ e. omega arith) g good' r))),
    ),
  )
    where
      first : rank x.phase ≡ phase_open
      first = rank-of 1 ((prepare-0 s n).0 ok).0.2

      first' : rank (s.txns i).phase ≡ phase_open
      first' = ap rank f.phase-is ∙ first

      store_is : (step s (prepare n)).store ≡ prepared s i
      store_is = stored (prepare n) ok ∙ ap (prepared s) placed

      good' : Good (prepared s i)
      good' = rw store_is at (good-move s _ g (step_move s (prepare n)))

      entry-is : entry_of s (prepare n) ≡ record { who = n; what = prepare n; read = [] }
      entry-is = entered (prepare n) ok

      clear : Cleared s.chains s.index (s.txns i)
      clear = cleared s.chains s.index (s.txns i) (clear-number _ (rw txn-of at ((prepare-0 s n).0 ok).1.1.0))

      untaken : (b : ℕ) → Among b (read_buckets (s.txns i)) → by_another s.held.holder (s.txns i).number b ≡ false
      untaken b o = rw f.number_is ((another s.held.holder n n b refl).if_no (((prepare-0 s n).0 ok).1.0.0 b (rw txn-of (needed-read s (s.txns i) b o))))

      agree : Agreeing s.sizes m (live_row s) x
      agree q o r u p = rw (f.early (omega (arith, first)) r)
          (agrees s g i live-it (omega (arith, first')) q.0 q.1 (f.kept (omega (arith, first)) q o) clear untaken r u p)

  pub own-install : number s (install n) ≡ 0 → (y : Local) × Followed (step s (install n)).store i n (script ++ (entry_of s (install n) ∷ [])) y
  unfolding accepted
  own-install ok = (
    phased x Installed,
    (
      m,
      rw (store_is, entry-is) (follow-phase (installed s i) Installed _ m refl refl (omega arith)
          (then f.plays (plays-install (prepared-is x.phase fourth)))
          (λ r. f.late (omega (arith, fourth)) r ∙ sym (live-install s i g good' live-it (ap rank f.phase-is ∙ fourth) r))),
    ),
  )
    where
      fourth : rank x.phase ≡ phase_prepared
      fourth = rank-of 4 ((install-0 s n).0 ok).2

      store_is : (step s (install n)).store ≡ installed s i
      store_is = stored (install n) ok ∙ ap (installed s) placed

      good' : Good (installed s i)
      good' = rw store_is at (good-move s _ g (step_move s (install n)))

      entry-is : entry_of s (install n) ≡ record { who = n; what = install n; read = [] }
      entry-is = entered (install n) ok

  -- at its end all that it did holds over the rows as they are then, before its own writes
  pub own-end : number s (end n) ≡ 0
      → (y : Local) × Played s.sizes (live_row s) n (script ++ (entry_of s (end n) ∷ [])) y × (y.phase ≡ Ended) × (y.writes ≡ (s.txns i).writes)
      × ((step s (end n)).store ≡ becomes s i Ended) × (rank (s.txns i).phase ≡ phase_installed)
  unfolding accepted
  own-end ok =
      let fifth = rank-of 5 ((end-0 s n).0 ok).2 in
      let entry-is : entry_of s (end n) ≡ record { who = n; what = end n; read = [] } = entered (end n) ok in (
        phased x Ended,
        rw entry-is
            (then (played-switch s.sizes m (live_row s) n script x (λ q o r u p. let e = f.late (omega (arith, fifth)) r in
            ((λ c. sym e), (λ c. sym e))) f.plays) (plays-end (installed-is x.phase fifth))),
        refl,
        sym f.writes_are,
        stored (end n) ok ∙ ap (λ j. becomes s j Ended) placed,
        ap rank f.phase-is ∙ fifth,
      )
