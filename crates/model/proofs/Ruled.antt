-- Of each step, once: its tests as the lines of document 01's table, what it does where none refuses, whether it marks, publishes, begins or ends a record.
-- What is proved of all steps is read off this. Assumes nothing.
use mathlib.Core.Path.{◌≡◌, refl}
use mathlib.Core.Bool.{Bool, true, false, not, true≢false, ◌&&◌}
use mathlib.Core.Logic.{◌⊎◌, inl, inr, ◌↔◌}
use mathlib.Core.Option.{none}
use mathlib.Core.List.{List, [], ◌∷◌, ◌++◌, map}
use Prim.Native.Nat.{ℕ, ◌<◌, ◌+◌, min}
use native.Mathlib.Omega.{arith}
use lib.Dec.{ltb, eqb, leb}
use lib.ListN.{length}
use borrow.Author.Tests.{eqb-true, ltb-true, not-false, ltb-false, leb-false}
use Rattle.base_limits.specs.Limits.{most_live, last_number, most_index_reads, most_records, most_rows, most_writes}
use Rattle.base_lists.specs.Lists.{all_of, some_of}
use Rattle.base_lists.proofs.ListLaws.{is_false, or_r, or_l, first-free}
use Rattle.model.specs.Store.{Store, phase_open, phase_holding, phase_collected, phase_prepared, phase_installed, phase_ended, rank}
use Rattle.model.specs.Steps.{needed_buckets, found_rows, records_after, read_buckets}
use Rattle.model.specs.Refusals.{Refusal, refusal_number, WrongShape, Step, begin, capture, collect, rows, write, prepare, install, end, publish, validate}
use Rattle.model.specs.Refusals.{abort, txn_of, found, place_of, by_another, live_count, refusal, versions_after, NoSuch, WrongPhase}
use Rattle.model.specs.Shape.{right_shape}
use Rattle.model.specs.Machine.{Answer, Done, Number, Stamp, Count, Rows, Judged, Refused, rule, actor, checks, accepted, at}
use Rattle.model.specs.Upstream.{Event}
use Rattle.model.specs.History.{step_events}
use Rattle.model.specs.Given.{Names, Right, StaleStamp, documented, Lives, verdict_of, GivenWhen, Given}
use Rattle.model.specs.Leaves.{part}
use Rattle.model.proofs.FirstTest.{Test, less, equal, without, itself, opposite, at_most, code, line, no_line}
use Rattle.model.proofs.Tests.{lives-test, shape-test, bucket-taken, stale-test, read-test, bucket-test, needed-test, place-number}
use Rattle.model.proofs.Move.{Move, stay, did-begin, did-capture, did-collect, did-rows, did_write, did-prepare, did-install, did-end, did-publish}
use Rattle.model.proofs.Move.{did-abort, passes, finds, unmarking, publishing}

-- an answer that is a refusal
abbrev pub refuses : Answer → Bool
refuses Done = false
refuses (Number n) = false
refuses (Stamp n) = false
refuses (Count n) = false
refuses (Rows rs) = false
refuses (Judged v) = false
refuses (Refused r) = true

-- the phase of the one who asks, as a number; a step's own tests, after 16, 4 and 5
abbrev pub phase-of : Store → Step → ℕ
phase-of s a = rank (txn_of s (actor a)).phase

abbrev pub own-tests : Store → Step → List (Bool × Refusal)
own-tests s a = (rule a).tests s (txn_of s (actor a))

-- the numbers that a step can give, in the order of its tests; capture's second 8 is a stale stamp's, every other 8 the mark's
abbrev pub in_order : Step → List ℕ
in_order begin = 16 ∷ 3 ∷ 2 ∷ 0 ∷ []
in_order (capture t k) = 16 ∷ 4 ∷ 5 ∷ 8 ∷ 7 ∷ 8 ∷ 9 ∷ 0 ∷ []
in_order (collect t) = 16 ∷ 4 ∷ 5 ∷ 0 ∷ []
in_order (rows t room) = 16 ∷ 4 ∷ 5 ∷ 10 ∷ 11 ∷ 0 ∷ []
in_order (write t r c) = 16 ∷ 4 ∷ 5 ∷ 8 ∷ 6 ∷ 12 ∷ 0 ∷ []
in_order (prepare t) = 16 ∷ 4 ∷ 5 ∷ 7 ∷ 14 ∷ 13 ∷ 0 ∷ []
in_order (install t) = 16 ∷ 4 ∷ 5 ∷ 0 ∷ []
in_order (end t) = 16 ∷ 4 ∷ 5 ∷ 0 ∷ []
in_order (publish t) = 16 ∷ 4 ∷ 5 ∷ 0 ∷ []
in_order (validate t) = 16 ∷ 4 ∷ 5 ∷ 7 ∷ 0 ∷ []
in_order (abort t) = 16 ∷ 4 ∷ 5 ∷ 0 ∷ []

-- the shape's test stands before all others
abbrev pub all-tests : Store → Step → List (Bool × Refusal)
all-tests s a = (not (right_shape s), WrongShape) ∷ checks s a

-- right in every phase, and right before Installed
always : Test true (Unit {0}) (Unit {0} → ⊥)
always = record { holds = λ e. tt; fails = λ e. absurd (true≢false e); if_yes = λ y. refl; if_no = λ n. absurd (n tt) }

early : (n : ℕ) → Test (ltb n phase_installed) (n < phase_installed) (n < phase_installed → ⊥)
early n = let e = less n phase_installed in
    record { holds = e.holds; fails = λ f l. omega (arith, e.fails f); if_yes = e.if_yes; if_no = λ h. is_false _ (λ f. h (e.holds f)) }

-- the test of its phase
phase-test : (s : Store) (a : Step) → Test ((rule a).right (phase-of s a)) (Right a (phase-of s a)) (Right a (phase-of s a) → ⊥)
phase-test s begin = always
phase-test s (capture t k) = equal _ phase_open
phase-test s (collect t) = equal _ phase_holding
phase-test s (rows t room) = equal _ phase_collected
phase-test s (write t r c) = equal _ phase_open
phase-test s (prepare t) = equal _ phase_open
phase-test s (install t) = equal _ phase_prepared
phase-test s (end t) = equal _ phase_installed
phase-test s (publish t) = equal _ phase_ended
phase-test s (validate t) = equal _ phase_open
phase-test s (abort t) = early _

-- 16, 4, 5, and then the step's own tests are lines of the table
named-lines : {P R : Type 0} (n : ℕ) (s : Store) (t : ℕ) (phase : Bool) (own : List (Bool × Refusal)) → Test phase R (R → ⊥) → (Lives s t → code own ≡ n ↔ P)
    → code ((not (right_shape s), WrongShape) ∷ found s t phase own) ≡ n
    ↔ GivenWhen 16 (right_shape s ≡ false) n (GivenWhen 4 (Lives s t → ⊥) n (GivenWhen 5 (R → ⊥) n P))
named-lines n s t phase own test later = line n _ WrongShape _ (shape-test s)
    (λ sh. line n _ NoSuch _ (lives-test s t) (λ l. line n _ WrongPhase _ (opposite test) (λ ph. later l)))

-- each test of a step is a line of document 01's table
pub exactly : (s : Store) (a : Step) (n : ℕ) → code (all-tests s a) ≡ n ↔ Given s a n
unfolding checks
exactly s begin n =
    line n _ _ _ (shape-test s) (λ sh. line n _ _ _ (at_most most_live (live_count s.txns))
    (λ few. line n _ _ _ (less last_number (s.clock + live_count s.txns + 2)) (λ left. no_line n)))
exactly s (capture t k) n = named-lines n s t _ _ (phase-test s (capture t k)) (λ l.
    line n _ _ _ (itself (txn_of s t).marked)
    (λ m. line n _ _ _ (bucket-test s t k l) (λ f. line n _ _ _ (stale-test s t k l) (λ d. line n _ _ _ (read-test s t k) (λ o. no_line n)))))
exactly s (collect t) n = named-lines n s t _ _ (phase-test s (collect t)) (λ l. no_line n)
exactly s (rows t room) n = named-lines n s t _ _ (phase-test s (rows t room)) (λ l.
    line n _ _ _ (less (min room most_rows) (length (found_rows s (txn_of s t))))
    (λ f. line n _ _ _ (less most_records (length (records_after s (txn_of s t)))) (λ o. no_line n)))
exactly s (write t r c) n = named-lines n s t _ _ (phase-test s (write t r c)) (λ l. line n _ _ _ (itself (txn_of s t).marked)
    (λ m. line n _ _ _ (opposite (less r s.sizes.rows)) (λ i. line n _ _ _ (at_most most_writes (length (txn_of s t).writes)) (λ few. no_line n))))
exactly s (prepare t) n = named-lines n s t _ _ (phase-test s (prepare t)) (λ l. line n _ _ _ (needed-test s t l)
    (λ f. line n _ _ _ (opposite (equal (verdict_of s t) 0)) (λ v. line n _ _ _ (less s.sizes.versions (versions_after s (txn_of s t))) (λ o. no_line n))))
exactly s (install t) n = named-lines n s t _ _ (phase-test s (install t)) (λ l. no_line n)
exactly s (end t) n = named-lines n s t _ _ (phase-test s (end t)) (λ l. no_line n)
exactly s (publish t) n = named-lines n s t _ _ (phase-test s (publish t)) (λ l. no_line n)
exactly s (validate t) n =
    named-lines n s t _ _ (phase-test s (validate t)) (λ l. line n _ _ _ (bucket-taken s t (read_buckets (txn_of s t)) l) (λ f. no_line n))
exactly s (abort t) n = named-lines n s t _ _ (phase-test s (abort t)) (λ l. no_line n)

-- the bucket has an index read, or there is room for one
capture-room : (a : Bool) (n : ℕ) → not a && leb most_index_reads n ≡ false → (a ≡ true) ⊎ (n < most_index_reads)
capture-room true n e = inl refl
capture-room false n e = inr (leb-false most_index_reads n e)

-- what a step does that no test refuses
pub moves : (s : Store) (a : Step) → refusal (checks s a) ≡ none → Move s (at s (actor a)) (accepted s a).store
unfolding checks accepted live_count place_of
moves s begin e =
    let a = passes _ _ _ e in
    let b = passes _ _ _ a.1 in
    let few : live_count s.txns < most_live = leb-false _ _ a.0 in
    let l : at s 0 < most_live = first-free (λ i. eqb (s.txns i).number 0) 0 most_live few in
    did-begin (at s 0) l (place-number s 0 l) few (ltb-false _ _ b.0)
moves s (capture t k) e =
    let f = finds s t _ _ e in
    let a = passes _ _ _ f.rest in
    let b = passes _ _ _ a.1 in
    let c = passes _ _ _ b.1 in
    let d = passes _ _ _ c.1 in
    did-capture (at s t) k f.alive (eqb-true _ _ f.phase-is)
    (record { unmarked = a.0; free = b.0; old-stamp = ltb-true _ _ (not-false _ c.0); room = capture-room _ _ d.0 })
moves s (collect t) e = let f = finds s t _ _ e in did-collect (at s t) f.alive (eqb-true _ _ f.phase-is)
moves s (rows t room) e =
    let f = finds s t _ _ e in
    let a = passes _ _ _ f.rest in
    let b = passes _ _ _ a.1 in
    did-rows (at s t) f.alive (eqb-true _ _ f.phase-is) (ltb-false _ _ b.0)
moves s (write t r c) e =
    let f = finds s t _ _ e in
    let a = passes _ _ _ f.rest in
    let b = passes _ _ _ a.1 in
    let d = passes _ _ _ b.1 in
    did_write (at s t) _ f.alive (eqb-true _ _ f.phase-is) (ltb-true _ _ (not-false _ b.0)) (leb-false _ _ d.0)
moves s (prepare t) e =
    let f = finds s t _ _ e in
    let a = passes _ _ _ f.rest in
    let b = passes _ _ _ a.1 in
    let c = passes _ _ _ b.1 in
    did-prepare (at s t) f.alive (eqb-true _ _ f.phase-is)
    (record {
      buckets-free = or_l _ _ a.0;
      rows-free = or_r (some_of (by_another s.held.holder (txn_of s t).number) (needed_buckets s (txn_of s t))) _ a.0;
      clear = eqb-true _ 0 (not-false _ b.0);
      room = ltb-false _ _ c.0;
    })
moves s (install t) e = let f = finds s t _ _ e in did-install (at s t) f.alive (eqb-true _ _ f.phase-is)
moves s (end t) e = let f = finds s t _ _ e in did-end (at s t) f.alive (eqb-true _ _ f.phase-is)
moves s (publish t) e = let f = finds s t _ _ e in did-publish (at s t) f.alive (eqb-true _ _ f.phase-is)
moves s (validate t) e = stay (at s t)
moves s (abort t) e = let f = finds s t _ _ e in did-abort (at s t) f.alive (ltb-true _ _ f.phase-is)

-- a stale stamp is a capture's alone
pub data Marks (s : Store) : Step → Type 0 where
  may-mark : (t k : ℕ) → Marks s (capture t k)
  never : {a : Step} → unmarking (checks s a) ≡ true → (StaleStamp s a → ⊥) → Marks s a

-- a publish alone changes the index and adds events
pub data Publishes (s : Store) : Step → Type 0 where
  may-publish : (t : ℕ) → Publishes s (publish t)
  quiet : {a : Step} → (accepted s a).store.index ≡ s.index → ((es : List Event) → step_events s a es ≡ es)
      → ((e : refusal (checks s a) ≡ none) → publishing (moves s a e) ≡ false) → Publishes s a

-- the record of the one who asks begins, ends, or goes on with its mark
pub data Lasts : Step → Type 0 where
  begins : Lasts begin
  ends : {a : Step} → ((new kept : ℕ) → part new 0 kept a ≡ 0) → Lasts a
  goes_on : {a : Step} → ((kept : Bool) → part false false kept a ≡ kept) → Lasts a

pub record Ruled (s : Store) (a : Step) : Type 0 where
  pub in-order : map (λ c. refusal_number c.1) (all-tests s a) ++ (0 ∷ []) ≡ in_order a
  pub no-16 : without 16 (checks s a) ≡ true
  pub no-4-5 : Names a → (without 4 (own-tests s a) ≡ true) × (without 5 (own-tests s a) ≡ true)
  pub finds-first : Names a → checks s a ≡ found s (actor a) ((rule a).right (phase-of s a)) (own-tests s a)
  pub phase-test : Test ((rule a).right (phase-of s a)) (Right a (phase-of s a)) (Right a (phase-of s a) → ⊥)
  pub answered : refuses (accepted s a).answer ≡ false
  pub as-documented : (accepted s a).answer ≡ documented s a
  pub marks : Marks s a
  pub publishes : Publishes s a
  pub lasts : Lasts a

-- a step's entry: all but who marks, who publishes and whether its record lasts holds by computation
entry : (s : Store) (a : Step) → Marks s a → Publishes s a → Lasts a → map (λ c. refusal_number c.1) (all-tests s a) ++ (0 ∷ []) ≡ in_order a
    → without 16 (checks s a) ≡ true → refuses (accepted s a).answer ≡ false → (accepted s a).answer ≡ documented s a
    → (Names a → (without 4 (own-tests s a) ≡ true) × (without 5 (own-tests s a) ≡ true)
    × (checks s a ≡ found s (actor a) ((rule a).right (phase-of s a)) (own-tests s a))) → Ruled s a
entry s a marks publishes lasts order below answered told named = record {
  in-order = order;
  no-16 = below;
  no-4-5 = λ n. ((named n).0, (named n).1);
  finds-first = λ n. (named n).2;
  phase-test = phase-test s a;
  answered = answered;
  as-documented = told;
  marks = marks;
  publishes = publishes;
  lasts = lasts;
}

pub ruled : (s : Store) (a : Step) → Ruled s a
unfolding checks accepted step_events all_of moves
ruled s begin = entry s begin (never refl (λ w. w)) (quiet refl (λ es. refl) (λ e. refl)) begins
    refl refl refl refl (λ n. absurd n)
ruled s (capture t k) = entry s (capture t k) (may-mark t k) (quiet refl (λ es. refl) (λ e. refl)) (goes_on (λ kept. refl))
    refl refl refl refl (λ n. (refl, refl, refl))
ruled s (collect t) = entry s (collect t) (never refl (λ w. w)) (quiet refl (λ es. refl) (λ e. refl)) (goes_on (λ kept. refl))
    refl refl refl refl (λ n. (refl, refl, refl))
ruled s (rows t room) = entry s (rows t room) (never refl (λ w. w)) (quiet refl (λ es. refl) (λ e. refl)) (goes_on (λ kept. refl))
    refl refl refl refl (λ n. (refl, refl, refl))
ruled s (write t r c) = entry s (write t r c) (never refl (λ w. w)) (quiet refl (λ es. refl) (λ e. refl)) (goes_on (λ kept. refl))
    refl refl refl refl (λ n. (refl, refl, refl))
ruled s (prepare t) = entry s (prepare t) (never refl (λ w. w)) (quiet refl (λ es. refl) (λ e. refl)) (goes_on (λ kept. refl))
    refl refl refl refl (λ n. (refl, refl, refl))
ruled s (install t) = entry s (install t) (never refl (λ w. w)) (quiet refl (λ es. refl) (λ e. refl)) (goes_on (λ kept. refl))
    refl refl refl refl (λ n. (refl, refl, refl))
ruled s (end t) = entry s (end t) (never refl (λ w. w)) (quiet refl (λ es. refl) (λ e. refl)) (goes_on (λ kept. refl))
    refl refl refl refl (λ n. (refl, refl, refl))
ruled s (publish t) = entry s (publish t) (never refl (λ w. w)) (may-publish t) (ends (λ new kept. refl))
    refl refl refl refl (λ n. (refl, refl, refl))
ruled s (validate t) = entry s (validate t) (never refl (λ w. w)) (quiet refl (λ es. refl) (λ e. refl)) (goes_on (λ kept. refl))
    refl refl refl refl (λ n. (refl, refl, refl))
ruled s (abort t) = entry s (abort t) (never refl (λ w. w)) (quiet refl (λ es. refl) (λ e. refl)) (ends (λ new kept. refl))
    refl refl refl refl (λ n. (refl, refl, refl))
