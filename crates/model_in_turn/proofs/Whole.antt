-- A whole transaction in a quiet store: what it does by itself is what the store's run accepts, read for read. Assumes nothing.
use mathlib.Core.Path.{◌≡◌, refl, ap, ◌∙◌}
use mathlib.Core.Bool.{Bool, true, false, cond}
use mathlib.Core.List.{List, [], ◌∷◌, ◌++◌, map-append}
use Prim.Native.Nat.{ℕ, ◌+◌, ◌≤◌}
use native.Mathlib.Omega.{arith}
use lib.Dec.{eqb}
use lib.ListN.{length}
use Rattle.base_limits.specs.Limits.{last_number}
use Rattle.model.specs.Store.{Sizes, Prepared, Installed, Ended, Write, Store, rank, phase_prepared}
use Rattle.model.specs.Steps.{becomes, version_rows, installed}
use Rattle.model.specs.Contents.{Content, live_row}
use Rattle.model.specs.Refusals.{Step, begin, capture, collect, rows, write, prepare, install, end, publish, validate}
use Rattle.model.specs.Machine.{Stepped, accepted, step, run}
use Rattle.model.specs.Given.{number}
use Rattle.model.proofs.Outcomes.{done-does}
use Rattle.model_in_turn.specs.Done.{returned, Entry, entry_of, entries}
use Rattle.model_in_turn.specs.InTurn.{steps_in}
use Rattle.model_in_turn.proofs.ByItself.{Local, phased, Plays, plays-capture, plays-collect, plays-rows, plays-write, plays-validate, plays-prepare}
use Rattle.model_in_turn.proofs.ByItself.{plays-install, plays-end, Played, begins, then}
use Rattle.model_in_turn.proofs.Alone.{Quiet, Alone}
use Rattle.model_in_turn.proofs.Acting.{capture-acts, collect-acts, rows-acts, write-acts, validate-acts}
use Rattle.model_in_turn.proofs.Preparing.{prepare-acts, begin-done, begin-alone}
use Rattle.model_in_turn.proofs.Finishing.{Finished, install-done, install-is, end-done, end_is, publish-done, publish-is, finished}
use Rattle.model.proofs.Moving.{run-append}

-- runs and their entries, one after the other
pub entries-append : (s : Store) (xs ys : List Step) → entries s (xs ++ ys) ≡ entries s xs ++ entries (run s xs) ys
unfolding entries run
entries-append s [] ys = refl
entries-append s (a ∷ xs) ys = go (eqb (number s a) 0) (entries-append (step s a).store xs ys)
  where
    go : (b : Bool) → entries (step s a).store (xs ++ ys) ≡ entries (step s a).store xs ++ entries (run (step s a).store xs) ys
        → cond b (entry_of s a ∷ entries (step s a).store (xs ++ ys)) (entries (step s a).store (xs ++ ys))
        ≡ cond b (entry_of s a ∷ entries (step s a).store xs) (entries (step s a).store xs) ++ entries (run (step s a).store xs) ys
    go true h = ap (λ l. entry_of s a ∷ l) h
    go false h = h

-- one entry more is one step more
steps-more : (es : List Entry) (e : Entry) → steps_in (es ++ (e ∷ [])) ≡ steps_in es ++ (e.what ∷ [])
steps-more es e = map-append (λ (d : Entry). d.what) es (e ∷ [])

pub one_entry : (t : Store) (a : Step) → number t a ≡ 0 → entries t (a ∷ []) ≡ entry_of t a ∷ []
unfolding entries
one_entry t a e = rw e refl

one-run : (t : Store) (a : Step) → run t (a ∷ []) ≡ (step t a).store
unfolding run
one-run t a = refl

-- the versions of these writes fit
abbrev pub VersionsFit : Store → List Write → Type 0
VersionsFit s ws = s.chains.used + length (version_rows s.sizes s.chains ws) ≤ s.sizes.versions

-- how far it has come in the quiet store s
pub data Stage (s : Store) : Local → Store → Type 0 where
  early-on : {x : Local} {t : Store} → Alone s x t → Stage s x t
  has-installed : {x : Local} {t : Store} (a : Alone s x t) (p : x.phase ≡ Prepared) {t' : Store} → t' ≡ installed t 0 → Stage s (phased x Installed) t'
  has-ended : {x : Local} {t : Store} (a : Alone s x t) (p : x.phase ≡ Prepared) {t' : Store} → t' ≡ becomes (installed t 0) 0 Ended
      → Stage s (phased x Ended) t'

-- a step at a stage: accepted, with this read, and on to the next stage
pub record Goes (s : Store) (y : Local) (t : Store) (n : ℕ) (a : Step) (read : List (ℕ × Content)) : Type 0 where
  pub done : number t a ≡ 0
  pub entry-is : entry_of t a ≡ record { who = n; what = a; read = read }
  pub stage : Stage s y (step t a).store

module _ (s : Store) (q : Quiet s) where
  abbrev n : ℕ
  n = s.clock

  -- from an early stage
  from-early : (x y : Local) (t : Store) (a : Step) (read : List (ℕ × Content)) → Alone s x t → Plays s.sizes (live_row s) n x a read y
      → (phase_prepared ≤ rank y.phase → VersionsFit s y.writes) → Goes s y t n a read
  unfolding accepted
  from-early x y t a read l (plays-capture k p o) h = let w = capture-acts s q x t l k p o in
      record { done = w.done; entry-is = ap (λ r. record { who = n; what = capture n k; read = r }) w.reads-are; stage = early-on w.next }
  from-early x y t a read l (plays-collect b k p) h = let w = collect-acts s q x t l b k p in
      record { done = w.done; entry-is = ap (λ r. record { who = n; what = collect n; read = r }) w.reads-are; stage = early-on w.next }
  from-early x y t a read l (plays-rows room k rs rd p e f u v) h = let w = rows-acts s q x t l room k rs rd p e f u v in
      record { done = w.done; entry-is = ap (λ r. record { who = n; what = rows n room; read = r }) w.reads-are; stage = early-on w.next }
  from-early x y t a read l (plays-write r c p u v) h = let w =
      write-acts s q x t l r c p u v in
      record { done = w.done; entry-is = ap (λ o. record { who = n; what = write n r c; read = o }) w.reads-are; stage = early-on w.next }
  from-early x y t a read l (plays-validate p) h = let w = validate-acts s q x t l p in
      record { done = w.done; entry-is = ap (λ r. record { who = n; what = validate n; read = r }) w.reads-are; stage = early-on w.next }
  from-early x y t a read l (plays-prepare p) h = let w = prepare-acts s q x t l p (h (omega arith)) in
      record { done = w.done; entry-is = ap (λ r. record { who = n; what = prepare n; read = r }) w.reads-are; stage = early-on w.next }
  from-early x y t a read l (plays-install p) h = record {
    done = install-done s q x t l p;
    entry-is = ap (λ (v : Stepped). record { who = n; what = install n; read = returned t n v.answer }) (done-does t (install n) (install-done s q x t l p));
    stage = has-installed l p (install-is s q x t l p);
  }
  from-early x y t a read l (plays-end p) h = absurd (omega (arith, l.early, ap rank p))

  -- from Installed: only end comes
  from-installed : (x y : Local) (t t' : Store) (a : Step) (read : List (ℕ × Content)) (l : Alone s x t) (p : x.phase ≡ Prepared) → t' ≡ installed t 0
      → Plays s.sizes (live_row s) n (phased x Installed) a read y → Goes s y t' n a read
  unfolding accepted
  from-installed x y t t' a read l p e (plays-capture k d o) = absurd (omega (arith, ap rank d))
  from-installed x y t t' a read l p e (plays-collect b k d) = absurd (omega (arith, ap rank d))
  from-installed x y t t' a read l p e (plays-rows room k rs rd d f g u v) = absurd (omega (arith, ap rank d))
  from-installed x y t t' a read l p e (plays-write r c d u v) = absurd (omega (arith, ap rank d))
  from-installed x y t t' a read l p e (plays-validate d) = absurd (omega (arith, ap rank d))
  from-installed x y t t' a read l p e (plays-prepare d) = absurd (omega (arith, ap rank d))
  from-installed x y t t' a read l p e (plays-install d) = absurd (omega (arith, ap rank d))
  from-installed x y t t' a read l p e (plays-end d) = record {
    done = ap (λ w. number w (end n)) e ∙ end-done s q x t l p;
    entry-is = ap (λ w. entry_of w (end n)) e
        ∙ ap (λ (v : Stepped). record { who = n; what = end n; read = returned (installed t 0) n v.answer })
        (done-does (installed t 0) (end n) (end-done s q x t l p));
    stage = has-ended l p (ap (λ w. (step w (end n)).store) e ∙ end_is s q x t l p);
  }

  -- from Ended: nothing but publish
  from-ended : (x y : Local) (a : Step) (read : List (ℕ × Content)) → Plays s.sizes (live_row s) n (phased x Ended) a read y → ⊥
  from-ended x y a read (plays-capture k d o) = omega (arith, ap rank d)
  from-ended x y a read (plays-collect b k d) = omega (arith, ap rank d)
  from-ended x y a read (plays-rows room k rs rd d f g u v) = omega (arith, ap rank d)
  from-ended x y a read (plays-write r c d u v) = omega (arith, ap rank d)
  from-ended x y a read (plays-validate d) = omega (arith, ap rank d)
  from-ended x y a read (plays-prepare d) = omega (arith, ap rank d)
  from-ended x y a read (plays-install d) = omega (arith, ap rank d)
  from-ended x y a read (plays-end d) = omega (arith, ap rank d)

  goes : (x y : Local) (t : Store) (a : Step) (read : List (ℕ × Content)) → Stage s x t → Plays s.sizes (live_row s) n x a read y
      → (phase_prepared ≤ rank y.phase → VersionsFit s y.writes) → Goes s y t n a read
  goes x y t a read (early-on l) d h = from-early x y t a read l d h
  goes x y t a read (has-installed {x = w} {t = v} l p e) d h = from-installed w y v t a read l p e d
  goes x y t a read (has-ended {x = w} {t = v} l p e) d h = absurd (from-ended w y a read d)

-- from prepare on the writes stay
writes-stay : (z : Sizes) (m : ℕ → Content) (n : ℕ) (x y : Local) (a : Step) (read : List (ℕ × Content)) → Plays z m n x a read y
    → phase_prepared ≤ rank x.phase → (phase_prepared ≤ rank y.phase) × (y.writes ≡ x.writes)
writes-stay z m n x y a read (plays-capture k p o) l = absurd (omega (arith, ap rank p))
writes-stay z m n x y a read (plays-collect b k p) l = absurd (omega (arith, ap rank p))
writes-stay z m n x y a read (plays-rows room k rs rd p e f u v) l = absurd (omega (arith, ap rank p))
writes-stay z m n x y a read (plays-write r c p u v) l = absurd (omega (arith, ap rank p))
writes-stay z m n x y a read (plays-validate p) l = absurd (omega (arith, ap rank p))
writes-stay z m n x y a read (plays-prepare p) l = absurd (omega (arith, ap rank p))
writes-stay z m n x y a read (plays-install p) l = (omega arith, refl)
writes-stay z m n x y a read (plays-end p) l = (omega arith, refl)

-- all its steps, from begin on
pub record Ran (s : Store) (es : List Entry) (x : Local) : Type 0 where
  pub same : entries s (steps_in es) ≡ es
  pub stage : Stage s x (run s (steps_in es))

module _ (s : Store) (q : Quiet s) (numbers : s.clock + 2 ≤ last_number) where
  first_entry : entries s (begin ∷ []) ≡ record { who = s.clock; what = begin; read = [] } ∷ []
  unfolding accepted
  first_entry = one_entry s begin (begin-done s q numbers)
      ∙ ap (λ (v : Stepped). record { who = s.clock; what = begin; read = returned s 0 v.answer } ∷ []) (done-does s begin (begin-done s q numbers))

  pub ran : (es : List Entry) (x : Local) → Played s.sizes (live_row s) s.clock es x → (phase_prepared ≤ rank x.phase → VersionsFit s x.writes)
      → Ran s es x
  ran es x begins h = record { same = first_entry; stage = rw (one-run s begin) (early-on (begin-alone s q numbers)) }
  ran es y (then {es = ds} {x = x} {a = a} {read = read} d p) h =
      let w = ran ds x d (λ l. let k = writes-stay s.sizes (live_row s) s.clock x y a read p l in rw k.1 at (h k.0)) in
      let g = goes s q x y (run s (steps_in ds)) a read w.stage p h in
      record {
        same = ap (entries s) (steps-more ds _)
            ∙ (entries-append s (steps_in ds) (a ∷ [])
            ∙ (ap (λ l. l ++ entries (run s (steps_in ds)) (a ∷ [])) w.same
            ∙ ap (λ l. ds ++ l) (one_entry (run s (steps_in ds)) a g.done ∙ ap (λ e. e ∷ []) g.entry-is)));
        stage = rw (steps-more ds (record { who = s.clock; what = a; read = read }), run-append s (steps_in ds) (a ∷ []), one-run (run s (steps_in ds)) a)
            g.stage;
      }

  -- the whole transaction, publish included
  pub record Turned (es : List Entry) (x : Local) : Type 0 where
    pub same : entries s (steps_in (es ++ (record { who = s.clock; what = publish s.clock; read = [] } ∷ []))) ≡ es
        ++ (record { who = s.clock; what = publish s.clock; read = [] } ∷ [])
    pub after : Finished s x.writes (run s (steps_in (es ++ (record { who = s.clock; what = publish s.clock; read = [] } ∷ []))))

  publishes : (es : List Entry) (x : Local) (t : Store) → run s (steps_in es) ≡ t → entries s (steps_in es) ≡ es → x.phase ≡ Ended → Stage s x t → Turned es x
  unfolding accepted
  publishes es x t e same ph (early-on l) = absurd (omega (arith, l.early, ap rank ph))
  publishes es x t e same ph (has-installed l p f) = absurd (omega (arith, ap rank ph))
  publishes es x t e same ph (has-ended {x = w} {t = v} l p f) =
      let at : run s (steps_in es) ≡ becomes (installed v 0) 0 Ended = e ∙ f in
      let done : number (run s (steps_in es)) (publish s.clock) ≡ 0 = ap (λ u. number u (publish s.clock)) at ∙ publish-done s q w v l p in
      record {
        same = ap (entries s) (steps-more es _)
            ∙ (entries-append s (steps_in es) _
            ∙ (ap (λ k. k ++ entries (run s (steps_in es)) (publish s.clock ∷ [])) same
            ∙ ap (λ k. es ++ k) (one_entry (run s (steps_in es)) (publish s.clock) done
            ∙ ap (λ (u : Stepped). record { who = s.clock; what = publish s.clock; read = returned (run s (steps_in es)) s.clock u.answer } ∷ [])
            (done-does (run s (steps_in es)) (publish s.clock) done))));
        after = rw (
          steps-more es (record { who = s.clock; what = publish s.clock; read = [] }),
          run-append s (steps_in es) (publish s.clock ∷ []),
          one-run (run s (steps_in es)) (publish s.clock),
          at,
          publish-is s q w v l p,
        ) (finished s q w v l p);
      }

  pub turned : (es : List Entry) (x : Local) → Played s.sizes (live_row s) s.clock es x → x.phase ≡ Ended → VersionsFit s x.writes → Turned es x
  turned es x d ph h = let w = ran es x d (λ l. h) in publishes es x (run s (steps_in es)) refl w.same ph w.stage
