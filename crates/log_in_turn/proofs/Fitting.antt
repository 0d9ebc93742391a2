-- The turn's steps fit their records: what they name stands in the log, and their numbers are below the clock of a store, which has 8 bytes. Assumes nothing.
use mathlib.Core.Path.{◌≡◌, refl}
use mathlib.Core.Bool.{Bool, true, false, cond, not, ◌&&◌}
use mathlib.Core.Logic.{inl, inr, ⊎_elim}
use mathlib.Core.Option.{none, some}
use mathlib.Core.List.{List, [], ◌∷◌, map}
use Prim.Native.Nat.{ℕ, ◌+◌, ◌≤◌}
use native.Mathlib.Omega.{arith}
use lib.Dec.{eqb}
use borrow.Author.Tests.{eqb-true}
use Rattle.base_limits.specs.Limits.{last_number}
use Rattle.base_lists.specs.Lists.{Among}
use Rattle.base_lists.proofs.ListLaws.{among_cases, map-among}
use Rattle.model.specs.Store.{Sizes, Store, fresh}
use Rattle.model.specs.Refusals.{Step, begin, capture, collect, rows, write, prepare, install, end, publish, validate, abort}
use Rattle.model.specs.Machine.{step, run, can_open}
use Rattle.model.specs.Given.{number, Lives}
use Rattle.model.specs.Log.{Opening, Asking}
use Rattle.model.proofs.Good.{Good, good-run, opened-good}
use Rattle.model.proofs.Refused.{capture-0, collect-0, rows-0, write-0, prepare-0, install-0, end-0, publish-0, validate-0, abort-0}
use Rattle.log_records.specs.Layout.{Field, eight, fields_in, Fit, none_left, one-fits}
use Rattle.model_in_turn.specs.Done.{Entry, whose, entry_of, entries}
use Rattle.model_in_turn.specs.InTurn.{end_order, is_publish, done_by, renumbered, as_number, whole_of, in_turn, one_by_one, steps_in, turn_of}
use Rattle.model_in_turn.proofs.Promises.{one-after-another}
use Rattle.log_in_turn.proofs.Laid.{AllFit}

-- an accepted step is of one whose number has 8 bytes
module _ (s : Store) (g : Good s) where
  live_small : (t : ℕ) → Lives s t → t ≤ last_number
  live_small t l = omega (arith, g.numbers.below l.0, g.room.numbers-left)

  whose-small : (a : Step) → number s a ≡ 0 → whose s a ≤ last_number
  whose-small begin e = omega (arith, g.room.numbers-left)
  whose-small (capture t k) e = live_small t ((capture-0 s t k).0 e).0.1
  whose-small (collect t) e = live_small t ((collect-0 s t).0 e).1
  whose-small (rows t room) e = live_small t ((rows-0 s t room).0 e).0.1
  whose-small (write t r c) e = live_small t ((write-0 s t r c).0 e).0.1
  whose-small (prepare t) e = live_small t ((prepare-0 s t).0 e).0.1
  whose-small (install t) e = live_small t ((install-0 s t).0 e).1
  whose-small (end t) e = live_small t ((end-0 s t).0 e).1
  whose-small (publish t) e = live_small t ((publish-0 s t).0 e).1
  whose-small (validate t) e = live_small t ((validate-0 s t).0 e).0.1
  whose-small (abort t) e = live_small t ((abort-0 s t).0 e).1

-- a fact of every accepted step of a run
each-entry : (P : Entry → Type 0) (s : Store) (a : Step) (more : List Step) → (number s a ≡ 0 → P (entry_of s a))
    → ((e : Entry) → Among e (entries (step s a).store more) → P e) → (e : Entry) → Among e (entries s (a ∷ more)) → P e
unfolding entries
each-entry P s a more h later e = go (eqb (number s a) 0) refl
  where
    go : (b : Bool) → eqb (number s a) 0 ≡ b → Among e (cond b (entry_of s a ∷ entries (step s a).store more) (entries (step s a).store more)) → P e
    go true t (inl p) = rw p (h (eqb-true (number s a) 0 t))
    go true t (inr m) = later e m
    go false t m = later e m

all_small : (s : Store) → Good s → (steps : List Step) (e : Entry) → Among e (entries s steps) → e.who ≤ last_number
unfolding entries run
all_small s g [] e m = absurd m
all_small s g (a ∷ more) e m = each-entry (λ d. d.who ≤ last_number) s a more (whose-small s g a) (all_small (step s a).store (good-run s g (a ∷ [])) more) e m

-- an entry's step fits its record
abbrev Fits : Entry → Type 0
Fits e = Fit (fields_in (Asking e.what))

all_fit : (s : Store) (steps : List Step) → AllFit (map Asking steps) → (e : Entry) → Among e (entries s steps) → Fits e
unfolding entries
all_fit s [] f e m = absurd m
all_fit s (a ∷ more) f e m = each-entry Fits s a more (λ z. f.0) (all_fit (step s a).store more f.1) e m

-- another number of 8 bytes fits as well
eight_fits : (m : ℕ) (fs : List Field) → m ≤ last_number → Fit fs → Fit (eight m ∷ fs)
eight_fits m fs l f = one-fits {f = eight m} (omega arith) f

renumbered-fits : (m : ℕ) (a : Step) → m ≤ last_number → Fit (fields_in (Asking a)) → Fit (fields_in (Asking (renumbered m a)))
renumbered-fits m begin l f = f
renumbered-fits m (capture t k) l (one-fits h more) = eight_fits m _ l more
renumbered-fits m (collect t) l (one-fits h more) = eight_fits m _ l more
renumbered-fits m (rows t room) l (one-fits h more) = eight_fits m _ l more
renumbered-fits m (write t r (some c)) l (one-fits h more) = eight_fits m _ l more
renumbered-fits m (write t r none) l (one-fits h more) = eight_fits m _ l more
renumbered-fits m (prepare t) l (one-fits h more) = eight_fits m _ l more
renumbered-fits m (install t) l (one-fits h more) = eight_fits m _ l more
renumbered-fits m (end t) l (one-fits h more) = eight_fits m _ l more
renumbered-fits m (publish t) l (one-fits h more) = eight_fits m _ l more
renumbered-fits m (validate t) l (one-fits h more) = eight_fits m _ l more
renumbered-fits m (abort t) l (one-fits h more) = eight_fits m _ l more

among-done : (n : ℕ) (es : List Entry) (e : Entry) → Among e (done_by n es) → Among e es
unfolding done_by
among-done n [] e m = m
among-done n (d ∷ es) e m = go (eqb d.who n && not (is_publish d.what)) (among-done n es e) m
  where
    go : (b : Bool) → (Among e (done_by n es) → Among e es) → Among e (cond b (d ∷ done_by n es) (done_by n es)) → Among e (d ∷ es)
    go true later (inl p) = inl p
    go true later (inr m) = inr (later m)
    go false later m = inr (later m)

-- every step of the turn
module _ (es : List Entry) (f : (e : Entry) → Among e es → Fits e) where
  whole-fits : (m n : ℕ) (e : Entry) → Among e (whole_of m n es) → e.who ≤ last_number → Fits e
  whole-fits m n e a l = ⊎_elim
      (λ b. let d = map-among (as_number m) (done_by n es) e b in
      rw d.2 (renumbered-fits m d.0.what (rw d.2 at l) (f d.0 (among-done n es d.0 d.1))))
      last
      (among_cases e (map (as_number m) (done_by n es)) _ a)
    where
      last : Among e (record { who = m; what = publish m; read = [] } ∷ []) → Fits e
      last (inl p) = rw p (eight_fits m [] (rw p at l) none_left)
      last (inr b) = absurd b

  turn-fits : (clock : ℕ) (ns : List ℕ) (e : Entry) → Among e (in_turn clock ns es) → e.who ≤ last_number → Fits e
  unfolding in_turn
  turn-fits clock [] e a l = absurd a
  turn-fits clock (n ∷ ns) e a l =
      ⊎_elim (λ b. whole-fits clock n e b l) (λ b. turn-fits (2 + clock) ns e b l) (among_cases e (whole_of clock n es) (in_turn (2 + clock) ns es) a)

each_fits : (es : List Entry) → ((e : Entry) → Among e es → Fits e) → AllFit (map Asking (steps_in es))
each_fits [] f = tt
each_fits (e ∷ es) f = (f e (inl refl), each_fits es (λ d m. f d (inr m)))

clock-small : (z : Sizes) (clock : ℕ) → Fit (fields_in (Opening z clock)) → clock ≤ last_number
clock-small z clock (one-fits a (one-fits b (one-fits c (one-fits d none_left)))) = omega arith

-- the numbers of the turn are those of its run, where every step is accepted
pub turn-fit : (z : Sizes) (clock : ℕ) (steps : List Step) → can_open z clock ≡ true → AllFit (Opening z clock ∷ map Asking steps)
    → AllFit (map Asking (turn_of (fresh z clock) steps))
unfolding run
turn-fit z clock steps o f =
    let s = fresh z clock in
    let es = entries s steps in
    let g : Good s = opened-good z clock [] o (clock-small z clock f.0) in
    let same = (one-after-another z clock steps).same_reads in
    each_fits (one_by_one clock es) (λ e m. turn-fits es (all_fit s steps f.1) clock (end_order es) e m (all_small s g (turn_of s steps) e (rw same m)))
