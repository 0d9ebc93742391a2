-- Side by side through any sequence of steps from a fresh store, refused ones included: so the payments were as if made in turn. Assumes nothing.
use mathlib.Core.Path.{◌≡◌, refl, sym, ap, ◌∙◌}
use mathlib.Core.Bool.{Bool, true, false}
use mathlib.Core.Logic.{◌≢◌, ⊎_elim}
use mathlib.Core.List.{List, [], ◌∷◌, ◌++◌, map, append_assoc, append-nil}
use Prim.Native.Nat.{ℕ, ◌+◌}
use native.Mathlib.Omega.{arith}
use native.Mathlib.Decide.{ℕ_discrete}
use lib.Dec.{leb}
use borrow.Author.Tests.{ne_eqb, leb-true}
use Rattle.base_limits.specs.Limits.{most_live, last_number}
use Rattle.base_lists.proofs.ListLaws.{and_l, and_r}
use Rattle.model.specs.Store.{Sizes, Store, fresh}
use Rattle.model.specs.Steps.{stale}
use Rattle.model.specs.Contents.{live_row}
use Rattle.model.specs.Refusals.{Step, begin, capture, collect, rows, write, prepare, install, end, publish, validate, abort, live_count}
use Rattle.model.specs.Shape.{good_sizes, right_shape}
use Rattle.model.specs.Machine.{at, actor, step, run}
use Rattle.model.specs.Given.{number}
use Rattle.model.proofs.Sums.{sum-zero}
use Rattle.model.proofs.Good.{Good, good-move, good-fresh, sizes_run}
use Rattle.model.proofs.Outcomes.{refused-store}
use Rattle.model.proofs.LiveRows.{rows-published}
use Rattle.model_in_turn.specs.Done.{Entry, entry_of, entries}
use Rattle.model_in_turn.specs.InTurn.{end_order, in_turn, one_by_one, steps_in, RunInTurn}
use Rattle.model_in_turn.proofs.Whole.{entries-append, one_entry}
use Rattle.model_in_turn.proofs.Counting.{waiting, running, over, Counts, count-free}
use Rattle.model_in_turn.proofs.Beside.{SideBySide}
use Rattle.model_in_turn.proofs.StepsBeside.{beside-capture, beside-collect, beside-rows, beside-write, beside-validate, beside-prepare, beside-install}
use Rattle.model_in_turn.proofs.StepsBeside.{beside-publish, beside-abort, beside-begin}
use Rattle.model_in_turn.proofs.MarksBeside.{beside-stale}
use Rattle.model_in_turn.proofs.EndsBeside.{beside_end}
use Rattle.model.proofs.Moving.{step_move, run-append}

module _ (z : Sizes) (c₀ : ℕ) where
  beside-accepted : (s : Store) (es : List Entry) → SideBySide z c₀ s es → (a : Step) → number s a ≡ 0
      → SideBySide z c₀ (step s a).store (es ++ (entry_of s a ∷ []))
  beside-accepted s es h begin ok = beside-begin z c₀ s es h ok
  beside-accepted s es h (capture t k) ok = beside-capture z c₀ s es h t k ok
  beside-accepted s es h (collect t) ok = beside-collect z c₀ s es h t ok
  beside-accepted s es h (rows t room) ok = beside-rows z c₀ s es h t room ok
  beside-accepted s es h (write t r c) ok = beside-write z c₀ s es h t r c ok
  beside-accepted s es h (prepare t) ok = beside-prepare z c₀ s es h t ok
  beside-accepted s es h (install t) ok = beside-install z c₀ s es h t ok
  beside-accepted s es h (end t) ok = beside_end z c₀ s es h t ok
  beside-accepted s es h (publish t) ok = beside-publish z c₀ s es h t ok
  beside-accepted s es h (validate t) ok = beside-validate z c₀ s es h t ok
  beside-accepted s es h (abort t) ok = beside-abort z c₀ s es h t ok

  no-entry : (s : Store) (a : Step) → number s a ≢ 0 → entries s (a ∷ []) ≡ []
  unfolding entries
  no-entry s a d = rw (ne_eqb (number s a) 0 d) refl

  beside-to : (s s' : Store) (es es' : List Entry) → s' ≡ s → es' ≡ es → SideBySide z c₀ s es → SideBySide z c₀ s' es'
  beside-to s s' es es' p q h = rw (p, q) h

  good-to : (s s' : Store) → s' ≡ s → Good s' → Good s
  good-to s s' p g = rw p at g

  beside-step : (s : Store) (es : List Entry) → SideBySide z c₀ s es → (a : Step) → SideBySide z c₀ (step s a).store (es ++ entries s (a ∷ []))
  beside-step s es h a = go (ℕ_discrete (number s a) 0)
    where
      go : Dec (number s a ≡ 0) → SideBySide z c₀ (step s a).store (es ++ entries s (a ∷ []))
      go (yes ok) = beside-to (step s a).store (step s a).store (es ++ (entry_of s a ∷ [])) (es ++ entries s (a ∷ [])) refl
          (ap (λ l. es ++ l) (one_entry s a ok)) (beside-accepted s es h a ok)
      go (no d) =
          let none-new : es ++ entries s (a ∷ []) ≡ es = ap (λ l. es ++ l) (no-entry s a d) ∙ append-nil es in
          ⊎_elim
          (λ e. beside-to s (step s a).store es (es ++ entries s (a ∷ [])) e none-new h)
          (λ e. beside-to (stale s (at s (actor a))) (step s a).store es (es ++ entries s (a ∷ [])) e none-new
          (beside-stale z c₀ s (at s (actor a)) es h
          (good-to (stale s (at s (actor a))) (step s a).store e (good-move s (step s a).store h.good (step_move s a)))))
          (refused-store s a d)

  beside-run : (s : Store) (es : List Entry) → SideBySide z c₀ s es → (steps : List Step) → SideBySide z c₀ (run s steps) (es ++ entries s steps)
  unfolding run entries
  beside-run s es h [] = beside-to s s es (es ++ []) refl (append-nil es) h
  beside-run s es h (a ∷ more) =
      beside-to (run (step s a).store more) (run (step s a).store more) ((es ++ entries s (a ∷ [])) ++ entries (step s a).store more)
      (es ++ entries s (a ∷ more)) refl
      (ap (λ l. es ++ l) (entries-append s (a ∷ []) more) ∙ sym (append_assoc es (entries s (a ∷ [])) (entries (step s a).store more)))
      (beside-run (step s a).store (es ++ entries s (a ∷ [])) (beside-step s es h a) more)

  beside-fresh : Good (fresh z c₀) → SideBySide z c₀ (fresh z c₀) []
  unfolding run entries end_order in_turn
  beside-fresh g = record {
    good = g;
    follow = λ i l a. absurd (omega arith);
    older = λ e o. absurd o;
    gone = λ n o. absurd o;
    beside = record {
      same = refl;
      quiet = record { good = g; idle = λ i. refl };
      sizes-are = refl;
      clock-is = omega arith;
      rows_are = λ r u. refl;
      used-is = omega (arith, sum-zero (waiting z (fresh z c₀).index.posted) (fresh z c₀).txns most_live (λ j. (free j).waits));
      numbers = omega (
        arith,
        sum-zero running (fresh z c₀).txns most_live (λ j. (free j).runs),
        sum-zero over (fresh z c₀).txns most_live (λ j. (free j).is-over),
      );
    };
  }
    where
      free : (j : ℕ) → Counts z (fresh z c₀).index.posted ((fresh z c₀).txns j) 0 0 0
      free j = count-free z (fresh z c₀).index.posted ((fresh z c₀).txns j) refl

  -- a store that could not be opened takes no step
  shut : (s : Store) (steps : List Step) → right_shape s ≡ false → (entries s steps ≡ []) × (run s steps ≡ s)
  unfolding entries run step
  shut s [] e = (refl, refl)
  shut s (a ∷ more) e = rw e (shut s more e)

  opened : right_shape (fresh z c₀) ≡ true → Good (fresh z c₀)
  unfolding right_shape
  opened e =
      let a : good_sizes z ≡ true = search (and_l, and_r) depth 8 in
      let b : leb 1 c₀ ≡ true = search (and_l, and_r) depth 8 in
      let c : leb (c₀ + live_count (fresh z c₀).txns) last_number ≡ true = search (and_l, and_r) depth 8 in
      good-fresh z c₀ a (leb-true 1 c₀ b) (omega (arith, leb-true (c₀ + live_count (fresh z c₀).txns) last_number c))

  nil-turn : (entries (fresh z c₀) (steps_in (one_by_one c₀ [])) ≡ one_by_one c₀ []) × (run (fresh z c₀) (steps_in (one_by_one c₀ [])) ≡ fresh z c₀)
  unfolding entries run in_turn end_order
  nil-turn = (refl, refl)

  in-turn-at : (s : Store) (steps : List Step) → SideBySide z c₀ s (entries (fresh z c₀) steps) → s ≡ run (fresh z c₀) steps → RunInTurn z c₀ steps
  in-turn-at s steps h e = record {
    same_reads = h.beside.same;
    none-live = h.beside.quiet.idle;
    same_rows = λ ns r u. h.beside.rows_are r (rw sizes u)
        ∙ (sym (rows-published s h.good ns r)
        ∙ ap (λ w. live_row w r) (ap (λ w. run w (map publish ns)) e ∙ sym (run-append (fresh z c₀) steps (map publish ns))));
  }
    where
      sizes : s.sizes ≡ z
      sizes = ap (λ w. w.sizes) e ∙ sizes_run (fresh z c₀) steps

  pub in-turn : (steps : List Step) → RunInTurn z c₀ steps
  in-turn steps = go (right_shape (fresh z c₀)) refl
    where
      go : (b : Bool) → right_shape (fresh z c₀) ≡ b → RunInTurn z c₀ steps
      go true e = in-turn-at (run (fresh z c₀) steps) steps (beside-run (fresh z c₀) [] (beside-fresh (opened e)) steps) refl
      go false e = let w = shut (fresh z c₀) steps e in record {
        same_reads = rw w.0 nil-turn.0;
        none-live = λ i. rw w.0 (ap (λ s. (s.txns i).number) nil-turn.1);
        same_rows = λ ns r u. rw w.0 (ap (λ s. live_row s r) nil-turn.1 ∙ ap (λ s. live_row s r) (sym (shut (fresh z c₀) (steps ++ map publish ns) e).1));
      }
