-- What is written of some steps: a line for each, found again in the report and beside its record. Assumes nothing.
use mathlib.Core.Path.{◌≡◌, refl, ap, ◌∙◌}
use mathlib.Core.List.{List, [], ◌∷◌, ◌++◌, map, zip}
use Prim.Native.Nat.{ℕ, suc}
use lib.ListN.{length}
use Rattle.base_lists.specs.Lists.{join}
use Rattle.model.specs.Store.{Sizes, Store, fresh}
use Rattle.model.specs.Refusals.{Step}
use Rattle.model.specs.Machine.{step}
use Rattle.model.specs.Log.{Command, Opening, Asking}
use Rattle.model.specs.Report.{open_word, line, answer_line}
use Rattle.log_in_turn.specs.Told.{commands_in, lines_in, told}
use Rattle.log_in_turn.proofs.Lines.{answer-front, open-front}

-- a line for each step
unfoldable pub spoken : Store → List Step → List (List ℕ)
spoken s [] = []
spoken s (a ∷ more) = answer_line a (step s a).answer ∷ spoken (step s a).store more

-- lines one after another
unfoldable pub written : List (List ℕ) → List ℕ
written ls = join (λ l. l) ls

-- each step's record with its line
unfoldable pub said : Store → List Step → List (Command × List ℕ)
said s [] = []
said s (a ∷ more) = (Asking a, answer_line a (step s a).answer) ∷ said (step s a).store more

abbrev pub open_line : List ℕ
open_line = line open_word (0 ∷ [])

pub written-more : (l : List ℕ) (ls : List (List ℕ)) → written (l ∷ ls) ≡ l ++ written ls
unfolding written join
written-more l ls = refl

pub written_none : written [] ≡ []
unfolding written join
written_none = refl

lines-spoken : (s : Store) (steps : List Step) → lines_in (written (spoken s steps)) ≡ spoken s steps
unfolding spoken written join lines_in
lines-spoken s [] = refl
lines-spoken s (a ∷ more) = answer-front a (step s a).answer (written (spoken (step s a).store more))
    ∙ ap (λ ls. answer_line a (step s a).answer ∷ ls) (lines-spoken (step s a).store more)

spoken-long : (s : Store) (steps : List Step) → length (spoken s steps) ≡ length (map Asking steps)
unfolding spoken
spoken-long s [] = refl
spoken-long s (a ∷ more) = ap suc (spoken-long (step s a).store more)

beside : (s : Store) (steps : List Step) → zip (map Asking steps) (spoken s steps) ≡ said s steps
unfolding zip spoken said
beside s [] = refl
beside s (a ∷ more) = ap (λ qs. (Asking a, answer_line a (step s a).answer) ∷ qs) (beside (step s a).store more)

-- a log of an open and steps, with what was written of them
module _ (log report : List ℕ) (z : Sizes) (clock : ℕ) (steps : List Step) (read : commands_in log ≡ Opening z clock ∷ map Asking steps)
    (says : report ≡ written (open_line ∷ spoken (fresh z clock) steps)) where
  lines_are : lines_in report ≡ open_line ∷ spoken (fresh z clock) steps
  lines_are = ap lines_in (says ∙ written-more open_line _)
      ∙ (open-front (written (spoken (fresh z clock) steps)) ∙ ap (λ ls. open_line ∷ ls) (lines-spoken (fresh z clock) steps))

  pub each-told : length (lines_in report) ≡ length (commands_in log)
  each-told = rw (lines_are, read) (ap suc (spoken-long (fresh z clock) steps))

  pub told_is : told log report ≡ (Opening z clock, open_line) ∷ said (fresh z clock) steps
  unfolding told zip
  told_is = rw (lines_are, read) (ap (λ qs. (Opening z clock, open_line) ∷ qs) (beside (fresh z clock) steps))
