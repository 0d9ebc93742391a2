-- What a run did: its accepted steps in their order, whose each is, and what each read.
use Rattle.std.specs.Prelude.{ℕ, cond, List, [], ◌∷◌, map, eqb}
use Rattle.model.specs.Store.{Store}
use Rattle.model.specs.Contents.{Content, shown_to}
use Rattle.model.specs.Refusals.{Step, txn_of}
use Rattle.model.specs.Machine.{Answer, Done, Number, Stamp, Count, Rows, Judged, Refused, rule, named_or, actor, step}
use Rattle.model.specs.Given.{number}

-- what a read returned to transaction t: each row of the answer with its key and payload, own pending writes included
abbrev pub returned : Store → ℕ → Answer → List (ℕ × Content)
returned s t Done = []
returned s t (Number n) = []
returned s t (Stamp n) = []
returned s t (Count n) = []
returned s t (Rows rs) = map (λ r. (r, shown_to s.chains (txn_of s t) r)) rs
returned s t (Judged v) = []
returned s t (Refused r) = []

-- an accepted step: whose it is, the step, and what it read
pub record Entry : Type 0 where
  pub who : ℕ
  pub what : Step
  pub read : List (ℕ × Content)

-- whose a step is: begin's is the number that it gives
abbrev pub whose : Store → Step → ℕ
whose s a = named_or s.clock (rule a).whose

-- the entry of a step that is accepted
abbrev pub entry_of : Store → Step → Entry
entry_of s a = record { who = whose s a; what = a; read = returned s (actor a) (step s a).answer }

-- the accepted steps of a run, in their order
unfoldable pub entries : Store → List Step → List Entry
entries s [] = []
entries s (a ∷ more) = cond (eqb (number s a) 0) (entry_of s a ∷ entries (step s a).store more) (entries (step s a).store more)
