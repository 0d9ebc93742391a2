-- The worked example of document 01, step by step: the definitions compute to its answers. Assumes nothing.
use mathlib.Core.Path.{◌≡◌, refl}
use mathlib.Core.List.{List, [], ◌∷◌}
use Rattle.model.specs.Store.{Store, fresh}
use Rattle.model.specs.Verdict.{Bucket}
use Rattle.model.specs.Refusals.{Step, begin, capture, collect, rows, put, prepare, install, end, publish, validate, Taken, Conflict}
use Rattle.model.specs.Machine.{Answer, Done, Number, Stamp, Count, Rows, Judged, Refused, step}
use Rattle.model.proofs.Computes.{computes}

-- the answers of a sequence of steps
unfoldable pub answers : Store → List Step → List Answer
answers s [] = []
answers s (a ∷ more) = (step s a).answer ∷ answers (step s a).store more

pub worked : answers (fresh (record { rows = 4; versions = 8; buckets = 4 }) 1)
    (begin ∷ put 1 2 6 10 ∷ prepare 1 ∷ install 1 ∷ end 1 ∷ publish 1 ∷ begin ∷ capture 3 6 ∷ collect 3 ∷ rows 3 4 ∷ begin ∷ put 4 0 2 7 ∷ prepare 4
    ∷ validate 3 ∷ install 4 ∷ end 4 ∷ publish 4 ∷ validate 3 ∷ prepare 3 ∷ [])
    ≡ Number 1 ∷ Done ∷ Done ∷ Done ∷ Done ∷ Stamp 2 ∷ Number 3 ∷ Stamp 2 ∷ Count 1 ∷ Rows (2 ∷ []) ∷ Number 4 ∷ Done ∷ Done ∷ Refused Taken ∷ Done ∷ Done
    ∷ Stamp 5 ∷ Judged (Bucket 2 2 5) ∷ Refused Conflict ∷ []
unfolding computes answers
worked = refl
