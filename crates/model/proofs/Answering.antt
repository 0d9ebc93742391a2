-- Any step at any store: its number, its answer, and what it leaves. Assumes nothing.
use mathlib.Core.Path.{◌≡◌, sym, ap, ◌∙◌}
use mathlib.Core.Logic.{◌↔◌}
use Prim.Native.Nat.{ℕ}
use Rattle.model.specs.Store.{Store}
use Rattle.model.specs.Verdict.{Verdict, verdict}
use Rattle.model.specs.Steps.{read_buckets}
use Rattle.model.specs.Refusals.{Step, validate, txn_of}
use Rattle.model.specs.Machine.{Judged, answer_number, step}
use Rattle.model.specs.Causes.{Cause}
use Rattle.model.specs.Given.{◌and◌, Ready, BucketsFree}
use Rattle.model.specs.Demands.{ExactAnswer}
use Rattle.model.proofs.Refused.{validate-0}
use Rattle.model.proofs.Outcomes.{done-does, answers}
use Rattle.model.proofs.Exact.{given-exactly}
use Rattle.model.proofs.Leaving.{leaves}
use Rattle.model.proofs.Marking.{marks-only, stale-eight, refused-by, refused-as-found, refused-list}
use Rattle.model.proofs.Verdicts.{verdict-cause}

pub exact : (s : Store) (a : Step) → ExactAnswer s a
exact s a = record {
  given-when = given-exactly s a;
  done-does = done-does s a;
  done-answers = answers s a;
  done-leaves = leaves s a;
  refused-answers = refused-by s a;
  refused-leaves = refused-as-found s a;
  refused-lent = refused-list s a;
  stale-given = stale-eight s a;
  stale-leaves = marks-only s a;
}

-- validate answers the verdict that has its cause
pub judges : (s : Store) (t : ℕ) (v : Verdict) → (step s (validate t)).answer ≡ Judged v
    ↔ Ready s (validate t) and BucketsFree s t (read_buckets (txn_of s t)) and Cause s.chains s.index (txn_of s t) v
judges s t v = (forth, back)
  where
    given : (step s (validate t)).answer ≡ Judged v → Judged (verdict s.chains s.index (txn_of s t)) ≡ Judged v
    given e = sym (answers s (validate t) (ap answer_number e)) ∙ e

    forth : (step s (validate t)).answer ≡ Judged v
        → Ready s (validate t) and BucketsFree s t (read_buckets (txn_of s t)) and Cause s.chains s.index (txn_of s t) v
    forth e =
        let w = (validate-0 s t).0 (ap answer_number e) in
        let f = given e in
        let g : verdict s.chains s.index (txn_of s t) ≡ v = cc in
        (w.0, (w.1, (verdict-cause s.chains s.index (txn_of s t) v).0 g))

    back : Ready s (validate t) and BucketsFree s t (read_buckets (txn_of s t)) and Cause s.chains s.index (txn_of s t) v
        → (step s (validate t)).answer ≡ Judged v
    back w = answers s (validate t) ((validate-0 s t).1 (w.0, w.1.0)) ∙ ap Judged ((verdict-cause s.chains s.index (txn_of s t) v).1 w.1.1)
