-- A call on any words: its number and values by document 01's table, and what it leaves; and the same of open. Assumes nothing.
use Prim.Native.Nat.{ℕ}
use mathlib.Core.Path.{◌≡◌, refl, sym, ap, subst, ◌∙◌}
use mathlib.Core.Bool.{Bool, true, false, cond, not, true≢false}
use mathlib.Core.Logic.{◌↔◌, ◌≢◌, ◌⊎◌, inl, inr, ⊎_elim}
use mathlib.Core.List.{List, [], ◌∷◌}
use native.Mathlib.Omega.{arith}
use lib.ListN.{length, drop}
use lib.Seq.{take_at}
use Rattle.base_limits.specs.Limits.{most_rows, most_versions, most_buckets}
use Rattle.model.specs.Verdict as judged
use Rattle.model.specs.Verdict.{verdict_number}
use Rattle.model.specs.Refusals.{WrongSize, WrongShape, validate}
use Rattle.model.specs.Machine as machine
use Rattle.model.specs.Machine.{answer_number, answer_values, lent_after, step, can_open}
use Rattle.model.specs.Given.{number, Outside, GivenWhen}
use Rattle.model.proofs.Conditions.{cannot-open}
use Rattle.model.proofs.Promises.{exact-answer, validate-answers}
use Rattle.base_protocol.specs.declared.Verdict.{Verdict}
use Rattle.base_protocol.specs.declared.Verdict.TheVariants as verdict
use Rattle.base_protocol.specs.declared.Refusal.{Refusal}
use Rattle.base_protocol.specs.declared.Answer.{Answer}
use Rattle.base_protocol.specs.declared.Answer.TheVariants as tell
use Rattle.base_protocol.specs.View.{verdict_told, told, sizes_view, refusal_told}
use Rattle.base_protocol.proofs.Told.{refusal-number}
use Rattle.report_answers.specs.Answers as answers
use Rattle.report_answers.specs.Answers.{number_of, values_of}
use Rattle.step.specs.Words.{Words, view}
use Rattle.shape.specs.Shape.{tables_lent, tables_fit}
use Rattle.call.specs.Calls.{Left, refused_open, open_of}
use Rattle.call_promises.specs.Calls.{Call, asking, lending, called, Typed, AnyCall}
use Rattle.call_promises.specs.Refused.{Marks}
use Rattle.call_promises.specs.Demands.{ExactCall, Opening, open_number, ExactOpen, validating, JudgedCall}
use Rattle.call.proofs.Opened.{open-view}
use Rattle.call_promises.proofs.Refusing.{refused-words, refused-open}
use Rattle.call_promises.proofs.Calls.{any-call}

-- ---- an answer as it is told: the same number and values

pub told-number : (a : machine.Answer) → number_of (told a) ≡ answer_number a
told-number machine.Done = refl
told-number (machine.Number n) = refl
told-number (machine.Stamp n) = refl
told-number (machine.Count n) = refl
told-number (machine.Rows rs) = refl
told-number (machine.Judged v) = refl
told-number (machine.Refused r) = refusal-number r

told-verdict : (v : judged.Verdict) → answers.verdict_values (verdict_told v) ≡ verdict_number v ∷ judged.verdict_values v
told-verdict judged.Clear = refl
told-verdict (judged.Bucket b captured present) = refl
told-verdict (judged.Row r p) = refl
told-verdict judged.Mark = refl

-- a told verdict has one verdict behind it
judged_by : Verdict → judged.Verdict
judged_by verdict.Clear = judged.Clear
judged_by (verdict.Bucket b captured present) = judged.Bucket b captured present
judged_by (verdict.Row r p) = judged.Row r p
judged_by verdict.Mark = judged.Mark

told-by : (v : judged.Verdict) → judged_by (verdict_told v) ≡ v
unfolding judged_by
told-by judged.Clear = refl
told-by (judged.Bucket b captured present) = refl
told-by (judged.Row r p) = refl
told-by judged.Mark = refl

same-verdict : (u v : judged.Verdict) → verdict_told u ≡ verdict_told v → u ≡ v
same-verdict u v e = sym (told-by u) ∙ (ap judged_by e ∙ told-by v)

told-values : (a : machine.Answer) (lent : List ℕ) → values_of (told a) (lent_after a lent) ≡ answer_values a
told-values machine.Done lent = refl
told-values (machine.Number n) lent = refl
told-values (machine.Stamp n) lent = refl
told-values (machine.Count n) lent = refl
told-values (machine.Rows rs) lent = ap (λ (l : List ℕ). length rs ∷ l) (take_at rs (drop (length rs) lent) (length rs) refl)
told-values (machine.Judged v) lent = told-verdict v
told-values (machine.Refused r) lent = refl

record Refuses (a : Answer) : Type 0 where
  why : Refusal
  is : a ≡ tell.Refused why

-- a number that is not 0 is a refusal's
refused-is : (a : Answer) → number_of a ≢ 0 → Refuses a
refused-is tell.Done d = absurd (d refl)
refused-is (tell.Number n) d = absurd (d refl)
refused-is (tell.Stamp n) d = absurd (d refl)
refused-is (tell.Count n) d = absurd (d refl)
refused-is (tell.Rows n) d = absurd (d refl)
refused-is (tell.Judged v) d = absurd (d refl)
refused-is (tell.Refused r) d = record { why = r; is = refl }

-- ---- a call

module _ (w : Words) (c : Call) (any : AnyCall w c) where
  refuses-words : number_of (called w c).answer ≢ 0
      → ((called w c).words ≡ lending w c.lent) ⊎ Marks (lending w c.lent) c.asks (called w c).words (number_of (called w c).answer)
  refuses-words d =
      let r = refused-is (called w c).answer d in
      subst (λ (n : ℕ). ((called w c).words ≡ lending w c.lent) ⊎ Marks (lending w c.lent) c.asks (called w c).words n) (sym (ap number_of r.is))
      (refused-words (lending w c.lent) c.asks r.why r.is)

  refuses-values : number_of (called w c).answer ≢ 0 → values_of (called w c).answer (called w c).words.tables.found ≡ []
  refuses-values d = rw (refused-is (called w c).answer d).is

  -- the words fit: the model's step
  module _ (f : tables_fit w ≡ true) where
    number-as : number_of (called w c).answer ≡ number (view w) (asking c)
    number-as = ap number_of (any.fitting f).answer ∙ told-number (step (view w) (asking c)).answer

    exact-fit : ExactCall w c
    exact-fit =
        let k = any.fitting f in
        let m = exact-answer (view w) (asking c) in
        let n = number-as in
        record {
          given-when = λ q. let g = m.given-when q in
              ((λ e. inr ((λ u. true≢false (sym f ∙ u)), g.0 (sym n ∙ e))), (λ s. ⊎_elim (λ u. absurd (true≢false (sym f ∙ u.0))) (λ u. n ∙ g.1 u.1) s));
          done-values = λ e. rw (k.answer, k.found) (told-values (step (view w) (asking c)).answer c.lent
              ∙ ap answer_values (m.done-answers (sym n ∙ e)));
          done-leaves = λ e. rw k.store (m.done-leaves (sym n ∙ e));
          done-lent = λ e. k.found ∙ ap (λ (a : machine.Answer). lent_after a c.lent) (m.done-answers (sym n ∙ e));
          refused-values = refuses-values;
          refused-leaves = refuses-words;
        }

  -- they do not: 16
  module _ (f : tables_fit w ≡ false) where
    sixteen : number_of (called w c).answer ≡ 16
    sixteen = ap (λ x. number_of x.answer) (any.wrong (any.shape ∙ rw f))

    exact-unfit : ExactCall w c
    exact-unfit = record {
      given-when = λ q. ((λ e. inl (f, sym e ∙ sixteen)), (λ s. ⊎_elim (λ u. sixteen ∙ sym u.1) (λ u. absurd (u.0 f)) s));
      done-values = λ e. absurd (omega (arith, sixteen));
      done-leaves = λ e. absurd (omega (arith, sixteen));
      done-lent = λ e. absurd (omega (arith, sixteen));
      refused-values = refuses-values;
      refused-leaves = refuses-words;
    }

pub exactly : (w : Words) (c : Call) → Typed w → ExactCall w c
exactly w c t = by (tables_fit w) refl
  where
    by : (b : Bool) → tables_fit w ≡ b → ExactCall w c
    by true f = exact-fit w c (any-call w c t) f
    by false f = exact-unfit w c (any-call w c t) f

-- ---- a validation

-- a told verdict is the one that was judged
pub told-judged : (a : machine.Answer) (v : judged.Verdict) → told a ≡ tell.Judged (verdict_told v) → a ≡ machine.Judged v
told-judged machine.Done v e = let q : ◌≡◌ {A = ℕ} 0 1 = cc in absurd (omega arith)
told-judged (machine.Number n) v e = let q : ◌≡◌ {A = ℕ} 0 1 = cc in absurd (omega arith)
told-judged (machine.Stamp n) v e = let q : ◌≡◌ {A = ℕ} 0 1 = cc in absurd (omega arith)
told-judged (machine.Count n) v e = let q : ◌≡◌ {A = ℕ} 0 1 = cc in absurd (omega arith)
told-judged (machine.Rows rs) v e = let q : ◌≡◌ {A = ℕ} 0 1 = cc in absurd (omega arith)
told-judged (machine.Judged u) v e = ap machine.Judged (same-verdict u v cc)
told-judged (machine.Refused r) v e = let q : ◌≡◌ {A = ℕ} 0 1 = cc in absurd (omega arith)

pub judges : (w : Words) (t : ℕ) (v : judged.Verdict) → Typed w → JudgedCall w t v
judges w t v y = by (tables_fit w) refl
  where
    by : (b : Bool) → tables_fit w ≡ b → JudgedCall w t v
    by true f =
        let k = ((any-call w (validating t) y).fitting f).answer in
        let m = validate-answers (view w) t v in
        ((λ e. (f, m.0 (told-judged (step (view w) (validate t)).answer v (sym k ∙ e)))), (λ s. k ∙ ap told (m.1 s.1)))
    by false f =
        let k : (called w (validating t)).answer
        ≡ tell.Refused (refusal_told WrongShape) = ap (λ x. x.answer) ((any-call w (validating t) y).wrong ((any-call w (validating t) y).shape ∙ rw f)) in
        ((λ e. let q : ◌≡◌ {A = ℕ} 0 1 = cc in absurd (omega arith)), (λ s. absurd (true≢false (sym s.0 ∙ f))))

-- ---- open

-- what open answers, by its two tests
module _ (rows versions buckets lists : List ℕ) (words : Words) where
  abbrev tested : Bool → Bool → Left
  tested a b = cond (not a) (refused_open (refusal_told WrongSize) rows versions buckets lists)
      (cond (not b) (refused_open (refusal_told WrongShape) rows versions buckets lists) (record { answer = tell.Done; words = words }))

  tested-given : {Cannot : Type 0} (n : ℕ) (a b : Bool) → (a ≡ false → Cannot) → (Cannot → a ≡ false) → number_of (tested a b).answer ≡ n
      ↔ GivenWhen 1 Cannot n (GivenWhen 16 (b ≡ false) n (n ≡ 0))
  tested-given n true true why shut = (
    (λ e. inr ((λ s. true≢false (shut s)), inr (true≢false, sym e))),
    (λ s. ⊎_elim (λ u. absurd (true≢false (shut u.0))) (λ u. ⊎_elim (λ x. absurd (true≢false x.0)) (λ x. sym x.1) u.1) s),
  )
  tested-given n true false why shut = (
    (λ e. inr ((λ s. true≢false (shut s)), inl (refl, sym e))),
    (λ s. ⊎_elim (λ u. absurd (true≢false (shut u.0))) (λ u. ⊎_elim (λ x. sym x.1) (λ x. absurd (x.0 refl)) u.1) s),
  )
  tested-given n false b why shut = ((λ e. inl (why refl, sym e)), (λ s. ⊎_elim (λ u. sym u.1) (λ u. absurd (u.0 (why refl))) s))

  tested-done : (a b : Bool) → number_of (tested a b).answer ≡ 0 → (tested a b).answer ≡ tell.Done
  tested-done true true e = refl
  tested-done true false e = absurd (omega arith)
  tested-done false b e = absurd (omega arith)

pub open_done : (o : Opening) → open_number o ≡ 0 → (open_of o.rows o.versions o.buckets o.lists o.sizes o.clock).answer ≡ tell.Done
unfolding open_of
open_done o = tested-done o.rows o.versions o.buckets o.lists _ (can_open (sizes_view o.sizes) o.clock)
    (tables_lent o.rows o.versions o.buckets o.lists o.sizes)

open-given : (o : Opening) (n : ℕ) → open_number o ≡ n
    ↔ GivenWhen 1 (Outside o.sizes.rows most_rows ⊎ Outside o.sizes.versions most_versions ⊎ Outside o.sizes.buckets most_buckets ⊎ (o.clock ≡ 0)) n
    (GivenWhen 16 (tables_lent o.rows o.versions o.buckets o.lists o.sizes ≡ false) n (n ≡ 0))
unfolding open_of
open-given o n =
    let c = cannot-open (sizes_view o.sizes) o.clock in
    tested-given o.rows o.versions o.buckets o.lists _ n (can_open (sizes_view o.sizes) o.clock)
    (tables_lent o.rows o.versions o.buckets o.lists o.sizes) c.0 c.1

pub opens-exactly : (o : Opening) → ExactOpen o
opens-exactly o = record {
  given-when = open-given o;
  done-leaves = λ e. open-view o.rows o.versions o.buckets o.lists o.sizes o.clock (open_done o e) o.clock-in;
  refused-leaves = λ d. refused-open o.rows o.versions o.buckets o.lists o.sizes o.clock (refused-is _ d).why (refused-is _ d).is;
}
