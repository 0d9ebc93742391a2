-- Any sequence of calls after an accepted open: the words fit and stand for the model's run; a read that is told, and a validation that finds it good. Assumes
-- nothing.
use Prim.Native.Nat.{ℕ, min}
use mathlib.Core.Path.{◌≡◌, refl, sym, ap, subst, ◌∙◌}
use mathlib.Core.Bool.{true}
use mathlib.Core.List.{List, [], ◌∷◌, ◌++◌, map-append}
use native.Mathlib.Omega.{arith}
use lib.ListN.{length, drop}
use Rattle.model.specs.Store.{Store, Collected, fresh}
use Rattle.model.specs.Verdict as judged
use Rattle.model.specs.Refusals.{rows, validate, txn_of}
use Rattle.model.specs.Machine as machine
use Rattle.model.specs.Machine.{lent_after, at, step, run, can_open}
use Rattle.model.specs.Given.{number, Lives}
use Rattle.model.specs.Holding.{Writes, ErasesNothing}
use Rattle.model.specs.Demands.{HeadKept, CostsNothing, MarkedOpen, MarkedGives, LeastXmins, StandingRead}
use Rattle.model.proofs.Promises.{finished-read, validated-read, kept-heads, nothing-costs, kept-marked, marked-stops, kept-xmin}
use Rattle.model.proofs.Moving.{run-append}
use Rattle.base_protocol.specs.declared.Answer.TheVariants as tell
use Rattle.base_protocol.specs.declared.Verdict.TheVariants as verdict
use Rattle.base_protocol.specs.View.{told, sizes_view}
use Rattle.report_answers.specs.Answers.{number_of}
use Rattle.step.specs.Words.{view}
use Rattle.step_bridge.proofs.Running.{Stands}
use Rattle.call_promises.specs.Calls.{Call, asking, called, steps_of}
use Rattle.call_promises.specs.Demands.{Opening, open_number, after, store_after, Follows, reading, validating, preparing, MarkedCalls, ReadCall}
use Rattle.call.proofs.Opened.{tests, open-stands, open-view}
use Rattle.call_promises.proofs.Calls.{stands-typed, sized-fit, called-as, calls-stand, calls-view}
use Rattle.call_promises.proofs.Answered.{told-number, told-judged, open_done}

-- found rows are told by their count
told-rows : (a : machine.Answer) (n : ℕ) → told a ≡ tell.Rows n → (rs : List ℕ) × (a ≡ machine.Rows rs) × (n ≡ length rs)
told-rows (machine.Rows rs) n e = (rs, refl, let q : length rs ≡ n = cc in sym q)
told-rows machine.Done n e = let q : ◌≡◌ {A = ℕ} 0 1 = cc in absurd (omega arith)
told-rows (machine.Number m) n e = let q : ◌≡◌ {A = ℕ} 0 1 = cc in absurd (omega arith)
told-rows (machine.Stamp m) n e = let q : ◌≡◌ {A = ℕ} 0 1 = cc in absurd (omega arith)
told-rows (machine.Count m) n e = let q : ◌≡◌ {A = ℕ} 0 1 = cc in absurd (omega arith)
told-rows (machine.Judged v) n e = let q : ◌≡◌ {A = ℕ} 0 1 = cc in absurd (omega arith)
told-rows (machine.Refused r) n e = let q : ◌≡◌ {A = ℕ} 0 1 = cc in absurd (omega arith)

-- a read asks for as much room as its list has
reading-asks : (t : ℕ) (lent : List ℕ) → asking (reading t lent) ≡ rows t (length lent)
reading-asks t lent = let e : min (length lent) (length lent) ≡ length lent = omega arith in rw e

module _ (o : Opening) (e : open_number o ≡ 0) where
  after-stands : (cs : List Call) → Stands (after o cs)
  after-stands cs = calls-stand _ (open-stands o.rows o.versions o.buckets o.lists o.sizes o.clock (open_done o e) o.clock-in) cs

  after-view : (cs : List Call) → view (after o cs) ≡ store_after o cs
  after-view cs =
      let d = open_done o e in
      calls-view _ (open-stands o.rows o.versions o.buckets o.lists o.sizes o.clock d o.clock-in) cs
      ∙ ap (λ (v : Store). run v (steps_of cs)) (open-view o.rows o.versions o.buckets o.lists o.sizes o.clock d o.clock-in)

  pub follows : (cs : List Call) → Follows o cs
  follows cs = let h = after-stands cs in record { typed = stands-typed _ h; fits = sized-fit _ h.sized; stands-for = after-view cs }

  -- calls behind calls
  joined : (cs more : List Call) → store_after o (cs ++ more) ≡ run (store_after o cs) (steps_of more)
  joined cs more = ap (run (fresh (sizes_view o.sizes) o.clock)) (map-append asking cs more)
      ∙ run-append (fresh (sizes_view o.sizes) o.clock) (steps_of cs) (steps_of more)

  steps-after : (cs : List Call) (c : Call) (between : List Call)
      → store_after o (cs ++ (c ∷ between)) ≡ run (step (store_after o cs) (asking c)).store (steps_of between)
  unfolding run
  steps-after cs c between = joined cs (c ∷ between)

  pub answer-after : (cs : List Call) (c : Call) → (called (after o cs) c).answer ≡ told (step (store_after o cs) (asking c)).answer
  answer-after cs c = rw (after-view cs) at (called-as (after o cs) (after-stands cs) c).answer

  pub number-after : (cs : List Call) (c : Call) → number_of (called (after o cs) c).answer ≡ number (store_after o cs) (asking c)
  number-after cs c = ap number_of (answer-after cs c) ∙ told-number (step (store_after o cs) (asking c)).answer

  found_after : (cs : List Call) (c : Call) → (called (after o cs) c).words.tables.found ≡ lent_after (step (store_after o cs) (asking c)).answer c.lent
  found_after cs c = rw (after-view cs) at (called-as (after o cs) (after-stands cs) c).found

  found-by : (cs : List Call) (t : ℕ) (lent : List ℕ) (n : ℕ) → (called (after o cs) (reading t lent)).answer ≡ tell.Rows n
      → (rs : List ℕ) × ((step (store_after o cs) (rows t (length lent))).answer ≡ machine.Rows rs) × (n ≡ length rs)
  found-by cs t lent n q = told-rows _ n (rw (reading-asks t lent) at (sym (answer-after cs (reading t lent)) ∙ q))

  pub reads : (cs : List Call) (t : ℕ) (lent : List ℕ) (n : ℕ) → (called (after o cs) (reading t lent)).answer ≡ tell.Rows n → ReadCall o cs t lent n
  reads cs t lent n q =
      let w = found-by cs t lent n q in
      record {
        found = w.0;
        count = w.2;
        handed = rw (reading-asks t lent) at (found_after cs (reading t lent))
            ∙ (ap (λ (a : machine.Answer). lent_after a lent) w.1 ∙ ap (λ (m : ℕ). w.0 ++ drop m lent) (sym w.2));
        finished = finished-read (sizes_view o.sizes) o.clock (steps_of cs) t (length lent) w.0 w.1;
      }

  opens : can_open (sizes_view o.sizes) o.clock ≡ true
  opens = (tests o.rows o.versions o.buckets o.lists o.sizes o.clock (open_done o e)).0

  -- ---- what lies below xmin

  pub least-xmins : (cs : List Call) → LeastXmins (view (after o cs))
  least-xmins cs = subst LeastXmins (sym (after-view cs)) (kept-xmin (sizes_view o.sizes) o.clock (steps_of cs) opens o.clock-in)

  -- ---- what prepare saw

  pub heads : (cs : List Call) (t : ℕ) (more : List Call) → number_of (called (after o cs) (preparing t)).answer ≡ 0
      → Lives (store_after o (cs ++ (preparing t ∷ more))) t → HeadKept (store_after o cs) (store_after o (cs ++ (preparing t ∷ more))) t
  heads cs t more z l =
      let same = steps-after cs (preparing t) more in
      subst (λ (s : Store). HeadKept (store_after o cs) s t) (sym same)
      (kept-heads (sizes_view o.sizes) o.clock (steps_of cs) opens o.clock-in t (steps_of more) (sym (number-after cs (preparing t)) ∙ z)
      (subst (λ (s : Store). Lives s t) same l))

  pub costless : (cs : List Call) (t : ℕ) (more : List Call) → number_of (called (after o cs) (preparing t)).answer ≡ 0
      → Lives (store_after o (cs ++ (preparing t ∷ more))) t
      → ((r : ℕ) → Writes (store_after o cs).sizes (txn_of (store_after o cs) t) r → ErasesNothing (store_after o cs).chains (txn_of (store_after o cs) t) r)
      → CostsNothing (store_after o (cs ++ (preparing t ∷ more))) t
  costless cs t more z l nothing =
      let same = steps-after cs (preparing t) more in
      subst (λ (s : Store). CostsNothing s t) (sym same)
      (nothing-costs (sizes_view o.sizes) o.clock (steps_of cs) opens o.clock-in t (steps_of more) (sym (number-after cs (preparing t)) ∙ z)
      (subst (λ (s : Store). Lives s t) same l) nothing)

  -- ---- a marked transaction

  pub marked-open : (cs : List Call) → MarkedOpen (view (after o cs))
  marked-open cs = subst MarkedOpen (sym (after-view cs)) (kept-marked (sizes_view o.sizes) o.clock (steps_of cs))

  pub stops : (cs : List Call) (t : ℕ) → Lives (store_after o cs) t → (txn_of (store_after o cs) t).marked ≡ true → MarkedCalls o cs t
  stops cs t l m =
      let h = marked-stops (sizes_view o.sizes) o.clock (steps_of cs) opens o.clock-in t l m in
      record {
        gives = λ c named q. subst (MarkedGives (store_after o cs) (asking c)) (sym (number-after cs c)) (h.gives (asking c) named q);
        judged = λ z. answer-after cs (validating t) ∙ ap told (h.judged (sym (number-after cs (validating t)) ∙ z));
        stays = λ more d. ap (λ (s : Store). s.txns (at (store_after o cs) t)) (after-view (cs ++ more) ∙ joined cs more) ∙ h.stays (steps_of more) d;
      }

  -- ---- a read, and a validation that finds it good

  -- the rows that were told are the ones found
  same-found : (cs : List Call) (t : ℕ) (lent : List ℕ) (n : ℕ) (q : (called (after o cs) (reading t lent)).answer ≡ tell.Rows n)
      → (reads cs t lent n q).found ≡ (found-by cs t lent n q).0
  unfolding reads
  same-found cs t lent n q = refl

  pub stands : (cs : List Call) (t k : ℕ) (lent : List ℕ) (n : ℕ) (q : (called (after o cs) (reading t lent)).answer ≡ tell.Rows n) (between : List Call)
      → (txn_of (store_after o cs) t).phase ≡ Collected k → (txn_of (store_after o cs) t).writes ≡ []
      → (called (after o (cs ++ (reading t lent ∷ between))) (validating t)).answer ≡ tell.Judged verdict.Clear
      → StandingRead (sizes_view o.sizes) (store_after o cs) (step (store_after o (cs ++ (reading t lent ∷ between))) (validate t)).store t k
      (reads cs t lent n q).found
  stands cs t k lent n q between c w v =
      let all = cs ++ (reading t lent ∷ between) in
      let f = found-by cs t lent n q in
      let clear = told-judged _ judged.Clear (sym (answer-after all (validating t)) ∙ v) in
      let same = rw (reading-asks t lent) at (steps-after cs (reading t lent) between) in
      rw (same-found cs t lent n q)
      (subst (λ (s : Store). StandingRead (sizes_view o.sizes) (store_after o cs) (step s (validate t)).store t k f.0) (sym same)
      (validated-read (sizes_view o.sizes) o.clock (steps_of cs) t (length lent) k f.0 (steps_of between) f.1 c w
      (subst (λ (s : Store). (step s (validate t)).answer ≡ machine.Judged judged.Clear) same clear)))
