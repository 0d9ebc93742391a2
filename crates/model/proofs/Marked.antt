-- A marked transaction: it is Open in every reached store, and no more work is done in it. Assumes nothing.
use mathlib.Core.Path.{◌≡◌, refl, sym, ap, subst, ◌∙◌}
use mathlib.Core.Bool.{Bool, true, false, true≢false, ◌||◌, not}
use mathlib.Core.Logic.{◌≢◌, inl, inr, ⊎_elim}
use mathlib.Core.List.{List, [], ◌∷◌}
use Prim.Native.Nat.{ℕ, ◌≤◌, ◌<◌}
use native.Mathlib.Omega.{arith}
use native.Mathlib.Decide.{ℕ_discrete}
use lib.Dec.{eqb, ltb}
use Rattle.base_limits.specs.Limits.{most_live, last_number}
use Rattle.base_lists.specs.Lists.{Among}
use Rattle.base_lists.specs.Table.{update}
use Rattle.base_lists.proofs.TableLaws.{update-elim}
use Rattle.model.specs.Store.{Sizes, Phase, Open, Holding, Collected, Prepared, Installed, Ended, Txn, Store, fresh, rank, phase_open}
use Rattle.model.specs.Verdict.{Mark, verdict, verdict_number}
use Rattle.model.specs.Refusals.{Step, begin, capture, collect, rows, write, prepare, install, end, publish, validate, abort, place_of, txn_of}
use Rattle.model.specs.Machine.{Judged, at, actor, accepted, step, run, can_open}
use Rattle.model.specs.Given.{number, Shaped, Lives, Names, RightPhase, StaleStamp}
use Rattle.model.specs.Demands.{MarkedOpen, MarkedGives, NoMoreWork}
use Rattle.model.proofs.Tests.{lives-test, lives-number}
use Rattle.model.proofs.Move.{Move, stay, did-begin, did-mark, did-capture, did-collect, did-rows, did_write, did-prepare, did-install, did-end}
use Rattle.model.proofs.Move.{did-publish, did-abort}
use Rattle.model.proofs.Moving.{run-inv, step_move}
use Rattle.model.proofs.Good.{Good, good-move, right-shape, opened-good}
use Rattle.model.proofs.Cleared.{clear-number, cleared}
use Rattle.model.proofs.Conditions.{the_one}
use Rattle.model.proofs.Refused.{every-4, every-5, capture-8, write-8, abort-0}
use Rattle.model.proofs.Outcomes.{done-does, answers, free-place}
use Rattle.model.proofs.Exact.{given-exactly}
use Rattle.model.proofs.Leaving.{leaves}
use Rattle.model.proofs.Marking.{stale-or-not, marks-only, refused-as-found}
use Rattle.model.proofs.Verdicts.{verdict-3}

-- ---- every marked transaction is Open

-- the one phase of rank 1
open-rank : (p : Phase) → rank p ≡ phase_open → p ≡ Open
open-rank Open e = refl
open-rank (Holding b k) e = absurd (omega arith)
open-rank (Collected k) e = absurd (omega arith)
open-rank Prepared e = absurd (omega arith)
open-rank Installed e = absurd (omega arith)
open-rank Ended e = absurd (omega arith)

-- one place changes
marked-set : (s : Store) → MarkedOpen s → (i : ℕ) (x : Txn) → (x.marked ≡ true → x.phase ≡ Open) → (j : ℕ) → (update s.txns i x j).marked ≡ true
    → (update s.txns i x j).phase ≡ Open
marked-set s o i x h j = update-elim (λ y. y.marked ≡ true → y.phase ≡ Open) s.txns i x j (λ e. h) (λ d. o j)

-- who is not Open is not marked
unmarked : {A : Type 0} (s : Store) → MarkedOpen s → (i : ℕ) → rank (s.txns i).phase ≢ phase_open → (s.txns i).marked ≡ true → A
unmarked s o i d m = absurd (d (ap rank (o i m)))

marked-move : (s s' : Store) {a : ℕ} → MarkedOpen s → Move s a s' → MarkedOpen s'
marked-move s s' = go s'
  where
    go : {a : ℕ} (s' : Store) → MarkedOpen s → Move s a s' → MarkedOpen s'
    go s' o (stay i) = o
    go s' o (did-begin i a b c d) = marked-set s o i _ (λ m. refl)
    go s' o (did-mark i a b) = marked-set s o i _ (λ m. open-rank _ b)
    go s' o (did-capture i k a b c) = marked-set s o i _ (λ m. absurd (true≢false (sym m ∙ c.unmarked)))
    go s' o (did-collect i a b) = marked-set s o i _ (unmarked s o i (λ e. omega arith))
    go s' o (did-rows i a b c) = marked-set s o i _ (λ m. refl)
    go s' o (did_write i w a b c d) = marked-set s o i _ (o i)
    go s' o (did-prepare i a b c) = marked-set s o i _ (λ m. absurd (true≢false (sym m ∙ (cleared _ _ _ (clear-number _ c.clear)).unmarked)))
    go s' o (did-install i a b) = marked-set s o i _ (unmarked s o i (λ e. omega arith))
    go s' o (did-end i a b) = marked-set s o i _ (unmarked s o i (λ e. omega arith))
    go s' o (did-publish i a b) = marked-set s o i _ (λ m. refl)
    go s' o (did-abort i a b) = marked-set s o i _ (λ m. refl)

pub marked-opened : (z : Sizes) (clock : ℕ) (before : List Step) → MarkedOpen (run (fresh z clock) before)
marked-opened z clock before = run-inv MarkedOpen (λ v v' i h m. marked-move v v' h m) (fresh z clock) before (λ i m. refl)

-- ---- no more work in it

module _ (s : Store) (t : ℕ) (g : Shaped s) (o : MarkedOpen s) (l : Lives s t) (m : (txn_of s t).marked ≡ true) where
  is_open : rank (txn_of s t).phase ≡ phase_open
  is_open = ap rank (o (at s t) m)

  judged-marked : verdict s.chains s.index (txn_of s t) ≡ Mark
  judged-marked = (verdict-3 s.chains s.index (txn_of s t)).1 m

  -- a step that needs another phase
  five : (a : Step) → Names a → actor a ≡ t → (RightPhase s a → ⊥) → number s a ≡ 5
  five a named e w = (every-5 s a named).1 (g, (rw e l, w))

  not-rank : (u n : ℕ) → u ≡ t → n ≢ 1 → rank (txn_of s u).phase ≡ n → ⊥
  not-rank u n e d r = d (sym r ∙ (rw e is_open))

  prepare-gives : MarkedGives s (prepare t) (number s (prepare t))
  prepare-gives =
      ⊎_elim (λ w. absurd (true≢false (sym g ∙ w.0))) (λ w.
      ⊎_elim (λ w. absurd (w.0 l)) (λ w.
      ⊎_elim (λ w. absurd (w.0 is_open)) (λ w.
      ⊎_elim (λ w. inl w) (λ w.
      ⊎_elim (λ v. inr (w.0, v.1)) (λ v. absurd (v.0 (λ e. omega (arith, ap verdict_number judged-marked))))
      w.1) w.1) w.1) w.1) ((given-exactly s (prepare t) (number s (prepare t))).0 refl)

  validate-gives : MarkedGives s (validate t) (number s (validate t))
  validate-gives =
      ⊎_elim (λ w. absurd (true≢false (sym g ∙ w.0))) (λ w.
      ⊎_elim (λ w. absurd (w.0 l)) (λ w.
      ⊎_elim (λ w. absurd (w.0 is_open)) (λ w.
      w.1) w.1) w.1) ((given-exactly s (validate t) (number s (validate t))).0 refl)

  gives : (a : Step) → Names a → actor a ≡ t → MarkedGives s a (number s a)
  gives begin no_name e = absurd no_name
  gives (capture u k) named e = rw e ((capture-8 s t k).1 ((g, l, is_open), inl m))
  gives (collect u) named e = five (collect u) named e (not-rank u 2 e (omega arith))
  gives (rows u room) named e = five (rows u room) named e (not-rank u 3 e (omega arith))
  gives (write u r c) named e = rw e ((write-8 s t r c).1 ((g, l, is_open), m))
  gives (prepare u) named e = rw e prepare-gives
  gives (install u) named e = five (install u) named e (not-rank u 4 e (omega arith))
  gives (end u) named e = five (end u) named e (not-rank u 5 e (omega arith))
  gives (publish u) named e = five (publish u) named e (not-rank u 6 e (omega arith))
  gives (validate u) named e = rw e validate-gives
  gives (abort u) named e = rw e ((abort-0 s t).1 (g, l, omega (arith, is_open)))

  judged : number s (validate t) ≡ 0 → (step s (validate t)).answer ≡ Judged Mark
  judged z = answers s (validate t) z ∙ ap Judged judged-marked

  -- who stands at its place and is carried out is the marked one
  asks : (a : Step) → Names a → number s a ≡ 0 → at s (actor a) ≡ at s t → actor a ≡ t
  asks a named z p = by (eqb (actor a) 0 || not (ltb (place_of s.txns (actor a)) most_live)) refl
    where
      by : (b : Bool) → (eqb (actor a) 0 || not (ltb (place_of s.txns (actor a)) most_live)) ≡ b → actor a ≡ t
      by true e = absurd (omega (arith, z, (every-4 s a named).1 (g, (lives-test s (actor a)).holds e)))
      by false e = sym (lives-number s (actor a) ((lives-test s (actor a)).fails e)) ∙ (ap (λ i. (s.txns i).number) p ∙ lives-number s t l)

  -- at its place only validate is carried out, and its abort
  at_place : (a : Step) → a ≢ abort t → number s a ≡ 0 → at s (actor a) ≡ at s t → (step s a).store.txns (at s t) ≡ txn_of s t
  unfolding accepted
  at_place begin d z p = absurd (omega (arith, l.3, sym (lives-number s t l), ap (λ i. (s.txns i).number) (sym p) ∙ free-place s z))
  at_place (capture u k) d z p = absurd (omega (arith, z, gives (capture u k) tt (asks (capture u k) tt z p)))
  at_place (collect u) d z p = absurd (omega (arith, z, gives (collect u) tt (asks (collect u) tt z p)))
  at_place (rows u room) d z p = absurd (omega (arith, z, gives (rows u room) tt (asks (rows u room) tt z p)))
  at_place (write u r c) d z p = absurd (omega (arith, z, gives (write u r c) tt (asks (write u r c) tt z p)))
  at_place (prepare u) d z p = absurd (⊎_elim (λ w. omega (arith, z, w.1)) (λ w. omega (arith, z, w.1)) (gives (prepare u) tt (asks (prepare u) tt z p)))
  at_place (install u) d z p = absurd (omega (arith, z, gives (install u) tt (asks (install u) tt z p)))
  at_place (end u) d z p = absurd (omega (arith, z, gives (end u) tt (asks (end u) tt z p)))
  at_place (publish u) d z p = absurd (omega (arith, z, gives (publish u) tt (asks (publish u) tt z p)))
  at_place (validate u) d z p = ap (λ w. w.store.txns (at s t)) (done-does s (validate u) z)
  at_place (abort u) d z p = absurd (d (ap abort (asks (abort u) tt z p)))

  -- no stale stamp is met at its place, for it is marked already
  stale-elsewhere : (a : Step) → StaleStamp s a → at s t ≢ at s (actor a)
  stale-elsewhere (capture u k) w p = true≢false (sym m ∙ (ap (λ i. (s.txns i).marked) p ∙ w.1.0))
  stale-elsewhere begin w p = elim w [ ]
  stale-elsewhere (collect _) w p = elim w [ ]
  stale-elsewhere (rows _ _) w p = elim w [ ]
  stale-elsewhere (write _ _ _) w p = elim w [ ]
  stale-elsewhere (prepare _) w p = elim w [ ]
  stale-elsewhere (install _) w p = elim w [ ]
  stale-elsewhere (end _) w p = elim w [ ]
  stale-elsewhere (publish _) w p = elim w [ ]
  stale-elsewhere (validate _) w p = elim w [ ]
  stale-elsewhere (abort _) w p = elim w [ ]

  stays-once : (a : Step) → a ≢ abort t → (step s a).store.txns (at s t) ≡ txn_of s t
  stays-once a d = elim (ℕ_discrete (number s a) 0) [
    | yes z ↦ elim (ℕ_discrete (at s (actor a)) (at s t)) [ yes p ↦ at_place a d z p | no q ↦ (leaves s a z).others-stay (at s t) (λ e. q (sym e)) ]
    | no r ↦ ⊎_elim (λ w. (marks-only s a w).others-stay (at s t) (stale-elsewhere a w)) (λ n. ap (λ w. w.txns (at s t)) (refused-as-found s a r n))
        (stale-or-not s a)
  ]

-- the record at its place stays over any steps without its abort
stays-run : (s : Store) (t i : ℕ) → Good s → MarkedOpen s → i < most_live → (s.txns i).number ≡ t → 1 ≤ t → (s.txns i).marked ≡ true → (more : List Step)
    → (Among (abort t) more → ⊥) → (run s more).txns i ≡ s.txns i
unfolding run
stays-run s t i g o b n p m [] d = refl
stays-run s t i g o b n p m (a ∷ more) d =
    let l : Lives s t = (i, b, n, p) in
    let w = right-shape s g in
    let q : at s t ≡ i = the_one s t w l in
    let e = subst (λ j. (step s a).store.txns j ≡ s.txns j) q (stays-once s t w o l (ap (λ j. (s.txns j).marked) q ∙ m) a (λ f. d (inl (sym f)))) in
    stays-run (step s a).store t i (good-move s _ g (step_move s a)) (marked-move s _ o (step_move s a)) b (ap (λ y. y.number) e ∙ n) p
    (ap (λ y. y.marked) e ∙ m) more (λ f. d (inr f)) ∙ e

pub no-more-work : (z : Sizes) (clock : ℕ) (before : List Step) → can_open z clock ≡ true → clock ≤ last_number → let s = run (fresh z clock) before in
    (t : ℕ) → Lives s t → (txn_of s t).marked ≡ true → NoMoreWork s t
no-more-work z clock before e c t l m =
    let s = run (fresh z clock) before in
    let g = opened-good z clock before e c in
    let w = right-shape s g in
    let o = marked-opened z clock before in
    let q : at s t ≡ l.0 = the_one s t w l in
    record {
      gives = gives s t w o l m;
      judged = judged s t w o l m;
      stays = λ more d. subst (λ j. (run s more).txns j ≡ s.txns j) (sym q)
          (stays-run s t l.0 g o l.1 l.2 l.3 (ap (λ j. (s.txns j).marked) (sym q) ∙ m) more d);
    }
