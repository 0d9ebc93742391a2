-- Alone in a quiet store, a Prepared transaction installs, ends and publishes, and the store is quiet again, with its writes. Assumes nothing.
use mathlib.Core.Path.{◌≡◌, refl, sym, ap, ◌∙◌}
use mathlib.Core.Bool.{Bool, true, false, cond, true≢false}
use mathlib.Core.Logic.{◌≢◌}
use mathlib.Core.List.{List}
use Prim.Native.Nat.{ℕ, zero, suc, ◌+◌, ◌≤◌, ◌<◌}
use native.Mathlib.Omega.{arith}
use lib.ListN.{length}
use Rattle.base_lists.proofs.TableLaws.{update_same, update_other}
use Rattle.base_lists.proofs.ListLaws.{pick-which}
use Rattle.model.specs.Store.{Prepared, Installed, Ended, Write, Txn, Store, no_txn, rank, phase_prepared, phase_installed, phase_ended}
use Rattle.model.specs.Seeing.{key_at, last_write, pending, written_key, Live}
use Rattle.model.specs.Steps.{with_phase, becomes, pending_rows, version_rows, written_payload, installed, published}
use Rattle.model.specs.Contents.{content, content_of, live_row}
use Rattle.model.specs.Refusals.{install, end, publish}
use Rattle.model.specs.Machine.{at, accepted, step}
use Rattle.model.specs.Given.{number, Lives}
use Rattle.model.proofs.SeeingLaws.{which-pendingRows}
use Rattle.model.proofs.Room.{used-pushAll}
use Rattle.model.proofs.Good.{Good, good-move, right-shape}
use Rattle.model.proofs.Conditions.{the_one}
use Rattle.model.proofs.Refused.{install-0, end-0, publish-0}
use Rattle.model.proofs.Outcomes.{done-does}
use Rattle.model.proofs.LiveRows.{live-set, live-install, head-shown, live-others, live_own}
use Rattle.model_in_turn.proofs.ByItself.{shown_in, Local}
use Rattle.model_in_turn.proofs.Alone.{Quiet, Alone, quiet-head}
use Rattle.model.proofs.Moving.{step_move}

-- quiet again: two numbers later, with a version more for each pending row that gets one, and with the writes applied
pub record Finished (s : Store) (ws : List Write) (t : Store) : Type 0 where
  pub quiet : Quiet t
  pub sizes-are : t.sizes ≡ s.sizes
  pub clock-is : t.clock ≡ 2 + s.clock
  pub used-is : t.chains.used ≡ s.chains.used + length (version_rows s.sizes s.chains ws)
  pub rows_are : (r : ℕ) → r < s.sizes.rows → live_row t r ≡ shown_in (live_row s) ws r

module _ (t : Store) (g : Good t) (n : ℕ) (e : (t.txns 0).number ≡ n) (l : 1 ≤ n) where
  pub alone-lives : Lives t n
  alone-lives = (0, omega arith, e, l)

  pub alone-place : at t n ≡ 0
  alone-place = the_one t n (right-shape t g) (0, omega arith, e, l)

module _ (s : Store) (q : Quiet s) (x : Local) (t : Store) (a : Alone s x t) (p : x.phase ≡ Prepared) where
  abbrev n : ℕ
  n = s.clock

  pos : 1 ≤ n
  pos = q.good.numbers.clock-pos

  fourth : rank (t.txns 0).phase ≡ phase_prepared
  fourth = ap rank (a.phase-is ∙ p)

  live-mine : Live (t.txns 0)
  live-mine = omega (arith, a.mine, pos)

  -- before its end the rows are the quiet store's
  rows-still : (r : ℕ) → live_row t r ≡ live_row s r
  unfolding content_of
  rows-still r = ap (λ v. content (key_at t.chains v) (t.chains.payload v)) (head-shown t a.good r (λ l h. none_hidden h.0 h.1 h.2))
      ∙ rw a.chains-are (sym (quiet-head s q r))
    where
      none_hidden : (j : ℕ) → Live (t.txns j) → rank (t.txns j).phase ≡ phase_installed → ⊥
      none_hidden zero b c = omega (arith, fourth)
      none_hidden (suc j) b c = omega (arith, a.others (suc j) (λ e. omega arith))

  -- install
  pub install-done : number t (install n) ≡ 0
  install-done = (install-0 t n).1
      (right-shape t a.good, alone-lives t a.good n a.mine pos, ap (λ i. rank (t.txns i).phase) (alone-place t a.good n a.mine pos) ∙ fourth)

  abbrev t₁ : Store
  t₁ = installed t 0

  pub install-is : (step t (install n)).store ≡ t₁
  unfolding accepted
  install-is = ap (λ v. v.store) (done-does t (install n) install-done) ∙ ap (installed t) (alone-place t a.good n a.mine pos)

  good₁ : Good t₁
  good₁ = rw install-is at (good-move t _ a.good (step_move t (install n)))

  here₁ : t₁.txns 0 ≡ with_phase (t.txns 0) Installed
  here₁ = update_same t.txns 0 _

  mine₁ : (t₁.txns 0).number ≡ n
  mine₁ = ap (λ (v : Txn). v.number) here₁ ∙ a.mine

  fifth : rank (t₁.txns 0).phase ≡ phase_installed
  fifth = ap (λ (v : Txn). rank v.phase) here₁

  -- end
  pub end-done : number t₁ (end n) ≡ 0
  end-done = (end-0 t₁ n).1 (
    right-shape t₁ good₁,
    alone-lives t₁ good₁ n mine₁ pos,
    ap (λ i. rank (t₁.txns i).phase) (alone-place t₁ good₁ n mine₁ pos)
        ∙ fifth,
  )

  abbrev t₂ : Store
  t₂ = becomes t₁ 0 Ended

  pub end_is : (step t₁ (end n)).store ≡ t₂
  unfolding accepted
  end_is = ap (λ v. v.store) (done-does t₁ (end n) end-done) ∙ ap (λ i. becomes t₁ i Ended) (alone-place t₁ good₁ n mine₁ pos)

  good₂ : Good t₂
  good₂ = rw end_is at (good-move t₁ _ good₁ (step_move t₁ (end n)))

  here₂ : t₂.txns 0 ≡ with_phase (t₁.txns 0) Ended
  here₂ = update_same t₁.txns 0 _

  mine₂ : (t₂.txns 0).number ≡ n
  mine₂ = ap (λ (v : Txn). v.number) here₂ ∙ mine₁

  sixth : rank (t₂.txns 0).phase ≡ phase_ended
  sixth = ap (λ (v : Txn). rank v.phase) here₂

  -- publish
  pub publish-done : number t₂ (publish n) ≡ 0
  publish-done = (publish-0 t₂ n).1
      (right-shape t₂ good₂, alone-lives t₂ good₂ n mine₂ pos, ap (λ i. rank (t₂.txns i).phase) (alone-place t₂ good₂ n mine₂ pos) ∙ sixth)

  abbrev t₃ : Store
  t₃ = published t₂ 0

  pub publish-is : (step t₂ (publish n)).store ≡ t₃
  unfolding accepted
  publish-is = ap (λ v. v.store) (done-does t₂ (publish n) publish-done) ∙ ap (published t₂) (alone-place t₂ good₂ n mine₂ pos)

  good₃ : Good t₃
  good₃ = rw publish-is at (good-move t₂ _ good₂ (step_move t₂ (publish n)))

  idle₃ : (i : ℕ) → (t₃.txns i).number ≡ 0
  idle₃ zero = ap (λ (v : Txn). v.number) (update_same t₂.txns 0 no_txn)
  idle₃ (suc i) =
      let d : suc i ≢ 0 = λ e. omega arith in
      ap (λ (v : Txn). v.number) (update_other t₂.txns 0 no_txn (suc i) d
      ∙ (update_other t₁.txns 0 _ (suc i) d ∙ update_other t.txns 0 _ (suc i) d)) ∙ a.others (suc i) d

  writes₁ : (t₁.txns 0).writes ≡ x.writes
  writes₁ = ap (λ (v : Txn). v.writes) here₁ ∙ a.writes_are

  rows₃ : (r : ℕ) → r < s.sizes.rows → live_row t₃ r ≡ shown_in (live_row s) x.writes r
  unfolding shown_in pending_rows
  rows₃ r u = live-set t₂ t₃ 0 no_txn refl refl (λ l e. omega (arith, sixth)) (λ e. omega arith) good₂ good₃ r ∙ go (pending x.writes r) refl
    where
      live₁ : Live (t₁.txns 0)
      live₁ = omega (arith, mine₁, pos)

      go : (b : Bool) → pending x.writes r ≡ b
          → live_row t₂ r ≡ cond b (content (written_key (last_write x.writes r)) (written_payload (last_write x.writes r))) (live_row s r)
      go true e = live_own t₁ 0 good₁ good₂ live₁ fifth r (rw (writes₁, a.sizes-are) (which-pendingRows s.sizes x.writes r u e))
          ∙ ap (λ ws. content (written_key (last_write ws r)) (written_payload (last_write ws r))) writes₁
      go false e = live-others t₁ 0 good₁ good₂ live₁ fifth r
          (λ w. true≢false (sym (pick-which (pending (t₁.txns 0).writes) 0 t₁.sizes.rows r w).2 ∙ (ap (λ ws. pending ws r) writes₁ ∙ e)))
          ∙ (live-install t 0 a.good good₁ live-mine fourth r ∙ rows-still r)

  pub finished : Finished s x.writes t₃
  finished = record {
    quiet = record { good = good₃; idle = idle₃ };
    sizes-are = a.sizes-are;
    clock-is = ap suc a.clock-is ∙ omega arith;
    used-is = used-pushAll (t.txns 0) (version_rows t.sizes t.chains (t.txns 0).writes) t.chains
        ∙ (rw (a.chains-are, a.writes_are, a.sizes-are) refl);
    rows_are = rows₃;
  }
