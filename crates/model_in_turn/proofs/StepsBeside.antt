-- Side by side, step by step: each accepted step that ends nobody keeps the run and the run in turn side by side. Assumes nothing.
use mathlib.Core.Path.{◌≡◌, refl, sym, ap, ◌∙◌}
use mathlib.Core.Bool.{false}
use mathlib.Core.List.{List, [], ◌∷◌, ◌++◌, map}
use Prim.Native.Nat.{ℕ, ◌<◌}
use native.Mathlib.Omega.{arith}
use lib.Dec.{eqb}
use borrow.Author.Tests.{ne_eqb}
use Rattle.base_limits.specs.Limits.{most_live}
use Rattle.base_lists.proofs.TableLaws.{update_same}
use Rattle.base_lists.proofs.ListLaws.{and-false, first-free}
use Rattle.model.specs.Store.{Sizes, IndexRead, ReadRecord, Txn, Store, no_txn, rank, phase_installed}
use Rattle.model.specs.Seeing.{Live}
use Rattle.model.specs.Steps.{new_txn, begun}
use Rattle.model.specs.Contents.{Content, content_of}
use Rattle.model.specs.Refusals.{Step, begin, capture, collect, rows, write, prepare, install, publish, validate, abort, place_of, txn_of, live_count}
use Rattle.model.specs.Machine.{Stepped, at, accepted, step}
use Rattle.model.specs.Given.{number, Lives}
use Rattle.model.proofs.Move.{Move}
use Rattle.model.proofs.Numbers.{clock-move}
use Rattle.model.proofs.Refused.{begin-0, capture-0, rows-0, write-0, prepare-0, validate-0, collect-0, install-0, publish-0, abort-0}
use Rattle.model.proofs.Outcomes.{done-does}
use Rattle.model_in_turn.specs.Done.{returned, Entry, entry_of}
use Rattle.model_in_turn.specs.InTurn.{end_in, is_publish, done_by}
use Rattle.model_in_turn.proofs.ByItself.{Local, started, begins}
use Rattle.model_in_turn.proofs.Entries.{mine-more, none_yet}
use Rattle.model_in_turn.proofs.Following.{Follow, Followed}
use Rattle.model_in_turn.proofs.OwnSteps.{own-capture, own-collect, own-rows, own-write, own-validate, own-prepare, own-install}
use Rattle.model_in_turn.proofs.Beside.{renamed, SideBySide, beside-move}
use Rattle.model.proofs.Tests.{place-number, lives-number}
use Rattle.model.proofs.Moving.{step_move}

module _ (z : Sizes) (c₀ : ℕ) where
  -- a step that names a transaction, takes it on, and neither ends nor publishes it
  beside-named : (s : Store) (es : List Entry) → SideBySide z c₀ s es → (a : Step) (t : ℕ) → Move s (at s t) (step s a).store → (entry_of s a).who ≡ t
      → end_in (entry_of s a).what ≡ [] → is_publish (entry_of s a).what ≡ false → Lives s t → rank (txn_of s t).phase < phase_installed
      → ((x : Local) (m : ℕ → Content) → Follow s (at s t) t (done_by t es) x m
      → (y : Local) × Followed (step s a).store (at s t) t (done_by t es ++ (entry_of s a ∷ [])) y)
      → SideBySide z c₀ (step s a).store (es ++ (entry_of s a ∷ []))
  beside-named s es h a t m who-is end-none no-publish lives few own =
      beside-move z c₀ s (step s a).store es (entry_of s a) m h end-none
      (λ i d l c. d (h.good.numbers.distinct i (at s t) l (sym c ∙ (who-is ∙ sym number-b))))
      (omega (arith, who-is, number-b, h.good.numbers.below (at s t), clock-move s _ m))
      (λ n o. rw (who-is, ne_eqb t n (λ e. omega (arith, (h.gone n o).1 (at s t) live-b (number-b ∙ e)))) refl)
      (λ l e. omega arith)
      (λ l c. let w = renamed s (at s t) es (s.txns (at s t)).number t number-b (h.follow (at s t) live-b (omega arith)) in
      let v = own w.0 w.1.0 w.1.1 in
      (v.0, rw (v.1.1.number_is, mine-more t es (entry_of s a) who-is no-publish) v.1))
    where
      number-b : (s.txns (at s t)).number ≡ t
      number-b = lives-number s t lives

      live-b : Live (s.txns (at s t))
      live-b = omega (arith, number-b, lives.3)

  pub beside-capture : (s : Store) (es : List Entry) → SideBySide z c₀ s es → (t k : ℕ) → number s (capture t k) ≡ 0
      → SideBySide z c₀ (step s (capture t k)).store (es ++ (entry_of s (capture t k) ∷ []))
  beside-capture s es h t k ok = let c = ((capture-0 s t k).0 ok).0 in
      beside-named s es h (capture t k) t (step_move s (capture t k)) refl refl refl c.1 (omega (arith, c.2))
      (λ x m f. own-capture s h.good (at s t) t (done_by t es) x m f k ok)

  pub beside-collect : (s : Store) (es : List Entry) → SideBySide z c₀ s es → (t : ℕ) → number s (collect t) ≡ 0
      → SideBySide z c₀ (step s (collect t)).store (es ++ (entry_of s (collect t) ∷ []))
  beside-collect s es h t ok = let c = (collect-0 s t).0 ok in
      beside-named s es h (collect t) t (step_move s (collect t)) refl refl refl c.1 (omega (arith, c.2))
      (λ x m f. own-collect s h.good (at s t) t (done_by t es) x m f ok)

  pub beside-rows : (s : Store) (es : List Entry) → SideBySide z c₀ s es → (t room : ℕ) → number s (rows t room) ≡ 0
      → SideBySide z c₀ (step s (rows t room)).store (es ++ (entry_of s (rows t room) ∷ []))
  beside-rows s es h t room ok = let c = ((rows-0 s t room).0 ok).0 in
      beside-named s es h (rows t room) t (step_move s (rows t room)) refl refl refl c.1 (omega (arith, c.2))
      (λ x m f. own-rows s h.good (at s t) t (done_by t es) x m f room ok)

  pub beside-write : (s : Store) (es : List Entry) → SideBySide z c₀ s es → (t r : ℕ) (c : Content) → number s (write t r c) ≡ 0
      → SideBySide z c₀ (step s (write t r c)).store (es ++ (entry_of s (write t r c) ∷ []))
  beside-write s es h t r c ok =
      let d = ((write-0 s t r c).0 ok).0 in
      beside-named s es h (write t r c) t (step_move s (write t r c)) refl refl refl d.1 (omega (arith, d.2))
      (λ x m f. own-write s h.good (at s t) t (done_by t es) x m f r c ok)

  pub beside-validate : (s : Store) (es : List Entry) → SideBySide z c₀ s es → (t : ℕ) → number s (validate t) ≡ 0
      → SideBySide z c₀ (step s (validate t)).store (es ++ (entry_of s (validate t) ∷ []))
  beside-validate s es h t ok = let c = ((validate-0 s t).0 ok).0 in
      beside-named s es h (validate t) t (step_move s (validate t)) refl refl refl c.1 (omega (arith, c.2))
      (λ x m f. own-validate s h.good (at s t) t (done_by t es) x m f ok)

  pub beside-prepare : (s : Store) (es : List Entry) → SideBySide z c₀ s es → (t : ℕ) → number s (prepare t) ≡ 0
      → SideBySide z c₀ (step s (prepare t)).store (es ++ (entry_of s (prepare t) ∷ []))
  beside-prepare s es h t ok = let c = ((prepare-0 s t).0 ok).0 in
      beside-named s es h (prepare t) t (step_move s (prepare t)) refl refl refl c.1 (omega (arith, c.2))
      (λ x m f. own-prepare s h.good (at s t) t (done_by t es) x m f ok)

  pub beside-install : (s : Store) (es : List Entry) → SideBySide z c₀ s es → (t : ℕ) → number s (install t) ≡ 0
      → SideBySide z c₀ (step s (install t)).store (es ++ (entry_of s (install t) ∷ []))
  beside-install s es h t ok = let c = (install-0 s t).0 ok in
      beside-named s es h (install t) t (step_move s (install t)) refl refl refl c.1 (omega (arith, c.2))
      (λ x m f. own-install s h.good (at s t) t (done_by t es) x m f ok)

  -- a step that frees the place
  pub beside-publish : (s : Store) (es : List Entry) → SideBySide z c₀ s es → (t : ℕ) → number s (publish t) ≡ 0
      → SideBySide z c₀ (step s (publish t)).store (es ++ (entry_of s (publish t) ∷ []))
  unfolding accepted
  beside-publish s es h t ok =
      beside-move z c₀ s (step s (publish t)).store es (entry_of s (publish t)) (step_move s (publish t)) h refl
      (λ i d l c. d (h.good.numbers.distinct i (at s t) l (sym c ∙ sym number-b)))
      (omega (arith, number-b, h.good.numbers.below (at s t), clock-move s _ (step_move s (publish t))))
      (λ n o. and-false (eqb t n))
      (λ l e. omega (arith, ((publish-0 s t).0 ok).2))
      (λ l c. absurd (omega (arith, ap (λ (v : Txn). v.number) freed-b, l)))
    where
      number-b : (s.txns (at s t)).number ≡ t
      number-b = lives-number s t ((publish-0 s t).0 ok).1

      freed-b : (step s (publish t)).store.txns (at s t) ≡ no_txn
      freed-b = ap (λ w. w.store.txns (at s t)) (done-does s (publish t) ok) ∙ update_same s.txns (at s t) no_txn

  pub beside-abort : (s : Store) (es : List Entry) → SideBySide z c₀ s es → (t : ℕ) → number s (abort t) ≡ 0
      → SideBySide z c₀ (step s (abort t)).store (es ++ (entry_of s (abort t) ∷ []))
  unfolding accepted
  beside-abort s es h t ok =
      beside-move z c₀ s (step s (abort t)).store es (entry_of s (abort t)) (step_move s (abort t)) h refl
      (λ i d l c. d (h.good.numbers.distinct i (at s t) l (sym c ∙ sym number-b)))
      (omega (arith, number-b, h.good.numbers.below (at s t), clock-move s _ (step_move s (abort t))))
      (λ n o. rw (ne_eqb t n (λ e. omega (arith, ((abort-0 s t).0 ok).2, (h.gone n o).1 (at s t) live-b (number-b ∙ e)))) refl)
      (λ l e. omega (arith, ((abort-0 s t).0 ok).2))
      (λ l c. absurd (omega (arith, ap (λ (v : Txn). v.number) freed-b, l)))
    where
      number-b : (s.txns (at s t)).number ≡ t
      number-b = lives-number s t ((abort-0 s t).0 ok).1

      live-b : Live (s.txns (at s t))
      live-b = omega (arith, number-b, ((abort-0 s t).0 ok).1.3)

      freed-b : (step s (abort t)).store.txns (at s t) ≡ no_txn
      freed-b = ap (λ w. w.store.txns (at s t)) (done-does s (abort t) ok) ∙ update_same s.txns (at s t) no_txn

  -- begin: a new one is followed from its first step on
  pub beside-begin : (s : Store) (es : List Entry) → SideBySide z c₀ s es → number s begin ≡ 0
      → SideBySide z c₀ (step s begin).store (es ++ (entry_of s begin ∷ []))
  unfolding accepted live_count place_of
  beside-begin s es h ok =
      beside-move z c₀ s (step s begin).store es (entry_of s begin) (step_move s begin) h refl
      (λ i d l c. omega (arith, h.good.numbers.below i))
      (rw store_is (omega arith))
      (λ n o. rw (ne_eqb s.clock n (λ e. omega (arith, (h.gone n o).0))) refl)
      (λ l e. omega (arith, free-b))
      (λ l c. (started, (content_of s.chains (new_txn s).snapshot, rw (store_is, number-now, script-is) new)))
    where
      few : live_count s.txns < most_live
      few = ((begin-0 s).0 ok).1.0

      l-b : at s 0 < most_live
      l-b = first-free (λ i. eqb (s.txns i).number 0) 0 most_live few

      free-b : (s.txns (at s 0)).number ≡ 0
      free-b = place-number s 0 l-b

      does : step s begin ≡ accepted s begin
      does = done-does s begin ok

      store_is : (step s begin).store ≡ begun s (at s 0)
      store_is = ap (λ v. v.store) does

      here : (begun s (at s 0)).txns (at s 0) ≡ new_txn s
      here = update_same s.txns (at s 0) (new_txn s)

      number-now : ((begun s (at s 0)).txns (at s 0)).number ≡ s.clock
      number-now = ap (λ (v : Txn). v.number) here

      entry-is : entry_of s begin ≡ record { who = s.clock; what = begin; read = [] }
      entry-is = ap (λ (v : Stepped). record { who = s.clock; what = begin; read = returned s 0 v.answer }) does

      script-is : done_by s.clock (es ++ (entry_of s begin ∷ [])) ≡ record { who = s.clock; what = begin; read = [] } ∷ []
      script-is = mine-more s.clock es (entry_of s begin) refl refl
          ∙ (ap (λ l. l ++ (entry_of s begin ∷ [])) (none_yet s.clock es h.older) ∙ ap (λ e. e ∷ []) entry-is)

      new : Follow (begun s (at s 0)) (at s 0) s.clock (record { who = s.clock; what = begin; read = [] } ∷ []) started
          (content_of s.chains (new_txn s).snapshot)
      new = record {
        number_is = number-now;
        alive = h.good.numbers.clock-pos;
        phase-is = ap (λ (v : Txn). v.phase) here;
        buckets-are = ap (λ (v : Txn). map (λ (q : IndexRead). q.bucket) v.reads) here;
        writes_are = ap (λ (v : Txn). v.writes) here;
        records-are = ap (λ (v : Txn). map (λ (q : ReadRecord). q.row) v.records) here;
        plays = begins;
        early = λ l r. rw here refl;
        late = λ l r. absurd (omega arith);
        kept = λ l q o. absurd o;
        reads-in = λ q o. absurd o;
      }
