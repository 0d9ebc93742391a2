-- Entries of a run, one more at a time: those of one transaction, the order of ends, the turns; and the same entries under another number. Assumes nothing.
use mathlib.Core.Path.{◌≡◌, refl, sym, ap, ◌∙◌}
use mathlib.Core.Bool.{Bool, true, false, cond, not, ◌&&◌}
use mathlib.Core.Logic.{inl, inr}
use mathlib.Core.List.{List, [], ◌∷◌, ◌++◌, map, append_assoc, map-append, append-nil}
use Prim.Native.Nat.{ℕ, suc, ◌+◌, ◌<◌}
use native.Mathlib.Omega.{arith}
use lib.Dec.{eqb}
use lib.ListN.{length}
use borrow.Author.Tests.{eq-eqb, ne_eqb}
use Rattle.base_lists.specs.Lists.{Among}
use Rattle.model.specs.Store.{Sizes}
use Rattle.model.specs.Contents.{Content}
use Rattle.model.specs.Refusals.{Step}
use Rattle.model_in_turn.specs.Done.{Entry}
use Rattle.model_in_turn.specs.InTurn.{end_in, end_order, is_publish, done_by, renumbered, as_number, whole_of, in_turn}
use Rattle.model_in_turn.proofs.ByItself.{Local, Plays, plays-capture, plays-collect, plays-rows, plays-write, plays-validate, plays-prepare}
use Rattle.model_in_turn.proofs.ByItself.{plays-install, plays-end, Played, begins, then}

-- one entry more
pub mine-more : (n : ℕ) (es : List Entry) (e : Entry) → e.who ≡ n → is_publish e.what ≡ false → done_by n (es ++ (e ∷ [])) ≡ done_by n es ++ (e ∷ [])
unfolding done_by
mine-more n [] e w p = rw (eq-eqb e.who n w, p) refl
mine-more n (d ∷ es) e w p = go (eqb d.who n && not (is_publish d.what)) (mine-more n es e w p)
  where
    go : (b : Bool) → done_by n (es ++ (e ∷ [])) ≡ done_by n es ++ (e ∷ [])
        → cond b (d ∷ done_by n (es ++ (e ∷ []))) (done_by n (es ++ (e ∷ []))) ≡ cond b (d ∷ done_by n es) (done_by n es) ++ (e ∷ [])
    go true h = ap (λ l. d ∷ l) h
    go false h = h

pub others_same : (n : ℕ) (es : List Entry) (e : Entry) → eqb e.who n && not (is_publish e.what) ≡ false → done_by n (es ++ (e ∷ [])) ≡ done_by n es
unfolding done_by
others_same n [] e h = rw h refl
others_same n (d ∷ es) e h = rw (others_same n es e h) refl

pub none_yet : (n : ℕ) (es : List Entry) → ((e : Entry) → Among e es → e.who < n) → done_by n es ≡ []
unfolding done_by
none_yet n [] h = refl
none_yet n (e ∷ es) h = rw (ne_eqb e.who n (λ f. omega (arith, h e (inl refl))), none_yet n es (λ d o. h d (inr o))) refl

pub order-more : (es : List Entry) (e : Entry) → end_order (es ++ (e ∷ [])) ≡ end_order es ++ end_in e.what
unfolding end_order
order-more [] e = append-nil (end_in e.what)
order-more (d ∷ es) e = ap (λ l. end_in d.what ++ l) (order-more es e) ∙ sym (append_assoc (end_in d.what) (end_order es) (end_in e.what))

pub turn-same : (c : ℕ) (ns : List ℕ) (es es' : List Entry) → ((n : ℕ) → Among n ns → done_by n es ≡ done_by n es') → in_turn c ns es ≡ in_turn c ns es'
unfolding in_turn
turn-same c [] es es' h = refl
turn-same c (n ∷ ns) es es' h = rw (h n (inl refl), turn-same (2 + c) ns es es' (λ k o. h k (inr o))) refl

pub turn_more : (c : ℕ) (ns : List ℕ) (n : ℕ) (es : List Entry) → in_turn c (ns ++ (n ∷ [])) es ≡ in_turn c ns es ++ whole_of (c + (length ns + length ns)) n es
unfolding in_turn
turn_more c [] n es = append-nil (whole_of c n es) ∙ ap (λ k. whole_of k n es) (omega arith)
turn_more c (k ∷ ns) n es =
    let e : 2 + c + (length ns + length ns) ≡ c + (suc (length ns) + suc (length ns)) = omega arith in
    ap (λ l. whole_of c k es ++ l) (turn_more (2 + c) ns n es ∙ ap (λ w. in_turn (2 + c) ns es ++ whole_of w n es) e)
    ∙ sym (append_assoc (whole_of c k es) (in_turn (2 + c) ns es) _)

-- the same by another number
plays-again : (z : Sizes) (m : ℕ → Content) (n k : ℕ) (x y : Local) (a : Step) (read : List (ℕ × Content)) → Plays z m n x a read y
    → Plays z m k x (renumbered k a) read y
plays-again z m n k x y a read (plays-capture j p o) = plays-capture j p o
plays-again z m n k x y a read (plays-collect b j p) = plays-collect b j p
plays-again z m n k x y a read (plays-rows room j rs rd p e f u v) = plays-rows room j rs rd p e f u v
plays-again z m n k x y a read (plays-write r c p u v) = plays-write r c p u v
plays-again z m n k x y a read (plays-validate p) = plays-validate p
plays-again z m n k x y a read (plays-prepare p) = plays-prepare p
plays-again z m n k x y a read (plays-install p) = plays-install p
plays-again z m n k x y a read (plays-end p) = plays-end p

pub played-again : (z : Sizes) (m : ℕ → Content) (n k : ℕ) (es : List Entry) (x : Local) → Played z m n es x → Played z m k (map (as_number k) es) x
played-again z m n k es x begins = begins
played-again z m n k es y (then {es = ds} {x = x} {a = a} {read = read} d p) =
    rw (map-append (as_number k) ds (record { who = n; what = a; read = read } ∷ [])) (then (played-again z m n k ds x d) (plays-again z m n k x y a read p))
