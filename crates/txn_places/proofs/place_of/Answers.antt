-- No place past the last one; one place before; all of them.
use Rattle.std.proofs.Common.{◌≡◌, ℕ, List, ◌∙◌, ◌-◌, ◌<◌, ◌≤◌, length, get_or, ap, sym, arith, drop}
use borrow.Author.Tests.{eq-eqb, ne_eqb}
use Rattle.txn_places.specs.Places.{place_from}
use Rattle.txn_places.proofs.Laws.{place-before, place_end}
use Rattle.txn_places.proofs.place_of.Goals as goal

pub loop-i-init : goal.loop-i-init
loop-i-init c = sym (place_end _ _ c.args.number (omega arith))

-- the place is this one where the number stands here, and else the one found before
here : (l : List ℕ) (i n : ℕ) → 0 < i → i ≤ length l → get_or l (i - 1) 0 ≡ n → i - 1 ≡ place_from (i - 1) (drop (i - 1) l) n
here l i n h k e = sym (place-before l i n (i - 1) (omega arith) k ∙ rw (eq-eqb _ _ e))

past : (l : List ℕ) (i n place : ℕ) → 0 < i → i ≤ length l → (get_or l (i - 1) 0 ≡ n → ⊥) → place ≡ place_from i (drop i l) n
    → place ≡ place_from (i - 1) (drop (i - 1) l) n
past l i n place h k e p = p ∙ sym (place-before l i n (i - 1) (omega arith) k ∙ rw (ne_eqb _ _ e))

pub loop-i-preserved : goal.loop-i-preserved
loop-i-preserved c =
    past c.args.numbers.now c.loop-i.i c.args.number _ (omega arith) (omega arith) c.if-numbers-i.false c.loop-i.invariant

pub loop-i-preserved-then-numbers-i : goal.loop-i-preserved-then-numbers-i
loop-i-preserved-then-numbers-i c =
    here c.args.numbers.now c.loop-i.i c.args.number (omega arith) (omega arith) c.if-numbers-i.true

pub returns : goal.returns
returns c =
    let e : c.loop-i.i ≡ 0 = omega arith in
    c.loop-i.invariant ∙ ap (λ i. place_from i (drop i c.args.numbers.now) c.args.number) e
