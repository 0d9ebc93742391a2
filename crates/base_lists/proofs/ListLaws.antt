-- What the lists of the model hold: entries, picked numbers, tests of each entry. Assumes nothing.
use mathlib.Core.Path.{◌≡◌, refl, sym, ap, ◌∙◌}
use mathlib.Core.Bool.{Bool, true, false, cond, not, ◌&&◌, ◌||◌, false≢true, true≢false}
use mathlib.Core.Logic.{◌⊎◌, inl, inr, ⊎_elim}
use mathlib.Core.List.{List, [], ◌∷◌, ◌++◌, map}
use Prim.Native.Nat.{ℕ, zero, suc, ◌+◌, ◌≤◌, ◌<◌}
use native.Mathlib.Omega.{arith}
use native.Mathlib.Decide.{ℕ_discrete}
use lib.Dec.{eqb, ltb}
use lib.ListN.{length}
use borrow.Author.Tests.{eqb-true, eq-eqb, ltb-true, ltb-false}
use Rattle.base_lists.specs.Lists.{member, least, pick, first, every, some_of, all_of, join, Among, Rising}
use Rattle.base_lists.proofs.TableLaws.{cond-elim}

-- tests joined by `and` and `or`
pub and_l : (a b : Bool) → a && b ≡ true → a ≡ true
and_l true b e = refl
and_l false b e = e

pub and_r : (a b : Bool) → a && b ≡ true → b ≡ true
and_r true b e = e
and_r false b e = absurd (false≢true e)

pub and_both : (a b : Bool) → a ≡ true → b ≡ true → a && b ≡ true
and_both a b p q = rw p q

pub and-false : (b : Bool) → b && false ≡ false
and-false true = refl
and-false false = refl

pub or_left : (a b : Bool) → a ≡ true → a || b ≡ true
or_left a b e = rw e

pub or_right : (a b : Bool) → b ≡ true → a || b ≡ true
or_right true b e = refl
or_right false b e = e

pub or_cases : (a b : Bool) → a || b ≡ true → (a ≡ true) ⊎ (b ≡ true)
or_cases true b e = inl refl
or_cases false b e = inr e

pub or_l : (a b : Bool) → a || b ≡ false → a ≡ false
or_l true b e = e
or_l false b e = refl

pub or_r : (a b : Bool) → a || b ≡ false → b ≡ false
or_r true b e = absurd (true≢false e)
or_r false b e = e

pub is_false : (t : Bool) → (t ≡ true → ⊥) → t ≡ false
is_false true h = absurd (h refl)
is_false false h = refl

-- two tests that hold together are one
pub same_test : (a b : Bool) → (a ≡ true → b ≡ true) → (b ≡ true → a ≡ true) → a ≡ b
same_test true b f g = sym (f refl)
same_test false b f g = sym (is_false b (λ e. false≢true (g e)))

module _ {A : Type 0} where
  pub among-left : (x : A) (ys zs : List A) → Among x ys → Among x (ys ++ zs)
  among-left x (y ∷ ys) zs (inl e) = inl e
  among-left x (y ∷ ys) zs (inr m) = inr (among-left x ys zs m)
  among-left x [] zs x'' = elim x'' [ ]

  pub among-right : (x : A) (ys zs : List A) → Among x zs → Among x (ys ++ zs)
  among-right x [] zs m = m
  among-right x (y ∷ ys) zs m = inr (among-right x ys zs m)

  pub among_cases : (x : A) (ys zs : List A) → Among x (ys ++ zs) → Among x ys ⊎ Among x zs
  among_cases x [] zs m = inr m
  among_cases x (y ∷ ys) zs (inl e) = inl (inl e)
  among_cases x (y ∷ ys) zs (inr m) = ⊎_elim (λ l. inl (inr l)) inr (among_cases x ys zs m)

  -- an entry appended
  pub among-last : (x y : A) (ys : List A) → Among x (ys ++ (y ∷ [])) → Among x ys ⊎ (x ≡ y)
  among-last x y ys m = ⊎_elim inl (λ r. ⊎_elim inr (λ n. absurd n) r) (among_cases x ys (y ∷ []) m)

  pub each_all : (test : A → Bool) (xs : List A) → ((x : A) → Among x xs → test x ≡ true) → all_of test xs ≡ true
  unfolding all_of
  each_all test [] h = refl
  each_all test (y ∷ xs) h = and_both _ _ (h y (inl refl)) (each_all test xs (λ x m. h x (inr m)))

  pub none_each : (test : A → Bool) (xs : List A) → some_of test xs ≡ false → (x : A) → Among x xs → test x ≡ false
  unfolding some_of
  none_each test (y ∷ xs) e x (inl f) = rw f (or_l (test y) (some_of test xs) e)
  none_each test (y ∷ xs) e x (inr m) = none_each test xs (or_r (test y) (some_of test xs) e) x m
  none_each test [] e x x4 = elim x4 [ ]

  pub some-which : (test : A → Bool) (xs : List A) → some_of test xs ≡ true → (x : A) × Among x xs × (test x ≡ true)
  unfolding some_of
  some-which test [] e = absurd (false≢true e)
  some-which test (y ∷ xs) e = ⊎_elim (λ t. (y, inl refl, t)) (λ t. let w = some-which test xs t in (w.0, inr w.1, w.2)) (or_cases _ _ e)

  pub which-some : (test : A → Bool) (xs : List A) (x : A) → Among x xs → test x ≡ true → some_of test xs ≡ true
  unfolding some_of
  which-some test (y ∷ xs) x (inl f) t = or_left _ _ (rw f at t)
  which-some test (y ∷ xs) x (inr m) t = or_right (test y) _ (which-some test xs x m t)
  which-some test [] x x4 t = elim x4 [ ]

module _ {A : Type 0} where
  pub join-which : (f : A → List ℕ) (xs : List A) (b : ℕ) → Among b (join f xs) → (x : A) × Among x xs × Among b (f x)
  unfolding join
  join-which f (y ∷ xs) b m = ⊎_elim (λ l. (y, inl refl, l)) (λ r. let w = join-which f xs b r in (w.0, inr w.1, w.2)) (among_cases b (f y) (join f xs) m)
  join-which f [] b m = elim m [ ]

  pub which-join : (f : A → List ℕ) (xs : List A) (b : ℕ) (x : A) → Among x xs → Among b (f x) → Among b (join f xs)
  unfolding join
  which-join f (y ∷ xs) b x (inl e) m = among-left b (f y) (join f xs) (rw e at m)
  which-join f (y ∷ xs) b x (inr n) m = among-right b (f y) (join f xs) (which-join f xs b x n m)
  which-join f [] b x x4 m = elim x4 [ ]

  pub join-same : (f g : A → List ℕ) (xs : List A) → ((x : A) → Among x xs → f x ≡ g x) → join f xs ≡ join g xs
  unfolding join
  join-same f g [] h = refl
  join-same f g (y ∷ xs) h = rw (h y (inl refl), join-same f g xs (λ x m. h x (inr m)))

module _ {A B : Type 0} where
  pub among-map : (f : A → B) (xs : List A) (x : A) → Among x xs → Among (f x) (map f xs)
  among-map f (y ∷ xs) x (inl e) = inl (ap f e)
  among-map f (y ∷ xs) x (inr m) = inr (among-map f xs x m)
  among-map f [] x x3 = elim x3 [ ]

  pub map_same : (f g : A → B) → ((x : A) → f x ≡ g x) → (xs : List A) → map f xs ≡ map g xs
  map_same f g e [] = refl
  map_same f g e (x ∷ xs) = rw (e x, map_same f g e xs)

  pub map-among : (f : A → B) (xs : List A) (y : B) → Among y (map f xs) → (x : A) × Among x xs × (y ≡ f x)
  map-among f (x ∷ xs) y (inl e) = (x, inl refl, e)
  map-among f (x ∷ xs) y (inr m) = let w = map-among f xs y m in (w.0, inr w.1, w.2)
  map-among f [] y x' = elim x' [ ]

-- the test of membership, and its fact
pub member-among : (x : ℕ) (ys : List ℕ) → member x ys ≡ true → Among x ys
unfolding member
member-among x [] e = absurd (false≢true e)
member-among x (y ∷ ys) e = ⊎_elim (λ t. inl (eqb-true x y t)) (λ t. inr (member-among x ys t)) (or_cases _ _ e)

pub among-member : (x : ℕ) (ys : List ℕ) → Among x ys → member x ys ≡ true
unfolding member
among-member x (y ∷ ys) (inl e) = or_left _ _ (eq-eqb x y e)
among-member x (y ∷ ys) (inr m) = or_right (eqb x y) _ (among-member x ys m)
among-member x [] x'' = elim x'' [ ]

pub not-member : (x : ℕ) (ys : List ℕ) → (Among x ys → ⊥) → member x ys ≡ false
not-member x ys h = is_false _ (λ e. h (member-among x ys e))

-- the least is at most the number and each of the list
pub least-own : (n : ℕ) (xs : List ℕ) → least n xs ≤ n
unfolding least
least-own n [] = omega arith
least-own n (x ∷ xs) = cond-elim (λ m. least m xs ≤ n) (ltb x n) x n (λ e. omega (arith, least-own x xs, ltb-true x n e)) (λ e. least-own n xs)

pub least-each : (n : ℕ) (xs : List ℕ) (m : ℕ) → Among m xs → least n xs ≤ m
unfolding least
least-each n (x ∷ xs) m (inl d) =
    cond-elim (λ k. least k xs ≤ m) (ltb x n) x n (λ e. omega (arith, least-own x xs)) (λ e. omega (arith, least-own n xs, ltb-false x n e))
least-each n (x ∷ xs) m (inr w) = least-each (cond (ltb x n) x n) xs m w
least-each n [] m x' = elim x' [ ]

-- so a number below the least is none of the list's
pub below-least : (n : ℕ) (xs : List ℕ) (m : ℕ) → m < least n xs → member m xs ≡ false
below-least n xs m l = not-member m xs (λ w. omega (arith, least-each n xs m w))

pub rising-from : (j k : ℕ) (rs : List ℕ) → j ≤ k → Rising k rs → Rising j rs
rising-from j k [] h g = tt
rising-from j k (r ∷ rs) h g = (omega (arith, g.0), g.1)

pub rising-above : (k : ℕ) (rs : List ℕ) → Rising k rs → (r : ℕ) → Among r rs → k ≤ r
rising-above k (q ∷ rs) g r (inl e) = omega (arith, g.0)
rising-above k (q ∷ rs) g r (inr m) = omega (arith, g.0, rising-above (suc q) rs g.1 r m)
rising-above k [] g r x'' = elim x'' [ ]

pub pick-rising : (test : ℕ → Bool) (k n : ℕ) → Rising k (pick test k n)
unfolding pick
pick-rising test k zero = tt
pick-rising test k (suc n) = let ih = pick-rising test (suc k) n in
    cond-elim (λ l. Rising k l) (test k) _ _ (λ t. (omega arith, ih)) (λ t. rising-from k (suc k) (pick test (suc k) n) (omega arith) ih)

-- what is picked: each number in range at which the test holds
pub pick-which : (test : ℕ → Bool) (k n r : ℕ) → Among r (pick test k n) → (k ≤ r) × (r < k + n) × (test r ≡ true)
unfolding pick
pick-which test k (suc n) r m = cond-elim (λ l. Among r l → (k ≤ r) × (r < k + suc n) × (test r ≡ true)) (test k) _ _
    (λ t m. ⊎_elim (λ e. (omega arith, omega arith, rw e t)) (λ m. on (pick-which test (suc k) n r m)) m)
    (λ t m. on (pick-which test (suc k) n r m)) m
  where
    on : (suc k ≤ r) × (r < suc k + n) × (test r ≡ true) → (k ≤ r) × (r < k + suc n) × (test r ≡ true)
    on w = (omega arith, omega arith, w.2)
pick-which test k zero r m = elim m [ ]

pub which-pick : (test : ℕ → Bool) (k n r : ℕ) → k ≤ r → r < k + n → test r ≡ true → Among r (pick test k n)
unfolding pick
which-pick test k zero r l u t = absurd (omega arith)
which-pick test k (suc n) r l u t = cond-elim (λ ps. Among r ps) (test k) _ _
    (λ e. elim (ℕ_discrete r k) [ yes d ↦ inl d | no d ↦ inr (which-pick test (suc k) n r (omega arith) (omega arith) t) ])
    (λ e. which-pick test (suc k) n r (above (ℕ_discrete r k) e) (omega arith) t)
  where
    above : Dec (r ≡ k) → test k ≡ false → suc k ≤ r
    above (yes d) e = absurd (true≢false (sym t ∙ (rw d e)))
    above (no d) e = omega arith

pub pick_same : (test also : ℕ → Bool) (k n : ℕ) → ((r : ℕ) → k ≤ r → r < k + n → test r ≡ also r) → pick test k n ≡ pick also k n
unfolding pick
pick_same test also k zero h = refl
pick_same test also k (suc n) h = rw (h k (omega arith) (omega arith), pick_same test also (suc k) n (λ r l u. h r (omega arith) (omega arith)))

-- two picks of the same numbers are one
pub pick-among : (test also : ℕ → Bool) (k n : ℕ) → ((r : ℕ) → Among r (pick test k n) → Among r (pick also k n))
    → ((r : ℕ) → Among r (pick also k n) → Among r (pick test k n)) → pick test k n ≡ pick also k n
pick-among test also k n f g =
    pick_same test also k n (λ r l u. same_test _ _ (λ e. (pick-which also k n r (f r (which-pick test k n r l u e))).2)
    (λ e. (pick-which test k n r (g r (which-pick also k n r l u e))).2))

pub pick-none : (test : ℕ → Bool) (k n : ℕ) → ((r : ℕ) → test r ≡ false) → pick test k n ≡ []
unfolding pick
pick-none test k zero h = refl
pick-none test k (suc n) h = rw (h k) (pick-none test (suc k) n h)

pub pick-few : (test : ℕ → Bool) (k n : ℕ) → length (pick test k n) ≤ n
unfolding pick
pick-few test k zero = omega arith
pick-few test k (suc n) = let ih = pick-few test (suc k) n in
    cond-elim (λ l. length l ≤ suc n) (test k) (k ∷ pick test (suc k) n) (pick test (suc k) n) (λ t. omega arith) (λ t. omega arith)

-- a test that holds less often picks fewer
pub pick-fewer : (test also : ℕ → Bool) (k n : ℕ) → ((r : ℕ) → test r ≡ true → also r ≡ true) → length (pick test k n) ≤ length (pick also k n)
unfolding pick
pick-fewer test also k zero h = omega arith
pick-fewer test also k (suc n) h = go (test k) refl (also k) refl (pick-fewer test also (suc k) n h)
  where
    go : (a : Bool) → test k ≡ a → (b : Bool) → also k ≡ b → length (pick test (suc k) n) ≤ length (pick also (suc k) n)
        → length (cond a (k ∷ pick test (suc k) n) (pick test (suc k) n)) ≤ length (cond b (k ∷ pick also (suc k) n) (pick also (suc k) n))
    go true p true q ih = omega arith
    go true p false q ih = absurd (true≢false (sym (h k p) ∙ q))
    go false p true q ih = omega arith
    go false p false q ih = ih

-- two maps agree on what is picked
pub map-pick : {B : Type 0} (f g : ℕ → B) (test also : ℕ → Bool) (k n : ℕ) → ((r : ℕ) → k ≤ r → r < k + n → test r ≡ also r)
    → ((r : ℕ) → k ≤ r → r < k + n → also r ≡ true → f r ≡ g r) → map f (pick test k n) ≡ map g (pick also k n)
map-pick f g test also k n h e = rw (pick_same test also k n h) (map_same (pick also k n) (λ r m. let w = pick-which also k n r m in e r w.0 w.1 w.2))
  where
    map_same : (rs : List ℕ) → ((r : ℕ) → Among r rs → f r ≡ g r) → map f rs ≡ map g rs
    map_same [] h = refl
    map_same (r ∷ rs) h = rw (h r (inl refl), map_same rs (λ q m. h q (inr m)))

-- the first number at which the test holds
pub first_holds : (test : ℕ → Bool) (k n : ℕ) → first test k n < k + n → test (first test k n) ≡ true
unfolding first
first_holds test k zero = λ l. absurd (omega arith)
first_holds test k (suc n) = cond-elim (λ p. p < k + suc n → test p ≡ true) (test k) _ _ (λ t l. t) (λ t l. first_holds test (suc k) n (omega arith))

-- fewer are picked than there are, so the other test holds somewhere
pub first-free : (test : ℕ → Bool) (k n : ℕ) → length (pick (λ i. not (test i)) k n) < n → first test k n < k + n
unfolding first pick
first-free test k zero = λ l. absurd (omega arith)
first-free test k (suc n) = go (test k) (first-free test (suc k) n)
  where
    go : (t : Bool) → (length (pick (λ i. not (test i)) (suc k) n) < n → first test (suc k) n < suc k + n)
        → length (cond (not t) (k ∷ pick (λ i. not (test i)) (suc k) n) (pick (λ i. not (test i)) (suc k) n)) < suc n
        → cond t k (first test (suc k) n) < k + suc n
    go true ih l = omega arith
    go false ih l = omega (arith, ih (omega arith))

pub every-each : (n : ℕ) (test : ℕ → Bool) → ((i : ℕ) → i < n → test i ≡ true) → every n test ≡ true
unfolding every
every-each zero test h = refl
every-each (suc n) test h = and_both _ _ (every-each n test (λ i l. h i (omega arith))) (h n (omega arith))
