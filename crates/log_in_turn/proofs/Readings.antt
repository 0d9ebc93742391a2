-- What a run's lines tell is what its accepted steps are: who reached end, and the lines of the reads; in the turn these are the same. Assumes nothing.
use mathlib.Core.Path.{◌≡◌, refl, sym, ap, ◌∙◌}
use mathlib.Core.Bool.{Bool, true, false, cond, not, ◌&&◌}
use mathlib.Core.List.{List, [], ◌∷◌, ◌++◌, map, flat_map, append-nil}
use Prim.Native.Nat.{ℕ, ◌+◌}
use lib.Dec.{eqb}
use lib.ListN.{length}
use borrow.Author.Tests.{eqb-true}
use Rattle.model.specs.Store.{Sizes, Store, fresh}
use Rattle.model.specs.Contents.{Content, shown_to}
use Rattle.model.specs.Steps.{found_rows}
use Rattle.model.specs.Refusals.{Step, begin, capture, collect, rows, write, prepare, install, end, publish, validate, abort, txn_of}
use Rattle.model.specs.Machine.{step}
use Rattle.model.specs.Given.{number}
use Rattle.model.specs.Log.{Asking}
use Rattle.model.specs.Report.{line, word_of, answer_line}
use Rattle.model.proofs.Outcomes.{answers}
use Rattle.model_in_turn.specs.Done.{Entry, whose, entry_of, entries}
use Rattle.model_in_turn.specs.InTurn.{end_in, end_order, is_publish, done_by, renumbered, as_number, whole_of, in_turn, turn_of}
use Rattle.model_in_turn.proofs.Promises.{one-after-another}
use Rattle.log_in_turn.specs.Told.{ends_told, is_read, reads_where, reads_by, reads_told, reads_in_turn}
use Rattle.log_in_turn.proofs.Lines.{says-number}
use Rattle.log_in_turn.proofs.Spoken.{said}

and-true : (b : Bool) → b && true ≡ b
and-true true = refl
and-true false = refl

and-false : (b : Bool) → b && false ≡ false
and-false true = refl
and-false false = refl

-- who reached end
ends-said : (s : Store) (steps : List Step) → ends_told (said s steps) ≡ end_order (entries s steps)
unfolding ends_told said end_order entries
ends-said s [] = refl
ends-said s (a ∷ more) = rw (says-number a (step s a).answer) (go (eqb (number s a) 0) (ends-said (step s a).store more))
  where
    go : (b : Bool) → ends_told (said (step s a).store more) ≡ end_order (entries (step s a).store more)
        → cond b (end_in a ++ ends_told (said (step s a).store more)) (ends_told (said (step s a).store more))
        ≡ end_order (cond b (entry_of s a ∷ entries (step s a).store more) (entries (step s a).store more))
    go true h = ap (λ l. end_in a ++ l) h
    go false h = h

-- the rows of what was read
rows_in : List (ℕ × Content) → List ℕ
rows_in cs = map (λ c. c.0) cs

-- the line that says them: the word is the same for every number
read_line : List (ℕ × Content) → List ℕ
read_line cs = line (word_of (rows 0 0)) (0 ∷ length (rows_in cs) ∷ rows_in cs)

-- the lines of the reads among accepted steps
unfoldable reads_of : (ℕ → Bool) → List Entry → List (List ℕ)
reads_of test [] = []
reads_of test (e ∷ es) = cond (is_read test (Asking e.what)) (read_line e.read ∷ reads_of test es) (reads_of test es)

rows-again : (f : ℕ → Content) (rs : List ℕ) → rows_in (map (λ r. (r, f r)) rs) ≡ rs
unfolding rows_in
rows-again f [] = refl
rows-again f (r ∷ rs) = ap (λ l. r ∷ l) (rows-again f rs)

-- an accepted read has the line of what it read
one-read : (s : Store) (a : Step) (test : ℕ → Bool) (more : List (List ℕ)) → number s a ≡ 0
    → cond (is_read test (Asking a)) (answer_line a (step s a).answer ∷ more) more ≡ cond (is_read test (Asking a)) (read_line (entry_of s a).read ∷ more) more
unfolding read_line
one-read s begin test more e = refl
one-read s (capture t k) test more e = refl
one-read s (collect t) test more e = refl
one-read s (rows t room) test more e =
    let rs = found_rows s (txn_of s t) in
    rw (answers s (rows t room) e, rows-again (λ r. shown_to s.chains (txn_of s t) r) rs) refl
one-read s (write t r c) test more e = refl
one-read s (prepare t) test more e = refl
one-read s (install t) test more e = refl
one-read s (end t) test more e = refl
one-read s (publish t) test more e = refl
one-read s (validate t) test more e = refl
one-read s (abort t) test more e = refl

reads-said : (test : ℕ → Bool) (s : Store) (steps : List Step) → reads_where test (said s steps) ≡ reads_of test (entries s steps)
unfolding reads_where said reads_of entries
reads-said test s [] = refl
reads-said test s (a ∷ more) = rw (says-number a (step s a).answer) (go (eqb (number s a) 0) refl (reads-said test (step s a).store more))
  where
    rest-told : List (List ℕ)
    rest-told = reads_where test (said (step s a).store more)

    rest-done : List Entry
    rest-done = entries (step s a).store more

    go : (b : Bool) → eqb (number s a) 0 ≡ b → rest-told ≡ reads_of test rest-done
        → cond (is_read test (Asking a) && b) (answer_line a (step s a).answer ∷ rest-told) rest-told
        ≡ reads_of test (cond b (entry_of s a ∷ rest-done) rest-done)
    go true e h = rw (and-true (is_read test (Asking a)), h) (one-read s a test (reads_of test rest-done) (eqb-true (number s a) 0 e))
    go false e h = rw (and-false (is_read test (Asking a))) h

-- the reads of n are the reads among what n did: an entry of a read is of the one that it names, and is no publish
read_by : (s : Store) (n : ℕ) (a : Step) → is_read (λ m. eqb m n) (Asking a) ≡ is_read (λ m. true) (Asking a) && (eqb (whose s a) n && not (is_publish a))
read_by s n begin = refl
read_by s n (capture t k) = refl
read_by s n (collect t) = refl
read_by s n (rows t room) = sym (and-true (eqb t n))
read_by s n (write t r c) = refl
read_by s n (prepare t) = refl
read_by s n (install t) = refl
read_by s n (end t) = refl
read_by s n (publish t) = refl
read_by s n (validate t) = refl
read_by s n (abort t) = refl

reads-done : (s : Store) (steps : List Step) (n : ℕ) → reads_of (λ m. eqb m n) (entries s steps) ≡ reads_of (λ m. true) (done_by n (entries s steps))
unfolding reads_of entries done_by
reads-done s [] n = refl
reads-done s (a ∷ more) n = go (eqb (number s a) 0) (reads-done (step s a).store more n)
  where
    rest-done : List Entry
    rest-done = entries (step s a).store more

    own_line : List ℕ
    own_line = read_line (entry_of s a).read

    kept : (r b : Bool) → reads_of (λ m. eqb m n) rest-done ≡ reads_of (λ m. true) (done_by n rest-done)
        → cond (r && b) (own_line ∷ reads_of (λ m. eqb m n) rest-done) (reads_of (λ m. eqb m n) rest-done)
        ≡ cond b (cond r (own_line ∷ reads_of (λ m. true) (done_by n rest-done)) (reads_of (λ m. true) (done_by n rest-done)))
        (reads_of (λ m. true) (done_by n rest-done))
    kept true true h = ap (λ l. own_line ∷ l) h
    kept true false h = h
    kept false true h = h
    kept false false h = h

    picked : (b : Bool) → cond b (reads_of (λ m. true) (entry_of s a ∷ done_by n rest-done)) (reads_of (λ m. true) (done_by n rest-done))
        ≡ reads_of (λ m. true) (cond b (entry_of s a ∷ done_by n rest-done) (done_by n rest-done))
    picked true = refl
    picked false = refl

    go : (b : Bool) → reads_of (λ m. eqb m n) rest-done ≡ reads_of (λ m. true) (done_by n rest-done)
        → reads_of (λ m. eqb m n) (cond b (entry_of s a ∷ rest-done) rest-done) ≡ reads_of (λ m. true) (done_by n (cond b (entry_of s a ∷ rest-done) rest-done))
    go true h = rw (read_by s n a) (kept (is_read (λ m. true) (Asking a)) (eqb (whose s a) n && not (is_publish a)) h)
        ∙ picked (eqb (whose s a) n && not (is_publish a))
    go false h = h

-- the reads of the turn
reads_both : (xs ys : List Entry) → reads_of (λ m. true) (xs ++ ys) ≡ reads_of (λ m. true) xs ++ reads_of (λ m. true) ys
unfolding reads_of
reads_both [] ys = refl
reads_both (e ∷ xs) ys = go (is_read (λ m. true) (Asking e.what)) (reads_both xs ys)
  where
    all : List Entry → List (List ℕ)
    all es = reads_of (λ m. true) es

    go : (b : Bool) → all (xs ++ ys) ≡ all xs ++ all ys
        → cond b (read_line e.read ∷ all (xs ++ ys)) (all (xs ++ ys)) ≡ cond b (read_line e.read ∷ all xs) (all xs) ++ all ys
    go true h = ap (λ l. read_line e.read ∷ l) h
    go false h = h

-- another number reads the same
still_read : (m : ℕ) (a : Step) → is_read (λ n. true) (Asking (renumbered m a)) ≡ is_read (λ n. true) (Asking a)
still_read m begin = refl
still_read m (capture t k) = refl
still_read m (collect t) = refl
still_read m (rows t room) = refl
still_read m (write t r c) = refl
still_read m (prepare t) = refl
still_read m (install t) = refl
still_read m (end t) = refl
still_read m (publish t) = refl
still_read m (validate t) = refl
still_read m (abort t) = refl

reads-again : (m : ℕ) (es : List Entry) → reads_of (λ n. true) (map (as_number m) es) ≡ reads_of (λ n. true) es
unfolding reads_of
reads-again m [] = refl
reads-again m (e ∷ es) = rw (still_read m e.what, reads-again m es) refl

reads_whole : (m n : ℕ) (es : List Entry) → reads_of (λ k. true) (whole_of m n es) ≡ reads_of (λ k. true) (done_by n es)
unfolding reads_of
reads_whole m n es = reads_both (map (as_number m) (done_by n es)) (record { who = m; what = publish m; read = [] } ∷ [])
    ∙ (append-nil _ ∙ reads-again m (done_by n es))

reads-turn : (clock : ℕ) (ns : List ℕ) (es : List Entry) → reads_of (λ m. true) (in_turn clock ns es) ≡ flat_map (λ n. reads_of (λ m. true) (done_by n es)) ns
unfolding reads_of in_turn flat_map
reads-turn clock [] es = refl
reads-turn clock (n ∷ ns) es = reads_both (whole_of clock n es) (in_turn (2 + clock) ns es) ∙ rw (reads_whole clock n es, reads-turn (2 + clock) ns es) refl

each_same : (f g : ℕ → List (List ℕ)) (ns : List ℕ) → ((n : ℕ) → f n ≡ g n) → flat_map f ns ≡ flat_map g ns
unfolding flat_map
each_same f g [] h = refl
each_same f g (n ∷ ns) h = rw (h n, each_same f g ns h) refl

-- the turn's lines tell the reads of those that reached end
pub same-said : (z : Sizes) (clock : ℕ) (steps : List Step)
    → reads_told (said (fresh z clock) (turn_of (fresh z clock) steps)) ≡ reads_in_turn (said (fresh z clock) steps)
same-said z clock steps =
    let s = fresh z clock in
    let es = entries s steps in
    reads-said (λ m. true) s (turn_of s steps)
    ∙ (ap (reads_of (λ m. true)) (one-after-another z clock steps).same_reads
    ∙ (reads-turn clock (end_order es) es
    ∙ (each_same (λ n. reads_of (λ m. true) (done_by n es)) (λ n. reads_by n (said s steps)) (end_order es)
    (λ n. sym (reads-said (λ m. eqb m n) s steps ∙ reads-done s steps n))
    ∙ ap (flat_map (λ n. reads_by n (said s steps))) (sym (ends-said s steps)))))
