-- A finished read, and a read that a later validation or prepare finds good: put together. Assumes nothing.
use mathlib.Core.Path.{◌≡◌, ap, ◌∙◌}
use mathlib.Core.Option.{some}
use mathlib.Core.List.{List, [], map}
use Prim.Native.Nat.{ℕ}
use Rattle.base_lists.specs.Lists.{Among}
use Rattle.model.specs.Store.{Sizes, Collected, ReadRecord, Store, fresh, key_in}
use Rattle.model.specs.Seeing.{shows, snapshot_now}
use Rattle.model.specs.Verdict.{Clear}
use Rattle.model.specs.Steps.{found_rows}
use Rattle.model.specs.Refusals.{Step, rows, prepare, validate, txn_of}
use Rattle.model.specs.Machine.{Done, Rows, Judged, step, run}
use Rattle.model.specs.Demands.{KeptVersion, FinishedRead, StandingRead}
use Rattle.model.proofs.Phases.{collected-is}
use Rattle.model.proofs.SeeingLaws.{record_all-cases, record_all-keeps}
use Rattle.model.proofs.Good.{Good, sizes_run}
use Rattle.model.proofs.Lasting.{Lasts, lasts-all, lasts_on, lasts-step, shown-in}
use Rattle.model.proofs.Ruled.{refuses}
use Rattle.model.proofs.Unrefused.{reached}
use Rattle.model.proofs.Finished.{found-whole, rows-done, rows-recorded, found-rising}
use Rattle.model.proofs.Validated.{validate-passed, prepare-passed, validated-shows, prepared-shows, standing}

pub finished : (z : Sizes) (clock : ℕ) (before : List Step) (t room : ℕ) (rs : List ℕ) → let s = run (fresh z clock) before in
    (step s (rows t room)).answer ≡ Rows rs → FinishedRead s (step s (rows t room)).store t rs
finished z clock before t room rs e =
    let s = run (fresh z clock) before in
    let g = reached z clock before (rows t room) (ap refuses e) in
    let d = rows-done s t room rs e in
    record {
      key = key_in (txn_of s t).phase;
      phase-is = collected-is (txn_of s t).phase d.collected;
      whole = d.answer-is ∙ found-whole s g _ d.alive d.collected;
      ascending = found-rising s t room rs d;
      recorded = λ r m p. rw d.txn-is (rows-recorded s t room rs g d r m p);
      kept = λ q m. rw d.txn-is (record_all-keeps s.chains (txn_of s t) (txn_of s t).records (found_rows s (txn_of s t)) q m);
      no_other = λ q m. rw d.answer-is (record_all-cases s.chains (txn_of s t) (txn_of s t).records (found_rows s (txn_of s t)) q (rw d.txn-is at m));
    }

-- the versions of a store last through a step, any steps and another step
lasts-through : (s₁ : Store) (a b : Step) (between : List Step) → Good s₁ → let s₂ = run (step s₁ a).store between in
    Lasts s₁.chains (step s₂ b).store.chains
lasts-through s₁ a b between g = (lasts-step s₁.chains _ b (lasts_on s₁.chains _ (lasts-step s₁.chains s₁ a (g, lasts-all s₁.chains)) between)).1

-- what was shown keeps its key and its payload
module _ (z : Sizes) (s₁ s₂ : Store) (t k : ℕ) (h : Lasts s₁.chains s₂.chains) (q : ReadRecord)
    (m : Among q (shows s₁.chains z.rows (txn_of s₁ t).snapshot k)) where
  kept-shown : KeptVersion s₁.chains s₂.chains q.ptr
  kept-shown = let w = shown-in s₁.chains z.rows (txn_of s₁ t).snapshot k q m in h q.ptr w.0 w.1

  shown-keys : (s₁.chains.key q.ptr ≡ some k) × (s₂.chains.key q.ptr ≡ some k)
  shown-keys = let e = (shown-in s₁.chains z.rows (txn_of s₁ t).snapshot k q m).2 in (e, kept-shown.same.key-stays ∙ e)

stands : (z : Sizes) (s₁ s₂ : Store) (t k : ℕ) (rs : List ℕ) → Lasts s₁.chains s₂.chains
    → shows s₂.chains z.rows (snapshot_now s₂) k ≡ shows s₁.chains z.rows (txn_of s₁ t).snapshot k
    → map (λ (q : ReadRecord). q.row) (shows s₁.chains z.rows (txn_of s₁ t).snapshot k) ≡ rs → StandingRead z s₁ s₂ t k rs
stands z s₁ s₂ t k rs h a b =
    record { shows_same = a; rows_are = b; keys-are = shown-keys z s₁ s₂ t k h; payloads-same = λ q m. (kept-shown z s₁ s₂ t k h q m).same.payload-stays }

pub validated : (z : Sizes) (clock : ℕ) (before : List Step) (t room k : ℕ) (rs : List ℕ) (between : List Step) →
    let s₁ = run (fresh z clock) before in
    let s₂ = run (step s₁ (rows t room)).store between in
    (step s₁ (rows t room)).answer ≡ Rows rs → (txn_of s₁ t).phase ≡ Collected k → (txn_of s₁ t).writes ≡ [] → (step s₂ (validate t)).answer ≡ Judged Clear
    → StandingRead z s₁ (step s₂ (validate t)).store t k rs
validated z clock before t room k rs between e p w v =
    let g = reached z clock before (rows t room) (ap refuses e) in
    let h = lasts-through (run (fresh z clock) before) (rows t room) (validate t) between g in
    let ok = validate-passed _ t v in
    let q = standing z _ t room k rs between g (sizes_run (fresh z clock) before) e p w ok.0 in
    stands z _ _ t k rs h (validated-shows _ t k z.rows ok ∙ q.0) q.1

pub prepared : (z : Sizes) (clock : ℕ) (before : List Step) (t room k : ℕ) (rs : List ℕ) (between : List Step) →
    let s₁ = run (fresh z clock) before in
    let s₂ = run (step s₁ (rows t room)).store between in
    (step s₁ (rows t room)).answer ≡ Rows rs → (txn_of s₁ t).phase ≡ Collected k → (txn_of s₁ t).writes ≡ [] → (step s₂ (prepare t)).answer ≡ Done
    → StandingRead z s₁ (step s₂ (prepare t)).store t k rs
prepared z clock before t room k rs between e p w v =
    let g = reached z clock before (rows t room) (ap refuses e) in
    let h = lasts-through (run (fresh z clock) before) (rows t room) (prepare t) between g in
    let ok = prepare-passed _ t v in
    let q = standing z _ t room k rs between g (sizes_run (fresh z clock) before) e p w ok.0 in
    stands z _ _ t k rs h (prepared-shows _ t k z.rows ok ∙ q.0) q.1
