-- What a store that could be opened keeps over any steps: its shape, what is held, its versions, its history, and what is seen. Assumes nothing.
use mathlib.Core.Path.{◌≡◌, sym, ap, ◌∙◌}
use mathlib.Core.Bool.{true}
use mathlib.Core.Option.{none, some}
use mathlib.Core.List.{List}
use Prim.Native.Nat.{ℕ, ◌≤◌}
use Rattle.base_limits.specs.Limits.{last_number}
use Rattle.base_lists.proofs.ListLaws.{below-least}
use Rattle.model.specs.Store.{Sizes, fresh, same_key}
use Rattle.model.specs.Seeing.{Live}
use Rattle.model.specs.Refusals.{Step}
use Rattle.model.specs.Machine.{run, can_open}
use Rattle.model.specs.History.{history}
use Rattle.model.specs.Demands.{Shapely, NothingLost, KeptVersion, HistoryStands, LeastXmins, UpstreamSees}
use Rattle.model.proofs.SeeingLaws.{pending-which, which-pendingRows}
use Rattle.model.proofs.Good.{opened-good, right-shape, step-in}
use Rattle.model.proofs.Lasting.{lasts-run}
use Rattle.model.proofs.Written.{posted-old, posted-either}
use Rattle.model.proofs.Unrefused.{never-misshapen}
use Rattle.model.proofs.UpstreamLaws.{low-seen, creator-seen, visible-same, first-same, matches-same}
use Rattle.model.proofs.Events.{replay-live, recorded-opened, candidates-raw}
use Rattle.model.proofs.Snapshots.{snapshot-same}
use Rattle.model.proofs.Traces.{traced-opened}

module _ (z : Sizes) (clock : ℕ) (before : List Step) (e : can_open z clock ≡ true) (l : clock ≤ last_number) where
  pub shapely : Shapely (run (fresh z clock) before)
  shapely = let g = opened-good z clock before e l in record { shape = right-shape _ g; no-sixteen = never-misshapen _ g; untested = step-in _ g }

  pub nothing-lost : NothingLost (run (fresh z clock) before)
  nothing-lost = let s = run (fresh z clock) before in let g = opened-good z clock before e l in record {
    holder-needs = g.holders.buckets.owner;
    holds = g.holders.buckets.owns;
    claim-needs = g.holders.claims.owner;
    claims = g.holders.claims.owns;
    every-pending = λ i r p. let w = pending-which (s.txns i).writes r p in
        which-pendingRows s.sizes (s.txns i).writes r (rw w.2 at ((g.ranges i).0.writes-in w.0 w.1)) p;
    old-prepared = posted-old s g.numbers g.holders g.written;
    made-or-nothing = λ i r a b w. posted-either s g.numbers g.holders g.written i r a b w;
    old-installed = λ i r a b w. sym (g.written.mine i r a b w).before;
  }

  pub lasting : (more : List Step) (p : ℕ) → let s = run (fresh z clock) before in 1 ≤ p → p ≤ s.chains.used → KeptVersion s.chains (run s more).chains p
  lasting more p = lasts-run (run (fresh z clock) before) (opened-good z clock before e l) more p

  pub history-stands : HistoryStands (run (fresh z clock) before) (history (fresh z clock) before)
  history-stands = let h = recorded-opened z clock before e l in record {
    postings-are = λ k r. replay-live (λ q. none) _ h.coherent k r ∙ ap (λ o. same_key o (some k)) (sym (h.posts r));
    live-keys = h.posts;
    coherent = h.coherent;
    stamps-are = h.stamps;
    candidates-are = candidates-raw _ _ h;
    snapshots-are = λ j r a. snapshot-same _ _ (opened-good z clock before e l) (traced-opened z clock before e l) j a r;
  }

  pub least-xmins : LeastXmins (run (fresh z clock) before)
  least-xmins j a = let x = (run (fresh z clock) before).txns j in let g = (opened-good z clock before e l).numbers.snapped j a in record {
    least-is = g.xmin-is;
    below-seen = low-seen x g;
    below-inactive = λ n h. below-least x.number x.snapshot.active n (rw (← g.xmin-is) h);
  }

  pub upstream-sees : let s = run (fresh z clock) before in (j : ℕ) → Live (s.txns j) → UpstreamSees s (s.txns j)
  upstream-sees j a = let s = run (fresh z clock) before in let g = opened-good z clock before e l in record {
    creators = creator-seen (s.txns j) (g.numbers.snapped j a);
    versions = λ p. visible-same s g j p a;
    walks = first-same s g j a;
    matching = matches-same s g j a;
  }
