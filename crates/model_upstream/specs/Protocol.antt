-- Upstream's protocol beside a store, and the actions of a run: the newest stands first.
use Rattle.std.specs.Prelude.{ℕ, suc, ◌≤◌, ◌<◌, ◌≡◌, Bool, true, false, cond, List, [], ◌∷◌, eqb}
use Rattle.std.proofs.Math.Option.{Option, none, some}
use Rattle.base_limits.specs.Limits.{last_number}
use Rattle.base_lists.specs.Table.{update}
use Rattle.model.specs.Store.{Store}
use Rattle.model.specs.Refusals.{Step, begin, capture, collect, rows, write, prepare, install, end, publish, validate, abort}
use Rattle.model.specs.Machine.{answer_number, step}

-- the clock, who is active, who has ended, the stamp that a writer published, and whom a reader found active
pub record Protocol : Type 0 where
  pub clock : ℕ
  pub active : ℕ → Bool
  pub ended : ℕ → Bool
  pub published : ℕ → Option ℕ
  pub observed : ℕ → Option (ℕ → Bool)

-- what happens to it; the numbers are a transaction's, and a stamp
pub data Action : Type 0 where
  Start : ℕ → Action
  End : ℕ → Action
  Snapshot : ℕ → Action
  Publish : ℕ → ℕ → Action

-- protocol_initial: nothing has happened
abbrev pub protocol_initial : ℕ → Protocol
protocol_initial clock = record { clock = clock; active = λ n. false; ended = λ n. false; published = λ n. none; observed = λ n. none }

-- protocol_step: what an action asks for
abbrev pub Allowed : Protocol → Action → Type 0
Allowed p (Start n) = (p.clock ≤ n) × (n < last_number)
Allowed p (End n) = p.active n ≡ true
Allowed p (Snapshot n) = p.active n ≡ true
Allowed p (Publish n stamp) = (p.ended n ≡ true) × (p.published n ≡ none) × (p.clock ≤ stamp) × (stamp < last_number)

-- protocol_step: what it leaves
abbrev pub after_action : Protocol → Action → Protocol
after_action p (Start n) = record { clock = suc n; active = update p.active n true; ended = p.ended; published = p.published; observed = p.observed }
after_action p (End n) = record {
  clock = p.clock;
  active = update p.active n false;
  ended = update p.ended n true;
  published = p.published;
  observed = p.observed;
}
after_action p (Snapshot n) =
    record {
      clock = p.clock;
      active = p.active;
      ended = p.ended;
      published = p.published;
      observed = update p.observed n (some (update p.active n false));
    }
after_action p (Publish n stamp) =
    record { clock = suc stamp; active = p.active; ended = p.ended; published = update p.published n (some stamp); observed = p.observed }

-- the state after actions from an initial clock
abbrev pub protocol_after : ℕ → List Action → Protocol
protocol_after clock [] = protocol_initial clock
protocol_after clock (a ∷ older) = after_action (protocol_after clock older) a

-- protocol_history: each action was allowed where it was taken
abbrev pub ProtocolHistory : ℕ → List Action → Type 0
ProtocolHistory clock [] = 1 ≤ clock
ProtocolHistory clock (a ∷ older) = Allowed (protocol_after clock older) a × ProtocolHistory clock older

-- protocol_valid
pub record ProtocolValid (p : Protocol) : Type 0 where
  pub clock-pos : 1 ≤ p.clock
  pub disjoint : (n : ℕ) → p.active n ≡ true → p.ended n ≡ false
  pub active-below : (n : ℕ) → p.active n ≡ true → (1 ≤ n) × (n < p.clock)
  pub ended-below : (n : ℕ) → p.ended n ≡ true → (1 ≤ n) × (n < p.clock)
  pub published-ended : (n stamp : ℕ) → p.published n ≡ some stamp → (p.ended n ≡ true) × (n < stamp) × (stamp < p.clock)
  pub observed-below : (n : ℕ) (who : ℕ → Bool) → p.observed n ≡ some who → (1 ≤ n) × (n < p.clock)
  pub observed-later : (n m stamp : ℕ) (who : ℕ → Bool) → p.observed n ≡ some who → who m ≡ true → p.published m ≡ some stamp → n < stamp

-- what a step that is done adds: begin starts and takes its snapshot, end and abort end, publish publishes with the clock
abbrev pub actions_of : Store → Step → List Action → List Action
actions_of s begin older = Snapshot s.clock ∷ Start s.clock ∷ older
actions_of s (capture t k) older = older
actions_of s (collect t) older = older
actions_of s (rows t room) older = older
actions_of s (write t r c) older = older
actions_of s (prepare t) older = older
actions_of s (install t) older = older
actions_of s (end t) older = End t ∷ older
actions_of s (publish t) older = Publish t s.clock ∷ older
actions_of s (validate t) older = older
actions_of s (abort t) older = End t ∷ older

-- a refused step adds nothing
unfoldable pub step_actions : Store → Step → List Action → List Action
step_actions s a older = cond (eqb (answer_number (step s a).answer) 0) (actions_of s a older) older

-- the same over those that were there
unfoldable pub actions_over : List Action → Store → List Step → List Action
actions_over older s [] = older
actions_over older s (a ∷ more) = actions_over (step_actions s a older) (step s a).store more

-- the actions of a run
abbrev pub actions : Store → List Step → List Action
actions s steps = actions_over [] s steps
