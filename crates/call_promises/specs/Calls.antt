-- Calls of the public functions, one after the other, the tables handed on as the last call left them; and what a call on any words is.
use Rattle.std.specs.Prelude.{ℕ, ◌<◌, min, ◌≡◌, true, false, ◌&&◌, List, [], ◌∷◌, map, length}
use Rattle.base_limits.specs.Limits.{most_live, most_active}
use Rattle.model.specs.Refusals.{WrongShape, Step as Asked}
use Rattle.model.specs.Shape.{right_shape}
use Rattle.model.specs.Machine.{lent_after, step}
use Rattle.base_protocol.specs.declared.Step.{Step}
use Rattle.base_protocol.specs.declared.Step.TheVariants as ask
use Rattle.base_protocol.specs.declared.Answer.TheVariants as tell
use Rattle.base_protocol.specs.View.{asked, told, refusal_told}
use Rattle.step.specs.Words.{Words, view, txn_at}
use Rattle.shape.specs.Shape.{tables_fit, shape_of}
use Rattle.call.specs.Calls.{Left, call_of}

-- a call of a public function: its step, and the row list that it lends
pub record Call : Type 0 where
  pub asks : Step
  pub lent : List ℕ

-- a step with its room cut to the length of the lent list; no other step asks for room
abbrev pub room_within : ℕ → Step → Step
room_within n ask.Begin = ask.Begin
room_within n (ask.Capture t k) = ask.Capture t k
room_within n (ask.Collect t) = ask.Collect t
room_within n (ask.Rows t room) = ask.Rows t (min room n)
room_within n (ask.Put t r k payload) = ask.Put t r k payload
room_within n (ask.Erase t r) = ask.Erase t r
room_within n (ask.Prepare t) = ask.Prepare t
room_within n (ask.Install t) = ask.Install t
room_within n (ask.End t) = ask.End t
room_within n (ask.Publish t) = ask.Publish t
room_within n (ask.Validate t) = ask.Validate t
room_within n (ask.Abort t) = ask.Abort t

-- the step that a call asks of the model
abbrev pub asking : Call → Asked
asking c = asked (room_within (length c.lent) c.asks)

-- the words with this row list lent
abbrev pub lending : Words → List ℕ → Words
lending w found = record {
  tables = record { rows = w.tables.rows; versions = w.tables.versions; buckets = w.tables.buckets; lists = w.tables.lists; found = found };
  txns = w.txns;
  sizes = w.sizes;
  clock = w.clock;
  used = w.used;
}

-- what a call answers and leaves, and the words after a sequence of calls
abbrev pub called : Words → Call → Left
called w c = call_of (lending w c.lent) c.asks

unfoldable pub calls : Words → List Call → Words
calls w [] = w
calls w (c ∷ cs) = calls (called w c).words cs

-- the steps that the calls ask for
abbrev pub steps_of : List Call → List Asked
steps_of cs = map asking cs

-- what the types of the code give: eight records, each with seven words for active numbers
pub record Typed (w : Words) : Type 0 where
  pub eight : length w.txns ≡ most_live
  pub seven : (i : ℕ) → i < most_live → length (txn_at w i).snapshot.active ≡ most_active

-- what a call answers and leaves, in store and lent list, is the model's public step, shape test and all
pub record CalledAs (w : Words) (c : Call) : Type 0 where
  pub answer : (called w c).answer ≡ told (step (view w) (asking c)).answer
  pub store : view (called w c).words ≡ (step (view w) (asking c)).store
  pub found : (called w c).words.tables.found ≡ lent_after (step (view w) (asking c)).answer c.lent

-- a call on any words: the model's step where the tables and the records fit; 16, and all words as found, where the shape is wrong
pub record AnyCall (w : Words) (c : Call) : Type 0 where
  pub fitting : tables_fit w ≡ true → CalledAs w c
  pub wrong : shape_of w ≡ false → called w c ≡ record { answer = tell.Refused (refusal_told WrongShape); words = lending w c.lent }
  -- the shape is the model's, with what only the words can get wrong
  pub shape : shape_of w ≡ (tables_fit w && right_shape (view w))
  pub typed : Typed (called w c).words
