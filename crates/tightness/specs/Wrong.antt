-- What it is for a contract to shut out a wrong body.
use Rattle.std.specs.Prelude.{◌≢◌}

-- a body that gives `wrong` does not meet a contract that asks for `right`: on some input the two differ
pub record Excludes {A B : Type 0} (right wrong : A → B) : Type 0 where
  pub input : A
  pub differ : right input ≢ wrong input
