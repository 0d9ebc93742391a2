-- What a refused call may leave that it did not find: a stale stamp marks its transaction.
use Rattle.std.specs.Prelude.{ℕ, ◌%◌, ◌≤◌, ◌<◌, ◌≡◌, false, ◌≢◌, length, set}
use Rattle.base_protocol.specs.declared.Step.{Step}
use Rattle.base_protocol.specs.declared.Step.TheVariants as ask
use Rattle.table.specs.Fields.{stamp_of}
use Rattle.txn.specs.Methods.{with_mark}
use Rattle.step.specs.Words.{Words, place_for}
use Rattle.call.specs.Calls.{asker}

-- 8, to a capture by a transaction without a mark, of a bucket whose stamp is not below its number: that record is marked, and all else is as found
pub record Marks (w : Words) (s : Step) (after : Words) (n : ℕ) : Type 0 where
  pub key : ℕ
  pub captures : s ≡ ask.Capture (asker w s).number key
  pub live : (asker w s).number ≢ 0
  pub there : place_for w.txns s < length w.txns
  pub refusal : n ≡ 8
  pub unmarked : (asker w s).marked ≡ false
  pub stale : (asker w s).number ≤ stamp_of w.tables.buckets (key % w.sizes.buckets)
  pub marks : after ≡ record {
    tables = w.tables;
    txns = set w.txns (place_for w.txns s) (with_mark (asker w s));
    sizes = w.sizes;
    clock = w.clock;
    used = w.used;
  }
