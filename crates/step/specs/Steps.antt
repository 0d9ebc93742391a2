-- One step over the words: what it answers, the record that goes back, and the tables.
use Rattle.std.specs.Prelude.{ℕ, Bool, true, false, cond, List}
use Rattle.model.specs.Refusals.{NoSuch}
use Rattle.base_protocol.specs.View.{refusal_told}
use Rattle.base_numbers.specs.Numbers.{one_more}
use Rattle.base_protocol.specs.declared.Step.{Step}
use Rattle.base_protocol.specs.declared.Step.TheVariants as ask
use Rattle.base_protocol.specs.declared.Answer.{Answer}
use Rattle.base_protocol.specs.declared.Answer.TheVariants as tell
use Rattle.base_protocol.specs.declared.Extent.{Extent}
use Rattle.txn.specs.Methods as methods
use Rattle.txn.specs.Methods.{rest_of, whole_of}
use Rattle.txn.specs.declared.Parts.{Parts}
use Rattle.txn.specs.declared.Transaction.{Transaction}
use Rattle.txn.specs.declared.Answered.{Answered}
use Rattle.txn_begin.specs.Begin.{begin_of}
use Rattle.txn_begin.specs.declared.Begun.{Begun}
use Rattle.finish_install.specs.Install as install
use Rattle.finish_install.specs.declared.Installed.{Installed}
use Rattle.finish_publish.specs.Publish as publish
use Rattle.write_prepare.specs.Prepare as prepare
use Rattle.read.specs.Rows as reads
use Rattle.txn_places.specs.Places.{misses_of, live_in}
use Rattle.step.specs.declared.Place.{Place}
use Rattle.step.specs.declared.Stepped.{Stepped}
use Rattle.step.specs.declared.Kept.{Kept}

-- the parts that a step leaves alone put beside the others
abbrev pub with_clock : Answered → ℕ → ℕ → Stepped
with_clock a clock used = record { answer = a.answer; txn = a.txn; clock = clock; used = used }

abbrev pub with_begun : Begun → ℕ → Stepped
with_begun b used = record { answer = b.answer; txn = b.txn; clock = b.clock; used = used }

abbrev pub with_installed : Installed → ℕ → Stepped
with_installed i clock = record { answer = i.answer; txn = i.txn; clock = clock; used = i.used }

-- what a step leaves that keeps its transaction
abbrev pub kept_by : Answered → ℕ → Kept
kept_by a used = record { answer = a.answer; rest = rest_of a.txn; used = used }

abbrev pub kept_installed : Installed → Kept
kept_installed i = record { answer = i.answer; rest = rest_of i.txn; used = i.used }

-- the same, with what it kept
abbrev pub with_kept : Kept → Parts → ℕ → Stepped
with_kept k p clock = record {
  answer = k.answer;
  txn = whole_of (record { number = p.number; snapshot = p.snapshot; rest = k.rest; slot = p.slot });
  clock = clock;
  used = k.used;
}

-- clock up by 1 where a stamp was given
abbrev pub clock_after : Answer → ℕ → ℕ
clock_after (tell.Stamp n) clock = one_more clock
clock_after tell.Done clock = clock
clock_after (tell.Number n) clock = clock
clock_after (tell.Count n) clock = clock
clock_after (tell.Rows n) clock = clock
clock_after (tell.Judged v) clock = clock
clock_after (tell.Refused n) clock = clock

pub record Published : Type 0 where
  pub stepped : Stepped
  pub rows : List ℕ
  pub buckets : List ℕ

abbrev pub published_from : publish.Left → ℕ → ℕ → Published
published_from l clock used = record { stepped = with_clock l.reply (clock_after l.reply.answer clock) used; rows = l.rows; buckets = l.buckets }

unfoldable pub publish_step : List ℕ → List ℕ → List ℕ → List ℕ → Extent → Transaction → Published
publish_step rows versions buckets lists e t = published_from (publish.publish_of rows versions buckets lists e t) e.clock e.used

-- the lent tables, and the lent row list
pub record Tables : Type 0 where
  pub rows : List ℕ
  pub versions : List ℕ
  pub buckets : List ℕ
  pub lists : List ℕ
  pub found : List ℕ

-- all that a step leaves
pub record Moved : Type 0 where
  pub stepped : Stepped
  pub rows : List ℕ
  pub versions : List ℕ
  pub buckets : List ℕ
  pub lists : List ℕ
  pub found : List ℕ

abbrev pub stays : Stepped → Tables → Moved
stays st b = record { stepped = st; rows = b.rows; versions = b.versions; buckets = b.buckets; lists = b.lists; found = b.found }

abbrev pub in_buckets : methods.Left → ℕ → ℕ → Tables → Moved
in_buckets l clock used b =
    record { stepped = with_clock l.reply clock used; rows = b.rows; versions = b.versions; buckets = l.buckets; lists = l.lists; found = b.found }

abbrev pub in_lists : methods.LeftLists → ℕ → ℕ → Tables → Moved
in_lists l clock used b =
    record { stepped = with_clock l.reply clock used; rows = b.rows; versions = b.versions; buckets = b.buckets; lists = l.lists; found = b.found }

abbrev pub in_found : reads.LeftRows → ℕ → ℕ → Tables → Moved
in_found l clock used b =
    record { stepped = with_clock l.reply clock used; rows = b.rows; versions = b.versions; buckets = b.buckets; lists = l.lists; found = l.found }

abbrev pub in_prepared : prepare.Left → ℕ → ℕ → Tables → Moved
in_prepared l clock used b =
    record { stepped = with_clock l.reply clock used; rows = l.rows; versions = b.versions; buckets = l.buckets; lists = b.lists; found = b.found }

abbrev pub in_installed : install.Left → ℕ → Tables → Moved
in_installed l clock b = record {
  stepped = with_installed l.reply clock;
  rows = l.rows;
  versions = l.versions;
  buckets = b.buckets;
  lists = b.lists;
  found = b.found;
}

abbrev pub in_published : Published → Tables → Moved
in_published l b = record { stepped = l.stepped; rows = l.rows; versions = b.versions; buckets = l.buckets; lists = b.lists; found = b.found }

abbrev pub in_aborted : publish.Left → ℕ → ℕ → Tables → Moved
in_aborted l clock used b =
    record { stepped = with_clock l.reply clock used; rows = l.rows; versions = b.versions; buckets = l.buckets; lists = b.lists; found = b.found }

-- by the kind of step
abbrev pub done_by : Tables → Place → Step → Moved
done_by b p ask.Begin = stays (with_begun (begin_of p.others.active (live_in p.others.numbers) p.extent.clock p.txn) p.extent.used) b
done_by b p (ask.Capture n k) =
    in_buckets (methods.capture_of p.txn b.buckets b.lists p.extent.sizes.buckets k) p.extent.clock p.extent.used b
done_by b p (ask.Collect n) =
    in_buckets (methods.collect_of p.txn b.rows b.buckets b.lists p.extent.sizes.rows) p.extent.clock p.extent.used b
done_by b p (ask.Rows n room) =
    in_found (reads.rows_of b.rows b.versions b.lists b.found p.extent p.txn room) p.extent.clock
    p.extent.used b
done_by b p (ask.Put n r k payload) =
    in_lists (methods.write_of p.txn b.lists p.extent.sizes.rows (record { row = r; keyed = 1; key = k; payload = payload })) p.extent.clock
    p.extent.used b
done_by b p (ask.Erase n r) =
    in_lists (methods.write_of p.txn b.lists p.extent.sizes.rows (record { row = r; keyed = 0; key = 0; payload = 0 })) p.extent.clock
    p.extent.used b
done_by b p (ask.Prepare n) =
    in_prepared (prepare.prepare_of b.rows b.versions b.buckets b.lists p.extent p.others.prepared p.txn) p.extent.clock
    p.extent.used b
done_by b p (ask.Install n) =
    in_installed (install.install_of (record { rows = b.rows; versions = b.versions; used = p.extent.used }) b.lists p.txn) p.extent.clock b
done_by b p (ask.End n) = stays (with_clock (publish.end_of p.txn) p.extent.clock p.extent.used) b
done_by b p (ask.Publish n) = in_published (publish_step b.rows b.versions b.buckets b.lists p.extent p.txn) b
done_by b p (ask.Validate n) = stays (with_clock (prepare.validate_of b.versions b.buckets b.lists p.txn) p.extent.clock p.extent.used) b
done_by b p (ask.Abort n) =
    in_aborted (publish.abort_of b.rows b.versions b.buckets b.lists p.extent.sizes.buckets p.txn) p.extent.clock p.extent.used b

-- no live transaction has this number; else the step
abbrev pub missed : Tables → Place → Moved
missed b p = stays (record { answer = tell.Refused (refusal_told NoSuch); txn = p.txn; clock = p.extent.clock; used = p.extent.used }) b

unfoldable pub step_of : Tables → Place → Step → Moved
step_of b p s = cond (misses_of p.txn.number s) (missed b p) (done_by b p s)

-- every step but begin, publish and abort keeps its transaction, with number and snapshot
abbrev pub keeps_of : Step → Bool
keeps_of ask.Begin = false
keeps_of (ask.Capture n k) = true
keeps_of (ask.Collect n) = true
keeps_of (ask.Rows n room) = true
keeps_of (ask.Put n r k payload) = true
keeps_of (ask.Erase n r) = true
keeps_of (ask.Prepare n) = true
keeps_of (ask.Install n) = true
keeps_of (ask.End n) = true
keeps_of (ask.Publish n) = false
keeps_of (ask.Validate n) = true
keeps_of (ask.Abort n) = false

-- the steps that keep their transaction, and those that do not; the others are refused
abbrev pub keeping_of : Tables → Place → Step → Moved
keeping_of b p s = cond (keeps_of s) (step_of b p s) (missed b p)

abbrev pub placing_of : Tables → Place → Step → Moved
placing_of b p s = cond (keeps_of s) (missed b p) (step_of b p s)

-- of what a step leaves that keeps its transaction all but the clock, the number, the snapshot and the slot, which it keeps
pub record Keeping : Type 0 where
  pub kept : Kept
  pub rows : List ℕ
  pub versions : List ℕ
  pub buckets : List ℕ
  pub lists : List ℕ
  pub found : List ℕ

abbrev pub kept_in : Moved → Keeping
kept_in m = record {
  kept = record { answer = m.stepped.answer; rest = rest_of m.stepped.txn; used = m.stepped.used };
  rows = m.rows;
  versions = m.versions;
  buckets = m.buckets;
  lists = m.lists;
  found = m.found;
}
