-- One name that opens every definition of the model, so that a run of numerals computes. Assumes nothing.
use Rattle.base_lists.specs.Lists.{member, least, pick, first, every, some_of, all_of, join}
use Rattle.base_lists.specs.Table.{update, update_all}
use Rattle.model.specs.Store.{keyed, same_key, bucket_of}
use Rattle.model.specs.Seeing.{seen, visible, known, walk, first_visible, key_at, last_write_from, pending, written_key, shown_key, matches, shows}
use Rattle.model.specs.Seeing.{active_numbers, snapshot_now}
use Rattle.model.specs.Verdict.{bad_read, bad_record, judge_records, judge_reads, verdict}
use Rattle.model.specs.Steps.{has_read, add_read, posted_rows, found_rows, recorded, recording, record_all, pending_rows, gets_version, version_rows, headed_by}
use Rattle.model.specs.Steps.{made_rows, key_buckets, read_buckets, needed_buckets, written_payload, push_all, repost, changed_buckets, release}
use Rattle.model.specs.Contents.{content_of, shown_to}
use Rattle.model.specs.Refusals.{place_of, live_count, by_another, reserved_by, reserved, refusal}
use Rattle.model.specs.Shape.{good_sizes, good_chains, good_counts, good_ranges, good_heads, good_txn, distinct_numbers, right_shape}
use Rattle.model.specs.Machine.{checks, accepted, after_refusal, carried, step_in, step, run, can_open}

unfoldable pub computes : Unit {0}
unfolding member least pick first every some_of all_of join update update_all keyed same_key bucket_of seen visible known walk first_visible key_at
    last_write_from pending written_key shown_key matches shows active_numbers snapshot_now bad_read bad_record judge_records judge_reads verdict has_read
    add_read
    posted_rows found_rows recorded recording record_all pending_rows gets_version version_rows headed_by made_rows key_buckets read_buckets needed_buckets
    written_payload push_all repost changed_buckets release content_of shown_to place_of live_count by_another reserved_by reserved checks refusal good_sizes
    good_chains good_counts good_ranges good_heads good_txn distinct_numbers right_shape accepted after_refusal carried step_in step run can_open
computes = tt
