-- One name that opens every definition that the contracts name, so that an outcome on numerals computes.
-- Assumes nothing.
use Rattle.model.proofs.Computes as model
use Rattle.model.specs.Log as log
use Rattle.model.specs.Report.{digits_step, digits_for, decimal, spaced, line}
use Rattle.model.specs.Replay.{write_then, record_then, replay_for, replay_from, replay, replay_lent}
use Rattle.base_numbers.specs.Numbers.{one_more}
use Rattle.table.specs.Words.{field, set_field, set_fields, clear_fields, clear_every}
use Rattle.table.specs.Regions.{words, list_of}
use Rattle.table_buckets.specs.Buckets.{canonical_of}
use Rattle.table_scans.specs.Scans.{first_from, last_below}
use Rattle.table_chain.specs.Chain.{step_from, walk_for, walk_from, first_visible}
use Rattle.table_postings.specs.Postings.{list_for, follow, keyed_of, listed_with}
use Rattle.table_postings.specs.Links.{link_at, set_link, last_place, unlinked, linked, reposted, last_in, lists_tell}
use Rattle.txn.specs.Methods.{hold_of, capture_at, write_of, collect_of}
use Rattle.txn_places.specs.Places.{misses_of, place_from, live_from}
use Rattle.txn_needs.specs.Keys.{version_key, old_key_of, new_key_of, gets_version_of, headed_by, keys_of, changed_keys}
use Rattle.txn_needs.specs.Needs.{push_one, push_all, buckets_for, keys_need}
use Rattle.txn_needs.specs.Versions.{rows_listed, pending_into, kept, versions_into, versions_in, reserved_in}
use Rattle.write_verdict.specs.Judged.{first_where}
use Rattle.finish_install.specs.Install.{last_write_of, version_stored, pushed_row, pushed_rows, to_install, install_of}
use Rattle.write_prepare.specs.Prepare.{reads_taken_in, validate_of, lacks, needed_into, prepare_with, prepare_of}
use Rattle.finish_publish.specs.Publish.{end_of, posted_one, posted_all, stamped_in, needed_in, freed_in, publish_of, abort_of}
use Rattle.txn_begin.specs.Begin.{keep_active, keep_all, snapshot_of, spent, begin_of}
use Rattle.read_match.specs.Matching.{match_of}
use Rattle.read_gather.specs.Gathering.{only}
use Rattle.read_record.specs.Recording.{planned, records_for, put_records, recorded_of}
use Rattle.read.specs.Rows.{matched_rows, new_records, reading_of, rows_of}
use Rattle.step.specs.Steps.{publish_step, step_of}
use Rattle.step.specs.Words.{place_for, moved_by}
use Rattle.shape_postings.specs.Told.{told_within}
use Rattle.shape_txn.specs.TxnShape.{ranges_fit, heads_fit, txn_fits, place_fits}
use Rattle.shape.specs.Shape.{tables_fit}
use Rattle.call.specs.Calls.{swept_for, cleared, open_of}
use Rattle.log_records.specs.Records.{decoded_of}
use Rattle.report.specs.Written.{written_at}
use Rattle.replay.specs.Lent.{words_for, lent_left, lent_of}

-- all but `shape_of` and `call_of`: what tests the shape of a whole store is opened where it is spoken of
unfoldable pub computes : Unit {0}
unfolding model.computes log.number log.widths log.total log.whole log.read_record digits_step digits_for decimal spaced line write_then record_then replay_for
    replay_from replay field set_field set_fields clear_fields words list_of canonical_of first_from last_below step_from walk_for walk_from first_visible
    hold_of
    capture_at write_of collect_of misses_of place_from live_from version_key old_key_of new_key_of gets_version_of headed_by keys_of changed_keys push_one
    push_all buckets_for
    keys_need first_where one_more rows_listed pending_into kept versions_into last_write_of version_stored pushed_row pushed_rows to_install install_of
    reads_taken_in validate_of versions_in reserved_in lacks needed_into prepare_with prepare_of end_of posted_one posted_all stamped_in needed_in freed_in
    publish_of
    abort_of keep_active keep_all snapshot_of spent begin_of match_of only planned records_for put_records recorded_of matched_rows new_records reading_of
    rows_of
    clear_every publish_step step_of place_for moved_by ranges_fit heads_fit txn_fits place_fits tables_fit swept_for cleared open_of decoded_of written_at
    replay_lent
    list_for follow keyed_of listed_with link_at set_link last_place unlinked linked reposted last_in lists_tell told_within words_for lent_left lent_of
computes = tt
