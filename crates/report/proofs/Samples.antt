-- Lines of the report spelled out, as the model has them: the word and the values of every answer, and every refusal's number. Assumes nothing.
use mathlib.Core.Path.{◌≡◌, refl}
use mathlib.Core.List.{[], ◌∷◌}
use Rattle.model.specs.Refusals.{begin, capture, collect, rows, put, erase, prepare, install, end, publish, validate, abort}
use Rattle.model.specs.Refusals as refused
use Rattle.model.specs.Verdict as judged
use Rattle.model.specs.Machine.{Done, Number, Stamp, Count, Rows, Judged, Refused}
use Rattle.model.specs.Report.{bytes, digits_step, digits_for, decimal, spaced, line, answer_line}
use Rattle.report.specs.Lines.{open_line, bad_line}

-- opens every definition that writes a line, so that numbers compute
unfoldable computes : Unit {0}
unfolding digits_step digits_for decimal spaced line
computes = tt

pub says-begin : answer_line begin (Number 7) ≡ bytes "begin 0 7\n"
unfolding computes
says-begin = refl

pub says-capture : answer_line (capture 3 6) (Stamp 5) ≡ bytes "capture 0 5\n"
unfolding computes
says-capture = refl

pub says-collect : answer_line (collect 3) (Count 2) ≡ bytes "collect 0 2\n"
unfolding computes
says-collect = refl

pub says-rows : answer_line (rows 3 4) (Rows (1 ∷ 3 ∷ [])) ≡ bytes "rows 0 2 1 3\n"
unfolding computes
says-rows = refl

pub says-rows-none : answer_line (rows 3 4) (Rows []) ≡ bytes "rows 0 0\n"
unfolding computes
says-rows-none = refl

pub says-put : answer_line (put 3 1 6 10) Done ≡ bytes "put 0\n"
unfolding computes
says-put = refl

pub says-erase : answer_line (erase 3 1) Done ≡ bytes "erase 0\n"
unfolding computes
says-erase = refl

pub says-prepare : answer_line (prepare 3) Done ≡ bytes "prepare 0\n"
unfolding computes
says-prepare = refl

pub says-install : answer_line (install 3) Done ≡ bytes "install 0\n"
unfolding computes
says-install = refl

pub says-end : answer_line (end 3) Done ≡ bytes "end 0\n"
unfolding computes
says-end = refl

pub says-publish : answer_line (publish 3) (Stamp 4) ≡ bytes "publish 0 4\n"
unfolding computes
says-publish = refl

pub says-abort : answer_line (abort 3) Done ≡ bytes "abort 0\n"
unfolding computes
says-abort = refl

pub says-clear : answer_line (validate 3) (Judged judged.Clear) ≡ bytes "validate 0 0\n"
unfolding computes
says-clear = refl

pub says-bucket : answer_line (validate 3) (Judged (judged.Bucket 2 3 4)) ≡ bytes "validate 0 1 2 3 4\n"
unfolding computes
says-bucket = refl

pub says_row : answer_line (validate 3) (Judged (judged.Row 5 6)) ≡ bytes "validate 0 2 5 6\n"
unfolding computes
says_row = refl

pub says-mark : answer_line (validate 3) (Judged judged.Mark) ≡ bytes "validate 0 3\n"
unfolding computes
says-mark = refl

pub refuses-no-numbers : answer_line begin (Refused refused.NoNumbers) ≡ bytes "begin 2\n"
unfolding computes
refuses-no-numbers = refl

pub refuses-full : answer_line begin (Refused refused.Full) ≡ bytes "begin 3\n"
unfolding computes
refuses-full = refl

pub refuses-no-such : answer_line (collect 3) (Refused refused.NoSuch) ≡ bytes "collect 4\n"
unfolding computes
refuses-no-such = refl

pub refuses-wrong-phase : answer_line (install 3) (Refused refused.WrongPhase) ≡ bytes "install 5\n"
unfolding computes
refuses-wrong-phase = refl

pub refuses-no-row : answer_line (erase 3 1) (Refused refused.NoRow) ≡ bytes "erase 6\n"
unfolding computes
refuses-no-row = refl

pub refuses-taken : answer_line (validate 3) (Refused refused.Taken) ≡ bytes "validate 7\n"
unfolding computes
refuses-taken = refl

pub refuses-stale : answer_line (capture 3 6) (Refused refused.Stale) ≡ bytes "capture 8\n"
unfolding computes
refuses-stale = refl

pub refuses-marked : answer_line (capture 3 6) (Refused refused.Marked) ≡ bytes "capture 8\n"
unfolding computes
refuses-marked = refl

pub refuses-many-reads : answer_line (capture 3 6) (Refused refused.ManyReads) ≡ bytes "capture 9\n"
unfolding computes
refuses-many-reads = refl

pub refuses-no-room : answer_line (rows 3 4) (Refused refused.NoRoom) ≡ bytes "rows 10\n"
unfolding computes
refuses-no-room = refl

pub refuses-many-records : answer_line (rows 3 4) (Refused refused.ManyRecords) ≡ bytes "rows 11\n"
unfolding computes
refuses-many-records = refl

pub refuses-many-writes : answer_line (put 3 1 6 10) (Refused refused.ManyWrites) ≡ bytes "put 12\n"
unfolding computes
refuses-many-writes = refl

pub refuses-no-versions : answer_line (prepare 3) (Refused refused.NoVersions) ≡ bytes "prepare 13\n"
unfolding computes
refuses-no-versions = refl

pub refuses-conflict : answer_line (prepare 3) (Refused refused.Conflict) ≡ bytes "prepare 14\n"
unfolding computes
refuses-conflict = refl

pub refuses-wrong-shape : answer_line (publish 3) (Refused refused.WrongShape) ≡ bytes "publish 16\n"
unfolding computes
refuses-wrong-shape = refl

pub says-opened : open_line 0 ≡ bytes "open 0\n"
unfolding computes
says-opened = refl

pub says-unopened : open_line 1 ≡ bytes "open 1\n"
unfolding computes
says-unopened = refl

pub says-bad : bad_line ≡ bytes "bad 15\n"
unfolding computes
says-bad = refl

-- digits stand in their order, zeros among them
pub says-digits : answer_line begin (Number 1203) ≡ bytes "begin 0 1203\n"
unfolding computes
says-digits = refl

-- the greatest number
pub says-greatest : answer_line begin (Number 18446744073709551615) ≡ bytes "begin 0 18446744073709551615\n"
unfolding computes
says-greatest = refl
