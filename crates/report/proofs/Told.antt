-- Lines of the report spelled out, as the code has them: the word and the values of every answer. Assumes nothing.
use mathlib.Core.Path.{◌≡◌, refl}
use mathlib.Core.List.{[], ◌∷◌}
use Rattle.model.specs.Report.{bytes, digits_step, digits_for, decimal, spaced, line}
use Rattle.base_protocol.specs.declared.Step.TheVariants as ask
use Rattle.base_protocol.specs.declared.Verdict.TheVariants as verdict
use Rattle.base_protocol.specs.declared.Refusal.TheVariants as why
use Rattle.base_protocol.specs.declared.Answer.TheVariants as tell
use Rattle.report.specs.Lines.{line_for}

-- opens every definition that writes a line, so that numbers compute
unfoldable computes : Unit {0}
unfolding digits_step digits_for decimal spaced line
computes = tt

pub tells-begin : line_for ask.Begin (tell.Number 7) [] ≡ bytes "begin 0 7\n"
unfolding computes
tells-begin = refl

pub tells-capture : line_for (ask.Capture 3 6) (tell.Stamp 5) [] ≡ bytes "capture 0 5\n"
unfolding computes
tells-capture = refl

pub tells-collect : line_for (ask.Collect 3) (tell.Count 2) [] ≡ bytes "collect 0 2\n"
unfolding computes
tells-collect = refl

pub tells-rows : line_for (ask.Rows 3 4) (tell.Rows 2) (1 ∷ 3 ∷ 9 ∷ []) ≡ bytes "rows 0 2 1 3\n"
unfolding computes
tells-rows = refl

pub tells-rows-none : line_for (ask.Rows 3 4) (tell.Rows 0) (9 ∷ []) ≡ bytes "rows 0 0\n"
unfolding computes
tells-rows-none = refl

pub tells-put : line_for (ask.Put 3 1 6 10) tell.Done [] ≡ bytes "put 0\n"
unfolding computes
tells-put = refl

pub tells-erase : line_for (ask.Erase 3 1) tell.Done [] ≡ bytes "erase 0\n"
unfolding computes
tells-erase = refl

pub tells-prepare : line_for (ask.Prepare 3) tell.Done [] ≡ bytes "prepare 0\n"
unfolding computes
tells-prepare = refl

pub tells-install : line_for (ask.Install 3) tell.Done [] ≡ bytes "install 0\n"
unfolding computes
tells-install = refl

pub tells-end : line_for (ask.End 3) tell.Done [] ≡ bytes "end 0\n"
unfolding computes
tells-end = refl

pub tells-publish : line_for (ask.Publish 3) (tell.Stamp 4) [] ≡ bytes "publish 0 4\n"
unfolding computes
tells-publish = refl

pub tells-abort : line_for (ask.Abort 3) tell.Done [] ≡ bytes "abort 0\n"
unfolding computes
tells-abort = refl

pub tells-clear : line_for (ask.Validate 3) (tell.Judged verdict.Clear) [] ≡ bytes "validate 0 0\n"
unfolding computes
tells-clear = refl

pub tells-bucket : line_for (ask.Validate 3) (tell.Judged (verdict.Bucket 2 3 4)) [] ≡ bytes "validate 0 1 2 3 4\n"
unfolding computes
tells-bucket = refl

pub tells_row : line_for (ask.Validate 3) (tell.Judged (verdict.Row 5 6)) [] ≡ bytes "validate 0 2 5 6\n"
unfolding computes
tells_row = refl

pub tells-mark : line_for (ask.Validate 3) (tell.Judged verdict.Mark) [] ≡ bytes "validate 0 3\n"
unfolding computes
tells-mark = refl

pub tells-refused : line_for (ask.Prepare 3) (tell.Refused why.Conflict) [] ≡ bytes "prepare 14\n"
unfolding computes
tells-refused = refl
