-- `log_records::Reader::next` meets its contract.
-- Assumes nothing.
use Rattle.std.proofs.Common.{◌+◌, ◌<◌, length, sym, ◌∙◌, arith}
use Rattle.std.proofs.lemmas.Result.{err_from_is_err_and}
use Rattle.log_records.proofs.Decoding.{decoded-short, decoded-unknown, decoded-unlike, decoded-cut, decoded-whole}
use Rattle.log_records.proofs.Reader.next.Goals as goal
use Rattle.log_records.proofs.Reader.next.Goals.{
  then-n-lt4-via-then-n-lt4,
  then-n-lt4-via-else-n-lt4+then-at-n,
  then-length-via-then-length,
  then-length-via-else-length+then-n-at,
}

pub returns-then-n-lt4 : goal.returns-then-n-lt4
returns-then-n-lt4 c =
    let r = c.args.self.now in
    let short : length r.log.now < r.at + 4 =
    elim c.then-n-lt4.branch [ then-n-lt4-via-then-n-lt4 w ↦ omega arith | then-n-lt4-via-else-n-lt4+then-at-n w ↦ omega arith ] in
    rw (decoded-short r.log.now r.at short)

pub returns-in_err-kind : goal.returns-in_err-kind
returns-in_err-kind c =
    let r = c.args.self.now in
    let p = err_from_is_err_and c.from_residual.result c.from_residual.ensures.1 in
    let n = c.number_at-length in
    let k = c.number_at in
    let unknown = decoded-unknown r.log.now r.at n.result k.result n.ensures.value k.ensures.value c.in_err-kind.ensures in
    rw (p.1, unknown)

pub returns-then-length : goal.returns-then-length
returns-then-length c =
    let r = c.args.self.now in
    let n = c.number_at-length in
    let k = c.number_at in
    elim c.then-length.branch [
      | then-length-via-then-length w ↦
          rw (decoded-unlike r.log.now r.at n.result k.result n.ensures.value k.ensures.value (omega (arith, n.ensures.small))
          (λ e. w.if-length.true (e ∙ sym (rw c.in_ok-kind.ensures at c.length.ensures))))
      | then-length-via-else-length+then-n-at w ↦
          rw (decoded-cut r.log.now r.at n.result k.result n.ensures.value k.ensures.value (omega arith))
    ]

pub returns : goal.returns
returns c =
    let r = c.args.self.now in
    let n = c.number_at-length in
    let k = c.number_at in
    let e = c.in_ok-kind.ensures in
    let whole = decoded-whole r.log.now r.at n.result k.result n.ensures.value k.ensures.value (omega arith) (omega (arith, n.ensures.small))
    (c.if-length.false ∙ rw e at c.length.ensures) (omega arith) in
    rw (whole, c.command_at.ensures, e)
