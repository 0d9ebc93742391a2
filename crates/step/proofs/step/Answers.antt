-- What a step that keeps its transaction kept, put together again, is what the step leaves.
use Rattle.std.proofs.Common.{◌≡◌, ◌∙◌, true}
use Rattle.txn.specs.Methods.{whole_of}
use Rattle.txn.proofs.Apart.{whole_parts}
use Rattle.step.specs.Steps.{Tables, step_of, keeps_of, keeping_of, kept_in}
use Rattle.step.proofs.Keeping.{kept-stepped, together}
use Rattle.step.proofs.step.Goals as goal

pub returns-then-keeps : goal.returns-then-keeps
returns-then-keeps c =
    let a = c.args in
    let b : Tables = record { rows = a.rows.now; versions = a.versions.now; buckets = a.buckets.now; lists = a.lists.now; found = a.found.now } in
    let q : keeps_of a.s ≡ true = rw (← c.keeps.ensures) c.if-keeps.true in
    let whole : kept_in (keeping_of b (record { extent = a.place.extent; others = a.place.others; txn = whole_of c.from-parts.result }) a.s)
    ≡ kept_in (step_of b a.place a.s) = rw (q, c.from-parts.ensures, whole_parts a.place.txn) in
    together (step_of b a.place a.s) a.place.txn (c.step_keeping-k.ensures ∙ whole) c.with_kept.ensures c.from-parts.ensures
    (kept-stepped b a.place a.s q)
