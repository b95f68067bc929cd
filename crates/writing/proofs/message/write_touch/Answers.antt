-- `writing::message::write_touch` meets its contract: a refusal leaves all as it was, and what passes all checks is written.
-- Assumes nothing.
use mathlib.Core.Path.{sym, ap, ◌∙◌}
use native.Mathlib.Omega.{arith}
use Rattle.paper.specs.Refusals.{none}
use Rattle.slices.specs.Writing.{answered, left}
use Rattle.slices.proofs.Laws.{writes_bytes}
use Rattle.messages.specs.Header as event
use Rattle.messages.proofs.Laws.{header-long}
use Rattle.writing.specs.Spelling.{body_of}
use Rattle.writing.specs.Judging.{records_in}
use Rattle.writing.proofs.message.write_touch.Goals as goal

pub returns-in-Err : goal.returns-in-Err
returns-in-Err c =
    let g = c.in-Err.ensures in
    record { answer = c.refused.ensures ∙ sym (ap answered g); output = sym (ap (left c.args.out.now) g) }

pub write_message-requires : goal.write_message-requires
write_message-requires c =
    let j = c.in-Ok.ensures in
    (j.early, j.spelt, j.total, j.fits)

pub returns : goal.returns
returns c =
    let j = c.in-Ok.ensures in
    let p = c.write_message.ensures in
    let l = c.args.records.now in
    let n = header-long event.touch c.in-Ok.judged.1 (body_of c.args.time c.in-Ok.judged.0 (records_in l) l) in
    rw j.draft (writes_bytes _ _ _ _ (omega (arith, n, j.total, j.fits)) (c.done.ensures ∙ ap (λ n. record { refusal = none; bytes = n }) p.count) p.output)
