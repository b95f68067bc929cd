-- `readings::tell` meets its contract: the texts have room, and the line's end.
-- Assumes nothing.
use native.Mathlib.Omega.{arith}
use Rattle.lines.proofs.Adding.{added_then}
use Rattle.turns.proofs.Laws.{line-told}
use Rattle.readings.specs.Line.{back_text}
use Rattle.readings.proofs.Laws.{line-short}
use Rattle.readings.proofs.tell.Goals as goal

pub returns : goal.returns
returns c =
    let t = back_text c.args.strictly c.args.message.now c.read-answer.result c.read-answer.new.output in
    let n = line-short c.args.strictly c.args.message.now c.read-answer.result c.read-answer.new.output in
    record {
      answer = c.read-answer.result;
      read = c.read-answer.ensures;
      line = line-told _ _ _ _ _ _ _ (added_then {ts = t} c.add_answer-answered.ensures c.add_back-at.ensures) (omega (arith, c.requires, n)) c.end_line.ensures;
    }
