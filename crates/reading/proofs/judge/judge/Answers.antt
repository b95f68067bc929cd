-- `reading::judge::judge` meets its contract: the header's refusal, or what its body says.
-- Assumes nothing.
use Rattle.std.proofs.lemmas.Result.{err_from_is_err_and}
use Rattle.reading.proofs.Judging.{header-refused, body-judged}
use Rattle.reading.proofs.judge.judge.Goals as goal

pub returns-in_err-body : goal.returns-in_err-body
returns-in_err-body c =
    let p = err_from_is_err_and c.from_residual.result c.from_residual.ensures.1 in
    rw (p.1, p.2) (header-refused c.args.strictly c.args.message.now _ c.in_err-body.ensures.value)

pub returns : goal.returns
returns c = body-judged _ _ _ _ _ c.in_ok-body.ensures.value c.check_body.ensures.value
