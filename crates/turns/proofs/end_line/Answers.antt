-- `turns::end_line` meets its contract.
-- Assumes nothing.
use mathlib.Core.Path.{ap}
use Rattle.lines.specs.Page.{Placed, add_all}
use Rattle.turns.proofs.end_line.Goals as goal

pub returns : goal.returns
unfolding add_all
returns c =
    let a = c.before.before.before in
    let e = a.add_byte.ensures.all in
    let w = a.args.stand.window in
    record { stand = λ i. record { window = w; at = (e i).at; number = c.after.ensures i }; page = ap (λ (p : Placed). p.page) e }
