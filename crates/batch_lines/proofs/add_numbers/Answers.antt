-- `batch_lines::add_numbers` meets its contract: its calls add the numbers in order.
-- Assumes nothing.
use Rattle.lines.proofs.Adding.{added_then}
use Rattle.batch_lines.proofs.add_numbers.Goals as goal

pub returns : goal.returns
returns c =
    let k₅ = c.before.before.before.before.before.before.before in
    let k₄ = k₅.before.before.before.before.before in
    let k₃ = k₄.before.before.before.before.before in
    let k₂ = k₃.before.before.before.before.before in
    let k₁ = k₂.before.before.before.before.before in
    added_then k₁.add_count-at.ensures
    (added_then k₂.add_count-at-2.ensures
    (added_then k₃.add_count-at-3.ensures
    (added_then k₄.add_count-at-4.ensures
    (added_then k₅.add_count-at-5.ensures c.add_count.ensures))))
