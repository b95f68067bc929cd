-- `states::next_state` meets its contract, by the rule of the whole table.
-- Assumes nothing.
use mathlib.Core.Path.{sym, ◌∙◌, ap}
use Prim.Native.Nat.{ℕ}
use lib.ListN.{get_or}
use Rattle.states.specs.Table.{next, from, table, unlisted}
use Rattle.states.proofs.Rule.{rule, no-state, no_row}
use Rattle.states.proofs.next_state.Goals as goal

pub returns-then-row-ge8 : goal.returns-then-row-ge8
unfolding next
returns-then-row-ge8 c = sym (no_row _ _ (rw c.row_of-row.ensures at c.if-row-ge8.true))

pub returns-then-state-gt-ENGAGED : goal.returns-then-state-gt-ENGAGED
unfolding next
returns-then-state-gt-ENGAGED c = sym (no-state _ _ c.if-state-gt-ENGAGED.true)

pub returns : goal.returns
unfolding next
returns c =
    let k = c.row_of-row in
    let s = c.args.state in
    rule k.result s c.if-row-ge8.false c.if-state-gt-ENGAGED.false
    ∙ ap (λ (n : ℕ). from s (get_or table n unlisted)) k.ensures
