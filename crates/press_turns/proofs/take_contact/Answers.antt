-- `press_turns::take_contact` meets its contract.
-- Assumes nothing.
use Rattle.std.proofs.Common.{set, ap}
use Rattle.press_turns.proofs.Turns.{taken_is}
use Rattle.press_turns.proofs.take_contact.Goals as goal

pub returns : goal.returns
returns c =
    let a = c.args in
    taken_is a.hit a.contact a.writing a.count c.is_choice-chose.result _ a.states.now _ a.pressed.now _ a.choices.now _
    c.is_choice-chose.ensures (ap (set a.states.now a.contact.id) c.next_state.ensures) (ap (set a.pressed.now a.contact.id) c.pressed_after.ensures) c.count_on.ensures c.put_choice.ensures
