-- `press_turns::go_on` meets its contract: the turn over the record at the place.
-- Assumes nothing.
use Rattle.std.proofs.Common.{ℕ, List, sym, ap, ◌∙◌}
use Rattle.house.specs.declared.Record.TheVariants as Record
use Rattle.presses.specs.Turns.{Went, went_to, turned_by}
use Rattle.press_turns.proofs.Turns.{passed_by, went-none, went-contact, turned-is}
use Rattle.press_turns.proofs.go_on.Goals as goal

pub returns-in_default : goal.returns-in_default
returns-in_default c =
    let a = c.args in
    let went : Went = went_to a.states.now a.pressed.now a.tally a.choices.now in
    ap (passed_by went) c.next_at.ensures ∙ went-none a.hit a.records.now a.writing went c.record_at.result c.record_at.ensures c.in_default.not-Contact

pub returns : goal.returns
returns c =
    let a = c.args in
    let lent : List ℕ = a.records.now in
    let went : Went = went_to a.states.now a.pressed.now a.tally a.choices.now in
    let x = c.in-Contact.contact in
    turned-is a.hit x _ a.writing a.tally _ a.states.now _ a.pressed.now _ a.choices.now _ c.take_contact-count.ensures
    ∙ ap (λ (n : ℕ). turned_by a.hit (Record.Contact 1 x) n a.writing went) c.next_at.ensures
    ∙ sym (went-contact a.hit lent a.writing went _ x (sym c.record_at.ensures ∙ c.in-Contact.is))
