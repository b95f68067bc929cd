-- `press_turns::look_at` meets its contract.
-- Assumes nothing.
use Rattle.std.proofs.Common.{Bool, sym, ap, ◌∙◌}
use Rattle.press_turns.proofs.Turns.{look-of, look-none}
use Rattle.press_turns.proofs.look_at.Goals as goal

pub returns-in_default : goal.returns-in_default
returns-in_default c = c.no_look.ensures ∙ look-none c.args.records.now c.args.at c.record_at.result c.record_at.ensures c.in_default.not-Contact

pub returns : goal.returns
returns c =
    ap (λ (due : Bool). record { due = due; point = c.in-Contact.contact.place }) c.does_look.ensures ∙ sym (look-of c.args.records.now c.args.at _ (sym c.record_at.ensures ∙ c.in-Contact.is))
