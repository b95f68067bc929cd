-- `runs::step::cancel` meets its contract: the set is made of the contacts as they were, before all go out of range.
-- Assumes nothing.
use borrow.Author.Rules.{rules}
use mathlib.Core.Path.{refl}
use Rattle.runs.proofs.Stepping.{lists-active}
use Rattle.runs.proofs.step.cancel.Goals as goal

pub returns : goal.returns
returns c =
    record {
      answer = refl;
      small = search rules;
      table = c.rest_all.ensures;
      held = lists-active _ _ _ _ _ _ c.mark_active.ensures c.list_contacts-left.ensures.value;
      output = c.write_cancelled.ensures;
    }
