-- `contacts::rules::is_legal` meets its contract.
-- Assumes nothing.
use mathlib.Core.Path.{ap}
use mathlib.Core.Bool.{not}
use lib.Dec.{eqb}
use Rattle.states.specs.Table.{illegal}
use Rattle.machine.specs.Table.{state_at}
use Rattle.contacts.proofs.rules.is_legal.Goals as goal

pub returns : goal.returns
unfolding state_at
returns c = ap (λ s. not (eqb s illegal)) c.next_state.ensures
