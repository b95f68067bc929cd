-- `frame_records::write::write_contacts` meets its contract. The loop keeps: what is to come, read at the front of what is left and laid from pos
-- on, leaves the output that the whole does.
-- Assumes nothing.
use mathlib.Core.Path.{sym}
use native.Mathlib.Omega.{arith}
use Rattle.frame_records.proofs.Contacts.{laying-next, laying-bad, laying-done}
use Rattle.frame_records.proofs.write.write_contacts.Goals as goal

pub returns-in_default : goal.returns-in_default
returns-in_default c = laying-bad _ _ _ _ _ _ _ c.loop.invariant _ (omega arith) (sym c.in_default.ensures.value)

pub loop-preserved : goal.loop-preserved
loop-preserved c = laying-next _ _ _ _ _ _ _ c.loop.invariant _ _ _ _ _ (omega arith) (sym c.in-Ok.ensures.value) c.write_contact.ensures

pub returns : goal.returns
returns c = laying-done _ _ _ _ _ _ _ c.loop.invariant (omega arith)
