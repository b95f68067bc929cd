-- What is behind the contacts that list_contacts goes over is the end of what it is lent.
-- Assumes nothing.
use Prim.Native.Nat.{ℕ}
use mathlib.Core.Bool.{false}
use mathlib.Core.List.{List}
use Rattle.formats.proofs.Ends.{TailOf}
use Rattle.fields.specs.Integers.{taken}
use Rattle.touch.specs.Touch.{contact}
use Rattle.touch.proofs.Ends.{contact-ends}
use Rattle.moves.proofs.Ends.{behind-ends}
use Rattle.openings.specs.Openings.{Lists}

-- THE LAW of what list_contacts answers
pub list-contacts-ends : (n : ℕ) (l left before after : List ℕ) → Lists n l left before after → TailOf l left
list-contacts-ends n l left before after h = rw h.passed (behind-ends (contact taken) (contact-ends false) n l)
