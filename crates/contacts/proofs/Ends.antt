-- What a contact leaves behind it is the end of what it was read from, in records or in a message.
-- Assumes nothing.
use Prim.Native.Nat.{ℕ}
use mathlib.Core.Path.{◌≡◌}
use mathlib.Core.Bool.{Bool, true, false}
use mathlib.Core.List.{List}
use Rattle.std.specs.Prelude.{Result}
use Rattle.std.specs.Borrow.{Bor}
use Rattle.paper.specs.declared.Refusal.{Refusal}
use Rattle.formats.specs.Answer.{read_of}
use Rattle.formats.proofs.Ends.{Ends, AnswerEnds, answer-ends}
use Rattle.house.specs.declared.Contact.{Contact}
use Rattle.touch.proofs.Ends.{contact-ends}
use Rattle.recordings.proofs.Ends.{contact-record-ends}
use Rattle.contacts.specs.Ruling.{source}

pub source-ends : (recorded : Bool) → Ends (source recorded)
source-ends true = contact-record-ends
source-ends false = contact-ends false

-- THE LAW of what read_contact answers
pub read-contact-ends : (recorded : Bool) (l : List ℕ) (r : Result (Contact × Bor (List ℕ)) Refusal) → read_of r ≡ (source recorded).read l → AnswerEnds l r
read-contact-ends recorded = answer-ends (source recorded) (source-ends recorded)
