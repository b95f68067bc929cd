-- What the record of a contact leaves behind it is the end of what it was read from.
-- Assumes nothing.
use Prim.Native.Nat.{ℕ}
use mathlib.Core.Path.{◌≡◌}
use mathlib.Core.Bool.{Bool, true, false, cond}
use mathlib.Core.List.{List}
use lib.ListN.{take, drop}
use Rattle.std.specs.Prelude.{Result}
use Rattle.std.specs.Borrow.{Bor}
use Rattle.paper.specs.Refusals.{bad_record}
use Rattle.paper.specs.declared.Refusal.{Refusal}
use Rattle.formats.specs.Format.{got, bad}
use Rattle.formats.specs.Answer.{read_of}
use Rattle.formats.proofs.Laws.{never}
use Rattle.formats.proofs.Ends.{TailOf, Ends, AnswerEnds, drop-ends, answer-ends}
use Rattle.house.specs.Fields.{record_bytes}
use Rattle.house.specs.Layout.{contact_of, touched}
use Rattle.house.specs.declared.Contact.{Contact}
use Rattle.recordings.specs.Records.{stands, contact_record}

pub contact-record-ends : Ends contact_record
contact-record-ends = record { ends = λ l a t e. go l a t (stands touched l) e }
  where
    go : (l : List ℕ) (a : Contact) (t : List ℕ) (b : Bool) → cond b (got (contact_of (take record_bytes l)) (drop record_bytes l)) (bad bad_record) ≡ got a t → TailOf l t
    go l a t true e = let z : drop record_bytes l ≡ t = cc in rw (← z) (drop-ends record_bytes l)
    go l a t false e = never bad_record a t e

-- THE LAW of what read_contact answers
pub read-contact-ends : (l : List ℕ) (r : Result (Contact × Bor (List ℕ)) Refusal) → read_of r ≡ contact_record.read l → AnswerEnds l r
read-contact-ends = answer-ends contact_record contact-record-ends
