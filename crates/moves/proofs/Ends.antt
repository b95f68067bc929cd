-- What is behind the contacts of a frame is the end of what they were read from, and all of it where they cannot all be read.
-- Assumes nothing.
use Prim.Native.Nat.{ℕ}
use mathlib.Core.Path.{◌≡◌, refl}
use mathlib.Core.Bool.{Bool}
use mathlib.Core.List.{List}
use Rattle.formats.specs.Format.{Got, got, bad, Format}
use Rattle.formats.proofs.Ends.{TailOf, Ends, times-ends, drop-ends}
use Rattle.framing.specs.After.{on_read}
use Rattle.house.specs.declared.Contact.{Contact}
use Rattle.machine.specs.Table.{Table}
use Rattle.contacts.specs.Ruling.{source, contacts_by}
use Rattle.contacts.proofs.Ends.{source-ends}
use Rattle.moves.specs.Moves.{behind, Applies}

pub behind-ends : (format : Format Contact) → Ends format → (n : ℕ) (l : List ℕ) → TailOf l (behind format n l)
behind-ends format h n l = go (contacts_by format n l) refl
  where
    go : (x : Got (List Contact)) → contacts_by format n l ≡ x → TailOf l (on_read l (λ cs t. t) x)
    go (got cs t) e = (times-ends format n h).ends l cs t e
    go (bad e) w = drop-ends 0 l

-- THE LAW of what apply answers
pub apply-ends : (recorded : Bool) (n : ℕ) (l left : List ℕ) (t u : Table) → Applies (source recorded) n l left t u → TailOf l left
apply-ends recorded n l left t u a = rw a.passed (behind-ends (source recorded) (source-ends recorded) n l)
