-- Two outcomes that a contract of this crate's public call allows are the same.
-- Assumes nothing.
use Prim.Native.Nat.{ℕ}
use mathlib.Core.Path.{◌≡◌}
use mathlib.Core.List.{List}
use Rattle.std.specs.Prelude.{Result}
use Rattle.std.specs.Borrow.{Bor}
use Rattle.paper.specs.declared.Refusal.{Refusal}
use Rattle.formats.proofs.Unique.{Answers, read-once}
use Rattle.fields.specs.Integers.{Integers}
use Rattle.house.specs.declared.Contact.{Contact}
use Rattle.touch.specs.Touch.{contact}

-- whatever integers are taken
pub read-contact-unique : (i : Integers) (l : Bor (List ℕ)) (a b : Result (Contact × Bor (List ℕ)) Refusal) → Answers ((contact i).read l.now) l a → Answers ((contact i).read l.now) l b → a ≡ b
read-contact-unique i l = read-once ((contact i).read l.now) l
