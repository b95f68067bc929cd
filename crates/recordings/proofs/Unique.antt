-- Two answers that a contract of this crate allows are the same.
-- Assumes nothing.
use Prim.Native.Nat.{ℕ}
use mathlib.Core.Path.{◌≡◌, sym, ◌∙◌}
use mathlib.Core.List.{List}
use Rattle.std.specs.Prelude.{Result}
use Rattle.std.specs.Borrow.{Bor}
use Rattle.paper.specs.declared.Refusal.{Refusal}
use Rattle.formats.specs.Answer.{whole_of}
use Rattle.formats.proofs.Unique.{Answers, read-once, whole-once}
use Rattle.house.specs.declared.Contact.{Contact}
use Rattle.house.specs.declared.Record.{Record}
use Rattle.recordings.specs.Records.{contact_record, frames_in}
use Rattle.recordings.specs.Answer.{contacts_after, counted}

pub read-contact-unique : (l : Bor (List ℕ)) (a b : Result (Contact × Bor (List ℕ)) Refusal) → Answers (contact_record.read l.now) l a → Answers (contact_record.read l.now) l b → a ≡ b
read-contact-unique l = read-once (contact_record.read l.now) l

pub contacts-after-unique : (found : Record) (a b : ℕ) → a ≡ contacts_after found → b ≡ contacts_after found → a ≡ b
contacts-after-unique found a b e f = e ∙ sym f

pub count-frames-unique : (l : List ℕ) (a b : Result ℕ Refusal) → whole_of a ≡ counted (frames_in l) → whole_of b ≡ counted (frames_in l) → a ≡ b
count-frames-unique l = whole-once (counted (frames_in l))
