-- Two answers that a contract of this crate allows are equal.
-- Assumes nothing.
use Prim.Native.Nat.{ℕ, ◌≤◌}
use mathlib.Core.Path.{◌≡◌, sym, ◌∙◌}
use mathlib.Core.Bool.{Bool}
use mathlib.Core.List.{List}
use Rattle.std.specs.Prelude.{Option, Result}
use Rattle.std.specs.Borrow.{Bor}
use Rattle.paper.specs.declared.Refusal.{Refusal}
use Rattle.formats.specs.Format.{Got}
use Rattle.formats.proofs.Unique.{Answers, read-once}
use Rattle.house.specs.declared.Contact.{Contact}
use Rattle.machine.specs.Table.{Table, contacts}
use Rattle.contacts.specs.Ruling.{source, Counted, judged_from, ruling_by}
use Rattle.contacts.specs.declared.Ruling.{Ruling}

pub count-active-unique : (states : List ℕ) (a b : ℕ) → Counted a states × (a ≤ contacts) → Counted b states × (b ≤ contacts) → a ≡ b
count-active-unique states a b e f = e.0.same ∙ sym f.0.same

pub read-contact-unique : (recorded : Bool) (l : Bor (List ℕ)) (a b : Result (Contact × Bor (List ℕ)) Refusal)
    → Answers ((source recorded).read l.now) l a → Answers ((source recorded).read l.now) l b → a ≡ b
read-contact-unique recorded l = read-once ((source recorded).read l.now) l

module _ (most active : ℕ) (t : Table) (x : Got (List Contact)) where
  pub judge-unique : (a b : Option ℕ) → a ≡ judged_from most active t x → b ≡ judged_from most active t x → a ≡ b
  judge-unique a b e f = e ∙ sym f

  pub verdict-of-unique : (judged : Bool) (a b : Ruling) → a ≡ ruling_by judged (judged_from most active t x) → b ≡ ruling_by judged (judged_from most active t x) → a ≡ b
  verdict-of-unique judged a b e f = e ∙ sym f
