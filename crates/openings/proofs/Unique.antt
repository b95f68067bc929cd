-- Two outcomes that a contract of this crate allows are equal, in the answer and in the set.
-- Assumes nothing.
use Prim.Native.Nat.{ℕ}
use mathlib.Core.Path.{◌≡◌, sym, ◌∙◌}
use mathlib.Core.Bool.{Bool}
use mathlib.Core.List.{List, []}
use Rattle.std.specs.Borrow.{Bor}
use Rattle.formats.specs.Format.{Got}
use Rattle.formats.specs.Answer.{end_of}
use Rattle.formats.proofs.Unique.{one-place}
use Rattle.house.specs.declared.Contact.{Contact}
use Rattle.machine.specs.Held.{active_ids}
use Rattle.contacts.specs.Ruling.{table_from}
use Rattle.openings.specs.Openings.{judged_among, Lists}

pub is-judged-unique : (running : Bool) (held : List ℕ) (x : Got (List Contact)) (a b : Bool) → a ≡ judged_among running held x → b ≡ judged_among running held x → a ≡ b
is-judged-unique running held x a b e f = e ∙ sym f

pub mark-active-unique : (states a b : List ℕ) → a ≡ active_ids (table_from states [] []) → b ≡ active_ids (table_from states [] []) → a ≡ b
mark-active-unique states a b e f = e ∙ sym f

pub list-contacts-unique : (n : ℕ) (l m m' : Bor (List ℕ)) (h k k' : List ℕ)
    → Lists n l.now m.now h k × (end_of m ≡ end_of l) → Lists n l.now m'.now h k' × (end_of m' ≡ end_of l) → (m ≡ m') × (k ≡ k')
list-contacts-unique n l m m' h k k' (e, p) (f, q) = (one-place l m m' (e.passed ∙ sym f.passed) p q, e.held ∙ sym f.held)
