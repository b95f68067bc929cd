-- Two outcomes that a contract of this crate allows are equal, in the answer, in the output and in the table.
-- Assumes nothing.
use Prim.Native.Nat.{ℕ}
use mathlib.Core.Path.{◌≡◌, sym, ◌∙◌}
use mathlib.Core.List.{List}
use Rattle.std.specs.Borrow.{Bor}
use Rattle.slices.specs.Writing.{bytes, Writes}
use Rattle.slices.specs.declared.Written.{Written}
use Rattle.slices.proofs.Laws.{writes-unique}
use Rattle.formats.specs.Format.{Format}
use Rattle.formats.specs.Answer.{end_of}
use Rattle.formats.proofs.Unique.{one-place}
use Rattle.house.specs.declared.Point.{Point}
use Rattle.house.specs.declared.Contact.{Contact}
use Rattle.contacts.specs.Touch.{touch_view}
use Rattle.machine.specs.Table.{Table, with_contact, resting}
use Rattle.machine.specs.Machine.{cancels, dismiss_bytes}
use Rattle.moves.specs.Moves.{Moves, Applies, Dismisses}

pub store-unique : (id state : ℕ) (place : Point) (t u u' : Table) → u ≡ with_contact t id state place → u' ≡ with_contact t id state place → u ≡ u'
store-unique id state place t u u' h k = h ∙ sym k

pub move-contact-unique : (c : Contact) (t u u' : Table) → Moves c t u → Moves c t u' → u ≡ u'
move-contact-unique c t u u' h k = h ∙ sym k

pub apply-unique : (format : Format Contact) (n : ℕ) (l m m' : Bor (List ℕ)) (t u u' : Table)
    → Applies format n l.now m.now t u × (end_of m ≡ end_of l) → Applies format n l.now m'.now t u' × (end_of m' ≡ end_of l) → (m ≡ m') × (u ≡ u')
apply-unique format n l m m' t u u' (h, p) (k, q) = (one-place l m m' (h.passed ∙ sym k.passed) p q, h.table ∙ sym k.table)

pub rest-all-unique : (u u' : Table) → u ≡ resting → u' ≡ resting → u ≡ u'
rest-all-unique u u' h k = h ∙ sym k

pub write-cancels-unique : (t : Table) (v w : Written) (before after after' : List ℕ)
    → Writes (bytes (cancels touch_view t)) v before after → Writes (bytes (cancels touch_view t)) w before after' → (v ≡ w) × (after ≡ after')
write-cancels-unique t = writes-unique (bytes (cancels touch_view t))

pub dismiss-unique : (id : ℕ) (v w : Written) (before after after' : List ℕ) (t u u' : Table)
    → Dismisses id v before after t u → Dismisses id w before after' t u' → ((v ≡ w) × (after ≡ after')) × (u ≡ u')
dismiss-unique id v w before after after' t u u' h k =
    (writes-unique (bytes (dismiss_bytes touch_view t id)) v w before after after' h.writes k.writes, h.table ∙ sym k.table)
