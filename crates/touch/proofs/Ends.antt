-- What a touch contact leaves behind it is the end of what it was read from.
-- Assumes nothing.
use Prim.Native.Nat.{ℕ}
use mathlib.Core.Path.{◌≡◌}
use mathlib.Core.Bool.{Bool}
use mathlib.Core.List.{List}
use Rattle.std.specs.Prelude.{Result}
use Rattle.std.specs.Borrow.{Bor}
use Rattle.paper.specs.declared.Refusal.{Refusal}
use Rattle.formats.specs.Format.{byte}
use Rattle.formats.specs.Answer.{read_of}
use Rattle.formats.proofs.Ends.{Ends, AnswerEnds, done-ends, field-ends, such-ends, when-ends, byte-ends, answer-ends}
use Rattle.fields.specs.Integers.{Integers, taken_by}
use Rattle.fields.proofs.Ends.{IntegersEnd, form-ends}
use Rattle.house.specs.Fits.{no_sides}
use Rattle.house.specs.declared.Contact.{Contact}
use Rattle.well_formed.specs.WellFormed.{has}
use Rattle.touch.specs.Touch.{optional_of, present, point, flags, sides, orientation, pressure, optional, contact}

module _ (i : Integers) (h : IntegersEnd i) where
  point-ends : Ends (point i)
  unfolding point
  point-ends =
      field-ends i.s4 (λ p. p.x) _ h.s4 λ x.
      field-ends i.s4 (λ p. p.y) _ h.s4 λ y.
      done-ends _

  sides-ends : Ends (sides i)
  unfolding sides
  sides-ends =
      field-ends i.s2 (λ s. s.left) _ h.s2 λ left.
      field-ends i.s2 (λ s. s.top) _ h.s2 λ top.
      field-ends i.s2 (λ s. s.right) _ h.s2 λ right.
      field-ends i.s2 (λ s. s.bottom) _ h.s2 λ bottom.
      done-ends _

  optional-ends : (p : ℕ) → Ends (optional i p)
  unfolding optional
  optional-ends p =
      field-ends _ (λ o. o.sides) _ (when-ends (sides i) no_sides (has 1 p) sides-ends) λ s.
      field-ends _ (λ o. o.orientation) _ (when-ends (orientation i) 0 (has 2 p) (such-ends i.u4 _ _ h.u4)) λ a.
      field-ends _ (λ o. o.pressure) _ (when-ends (pressure i) 0 (has 4 p) (such-ends i.u4 _ _ h.u4)) λ r.
      done-ends _

  contact_ends : Ends (contact i)
  unfolding contact
  contact_ends =
      field-ends byte (λ c. c.id) _ byte-ends λ id.
      field-ends (present i) (λ c. c.present) _ (such-ends i.u2 _ _ h.u2) λ p.
      field-ends (point i) (λ c. c.place) _ point-ends λ place.
      field-ends (flags i) (λ c. c.flags) _ (such-ends i.u4 _ _ h.u4) λ f.
      field-ends (optional i p) optional_of _ (optional-ends p) λ o.
      done-ends _

module _ (strictly : Bool) where
  pub contact-ends : Ends (contact (taken_by strictly))
  contact-ends = contact_ends (taken_by strictly) (form-ends strictly)

  -- THE LAW of what read_contact answers
  pub read-contact-ends : (l : List ℕ) (r : Result (Contact × Bor (List ℕ)) Refusal) → read_of r ≡ (contact (taken_by strictly)).read l → AnswerEnds l r
  read-contact-ends = answer-ends (contact (taken_by strictly)) contact-ends
