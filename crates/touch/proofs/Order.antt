-- "The body is judged left to right, field by field, and the first fault answers": what was read of a touch message, and a fault other than an
-- end that comes too soon, stand whatever bytes follow.
-- Assumes nothing.
use Prim.Native.Nat.{ℕ}
use mathlib.Core.Bool.{Bool}
use Rattle.formats.proofs.Order.{Ordered, done-ordered, field-ordered, such-ordered, when-ordered, byte-ordered}
use Rattle.fields.specs.Integers.{Integers, taken_by}
use Rattle.fields.proofs.Order.{IntegersOrdered, form-ordered}
use Rattle.house.specs.Fits.{no_sides}
use Rattle.well_formed.specs.WellFormed.{has}
use Rattle.framing.proofs.Order.{body-ordered}
use Rattle.touch.specs.Limits.{touch_limits}
use Rattle.touch.specs.Touch.{optional_of, present, point, flags, sides, orientation, pressure, optional, contact, touch}

module _ (i : Integers) (h : IntegersOrdered i) where
  pub point-ordered : Ordered (point i)
  unfolding point
  point-ordered =
      field-ordered _ (λ p. p.x) _ h.s4 λ x.
      field-ordered _ (λ p. p.y) _ h.s4 λ y.
      done-ordered _

  pub sides-ordered : Ordered (sides i)
  unfolding sides
  sides-ordered =
      field-ordered _ (λ s. s.left) _ h.s2 λ left.
      field-ordered _ (λ s. s.top) _ h.s2 λ top.
      field-ordered _ (λ s. s.right) _ h.s2 λ right.
      field-ordered _ (λ s. s.bottom) _ h.s2 λ bottom.
      done-ordered _

  pub optional-ordered : (p : ℕ) → Ordered (optional i p)
  unfolding optional
  optional-ordered p =
      field-ordered _ (λ o. o.sides) _ (when-ordered (sides i) no_sides (has 1 p) sides-ordered) λ s.
      field-ordered _ (λ o. o.orientation) _ (when-ordered (orientation i) 0 (has 2 p) (such-ordered _ _ _ h.u4)) λ a.
      field-ordered _ (λ o. o.pressure) _ (when-ordered (pressure i) 0 (has 4 p) (such-ordered _ _ _ h.u4)) λ r.
      done-ordered _

  pub contact-ordered : Ordered (contact i)
  unfolding contact
  contact-ordered =
      field-ordered _ (λ c. c.id) _ byte-ordered λ id.
      field-ordered (present i) (λ c. c.present) _ (such-ordered _ _ _ h.u2) λ p.
      field-ordered _ (λ c. c.place) _ point-ordered λ place.
      field-ordered (flags i) (λ c. c.flags) _ (such-ordered _ _ _ h.u4) λ f.
      field-ordered _ optional_of _ (optional-ordered p) λ o.
      done-ordered _

  pub touch-ordered : (judged : Bool) → Ordered (touch i judged)
  touch-ordered = body-ordered i h touch_limits (contact i) contact-ordered

-- strictly or not
pub form-touch-ordered : (strictly judged : Bool) → Ordered (touch (taken_by strictly) judged)
form-touch-ordered strictly = touch-ordered (taken_by strictly) (form-ordered strictly)
