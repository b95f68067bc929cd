-- The touch message is a lawful format, over any five lawful integers: what is written is read back, what is read can be written, and where the
-- integers are strict it is written back to the same bytes.
-- Assumes nothing.
use Prim.Native.Nat.{ℕ}
use mathlib.Core.Path.{◌≡◌, ap}
use mathlib.Core.Bool.{Bool, true}
use Rattle.formats.proofs.Laws.{Law, done-law, field-law, such-law, when-law, byte-law}
use Rattle.fields.specs.Integers.{Integers, taken_by}
use Rattle.fields.proofs.Laws.{IntegersLaw, form-law}
use Rattle.house.specs.Fits.{no_sides}
use Rattle.well_formed.specs.WellFormed.{has}
use Rattle.framing.proofs.Laws.{body-law}
use Rattle.touch.specs.Limits.{touch_limits}
use Rattle.touch.specs.Touch.{optional_of, point, sides, orientation, pressure, optional, contact, touch}

module _ {X : Type 0} (i : Integers) (h : IntegersLaw X i) where
  pub point-law : Law X (point i)
  unfolding point
  point-law =
      field-law _ _ _ h.s4 (λ a b e. ap (λ p. p.x) e.1) λ x.
      field-law _ _ _ h.s4 (λ a b e. ap (λ p. p.y) e) λ y.
      done-law _

  pub sides-law : Law X (sides i)
  unfolding sides
  sides-law =
      field-law _ _ _ h.s2 (λ a b e. ap (λ s. s.left) e.1.1.1) λ left.
      field-law _ _ _ h.s2 (λ a b e. ap (λ s. s.top) e.1.1) λ top.
      field-law _ _ _ h.s2 (λ a b e. ap (λ s. s.right) e.1) λ right.
      field-law _ _ _ h.s2 (λ a b e. ap (λ s. s.bottom) e) λ bottom.
      done-law _

  pub optional-law : (p : ℕ) → Law X (optional i p)
  unfolding optional
  optional-law p =
      field-law _ _ _ (when-law (sides i) no_sides (has 1 p) sides-law) (λ a b e. ap (λ o. o.sides) e.1.1) λ s.
      field-law _ _ _ (when-law (orientation i) 0 (has 2 p) (such-law _ _ _ h.u4)) (λ a b e. ap (λ o. o.orientation) e.1) λ a.
      field-law _ _ _ (when-law (pressure i) 0 (has 4 p) (such-law _ _ _ h.u4)) (λ a b e. ap (λ o. o.pressure) e) λ r.
      done-law _

  pub contact-law : Law X (contact i)
  unfolding contact
  contact-law =
      field-law _ _ _ byte-law (λ a b e. ap (λ c. c.id) e.1.1.1.1) λ id.
      field-law _ _ _ (such-law _ _ _ h.u2) (λ a b e. ap (λ c. c.present) e.1.1.1) λ p.
      field-law _ _ _ point-law (λ a b e. ap (λ c. c.place) e.1.1) λ place.
      field-law _ _ _ (such-law _ _ _ h.u4) (λ a b e. ap (λ c. c.flags) e.1) λ f.
      field-law _ _ _ (optional-law p) (λ a b e. ap optional_of e) λ o.
      done-law _

  pub touch-law : (judged : Bool) → Law X (touch i judged)
  touch-law = body-law i h touch_limits (contact i) contact-law

pub form-touch-law : (strictly judged : Bool) → Law (strictly ≡ true) (touch (taken_by strictly) judged)
form-touch-law strictly = touch-law (taken_by strictly) (form-law strictly)
