-- A touch message is refused strictly with 6, or is read strictly as it is read leniently.
-- Assumes nothing.
use Prim.Native.Nat.{ℕ}
use mathlib.Core.Path.{◌≡◌, refl, sym, ap, subst}
use mathlib.Core.Bool.{Bool, true, false}
use mathlib.Core.List.{List, [], ◌++◌}
use lib.ListN.{length}
use Rattle.paper.specs.Refusals.{not_shortest}
use Rattle.formats.specs.Format.{byte, write_series, Each}
use Rattle.formats.proofs.Agreeing.{Agreeing, itself-agrees, done-agrees, field-agrees, such-agrees, when-agrees}
use Rattle.fields.specs.Integers.{Integers, taken_by, strict, lenient, taken}
use Rattle.fields.proofs.Agreeing.{IntegersAgreeing, strict-agrees}
use Rattle.house.specs.Fits.{no_sides}
use Rattle.house.specs.declared.Contact.{Contact}
use Rattle.well_formed.specs.WellFormed.{has}
use Rattle.framing.specs.Frame.{Frame}
use Rattle.framing.specs.Format.{body_head_of, body_format, body_head_format, frame_format, frame_head_format}
use Rattle.framing.proofs.Agreeing.{frame-agrees, body-agrees}
use Rattle.touch.specs.Limits.{touch_limits}
use Rattle.touch.specs.Touch.{Touch, optional_of, present, point, flags, sides, orientation, pressure, optional, contact, frame, touch_head, touch}

module _ {e : ℕ} (i j : Integers) (h : IntegersAgreeing e i j) where
  point_agrees : Agreeing e (point i) (point j)
  unfolding point
  point_agrees =
      field-agrees i.s4 j.s4 (λ p. p.x) _ _ h.s4 λ x.
      field-agrees i.s4 j.s4 (λ p. p.y) _ _ h.s4 λ y.
      done-agrees _

  sides_agrees : Agreeing e (sides i) (sides j)
  unfolding sides
  sides_agrees =
      field-agrees i.s2 j.s2 (λ s. s.left) _ _ h.s2 λ left.
      field-agrees i.s2 j.s2 (λ s. s.top) _ _ h.s2 λ top.
      field-agrees i.s2 j.s2 (λ s. s.right) _ _ h.s2 λ right.
      field-agrees i.s2 j.s2 (λ s. s.bottom) _ _ h.s2 λ bottom.
      done-agrees _

  optional-agrees : (p : ℕ) → Agreeing e (optional i p) (optional j p)
  unfolding optional
  optional-agrees p =
      field-agrees _ _ (λ o. o.sides) _ _ (when-agrees (sides i) (sides j) no_sides (has 1 p) sides_agrees) λ s.
      field-agrees _ _ (λ o. o.orientation) _ _ (when-agrees (orientation i) (orientation j) 0 (has 2 p) (such-agrees _ _ _ _ h.u4)) λ a.
      field-agrees _ _ (λ o. o.pressure) _ _ (when-agrees (pressure i) (pressure j) 0 (has 4 p) (such-agrees _ _ _ _ h.u4)) λ r.
      done-agrees _

  contact-agrees : Agreeing e (contact i) (contact j)
  unfolding contact
  contact-agrees =
      field-agrees _ _ (λ c. c.id) _ _ (itself-agrees byte) λ id.
      field-agrees (present i) (present j) (λ c. c.present) _ _ (such-agrees _ _ _ _ h.u2) λ p.
      field-agrees (point i) (point j) (λ c. c.place) _ _ point_agrees λ place.
      field-agrees (flags i) (flags j) (λ c. c.flags) _ _ (such-agrees _ _ _ _ h.u4) λ f.
      field-agrees (optional i p) (optional j p) optional_of _ _ (optional-agrees p) λ o.
      done-agrees _

pub strict-frame-agrees : (judged : Bool) → Agreeing not_shortest (frame strict judged) (frame lenient judged)
strict-frame-agrees = frame-agrees strict lenient strict-agrees touch_limits (contact strict) (contact lenient) (contact-agrees strict lenient strict-agrees)

pub strict-touch-agrees : (judged : Bool) → Agreeing not_shortest (touch strict judged) (touch lenient judged)
strict-touch-agrees = body-agrees strict lenient strict-agrees touch_limits (contact strict) (contact lenient) (contact-agrees strict lenient strict-agrees)

-- ---- and strictly or not, the same can be written, and is written the same

frame-writes : (judged : Bool) → (frame strict judged).write ≡ (frame lenient judged).write
unfolding frame_format frame_head_format contact point sides optional
frame-writes true = refl
frame-writes false = refl

frame-holds : (judged : Bool) → (frame strict judged).Holds ≡ (frame lenient judged).Holds
unfolding frame_format frame_head_format contact point sides optional
frame-holds true = refl
frame-holds false = refl

pub touch-writes : (strictly : Bool) (m : Touch) → (touch (taken_by strictly) false).write m ≡ (touch taken false).write m
unfolding body_format body_head_format
touch-writes true m = ap (λ (w : Bool → Frame Contact → List ℕ). (touch_head taken).write (body_head_of m) ++ (write_series w false m.frames ++ [])) (λ j b. frame-writes b j)
touch-writes false m = refl

-- what can be written, over what can of a frame
abbrev Held : Touch → (Bool → Frame Contact → Type 0) → Type 0
Held m H = (touch_head taken).Holds (body_head_of m) × (Each H false (length m.frames) m.frames × (m ≡ record { time = m.time; frames = m.frames }))

pub touch-holds : (strictly : Bool) (m : Touch) → (touch taken false).Holds m → (touch (taken_by strictly) false).Holds m
unfolding body_format body_head_format
touch-holds true m h = subst (Held m) (λ j b. sym (frame-holds b) j) h
touch-holds false m h = h
