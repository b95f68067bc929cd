-- "The body is judged left to right, field by field, and the first fault answers": what was read of a message of frames, and a fault other than
-- an end that comes too soon, stand whatever bytes follow.
-- Assumes nothing.
use mathlib.Core.Bool.{Bool, true, false}
use Rattle.formats.specs.Format.{Format}
use Rattle.formats.proofs.Order.{Ordered, done-ordered, field-ordered, such-ordered, series-ordered, times-ordered}
use Rattle.fields.specs.Integers.{Integers}
use Rattle.fields.proofs.Order.{IntegersOrdered}
use Rattle.framing.specs.Frame.{head_of}
use Rattle.framing.specs.Format.{Limits, body_head_of, count_to, offset, frame_head_format, body_head_format, frame_format, body_format}

module _ (i : Integers) (h : IntegersOrdered i) where
  offset-ordered : (judged : Bool) → Ordered (offset i judged)
  offset-ordered true = such-ordered _ _ _ h.u8
  offset-ordered false = h.u8

  module _ (limits : Limits) where
    frame-head-ordered : (judged : Bool) → Ordered (frame_head_format i limits judged)
    unfolding frame_head_format
    frame-head-ordered judged =
        field-ordered (count_to i limits.contacts) (λ h. h.count) _ (such-ordered _ _ _ h.u2) λ n.
        field-ordered (offset i judged) (λ h. h.offset.0) _ (offset-ordered judged) λ o.
        done-ordered _

    body-head-ordered : Ordered (body_head_format i limits)
    unfolding body_head_format
    body-head-ordered =
        field-ordered _ (λ h. h.time.0) _ h.u4 λ t.
        field-ordered (count_to i limits.frames) (λ h. h.frames) _ (such-ordered _ _ _ h.u2) λ n.
        done-ordered _

    module _ {C : Type 0} (contact : Format C) (contact-ordered : Ordered contact) where
      frame-ordered : (judged : Bool) → Ordered (frame_format i limits contact judged)
      unfolding frame_format
      frame-ordered judged =
          field-ordered (frame_head_format i limits judged) head_of _ (frame-head-ordered judged) λ h.
          field-ordered _ (λ f. f.contacts) _ (times-ordered _ h.count contact-ordered) λ cs.
          done-ordered _

      pub body-ordered : (judged : Bool) → Ordered (body_format i limits contact judged)
      unfolding body_format
      body-ordered judged =
          field-ordered (body_head_format i limits) body_head_of _ body-head-ordered λ h.
          field-ordered _ (λ m. m.frames) _ (series-ordered (frame_format i limits contact) judged h.frames frame-ordered) λ fs.
          done-ordered _
