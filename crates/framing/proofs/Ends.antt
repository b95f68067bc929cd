-- What a frame's head, a frame and a body's head leave behind them is the end of what they were read from, where it is so of the integers and of
-- a contact.
-- Assumes nothing.
use Prim.Native.Nat.{ℕ}
use mathlib.Core.Bool.{Bool, true, false}
use Rattle.formats.specs.Format.{Format}
use Rattle.formats.proofs.Ends.{Ends, done-ends, field-ends, such-ends, times-ends}
use Rattle.fields.specs.Integers.{Integers}
use Rattle.fields.proofs.Ends.{IntegersEnd}
use Rattle.framing.specs.Frame.{head_of}
use Rattle.framing.specs.Format.{Limits, count_to, offset, frame_head_format, body_head_format, frame_format}

module _ (i : Integers) (h : IntegersEnd i) where
  count-ends : (most : ℕ) → Ends (count_to i most)
  count-ends most = such-ends i.u2 _ _ h.u2

  offset-ends : (judged : Bool) → Ends (offset i judged)
  offset-ends true = such-ends i.u8 _ _ h.u8
  offset-ends false = h.u8

  module _ (limits : Limits) where
    pub frame-head-ends : (judged : Bool) → Ends (frame_head_format i limits judged)
    unfolding frame_head_format
    frame-head-ends judged =
        field-ends (count_to i limits.contacts) (λ g. g.count) _ (count-ends limits.contacts) λ n.
        field-ends (offset i judged) (λ g. g.offset.0) _ (offset-ends judged) λ o.
        done-ends _

    pub body-head-ends : Ends (body_head_format i limits)
    unfolding body_head_format
    body-head-ends =
        field-ends i.u4 (λ g. g.time.0) _ h.u4 λ t.
        field-ends (count_to i limits.frames) (λ g. g.frames) _ (count-ends limits.frames) λ n.
        done-ends _

    module _ {C : Type 0} (contact : Format C) (k : Ends contact) where
      pub frame-ends : (judged : Bool) → Ends (frame_format i limits contact judged)
      unfolding frame_format
      frame-ends judged =
          field-ends (frame_head_format i limits judged) head_of _ (frame-head-ends judged) λ g.
          field-ends _ (λ f. f.contacts) _ (times-ends contact g.count k) λ cs.
          done-ends _
