-- A message of frames is a lawful format, over any five lawful integers and any lawful format of a contact: what is written is read back, what
-- is read can be written, and where the integers are read in their only form it is written back to the same bytes.
-- Assumes nothing.
use mathlib.Core.Path.{◌≡◌, ap}
use mathlib.Core.Bool.{Bool, true, false}
use lib.ListN.{length}
use Rattle.formats.specs.Format.{Format, Each}
use Rattle.formats.proofs.Laws.{Law, done-law, field-law, such-law, series-law, times-law, each-length}
use Rattle.fields.specs.Integers.{Integers}
use Rattle.fields.proofs.Laws.{IntegersLaw}
use Rattle.house.specs.declared.Head.{Head}
use Rattle.framing.specs.declared.BodyHead.{BodyHead}
use Rattle.framing.specs.Frame.{Frame, Body, head_of}
use Rattle.framing.specs.Format.{Limits, body_head_of, count_to, offset, frame_head_format, body_head_format, frame_format, body_format}

module _ {X : Type 0} (i : Integers) (h : IntegersLaw X i) where
  offset-law : (judged : Bool) → Law X (offset i judged)
  offset-law true = such-law _ _ _ h.u8
  offset-law false = h.u8

  module _ (limits : Limits) where
    pub frame-head-law : (judged : Bool) → Law X (frame_head_format i limits judged)
    unfolding frame_head_format
    frame-head-law judged =
        field-law _ _ _ (such-law _ _ _ h.u2) (λ n b e. ap (λ h. h.count) e.1) λ n.
        field-law (offset i judged) _ _ (offset-law judged) (λ o b e. ap (λ h. h.offset.0) e) λ o.
        done-law _

    pub body-head-law : Law X (body_head_format i limits)
    unfolding body_head_format
    body-head-law =
        field-law _ _ _ h.u4 (λ t b e. ap (λ h. h.time.0) e.1) λ t.
        field-law (count_to i limits.frames) _ _ (such-law _ _ _ h.u2) (λ n b e. ap (λ h. h.frames) e) λ n.
        done-law _

    module _ {C : Type 0} (contact : Format C) (contact-law : Law X contact) where
      pub frame-law : (judged : Bool) → Law X (frame_format i limits contact judged)
      unfolding frame_format
      frame-law judged =
          field-law (frame_head_format i limits judged) head_of _ (frame-head-law judged) frame-finds λ h.
          field-law _ _ _ (times-law _ h.count contact-law) (λ cs b e. ap (λ f. f.contacts) e) λ cs.
          done-law _
        where
          frame-finds : (g : Head) (b : Frame C) → Each (λ k. contact.Holds) false g.count b.contacts × (b ≡ record { offset = g.offset; contacts = b.contacts }) → head_of b ≡ g
          frame-finds g b e =
              let n : length b.contacts ≡ g.count = each-length _ false g.count b.contacts e.0 in
              let o : b.offset ≡ g.offset = ap (λ f. f.offset) e.1 in
              λ j. record { count = n j; offset = o j }

      pub body-law : (judged : Bool) → Law X (body_format i limits contact judged)
      unfolding body_format
      body-law judged =
          field-law (body_head_format i limits) body_head_of _ body-head-law body-finds λ h.
          field-law _ _ _ (series-law (frame_format i limits contact) judged h.frames frame-law) (λ fs b e. ap (λ m. m.frames) e) λ fs.
          done-law _
        where
          body-finds : (g : BodyHead) (b : Body C) → Each (λ k. (frame_format i limits contact k).Holds) judged g.frames b.frames × (b ≡ record { time = g.time; frames = b.frames }) → body_head_of b ≡ g
          body-finds g b e =
              let n : length b.frames ≡ g.frames = each-length _ judged g.frames b.frames e.0 in
              let o : b.time ≡ g.time = ap (λ f. f.time) e.1 in
              λ j. record { time = o j; frames = n j }
