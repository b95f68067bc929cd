-- Document 01, "Messages": a message of frames, over the five integers, the limits and the format of one contact. "encodeTime U4, frameCount
-- U2, frames. A frame: contactCount U2, frameOffset U8, contacts."
use Rattle.std.specs.Prelude.{ℕ, Bool, true, false, List, leb, eqb, length}
use Rattle.paper.specs.Refusals.{bad_count, bad_offset, trailing}
use Rattle.formats.specs.Format.{Got, got, bad, Format, done, field, such, series, times, whole}
use Rattle.fields.specs.Integers.{Integers}
use Rattle.house.specs.declared.Head.{Head}
use Rattle.framing.specs.declared.BodyHead.{BodyHead}
use Rattle.framing.specs.Frame.{Frame, Body, head_of}

-- frames in a message, contacts in a frame
pub record Limits : Type 0 where
  pub frames : ℕ
  pub contacts : ℕ

-- what stands before a message's frames
abbrev pub body_head_of : {C : Type 0} → Body C → BodyHead
body_head_of m = record { time = m.time; frames = length m.frames }

-- a body, without its frames
abbrev pub summary : {C : Type 0} → Got (Body C) → Got BodyHead
summary (got m t) = got (body_head_of m) t
summary (bad e) = bad e

module _ (i : Integers) where
  -- at most so many
  abbrev pub count_to : ℕ → Format ℕ
  count_to most = such i.u2 (λ n. leb n most) bad_count

  -- where 11 is judged, a frame's offset is 0
  abbrev pub offset : Bool → Format ℕ
  offset true = such i.u8 (λ o. eqb o 0) bad_offset
  offset false = i.u8

  module _ (limits : Limits) where
    unfoldable pub frame_head_format : Bool → Format Head
    frame_head_format judged =
        field (count_to limits.contacts) (λ h. h.count) λ n.
        field (offset judged) (λ h. h.offset.0) λ o.
        done (record { count = n; offset = record { 0 = o } })

    unfoldable pub body_head_format : Format BodyHead
    body_head_format =
        field i.u4 (λ h. h.time.0) λ t.
        field (count_to limits.frames) (λ h. h.frames) λ n.
        done (record { time = record { 0 = t }; frames = n })

    module _ {C : Type 0} (contact : Format C) where
      unfoldable pub frame_format : Bool → Format (Frame C)
      frame_format judged =
          field (frame_head_format judged) head_of λ h.
          field (times h.count contact) (λ f. f.contacts) λ cs.
          done (record { offset = h.offset; contacts = cs })

      -- 11 is judged on the first frame alone, where it is judged
      unfoldable pub body_format : Bool → Format (Body C)
      body_format judged =
          field body_head_format body_head_of λ h.
          field (series frame_format judged h.frames) (λ m. m.frames) λ fs.
          done (record { time = h.time; frames = fs })

      abbrev pub whole_body : Bool → List ℕ → Got (Body C)
      whole_body judged = whole (body_format judged) trailing
