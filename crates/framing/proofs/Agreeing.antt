-- A message of frames over two kinds of integers and two contacts that agree: it is refused by the first with the number of that, or read the same
-- by both.
-- Assumes nothing.
use Prim.Native.Nat.{ℕ}
use mathlib.Core.Bool.{Bool, true, false}
use Rattle.formats.specs.Format.{Format}
use Rattle.formats.proofs.Agreeing.{Agreeing, done-agrees, field-agrees, such-agrees, series-agrees, times-agrees}
use Rattle.fields.specs.Integers.{Integers}
use Rattle.fields.proofs.Agreeing.{IntegersAgreeing}
use Rattle.framing.specs.Frame.{head_of}
use Rattle.framing.specs.Format.{Limits, body_head_of, count_to, offset, frame_head_format, body_head_format, frame_format, body_format}

module _ {e : ℕ} (i j : Integers) (h : IntegersAgreeing e i j) where
  offset-agrees : (judged : Bool) → Agreeing e (offset i judged) (offset j judged)
  offset-agrees true = such-agrees _ _ _ _ h.u8
  offset-agrees false = h.u8

  module _ (limits : Limits) where
    frame-head-agrees : (judged : Bool) → Agreeing e (frame_head_format i limits judged) (frame_head_format j limits judged)
    unfolding frame_head_format
    frame-head-agrees judged =
        field-agrees (count_to i limits.contacts) (count_to j limits.contacts) (λ g. g.count) _ _ (such-agrees _ _ _ _ h.u2) λ n.
        field-agrees (offset i judged) (offset j judged) (λ g. g.offset.0) _ _ (offset-agrees judged) λ o.
        done-agrees _

    body-head-agrees : Agreeing e (body_head_format i limits) (body_head_format j limits)
    unfolding body_head_format
    body-head-agrees =
        field-agrees i.u4 j.u4 (λ g. g.time.0) _ _ h.u4 λ t.
        field-agrees (count_to i limits.frames) (count_to j limits.frames) (λ g. g.frames) _ _ (such-agrees _ _ _ _ h.u2) λ n.
        done-agrees _

    module _ {C : Type 0} (contact contact' : Format C) (k : Agreeing e contact contact') where
      pub frame-agrees : (judged : Bool) → Agreeing e (frame_format i limits contact judged) (frame_format j limits contact' judged)
      unfolding frame_format
      frame-agrees judged =
          field-agrees (frame_head_format i limits judged) (frame_head_format j limits judged) head_of _ _ (frame-head-agrees judged) λ g.
          field-agrees _ _ (λ f. f.contacts) _ _ (times-agrees contact contact' g.count k) λ cs.
          done-agrees _

      pub body-agrees : (judged : Bool) → Agreeing e (body_format i limits contact judged) (body_format j limits contact' judged)
      unfolding body_format
      body-agrees judged =
          field-agrees (body_head_format i limits) (body_head_format j limits) body_head_of _ _ body-head-agrees λ g.
          field-agrees _ _ (λ m. m.frames) _ _ (series-agrees (frame_format i limits contact) (frame_format j limits contact') judged g.frames frame-agrees) λ fs.
          done-agrees _
