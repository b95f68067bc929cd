-- How many bytes the frames of a message take at least: over any integers of a byte or more, any limits and any contact of four bytes or more.
-- Assumes nothing.
use Prim.Native.Nat.{ℕ, zero, suc, ◌+◌, ◌*◌, ◌≤◌}
use mathlib.Core.Path.{◌≡◌, refl, ap}
use mathlib.Core.Bool.{Bool, true, false}
use mathlib.Core.List.{List, [], ◌∷◌}
use native.Mathlib.Omega.{arith}
use lib.ListN.{length}
use Rattle.formats.specs.Format.{Got, got, bad, Format, read_series}
use Rattle.formats.proofs.Laws.{never, more-got}
use Rattle.formats.proofs.Least.{Takes, takes-done, takes_field, takes-such}
use Rattle.fields.specs.Integers.{Integers}
use Rattle.fields.proofs.Least.{IntegersLeast}
use Rattle.framing.specs.declared.BodyHead.{BodyHead}
use Rattle.framing.specs.Frame.{Frame, Body, timed_frames}
use Rattle.framing.specs.Format.{Limits, count_to, offset, frame_head_format, body_head_format, frame_format, body_format, whole_body}
use Rattle.framing.proofs.Reading.{frame-got, body-got}
use Rattle.framing.proofs.Timed.{timed-contacts}

-- the weight of frames: one for each, and two for each contact
unfoldable pub weight : {C : Type 0} → List (Frame C) → ℕ
weight [] = 0
weight (f ∷ fs) = 1 + 2 * length f.contacts + weight fs

pub weight-timed : {C : Type 0} (b : Bool) (fs : List (Frame C)) → weight (timed_frames b fs) ≡ weight fs
unfolding weight timed_frames
weight-timed b [] = refl
weight-timed b (f ∷ fs) = rw (timed-contacts b f) (ap (λ (n : ℕ). 1 + 2 * length f.contacts + n) (weight-timed b fs))

module _ (i : Integers) (h : IntegersLeast i) where
  takes-offset : (judged : Bool) → Takes 1 (offset i judged)
  takes-offset true = takes-such _ _ _ 1 h.u8
  takes-offset false = h.u8

  module _ (limits : Limits) where
    takes-frame-head : (judged : Bool) → Takes 2 (frame_head_format i limits judged)
    unfolding frame_head_format
    takes-frame-head judged =
        takes_field _ (λ g. g.count) _ 1 1 (takes-such _ _ _ 1 h.u2) λ n.
        takes_field (offset i judged) (λ g. g.offset.0) _ 1 0 (takes-offset judged) λ o.
        takes-done _

    takes-body-head : Takes 2 (body_head_format i limits)
    unfolding body_head_format
    takes-body-head =
        takes_field _ (λ g. g.time.0) _ 1 1 h.u4 λ t.
        takes_field (count_to i limits.frames) (λ g. g.frames) _ 1 0 (takes-such _ _ _ 1 h.u2) λ n.
        takes-done _

    module _ {C : Type 0} (contact : Format C) (n : ℕ) (enough : 4 ≤ n) (takes-contact : Takes n contact) where
      contacts-take : (k : ℕ) (l : List ℕ) (cs : List C) (t : List ℕ) → read_series (λ b. contact.read) false k l ≡ got cs t → 4 * length cs + length t ≤ length l
      unfolding read_series
      contacts-take zero l cs t h =
          let e : l ≡ t = cc in
          let d : [] ≡ cs = cc in
          omega (arith, ap length e, ap length d)
      contacts-take (suc k) l cs t h =
          let m = more-got (λ b. contact) false k l cs t h in
          let a = takes-contact.least l m.head m.after m.one in
          let b = contacts-take k m.after m.rest t m.others in
          omega (arith, a, b, ap length m.all)

      frames-take : (b : Bool) (k : ℕ) (l : List ℕ) (fs : List (Frame C)) (t : List ℕ) → read_series (λ b. (frame_format i limits contact b).read) b k l ≡ got fs t → 2 * weight fs + length t ≤ length l
      unfolding read_series weight
      frames-take b zero l fs t h =
          let e : l ≡ t = cc in
          let d : [] ≡ fs = cc in
          omega (arith, ap length e, ap weight d)
      frames-take b (suc k) l fs t h =
          let m = more-got (frame_format i limits contact) b k l fs t h in
          let f = frame-got i limits contact b l m.head m.after m.one in
          let a = (takes-frame-head b).least l _ f.after f.head in
          let c = contacts-take (length m.head.contacts) f.after m.head.contacts m.after f.contacts in
          let d = frames-take false k m.after m.rest t m.others in
          omega (arith, a, c, d, ap weight m.all)

      -- a body's frames weigh at most half its bytes
      pub body-weight : (judged : Bool) (l : List ℕ) (m : Body C) (t : List ℕ) → whole_body i limits contact judged l ≡ got m t → 2 * weight m.frames ≤ length l
      unfolding body_format
      body-weight judged l m t h = go ((body_head_format i limits).read l) refl
        where
          go : (x : Got BodyHead) → (body_head_format i limits).read l ≡ x → 2 * weight m.frames ≤ length l
          go (bad e) w = never e m t (rw w at h)
          go (got g u) w =
              let b = body-got i limits contact judged l m t g u h w in
              omega (arith, takes-body-head.least l g u w, frames-take judged g.frames u m.frames [] b.frames)
