-- What is read where 11 is not judged is read where it is, if the first frame's offset is 0, and refused with 11 otherwise: over any integers, any
-- limits and any format of a contact.
-- Assumes nothing.
use Prim.Native.Nat.{ℕ, zero, suc}
use mathlib.Core.Path.{◌≡◌, refl, sym, ap, ◌∙◌}
use mathlib.Core.Bool.{Bool, true, false, cond}
use mathlib.Core.List.{List, [], ◌∷◌}
use lib.Dec.{eqb}
use Rattle.paper.specs.Refusals.{bad_offset, trailing}
use Rattle.formats.specs.Format.{Got, got, bad, and_then, Format, read_series, ended}
use Rattle.formats.proofs.Laws.{never, more-got}
use Rattle.fields.specs.Integers.{Integers}
use Rattle.house.specs.declared.Head.{Head}
use Rattle.framing.specs.declared.BodyHead.{BodyHead}
use Rattle.framing.specs.Frame.{Frame, Body}
use Rattle.framing.specs.Format.{Limits, count_to, offset, frame_head_format, body_head_format, frame_format, body_format, whole_body}
use Rattle.framing.proofs.Reading.{frames_by, frame-got, body-got}

-- where 11 is judged the offset is 0
abbrev pub stands : Bool → ℕ → Bool
stands judged o = cond judged (eqb o 0) true

-- .. the first frame's, if there is one
abbrev pub first_stands : {C : Type 0} → Bool → List (Frame C) → Bool
first_stands judged [] = true
first_stands judged (f ∷ fs) = stands judged f.offset.0

-- what was read, or 11
abbrev pub or_offset : {A : Type 0} → Bool → A → List ℕ → Got A
or_offset s a t = cond s (got a t) (bad bad_offset)

-- what goes on from there goes on, or is 11
pass_on : {A B : Type 0} (s : Bool) (a : A) (t : List ℕ) (k : A → List ℕ → Got B) (b : B) (u : List ℕ) → k a t ≡ got b u → and_then (or_offset s a t) k ≡ or_offset s b u
pass_on true a t k b u e = e
pass_on false a t k b u e = refl

module _ (i : Integers) where
  offset-judged : (b : Bool) (l : List ℕ) (o : ℕ) (t : List ℕ) → i.u8.read l ≡ got o t → (offset i b).read l ≡ or_offset (stands b o) o t
  offset-judged true l o t e = rw e
  offset-judged false l o t e = e

  module _ (limits : Limits) where
    -- what stands before a frame's contacts, of its count and its offset
    abbrev head_by : ℕ → ℕ → List ℕ → Got Head
    head_by n o v = got (record { count = n; offset = record { 0 = o } }) v

    head-judged : (b : Bool) (l : List ℕ) (h : Head) (t : List ℕ) → (frame_head_format i limits false).read l ≡ got h t → (frame_head_format i limits b).read l ≡ or_offset (stands b h.offset.0) h t
    unfolding frame_head_format
    head-judged b l h t e = go ((count_to i limits.contacts).read l) e
      where
        go : (x : Got ℕ) → and_then x (λ n u. and_then (i.u8.read u) (head_by n)) ≡ got h t → and_then x (λ n u. and_then ((offset i b).read u) (head_by n)) ≡ or_offset (stands b h.offset.0) h t
        go (bad x) e = never x h t e
        go (got n u) e = on (i.u8.read u) refl e
          where
            on : (y : Got ℕ) → i.u8.read u ≡ y → and_then y (head_by n) ≡ got h t → and_then ((offset i b).read u) (head_by n) ≡ or_offset (stands b h.offset.0) h t
            on (bad x) w e = never x h t e
            on (got o v) w e =
                let z : record { count = n; offset = record { 0 = o } } ≡ h = cc in
                rw (offset-judged b u o v w) (pass_on (stands b o) o v (head_by n) h t e) ∙ ap (λ (g : Head). or_offset (stands b g.offset.0) h t) z

    module _ {C : Type 0} (contact : Format C) where
      frame-judged : (b : Bool) (l : List ℕ) (f : Frame C) (t : List ℕ) → frames_by i limits contact false l ≡ got f t → frames_by i limits contact b l ≡ or_offset (stands b f.offset.0) f t
      unfolding frame_format
      frame-judged b l f t e =
          let g = frame-got i limits contact false l f t e in
          rw (head-judged b l _ g.after g.head) (pass_on (stands b f.offset.0) _ g.after _ f t (rw g.contacts))

      frames-judged : (b : Bool) (n : ℕ) (l : List ℕ) (fs : List (Frame C)) (t : List ℕ) → read_series (frames_by i limits contact) false n l ≡ got fs t
          → read_series (frames_by i limits contact) b n l ≡ or_offset (first_stands b fs) fs t
      unfolding read_series
      frames-judged b zero l fs t e = let z : [] ≡ fs = cc in e ∙ ap (λ (gs : List (Frame C)). or_offset (first_stands b gs) fs t) z
      frames-judged b (suc n) l fs t e =
          let m = more-got (frame_format i limits contact) false n l fs t e in
          let s = stands b m.head.offset.0 in
          rw (frame-judged b l m.head m.after m.one) (pass_on s m.head m.after _ fs t (rw m.others (ap (λ (gs : List (Frame C)). got gs t) (sym m.all))))
          ∙ ap (λ (gs : List (Frame C)). or_offset (first_stands b gs) fs t) (sym m.all)

      -- THE LAW of a body
      pub body-judged : (b : Bool) (l : List ℕ) (m : Body C) (t : List ℕ) → whole_body i limits contact false l ≡ got m t → whole_body i limits contact b l ≡ or_offset (first_stands b m.frames) m t
      unfolding body_format ended
      body-judged b l m t e = go ((body_head_format i limits).read l) refl
        where
          go : (x : Got BodyHead) → (body_head_format i limits).read l ≡ x → whole_body i limits contact b l ≡ or_offset (first_stands b m.frames) m t
          go (bad x) w = never x m t (rw w at e)
          go (got h u) w =
              let r = body-got i limits contact false l m t h u e w in
              let s = first_stands b m.frames in
              let z : h.time ≡ m.time = ap (λ (g : BodyHead). g.time) r.head in
              let n : Body C = record { time = h.time; frames = m.frames } in
              rw (w, frames-judged b h.frames u m.frames [] r.frames)
              (ap (λ (x : Got (Body C)). and_then x (ended trailing)) (pass_on s m.frames [] (λ fs v. got (record { time = h.time; frames = fs }) v) n [] refl)
              ∙ pass_on s n [] (ended trailing) m t (λ j. got (record { time = z j; frames = m.frames }) (sym r.ends j)))
