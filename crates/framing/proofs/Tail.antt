-- The frames from one on, of a body that can be written, are a body that can be written too, and no longer: over any limits and any format of a
-- contact.
-- Assumes nothing.
use Prim.Native.Nat.{ℕ, zero, suc, ◌+◌, ◌≤◌}
use mathlib.Core.Path.{◌≡◌, refl}
use mathlib.Core.Bool.{Bool, true, false}
use mathlib.Core.List.{List, [], ◌∷◌, ◌++◌, append-nil}
use native.Mathlib.Omega.{arith}
use borrow.Author.Tests.{leb-true, le-leb}
use lib.ListN.{length, length-append}
use Rattle.paper.specs.declared.Milliseconds.{Milliseconds}
use Rattle.formats.specs.Format.{Format, Each, write_series}
use Rattle.fields.specs.Integers.{Integers}
use Rattle.fields.proofs.Laws.{Downward}
use Rattle.framing.specs.Frame.{Frame, Body}
use Rattle.framing.specs.Format.{Limits, offset, frame_head_format, body_head_format, frame_format, body_format}

-- ---- the last values of a series

module _ {A : Type 0} (H : Bool → A → Type 0) (free : (b : Bool) (a : A) → H b a → H false a) where
  each_free : (b : Bool) (n : ℕ) (s : List A) → Each H b n s → Each H false n s
  unfolding Each
  each_free b zero [] h = tt
  each_free b zero (a ∷ s) h = h
  each_free b (suc n) [] h = h
  each_free b (suc n) (a ∷ s) h = (free b a h.0, h.1)

  each_tail : (s t : List A) → Each H false (length (s ++ t)) (s ++ t) → Each H false (length t) t
  unfolding Each
  each_tail [] t h = h
  each_tail (a ∷ s) t h = each_tail s t h.1

module _ {A : Type 0} (w : Bool → A → List ℕ) (same : (b : Bool) (a : A) → w b a ≡ w false a) where
  tail-shorter : (s : List A) (b : Bool) (t : List A) → length (write_series w false t) ≤ length (write_series w b (s ++ t))
  unfolding write_series
  tail-shorter [] b [] = omega arith
  tail-shorter [] b (a ∷ t) = rw (same b a) (omega arith)
  tail-shorter (a ∷ s) b t = omega (arith, length-append (w b a) (write_series w false (s ++ t)), tail-shorter s false t)

-- ---- a frame, where 11 is not judged

module _ (i : Integers) where
  offset-free : (b : Bool) (o : ℕ) → (offset i b).Holds o → (offset i false).Holds o
  offset-free true o h = h.0
  offset-free false o h = h

  offset-write : (b : Bool) (o : ℕ) → (offset i b).write o ≡ (offset i false).write o
  offset-write true o = refl
  offset-write false o = refl

  module _ (limits : Limits) {C : Type 0} (contact : Format C) where
    frame-free : (b : Bool) (f : Frame C) → (frame_format i limits contact b).Holds f → (frame_format i limits contact false).Holds f
    unfolding frame_format frame_head_format
    frame-free b f h = ((h.0.0, (offset-free b f.offset.0 h.0.1.0, h.0.1.1)), h.1)

    frame-write : (b : Bool) (f : Frame C) → (frame_format i limits contact b).write f ≡ (frame_format i limits contact false).write f
    unfolding frame_format frame_head_format
    frame-write b f = rw (offset-write b f.offset.0)

    -- ---- the body

    module _ (counts : Downward i.u2) (time : Milliseconds) (fs gs : List (Frame C)) (b : Bool) where
      abbrev all : Body C
      all = record { time = time; frames = fs ++ gs }

      abbrev part : Body C
      part = record { time = time; frames = gs }

      pub part-holds : (body_format i limits contact b).Holds all → (body_format i limits contact false).Holds part
      unfolding body_format body_head_format
      part-holds h =
          let frames : Bool → Frame C → Type 0 = λ b. (frame_format i limits contact b).Holds in
          let n = leb-true (length (fs ++ gs)) limits.frames h.0.1.0.1 in
          let k : length gs ≤ length (fs ++ gs) = omega (arith, length-append fs gs) in
          let hs = each_tail frames frame-free fs gs (each_free frames frame-free b (length (fs ++ gs)) (fs ++ gs) h.1.0) in
          ((h.0.0, ((counts.holds (length gs) (length (fs ++ gs)) k h.0.1.0.0, le-leb (length gs) limits.frames (omega arith)), refl)), (hs, refl))

      body-long : (b : Bool) (hs : List (Frame C))
          → length ((body_format i limits contact b).write (record { time = time; frames = hs }))
          ≡ length (i.u4.write time.0) + length (i.u2.write (length hs)) + length (write_series (λ b. (frame_format i limits contact b).write) b hs)
      unfolding body_format body_head_format
      body-long b hs = simp (length-append, append-nil)

      pub part-shorter : (body_format i limits contact b).Holds all → length ((body_format i limits contact false).write part) ≤ length ((body_format i limits contact b).write all)
      unfolding body_format body_head_format
      part-shorter h =
          let k : length gs ≤ length (fs ++ gs) = omega (arith, length-append fs gs) in
          let ns = counts.shorter (length gs) (length (fs ++ gs)) k h.0.1.0.0 in
          let ws = tail-shorter (λ b. (frame_format i limits contact b).write) frame-write fs b gs in
          omega (arith, body-long false gs, body-long b (fs ++ gs))
