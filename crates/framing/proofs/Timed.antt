-- Frames as they are written, with their offsets or with offset 0: one by one, and their contacts.
-- Assumes nothing.
use mathlib.Core.Path.{◌≡◌, refl, ap}
use mathlib.Core.Bool.{Bool, true, false}
use mathlib.Core.List.{List, [], ◌∷◌, ◌++◌}
use lib.ListN.{length, length-map}
use Rattle.framing.specs.Frame.{Frame, timed_frame, timed_frames}

module _ {C : Type 0} (untimed : Bool) where
  pub timed-contacts : (f : Frame C) → (timed_frame untimed f).contacts ≡ f.contacts
  timed-contacts f = go untimed
    where
      go : (b : Bool) → (timed_frame b f).contacts ≡ f.contacts
      go true = refl
      go false = refl

  pub timed-none : timed_frames {C = C} untimed [] ≡ []
  unfolding timed_frames
  timed-none = refl

  pub timed-cons : (f : Frame C) (fs : List (Frame C)) → timed_frames untimed (f ∷ fs) ≡ timed_frame untimed f ∷ timed_frames untimed fs
  unfolding timed_frames
  timed-cons f fs = refl

  pub timed-append : (fs gs : List (Frame C)) → timed_frames untimed (fs ++ gs) ≡ timed_frames untimed fs ++ timed_frames untimed gs
  unfolding timed_frames
  timed-append [] gs = refl
  timed-append (f ∷ fs) gs = ap (λ (l : List (Frame C)). timed_frame untimed f ∷ l) (timed-append fs gs)

  pub timed-length : (fs : List (Frame C)) → length (timed_frames untimed fs) ≡ length fs
  unfolding timed_frames
  timed-length fs = length-map fs (timed_frame untimed)

-- with their offsets they are as they were
pub timed-same : {C : Type 0} (fs : List (Frame C)) → timed_frames false fs ≡ fs
unfolding timed_frames
timed-same [] = refl
timed-same {C} (f ∷ fs) = ap (λ (gs : List (Frame C)). f ∷ gs) (timed-same fs)
