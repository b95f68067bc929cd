-- What is true of a stream after any messages.
-- Assumes nothing.
use Prim.Native.Nat.{ℕ}
use mathlib.Core.Bool.{Bool, true, false}
use mathlib.Core.List.{List, [], ◌∷◌, ◌++◌}
use lib.Dec.{lit<}
use Rattle.house.specs.declared.Point.{Point}
use Rattle.framing.specs.Frame.{Frame, timed_frame, timed_frames}
use Rattle.stream.specs.Stream.{Profile, Stream, Given, nothing, settings, frames, dismissal, machine_at, next}
use Rattle.stream.specs.Path.{Seen}
use Rattle.stream.specs.Asked.{Laws, All, FrameFits, Proper}
use Rattle.stream.proofs.Steadiness.{Steady, resting-steady, run-steady, dismiss-steady}

-- ---- frames that fit: the first of them, and as they are written

pub all-front : {A : Type 0} (P : A → Type 0) (l more : List A) → All P (l ++ more) → All P l
all-front P [] more h = tt
all-front P (a ∷ l) more h = (h.0, all-front P l more h.1)

timed-fits : {C : Type 0} (Fits : C → Type 0) (untimed : Bool) (f : Frame C) → FrameFits Fits f → FrameFits Fits (timed_frame untimed f)
timed-fits Fits true f h = record { head = record { count = h.head.count; offset = lit< tt }; contacts = h.contacts }
timed-fits Fits false f h = h

pub timed-fit : {C : Type 0} (Fits : C → Type 0) (untimed : Bool) (fs : List (Frame C)) → All (FrameFits Fits) fs → All (FrameFits Fits) (timed_frames untimed fs)
unfolding timed_frames
timed-fit Fits untimed [] h = tt
timed-fit Fits untimed (f ∷ fs) h = (timed-fits Fits untimed f h.0, timed-fit Fits untimed fs h.1)

-- ---- what every message keeps

abbrev pub Kept : {S C : Type 0} → Profile S C → (ℕ → Type 0) → (Point → Type 0) → Stream S → Type 0
Kept profile Live PlaceFits s = Steady Live PlaceFits (profile.rules s.settings).most s.machine

module _ {S C R : Type 0} {profile : Profile S C} {table : ℕ → ℕ → ℕ} {read : List ℕ → R} {seen : R → Seen} {Live : ℕ → Type 0} {Fits : C → Type 0} {PlaceFits : Point → Type 0} (law : Laws profile table read seen Live Fits PlaceFits) where
  pub frames-kept : (s : Stream S) (fs : List (Frame C)) → All (FrameFits Fits) fs → Kept profile Live PlaceFits s → Steady Live PlaceFits (profile.rules s.settings).most (machine_at profile s fs)
  frames-kept s fs f k = run-steady law s.settings s.machine (timed_frames (profile.untimed s.settings) fs) (timed-fit Fits (profile.untimed s.settings) fs f) k

  pub next-kept : (s : Stream S) (g : Given S C) → Proper Fits s g → Kept profile Live PlaceFits s → Kept profile Live PlaceFits (next profile s g)
  unfolding next
  next-kept s nothing p k = k
  next-kept s (settings x) p k = resting-steady law (profile.rules x).most s.machine p k.empty k.marks
  next-kept s (frames fs) p k = frames-kept s fs p k
  next-kept s (dismissal id) p k = dismiss-steady law (profile.rules s.settings).most s.machine id k
