-- What is found of a frame is the end of what is lent: from its first contact on, and behind its last.
-- Assumes nothing.
use Prim.Native.Nat.{ℕ}
use mathlib.Core.Path.{◌≡◌, refl}
use mathlib.Core.Bool.{false}
use mathlib.Core.List.{List}
use Rattle.std.specs.Prelude.{Option, Some, None}
use Rattle.std.specs.Borrow.{Bor}
use Rattle.formats.specs.Format.{Got, got, bad}
use Rattle.formats.proofs.Ends.{TailOf, drop-ends}
use Rattle.fields.specs.Integers.{taken}
use Rattle.house.specs.declared.Head.{Head}
use Rattle.framing.specs.After.{on_read}
use Rattle.touch.specs.Touch.{frame_head}
use Rattle.touch_frames.proofs.Ends.{frame-head-ends, frame-ends}
use Rattle.frame_records.specs.Frames.{FindsFrame, contacts_in}

-- the two ends of a frame that was found
abbrev pub BothEnds : List ℕ → Option (Head × Bor (List ℕ) × Bor (List ℕ)) → Type 0
BothEnds l (Some (h, cs, t)) = TailOf l cs.now × TailOf l t.now
BothEnds l None = Unit {0}

-- THE LAW of what find_frame answers
pub find-frame-ends : (l : List ℕ) (r : Option (Head × Bor (List ℕ) × Bor (List ℕ))) → FindsFrame l r → BothEnds l r
find-frame-ends l (Some (h, cs, t)) (f, whole, same, headed) = ((frame-head-ends false false).ends l h cs.now headed, (frame-ends false false).ends l f t.now whole)
find-frame-ends l None e = tt

-- and of what find_head answers
pub contacts-end : (l : List ℕ) → TailOf l (contacts_in l)
contacts-end l = go ((frame_head taken false).read l) refl
  where
    go : (x : Got Head) → (frame_head taken false).read l ≡ x → TailOf l (on_read l (λ h t. t) x)
    go (got h t) e = (frame-head-ends false false).ends l h t e
    go (bad e) w = drop-ends 0 l
