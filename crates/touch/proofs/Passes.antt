-- The reading of frames, as series take it.
-- Assumes nothing.
use Prim.Native.Nat.{ℕ}
use mathlib.Core.Bool.{Bool}
use mathlib.Core.List.{List}
use Rattle.formats.specs.Format.{Got}
use Rattle.fields.specs.Integers.{taken}
use Rattle.house.specs.declared.Contact.{Contact}
use Rattle.framing.specs.Frame.{Frame}
use Rattle.touch.specs.Touch.{frame}

abbrev pub frame_by : Bool → List ℕ → Got (Frame Contact)
frame_by b = (frame taken b).read
