-- Where the strict reading answers anything but 6, the plain reading answers the same.
-- Assumes nothing.
use Prim.Native.Nat.{ℕ}
use mathlib.Core.Path.{◌≡◌, refl, sym, ◌∙◌}
use mathlib.Core.Bool.{false}
use mathlib.Core.List.{List, [], ◌∷◌}
use Rattle.paper.specs.Refusals.{not_shortest, trailing}
use Rattle.formats.specs.Format.{got}
use Rattle.formats.proofs.Laws.{never}
use Rattle.formats.proofs.Agreeing.{Agree, refuses, same, and-then-agree, whole-agrees}
use Rattle.fields.specs.Integers.{strict, lenient}
use Rattle.messages.specs.Header.{headed, read_message}
use Rattle.messages.specs.Header as event
use Rattle.touch.specs.Touch.{Touch, touch}
use Rattle.touch.proofs.Agreeing.{strict-touch-agrees}
use Rattle.reading.specs.Plain.{plainly, read_strictly}

pub readings-agree : (l : List ℕ) → Agree not_shortest (read_strictly l) (plainly l)
unfolding read_message
readings-agree l = and-then-agree (headed (event.touch ∷ []) l) (headed (event.touch ∷ []) l) _ _ (same refl) (λ e b. whole-agrees (touch strict false) (touch lenient false) trailing (strict-touch-agrees false) b)

-- so what is accepted strictly is accepted
pub accepted-plainly : (l : List ℕ) (m : Touch) (t : List ℕ) → read_strictly l ≡ got m t → plainly l ≡ got m t
accepted-plainly l m t e = go (readings-agree l)
  where
    go : Agree not_shortest (read_strictly l) (plainly l) → plainly l ≡ got m t
    go (refuses w) = never not_shortest m t (sym w ∙ e)
    go (same w) = sym w ∙ e
