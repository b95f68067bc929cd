-- Whatever a panel refuses to send, it refuses with a number.
-- Assumes nothing.
use Prim.Native.Nat.{ℕ}
use mathlib.Core.Path.{◌≡◌, refl}
use mathlib.Core.Bool.{false}
use mathlib.Core.List.{List}
use Rattle.paper.specs.Refusals.{none}
use Rattle.slices.specs.Writing.{Draft, bytes, refuse}
use Rattle.well_formed.proofs.WellFormed.{never}
use Rattle.messages.specs.Header.{one_of}
use Rattle.panels.specs.Panel.{ready_sending, touch_sending, dismiss_sending}
use Rattle.panels.specs.declared.Panel.{Panel}
use Rattle.panels.proofs.Drafts.{Tame, Told}
use Rattle.sending.specs.Refusing.{ready_numbers, touch_numbers, dismiss_numbers}
use Rattle.sending.proofs.Refusing.{Listed, ready-tame, touch-tame, dismiss-tame}
use Rattle.delivery.specs.Delivery.{Asked, ready, touch, dismissal, sending_of}

listed-told : (numbers : List ℕ) → one_of numbers none ≡ false → (d : Draft) → Tame (Listed numbers) d → Tame Told d
listed-told numbers u (bytes s) t = tt
listed-told numbers u (refuse e) t = λ z. never (rw z at t) u

pub told : (p : Panel) (a : Asked) → Tame Told (sending_of p a).draft
unfolding one_of
told p (ready s) = listed-told ready_numbers refl (ready_sending p s).draft (ready-tame s p)
told p (touch time records) = listed-told touch_numbers refl (touch_sending p time records).draft (touch-tame time records p)
told p (dismissal id) = listed-told dismiss_numbers refl (dismiss_sending p id).draft (dismiss-tame id p)
