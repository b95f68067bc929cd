-- No two refusals have one number, and none has the number of no refusal.
-- Assumes nothing.
use Prim.Native.Nat.{ℕ}
use mathlib.Core.Path.{◌≡◌, refl, sym, ap, ◌∙◌}
use mathlib.Core.List.{[], ◌∷◌}
use native.Mathlib.Omega.{arith}
use lib.ListN.{get_or}
use Rattle.paper.specs.Refusals.{none, number}
use Rattle.paper.specs.declared.Refusal.{Refusal}
use Rattle.paper.specs.declared.Refusal.TheVariants.{Short, TooLong, Unexpected, BadLength, Truncated, NotShortest, BadCount, BadField, BadFlags, BadRange, BadOffset, Trailing, NoRoom, BadRecord, NotReady, Suspended, Illegal, BadBatch}

-- the refusal of a number
abbrev named : ℕ → Refusal
named n =
    get_or
    (Short ∷ Short ∷ TooLong ∷ Unexpected ∷ BadLength ∷ Truncated ∷ NotShortest ∷ BadCount ∷ BadField ∷ BadFlags ∷ BadRange ∷ BadOffset ∷ Trailing ∷ NoRoom ∷ BadRecord ∷ NotReady ∷ Suspended ∷ Illegal ∷ BadBatch ∷ [])
    n
    Short

named-number : (e : Refusal) → named (number e) ≡ e
named-number Short = refl
named-number TooLong = refl
named-number Unexpected = refl
named-number BadLength = refl
named-number Truncated = refl
named-number NotShortest = refl
named-number BadCount = refl
named-number BadField = refl
named-number BadFlags = refl
named-number BadRange = refl
named-number BadOffset = refl
named-number Trailing = refl
named-number NoRoom = refl
named-number BadRecord = refl
named-number NotReady = refl
named-number Suspended = refl
named-number Illegal = refl
named-number BadBatch = refl

pub number-once : (e f : Refusal) → number e ≡ number f → e ≡ f
number-once e f w = sym (named-number e) ∙ ap named w ∙ named-number f

-- one whose number was 0 would be the first, whose number is 1
pub number-some : {A : Type 0} (e : Refusal) → number e ≡ none → A
number-some e w =
    let first : e ≡ Short = sym (named-number e) ∙ ap named w in
    let one : none ≡ number Short = sym w ∙ ap number first in
    absurd (omega (arith, one))
