-- Two outcomes that a contract of this crate allows are equal, in the answer and in the output.
-- Assumes nothing.
use Prim.Native.Nat.{ℕ}
use mathlib.Core.Path.{◌≡◌}
use mathlib.Core.List.{List}
use Rattle.std.specs.Prelude.{Result}
use Rattle.paper.specs.declared.Milliseconds.{Milliseconds}
use Rattle.paper.specs.declared.Refusal.{Refusal}
use Rattle.slices.specs.Writing.{Writes}
use Rattle.slices.specs.declared.Written.{Written}
use Rattle.slices.proofs.Laws.{writes-unique}
use Rattle.formats.specs.Answer.{whole_of}
use Rattle.formats.proofs.Unique.{whole-once}
use Rattle.recordings.specs.Answer.{counted}
use Rattle.writing.specs.TouchDraft.{checked_frames, touch_draft}

pub check-records-unique : (time : Milliseconds) (records : List ℕ) (a b : Result ℕ Refusal)
    → whole_of a ≡ counted (checked_frames time records) → whole_of b ≡ counted (checked_frames time records) → a ≡ b
check-records-unique time records = whole-once (counted (checked_frames time records))

pub write-touch-unique : (time : Milliseconds) (records : List ℕ) (v w : Written) (before after after' : List ℕ)
    → Writes (touch_draft time records) v before after → Writes (touch_draft time records) w before after' → (v ≡ w) × (after ≡ after')
write-touch-unique time records = writes-unique (touch_draft time records)
