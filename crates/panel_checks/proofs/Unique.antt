-- Two answers that a contract of this crate allows are equal.
-- Assumes nothing.
use Prim.Native.Nat.{ℕ}
use mathlib.Core.Path.{◌≡◌, sym, ◌∙◌}
use mathlib.Core.Bool.{Bool}
use mathlib.Core.List.{List}
use Rattle.std.specs.Prelude.{Result}
use Rattle.paper.specs.declared.Milliseconds.{Milliseconds}
use Rattle.paper.specs.declared.Refusal.{Refusal}
use Rattle.formats.specs.Answer.{whole_of}
use Rattle.formats.proofs.Unique.{whole-once}
use Rattle.house.specs.Layout.{record_of}
use Rattle.recordings.specs.Answer.{counted}
use Rattle.writing.specs.TouchDraft.{checked_frames}
use Rattle.panel_checks.specs.Checks.{permitted, first_stands}

pub check-unique : (ready suspended : ℕ) (time : Milliseconds) (l : List ℕ) (a b : Result ℕ Refusal) → whole_of a ≡ counted (permitted ready suspended (checked_frames time l))
    → whole_of b ≡ counted (permitted ready suspended (checked_frames time l)) → a ≡ b
check-unique ready suspended time l = whole-once (counted (permitted ready suspended (checked_frames time l)))

pub offset-stands-unique : (flags begun : ℕ) (l : List ℕ) (a b : Bool) → a ≡ first_stands flags begun (record_of l) → b ≡ first_stands flags begun (record_of l) → a ≡ b
offset-stands-unique flags begun l a b e f = e ∙ sym f
