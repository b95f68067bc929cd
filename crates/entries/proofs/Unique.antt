-- Two answers that the contract allows are equal.
-- Assumes nothing.
use Rattle.std.specs.Prelude.{Option}
use Prim.Native.Nat.{ℕ}
use mathlib.Core.Path.{◌≡◌, sym, ◌∙◌}
use mathlib.Core.List.{List}
use Rattle.digits.specs.Digits.{joined}
use Rattle.entries.specs.Entries.{front_of}

pub read-front-unique : (file : List ℕ) (a b : Option ℕ) → a ≡ front_of file → b ≡ front_of file → a ≡ b
read-front-unique file a b e f = e ∙ sym f

pub join-unique : (bytes : List ℕ) (a b : ℕ) → a ≡ joined 0 bytes → b ≡ joined 0 bytes → a ≡ b
join-unique bytes a b e f = e ∙ sym f
