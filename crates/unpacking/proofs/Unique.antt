-- Two outcomes that a contract of this crate allows are equal.
-- Assumes nothing.
use Prim.Native.Nat.{ℕ}
use mathlib.Core.Path.{◌≡◌, sym, ◌∙◌}
use mathlib.Core.Bool.{Bool}
use mathlib.Core.List.{List}
use Rattle.house.specs.Layout.{record_of, spare_zero}
use Rattle.house.specs.declared.Record.{Record}

pub read-record-unique : (l : List ℕ) (a b : Record) → a ≡ record_of l → b ≡ record_of l → a ≡ b
read-record-unique l a b e f = e ∙ sym f

pub is-spare-zero-unique : (l : List ℕ) (a b : Bool) → a ≡ spare_zero l → b ≡ spare_zero l → a ≡ b
is-spare-zero-unique l a b e f = e ∙ sym f
