-- Two records that the contract of `read_flat` allows are equal.
-- Assumes nothing.
use Prim.Native.Nat.{ℕ}
use mathlib.Core.Path.{◌≡◌, sym, ◌∙◌}
use mathlib.Core.List.{List}
use Rattle.flat_records.specs.Flat.{flat}
use Rattle.flat_records.specs.declared.FlatRecord.{FlatRecord}

pub read-flat-unique : (records : List ℕ) (a b : FlatRecord) → a ≡ flat records → b ≡ flat records → a ≡ b
read-flat-unique records a b e f = e ∙ sym f
