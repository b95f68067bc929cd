-- The entry that is found in what is left of a file ends within the file.
-- Assumes nothing.
use Prim.Native.Nat.{ℕ, ◌+◌, ◌-◌, ◌≤◌}
use mathlib.Core.Path.{◌≡◌}
use mathlib.Core.List.{List}
use native.Mathlib.Omega.{arith}
use lib.ListN.{length, take, drop, length-drop}
use lib.Seq.{length-take-le}
use Rattle.entries.specs.Entries.{front_of}
use Rattle.std.specs.Prelude.{Some}
use Rattle.entries.proofs.Laws.{front-inside}

pub entry_inside : (file : List ℕ) (from n : ℕ) → from ≤ length file → front_of (take (length file - from) (drop from file)) ≡ Some n → from + (2 + n) ≤ length file
entry_inside file from n h e =
    let l : length (take (length file - from) (drop from file)) ≡ length file - from = length-take-le (length file - from) (drop from file) (simp length-drop (omega arith)) in
    omega (arith, front-inside (take (length file - from) (drop from file)) n e)
