-- How many bytes records take in a message.
-- Assumes nothing.
use Prim.Native.Nat.{ℕ, zero, suc, ◌*◌, ◌≤◌}
use mathlib.Core.List.{List}
use native.Mathlib.Omega.{arith}
use lib.ListN.{length, drop, length-append}
use Rattle.house.specs.Layout.{record_of}
use Rattle.spelling.specs.Spelling.{spelling}
use Rattle.spelling.proofs.Measured.{spelling-most}
use Rattle.writing.specs.Spelling.{spelt}

pub spelt-most : (n : ℕ) (l : List ℕ) → length (spelt n l) ≤ 81 * n
unfolding spelt
spelt-most zero l = omega arith
spelt-most (suc n) l = omega (arith, length-append (spelling (record_of l)) (spelt n (drop 21 l)), spelling-most (record_of l), spelt-most n (drop 21 l))
