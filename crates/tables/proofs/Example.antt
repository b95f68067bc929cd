-- An example of a table of numbers with a sign: the sines of the four quarter turns, and that half a turn further on stands the negative.
-- Assumes nothing.
use mathlib.Core.Path.{◌≡◌}
use mathlib.Core.List.{List, [], ◌∷◌}
use Prim.Native.Nat.{ℕ, ◌+◌, ◌%◌, ◌<◌}
use lib.IntN.{ℤ, pos, negsuc, neg_ℤ}
use lib.ListN.{get_or}
use Rattle.tables.specs.Same.{same_number}
use Rattle.tables.proofs.Below.{below-same}

abbrev quarters : List ℤ
quarters = pos 0 ∷ pos 1 ∷ pos 0 ∷ negsuc 0 ∷ []

pub example-half-turn : (k : ℕ) → k < 4 → get_or quarters ((k + 2) % 4) (pos 0) ≡ neg_ℤ (get_or quarters k (pos 0))
unfolding same_number
example-half-turn = below-same 4 (λ k. get_or quarters ((k + 2) % 4) (pos 0)) (λ k. neg_ℤ (get_or quarters k (pos 0))) tt
