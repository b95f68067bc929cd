-- The contract of the writers whose callers have made room.
use Rattle.std.specs.Prelude.{ℕ, ◌≡◌, List, length}
use Rattle.slices.specs.Writing.{laid}

-- the bytes s, n of them, are laid at the front of an output that has room for them
pub record Put (s : List ℕ) (n : ℕ) (before after : List ℕ) : Type 0 where
  pub count : n ≡ length s
  pub output : after ≡ laid before s
