-- Where a field is read.
use Rattle.std.specs.Prelude.{ℕ, ◌+◌, ◌%◌, ◌≤◌, ◌<◌, ◌≡◌}

-- a field lies within a record of n bytes, and the bytes that it touches fit a word
pub record Within (at w n : ℕ) : Type 0 where
  pub narrow : w < 64
  pub word : at % 8 + w ≤ 64
  pub inside : at + w ≤ 168
  pub size : n ≡ 21
