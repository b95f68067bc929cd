-- How fields follow each other into a record's bytes, each behind the bits that stand there already.
use Rattle.std.specs.Prelude.{ℕ, ◌+◌, ◌*◌, ◌-◌, ◌/◌, ◌%◌, ◌^◌, ◌≤◌, ◌<◌, ◌≡◌, List, length, take, drop}
use Rattle.digits.specs.Digits.{joined}
use Rattle.house.specs.Fields.{Field, pack_from, total, widths}

-- how many bytes b bits reach into
abbrev pub reach : ℕ → ℕ
reach b = (b + 7) / 8

-- the number of the first b bits of some bytes
unfoldable pub first_bits : ℕ → List ℕ → ℕ
first_bits b s = joined 0 (take (reach b) s) / 2 ^ (8 * reach b - b)

-- the fields follow the first b bits: these stay, and nothing past the byte in which the fields end is touched
pub record Puts (fs : List Field) (b : ℕ) (before after : List ℕ) : Type 0 where
  pub bits : first_bits (b + total (widths fs)) after ≡ pack_from (first_bits b before) fs
  pub rest : drop (reach (b + total (widths fs))) after ≡ drop (reach (b + total (widths fs))) before
  pub size : length after ≡ length before

-- a field of w bits behind the first b of n bytes ends within them, and the bytes that it touches fit a word
pub record Space (b w n : ℕ) : Type 0 where
  pub some : 0 < w
  pub narrow : w < 64
  pub word : b % 8 + w ≤ 64
  pub inside : b + w ≤ 8 * n
