-- `house::low_bits` meets its contract: what is above k bits is taken away, and nothing is where k is 64 or more.
-- Assumes nothing.
use mathlib.Core.Path.{◌≡◌, sym}
use Prim.Native.Nat.{ℕ, ◌%◌, ◌^◌, ◌<◌, ◌≤◌}
use native.Mathlib.Nat.{mod-eq_of_lt}
use native.Mathlib.Omega.{arith}
use lib.Pow.{pow_mono}
use Rattle.house.proofs.low_bits.Goals as goal

-- a word has no more than 64 bits
whole : (n k : ℕ) → n < 2 ^ 64 → 64 ≤ k → n ≡ n % 2 ^ k
whole n k h l = sym (mod-eq_of_lt (omega (arith, pow_mono l)))

pub returns-then-k-ge64 : goal.returns-then-k-ge64
returns-then-k-ge64 c = let s = c.before in whole s.args.n s.args.k s.ranges.n.fits c.if-k-ge64.true
