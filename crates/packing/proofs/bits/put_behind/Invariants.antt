use Rattle.std.proofs.Common.{List, ℕ, ◌≡◌, ◌++◌, ◌≤◌, length}
use lib.ListN.{take, drop}
use Rattle.digits.specs.Digits.{digits}
use Rattle.packing.proofs.bits.put_behind.Given as goal

pub record Sent (s₀ : List ℕ) (n bytes : ℕ) (s : List ℕ) (i : ℕ) : Type 0 where
  pub inside : i ≤ bytes
  pub room : bytes ≤ length s₀
  pub sent : s ≡ take i (digits bytes n) ++ drop i s₀
  pub size : length s ≡ length s₀

abbrev pub invariant-loop-i : goal.invariant-loop-i
invariant-loop-i l = Sent l.initial.out l.n l.bytes l.out l.i
