use Rattle.std.proofs.Common.{◌≡◌}
use lib.ListN.{take}
use Rattle.digits.specs.Digits.{joined}
use Rattle.unpacking.proofs.bits.get.Given as goal

-- n is the number of the bytes that were read
abbrev pub invariant-loop-byte : goal.invariant-loop-byte
invariant-loop-byte l = l.n ≡ joined 0 (take l.byte-index l.byte-items)
