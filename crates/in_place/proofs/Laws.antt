-- How long the lines are at most.
-- Assumes nothing.
use Prim.Native.Nat.{ℕ, ◌≤◌}
use native.Mathlib.Omega.{arith}
use lib.ListN.{length, length-append}
use Rattle.receiver.specs.declared.Answer.{Answer}
use Rattle.receiver.specs.declared.Marks.{Marks}
use Rattle.lines.specs.Page.{text_of, decimal}
use Rattle.lines.proofs.Decimal.{digits-few}
use Rattle.in_place.specs.Line.{line_most, line_of, cut_line}

few : (n : ℕ) → length (decimal n) ≤ 20
few = digits-few 19

pub line-short : (number : ℕ) (a : Answer) (m : Marks) (active : ℕ) → length (text_of (line_of number a m active)) ≤ line_most
line-short number a m active =
    simp length-append (omega (arith, few number, few a.refusal, few a.records, few m.ready, few m.begun, few m.ignoring, few active))

pub cut_short : (number : ℕ) → length (text_of (cut_line number)) ≤ line_most
cut_short number = simp length-append (omega (arith, few number))
