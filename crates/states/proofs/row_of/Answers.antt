-- `states::row_of` meets its contract: each of the eight values has its place, and any other none.
-- Assumes nothing.
use native.Mathlib.Omega.{arith}
use borrow.Author.Tests.{ne_eqb}
use Rattle.states.specs.Table.{place_of}
use Rattle.states.proofs.row_of.Goals as goal

pub returns-in-10 : goal.returns-in-10
unfolding place_of
returns-in-10 c = rw c.in-10.is

pub returns-in-25 : goal.returns-in-25
unfolding place_of
returns-in-25 c = rw c.in-25.is

pub returns-in-26 : goal.returns-in-26
unfolding place_of
returns-in-26 c = rw c.in-26.is

pub returns-in-12 : goal.returns-in-12
unfolding place_of
returns-in-12 c = rw c.in-12.is

pub returns-in-4 : goal.returns-in-4
unfolding place_of
returns-in-4 c = rw c.in-4.is

pub returns-in-36 : goal.returns-in-36
unfolding place_of
returns-in-36 c = rw c.in-36.is

pub returns-in-2 : goal.returns-in-2
unfolding place_of
returns-in-2 c = rw c.in-2.is

pub returns-in-34 : goal.returns-in-34
unfolding place_of
returns-in-34 c = rw c.in-34.is

pub returns-in_default : goal.returns-in_default
unfolding place_of
returns-in_default c =
    let f = c.args.flags in
    rw (
      ne_eqb f 0x0A (λ e. omega arith),
      ne_eqb f 0x19 (λ e. omega arith),
      ne_eqb f 0x1A (λ e. omega arith),
      ne_eqb f 0x0C (λ e. omega arith),
      ne_eqb f 0x04 (λ e. omega arith),
      ne_eqb f 0x24 (λ e. omega arith),
      ne_eqb f 0x02 (λ e. omega arith),
      ne_eqb f 0x22 (λ e. omega arith),
    )
