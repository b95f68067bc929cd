-- `commands::obey` meets its contract: by the first byte.
-- Assumes nothing.
use mathlib.Core.Path.{refl, sym}
use native.Mathlib.Omega.{arith}
use borrow.Author.Tests.{eqb-true}
use Rattle.slices.proofs.Tails.{tail-is}
use Rattle.commands.specs.Commands.{command_of}
use Rattle.commands.proofs.Carried.{command-none, command-other}
use Rattle.commands.proofs.obey.Goals as goal

pub returns-then-is_empty : goal.returns-then-is_empty
returns-then-is_empty c = rw (command-none _ (eqb-true _ _ (sym c.if-is_empty.ensures))) (record { answer = c.pass_over.ensures; output = refl })

pub returns-in-1 : goal.returns-in-1
unfolding command_of
returns-in-1 c = let d = c.args.out.now in rw c.in-1.is (rw (tail-is _ 1) at (c.arrive.ensures d))

pub returns-in-2 : goal.returns-in-2
unfolding command_of
returns-in-2 c = rw c.in-2.is c.declare.ensures

pub returns-in-3 : goal.returns-in-3
unfolding command_of
returns-in-3 c = rw c.in-3.is c.touch.ensures

pub returns-in-6 : goal.returns-in-6
unfolding command_of
returns-in-6 c = rw c.in-6.is c.dismiss.ensures

pub returns-in_default : goal.returns-in_default
returns-in_default c =
    rw (command-other c.args.entry.now (λ e. omega (arith, e)) (λ e. omega (arith, e)) (λ e. omega (arith, e)) (λ e. omega (arith, e))) (record { answer = c.pass_over-in_default.ensures; output = refl })
