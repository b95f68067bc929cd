-- `panel_touch::judging::run_through` meets its contract. The loop keeps: the run is under way, of whatever frames the records are.
-- Assumes nothing.
use Prim.Native.Nat.{ℕ, ◌≤◌, ◌<◌}
use mathlib.Core.Path.{◌≡◌, sym}
use mathlib.Core.Bool.{true, false}
use native.Mathlib.Omega.{arith}
use borrow.Author.Tests.{eqb-true, eqb-false}
use lib.Dec.{eqb}
use Rattle.contacts.specs.Ruling.{table_from}
use Rattle.panel_touch.proofs.Stepping.{untrue}
use Rattle.panel_touch.proofs.Running.{underway-last, begins, stops, goes}
use Rattle.panel_touch.proofs.judging.run_through.Goals as goal

-- what is not empty has bytes, and what is empty has none
some : (n : ℕ) → false ≡ eqb n 0 → 0 < n
some n e = omega (arith, eqb-false n 0 (sym e))

none : (n : ℕ) → true ≡ eqb n 0 → n ≤ 0
none n e = omega (arith, eqb-true n 0 (sym e))

pub step-requires : goal.step-requires
step-requires c =
    let b = c.requires in
    begins _ _ _ _ _ _ _ (c.loop-left.invariant b.frames b.after b.read) (some _ c.loop-left-test.ensures)

pub returns-in_default : goal.returns-in_default
returns-in_default c =
    record {
      judged = λ fs rest e. stops _ _ _ _ _ _ _ (c.loop-left.invariant fs rest e) (some _ c.loop-left-test.ensures) (table_from c.step.new.states c.step.new.xs c.step.new.ys) c.in_default.ensures;
      table = λ fs rest e z. untrue z;
    }

pub loop-left-smaller : goal.loop-left-smaller
loop-left-smaller c =
    let b = c.requires in
    (goes _ _ _ _ _ _ _ (c.loop-left.invariant b.frames b.after b.read) (some _ c.loop-left-test.ensures) _ _ c.in-Some.behind c.in-Some.ensures).shorter

pub loop-left-preserved : goal.loop-left-preserved
loop-left-preserved c fs end e =
    (goes _ _ _ _ _ _ _ (c.loop-left.invariant fs end e) (some _ c.loop-left-test.ensures) _ _ c.in-Some.behind c.in-Some.ensures).under

pub returns : goal.returns
returns c =
    record {
      judged = λ fs rest e. (underway-last _ _ _ _ _ _ _ (c.loop-left.invariant fs rest e) (none _ c.loop-left-test.ensures)).0;
      table = λ fs rest e z. (underway-last _ _ _ _ _ _ _ (c.loop-left.invariant fs rest e) (none _ c.loop-left-test.ensures)).1;
    }
