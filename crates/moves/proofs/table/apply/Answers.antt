-- `moves::table::apply` meets its contract. The loop keeps: the contacts that are left lead from the table as it is where all lead from it as it was, and end
-- where all end.
-- Assumes nothing.
use Prim.Native.Nat.{◌+◌, ◌-◌}
use mathlib.Core.Path.{◌≡◌, refl, sym, ◌∙◌}
use native.Mathlib.Omega.{arith}
use Rattle.std.proofs.Common.{rules}
use Rattle.states.specs.Table.{next}
use Rattle.machine.specs.Conforms.{moved}
use Rattle.contacts.specs.Touch.{touch_view}
use Rattle.contacts.specs.Ruling.{source}
use Rattle.framing.proofs.After.{read-end, read-bad, read-on}
use Rattle.contacts.proofs.Reading.{read-end as list-end, read-bad as list-bad, read-on as list-on}
use Rattle.moves.proofs.table.apply.Goals as goal

pub returns-in_default-clause-value : goal.returns-in_default-clause-value
returns-in_default-clause-value c =
    let a = c.args in
    let p = c.loop in
    record {
      table = sym (read-bad (moved touch_view next) (source a.recorded) _ (a.n - p.counter) p.left.bytes.now _ (omega arith) (sym c.in_default.ensures.value)) ∙ p.invariant.2;
      passed = sym (list-bad (source a.recorded) a.rest.now (λ cs t. t) (a.n - p.counter) p.left.bytes.now _ (omega arith) (sym c.in_default.ensures.value)) ∙ p.invariant.1;
    }

pub loop-preserved : goal.loop-preserved
loop-preserved c =
    let a = c.args in
    let p = c.loop in
    let less : a.n - p.counter - 1 ≡ a.n - (p.counter + 1) = omega arith in (
      search rules,
      sym (list-on (source a.recorded) a.rest.now (λ cs t. t) (λ cs t. t) (a.n - p.counter) (a.n - (p.counter + 1)) p.left.bytes.now _ _ (omega arith) (sym c.in-Ok.ensures.value) (λ cs t. refl)) ∙ p.invariant.1,
      rw less at (read-on (moved touch_view next) (source a.recorded) _ _ (a.n - p.counter) _ _ _ (omega arith) (sym c.in-Ok.ensures.value) c.move_contact.ensures) ∙ p.invariant.2,
    )

pub returns-clause-value : goal.returns-clause-value
returns-clause-value c =
    let a = c.args in
    let p = c.loop in
    record {
      table = sym (read-end (moved touch_view next) (source a.recorded) _ (a.n - p.counter) p.left.bytes.now (omega arith)) ∙ p.invariant.2;
      passed = sym (list-end (source a.recorded) a.rest.now (λ cs t. t) (a.n - p.counter) p.left.bytes.now (omega arith)) ∙ p.invariant.1;
    }
