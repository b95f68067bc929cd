-- `runs::carry::carry_contacts` meets its contract. The loop keeps: of the contacts that are left, what is behind them, what they leave of the
-- table and what is laid of them is what it is of all.
-- Assumes nothing.
use Prim.Native.Nat.{◌+◌, ◌-◌}
use mathlib.Core.Path.{◌≡◌, refl, sym, ◌∙◌}
use native.Mathlib.Omega.{arith}
use Rattle.fields.specs.Integers.{taken}
use Rattle.touch.specs.Touch.{contact}
use Rattle.frame_records.proofs.Contacts.{laying-next, laying-bad, laying-done}
use Rattle.states.specs.Table.{next}
use Rattle.machine.specs.Conforms.{moved}
use Rattle.contacts.specs.Touch.{touch_view}
use Rattle.contacts.proofs.Reading.{read-end as list-end, read-bad as list-bad, read-on as list-on}
use Rattle.framing.proofs.After.{read-end, read-bad, read-on}
use Rattle.runs.proofs.carry.carry_contacts.Goals as goal

pub returns-in_default : goal.returns-in_default
returns-in_default c =
    let a = c.args in
    let p = c.loop in
    record {
      table = record {
        table = sym (read-bad (moved touch_view next) (contact taken) _ (a.n - p.counter) _ _ (omega arith) (sym c.in_default.ensures.value)) ∙ p.invariant.2;
        passed = sym (list-bad (contact taken) a.rest.now (λ cs t. t) (a.n - p.counter) _ _ (omega arith) (sym c.in_default.ensures.value)) ∙ p.invariant.1;
      };
      output = (laying-bad _ _ _ _ _ _ _ p.invariant.0 _ (omega arith) (sym c.in_default.ensures.value)).output;
    }

pub loop-preserved : goal.loop-preserved
loop-preserved c =
    let a = c.args in
    let p = c.loop in
    let less : a.n - p.counter - 1 ≡ a.n - (p.counter + 1) = omega arith in (
      laying-next _ _ _ _ _ _ _ p.invariant.0 _ _ _ _ _ (omega arith) (sym c.in-Ok.ensures.value) c.write_contact.ensures,
      sym (list-on (contact taken) a.rest.now (λ cs t. t) (λ cs t. t) (a.n - p.counter) _ _ _ _ (omega arith) (sym c.in-Ok.ensures.value) (λ cs t. refl)) ∙ p.invariant.1,
      rw less at (read-on (moved touch_view next) (contact taken) _ _ (a.n - p.counter) _ _ _ (omega arith) (sym c.in-Ok.ensures.value) c.move_contact.ensures) ∙ p.invariant.2,
    )

pub returns : goal.returns
returns c =
    let a = c.args in
    let p = c.loop in
    record {
      table = record {
        table = sym (read-end (moved touch_view next) (contact taken) _ (a.n - p.counter) _ (omega arith)) ∙ p.invariant.2;
        passed = sym (list-end (contact taken) a.rest.now (λ cs t. t) (a.n - p.counter) _ (omega arith)) ∙ p.invariant.1;
      };
      output = (laying-done _ _ _ _ _ _ _ p.invariant.0 (omega arith)).output;
    }
