-- `openings::listing::list_contacts` meets its contract. The loop keeps: the contacts that are left lead from the set as it is where all lead from it as it was,
-- and end where all end.
-- Assumes nothing.
use Prim.Native.Nat.{◌+◌, ◌-◌}
use mathlib.Core.Path.{◌≡◌, refl, sym, ap, ◌∙◌}
use native.Mathlib.Omega.{arith}
use Rattle.std.proofs.Common.{rules}
use lib.ListN.{set}
use Rattle.fields.specs.Integers.{taken}
use Rattle.touch.specs.Touch.{contact}
use Rattle.machine.specs.Held.{with_listing}
use Rattle.contacts.specs.Touch.{touch_view}
use Rattle.framing.proofs.After.{read-end, read-bad, read-on}
use Rattle.contacts.proofs.Reading.{read-end as list-end, read-bad as list-bad, read-on as list-on}
use Rattle.openings.proofs.listing.list_contacts.Goals as goal

pub returns-in_default-clause-value : goal.returns-in_default-clause-value
returns-in_default-clause-value c =
    let a = c.args in
    let p = c.loop in
    record {
      held = sym (read-bad (with_listing touch_view) (contact taken) _ (a.n - p.counter) p.left.bytes.now _ (omega arith) (sym c.in_default.ensures.value)) ∙ p.invariant.2;
      passed = sym (list-bad (contact taken) a.rest.now (λ cs t. t) (a.n - p.counter) p.left.bytes.now _ (omega arith) (sym c.in_default.ensures.value)) ∙ p.invariant.1;
    }

pub loop-preserved : goal.loop-preserved
unfolding with_listing
loop-preserved c =
    let a = c.args in
    let p = c.loop in
    let less : a.n - p.counter - 1 ≡ a.n - (p.counter + 1) = omega arith in (
      search rules,
      sym (list-on (contact taken) a.rest.now (λ cs t. t) (λ cs t. t) (a.n - p.counter) (a.n - (p.counter + 1)) p.left.bytes.now _ _ (omega arith) (sym c.in-Ok.ensures.value) (λ cs t. refl)) ∙ p.invariant.1,
      rw less at (read-on (with_listing touch_view) (contact taken) _ _ (a.n - p.counter) _ _ _ (omega arith) (sym c.in-Ok.ensures.value) (ap (set p.held _) c.mark_for.ensures)) ∙ p.invariant.2,
    )

pub returns-clause-value : goal.returns-clause-value
returns-clause-value c =
    let a = c.args in
    let p = c.loop in
    record {
      held = sym (read-end (with_listing touch_view) (contact taken) _ (a.n - p.counter) p.left.bytes.now (omega arith)) ∙ p.invariant.2;
      passed = sym (list-end (contact taken) a.rest.now (λ cs t. t) (a.n - p.counter) p.left.bytes.now (omega arith)) ∙ p.invariant.1;
    }
