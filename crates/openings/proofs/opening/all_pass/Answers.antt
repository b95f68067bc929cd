-- `openings::opening::all_pass` meets its contract. The loop keeps: the contacts that are left pass where all of them do.
-- Assumes nothing.
use Prim.Native.Nat.{◌+◌, ◌-◌}
use mathlib.Core.Path.{sym, ◌∙◌}
use mathlib.Core.Bool.{false}
use native.Mathlib.Omega.{arith}
use Rattle.fields.specs.Integers.{taken}
use Rattle.touch.specs.Touch.{contact}
use Rattle.machine.specs.Conforms.{every}
use Rattle.machine.proofs.Conforms.{every-on, every-off}
use Rattle.contacts.proofs.Reading.{read-end, read-bad, read-on, read_off}
use Rattle.openings.specs.Openings.{passes_by}
use Rattle.openings.proofs.opening.all_pass.Goals as goal

pub returns-in_default : goal.returns-in_default
returns-in_default c =
    let a = c.args in
    let p = c.loop in
    sym (read-bad (contact taken) false (λ cs t. every (passes_by a.hovers a.held.now) cs) (a.n - p.counter) p.left.now _ (omega arith) (sym c.in_default.ensures.value)) ∙ p.invariant

pub returns-then-not-passes : goal.returns-then-not-passes
returns-then-not-passes c =
    let a = c.args in
    let p = c.loop in
    let off = every-off (passes_by a.hovers a.held.now) c.in-Ok.contact (sym c.passes.ensures ∙ c.if-not-passes.true) in
    sym (read_off (contact taken) false (λ cs t. every (passes_by a.hovers a.held.now) cs) (a.n - p.counter) (a.n - (p.counter + 1)) p.left.now _ _ (omega arith) (sym c.in-Ok.ensures.value) (λ cs t. off cs)) ∙ p.invariant

pub loop-preserved : goal.loop-preserved
loop-preserved c =
    let a = c.args in
    let p = c.loop in
    let on = every-on (passes_by a.hovers a.held.now) c.in-Ok.contact (sym c.passes.ensures ∙ c.if-not-passes.false) in
    sym (read-on (contact taken) false (λ cs t. every (passes_by a.hovers a.held.now) cs) (λ cs t. every (passes_by a.hovers a.held.now) cs) (a.n - p.counter) (a.n - (p.counter + 1)) p.left.now _ _ (omega arith) (sym c.in-Ok.ensures.value) (λ cs t. on cs)) ∙ p.invariant

pub returns : goal.returns
unfolding every
returns c =
    let a = c.args in
    let p = c.loop in
    sym (read-end (contact taken) false (λ cs t. every (passes_by a.hovers a.held.now) cs) (a.n - p.counter) p.left.now (omega arith)) ∙ p.invariant
