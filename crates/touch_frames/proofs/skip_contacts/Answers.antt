-- `touch_frames::skip_contacts` meets its contract. The loop keeps: what is still to come, read from left on, ends where the whole ends.
-- Assumes nothing.
use Prim.Native.Nat.{ℕ, ◌+◌, ◌-◌}
use mathlib.Core.Path.{◌≡◌, sym, ap, ◌∙◌}
use mathlib.Core.Bool.{Bool, false}
use mathlib.Core.List.{List}
use native.Mathlib.Omega.{arith}
use borrow.Author.Rules.{rules}
use Rattle.paper.specs.Refusals.{number}
use Rattle.house.specs.declared.Contact.{Contact}
use Rattle.formats.specs.Format.{Got, got, bad}
use Rattle.formats.specs.Answer.{left_of, skipped}
use Rattle.formats.proofs.Steps.{series-end, series-got, series-bad}
use Rattle.fields.specs.Integers.{taken_by}
use Rattle.touch.specs.Touch.{contact}
use Rattle.touch_frames.proofs.skip_contacts.Goals as goal

-- the reading of contacts, as a series takes it
abbrev by : Bool → Bool → List ℕ → Got Contact
by strictly b = (contact (taken_by strictly)).read

pub returns-in_err-behind-clause-value : goal.returns-in_err-behind-clause-value
returns-in_err-behind-clause-value c =
    let e : left_of c.from_residual.result ≡ bad (number c.in_err-behind.field-0.0) = search rules in
    let b : by c.args.strictly false c.loop.left.bytes.now ≡ bad (number c.in_err-behind.field-0.0) = sym c.in_err-behind.ensures.value in
    e ∙ (sym (ap skipped (series-bad (by c.args.strictly) false (c.args.n - c.loop.counter) _ _ (omega (arith, c.loop-test.true)) b)) ∙ c.loop.invariant.1)

pub loop-preserved : goal.loop-preserved
loop-preserved c =
    let b : by c.args.strictly false c.loop.left.bytes.now ≡ got c.in_ok-behind.field-0-0 c.in_ok-behind.behind.now = sym c.in_ok-behind.ensures.value in
    let n : c.args.n - (c.loop.counter + 1) ≡ c.args.n - c.loop.counter - 1 = omega arith in
    (search rules, rw n (sym (series-got (by c.args.strictly) false (c.args.n - c.loop.counter) _ _ _ (omega (arith, c.loop-test.true)) b) ∙ c.loop.invariant.1))

pub returns-clause-value : goal.returns-clause-value
returns-clause-value c = sym (ap skipped (series-end (by c.args.strictly) false (c.args.n - c.loop.counter) c.loop.left.bytes.now (omega (arith, c.loop-test.false)))) ∙ c.loop.invariant.1
