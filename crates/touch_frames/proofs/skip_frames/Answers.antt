-- `touch_frames::skip_frames` meets its contract. The loop keeps: what is still to come, read from left on, ends where the whole ends.
-- Assumes nothing.
use Prim.Native.Nat.{ℕ, ◌+◌, ◌-◌}
use mathlib.Core.Path.{◌≡◌, sym, ap, ◌∙◌}
use mathlib.Core.Bool.{Bool, false, ◌&&◌}
use mathlib.Core.List.{List}
use native.Mathlib.Omega.{arith}
use Rattle.std.proofs.Common.{rules, nat_eq}
use Rattle.paper.specs.Refusals.{number}
use Rattle.formats.specs.Format.{Got, got, bad, read_series}
use Rattle.formats.specs.Answer.{left_of, skip, skipped}
use Rattle.formats.proofs.Steps.{series-end, series-got, series-bad, series-skip}
use Rattle.fields.specs.Integers.{taken_by}
use Rattle.touch.specs.Touch.{frame}
use Rattle.touch_frames.proofs.skip_frames.Goals as goal

-- the reading of where frames end, as a series takes it
abbrev by : Bool → Bool → List ℕ → Got (Unit {0})
by strictly b = (skip (frame (taken_by strictly) b)).read

-- it ends where the frames end
whole : (strictly judged : Bool) (n : ℕ) (l : List ℕ) (x : Got (Unit {0})) → x ≡ skipped (read_series (by strictly) judged n l) → x ≡ skipped (read_series (λ b. (frame (taken_by strictly) b).read) judged n l)
whole strictly judged n l x h = h ∙ series-skip (λ b. (frame (taken_by strictly) b).read) judged n l

pub returns-in_err-behind-clause-value : goal.returns-in_err-behind-clause-value
returns-in_err-behind-clause-value c =
    let a = c.args in
    let e : left_of c.from_residual.result ≡ bad (number c.in_err-behind.field-0.0) = search rules in
    let b : by a.strictly (nat_eq c.loop-i.i 0 && a.judged) c.loop-i.left.bytes.now ≡ bad (number c.in_err-behind.field-0.0) = sym c.in_err-behind.ensures.value in
    whole a.strictly a.judged a.n a.rest.now _ (e ∙ (sym (ap skipped (series-bad (by a.strictly) _ (a.n - c.loop-i.i) _ _ (omega (arith, c.loop-i-test.true)) b)) ∙ c.loop-i.invariant.1))

pub loop-i-preserved : goal.loop-i-preserved
loop-i-preserved c =
    let a = c.args in
    let b : by a.strictly (nat_eq c.loop-i.i 0 && a.judged) c.loop-i.left.bytes.now ≡ got tt c.in_ok-behind.behind.now = sym c.in_ok-behind.ensures.value in
    let n : a.n - (c.loop-i.i + 1) ≡ a.n - c.loop-i.i - 1 = omega arith in
    let f : nat_eq (c.loop-i.i + 1) 0 ≡ false = search rules in
    (search rules, rw (n, f) (sym (series-got (by a.strictly) _ (a.n - c.loop-i.i) _ _ _ (omega (arith, c.loop-i-test.true)) b) ∙ c.loop-i.invariant.1))

pub returns-clause-value : goal.returns-clause-value
returns-clause-value c =
    let a = c.args in
    whole a.strictly a.judged a.n a.rest.now _
    (sym (ap skipped (series-end (by a.strictly) (nat_eq c.loop-i.i 0 && a.judged) (a.n - c.loop-i.i) c.loop-i.left.bytes.now (omega (arith, c.loop-i-test.false)))) ∙ c.loop-i.invariant.1)
