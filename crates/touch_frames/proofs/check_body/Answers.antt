-- `touch_frames::check_body` meets its contract: a head, as many frames as it says, and no byte behind them.
-- Assumes nothing.
use Prim.Native.Nat.{ℕ, ◌<◌}
use mathlib.Core.Path.{◌≡◌, sym, ap, ◌∙◌}
use mathlib.Core.Bool.{Bool}
use mathlib.Core.List.{List}
use lib.ListN.{length}
use Rattle.std.proofs.Common.{rules}
use Rattle.paper.specs.Refusals.{number, trailing}
use Rattle.formats.specs.Format.{Got, got, bad, and_then, ended, series}
use Rattle.formats.specs.Answer.{skip}
use Rattle.formats.proofs.Steps.{ended_none, ended_more}
use Rattle.fields.specs.Integers.{taken_by}
use Rattle.framing.specs.Format.{body_format, summary}
use Rattle.framing.specs.declared.BodyHead.{BodyHead}
use Rattle.framing.proofs.Reading.{body_end}
use Rattle.touch.specs.Limits.{touch_limits}
use Rattle.touch.specs.Touch.{frame, touch_head, body, contact}
use Rattle.touch_frames.specs.Checks.{checked_of}
use Rattle.touch_frames.proofs.check_body.Goals as goal

-- behind a head that is read, the frames say what a body comes to
behind : (strictly judged : Bool) (l : List ℕ) (h : BodyHead) (t : List ℕ) (x : Got (Unit {0})) → got h t ≡ (touch_head (taken_by strictly)).read l → x ≡ (skip (series (frame (taken_by strictly)) judged h.frames)).read t
    → summary (body (taken_by strictly) judged l) ≡ and_then x (λ a u. ended trailing h u)
behind strictly judged l h t x e f = body_end (taken_by strictly) touch_limits (contact (taken_by strictly)) judged l h t (sym e) ∙ ap (λ y. and_then y (λ a u. ended trailing h u)) (sym f)

pub returns-in_err-head-clause-value : goal.returns-in_err-head-clause-value
unfolding body_format
returns-in_err-head-clause-value c =
    let e : checked_of c.from_residual.result ≡ bad (number c.in_err-head.field-0.0) = search rules in
    record { same = e ∙ rw (sym c.in_err-head.ensures.value); begins = search rules }

pub returns-in_err-left-clause-value : goal.returns-in_err-left-clause-value
returns-in_err-left-clause-value c =
    let a = c.args in
    let e : checked_of c.from_residual-in_err-left.result ≡ bad (number c.in_err-left.field-0.0) = search rules in
    record { same = e ∙ sym (behind a.strictly a.judged a.body.now _ _ _ c.in_ok-head.ensures.value c.in_err-left.ensures.value); begins = search rules }

pub returns-then-is_empty-clause-value : goal.returns-then-is_empty-clause-value
returns-then-is_empty-clause-value c =
    let a = c.args in
    let n : length c.in_ok-left.left.now ≡ 0 = search rules in
    record { same = sym (behind a.strictly a.judged a.body.now _ _ _ c.in_ok-head.ensures.value c.in_ok-left.ensures.value ∙ ended_none trailing c.in_ok-head.head _ n); begins = sym c.in_ok-head.ensures.value }

pub returns-clause-value : goal.returns-clause-value
returns-clause-value c =
    let a = c.args in
    let n : 0 < length c.in_ok-left.left.now = search rules in
    record { same = sym (behind a.strictly a.judged a.body.now _ _ _ c.in_ok-head.ensures.value c.in_ok-left.ensures.value ∙ ended_more trailing c.in_ok-head.head _ n); begins = tt }
