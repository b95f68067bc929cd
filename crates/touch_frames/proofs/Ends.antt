-- What this crate's calls hand on is the end of what they are lent.
-- Assumes nothing.
use Prim.Native.Nat.{ℕ}
use mathlib.Core.Path.{◌≡◌}
use mathlib.Core.Bool.{Bool}
use mathlib.Core.List.{List}
use Rattle.std.specs.Prelude.{Result, Ok, Err}
use Rattle.std.specs.Borrow.{Bor}
use Rattle.paper.specs.declared.Refusal.{Refusal}
use Rattle.formats.specs.Format.{times}
use Rattle.formats.specs.Answer.{read_of, left_of, skip}
use Rattle.formats.proofs.Ends.{Ends, AnswerEnds, LeftEnds, times-ends, answer-ends, left-ends}
use Rattle.fields.specs.Integers.{taken_by}
use Rattle.fields.proofs.Ends.{form-ends}
use Rattle.house.specs.declared.Head.{Head}
use Rattle.framing.specs.declared.BodyHead.{BodyHead}
use Rattle.framing.proofs.Ends as framing-ends
use Rattle.touch.specs.Limits.{touch_limits}
use Rattle.touch.specs.Touch.{contact, frame_head, frame, touch_head}
use Rattle.touch.proofs.Ends.{contact-ends}
use Rattle.touch_frames.specs.Checks.{Checks}

module _ (strictly : Bool) where
  pub frame-head-ends : (judged : Bool) → Ends (frame_head (taken_by strictly) judged)
  frame-head-ends = framing-ends.frame-head-ends (taken_by strictly) (form-ends strictly) touch_limits

  pub frame-ends : (judged : Bool) → Ends (frame (taken_by strictly) judged)
  frame-ends = framing-ends.frame-ends (taken_by strictly) (form-ends strictly) touch_limits (contact (taken_by strictly)) (contact-ends strictly)

  touch-head-ends : Ends (touch_head (taken_by strictly))
  touch-head-ends = framing-ends.body-head-ends (taken_by strictly) (form-ends strictly) touch_limits

  module _ (l : List ℕ) where
    pub read-frame-head-ends : (judged : Bool) (r : Result (Head × Bor (List ℕ)) Refusal) → read_of r ≡ (frame_head (taken_by strictly) judged).read l → AnswerEnds l r
    read-frame-head-ends judged = answer-ends (frame_head (taken_by strictly) judged) (frame-head-ends judged) l

    pub read-touch-head-ends : (r : Result (BodyHead × Bor (List ℕ)) Refusal) → read_of r ≡ (touch_head (taken_by strictly)).read l → AnswerEnds l r
    read-touch-head-ends = answer-ends (touch_head (taken_by strictly)) touch-head-ends l

    pub skip-contacts-ends : (n : ℕ) (r : Result (Bor (List ℕ)) Refusal) → left_of r ≡ (skip (times n (contact (taken_by strictly)))).read l → LeftEnds l r
    skip-contacts-ends n = left-ends (times n (contact (taken_by strictly))) (times-ends (contact (taken_by strictly)) n (contact-ends strictly)) l

    pub check-body-ends : (judged : Bool) (r : Result (BodyHead × Bor (List ℕ)) Refusal) → Checks strictly judged l r → AnswerEnds l r
    check-body-ends judged (Ok (h, frames)) c = touch-head-ends.ends l h frames.now c.begins
    check-body-ends judged (Err e) c = tt
