-- What a pass over a checked body knows: the message, and its frames where they begin.
-- Assumes nothing.
use Prim.Native.Nat.{ℕ}
use mathlib.Core.Path.{◌≡◌, refl, sym}
use mathlib.Core.Bool.{Bool}
use mathlib.Core.List.{List, []}
use Rattle.std.specs.Prelude.{Ok}
use Rattle.std.specs.Borrow.{Bor}
use Rattle.formats.specs.Format.{Got, got, bad, read_series}
use Rattle.formats.proofs.Laws.{never}
use Rattle.fields.specs.Integers.{taken_by}
use Rattle.framing.specs.declared.BodyHead.{BodyHead}
use Rattle.framing.specs.Format.{body_head_of, summary}
use Rattle.framing.proofs.Reading.{body-got}
use Rattle.touch.specs.Limits.{touch_limits}
use Rattle.touch.specs.Touch.{Touch, contact, frame, body}
use Rattle.touch_frames.specs.Checks.{Checks}

-- a body that was checked: the message, and its frames where they begin
pub record Checked (strictly judged : Bool) (l : List ℕ) (h : BodyHead) (rest : List ℕ) : Type 0 where
  pub message : Touch
  pub read : body (taken_by strictly) judged l ≡ got message []
  pub head : h ≡ body_head_of message
  pub frames : read_series (λ b. (frame (taken_by strictly) b).read) judged h.frames rest ≡ got message.frames []

pub checked : (strictly judged : Bool) (l : List ℕ) (h : BodyHead) (t : Bor (List ℕ)) → Checks strictly judged l (Ok (h, t)) → Checked strictly judged l h t.now
checked strictly judged l h t c = go (body (taken_by strictly) judged l) refl c.same
  where
    go : (x : Got Touch) → body (taken_by strictly) judged l ≡ x → got h [] ≡ summary x → Checked strictly judged l h t.now
    go (bad x) w e = never x h [] (sym e)
    go (got m u) w e =
        let b = body-got (taken_by strictly) touch_limits (contact (taken_by strictly)) judged l m u h t.now w c.begins in
        record { message = m; read = rw b.ends at w; head = b.head; frames = b.frames }
