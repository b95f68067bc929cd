-- What the judging of a whole body answers.
use Rattle.std.specs.Prelude.{ℕ, ◌≡◌, Bool, List, [], Result, Ok, Err}
use Rattle.std.specs.Borrow.{Bor}
use Rattle.paper.specs.Refusals.{number}
use Rattle.paper.specs.declared.Refusal.{Refusal}
use Rattle.formats.specs.Format.{Got, got, bad}
use Rattle.fields.specs.Integers.{taken_by}
use Rattle.framing.specs.Format.{summary}
use Rattle.framing.specs.declared.BodyHead.{BodyHead}
use Rattle.touch.specs.Touch.{touch_head, body}

-- the answer, without the frames
abbrev pub checked_of : Result (BodyHead × Bor (List ℕ)) Refusal → Got BodyHead
checked_of (Ok (h, frames)) = got h []
checked_of (Err e) = bad (number e)

-- the frames begin behind what stands before them
abbrev pub Begins : Bool → List ℕ → Result (BodyHead × Bor (List ℕ)) Refusal → Type 0
Begins strictly l (Ok (h, frames)) = (touch_head (taken_by strictly)).read l ≡ got h frames.now
Begins strictly l (Err e) = Unit {0}

-- THE CONTRACT OF JUDGING a body: of what is read all but the frames, and where they begin; nothing more of a refusal
pub record Checks (strictly judged : Bool) (l : List ℕ) (r : Result (BodyHead × Bor (List ℕ)) Refusal) : Type 0 where
  pub same : checked_of r ≡ summary (body (taken_by strictly) judged l)
  pub begins : Begins strictly l r
