-- Two outcomes that a contract of this crate's public calls allows are the same.
-- Assumes nothing.
use Prim.Native.Nat.{ℕ}
use mathlib.Core.Path.{◌≡◌, refl, sym, ◌∙◌}
use mathlib.Core.Bool.{Bool}
use mathlib.Core.List.{List, []}
use Rattle.std.specs.Prelude.{Result, Ok, Err}
use Rattle.std.specs.Borrow.{Bor}
use Rattle.paper.specs.Refusals.{number}
use Rattle.paper.specs.declared.Refusal.{Refusal}
use Rattle.formats.specs.Format.{bad, times}
use Rattle.formats.specs.Answer.{end_of, tail_end, skip}
use Rattle.formats.proofs.Laws.{never}
use Rattle.formats.proofs.Unique.{Answers, Leaves, read-once, left-once}
use Rattle.fields.specs.Integers.{Integers, taken_by}
use Rattle.house.specs.declared.Head.{Head}
use Rattle.framing.specs.declared.BodyHead.{BodyHead}
use Rattle.touch.specs.Touch.{contact, frame_head, touch_head}
use Rattle.touch_frames.specs.Checks.{checked_of, Begins, Checks}

-- whatever integers are taken
module _ (i : Integers) (l : Bor (List ℕ)) where
  pub read-frame-head-unique : (judged : Bool) (a b : Result (Head × Bor (List ℕ)) Refusal) → Answers ((frame_head i judged).read l.now) l a → Answers ((frame_head i judged).read l.now) l b → a ≡ b
  read-frame-head-unique judged = read-once ((frame_head i judged).read l.now) l

  pub read-touch-head-unique : (a b : Result (BodyHead × Bor (List ℕ)) Refusal) → Answers ((touch_head i).read l.now) l a → Answers ((touch_head i).read l.now) l b → a ≡ b
  read-touch-head-unique = read-once ((touch_head i).read l.now) l

  pub skip-contacts-unique : (n : ℕ) (a b : Result (Bor (List ℕ)) Refusal) → Leaves ((skip (times n (contact i))).read l.now) l a → Leaves ((skip (times n (contact i))).read l.now) l b → a ≡ b
  skip-contacts-unique n = left-once ((skip (times n (contact i))).read l.now) l

-- the whole body
pub check-body-unique : (strictly judged : Bool) (l : Bor (List ℕ)) (a b : Result (BodyHead × Bor (List ℕ)) Refusal)
    → Checks strictly judged l.now a × (tail_end l a ≡ end_of l) → Checks strictly judged l.now b × (tail_end l b ≡ end_of l) → a ≡ b
check-body-unique strictly judged l a b (ha, p) (hb, q) = go a b (ha.same ∙ sym hb.same) ha.begins hb.begins p q
  where
    go : (a b : Result (BodyHead × Bor (List ℕ)) Refusal) → checked_of a ≡ checked_of b → Begins strictly l.now a → Begins strictly l.now b → tail_end l a ≡ end_of l → tail_end l b ≡ end_of l → a ≡ b
    go (Ok (h, t)) (Ok (g, u)) e p q v w = read-once ((touch_head (taken_by strictly)).read l.now) l (Ok (h, t)) (Ok (g, u)) (sym p, v) (sym q, w)
    go (Ok (h, t)) (Err f) e p q v w = never (number f) h [] (sym e)
    go (Err d) (Ok (g, u)) e p q v w = never (number d) g [] e
    go (Err d) (Err f) e p q v w = read-once (bad (number f)) l (Err d) (Err f) (e, v) (refl, w)
