-- Two outcomes that a contract of this crate allows are the same.
-- Assumes nothing.
use Prim.Native.Nat.{ℕ}
use mathlib.Core.Path.{◌≡◌, refl, sym, ◌∙◌}
use mathlib.Core.List.{List}
use Rattle.std.specs.Prelude.{Option, Some, None}
use Rattle.std.specs.Borrow.{Bor}
use Rattle.slices.specs.declared.Written.{Written}
use Rattle.slices.proofs.Laws.{writes-unique}
use Rattle.formats.specs.Format.{got}
use Rattle.formats.specs.Answer.{end_of}
use Rattle.formats.proofs.Laws.{never}
use Rattle.formats.proofs.Unique.{one-place}
use Rattle.house.specs.declared.Head.{Head}
use Rattle.house.specs.declared.Contact.{Contact}
use Rattle.framing.specs.Frame.{Frame}
use Rattle.frame_records.specs.Frames.{WritesFrame, FindsFrame, FrameEnds, head_in, contacts_in}

pub write-frame-unique : (h : Head) (l : List ℕ) (v w : Written) (before after after' : List ℕ) → WritesFrame h l v before after → WritesFrame h l w before after' → (v ≡ w) × (after ≡ after')
write-frame-unique h l v w b a a' p q = writes-unique _ v w b a a' p q

-- ---- finding

one-head : (g h : Head) (t u : List ℕ) → got g t ≡ got h u → (g ≡ h) × (t ≡ u)
one-head g h t u e = (cc, cc)

one-frame : (f g : Frame Contact) (t u : List ℕ) → got f t ≡ got g u → t ≡ u
one-frame f g t u e = cc

pub find-frame-unique : (l : Bor (List ℕ)) (r s : Option (Head × Bor (List ℕ) × Bor (List ℕ))) → FindsFrame l.now r × FrameEnds l r → FindsFrame l.now s × FrameEnds l s → r ≡ s
find-frame-unique l (Some (h, s, t)) (Some (g, u, v)) (p, m) (q, n) =
    let e = one-head h g s.now u.now (sym p.3 ∙ q.3) in
    let f = one-place l s u e.1 m.0 n.0 in
    let b = one-place l t v (one-frame p.0 q.0 t.now v.now (sym p.1 ∙ q.1)) m.1 n.1 in
    λ i. Some (e.0 i, f i, b i)
find-frame-unique l (Some (h, s, t)) None (p, m) (q, n) = never q.0 p.0 t.now (sym q.1 ∙ p.1)
find-frame-unique l None (Some (g, u, v)) (p, m) (q, n) = never p.0 q.0 v.now (sym p.1 ∙ q.1)
find-frame-unique l None None p q = refl

pub find-head-unique : (l : Bor (List ℕ)) (r s : Head × Bor (List ℕ))
    → ((r.0 ≡ head_in l.now) × (r.1.now ≡ contacts_in l.now)) × (end_of r.1 ≡ end_of l) → ((s.0 ≡ head_in l.now) × (s.1.now ≡ contacts_in l.now)) × (end_of s.1 ≡ end_of l) → r ≡ s
find-head-unique l r s (p, m) (q, n) =
    let h = p.0 ∙ sym q.0 in
    let t = one-place l r.1 s.1 (p.1 ∙ sym q.1) m n in
    λ i. (h i, t i)
