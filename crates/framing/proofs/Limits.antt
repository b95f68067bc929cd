-- A message of frames under two limits on the contacts of a frame: what is read under the one has no frame above it, and is read under the other if
-- no frame is above that: over any integers and any format of a contact.
-- Assumes nothing.
use Prim.Native.Nat.{ℕ, zero, suc, ◌≤◌}
use mathlib.Core.Path.{◌≡◌, refl, sym, ap}
use mathlib.Core.Bool.{Bool, false}
use mathlib.Core.List.{List, [], ◌∷◌}
use borrow.Author.Tests.{leb-true, le-leb}
use lib.Dec.{leb}
use lib.ListN.{length}
use Rattle.paper.specs.Refusals.{bad_count}
use Rattle.formats.specs.Format.{Got, got, bad, and_then, Format, read_series, ended}
use Rattle.formats.proofs.Laws.{never, such_got, more-got}
use Rattle.fields.specs.Integers.{Integers}
use Rattle.house.specs.declared.Head.{Head}
use Rattle.framing.specs.declared.BodyHead.{BodyHead}
use Rattle.framing.specs.Frame.{Frame, Body, head_of}
use Rattle.framing.specs.Format.{Limits, count_to, offset, frame_head_format, body_head_format, frame_format, body_format, whole_body}
use Rattle.framing.proofs.Reading.{frames_by, frame-got, body-got}

-- no frame of more than n contacts
abbrev pub NoneOver : {C : Type 0} → ℕ → List (Frame C) → Type 0
NoneOver n [] = Unit
NoneOver n (f ∷ fs) = (length f.contacts ≤ n) × NoneOver n fs

-- what stands before a frame's contacts, of its count and its offset
abbrev head_by : ℕ → ℕ → List ℕ → Got Head
head_by n o v = got (record { count = n; offset = record { 0 = o } }) v

count-is : (n : ℕ) (x : Got ℕ) (h : Head) (t : List ℕ) → and_then x (head_by n) ≡ got h t → n ≡ h.count
count-is n (bad x) h t e = never x h t e
count-is n (got o v) h t e = let z : record { count = n; offset = record { 0 = o } } ≡ h = cc in ap (λ (g : Head). g.count) z

module _ (i : Integers) (L M : Limits) where
  head-under : (judged : Bool) (l : List ℕ) (h : Head) (t : List ℕ) → (frame_head_format i L judged).read l ≡ got h t
      → (h.count ≤ L.contacts) × (h.count ≤ M.contacts → (frame_head_format i M judged).read l ≡ got h t)
  unfolding frame_head_format
  head-under judged l h t e = go ((count_to i L.contacts).read l) refl e
    where
      go : (x : Got ℕ) → (count_to i L.contacts).read l ≡ x → and_then x (λ n u. and_then ((offset i judged).read u) (head_by n)) ≡ got h t
          → (h.count ≤ L.contacts) × (h.count ≤ M.contacts → and_then ((count_to i M.contacts).read l) (λ n u. and_then ((offset i judged).read u) (head_by n)) ≡ got h t)
      go (bad x) w e = never x h t e
      go (got n u) w e =
          let z : n ≡ h.count = count-is n ((offset i judged).read u) h t e in
          let c = such_got i.u2 (λ k. leb k L.contacts) bad_count l n u w in
          (rw (← z) (leb-true n L.contacts c.1), λ m. rw (c.0, le-leb n M.contacts (rw (← z) at m)) e)

  module _ {C : Type 0} (contact : Format C) where
    frame-under : (judged : Bool) (l : List ℕ) (f : Frame C) (t : List ℕ) → frames_by i L contact judged l ≡ got f t
        → (length f.contacts ≤ L.contacts) × (length f.contacts ≤ M.contacts → frames_by i M contact judged l ≡ got f t)
    unfolding frame_format
    frame-under judged l f t e =
        let g = frame-got i L contact judged l f t e in
        let h = head-under judged l (head_of f) g.after g.head in
        (h.0, λ m. rw (h.1 m, g.contacts))

    frames-under : (judged : Bool) (n : ℕ) (l : List ℕ) (fs : List (Frame C)) (t : List ℕ) → read_series (frames_by i L contact) judged n l ≡ got fs t
        → NoneOver L.contacts fs × (NoneOver M.contacts fs → read_series (frames_by i M contact) judged n l ≡ got fs t)
    unfolding read_series
    frames-under judged zero l fs t e = let z : fs ≡ [] = cc in (rw z tt, λ m. e)
    frames-under judged (suc n) l fs t e =
        let r = more-got (frame_format i L contact) judged n l fs t e in
        let a = frame-under judged l r.head r.after r.one in
        let b = frames-under false n r.after r.rest t r.others in
        (rw r.all (a.0, b.0), λ m. let k = rw r.all at m in rw (a.1 k.0, b.1 k.1) (ap (λ (gs : List (Frame C)). got gs t) (sym r.all)))

    -- THE LAW of a body, where the limits on frames are the same
    pub body-under : L.frames ≡ M.frames → (judged : Bool) (l : List ℕ) (m : Body C) (t : List ℕ) → whole_body i L contact judged l ≡ got m t
        → NoneOver L.contacts m.frames × (NoneOver M.contacts m.frames → whole_body i M contact judged l ≡ got m t)
    unfolding body_format body_head_format ended
    body-under same judged l m t e = go ((body_head_format i L).read l) refl
      where
        go : (x : Got BodyHead) → (body_head_format i L).read l ≡ x → NoneOver L.contacts m.frames × (NoneOver M.contacts m.frames → whole_body i M contact judged l ≡ got m t)
        go (bad x) w = never x m t (rw w at e)
        go (got h u) w =
            let r = body-got i L contact judged l m t h u e w in
            let a = frames-under judged h.frames u m.frames [] r.frames in
            let v : (body_head_format i M).read l ≡ got h u = rw (← same) w in
            let z : h.time ≡ m.time = ap (λ (g : BodyHead). g.time) r.head in
            (a.0, λ n. rw (v, a.1 n) (λ j. got (record { time = z j; frames = m.frames }) (sym r.ends j)))
