-- What a message of frames that is read consists of and where it ends, and that it can be read with 11 judged or not: over any integers, any
-- limits and any format of a contact.
-- Assumes nothing.
use Prim.Native.Nat.{ℕ, zero, suc}
use mathlib.Core.Path.{◌≡◌, refl, sym, ap, ◌∙◌}
use mathlib.Core.Bool.{Bool, true, false}
use mathlib.Core.List.{List, [], ◌∷◌}
use lib.Dec.{eqb}
use lib.ListN.{length}
use Rattle.paper.specs.Refusals.{bad_offset, trailing}
use Rattle.formats.specs.Format.{Got, got, bad, and_then, Format, read_series, series, ended}
use Rattle.formats.specs.Answer.{skip, skipped}
use Rattle.formats.proofs.Laws.{never, such_got, more-got, series-length}
use Rattle.fields.specs.Integers.{Integers}
use Rattle.house.specs.declared.Head.{Head}
use Rattle.framing.specs.declared.BodyHead.{BodyHead}
use Rattle.framing.specs.Frame.{Frame, Body, head_of}
use Rattle.framing.specs.Format.{Limits, body_head_of, summary, count_to, offset, frame_head_format, body_head_format, frame_format, body_format, whole_body}

module _ (i : Integers) where
  offset-freed : (b : Bool) (l : List ℕ) (o : ℕ) (t : List ℕ) → (offset i b).read l ≡ got o t → i.u8.read l ≡ got o t
  offset-freed true l o t e = (such_got i.u8 (λ o. eqb o 0) bad_offset l o t e).0
  offset-freed false l o t e = e

  module _ (limits : Limits) where
    -- a head that is read where 11 is judged is read where it is not
    pub head-freed : (b : Bool) (l : List ℕ) (h : Head) (t : List ℕ) → (frame_head_format i limits b).read l ≡ got h t → (frame_head_format i limits false).read l ≡ got h t
    unfolding frame_head_format
    head-freed b l h t e = go ((count_to i limits.contacts).read l) e
      where
        go : (x : Got ℕ) → and_then x (λ n u. and_then ((offset i b).read u) (λ o v. got (record { count = n; offset = record { 0 = o } }) v)) ≡ got h t
            → and_then x (λ n u. and_then (i.u8.read u) (λ o v. got (record { count = n; offset = record { 0 = o } }) v)) ≡ got h t
        go (bad x) e = e
        go (got n u) e = on ((offset i b).read u) refl e
          where
            on : (y : Got ℕ) → (offset i b).read u ≡ y → and_then y (λ o v. got (record { count = n; offset = record { 0 = o } }) v) ≡ got h t
                → and_then (i.u8.read u) (λ o v. got (record { count = n; offset = record { 0 = o } }) v) ≡ got h t
            on (bad x) w e = never x h t e
            on (got o v) w e = rw (offset-freed b u o v w) e

    module _ {C : Type 0} (contact : Format C) where
      -- the readings of frames and of contacts, as series take them
      abbrev pub frames_by : Bool → List ℕ → Got (Frame C)
      frames_by b = (frame_format i limits contact b).read

      abbrev pub contacts_by : Bool → List ℕ → Got C
      contacts_by b = contact.read

      -- ---- frames

      -- a frame that is read: its head, and its contacts behind it
      pub record FrameRead (judged : Bool) (l : List ℕ) (f : Frame C) (t : List ℕ) : Type 0 where
        pub after : List ℕ
        pub head : (frame_head_format i limits judged).read l ≡ got (head_of f) after
        pub contacts : read_series contacts_by false (length f.contacts) after ≡ got f.contacts t

      pub frame-got : (judged : Bool) (l : List ℕ) (f : Frame C) (t : List ℕ) → (frame_format i limits contact judged).read l ≡ got f t → FrameRead judged l f t
      unfolding frame_format
      frame-got judged l f t e = go ((frame_head_format i limits judged).read l) refl e
        where
          go : (x : Got Head) → (frame_head_format i limits judged).read l ≡ x
              → and_then x (λ h u. and_then (read_series contacts_by false h.count u) (λ cs v. got (record { offset = h.offset; contacts = cs }) v)) ≡ got f t → FrameRead judged l f t
          go (bad x) w e = never x f t e
          go (got h u) w e = on (read_series contacts_by false h.count u) refl e
            where
              on : (y : Got (List C)) → read_series contacts_by false h.count u ≡ y → and_then y (λ cs v. got (record { offset = h.offset; contacts = cs }) v) ≡ got f t → FrameRead judged l f t
              on (bad x) k e = never x f t e
              on (got cs v) k e =
                  let n : length cs ≡ h.count = series-length (λ b. contact) false h.count u cs v k in
                  let q : f ≡ record { offset = h.offset; contacts = cs } = cc in
                  let z : v ≡ t = cc in
                  let hd : h ≡ record { count = length cs; offset = h.offset } = λ i. record { count = sym n i; offset = h.offset } in
                  record { after = u; head = rw q (w ∙ ap (λ (g : Head). got g u) hd); contacts = rw (q, n, ← z) k }

      -- what is read where 11 is judged is read where it is not
      pub frame-freed : (b : Bool) (l : List ℕ) (f : Frame C) (t : List ℕ) → frames_by b l ≡ got f t → frames_by false l ≡ got f t
      unfolding frame_format
      frame-freed b l f t e = go ((frame_head_format i limits b).read l) refl e
        where
          go : (x : Got Head) → (frame_head_format i limits b).read l ≡ x → and_then x (λ h u. and_then (read_series contacts_by false h.count u) (λ cs v. got (record { offset = h.offset; contacts = cs }) v)) ≡ got f t
              → and_then ((frame_head_format i limits false).read l) (λ h u. and_then (read_series contacts_by false h.count u) (λ cs v. got (record { offset = h.offset; contacts = cs }) v)) ≡ got f t
          go (bad x) w e = never x f t e
          go (got h u) w e = rw (head-freed b l h u w) e

      pub frames-freed : (b : Bool) (n : ℕ) (l : List ℕ) (fs : List (Frame C)) (t : List ℕ) → read_series frames_by b n l ≡ got fs t → read_series frames_by false n l ≡ got fs t
      unfolding read_series
      frames-freed b zero l fs t e = e
      frames-freed b (suc n) l fs t e =
          let m = more-got (frame_format i limits contact) b n l fs t e in
          rw (frame-freed b l m.head m.after m.one, m.others) (ap (λ (s : List (Frame C)). got s t) (sym m.all))

      -- ---- the body

      -- a body that is read, of whose head it is known where it ends
      pub record BodyRead (judged : Bool) (m : Body C) (t : List ℕ) (h : BodyHead) (after : List ℕ) : Type 0 where
        pub ends : t ≡ []
        pub head : h ≡ body_head_of m
        pub frames : read_series frames_by judged h.frames after ≡ got m.frames []

      pub body-got : (judged : Bool) (l : List ℕ) (m : Body C) (t : List ℕ) (h : BodyHead) (after : List ℕ) → whole_body i limits contact judged l ≡ got m t → (body_head_format i limits).read l ≡ got h after
          → BodyRead judged m t h after
      unfolding body_format ended
      body-got judged l m t h after e w = go (read_series frames_by judged h.frames after) refl (rw w at e)
        where
          go : (x : Got (List (Frame C))) → read_series frames_by judged h.frames after ≡ x → and_then (and_then x (λ fs u. got (record { time = h.time; frames = fs }) u)) (ended trailing) ≡ got m t → BodyRead judged m t h after
          go (bad x) v b = never x m t b
          go (got fs (y ∷ u)) v b = never trailing m t b
          go (got fs []) v b =
              let n : length fs ≡ h.frames = series-length (frame_format i limits contact) judged h.frames after fs [] v in
              let q : m ≡ record { time = h.time; frames = fs } = cc in
              record { ends = cc; head = rw q (λ i. record { time = h.time; frames = sym n i }); frames = rw q v }

      -- a body of the head h whose frames are read as x
      frames-ended : (h : BodyHead) (x : Got (List (Frame C))) → ((fs : List (Frame C)) (u : List ℕ) → x ≡ got fs u → length fs ≡ h.frames)
          → summary (and_then (and_then x (λ fs u. got (record { time = h.time; frames = fs }) u)) (ended trailing)) ≡ and_then (skipped x) (λ a u. ended trailing h u)
      unfolding ended
      frames-ended h (got fs []) n = let w : length fs ≡ h.frames = n fs [] refl in λ i. got (record { time = h.time; frames = w i }) []
      frames-ended h (got fs (y ∷ u)) n = refl
      frames-ended h (bad e) n = refl

      pub body_end : (judged : Bool) (l : List ℕ) (h : BodyHead) (t : List ℕ) → (body_head_format i limits).read l ≡ got h t
          → summary (whole_body i limits contact judged l) ≡ and_then ((skip (series (frame_format i limits contact) judged h.frames)).read t) (λ a u. ended trailing h u)
      unfolding body_format
      body_end judged l h t e =
          rw e (frames-ended h ((series (frame_format i limits contact) judged h.frames).read t) (λ fs u. series-length (frame_format i limits contact) judged h.frames t fs u))
