-- A frame is found by its head and what is behind its contacts; where either cannot be read there is none.
-- Assumes nothing.
use Prim.Native.Nat.{ℕ, ◌+◌, ◌-◌, ◌<◌}
use mathlib.Core.Path.{◌≡◌, refl, sym, ap, ◌∙◌}
use mathlib.Core.Bool.{false}
use mathlib.Core.List.{List, ◌∷◌}
use lib.ListN.{length}
use native.Mathlib.Omega.{arith}
use Rattle.std.specs.Prelude.{Some, None, Result, Ok, Err}
use Rattle.std.specs.Result.{result_ok}
use Rattle.std.specs.Borrow.{Bor}
use Rattle.std.proofs.lemmas.Option.{none-some}
use Rattle.formats.specs.Format.{Got, got, bad, and_then, times, read_series}
use Rattle.formats.specs.Answer.{read_of, left_of, skip, skipped}
use Rattle.paper.specs.Refusals.{number}
use Rattle.paper.specs.declared.Refusal.{Refusal}
use Rattle.formats.proofs.Laws.{never, series-length, next-got}
use Rattle.fields.specs.Integers.{taken}
use Rattle.house.specs.declared.Head.{Head}
use Rattle.house.specs.declared.Contact.{Contact}
use Rattle.framing.specs.Frame.{Frame, head_of}
use Rattle.framing.specs.Format.{frame_format}
use Rattle.touch.specs.Touch.{contact, frame_head, frame}
use Rattle.touch.proofs.Passes.{frame_by}
use Rattle.frame_records.specs.Frames.{FindsFrame}

-- ---- answers, taken without their refusals

pub read-some : {A : Type 0} (x : Got A) (r : Result (A × Bor (List ℕ)) Refusal) (a : A) (t : Bor (List ℕ)) → read_of r ≡ x → Some (a, t) ≡ result_ok r → x ≡ got a t.now
read-some {A} x (Ok (b, u)) a t h e = let p : ◌≡◌ {A = A × Bor (List ℕ)} (a, t) (b, u) = cc in sym h ∙ sym (ap (λ (y : A × Bor (List ℕ)). got y.0 y.1.now) p)
read-some x (Err f) a t h e = absurd (none-some _ (sym e))

pub read-none : {A : Type 0} (x : Got A) (r : Result (A × Bor (List ℕ)) Refusal) → read_of r ≡ x → None ≡ result_ok r → (e : ℕ) × (x ≡ bad e)
read-none x (Ok p) h e = absurd (none-some _ e)
read-none x (Err f) h e = (number f, sym h)

pub left-some : (x : Got (Unit {0})) (r : Result (Bor (List ℕ)) Refusal) (t : Bor (List ℕ)) → left_of r ≡ x → Some t ≡ result_ok r → x ≡ got tt t.now
left-some x (Ok u) t h e = let p : t ≡ u = cc in sym h ∙ sym (ap (λ (y : Bor (List ℕ)). got tt y.now) p)
left-some x (Err f) t h e = absurd (none-some _ (sym e))

pub left-none : (x : Got (Unit {0})) (r : Result (Bor (List ℕ)) Refusal) → left_of r ≡ x → None ≡ result_ok r → (e : ℕ) × (x ≡ bad e)
left-none x (Ok u) h e = absurd (none-some _ e)
left-none x (Err f) h e = (number f, sym h)

-- ---- a frame

-- the frame of a head and of contacts
abbrev made : Head → List Contact → Frame Contact
made h cs = record { offset = h.offset; contacts = cs }

-- a frame is its head and then as many contacts
of-head : (l : List ℕ) (h : Head) (s : List ℕ) → (frame_head taken false).read l ≡ got h s → frame_by false l ≡ and_then ((times h.count (contact taken)).read s) (λ cs t. got (made h cs) t)
unfolding frame_format
of-head l h s w = rw w

-- no head
pub headless : (l : List ℕ) (e : ℕ) → (frame_head taken false).read l ≡ bad e → frame_by false l ≡ bad e
unfolding frame_format
headless l e w = rw w

module _ (l : List ℕ) (h : Head) (s : List ℕ) (w : (frame_head taken false).read l ≡ got h s) where
  -- no contacts
  pub unfinished : (e : ℕ) → (skip (times h.count (contact taken))).read s ≡ bad e → frame_by false l ≡ bad e
  unfinished e v = of-head l h s w ∙ go ((times h.count (contact taken)).read s) v
    where
      go : (x : Got (List Contact)) → skipped x ≡ bad e → and_then x (λ cs t. got (made h cs) t) ≡ bad e
      go (got cs t) k = never e tt t (sym k)
      go (bad y) k = let z : y ≡ e = cc in ap bad z

  pub complete : (t : List ℕ) → (skip (times h.count (contact taken))).read s ≡ got tt t → (f : Frame Contact) × (frame_by false l ≡ got f t) × (h ≡ head_of f) × ((frame_head taken false).read l ≡ got h s)
  complete t v = go ((times h.count (contact taken)).read s) refl v
    where
      go : (x : Got (List Contact)) → (times h.count (contact taken)).read s ≡ x → skipped x ≡ got tt t
          → (f : Frame Contact) × (frame_by false l ≡ got f t) × (h ≡ head_of f) × ((frame_head taken false).read l ≡ got h s)
      go (bad y) k v = never y tt t v
      go (got cs u) k v =
          let n : length cs ≡ h.count = series-length (λ b. contact taken) false h.count s cs u k in
          let z : u ≡ t = cc in
          (made h cs, of-head l h s w ∙ ap (λ x. and_then x (λ cs t. got (made h cs) t)) k ∙ ap (got (made h cs)) z, λ i. record { count = sym n i; offset = h.offset }, w)

-- ---- a pass over frames, one found where the one before it ended

module _ (l : List ℕ) (h : Head) (s t : Bor (List ℕ)) (here : FindsFrame l (Some (h, s, t))) where
  -- the frame that is next of those to come
  pub record Turn (u : List ℕ) (j : ℕ) (more : List (Frame Contact)) : Type 0 where
    pub frame : Frame Contact
    pub head : h ≡ head_of frame
    pub contacts : (times h.count (contact taken)).read s.now ≡ got frame.contacts t.now
    pub others : List (Frame Contact)
    pub all : more ≡ frame ∷ others
    pub after : read_series frame_by false j t.now ≡ got others u

  -- its contacts are where it was found
  found : (f : Frame Contact) → frame_by false l ≡ got f t.now → (times h.count (contact taken)).read s.now ≡ got f.contacts t.now
  found f e = go ((times h.count (contact taken)).read s.now) refl (sym (of-head l h s.now here.3) ∙ e)
    where
      go : (x : Got (List Contact)) → (times h.count (contact taken)).read s.now ≡ x → and_then x (λ cs v. got (made h cs) v) ≡ got f t.now → (times h.count (contact taken)).read s.now ≡ got f.contacts t.now
      go (bad y) k v = never y f t.now v
      go (got cs v) k e =
          let a : made h cs ≡ f = cc in
          let b : v ≡ t.now = cc in
          k ∙ ap (λ (g : Frame Contact). got g.contacts v) a ∙ ap (got f.contacts) b

  pub turn : (u : List ℕ) (k j : ℕ) (more : List (Frame Contact)) → k ≡ j + 1 → read_series frame_by false k l ≡ got more u → Turn u j more
  turn u k j more i e =
      let m = next-got (frame taken) false k l more u (omega arith) e in
      let p : got m.head m.after ≡ got here.0 t.now = sym m.one ∙ here.1 in
      let x : m.head ≡ here.0 = cc in
      let y : m.after ≡ t.now = cc in
      let fewer : k - 1 ≡ j = omega arith in
      record {
        frame = here.0;
        head = here.2;
        contacts = found here.0 here.1;
        others = m.rest;
        all = rw x at m.all;
        after = rw (y, fewer) at m.others;
      }

-- a frame that cannot be read is none of those to come
pub no-turn : {A : Type 0} (l : List ℕ) (e : ℕ) (u : List ℕ) (k : ℕ) (more : List (Frame Contact)) → 0 < k → frame_by false l ≡ bad e → read_series frame_by false k l ≡ got more u → A
no-turn l e u k more h b w = let m = next-got (frame taken) false k l more u h w in never e m.head m.after (sym b ∙ m.one)
