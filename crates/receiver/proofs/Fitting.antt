-- Every head and every contact of a touch message that is read fits its record.
-- Assumes nothing.
use Prim.Native.Nat.{ℕ, zero, suc}
use mathlib.Core.Path.{◌≡◌, refl}
use mathlib.Core.Bool.{Bool, false}
use mathlib.Core.List.{List, []}
use Rattle.digits.specs.Digits.{Bytes}
use Rattle.formats.specs.Format.{Got, got, bad, Format, read_series}
use Rattle.formats.proofs.Laws.{Sound, never, more-got}
use Rattle.fields.specs.Integers.{taken}
use Rattle.fields.proofs.Laws.{taken-law, taken-range}
use Rattle.house.specs.declared.Contact.{Contact}
use Rattle.framing.specs.Frame.{Frame, head_of}
use Rattle.framing.specs.Format.{body_format}
use Rattle.touch.specs.Touch.{Touch, contact, frame, touch_head, body}
use Rattle.framing.specs.declared.BodyHead.{BodyHead}
use Rattle.framing.proofs.Laws.{frame-head-law, frame-law, body-head-law}
use Rattle.framing.proofs.Reading.{body-got, frame-got}
use Rattle.touch.specs.Limits.{touch_limits}
use Rattle.touch.proofs.Laws.{contact-law}
use Rattle.touch.proofs.Ranges.{ContactRead, contact-read, frame-fits}
use Rattle.stream.specs.Asked.{All, FrameFits}

module _ {A : Type 0} (f : Bool → Format A) (P : A → Type 0) (sound : (b : Bool) → Sound (f b))
    (each : (b : Bool) (l : List ℕ) (a : A) (t : List ℕ) → Bytes l → (f b).read l ≡ got a t → P a) where
  all_read : (first : Bool) (n : ℕ) (l : List ℕ) (s : List A) (t : List ℕ) → Bytes l → read_series (λ b. (f b).read) first n l ≡ got s t → All P s
  unfolding read_series
  all_read first zero l s t hl e = let z : s ≡ [] = cc in rw z tt
  all_read first (suc n) l s t hl e =
      let m = more-got f first n l s t e in
      rw m.all (each first l m.head m.after hl m.one, all_read false n m.after m.rest t (sound first l m.head m.after hl m.one).1 m.others)

frame-read : (judged : Bool) (l : List ℕ) (f : Frame Contact) (t : List ℕ) → Bytes l → (frame taken judged).read l ≡ got f t → FrameFits ContactRead f
frame-read judged l f t hl e =
    let g = frame-got taken touch_limits (contact taken) judged l f t e in
    let ha = ((frame-head-law taken taken-law touch_limits judged).sound l (head_of f) g.after hl g.head).1 in
    record {
      head = frame-fits taken taken-range taken-law judged l f t hl e;
      contacts =
          all_read (λ b. contact taken) ContactRead (λ b. (contact-law taken taken-law).sound) (λ b l c t hl e. contact-read taken taken-range taken-law l c t hl e)
          false _ g.after f.contacts t ha g.contacts;
    }

pub body-read : (judged : Bool) (l : List ℕ) (m : Touch) (t : List ℕ) → Bytes l → body taken judged l ≡ got m t → All (FrameFits ContactRead) m.frames
unfolding body_format
body-read judged l m t hl e = go ((touch_head taken).read l) refl
  where
    go : (x : Got BodyHead) → (touch_head taken).read l ≡ x → All (FrameFits ContactRead) m.frames
    go (bad n) h = never n m t (rw h at e)
    go (got k after) h =
        let b = body-got taken touch_limits (contact taken) judged l m t k after e h in
        let ha = ((body-head-law taken taken-law touch_limits).sound l k after hl h).1 in
        all_read (frame taken) (FrameFits ContactRead) (λ b. (frame-law taken taken-law touch_limits (contact taken) (contact-law taken taken-law) b).sound) frame-read judged k.frames after m.frames [] ha b.frames
