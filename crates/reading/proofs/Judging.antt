-- A message is judged by its header and then its body: what the answers for the two say of the whole.
-- Assumes nothing.
use Prim.Native.Nat.{ℕ}
use mathlib.Core.Path.{◌≡◌, sym, ◌∙◌}
use mathlib.Core.Bool.{Bool, true, false}
use mathlib.Core.List.{List, [], ◌∷◌}
use Rattle.std.specs.Prelude.{Result, Ok, Err}
use Rattle.std.specs.Borrow.{Bor}
use Rattle.paper.specs.Refusals.{number, not_shortest}
use Rattle.paper.specs.declared.Refusal.{Refusal}
use Rattle.formats.specs.Format.{Got, got, bad, read_series, series}
use Rattle.formats.proofs.Laws.{never}
use Rattle.formats.proofs.Agreeing.{Agree, refuses, same, series-agrees}
use Rattle.fields.specs.Integers.{taken_by, strict, taken}
use Rattle.house.specs.declared.Contact.{Contact}
use Rattle.messages.specs.Header.{headed, read_message}
use Rattle.messages.specs.Header as event
use Rattle.messages.proofs.Laws.{headed_same}
use Rattle.framing.specs.Frame.{Frame}
use Rattle.framing.specs.Format.{summary}
use Rattle.framing.specs.declared.BodyHead.{BodyHead}
use Rattle.touch.specs.Touch.{Touch, frame, body}
use Rattle.touch.proofs.Agreeing.{strict-frame-agrees}
use Rattle.touch_frames.specs.Checks.{Checks}
use Rattle.touch_frames.proofs.Passes.{checked}
use Rattle.reading.specs.Plain.{read_by}
use Rattle.reading.specs.Passes.{frames, Judges}

refused-of : (e : ℕ) (x : Got Touch) → bad e ≡ summary x → x ≡ bad e
refused-of e (bad y) h = cc
refused-of e (got m t) h = never e _ t h

-- frames that were read strictly are read so leniently
frames-taken : (strictly : Bool) (n : ℕ) (l : List ℕ) (fs : List (Frame Contact)) (t : List ℕ) → read_series (λ b. (frame (taken_by strictly) b).read) false n l ≡ got fs t → (frames n).read l ≡ got fs t
frames-taken true n l fs t e = go ((series-agrees (frame strict) (frame taken) false n strict-frame-agrees).agree l)
  where
    go : Agree not_shortest ((series (frame strict) false n).read l) ((frames n).read l) → (frames n).read l ≡ got fs t
    go (refuses w) = never not_shortest fs t (sym w ∙ e)
    go (same w) = sym w ∙ e
frames-taken false n l fs t e = e

module _ (strictly : Bool) (l : List ℕ) where
  -- a header that is refused
  pub header-refused : (e : ℕ) → bad e ≡ headed (event.touch ∷ event.touch ∷ []) l → read_by strictly l ≡ bad e
  unfolding read_message
  header-refused e h = rw (sym (headed_same event.touch l) ∙ sym h)

  -- a message whose header is accepted is what its body says
  body-of : (x : ℕ) (b : List ℕ) → got x b ≡ headed (event.touch ∷ event.touch ∷ []) l → read_by strictly l ≡ body (taken_by strictly) false b
  unfolding read_message
  body-of x b h = rw (sym (headed_same event.touch l) ∙ sym h)

  pub body-judged : (x : ℕ) (b : List ℕ) (r : Result (BodyHead × Bor (List ℕ)) Refusal) → got x b ≡ headed (event.touch ∷ event.touch ∷ []) l → Checks strictly false b r → Judges strictly l r
  body-judged x b (Ok (h, t)) w c =
      let k = checked strictly false b h t c in
      record {
        message = k.message;
        read = body-of x b w ∙ k.read;
        head = k.head;
        frames = frames-taken strictly h.frames t.now k.message.frames [] k.frames;
      }
  body-judged x b (Err e) w c = body-of x b w ∙ refused-of (number e) _ c.same
