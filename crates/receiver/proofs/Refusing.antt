-- Which numbers the readers refuse with, and that a refused message is as none.
-- Assumes nothing.
use Prim.Native.Nat.{ℕ}
use mathlib.Core.Path.{◌≡◌, refl}
use mathlib.Core.Bool.{Bool, true, false, cond}
use mathlib.Core.List.{List, [], ◌∷◌, ◌++◌}
use native.Mathlib.Omega.{arith}
use lib.Dec.{eqb, ltb}
use lib.ListN.{length, drop}
use Rattle.paper.specs.Refusals.{none, short, too_long, unexpected, bad_length, truncated, not_shortest, bad_count, bad_field, bad_flags, bad_range, bad_offset, trailing, no_room}
use Rattle.slices.specs.Writing.{laid, Draft, bytes, refuse, left}
use Rattle.formats.specs.Format.{got, bad, whole, byte}
use Rattle.formats.proofs.Refusing.{Tame, Tamed, and-then, by-test, done-tame, field-tame, such-tame, when-tame, series-tame, whole-tame, byte-tame, little-tame}
use Rattle.integers.specs.Integer.{Reading, value, refused, reading_by}
use Rattle.integers.proofs.Laws.{Fault, cut, form, reading-refused}
use Rattle.integers.specs.Shape.{Shape, unsigned, signed}
use Rattle.fields.specs.Integers.{got_by, integer, taken_by, taken}
use Rattle.house.specs.Fits.{no_sides}
use Rattle.messages.specs.Header.{headed, read_message, client_ready, touch, header_bytes, most_bytes, event_of, pdu_length, one_of}
use Rattle.messages.specs.Bodies.{ready_by, ready, ready_flags, version}
use Rattle.house.specs.declared.Contact.{Contact}
use Rattle.well_formed.specs.WellFormed.{has}
use Rattle.framing.specs.Frame.{Frame, head_of}
use Rattle.house.specs.Layout.{contacts_most}
use Rattle.touch.specs.Limits.{most_frames}
use Rattle.framing.specs.Format.{body_format, body_head_format, frame_format, frame_head_format, body_head_of, count_to, offset}
use Rattle.touch.specs.Touch.{optional_of, present, point, flags, sides, orientation, pressure, optional, contact, frame_head, frame, touch_head, body}
use Rattle.touch.specs.Touch as format
use Rattle.stream.specs.Set.{Happening}
use Rattle.receiver.specs.declared.Receiver.{Receiver}
use Rattle.receiver.specs.declared.Answer.{Answer}
use Rattle.receiver.specs.Receive.{judged, takes, body_effect, effect}
use Rattle.receiver.specs.History.{Sent, next, answer_to, wrote, written_by}
use Rattle.receiver.proofs.Became.{Became, became, settles, touches, dismisses}

-- ---- readers refuse with one of 1 to 12: with 6 only strictly, and with 11 only where a first frame's offset is judged

abbrev pub read_numbers : Bool → Bool → List ℕ
read_numbers strictly b =
    short ∷ too_long ∷ unexpected ∷ bad_length ∷ truncated ∷ bad_count ∷ bad_field ∷ bad_flags ∷ bad_range ∷ trailing
    ∷ (cond strictly (not_shortest ∷ []) [] ++ cond b (bad_offset ∷ []) [])

abbrev pub Listed : Bool → Bool → ℕ → Type 0
Listed strictly b e = one_of (read_numbers strictly b) e ≡ true

never : {P : Type 0} → false ≡ true → P
never h = absurd (let z : ◌≡◌ {A = ℕ} 0 1 = cc in omega arith)

-- so never with 13
pub not-room : (b : Bool) → Listed false b no_room → ⊥
unfolding one_of
not-room true h = never h
not-room false h = never h

form-listed : (strictly b : Bool) → strictly ≡ true → Listed strictly b not_shortest
unfolding one_of
form-listed true b e = refl
form-listed false b e = never e

offset-listed : (strictly b : Bool) → b ≡ true → Listed strictly b bad_offset
unfolding one_of
offset-listed true true e = refl
offset-listed false true e = refl
offset-listed strictly false e = never e

module _ (strictly b : Bool) where
  integer-tame : {A : Type 0} (h : Shape A) (k g : ℕ) → Tamed (Listed strictly b) (integer h (reading_by strictly) k g)
  unfolding one_of
  integer-tame h k g = record { tame = λ l. go l (reading_by strictly k g l) refl }
    where
      by : (e : ℕ) → Fault strictly e → Listed strictly b e
      by e (cut w) = rw w refl
      by e (form x w) = rw w (form-listed strictly b x)

      go : (l : List ℕ) (x : Reading) → reading_by strictly k g l ≡ x → Tame (Listed strictly b) (got_by h.made x l)
      go l (value s m n) w = tt
      go l (refused e) w = by e (reading-refused strictly k g l e w)

  u2 : Tamed (Listed strictly b) (taken_by strictly).u2
  u2 = integer-tame unsigned 1 0

  s2 : Tamed (Listed strictly b) (taken_by strictly).s2
  s2 = integer-tame signed 1 1

  u4 : Tamed (Listed strictly b) (taken_by strictly).u4
  u4 = integer-tame unsigned 2 0

  s4 : Tamed (Listed strictly b) (taken_by strictly).s4
  s4 = integer-tame signed 2 1

  u8 : Tamed (Listed strictly b) (taken_by strictly).u8
  u8 = integer-tame unsigned 3 0

  -- ---- the touch message

  point-tame : Tamed (Listed strictly b) (point (taken_by strictly))
  unfolding point
  point-tame = field-tame (Listed strictly b) _ (λ p. p.x) _ s4 λ x. field-tame (Listed strictly b) _ (λ p. p.y) _ s4 λ y. done-tame (Listed strictly b) _

  sides-tame : Tamed (Listed strictly b) (sides (taken_by strictly))
  unfolding sides
  sides-tame =
      field-tame (Listed strictly b) _ (λ s. s.left) _ s2 λ m.
      field-tame (Listed strictly b) _ (λ s. s.top) _ s2 λ n.
      field-tame (Listed strictly b) _ (λ s. s.right) _ s2 λ o.
      field-tame (Listed strictly b) _ (λ s. s.bottom) _ s2 λ p.
      done-tame (Listed strictly b) _

  optional-tame : (p : ℕ) → Tamed (Listed strictly b) (optional (taken_by strictly) p)
  unfolding optional one_of
  optional-tame p =
      field-tame (Listed strictly b) _ (λ o. o.sides) _ (when-tame (Listed strictly b) (sides (taken_by strictly)) no_sides (has 1 p) sides-tame) λ s.
      field-tame (Listed strictly b) _ (λ o. o.orientation) _ (when-tame (Listed strictly b) (orientation (taken_by strictly)) 0 (has 2 p) (such-tame (Listed strictly b) _ _ bad_range refl u4)) λ a.
      field-tame (Listed strictly b) _ (λ o. o.pressure) _ (when-tame (Listed strictly b) (pressure (taken_by strictly)) 0 (has 4 p) (such-tame (Listed strictly b) _ _ bad_range refl u4)) λ r.
      done-tame (Listed strictly b) _

  contact-tame : Tamed (Listed strictly b) (contact (taken_by strictly))
  unfolding contact one_of
  contact-tame =
      field-tame (Listed strictly b) _ (λ c. c.id) _ (byte-tame (Listed strictly b) refl) λ id.
      field-tame (Listed strictly b) (present (taken_by strictly)) (λ c. c.present) _ (such-tame (Listed strictly b) _ _ bad_field refl u2) λ p.
      field-tame (Listed strictly b) _ (λ c. c.place) _ point-tame λ place.
      field-tame (Listed strictly b) (flags (taken_by strictly)) (λ c. c.flags) _ (such-tame (Listed strictly b) _ _ bad_flags refl u4) λ f.
      field-tame (Listed strictly b) _ optional_of _ (optional-tame p) λ o.
      done-tame (Listed strictly b) _

  -- 11 of the first frame, where it is judged
  offset-tame : (first : Bool) → (first ≡ true → Listed strictly b bad_offset) → Tamed (Listed strictly b) (offset (taken_by strictly) first)
  offset-tame true h = such-tame (Listed strictly b) _ _ bad_offset (h refl) u8
  offset-tame false h = u8

  frame-head-tame : (first : Bool) → (first ≡ true → Listed strictly b bad_offset) → Tamed (Listed strictly b) (frame_head (taken_by strictly) first)
  unfolding frame_head_format one_of
  frame-head-tame first k =
      field-tame (Listed strictly b) (count_to (taken_by strictly) contacts_most) (λ h. h.count) _ (such-tame (Listed strictly b) _ _ bad_count refl u2) λ n.
      field-tame (Listed strictly b) (offset (taken_by strictly) first) (λ h. h.offset.0) _ (offset-tame first k) λ o.
      done-tame (Listed strictly b) _

  frame-tame : (first : Bool) → (first ≡ true → Listed strictly b bad_offset) → Tamed (Listed strictly b) (frame (taken_by strictly) first)
  unfolding frame_format
  frame-tame first k =
      field-tame (Listed strictly b) (frame_head (taken_by strictly) first) head_of _ (frame-head-tame first k) λ h.
      field-tame (Listed strictly b) _ (λ f. f.contacts) _ (series-tame (Listed strictly b) (λ i. contact (taken_by strictly)) false h.count contact-tame contact-tame) λ cs.
      done-tame (Listed strictly b) _

  touch-head-tame : Tamed (Listed strictly b) (touch_head (taken_by strictly))
  unfolding body_head_format one_of
  touch-head-tame =
      field-tame (Listed strictly b) _ (λ h. h.time.0) _ u4 λ t.
      field-tame (Listed strictly b) (count_to (taken_by strictly) most_frames) (λ h. h.frames) _ (such-tame (Listed strictly b) _ _ bad_count refl u2) λ n.
      done-tame (Listed strictly b) _

  touch-tame : Tamed (Listed strictly b) (format.touch (taken_by strictly) b)
  unfolding body_format
  touch-tame =
      field-tame (Listed strictly b) (touch_head (taken_by strictly)) body_head_of _ touch-head-tame λ h.
      field-tame (Listed strictly b) _ (λ m. m.frames) _ (series-tame (Listed strictly b) (frame (taken_by strictly)) b h.frames (frame-tame b (offset-listed strictly b)) (frame-tame false never)) λ fs.
      done-tame (Listed strictly b) _

  body-tame : (l : List ℕ) → Tame (Listed strictly b) (body (taken_by strictly) b l)
  unfolding one_of
  body-tame = whole-tame (Listed strictly b) (format.touch (taken_by strictly) b) trailing refl touch-tame

  -- ---- the other messages, and the header

  ready-tame : Tamed (Listed strictly b) ready
  unfolding ready_by one_of
  ready-tame =
      field-tame (Listed strictly b) ready_flags (λ r. r.flags) _ (such-tame (Listed strictly b) _ _ bad_field refl (little-tame (Listed strictly b) refl 4)) λ f.
      field-tame (Listed strictly b) version (λ r. r.version) _ (such-tame (Listed strictly b) _ _ bad_field refl (little-tame (Listed strictly b) refl 4)) λ v.
      field-tame (Listed strictly b) _ (λ r. r.most) _ (little-tame (Listed strictly b) refl 2) λ m.
      done-tame (Listed strictly b) _

  pub headed-tame : (events l : List ℕ) → Tame (Listed strictly b) (headed events l)
  unfolding headed one_of
  headed-tame events l =
      by-test (Listed strictly b) (ltb (length l) header_bytes) (bad short) _ refl
      (by-test (Listed strictly b) (ltb most_bytes (length l)) (bad too_long) _ refl
      (by-test (Listed strictly b) (one_of events (event_of l)) _ (bad unexpected)
      (by-test (Listed strictly b) (eqb (pdu_length l) (length l)) (got (event_of l) (drop header_bytes l)) (bad bad_length) tt refl)
      refl))

-- a touch message that is read by itself
pub message-tame : (strictly b : Bool) (l : List ℕ) → Tame (Listed strictly b) (read_message touch (format.touch (taken_by strictly) b) l)
unfolding read_message
message-tame strictly b l = and-then (Listed strictly b) (headed (touch ∷ []) l) _ (headed-tame strictly b (touch ∷ []) l) (λ x t. body-tame strictly b t)

-- what a receiver is given
pub effect-tame : (r : Receiver) (l : List ℕ) → Tame (Listed false (judged r)) (effect r l)
unfolding effect one_of
effect-tame r l = and-then (Listed false (judged r)) (headed (takes r) l) (body_effect r) (headed-tame false (judged r) (takes r) l) by
  where
    by : (e : ℕ) (t : List ℕ) → Tame (Listed false (judged r)) (body_effect r e t)
    by e t =
        by-test (Listed false (judged r)) (eqb e client_ready) _ _
        (and-then (Listed false (judged r)) (whole ready trailing t) _ (whole-tame (Listed false (judged r)) ready trailing refl (ready-tame false (judged r)) t) (λ s u. tt))
        (by-test (Listed false (judged r)) (eqb e touch) _ _
        (and-then (Listed false (judged r)) (body taken (judged r) t) _ (body-tame false (judged r) t) (λ m u. tt))
        (and-then (Listed false (judged r)) (whole byte trailing t) _ (whole-tame (Listed false (judged r)) byte trailing refl (byte-tame (Listed false (judged r)) refl) t) (λ id u. tt)))

-- ---- a refused message of a history

became-none : (r : Receiver) (l : List ℕ) {q : Receiver} {s : List ℕ} {a : Answer} {fs : List (Frame Contact)} {ds : List (Happening Contact)} → Became r l q s a fs ds → (a.refusal ≡ none → ⊥) → (q ≡ r) × (s ≡ [])
became-none r l (Became.refused n) u = (refl, refl)
became-none r l (settles s o) u = absurd (u refl)
became-none r l (touches m t o e) u = absurd (u refl)
became-none r l (dismisses id t o e) u = absurd (u refl)

pub refused-as-none : (r : Receiver) (x : Sent) → ((answer_to r x).refusal ≡ none → ⊥) → (next r x ≡ r) × (wrote r x ≡ [])
refused-as-none r x = became-none r x.message (became r x)

-- what is left in the output is what was written, laid over it
pub left_laid : (before : List ℕ) (d : Draft) → left before d ≡ laid before (written_by d)
left_laid before (bytes s) = refl
left_laid before (refuse n) = refl
