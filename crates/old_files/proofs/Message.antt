-- What the older receiver makes of one message, beside what today's makes of it.
-- Assumes nothing.
use Prim.Native.Nat.{ℕ, ◌*◌, ◌≤◌}
use mathlib.Core.Path.{◌≡◌, refl, sym, ap, subst, ◌∙◌}
use mathlib.Core.Bool.{Bool, true, false, cond}
use mathlib.Core.List.{List, [], ◌∷◌, append-nil}
use native.Mathlib.Omega.{arith}
use lib.Dec.{eqb, leb}
use lib.ListN.{length, take, drop}
use Rattle.paper.specs.Refusals.{none, no_room, trailing}
use Rattle.digits.specs.Digits.{Bytes}
use Rattle.formats.specs.Format.{Got, got, bad, and_then, whole, byte}
use Rattle.formats.proofs.Laws.{never}
use Rattle.fields.specs.Integers.{taken}
use Rattle.house.specs.Fields.{record_bytes}
use Rattle.house.specs.Records as house
use Rattle.house.specs.declared.Contact.{Contact}
use Rattle.messages.specs.Header.{headed, header_bytes, client_ready, touch}
use Rattle.messages.specs.Bodies.{ready}
use Rattle.messages.specs.declared.Ready.{Ready}
use Rattle.messages.proofs.Laws.{headed-got}
use Rattle.framing.specs.Frame.{Frame, timed_frames}
use Rattle.framing.proofs.Timed.{timed-contacts}
use Rattle.framing.proofs.Limits.{NoneOver, body-under}
use Rattle.touch.specs.Limits.{touch_limits}
use Rattle.touch.specs.Touch.{Touch, contact, body}
use Rattle.stream.specs.Asked.{All}
use Rattle.receiver.specs.Receive.{Effect, judged, untimed, takes, settled, touched, dismissed_by, body_effect, body_effect_by, effect, refusal, answer_of, receiver_after, answer_after}
use Rattle.receiver.specs.Events.{Gives}
use Rattle.receiver.specs.History.{records_in, touch_in, frames_of}
use Rattle.receiver.specs.declared.Receiver.{Receiver}
use Rattle.receiver.specs.declared.Answer.{Answer}
use Rattle.receiver.proofs.Invariants.{Kept}
use Rattle.demands.specs.Histories.{Call, records_left}
use Rattle.demands.proofs.Made.{touched-made, dismissed-made}
use Rattle.old_heads.specs.OldHeads.{old_contacts_most, old_file}
use Rattle.old_files.specs.OldReceiver.{old_limits, old_body, in_old_layout, old_effect}
use Rattle.old_files.proofs.Laid.{Stands, Few, few-stand}

-- ---- the body of a touch message

few-all : (fs : List (Frame Contact)) → NoneOver old_contacts_most fs → All Few fs
few-all [] h = tt
few-all (f ∷ fs) h = (h.0, few-all fs h.1)

-- at most 63 are at most n, if n is no less
none_over : (n : ℕ) → old_contacts_most ≤ n → (fs : List (Frame Contact)) → All Few fs → NoneOver n fs
none_over n l [] h = tt
none_over n l (f ∷ fs) h = (omega (arith, l, h.0), none_over n l fs h.1)

few-timed : (untimed : Bool) (fs : List (Frame Contact)) → All Few fs → All Few (timed_frames untimed fs)
unfolding timed_frames
few-timed untimed [] h = tt
few-timed untimed (f ∷ fs) h = (rw (timed-contacts untimed f) h.0, few-timed untimed fs h.1)

-- what was read has frames of up to 63, and is read today
read-on : (first : Bool) (b : List ℕ) (m : Touch) (t : List ℕ) → old_body first b ≡ got m t → All Few m.frames × (body taken first b ≡ got m t)
read-on first b m t e =
    let u = body-under taken old_limits touch_limits (contact taken) refl first b m t e in
    let f = few-all m.frames u.0 in
    (f, u.1 (none_over _ (omega arith) m.frames f))

-- what is read today was read, if it has no other frames
read-before : (first : Bool) (b : List ℕ) (m : Touch) (t : List ℕ) → body taken first b ≡ got m t → All Few m.frames → old_body first b ≡ got m t
read-before first b m t e f = (body-under taken touch_limits old_limits (contact taken) refl first b m t e).1 (none_over _ (omega arith) m.frames f)

-- ---- the effects: today's, the older one, and the touch message as it is read today

pub data Beside : Got Effect → Got Effect → Got Touch → Type 0 where
  alike : (x : Got Effect) (g : Got Touch) → Beside x x g
  -- refused by the older receiver alone: for a frame that it did not take
  fewer : (n : ℕ) (x : Got Effect) (g : Got Touch) → ((e : Effect) (t : List ℕ) → x ≡ got e t → All Few (frames_of g) → ⊥) → Beside x (bad n) g

abbrev older : Got Effect → Got Effect
older x = and_then x (λ e t. got (in_old_layout e) t)

-- an effect whose bytes are as they were laid out
effect-stands : (e : Effect) (t : List ℕ) (g : Got Touch) → Stands e.bytes → Beside (got e t) (older (got e t)) g
unfolding old_file house.records_in house.records_from
effect-stands e t g h =
    let s : old_file (records_in e.bytes) ≡ e.bytes = ap (λ (l : List ℕ). old_file (records_in l)) (sym (append-nil e.bytes)) ∙ h [] ∙ append-nil e.bytes in
    let w : got e t ≡ got (in_old_layout e) t = λ i. got (record { receiver = e.receiver; counts = e.counts; time = e.time; bytes = sym s i }) t in
    subst (λ (y : Got Effect). Beside (got e t) y g) w (alike (got e t) g)

module _ (r : Receiver) (l : List ℕ) (b : Bytes l) (k : Kept r) where
  abbrev rest : List ℕ
  rest = drop header_bytes l

  ready-beside : (x : Got Ready) (g : Got Touch) → let y = and_then x (λ s t. got (settled r s) t) in Beside y (older y) g
  ready-beside (bad n) g = alike (bad n) g
  ready-beside (got s t) g = effect-stands (settled r s) t g (λ u. refl)

  dismiss-beside : (x : Got ℕ) (g : Got Touch) → let y = and_then x (λ id t. got (dismissed_by r id) t) in Beside y (older y) g
  dismiss-beside (bad n) g = alike (bad n) g
  dismiss-beside (got id t) g = effect-stands (dismissed_by r id) t g (dismissed-made few-stand r id k)

  abbrev touching : Got Touch → Got Effect
  touching x = and_then x (λ m t. got (touched r m) t)

  -- a body that was refused is refused, or has a frame over 63
  not-few : (n : ℕ) (x : Got Touch) → body taken (judged r) rest ≡ x → old_body (judged r) rest ≡ bad n → (e : Effect) (t : List ℕ) → touching x ≡ got e t → All Few (frames_of x) → ⊥
  not-few n (bad j) hx hy e t w f = never j e t w
  not-few n (got m u) hx hy e t w f = never n m u (sym hy ∙ read-before (judged r) rest m u hx f)

  touch-beside : (y : Got Touch) → old_body (judged r) rest ≡ y → Beside (touching (body taken (judged r) rest)) (older (touching y)) (body taken (judged r) rest)
  touch-beside (bad n) hy = fewer n _ _ (not-few n (body taken (judged r) rest) refl hy)
  touch-beside (got m t) hy =
      let o = read-on (judged r) rest m t hy in
      let s = touched-made few-stand r l m t b k o.1 (few-timed (untimed r) m.frames o.0) in
      rw o.1 (effect-stands (touched r m) t (got m t) s)

  -- the effect of a body, by whether it is a client ready's and whether it is a touch message, which is read so
  abbrev body_of : Bool → Bool → Got Touch → Got Effect
  body_of p q y = cond p (and_then (whole ready trailing rest) (λ s t. got (settled r s) t)) (cond q (touching y) (and_then (whole byte trailing rest) (λ id t. got (dismissed_by r id) t)))

  body-beside : (p q : Bool) → Beside (body_of p q (body taken (judged r) rest)) (older (body_of p q (old_body (judged r) rest))) (cond q (body taken (judged r) rest) (bad none))
  body-beside true q = ready-beside (whole ready trailing rest) _
  body-beside false true = touch-beside (old_body (judged r) rest) refl
  body-beside false false = dismiss-beside (whole byte trailing rest) (bad none)

  pub beside : Beside (effect r l) (old_effect r l) (touch_in r l)
  unfolding effect old_effect touch_in
  beside = go (headed (takes r) l) refl
    where
      go : (x : Got ℕ) → headed (takes r) l ≡ x → Beside (and_then x (body_effect r)) (older (and_then x (body_effect_by old_body r))) (and_then x (λ e u. cond (eqb e touch) (body taken (judged r) u) (bad none)))
      go (bad n) h = alike (bad n) (bad n)
      go (got e u) h = rw (← (headed-got (takes r) l e u h).body) (body-beside (eqb e client_ready) (eqb e touch))

-- ---- the calls: the same receiver, and the same records

-- a refused call leaves the receiver, and no record
refused-leaves : (r : Receiver) (n : ℕ) (c : Call) → c.receiver ≡ r → c.answer ≡ refusal n → (c.receiver ≡ r) × (records_left c ≡ [])
unfolding records_left
refused-leaves r n c k a = (k, ap (λ (v : Answer). take (record_bytes * v.records) c.after) a)

module _ (r : Receiver) (before : List ℕ) where
  abbrev Answers : Got Effect → Call → Type 0
  Answers x c = Gives r x before (record { receiver = c.receiver; answer = c.answer }) c.after

  -- .. and so does one that would be accepted with a frame over 63 alone, where no such frame is accepted
  fewer-leaves : (x : Got Effect) (g : Got Touch) → ((e : Effect) (t : List ℕ) → x ≡ got e t → All Few (frames_of g) → ⊥) → (c : Call) → Answers x c
      → All Few (cond (eqb c.answer.refusal none) (frames_of g) []) → (c.receiver ≡ r) × (records_left c ≡ [])
  unfolding receiver_after answer_after
  fewer-leaves (bad n) g over c u f = refused-leaves r n c u.kept u.answered
  fewer-leaves (got e t) g over c u f = go (leb (length e.bytes) (length before)) u.kept u.answered
    where
      go : (b : Bool) → c.receiver ≡ cond b e.receiver r → c.answer ≡ cond b (answer_of e) (refusal no_room) → (c.receiver ≡ r) × (records_left c ≡ [])
      go true k a = absurd (over e t refl (subst (λ (v : Answer). All Few (cond (eqb v.refusal none) (frames_of g) [])) a f))
      go false k a = refused-leaves r no_room c k a

  pub calls-alike : {x y : Got Effect} {g : Got Touch} → Beside x y g → (c d : Call) → Answers x c → Answers y d → All Few (cond (eqb c.answer.refusal none) (frames_of g) [])
      → (c.receiver ≡ d.receiver) × (records_left c ≡ records_left d)
  unfolding records_left receiver_after answer_after
  calls-alike (alike x g) c d u v f =
      let a : c.answer ≡ d.answer = u.answered ∙ sym v.answered in
      let o : c.after ≡ d.after = u.output ∙ sym v.output in
      (u.kept ∙ sym v.kept, λ i. take (record_bytes * (a i).records) (o i))
  calls-alike (fewer n x g over) c d u v f =
      let p = fewer-leaves x g over c u f in
      let q = refused-leaves r n d v.kept v.answered in
      (p.0 ∙ sym q.0, p.1 ∙ sym q.1)
