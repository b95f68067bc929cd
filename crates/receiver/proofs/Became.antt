-- What becomes of one message: it is refused, or it is a client ready, a touch or a dismissal that is accepted.
-- Assumes nothing.
use Prim.Native.Nat.{ℕ}
use mathlib.Core.Path.{◌≡◌, refl, sym, ◌∙◌}
use mathlib.Core.Bool.{Bool, true, false, cond}
use mathlib.Core.List.{List, [], ◌∷◌}
use lib.Dec.{eqb, leb}
use lib.ListN.{length, drop}
use borrow.Author.Tests.{eqb-true}
use Rattle.paper.specs.Refusals.{none, no_room, trailing}
use Rattle.slices.specs.Writing.{bytes, refuse, given}
use Rattle.formats.specs.Format.{Got, got, bad, and_then, whole, byte}
use Rattle.fields.specs.Integers.{taken}
use Rattle.messages.specs.Header.{one_of, headed, header_bytes, client_ready, touch, dismiss}
use Rattle.messages.specs.Bodies.{ready}
use Rattle.messages.specs.declared.Ready.{Ready}
use Rattle.messages.proofs.Laws.{one-of-one, one-of-later, headed-got}
use Rattle.house.specs.declared.Contact.{Contact}
use Rattle.well_formed.proofs.WellFormed.{never}
use Rattle.framing.specs.Frame.{Frame}
use Rattle.touch.specs.Touch.{Touch, body}
use Rattle.stream.specs.Set.{Happening, dismissing}
use Rattle.receiver.specs.declared.Receiver.{Receiver}
use Rattle.receiver.specs.declared.Answer.{Answer}
use Rattle.receiver.specs.Receive.{judged, takes, Effect, settled, touched, dismissed_by, body_effect, effect, draft_of, refusal, answer_of, receiver_after, answer_after}
use Rattle.channel.specs.Marks.{off}
use Rattle.receiver.specs.History.{Sent, next, answer_to, wrote, written_by, touch_in, frames_of, frames_taken, dismiss_in, dismissal_of}

-- ---- before its room is asked: what it does, the touch message that it is, and what happens by the dismissal that it is

pub data Does (r : Receiver) (l : List ℕ) : Got Effect → Got Touch → List (Happening Contact) → Type 0 where
  fails : (n k : ℕ) → Does r l (bad n) (bad k) []
  settles : (s : Ready) (t : List ℕ) (k : ℕ) → off r.ready ≡ true → Does r l (got (settled r s) t) (bad k) []
  touches : (m : Touch) (t : List ℕ) → off r.ready ≡ false → body taken (judged r) (drop header_bytes l) ≡ got m t → Does r l (got (touched r m) t) (got m t) []
  dismisses : (id : ℕ) (t : List ℕ) (k : ℕ) → off r.ready ≡ false → whole byte trailing (drop header_bytes l) ≡ got id t → Does r l (got (dismissed_by r id) t) (bad k) (dismissing id ∷ [])

-- "The receiver takes event 2 until it accepts one, then only 3 and 6."
takes-ready : (b : Bool) → one_of (cond b (client_ready ∷ []) (touch ∷ dismiss ∷ [])) client_ready ≡ true → b ≡ true
unfolding one_of
takes-ready true h = refl
takes-ready false h = h

takes-touch : (b : Bool) → one_of (cond b (client_ready ∷ []) (touch ∷ dismiss ∷ [])) touch ≡ true → b ≡ false
unfolding one_of
takes-touch true h = sym h
takes-touch false h = refl

takes-other : (b : Bool) (e : ℕ) → eqb e client_ready ≡ false → eqb e touch ≡ false → one_of (cond b (client_ready ∷ []) (touch ∷ dismiss ∷ [])) e ≡ true → (b ≡ false) × (e ≡ dismiss)
takes-other true e p q h = never h (one-of-one client_ready e ∙ p)
takes-other false e p q h = (refl, eqb-true e dismiss (sym (one-of-one dismiss e) ∙ (sym (one-of-later touch (dismiss ∷ []) e q) ∙ h)))

module _ (r : Receiver) (l : List ℕ) where
  settles-by : (x : Got Ready) → off r.ready ≡ true → Does r l (and_then x (λ s t. got (settled r s) t)) (bad none) []
  settles-by (bad n) o = fails n none
  settles-by (got s t) o = settles s t none o

  touches-by : (x : Got Touch) → off r.ready ≡ false → body taken (judged r) (drop header_bytes l) ≡ x → Does r l (and_then x (λ m t. got (touched r m) t)) x []
  touches-by (bad n) o h = fails n n
  touches-by (got m t) o h = touches m t o h

  dismisses-by : (x : Got ℕ) → off r.ready ≡ false → whole byte trailing (drop header_bytes l) ≡ x → Does r l (and_then x (λ id t. got (dismissed_by r id) t)) (bad none) (dismissal_of x)
  dismisses-by (bad n) o h = fails n none
  dismisses-by (got id t) o h = dismisses id t none o h

  abbrev touch_by : ℕ → List ℕ → Got Touch
  touch_by e b = cond (eqb e touch) (body taken (judged r) b) (bad none)

  abbrev dismiss_by : ℕ → List ℕ → Got ℕ
  dismiss_by e b = cond (eqb e dismiss) (whole byte trailing b) (bad none)

  by-event : (e : ℕ) → one_of (takes r) e ≡ true → (p q : Bool) → eqb e client_ready ≡ p → eqb e touch ≡ q → let b = drop header_bytes l in Does r l (body_effect r e b) (touch_by e b) (dismissal_of (dismiss_by e b))
  by-event e k true q hp hq =
      let z : e ≡ client_ready = eqb-true _ _ hp in
      let o = takes-ready (off r.ready) (rw z at k) in
      rw z (settles-by (whole ready trailing (drop header_bytes l)) o)
  by-event e k false true hp hq =
      let z : e ≡ touch = eqb-true _ _ hq in
      let o = takes-touch (off r.ready) (rw z at k) in
      rw z (touches-by (body taken (judged r) (drop header_bytes l)) o refl)
  by-event e k false false hp hq =
      let o = takes-other (off r.ready) e hp hq k in
      rw o.1 (dismisses-by (whole byte trailing (drop header_bytes l)) o.0 refl)

  pub does : Does r l (effect r l) (touch_in r l) (dismissal_of (dismiss_in r l))
  unfolding effect touch_in dismiss_in
  does = go (headed (takes r) l) refl
    where
      go : (x : Got ℕ) → headed (takes r) l ≡ x → Does r l (and_then x (body_effect r)) (and_then x touch_by) (dismissal_of (and_then x dismiss_by))
      go (bad n) h = fails n n
      go (got e b) h =
          let k = headed-got (takes r) l e b h in
          rw (← k.body) (by-event e k.takes (eqb e client_ready) (eqb e touch) refl refl)

-- ---- lent some room: the receiver, the bytes written, the answer, the frames accepted and what happens beside them

pub data Became (r : Receiver) (l : List ℕ) : Receiver → List ℕ → Answer → List (Frame Contact) → List (Happening Contact) → Type 0 where
  refused : (n : ℕ) → Became r l r [] (refusal n) [] []
  settles : (s : Ready) → off r.ready ≡ true → Became r l (settled r s).receiver [] (answer_of (settled r s)) [] []
  touches : (m : Touch) (t : List ℕ) → off r.ready ≡ false → body taken (judged r) (drop header_bytes l) ≡ got m t
      → Became r l (touched r m).receiver (touched r m).bytes (answer_of (touched r m)) m.frames []
  dismisses : (id : ℕ) (t : List ℕ) → off r.ready ≡ false → whole byte trailing (drop header_bytes l) ≡ got id t
      → Became r l (dismissed_by r id).receiver (dismissed_by r id).bytes (answer_of (dismissed_by r id)) [] (dismissing id ∷ [])

module _ (r : Receiver) (l : List ℕ) (room : ℕ) where
  abbrev BecameBy : Got Effect → Got Touch → List (Happening Contact) → Type 0
  BecameBy x g ds =
      let a : Answer = answer_after x room in
      Became r l (receiver_after r x room) (written_by (given room (draft_of x))) a (cond (eqb a.refusal none) (frames_of g) []) (cond (eqb a.refusal none) ds [])

  none-either : {A : Type 0} (b : Bool) → ◌≡◌ {A = List A} (cond b [] []) []
  none-either true = refl
  none-either false = refl

  of-bad : (n k : ℕ) → BecameBy (bad n) (bad k) []
  unfolding receiver_after answer_after given
  of-bad n k = rw (none-either {A = Frame Contact} (eqb n none), none-either {A = Happening Contact} (eqb n none)) (refused n)

  abbrev OfRoom : Effect → List (Frame Contact) → List (Happening Contact) → Bool → Type 0
  OfRoom e fs ds b =
      let a : Answer = cond b (answer_of e) (refusal no_room) in
      Became r l (cond b e.receiver r) (written_by (cond b (bytes e.bytes) (refuse no_room))) a (cond (eqb a.refusal none) fs []) (cond (eqb a.refusal none) ds [])

  of_room : (e : Effect) (fs : List (Frame Contact)) (ds : List (Happening Contact)) → Became r l e.receiver e.bytes (answer_of e) fs ds → (b : Bool) → OfRoom e fs ds b
  of_room e fs ds h true = h
  of_room e fs ds h false = refused no_room

  of-got : (e : Effect) (t : List ℕ) (g : Got Touch) (ds : List (Happening Contact)) → Became r l e.receiver e.bytes (answer_of e) (frames_of g) ds → BecameBy (got e t) g ds
  unfolding receiver_after answer_after given
  of-got e t g ds h = of_room e (frames_of g) ds h (leb (length e.bytes) room)

  of-does : {x : Got Effect} {g : Got Touch} {ds : List (Happening Contact)} → Does r l x g ds → BecameBy x g ds
  of-does (fails n k) = of-bad n k
  of-does (Does.settles s t k o) = of-got (settled r s) t (bad k) [] (settles s o)
  of-does (Does.touches m t o h) = of-got (touched r m) t (got m t) [] (touches m t o h)
  of-does (Does.dismisses id t k o h) = of-got (dismissed_by r id) t (bad k) (dismissing id ∷ []) (dismisses id t o h)

pub became : (r : Receiver) (x : Sent) → Became r x.message (next r x) (wrote r x) (answer_to r x) (frames_taken r x) (cond (eqb (answer_to r x).refusal none) (dismissal_of (dismiss_in r x.message)) [])
unfolding next wrote answer_to frames_taken
became r x = of-does r x.message x.room (does r x.message)
