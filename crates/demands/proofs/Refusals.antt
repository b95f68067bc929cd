-- Demand 1: of each call, which numbers its draft can refuse with, and that a refusal leaves everything as it was.
-- Assumes nothing.
use Prim.Native.Nat.{ℕ}
use mathlib.Core.Path.{◌≡◌, refl, sym, ap, ◌∙◌}
use mathlib.Core.Bool.{Bool, true, false, cond}
use mathlib.Core.List.{List, [], ◌∷◌, map}
use native.Mathlib.Omega.{arith}
use lib.Dec.{leb, ltb, eqb}
use lib.IntN.{nat_abs}
use lib.ListN.{length}
use borrow.Author.Tests.{eqb-true}
use Rattle.paper.specs.Refusals.{none, no_room}
use Rattle.paper.specs.declared.Milliseconds.{Milliseconds}
use Rattle.slices.specs.Writing.{Draft, bytes, refuse, given, answered, left}
use Rattle.slices.specs.declared.Written.{Written}
use Rattle.formats.specs.Format.{Got, got, bad}
use Rattle.formats.proofs.Refusing.{Tame}
use Rattle.integers.specs.Integer.{limit, draft}
use Rattle.integers.specs.Shape.{minus}
use Rattle.house.specs.declared.Contact.{Contact}
use Rattle.well_formed.specs.WellFormed.{all}
use Rattle.well_formed.proofs.WellFormed.{all_split}
use Rattle.messages.specs.Header.{one_of, most_bytes}
use Rattle.messages.specs.Bodies.{version_listed, flags_listed, server_ready_draft, client_ready_draft, suspend_draft, resume_draft, dismiss_draft}
use Rattle.messages.specs.declared.Ready.{Ready}
use Rattle.framing.specs.Frame.{Frame}
use Rattle.touch.specs.Limits.{most_frames}
use Rattle.touch.specs.Touch.{Touch}
use Rattle.reading.specs.Plain.{read_by, draft_of, time_of, ReadsBy, refusal as plain_refusal, answered as plain_answered}
use Rattle.reading.specs.declared.PlainAnswer.{PlainAnswer}
use Rattle.writing.specs.TouchDraft.{message_of, frames_draft, checked_frames, touch_draft, draft_of as touch_draft_of}
use Rattle.writing.proofs.Checked.{checked-tame}
use Rattle.receiver.specs.Receive.{Effect, judged, effect, answer_of, receiver_after, answer_after, Receives, draft_of as effect_draft, refusal as receiver_refusal}
use Rattle.receiver.specs.declared.Receiver.{Receiver}
use Rattle.receiver.specs.declared.Answer.{Answer}
use Rattle.receiver.proofs.Refusing.{read_numbers, Listed, message-tame, effect-tame}
use Rattle.demands.specs.Refusing.{integer_numbers, touch_numbers, ready_numbers, room_numbers, plain_numbers, strict_numbers, receiver_numbers, Unwritten, Unread, Unchanged, Refuses, EveryRefusal}

-- ---- the writers

-- a draft's refusal is one of these
abbrev Within : List ℕ → Draft → Type 0
Within numbers (bytes s) = Unit {0}
Within numbers (refuse e) = one_of numbers e ≡ true

module _ (numbers : List ℕ) where
  by-test : (b : Bool) (d e : Draft) → Within numbers d → Within numbers e → Within numbers (cond b d e)
  by-test true d e h k = h
  by-test false d e h k = k

  -- room asked, 13 is among them
  given-within : (d : Draft) (room : ℕ) → one_of numbers no_room ≡ true → Within numbers d → Within numbers (given room d)
  unfolding given
  given-within (bytes s) room h k = by-test (leb (length s) room) (bytes s) (refuse no_room) tt h
  given-within (refuse e) room h k = k

  a-writer's-refusal-changes-nothing : (d : Draft) → one_of numbers no_room ≡ true → Within numbers d → Refuses numbers d
  a-writer's-refusal-changes-nothing d h k w before after c u = go (given (length before) d) refl (given-within d (length before) h k)
    where
      go : (x : Draft) → given (length before) d ≡ x → Within numbers x → Unwritten numbers w before after
      go (bytes s) e i = absurd (u (ap (λ (v : Written). v.refusal) (c.answer ∙ ap answered e)))
      go (refuse n) e i =
          let a = c.answer ∙ ap answered e in
          let m : w.refusal ≡ n = ap (λ (v : Written). v.refusal) a in
          record { number = rw m i; others = ap (λ (v : Written). v.bytes) a; output = c.output ∙ ap (left before) e }

integer-refuses : (k g s m : ℕ) → Refuses integer_numbers (draft k g s m)
unfolding draft one_of
integer-refuses k g s m = a-writer's-refusal-changes-nothing integer_numbers (draft k g s m) refl (by-test integer_numbers (ltb m (limit k g)) _ _ tt refl)

-- bytes are refused for lack of room alone
bytes-refuse : (s : List ℕ) → Refuses room_numbers (bytes s)
unfolding one_of
bytes-refuse s = a-writer's-refusal-changes-nothing room_numbers (bytes s) refl tt

server-ready-refuses : (version : ℕ) → Refuses ready_numbers (server_ready_draft version)
unfolding server_ready_draft one_of
server-ready-refuses version = a-writer's-refusal-changes-nothing ready_numbers (server_ready_draft version) refl (by-test ready_numbers (version_listed version) _ _ tt refl)

client-ready-refuses : (settings : Ready) → Refuses ready_numbers (client_ready_draft settings)
unfolding client_ready_draft one_of
client-ready-refuses r =
    a-writer's-refusal-changes-nothing ready_numbers (client_ready_draft r) refl
    (by-test ready_numbers (flags_listed r.flags) _ _ (by-test ready_numbers (version_listed r.version) _ _ tt refl) refl)

touch-refuses : (time : Milliseconds) (records : List ℕ) → Refuses touch_numbers (touch_draft time records)
unfolding touch_draft frames_draft one_of
touch-refuses time records =
    a-writer's-refusal-changes-nothing touch_numbers (touch_draft time records) refl
    (by (checked_frames time records) (checked-tame time records _ refl refl))
  where
    by : (x : Got (List (Frame Contact))) → Tame (λ e. one_of touch_numbers e ≡ true) x → Within touch_numbers (touch_draft_of time x)
    by (bad e) h = h
    by (got fs t) h =
        by-test touch_numbers (leb (length fs) most_frames) _ _
        (by-test touch_numbers (leb (length (message_of time fs)) most_bytes) _ _ tt refl) refl

suspend-refuses : Refuses room_numbers suspend_draft
unfolding suspend_draft
suspend-refuses = bytes-refuse _

resume-refuses : Refuses room_numbers resume_draft
unfolding resume_draft
resume-refuses = bytes-refuse _

dismiss-refuses : (id : ℕ) → Refuses room_numbers (dismiss_draft id)
unfolding dismiss_draft
dismiss-refuses id = bytes-refuse _

-- ---- the readings

-- what is one of few is one of more, which have all of them
one-of-more : (few more : List ℕ) → all (map (one_of more) few) ≡ true → (n : ℕ) → one_of few n ≡ true → one_of more n ≡ true
unfolding one_of
one-of-more [] more h n e = absurd (let z : ◌≡◌ {A = ℕ} 0 1 = cc in omega arith)
one-of-more (x ∷ few) more h n e = go (eqb n x) refl e (one-of-more few more (all_split _ _ h).1 n)
  where
    go : (b : Bool) → eqb n x ≡ b → cond b true (one_of few n) ≡ true → (one_of few n ≡ true → one_of more n ≡ true) → one_of more n ≡ true
    go true w e k = rw (eqb-true n x w) (all_split _ _ h).0
    go false w e k = k e

-- a reading's numbers, strictly or not
abbrev reading_numbers : Bool → List ℕ
reading_numbers strictly = cond strictly strict_numbers plain_numbers

reading-listed : (strictly : Bool) (n : ℕ) → Listed strictly false n → one_of (reading_numbers strictly) n ≡ true
unfolding one_of all
reading-listed true = one-of-more (read_numbers true false) strict_numbers refl
reading-listed false = one-of-more (read_numbers false false) plain_numbers refl

receiver-listed : (b : Bool) (n : ℕ) → Listed false b n → one_of receiver_numbers n ≡ true
unfolding one_of all
receiver-listed true = one-of-more (read_numbers false true) receiver_numbers refl
receiver-listed false = one-of-more (read_numbers false false) receiver_numbers refl

room-listed : (strictly : Bool) → one_of (reading_numbers strictly) no_room ≡ true
unfolding one_of
room-listed true = refl
room-listed false = refl

-- ---- the plain reading, and the strict one

module _ (strictly : Bool) where
  draft-within : (x : Got Touch) → Tame (Listed strictly false) x → Within (reading_numbers strictly) (draft_of x)
  draft-within (got m t) h = tt
  draft-within (bad e) h = reading-listed strictly e h

  reading-refuses : (l : List ℕ) (a : PlainAnswer) (before after : List ℕ) → ReadsBy strictly l a before after → (a.refusal ≡ none → ⊥) → Unread (reading_numbers strictly) a before after
  reading-refuses l a before after h u =
      go (given (length before) (draft_of x)) refl (given-within (reading_numbers strictly) (draft_of x) (length before) (room-listed strictly) (draft-within x (message-tame strictly false l)))
    where
      x : Got Touch
      x = read_by strictly l

      go : (d : Draft) → given (length before) (draft_of x) ≡ d → Within (reading_numbers strictly) d → Unread (reading_numbers strictly) a before after
      go (bytes s) e i = absurd (u (ap (λ (v : PlainAnswer). v.refusal) (h.answer ∙ ap (plain_answered (time_of x)) e)))
      go (refuse n) e i =
          let q = h.answer ∙ ap (plain_answered (time_of x)) e in
          let m : a.refusal ≡ n = ap (λ (v : PlainAnswer). v.refusal) q in
          record { number = rw m i; others = q ∙ ap plain_refusal (sym m); output = h.output ∙ ap (left before) e }

-- ---- the receiver

refused-by : (r : Receiver) (before : List ℕ) (x : Got Effect) → Tame (Listed false (judged r)) x → ((answer_after x (length before)).refusal ≡ none → ⊥)
    → Unchanged r before (receiver_after r x (length before)) (answer_after x (length before)) (left before (given (length before) (effect_draft x)))
unfolding receiver_after answer_after given one_of
refused-by r before (bad n) h u = record { number = receiver-listed (judged r) n h; others = refl; receiver = refl; output = refl }
refused-by r before (got e t) h u = go (leb (length e.bytes) (length before)) u
  where
    go : (b : Bool) → ((cond b (answer_of e) (receiver_refusal no_room)).refusal ≡ none → ⊥)
        → Unchanged r before (cond b e.receiver r) (cond b (answer_of e) (receiver_refusal no_room)) (left before (cond b (bytes e.bytes) (refuse no_room)))
    go true u = absurd (u refl)
    go false u = record { number = refl; others = refl; receiver = refl; output = refl }

receiver-refuses : (r : Receiver) (message before : List ℕ) (q : Receiver) (a : Answer) (after : List ℕ) → Receives r message before q a after → (a.refusal ≡ none → ⊥) → Unchanged r before q a after
receiver-refuses r message before q a after h u =
    rw (h.kept, h.answered, h.output) (refused-by r before (effect r message) (effect-tame r message) (λ z. u (ap (λ (b : Answer). b.refusal) h.answered ∙ z)))

-- ---- the demand

pub every-refusal : EveryRefusal
every-refusal =
    record {
      receive = λ r message before x. receiver-refuses r message before x.receiver x.answer;
      kangirlo-receive = receiver-refuses;
      plain = reading-refuses false;
      plain_strictly = reading-refuses true;
      write_u2 = integer-refuses 1 0 0;
      write_s2 = λ z. integer-refuses 1 1 (minus z) (nat_abs z);
      write_u4 = integer-refuses 2 0 0;
      write_s4 = λ z. integer-refuses 2 1 (minus z) (nat_abs z);
      write_u8 = integer-refuses 3 0 0;
      write_head = λ head. bytes-refuse _;
      write_contact = λ kind contact. bytes-refuse _;
      write-server-ready = server-ready-refuses;
      write-client-ready = client-ready-refuses;
      write-touch = touch-refuses;
      write-suspend = suspend-refuses;
      write-resume = resume-refuses;
      write-dismiss = dismiss-refuses;
    }
