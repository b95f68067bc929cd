-- DEMAND 1: "The receiver, the plain reading and the writers take every input, end, and refuse bad ones by a number from document 01. A refusal
-- changes no contact, no setting and not one byte of the lent output." That each call takes every input and ends is what the checker accepts
-- of a function with no `requires`; what each can refuse with, and what a refusal leaves, is here, of any outcome that the call's contract
-- allows.
use Rattle.std.specs.Prelude.{ℕ, ◌≡◌, true, List, [], ◌∷◌, ℤ, nat_abs}
use Rattle.paper.specs.Refusals.{none, short, too_long, unexpected, bad_length, truncated, not_shortest, bad_count, bad_field, bad_flags, bad_range, bad_offset, trailing, no_room, bad_record}
use Rattle.paper.specs.declared.Milliseconds.{Milliseconds}
use Rattle.slices.specs.Writing.{Draft, bytes, Writes}
use Rattle.slices.specs.declared.Written.{Written}
use Rattle.integers.specs.Integer.{draft}
use Rattle.integers.specs.Shape.{minus}
use Rattle.house.specs.Layout.{head_bytes, contact_bytes}
use Rattle.house.specs.declared.Head.{Head}
use Rattle.house.specs.declared.Contact.{Contact}
use Rattle.messages.specs.Header.{one_of}
use Rattle.messages.specs.Bodies.{server_ready_draft, client_ready_draft, suspend_draft, resume_draft, dismiss_draft}
use Rattle.messages.specs.declared.Ready.{Ready}
use Rattle.reading.specs.Plain.{ReadsPlainly, ReadsStrictly, refusal as plain_refusal}
use Rattle.reading.specs.declared.PlainAnswer.{PlainAnswer}
use Rattle.writing.specs.TouchDraft.{touch_draft}
use Rattle.receiver.specs.Receive.{Receives, refusal as receiver_refusal}
use Rattle.receiver.specs.declared.Receiver.{Receiver}
use Rattle.receiver.specs.declared.Received.{Received}
use Rattle.receiver.specs.declared.Answer.{Answer}

-- ---- "Refusal numbers and their order": a call gives no number but these

-- "The integer writers check 10, then 13."
abbrev pub integer_numbers : List ℕ
integer_numbers = bad_range ∷ no_room ∷ []

-- "The touch writer .. checks 10 (encodeTime), 14 over all records, 7, 2, 13."
abbrev pub touch_numbers : List ℕ
touch_numbers = bad_range ∷ bad_record ∷ bad_count ∷ too_long ∷ no_room ∷ []

-- "The ready writers check 8, then 13; the others 13."
abbrev pub ready_numbers : List ℕ
ready_numbers = bad_field ∷ no_room ∷ []

abbrev pub room_numbers : List ℕ
room_numbers = no_room ∷ []

-- "The plain reading .. doesn't apply 11"; 14 is a writer's; #104: "6 is no longer given by the receiver or the plain reading"
abbrev pub plain_numbers : List ℕ
plain_numbers = short ∷ too_long ∷ unexpected ∷ bad_length ∷ truncated ∷ bad_count ∷ bad_field ∷ bad_flags ∷ bad_range ∷ trailing ∷ no_room ∷ []

-- "A strict reading with 6 stays"
abbrev pub strict_numbers : List ℕ
strict_numbers = not_shortest ∷ plain_numbers

abbrev pub receiver_numbers : List ℕ
receiver_numbers = bad_offset ∷ plain_numbers

-- ---- "A refusal answers its number with all other fields 0; the receiver, mode and first-frame mark included, and the output stay as they
-- were."

-- of a writer
pub record Unwritten (numbers : List ℕ) (w : Written) (before after : List ℕ) : Type 0 where
  pub number : one_of numbers w.refusal ≡ true
  pub others : w.bytes ≡ 0
  pub output : after ≡ before

-- of the plain reading, or the strict one
pub record Unread (numbers : List ℕ) (a : PlainAnswer) (before after : List ℕ) : Type 0 where
  pub number : one_of numbers a.refusal ≡ true
  pub others : a ≡ plain_refusal a.refusal
  pub output : after ≡ before

-- of the receiver r, which is q after it
pub record Unchanged (r : Receiver) (before : List ℕ) (q : Receiver) (a : Answer) (after : List ℕ) : Type 0 where
  pub number : one_of receiver_numbers a.refusal ≡ true
  pub others : a ≡ receiver_refusal a.refusal
  pub receiver : q ≡ r
  pub output : after ≡ before

-- every refusal of a writer whose contract is that of the draft d
abbrev pub Refuses : List ℕ → Draft → Type 0
Refuses numbers d = (w : Written) (before after : List ℕ) → Writes d w before after → (w.refusal ≡ none → ⊥) → Unwritten numbers w before after

-- ---- THE DEMAND, call by call: each field is named after the call whose contract it has, at any arguments. The calls for C have the contracts
-- of those that they are named after, and `lent::receive_lent` has that of `receive`.

pub record EveryRefusal : Type 0 where
  -- the receiver, by value and in place
  pub receive : (r : Receiver) (message before : List ℕ) (x : Received) (after : List ℕ)
      → Receives r message before x.receiver x.answer after → (x.answer.refusal ≡ none → ⊥) → Unchanged r before x.receiver x.answer after
  pub kangirlo-receive : (r : Receiver) (message before : List ℕ) (q : Receiver) (a : Answer) (after : List ℕ)
      → Receives r message before q a after → (a.refusal ≡ none → ⊥) → Unchanged r before q a after
  -- the plain reading, and the strict one
  pub plain : (message : List ℕ) (a : PlainAnswer) (before after : List ℕ) → ReadsPlainly message a before after → (a.refusal ≡ none → ⊥) → Unread plain_numbers a before after
  pub plain_strictly : (message : List ℕ) (a : PlainAnswer) (before after : List ℕ) → ReadsStrictly message a before after → (a.refusal ≡ none → ⊥) → Unread strict_numbers a before after
  -- the writers of integers
  pub write_u2 : (value : ℕ) → Refuses integer_numbers (draft 1 0 0 value)
  pub write_s2 : (value : ℤ) → Refuses integer_numbers (draft 1 1 (minus value) (nat_abs value))
  pub write_u4 : (value : ℕ) → Refuses integer_numbers (draft 2 0 0 value)
  pub write_s4 : (value : ℤ) → Refuses integer_numbers (draft 2 1 (minus value) (nat_abs value))
  pub write_u8 : (value : ℕ) → Refuses integer_numbers (draft 3 0 0 value)
  -- of records
  pub write_head : (head : Head) → Refuses room_numbers (bytes (head_bytes head))
  pub write_contact : (kind : ℕ) (contact : Contact) → Refuses room_numbers (bytes (contact_bytes kind contact))
  -- of the six messages
  pub write-server-ready : (version : ℕ) → Refuses ready_numbers (server_ready_draft version)
  pub write-client-ready : (settings : Ready) → Refuses ready_numbers (client_ready_draft settings)
  pub write-touch : (time : Milliseconds) (records : List ℕ) → Refuses touch_numbers (touch_draft time records)
  pub write-suspend : Refuses room_numbers suspend_draft
  pub write-resume : Refuses room_numbers resume_draft
  pub write-dismiss : (id : ℕ) → Refuses room_numbers (dismiss_draft id)
