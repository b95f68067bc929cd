-- What this crate's calls answer for the bytes of a frame in a message: where it stands, and the records written of it.
use Rattle.std.specs.Prelude.{ℕ, suc, ◌+◌, ◌*◌, ◌≡◌, false, cond, List, [], ◌∷◌, ◌++◌, leb, length, Option, Some, None}
use Rattle.std.specs.Borrow.{Bor}
use Rattle.paper.specs.Refusals.{no_room}
use Rattle.slices.specs.Writing.{laid, Draft, bytes, refuse, Writes}
use Rattle.slices.specs.declared.Written.{Written}
use Rattle.formats.specs.Format.{got, bad}
use Rattle.formats.specs.Answer.{end_of}
use Rattle.fields.specs.Integers.{taken}
use Rattle.house.specs.Fields.{record_bytes}
use Rattle.house.specs.Layout.{head_bytes}
use Rattle.house.specs.declared.Head.{Head}
use Rattle.house.specs.declared.Contact.{Contact}
use Rattle.framing.specs.Frame.{Frame, head_of}
use Rattle.framing.specs.After.{on_read, after_read}
use Rattle.touch.specs.Touch.{contact, frame_head, frame, touch_record}

-- how many records frames have: each a head and its contacts
unfoldable pub record_count : List (Frame Contact) → ℕ
record_count [] = 0
record_count (f ∷ fs) = suc (length f.contacts) + record_count fs

-- the records of n contacts at the front of l, behind the bytes s: of those before the first that cannot be read, where one cannot
abbrev pub records_read : ℕ → List ℕ → List ℕ → List ℕ
records_read n s l = after_read (λ r c. r ++ touch_record c) (contact taken) n s l

-- the records of a frame, of its head and the bytes l from its first contact on
abbrev pub frame_read : Head → List ℕ → List ℕ
frame_read head l = records_read head.count (head_bytes head) l

-- .. in so much room: 13 where there is too little for as many records as the head says
unfoldable pub frame_draft : ℕ → Head → List ℕ → Draft
frame_draft room head l = cond (leb (record_bytes * (head.count + 1)) room) (bytes (frame_read head l)) (refuse no_room)

-- THE CONTRACT OF WRITING A FRAME
abbrev pub WritesFrame : Head → List ℕ → Written → List ℕ → List ℕ → Type 0
WritesFrame head l w before after = Writes (frame_draft (length before) head l) w before after

-- of n contacts, where there is room for their records: how many bytes were written
pub record WritesContacts (n : ℕ) (l : List ℕ) (r : ℕ) (before after : List ℕ) : Type 0 where
  pub count : r ≡ length (records_read n [] l)
  pub output : after ≡ laid before (records_read n [] l)

-- THE CONTRACT OF FINDING A FRAME at the front of l: its head, the bytes from its first contact on, and those behind its last
abbrev pub FindsFrame : List ℕ → Option (Head × Bor (List ℕ) × Bor (List ℕ)) → Type 0
FindsFrame l (Some (h, cs, t)) =
    (f : Frame Contact) × ((frame taken false).read l ≡ got f t.now) × (h ≡ head_of f) × ((frame_head taken false).read l ≡ got h cs.now)
FindsFrame l None = (e : ℕ) × ((frame taken false).read l ≡ bad e)

-- both are the end of what they are found in
abbrev pub FrameEnds : Bor (List ℕ) → Option (Head × Bor (List ℕ) × Bor (List ℕ)) → Type 0
FrameEnds l (Some (h, cs, t)) = (end_of cs ≡ end_of l) × (end_of t ≡ end_of l)
FrameEnds l None = Unit {0}

-- a frame of no contacts
abbrev pub empty_head : Head
empty_head = record { count = 0; offset = record { 0 = 0 } }

-- the head of the frame at the front of l, and what is behind it; a head that cannot be read is one of no contact, and nothing is passed
abbrev pub head_in : List ℕ → Head
head_in l = on_read empty_head (λ h t. h) ((frame_head taken false).read l)

abbrev pub contacts_in : List ℕ → List ℕ
contacts_in l = on_read l (λ h t. t) ((frame_head taken false).read l)
