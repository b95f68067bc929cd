-- Document 01, "Messages" and "House records": frames of contacts, and their records. C is what a contact of the message is.
use Rattle.std.specs.Prelude.{ℕ, Bool, cond, List, [], ◌∷◌, ◌++◌, map, eqb, length}
use Rattle.paper.specs.declared.Milliseconds.{Milliseconds}
use Rattle.paper.specs.declared.Microseconds.{Microseconds}
use Rattle.house.specs.Layout.{head_bytes}
use Rattle.house.specs.declared.Head.{Head}

-- a frame: microseconds since the frame before it, and its contacts
pub record Frame (C : Type 0) : Type 0 where
  pub offset : Microseconds
  pub contacts : List C

-- a message's body: milliseconds, and frames
pub record Body (C : Type 0) : Type 0 where
  pub time : Milliseconds
  pub frames : List (Frame C)

-- what stands before a frame's contacts
abbrev pub head_of : {C : Type 0} → Frame C → Head
head_of f = record { count = length f.contacts; offset = f.offset }

-- a frame of a client that sends no offsets
abbrev pub without_offset : {C : Type 0} → Frame C → Frame C
without_offset f = record { offset = record { 0 = 0 }; contacts = f.contacts }

-- "With ready flag 2 set, .. the receiver .. writes offset 0": frames as they are written
abbrev pub timed_frame : {C : Type 0} → Bool → Frame C → Frame C
timed_frame untimed f = cond untimed (without_offset f) f

unfoldable pub timed_frames : {C : Type 0} → Bool → List (Frame C) → List (Frame C)
timed_frames untimed fs = map (timed_frame untimed) fs

-- the first-frame mark after a message of so many frames: one with a frame sets it
abbrev pub begun_by : {M : Type 0} → M → M → ℕ → M
begun_by set begun frames = cond (eqb frames 0) begun set

-- ---- "One head record, then its contacts in message order. An empty frame gives its head."

-- over the record of one contact
module _ {C : Type 0} (record_of : C → List ℕ) where
  unfoldable pub contacts_bytes : List C → List ℕ
  contacts_bytes [] = []
  contacts_bytes (c ∷ cs) = record_of c ++ contacts_bytes cs

  unfoldable pub frame_bytes : Frame C → List ℕ
  frame_bytes f = head_bytes (head_of f) ++ contacts_bytes f.contacts

  unfoldable pub frames_bytes : List (Frame C) → List ℕ
  frames_bytes [] = []
  frames_bytes (f ∷ fs) = frame_bytes f ++ frames_bytes fs
