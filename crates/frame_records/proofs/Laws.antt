-- How long the records of frames are, that those of a run of frames are those of its parts, and those of contacts as they are read.
-- Assumes nothing.
use Prim.Native.Nat.{ℕ, zero, suc, ◌+◌, ◌-◌, ◌*◌, ◌≤◌, ◌<◌}
use mathlib.Core.Path.{◌≡◌, refl, sym, ap, ◌∙◌}
use mathlib.Core.Bool.{Bool, true, false, cond}
use mathlib.Core.List.{List, [], ◌∷◌, ◌++◌, append_assoc, append-nil}
use native.Mathlib.Omega.{arith}
use borrow.Author.Tests.{le-leb, lt-leb, leb-false}
use lib.Dec.{leb}
use lib.ListN.{length, length-append}
use Rattle.paper.specs.Refusals.{none, no_room}
use Rattle.slices.specs.Writing.{laid, bytes, refuse, given, answered, left, Writes}
use Rattle.slices.specs.declared.Written.{Written}
use Rattle.slices.proofs.Laws.{given-none, given-refuse, writes_bytes, writes-refuse}
use Rattle.formats.specs.Format.{Got, got, bad, times}
use Rattle.formats.proofs.Laws.{series-length}
use Rattle.fields.specs.Integers.{taken}
use Rattle.house.specs.Layout.{head_bytes, touched}
use Rattle.house.specs.declared.Head.{Head}
use Rattle.house.specs.declared.Contact.{Contact}
use Rattle.house.proofs.Round.{length-head, length-contact}
use Rattle.framing.specs.Frame.{Frame, head_of, contacts_bytes, frame_bytes, frames_bytes}
use Rattle.framing.specs.After.{on_read, after_read}
use Rattle.framing.proofs.After.{read-on, read_all}
use Rattle.touch.specs.Touch.{contact, touch_record}
use Rattle.frame_records.specs.Frames.{record_count, records_read, frame_read, frame_draft, WritesFrame}

-- ---- one more

pub frames-cons : (f : Frame Contact) (fs : List (Frame Contact)) → frames_bytes touch_record (f ∷ fs) ≡ frame_bytes touch_record f ++ frames_bytes touch_record fs
unfolding frames_bytes
frames-cons f fs = refl

pub frames-none : frames_bytes touch_record [] ≡ []
unfolding frames_bytes
frames-none = refl

pub frame_is : (f : Frame Contact) → frame_bytes touch_record f ≡ head_bytes (head_of f) ++ contacts_bytes touch_record f.contacts
unfolding frame_bytes
frame_is f = refl

pub records-cons : (f : Frame Contact) (fs : List (Frame Contact)) → record_count (f ∷ fs) ≡ suc (length f.contacts) + record_count fs
unfolding record_count
records-cons f fs = refl

pub records-none : record_count [] ≡ 0
unfolding record_count
records-none = refl

-- ---- lengths

length-contacts : (cs : List Contact) → length (contacts_bytes touch_record cs) ≡ 21 * length cs
unfolding contacts_bytes
length-contacts [] = refl
length-contacts (c ∷ cs) = rw (length-append, length-contact touched c, length-contacts cs) (omega arith)

-- of n contacts that were read
length-read : (n : ℕ) (l : List ℕ) (cs : List Contact) (t : List ℕ) → (times n (contact taken)).read l ≡ got cs t → length (contacts_bytes touch_record cs) ≡ 21 * n
length-read n l cs t e = length-contacts cs ∙ ap (λ (k : ℕ). 21 * k) (series-length (λ b. contact taken) false n l cs t e)

-- of a head and its contacts that were read
length-written : (h : Head) (l : List ℕ) (cs : List Contact) (t : List ℕ) → (times h.count (contact taken)).read l ≡ got cs t → length (head_bytes h ++ contacts_bytes touch_record cs) ≡ 21 * (h.count + 1)
length-written h l cs t e = rw (length-append, length-head h, length-read h.count l cs t e) (omega arith)

pub length-frame : (f : Frame Contact) → length (frame_bytes touch_record f) ≡ 21 * (length f.contacts + 1)
unfolding frame_bytes
length-frame f = rw (length-append, length-head (head_of f), length-contacts f.contacts) (omega arith)

-- 21 bytes a record
pub length-frames : (fs : List (Frame Contact)) → length (frames_bytes touch_record fs) ≡ 21 * record_count fs
unfolding frames_bytes record_count
length-frames [] = refl
length-frames (f ∷ fs) = rw (length-append, length-frame f, length-frames fs) (omega arith)

-- ---- the records of contacts as they are read

-- those behind s are those behind nothing, with s before them
pub records-behind : (n : ℕ) (a s l : List ℕ) → records_read n (a ++ s) l ≡ a ++ records_read n s l
unfolding after_read
records-behind zero a s l = refl
records-behind (suc n) a s l = go (λ r m. records-behind n a r m) ((contact taken).read l)
  where
    go : ((r m : List ℕ) → records_read n (a ++ r) m ≡ a ++ records_read n r m) → (x : Got Contact)
        → on_read (a ++ s) (λ c m. records_read n ((a ++ s) ++ touch_record c) m) x ≡ a ++ on_read s (λ c m. records_read n (s ++ touch_record c) m) x
    go more (got c m) = ap (λ r. records_read n r m) (append_assoc a s (touch_record c)) ∙ more (s ++ touch_record c) m
    go more (bad e) = refl

-- no more than n
pub records-most : (n : ℕ) (s l : List ℕ) → length (records_read n s l) ≤ length s + 21 * n
unfolding after_read
records-most zero s l = omega arith
records-most (suc n) s l = go (λ r m. records-most n r m) ((contact taken).read l)
  where
    go : ((r m : List ℕ) → length (records_read n r m) ≤ length r + 21 * n) → (x : Got Contact) → length (on_read s (λ c m. records_read n (s ++ touch_record c) m) x) ≤ length s + 21 * suc n
    go more (got c m) = omega (arith, more (s ++ touch_record c) m, length-append s (touch_record c), length-contact touched c)
    go more (bad e) = omega arith

-- behind a head
pub frame-behind : (h : Head) (l : List ℕ) → frame_read h l ≡ head_bytes h ++ records_read h.count [] l
frame-behind h l = ap (λ s. records_read h.count s l) (sym (append-nil (head_bytes h))) ∙ records-behind h.count (head_bytes h) [] l

-- the two ways of writing a frame
pub writes-frame : (h : Head) (l : List ℕ) (w : Written) (before after : List ℕ) → 21 * (h.count + 1) ≤ length before
    → w ≡ record { refusal = none; bytes = length (frame_read h l) } → after ≡ laid before (frame_read h l) → WritesFrame h l w before after
unfolding frame_draft
writes-frame h l w before after r ew ea =
    rw (le-leb (21 * (h.count + 1)) (length before) r) (writes_bytes (frame_read h l) w before after (omega (arith, records-most h.count (head_bytes h) l, length-head h)) ew ea)

pub writes-no-frame : (h : Head) (l : List ℕ) (w : Written) (before after : List ℕ) → length before < 21 * (h.count + 1)
    → w ≡ record { refusal = no_room; bytes = 0 } → after ≡ before → WritesFrame h l w before after
unfolding frame_draft
writes-no-frame h l w before after r ew ea = rw (lt-leb (21 * (h.count + 1)) (length before) r) (writes-refuse no_room w before after ew ea)

-- one more contact
pub records-on : (k : ℕ) (l : List ℕ) (c : Contact) (t : List ℕ) → 0 < k → (contact taken).read l ≡ got c t → records_read k [] l ≡ touch_record c ++ records_read (k - 1) [] t
records-on k l c t h w =
    sym (read-on (λ r d. r ++ touch_record d) (contact taken) [] (touch_record c) k l c t h w refl)
    ∙ ap (λ a. records_read (k - 1) a t) (sym (append-nil (touch_record c))) ∙ records-behind (k - 1) (touch_record c) [] t

-- where all n can be read, they are the records of all
pub records-read : (n : ℕ) (s l : List ℕ) (cs : List Contact) (t : List ℕ) → (times n (contact taken)).read l ≡ got cs t → records_read n s l ≡ s ++ contacts_bytes touch_record cs
unfolding contacts_bytes
records-read n s l cs t e =
    read_all (λ r c. r ++ touch_record c) (contact taken) (λ a ds. a ++ contacts_bytes touch_record ds) append-nil (λ a c ds. sym (append_assoc a (touch_record c) (contacts_bytes touch_record ds))) n s l cs t e

-- a frame whose contacts can all be read is written whole
module _ (h : Head) (l : List ℕ) (cs : List Contact) (t : List ℕ) (e : (times h.count (contact taken)).read l ≡ got cs t) where
  pub drafted-whole : (room : ℕ) → given room (frame_draft room h l) ≡ given room (bytes (head_bytes h ++ contacts_bytes touch_record cs))
  unfolding frame_draft
  drafted-whole room = go (leb (21 * (h.count + 1)) room) refl
    where
      go : (b : Bool) → leb (21 * (h.count + 1)) room ≡ b → given room (cond b (bytes (frame_read h l)) (refuse no_room)) ≡ given room (bytes (head_bytes h ++ contacts_bytes touch_record cs))
      go true q = ap (λ s. given room (bytes s)) (records-read h.count (head_bytes h) l cs t e)
      go false q = given-refuse no_room room ∙ sym (given-none _ room (omega (arith, leb-false (21 * (h.count + 1)) room q, length-written h l cs t e)))

  pub frame-written : (w : Written) (before after : List ℕ) → WritesFrame h l w before after → Writes (bytes (head_bytes h ++ contacts_bytes touch_record cs)) w before after
  frame-written w before after p =
      let q = drafted-whole (length before) in
      record { answer = p.answer ∙ ap answered q; output = p.output ∙ ap (left before) q }
