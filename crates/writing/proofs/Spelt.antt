-- Records as the fields of a message, one after the other: what a loop over them needs.
-- Assumes nothing.
use Prim.Native.Nat.{ℕ, zero, suc, ◌+◌, ◌*◌, ◌/◌, ◌≤◌}
use mathlib.Core.Path.{◌≡◌, refl}
use mathlib.Core.Bool.{false}
use mathlib.Core.List.{List, [], ◌∷◌, ◌++◌, append_assoc, append-nil}
use native.Mathlib.Nat.{zero-add, suc-add}
use native.Mathlib.Omega.{arith}
use lib.Dec.{lit≤, lit<}
use lib.ListN.{length, drop, length-append}
use lib.Seq.{drop_at}
use Rattle.paper.specs.declared.Milliseconds.{Milliseconds}
use Rattle.digits.specs.Digits.{Bytes}
use Rattle.formats.specs.Format.{got, Each, write_series}
use Rattle.fields.specs.Integers.{taken}
use Rattle.house.specs.Layout.{record_of, head_bytes, contact_bytes, touched}
use Rattle.house.specs.declared.Contact.{Contact}
use Rattle.house.specs.declared.Record.{Record}
use Rattle.house.proofs.Round.{length-head, length-contact, record-of-head, record-of-contact}
use Rattle.messages.specs.Header.{header, header_bytes, write_message}
use Rattle.messages.specs.Header as event
use Rattle.framing.specs.Frame.{Frame, head_of, contacts_bytes, frame_bytes, frames_bytes}
use Rattle.framing.specs.Format.{body_format, frame_format}
use Rattle.house.specs.Layout.{contacts_most}
use Rattle.touch.specs.Touch.{contact, frame, touch_record}
use Rattle.recordings.specs.Records.{contact_record, frame_records, frames_in}
use Rattle.writing.specs.TouchDraft.{message_of}
use Rattle.spelling.specs.Spelling.{spelling}
use Rattle.writing.specs.Spelling.{Spells, spelt, Spelt, body_of}
use Rattle.recordings.proofs.Records.{frames-read}
use Rattle.writing.proofs.Held.{contact-writes, head-writes}

-- ---- one record more

pub spelt-none : (n : ℕ) (l : List ℕ) → n ≤ 0 → spelt n l ≡ []
unfolding spelt
spelt-none zero l h = refl
spelt-none (suc n) l h = absurd (omega (arith, h))

-- the record at the front, where there are k: j are behind it
pub record Next (k j : ℕ) (l : List ℕ) : Type 0 where
  pub now : Spells (record_of l)
  pub same : spelt k l ≡ spelling (record_of l) ++ spelt j (drop 21 l)
  pub inside : 21 ≤ length l
  pub others : Spelt j (drop 21 l)

pub next : (k j : ℕ) (l : List ℕ) → k ≡ j + 1 → Spelt k l → Next k j l
unfolding spelt Spelt
next zero j l h s = absurd (omega (arith, h))
next (suc k) j l h s =
    let n : k ≡ j = omega (arith, h) in
    record { now = s.0; same = rw n; inside = s.1; others = rw n at s.2 }

-- ---- the records of frames are spelt as the frames are written

-- n records, all of l, are spelt s
pub record SpeltAs (n : ℕ) (l s : List ℕ) : Type 0 where
  pub same : spelt n l ≡ s
  pub each : Spelt n l
  pub long : length l ≡ n * 21

nothing : SpeltAs 0 [] []
unfolding spelt Spelt
nothing = record { same = refl; each = tt; long = refl }

-- a record in front
one_more : (n : ℕ) (b t s : List ℕ) (r : Record) → length b ≡ 21 → record_of (b ++ t) ≡ r → Spells r → SpeltAs n t s → SpeltAs (suc n) (b ++ t) (spelling r ++ s)
unfolding spelt Spelt
one_more n b t s r long e h k =
    let d = drop_at b t 21 long in
    record {
      same = rw (e, d, k.same);
      each = (rw e h, omega (arith, length-append b t, long), rw d k.each);
      long = omega (arith, length-append b t, long, k.long);
    }

contacts-more : (cs : List Contact) (m n : ℕ) (t s : List ℕ) → Each (λ b. contact_record.Holds) false m cs → SpeltAs n t s
    → SpeltAs (m + n) (contacts_bytes touch_record cs ++ t) (write_series (λ b. (contact taken).write) false cs ++ s)
unfolding contacts_bytes write_series Each
contacts-more [] zero n t s h k = rw zero-add k
contacts-more [] (suc m) n t s h k = absurd h
contacts-more (c ∷ cs) zero n t s h k = absurd h
contacts-more (c ∷ cs) (suc m) n t s h k =
    let r = record-of-contact touched c (contacts_bytes touch_record cs ++ t) (lit≤ tt) (lit< tt) h.0.0 in
    rw (suc-add, append_assoc, append_assoc)
    (one_more (m + n) (contact_bytes touched c) (contacts_bytes touch_record cs ++ t) (write_series (λ b. (contact taken).write) false cs ++ s) (Record.Contact touched c) (length-contact touched c) r (contact-writes c h.0) (contacts-more cs m n t s h.1 k))

frame-more : (f : Frame Contact) (n : ℕ) (t s : List ℕ) → frame_records.Holds f → SpeltAs n t s → SpeltAs (suc (length f.contacts + n)) (frame_bytes touch_record f ++ t) ((frame taken false).write f ++ s)
unfolding frame_bytes frame_format frame_records
frame-more f n t s h k =
    let c = contacts-more f.contacts (length f.contacts) n t s h.1.0 k in
    let r = record-of-head (head_of f) (contacts_bytes touch_record f.contacts ++ t) h.0 in
    rw (append-nil, append_assoc, append_assoc)
    (one_more (length f.contacts + n) (head_bytes (head_of f)) (contacts_bytes touch_record f.contacts ++ t) (write_series (λ b. (contact taken).write) false f.contacts ++ s) (Record.Head (head_of f)) (length-head (head_of f)) r (head-writes (head_of f) h.0) c)

-- how many records
count : List (Frame Contact) → ℕ
count [] = 0
count (f ∷ fs) = suc (length f.contacts + count fs)

frames-spelt : (fs : List (Frame Contact)) (m : ℕ) → Each (λ b. frame_records.Holds) false m fs → SpeltAs (count fs) (frames_bytes touch_record fs) (write_series (λ b. (frame taken b).write) false fs)
unfolding frames_bytes write_series Each count
frames-spelt [] zero h = nothing
frames-spelt [] (suc m) h = absurd h
frames-spelt (f ∷ fs) zero h = absurd h
frames-spelt (f ∷ fs) (suc m) h = frame-more f (count fs) (frames_bytes touch_record fs) (write_series (λ b. (frame taken b).write) false fs) h.0 (frames-spelt fs m h.1)

-- no more than a head for each frame, and as many contacts as a frame can have
count_most : (fs : List (Frame Contact)) (m : ℕ) → Each (λ b. frame_records.Holds) false m fs → count fs ≤ m * (1 + contacts_most)
unfolding Each count frame_records
count_most [] zero h = omega arith
count_most [] (suc m) h = absurd h
count_most (f ∷ fs) zero h = absurd h
count_most (f ∷ fs) (suc m) h = omega (arith, h.0.0.count, count_most fs m h.1)

-- all the records of a slice that is read as frames, and the body that they make
pub record Spelling (time : Milliseconds) (l : List ℕ) (fs : List (Frame Contact)) : Type 0 where
  pub each : Spelt (length l / 21) l
  pub few : length l / 21 ≤ length fs * (1 + contacts_most)
  pub same : message_of time fs ≡ header event.touch (header_bytes + length (body_of time (length fs) (length l / 21) l)) ++ body_of time (length fs) (length l / 21) l

pub spelling-of : (time : Milliseconds) (l : List ℕ) (fs : List (Frame Contact)) (t : List ℕ) → Bytes l → frames_in l ≡ got fs t → Spelling time l fs
unfolding write_message body_format
spelling-of time l fs t b e =
    let r = frames-read l fs t b e in
    let k : SpeltAs (count fs) l (write_series (λ b. (frame taken b).write) false fs) = rw r.same (frames-spelt fs (length fs) r.fit) in
    let n : length l / 21 ≡ count fs = omega (arith, k.long) in
    record { each = rw n k.each; few = rw n (count_most fs (length fs) r.fit); same = rw (n, k.same, append-nil) }
