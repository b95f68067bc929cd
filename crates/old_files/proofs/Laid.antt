-- Records of frames of up to 63 contacts, laid out as they were, are the bytes that they are read in.
-- Assumes nothing.
use Prim.Native.Nat.{ℕ, ◌≤◌, ◌<◌}
use mathlib.Core.Path.{◌≡◌, refl, sym, ap, subst, ◌∙◌}
use mathlib.Core.List.{List, [], ◌∷◌, ◌++◌, append_assoc}
use lib.Dec.{lit<, lit≤}
use native.Mathlib.Omega.{arith}
use lib.ListN.{length}
use lib.Seq.{drop_at}
use Rattle.digits.specs.Digits.{Bytes}
use Rattle.digits.proofs.Laws.{bytes_drop}
use Rattle.house.specs.Fields.{record_bytes}
use Rattle.house.specs.Layout.{touched, cancelled, dismissed, head_in, head_bytes, contact_bytes, record_of, bytes_of}
use Rattle.house.specs.Layout as layout
use Rattle.house.specs.Records as house
use Rattle.house.specs.Fits.{HeadFits, ContactFits}
use Rattle.house.specs.declared.Head.{Head}
use Rattle.house.specs.declared.Contact.{Contact}
use Rattle.house.specs.declared.Record.{Record}
use Rattle.house.specs.declared.Record.TheVariants as Record
use Rattle.house.proofs.Front.{front-is}
use Rattle.house.proofs.Records.{records-one}
use Rattle.house.proofs.Round.{length-head, length-contact, record-of-head, record-of-contact}
use Rattle.well_formed.proofs.Front.{well-alone}
use Rattle.well_formed.proofs.Round.{bytes-of-record}
use Rattle.framing.specs.Frame.{Frame, head_of, contacts_bytes, frame_bytes}
use Rattle.framing.specs.Whole.{Formed, Framed, ends, head, contact, cancel, dismissal}
use Rattle.touch.specs.Touch.{touch_record}
use Rattle.touch.proofs.Ranges.{ContactRead}
use Rattle.stream.specs.Asked.{All, FrameFits}
use Rattle.receiver.specs.History.{records_in}
use Rattle.demands.proofs.Made.{Made}
use Rattle.old_heads.specs.OldHeads.{old_contacts_most, old_bytes_of, old_file}
use Rattle.old_heads.proofs.Heads.{same_bytes}
use Rattle.old_files.specs.Files.{AtMost63}

-- a record at the front that was laid out so, and those behind it
one-laid : (s t : List ℕ) → length s ≡ record_bytes → old_bytes_of (record_of (s ++ t)) ≡ s → old_file (records_in (s ++ t)) ≡ s ++ old_file (records_in t)
unfolding old_file
one-laid s t n e = ap old_file (records-one record_of s t n) ∙ ap (λ (x : List ℕ). x ++ old_file (records_in t)) e

-- ---- a file of whole frames

old-bytes : (r : Record) → AtMost63 r → old_bytes_of r ≡ bytes_of r
unfolding old_bytes_of bytes_of
old-bytes (Record.Head h) c = sym (same_bytes h c)
old-bytes (Record.Contact kind c) a = refl
old-bytes (Record.Refused e) a = refl

formed-laid : (k : ℕ) (s t : List ℕ) → Formed k s → (Bytes t → All AtMost63 (records_in t) → old_file (records_in t) ≡ t) → Bytes (s ++ t) → All AtMost63 (records_in (s ++ t))
    → old_file (records_in (s ++ t)) ≡ s ++ t
formed-laid k s t f behind b a =
    let c = subst (All AtMost63) (records-one record_of s t f.long) a in
    let e = old-bytes (record_of (s ++ t)) c.0 ∙ bytes-of-record (s ++ t) (well-alone s t (omega (arith, f.long)) ∙ f.well) b ∙ front-is s t f.long in
    let bt : Bytes t = subst Bytes (drop_at s t record_bytes f.long) (bytes_drop record_bytes (s ++ t) b) in
    one-laid s t f.long e ∙ ap (λ (u : List ℕ). s ++ u) (behind bt c.1)

pub file-laid : (n : ℕ) (l : List ℕ) → Framed n l → Bytes l → All AtMost63 (records_in l) → old_file (records_in l) ≡ l
unfolding old_file house.records_in house.records_from
file-laid n l ends b a = refl
file-laid n l (head s t f k) b a = formed-laid layout.head s t f (λ c d. file-laid (head_in s).count t k c d) b a
file-laid n l (contact m s t f k) b a = formed-laid touched s t f (λ c d. file-laid m t k c d) b a
file-laid n l (cancel s t f k) b a = formed-laid cancelled s t f (λ c d. file-laid 0 t k c d) b a
file-laid n l (dismissal s t f k) b a = formed-laid dismissed s t f (λ c d. file-laid 0 t k c d) b a

-- ---- what a receiver writes

-- bytes at the front of a file, as they were laid out
abbrev pub Stands : List ℕ → Type 0
Stands s = (t : List ℕ) → old_file (records_in (s ++ t)) ≡ s ++ old_file (records_in t)

-- a frame as it was taken
abbrev pub Few : Frame Contact → Type 0
Few f = length f.contacts ≤ old_contacts_most

head-stands : (h : Head) → HeadFits h → h.count ≤ old_contacts_most → Stands (head_bytes h)
unfolding old_bytes_of
head-stands h f c t = one-laid (head_bytes h) t (length-head h) (ap old_bytes_of (record-of-head h t f) ∙ sym (same_bytes h c))

contact-stands : (k : ℕ) (c : Contact) → 1 ≤ k → k < 4 → ContactFits c → Stands (contact_bytes k c)
unfolding old_bytes_of
contact-stands k c low high f t = one-laid (contact_bytes k c) t (length-contact k c) (ap old_bytes_of (record-of-contact k c t low high f))

both-stand : (a b : List ℕ) → Stands a → Stands b → Stands (a ++ b)
both-stand a b h k t =
    ap (λ (l : List ℕ). old_file (records_in l)) (append_assoc a b t)
    ∙ h (b ++ t)
    ∙ ap (λ (u : List ℕ). a ++ u) (k t)
    ∙ sym (append_assoc a b (old_file (records_in t)))

contacts-stand : (cs : List Contact) → All ContactRead cs → Stands (contacts_bytes touch_record cs)
unfolding contacts_bytes
contacts-stand [] h = λ t. refl
contacts-stand (c ∷ cs) h = both-stand (touch_record c) (contacts_bytes touch_record cs) (contact-stands touched c (lit≤ tt) (lit< tt) h.0.fits) (contacts-stand cs h.1)

frame-stands : (f : Frame Contact) → FrameFits ContactRead f → Few f → Stands (frame_bytes touch_record f)
unfolding frame_bytes
frame-stands f h few =
    both-stand (head_bytes (head_of f)) (contacts_bytes touch_record f.contacts) (head-stands (head_of f) h.head few) (contacts-stand f.contacts h.contacts)

pub few-stand : Made Stands Few
few-stand =
    record {
      nothing = λ t. refl;
      both = both-stand;
      frame = frame-stands;
      cancel = λ c h. contact-stands cancelled c (lit≤ tt) (lit< tt) h.fits;
      dismissal = λ c h. contact-stands dismissed c (lit≤ tt) (lit< tt) h.fits;
    }
