-- The records of frames are a lawful format: what is written is read back, and what is read was written, record by record and frame by frame.
-- Assumes nothing.
use Prim.Native.Nat.{ℕ, zero, suc, ◌≤◌, ◌<◌}
use mathlib.Core.Path.{◌≡◌, refl, sym, ap, ◌∙◌}
use mathlib.Core.Bool.{Bool, true, false, cond}
use mathlib.Core.List.{List, [], ◌∷◌, ◌++◌, append-nil}
use native.Mathlib.Omega.{arith}
use lib.Dec.{lit≤, lit<}
use lib.ListN.{length, take, drop, length-append, take-append-drop}
use lib.Seq.{drop_at}
use borrow.Author.Tests.{eq-eqb, eqb-true}
use Rattle.paper.specs.Refusals.{bad_record}
use Rattle.digits.specs.Digits.{Bytes}
use Rattle.digits.proofs.Laws.{bytes_drop}
use Rattle.formats.specs.Format.{Got, got, bad, and_then, Format, write_series, Each}
use Rattle.formats.proofs.Laws.{Exact, exact-short, Law, never, done-law, field-law, times-law, each-length}
use Rattle.house.specs.Layout.{head_bytes, contact_bytes, kind_of, head_in, contact_of, record_of, bytes_of, head, touched}
use Rattle.house.specs.declared.Head.{Head}
use Rattle.house.specs.declared.Contact.{Contact}
use Rattle.house.specs.declared.Record.TheVariants as Record
use Rattle.house.proofs.Front.{record-head, record-contact, front-is}
use Rattle.house.proofs.Round.{length-head, length-contact, kind-head, kind-contact, head-back, contact-back, contact-fits}
use Rattle.well_formed.specs.WellFormed.{well_formed, kind_well}
use Rattle.well_formed.proofs.WellFormed as well
use Rattle.well_formed.proofs.Front.{well-long, well-contact}
use Rattle.well_formed.proofs.Round.{head-well, contact-well, head-fits, bytes-of-record}
use Rattle.framing.specs.Frame.{Frame, head_of, contacts_bytes, frame_bytes, frames_bytes}
use Rattle.touch.specs.Touch.{touch_record}
use Rattle.recordings.specs.Records.{stands, head_record, contact_record, frame_records, read_all, frames_in}

-- ---- one record

-- a test that was passed
pub passed : {A : Type 0} (b : Bool) (x a : A) (u t : List ℕ) → cond b (got x u) (bad bad_record) ≡ got a t → (b ≡ true) × (x ≡ a) × (u ≡ t)
passed true x a u t h = (refl, cc, cc)
passed false x a u t h = never bad_record a t h

both : (b c : Bool) → cond b c false ≡ true → (b ≡ true) × (c ≡ true)
both true c h = (refl, h)
both false c h = well.never h refl

-- what a record of a kind that stands at the front says
pub record Stands (k : ℕ) (l : List ℕ) : Type 0 where
  pub well : well_formed l ≡ true
  pub kind : kind_of (take 21 l) ≡ k
  pub long : 21 ≤ length l

pub stood : (k : ℕ) (l : List ℕ) → stands k l ≡ true → Stands k l
stood k l h =
    let b = both _ _ h in
    record { well = b.0; kind = eqb-true _ _ b.1; long = well-long l b.0 }

head-again : (l : List ℕ) → Stands head l → Bytes l → head_bytes (head_in (take 21 l)) ≡ take 21 l
unfolding bytes_of
head-again l s b = sym (ap bytes_of (record-head l s.long s.kind)) ∙ bytes-of-record l s.well b

head-exact : Exact head_record
head-exact l h t b e =
    let p = passed (stands head l) (head_in (take 21 l)) h (drop 21 l) t e in
    let a = head-again l (stood head l p.0) b in
    rw (← p.1, ← p.2, a) (sym (take-append-drop 21 l))

head-law : Law (Unit {0}) head_record
head-law =
    record {
      back = λ h t f.
          let e = front-is (head_bytes h) t (length-head h) in
          let d = drop_at (head_bytes h) t 21 (length-head h) in
          rw (head-well h t f, e, eq-eqb _ _ (kind-head h), d, head-back h f);
      sound = λ l h t b e.
          let p = passed (stands head l) (head_in (take 21 l)) h (drop 21 l) t e in
          let q = stood head l p.0 in
          (rw p.1 at (head-fits l q.well q.kind), rw p.2 at (bytes_drop 21 l b));
      short = exact-short head_record head-exact;
      exact = λ x. head-exact;
    }

-- a contact that stands at the front, read
no-head : (l : List ℕ) → Stands touched l → kind_of (take 21 l) ≡ head → ⊥
no-head l s z = let v : ◌≡◌ {A = ℕ} touched head = sym s.kind ∙ z in omega (arith, v)

pub contact-is : (l : List ℕ) → Stands touched l → record_of l ≡ Record.Contact touched (contact_of (take 21 l))
contact-is l s = record-contact l s.long (no-head l s) ∙ ap (λ k. Record.Contact k (contact_of (take 21 l))) s.kind

contact-again : (l : List ℕ) → Stands touched l → Bytes l → contact_bytes touched (contact_of (take 21 l)) ≡ take 21 l
unfolding bytes_of
contact-again l s b = sym (ap bytes_of (contact-is l s)) ∙ bytes-of-record l s.well b

pub kind-touched : (c : Contact) → kind_well touched c ≡ true
unfolding kind_well
kind-touched c = refl

contact-exact : Exact contact_record
contact-exact l c t b e =
    let p = passed (stands touched l) (contact_of (take 21 l)) c (drop 21 l) t e in
    let a = contact-again l (stood touched l p.0) b in
    rw (← p.1, ← p.2, a) (sym (take-append-drop 21 l))

pub contact-law : Law (Unit {0}) contact_record
contact-law =
    record {
      back = λ c t f.
          let e = front-is (contact_bytes touched c) t (length-contact touched c) in
          let d = drop_at (contact_bytes touched c) t 21 (length-contact touched c) in
          rw (
            contact-well touched c t (lit≤ tt) (lit< tt) f.0 f.1 (kind-touched c),
            e,
            eq-eqb _ _ (kind-contact touched c (lit< tt)),
            d,
            contact-back touched c f.0,
          );
      sound = λ l c t b e.
          let p = passed (stands touched l) (contact_of (take 21 l)) c (drop 21 l) t e in
          let s = stood touched l p.0 in
          let w = (well.all_split _ _ (sym (well-contact l s.long (no-head l s)) ∙ s.well)).1 in
          ((rw p.1 at (contact-fits (take 21 l)), rw p.1 at (well.all_split _ _ w).0), rw p.2 at (bytes_drop 21 l b));
      short = exact-short contact_record contact-exact;
      exact = λ x. contact-exact;
    }

-- ---- a frame

pub frame-law : Law (Unit {0}) frame_records
unfolding frame_records
frame-law =
    field-law head_record head_of _ head-law finds λ h.
    field-law _ _ _ (times-law _ h.count contact-law) (λ cs b e. ap (λ f. f.contacts) e) λ cs.
    done-law _
  where
    finds : (g : Head) (b : Frame Contact) → Each (λ k. contact_record.Holds) false g.count b.contacts × (b ≡ record { offset = g.offset; contacts = b.contacts }) → head_of b ≡ g
    finds g b e =
        let n : length b.contacts ≡ g.count = each-length _ false g.count b.contacts e.0 in
        let o : b.offset ≡ g.offset = ap (λ f. f.offset) e.1 in
        λ j. record { count = n j; offset = o j }

contacts-bytes : (cs : List Contact) → write_series (λ b. contact_record.write) false cs ≡ contacts_bytes touch_record cs
unfolding write_series contacts_bytes
contacts-bytes [] = refl
contacts-bytes (c ∷ cs) = ap (λ l. contact_bytes touched c ++ l) (contacts-bytes cs)

frame-bytes : (f : Frame Contact) → frame_records.write f ≡ frame_bytes touch_record f
unfolding frame_records frame_bytes
frame-bytes f = rw (append-nil, contacts-bytes f.contacts)

frame-long : (f : Frame Contact) → 21 ≤ length (frame_bytes touch_record f)
unfolding frame_bytes
frame-long f = omega (arith, length-append (head_bytes (head_of f)) (contacts_bytes touch_record f.contacts), length-head (head_of f))

-- ---- values up to the end, of a lawful format whose values take a byte at least

module _ {A : Type 0} (f : Format A) (law : Law (Unit {0}) f) (some : (a : A) → 0 < length (f.write a)) where
  abbrev writes : List A → List ℕ
  writes s = write_series (λ b. f.write) false s

  all_none : (n : ℕ) → read_all f.read n [] ≡ got [] []
  unfolding read_all
  all_none zero = refl
  all_none (suc n) = refl

  all_more : (n : ℕ) (l : List ℕ) → 0 < length l → read_all f.read (suc n) l ≡ and_then (f.read l) (λ a t. and_then (read_all f.read n t) (λ more u. got (a ∷ more) u))
  unfolding read_all
  all_more n [] h = absurd (omega arith)
  all_more n (x ∷ l) h = refl

  -- what is written is read back
  pub all_back : (s : List A) (n : ℕ) → Each (λ b. f.Holds) false (length s) s → length (writes s) ≤ n → read_all f.read n (writes s) ≡ got s []
  unfolding write_series Each
  all_back [] n h k = all_none n
  all_back (a ∷ s) zero h k = absurd (omega (arith, length-append (f.write a) (writes s), some a))
  all_back (a ∷ s) (suc n) h k =
      let long = length-append (f.write a) (writes s) in
      let i = all_back s n h.1 (omega (arith, some a)) in
      all_more n (f.write a ++ writes s) (omega (arith, some a)) ∙ rw (law.back a (writes s) h.0, i)

  -- what is read was written
  pub record AllRead (l : List ℕ) (s : List A) (t : List ℕ) : Type 0 where
    pub holds : Each (λ b. f.Holds) false (length s) s
    pub same : l ≡ writes s
    pub ends : t ≡ []

  nothing : (s : List A) (t : List ℕ) → got [] [] ≡ got s t → AllRead [] s t
  unfolding Each write_series
  nothing s t e =
      let z : s ≡ [] = cc in
      rw z (record { holds = tt; same = refl; ends = cc })

  pub all_read : (n : ℕ) (l : List ℕ) (s : List A) (t : List ℕ) → Bytes l → read_all f.read n l ≡ got s t → AllRead l s t
  unfolding read_all Each write_series
  all_read zero [] s t b e = nothing s t e
  all_read zero (x ∷ l) s t b e = never bad_record s t e
  all_read (suc n) [] s t b e = nothing s t e
  all_read (suc n) (x ∷ l) s t b e = go (f.read (x ∷ l)) refl e (all_read n)
    where
      go : (y : Got A) → f.read (x ∷ l) ≡ y → and_then y (λ a t. and_then (read_all f.read n t) (λ more u. got (a ∷ more) u)) ≡ got s t
          → ((m : List ℕ) (s : List A) (t : List ℕ) → Bytes m → read_all f.read n m ≡ got s t → AllRead m s t) → AllRead (x ∷ l) s t
      go (bad y) w e i = never y s t e
      go (got a u) w e i = on (read_all f.read n u) refl e
        where
          on : (y : Got (List A)) → read_all f.read n u ≡ y → and_then y (λ more u. got (a ∷ more) u) ≡ got s t → AllRead (x ∷ l) s t
          on (bad y) v e = never y s t e
          on (got more k) v e =
              let d = law.sound (x ∷ l) a u b w in
              let r = i u more k d.1 v in
              let z : s ≡ a ∷ more = cc in
              let q : k ≡ t = cc in
              let y = r.same in
              rw z (record { holds = (d.0, r.holds); same = rw (← y) (law.exact tt (x ∷ l) a u b w); ends = sym q ∙ r.ends })

-- ---- the frames of a slice of records

frame-some : (f : Frame Contact) → 0 < length (frame_records.write f)
frame-some f = omega (arith, frame-long f, ap length (frame-bytes f))

frames-bytes : (fs : List (Frame Contact)) → write_series (λ b. frame_records.write) false fs ≡ frames_bytes touch_record fs
unfolding write_series frames_bytes
frames-bytes [] = refl
frames-bytes (f ∷ fs) = rw (frame-bytes f, frames-bytes fs)

-- every frame can be written as records
abbrev pub FramesFit : List (Frame Contact) → Type 0
FramesFit fs = Each (λ b. frame_records.Holds) false (length fs) fs

-- WHAT IS WRITTEN IS READ BACK
pub frames-back : (fs : List (Frame Contact)) → FramesFit fs → frames_in (frames_bytes touch_record fs) ≡ got fs []
unfolding frames_in
frames-back fs h = rw (frames-bytes fs) at (all_back frame_records frame-law frame-some fs (length (write_series (λ b. frame_records.write) false fs)) h (omega arith))

-- WHAT IS READ WAS WRITTEN
pub record FramesRead (l : List ℕ) (fs : List (Frame Contact)) : Type 0 where
  pub fit : FramesFit fs
  pub same : l ≡ frames_bytes touch_record fs

pub frames-read : (l : List ℕ) (fs : List (Frame Contact)) (t : List ℕ) → Bytes l → frames_in l ≡ got fs t → FramesRead l fs
unfolding frames_in
frames-read l fs t b e =
    let r = all_read frame_records frame-law frame-some (length l) l fs t b e in
    record { fit = r.holds; same = r.same ∙ frames-bytes fs }
