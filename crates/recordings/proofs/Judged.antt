-- Judging records: what stands at the front, where contacts and frames end, and how many frames there are.
-- Assumes nothing.
use Prim.Native.Nat.{ℕ, zero, suc, ◌+◌, ◌≤◌, ◌<◌}
use mathlib.Core.Path.{◌≡◌, refl, sym, ap, ◌∙◌}
use mathlib.Core.Bool.{Bool, true, false, cond}
use mathlib.Core.List.{List, [], ◌∷◌}
use native.Mathlib.Omega.{arith}
use lib.Dec.{eqb}
use lib.ListN.{length, take, drop, length-drop}
use Rattle.paper.specs.Refusals.{bad_record}
use Rattle.formats.specs.Format.{Got, got, bad, and_then, read_series}
use Rattle.formats.specs.Answer.{skipped}
use Rattle.formats.proofs.Laws.{never, more-got}
use Rattle.formats.proofs.Refusing.{Tame, Tamed, and-then, by-test, done-tame, field-tame, series-tame}
use Rattle.formats.proofs.Steps.{skipped-made}
use Rattle.house.specs.Layout.{kind_of, head_in, contact_of, record_of, head, touched}
use Rattle.house.specs.declared.Head.{Head}
use Rattle.house.specs.declared.Contact.{Contact}
use Rattle.house.specs.declared.Record.{Record}
use Rattle.house.proofs.Front.{Front, front, record-head, record-contact}
use Rattle.well_formed.specs.WellFormed.{well_as, well_formed}
use Rattle.well_formed.proofs.WellFormed as well
use Rattle.well_formed.proofs.Front.{well-read, well-short}
use Rattle.framing.specs.Frame.{Frame, head_of}
use Rattle.recordings.specs.Records.{stands, head_record, contact_record, frame_records, read_all, frames_in}
use Rattle.recordings.specs.Answer.{kind_in, contacts_after, stands_as}
use Rattle.recordings.proofs.Records.{passed, stood}

-- ---- one record

kind-front : (l : List ℕ) → Front l → well_formed l ≡ true → kind_in (record_of l) ≡ kind_of (take 21 l)
kind-front l (Front.short h) w = well.never w (well-short l h)
kind-front l (Front.head h k) w = ap kind_in (record-head l h k) ∙ sym k
kind-front l (Front.contact h k) w = ap kind_in (record-contact l h k)

-- what was read there is what stands there
pub stands_read : (kind : ℕ) (l : List ℕ) (r : Record) → r ≡ record_of l → stands_as kind l r ≡ stands kind l
stands_read kind l r e = go (well_formed l) refl
  where
    w : well_as l r ≡ well_formed l
    w = well-read l r e

    go : (b : Bool) → well_formed l ≡ b → stands_as kind l r ≡ stands kind l
    go true h = rw (w, h) (ap (λ (k : ℕ). eqb k kind) (ap kind_in e ∙ kind-front l (front l) h))
    go false h = rw (w, h)

pub contact-stands : (l : List ℕ) → stands touched l ≡ true → contact_record.read l ≡ got (contact_of (take 21 l)) (drop 21 l)
contact-stands l h = ap (λ (b : Bool). cond b (got (contact_of (take 21 l)) (drop 21 l)) (bad bad_record)) h

pub contact-fails : (l : List ℕ) → stands touched l ≡ false → contact_record.read l ≡ bad bad_record
contact-fails l h = ap (λ (b : Bool). cond b (got (contact_of (take 21 l)) (drop 21 l)) (bad bad_record)) h

-- ---- a frame

abbrev pub contact_by : Bool → List ℕ → Got Contact
contact_by b = contact_record.read

pub frame-fails : (l : List ℕ) → stands head l ≡ false → frame_records.read l ≡ bad bad_record
unfolding frame_records
frame-fails l h = rw h

-- a frame ends where as many contacts end as follow its head
pub frame-end : (l : List ℕ) → stands head l ≡ true → skipped (frame_records.read l) ≡ skipped (read_series contact_by false (contacts_after (record_of l)) (drop 21 l))
unfolding frame_records
frame-end l h =
    let s = stood head l h in
    let n : contacts_after (record_of l) ≡ (head_in (take 21 l)).count = ap contacts_after (record-head l s.long s.kind) in
    rw (h, n) (skipped-made (λ cs. record { offset = (head_in (take 21 l)).offset; contacts = cs }) (read_series contact_by false (head_in (take 21 l)).count (drop 21 l)))

-- what is read of a list is no longer than it
contacts-shorter : (n : ℕ) (l : List ℕ) (cs : List Contact) (t : List ℕ) → read_series contact_by false n l ≡ got cs t → length t ≤ length l
unfolding read_series
contacts-shorter zero l cs t e = let z : l ≡ t = cc in rw z (omega arith)
contacts-shorter (suc n) l cs t e =
    let m = more-got (λ b. contact_record) false n l cs t e in
    let p = passed (stands touched l) (contact_of (take 21 l)) m.head (drop 21 l) m.after m.one in
    omega (arith, contacts-shorter n m.after m.rest t m.others, ap length p.2, length-drop 21 l)

pub frame-shorter : (l : List ℕ) (f : Frame Contact) (t : List ℕ) → frame_records.read l ≡ got f t → length t < length l
unfolding frame_records
frame-shorter l f t e = go (head_record.read l) refl e
  where
    go : (x : Got Head) → head_record.read l ≡ x → and_then x (λ h u. and_then (read_series contact_by false h.count u) (λ cs v. got (record { offset = h.offset; contacts = cs }) v)) ≡ got f t → length t < length l
    go (bad x) w e = never x f t e
    go (got h u) w e = on (read_series contact_by false h.count u) refl e
      where
        on : (y : Got (List Contact)) → read_series contact_by false h.count u ≡ y → and_then y (λ cs v. got (record { offset = h.offset; contacts = cs }) v) ≡ got f t → length t < length l
        on (bad x) k e = never x f t e
        on (got cs v) k e =
            let z : v ≡ t = cc in
            let p = passed (stands head l) (head_in (take 21 l)) h (drop 21 l) u w in
            let s = stood head l p.0 in
            omega (arith, contacts-shorter h.count u cs v k, ap length z, ap length p.2, length-drop 21 l, s.long)

-- ---- frames

-- a bound that is great enough makes no difference
all-bound : (n m : ℕ) (l : List ℕ) → length l ≤ n → length l ≤ m → read_all frame_records.read n l ≡ read_all frame_records.read m l
unfolding read_all
all-bound zero zero [] h k = refl
all-bound zero (suc m) [] h k = refl
all-bound (suc n) zero [] h k = refl
all-bound (suc n) (suc m) [] h k = refl
all-bound zero m (x ∷ l) h k = absurd (omega (arith, h))
all-bound (suc n) zero (x ∷ l) h k = absurd (omega (arith, k))
all-bound (suc n) (suc m) (x ∷ l) h k = go (frame_records.read (x ∷ l)) refl (all-bound n m)
  where
    go : (y : Got (Frame Contact)) → frame_records.read (x ∷ l) ≡ y → ((t : List ℕ) → length t ≤ n → length t ≤ m → read_all frame_records.read n t ≡ read_all frame_records.read m t)
        → and_then y (λ a t. and_then (read_all frame_records.read n t) (λ more u. got (a ∷ more) u)) ≡ and_then y (λ a t. and_then (read_all frame_records.read m t) (λ more u. got (a ∷ more) u))
    go (bad y) w i = refl
    go (got a t) w i =
        let s = frame-shorter (x ∷ l) a t w in
        rw (i t (omega (arith, s, h)) (omega (arith, s, k)))

frames-none : (l : List ℕ) → length l ≤ 0 → frames_in l ≡ got [] []
unfolding frames_in read_all
frames-none [] h = refl
frames-none (x ∷ l) h = absurd (omega (arith, h))

pub frames-bad : (l : List ℕ) (e : ℕ) → 0 < length l → frame_records.read l ≡ bad e → frames_in l ≡ bad e
unfolding frames_in read_all
frames-bad [] e h w = absurd (omega (arith, h))
frames-bad (x ∷ l) e h w = rw w

pub frames-more : (l : List ℕ) (f : Frame Contact) (t : List ℕ) → 0 < length l → frame_records.read l ≡ got f t → frames_in l ≡ and_then (frames_in t) (λ fs u. got (f ∷ fs) u)
unfolding frames_in read_all
frames-more [] f t h w = absurd (omega (arith, h))
frames-more (x ∷ l) f t h w = rw (w, all-bound (length l) (length t) t (omega (arith, frame-shorter (x ∷ l) f t w)) (omega arith))

-- what is not well formed is refused with 14 alone
abbrev Fourteen : ℕ → Type 0
Fourteen e = e ≡ bad_record

head-tame : Tamed Fourteen head_record
head-tame = record { tame = λ l. by-test Fourteen (stands head l) _ _ tt refl }

contact-tame : Tamed Fourteen contact_record
contact-tame = record { tame = λ l. by-test Fourteen (stands touched l) _ _ tt refl }

frame-tame : Tamed Fourteen frame_records
unfolding frame_records
frame-tame =
    field-tame Fourteen head_record head_of _ head-tame λ h.
    field-tame Fourteen _ (λ f. f.contacts) _ (series-tame Fourteen (λ b. contact_record) false h.count contact-tame contact-tame) λ cs.
    done-tame Fourteen _

all-tame : (n : ℕ) (l : List ℕ) → Tame Fourteen (read_all frame_records.read n l)
unfolding read_all
all-tame zero [] = tt
all-tame zero (x ∷ l) = refl
all-tame (suc n) [] = tt
all-tame (suc n) (x ∷ l) =
    and-then Fourteen (frame_records.read (x ∷ l)) _ (frame-tame.tame (x ∷ l))
    (λ a t. and-then Fourteen (read_all frame_records.read n t) _ (all-tame n t) (λ more u. tt))

pub frames-refused : (l : List ℕ) (e : ℕ) → frames_in l ≡ bad e → e ≡ bad_record
unfolding frames_in
frames-refused l e h = go (frames_in l) h (all-tame (length l) l)
  where
    go : (x : Got (List (Frame Contact))) → x ≡ bad e → Tame Fourteen x → e ≡ bad_record
    go (got fs t) h k = never e fs t (sym h)
    go (bad y) h k = let z : y ≡ e = cc in sym z ∙ k

-- ---- the count

-- n frames, and those of a reading
abbrev pub tally : ℕ → Got (List (Frame Contact)) → Got ℕ
tally n (got fs t) = got (n + length fs) []
tally n (bad e) = bad e

pub tally-end : (n : ℕ) (l : List ℕ) → length l ≤ 0 → tally n (frames_in l) ≡ got n []
tally-end n l h = ap (tally n) (frames-none l h) ∙ ap (λ (k : ℕ). got k []) (omega arith)

tally-one : (n : ℕ) (f : Frame Contact) (x : Got (List (Frame Contact))) → tally n (and_then x (λ fs u. got (f ∷ fs) u)) ≡ tally (n + 1) x
tally-one n f (got fs t) = ap (λ (n : ℕ). got n []) (omega arith)
tally-one n f (bad e) = refl

-- one frame more, of which is known where it ends
pub count-more : (k : ℕ) (l t : List ℕ) → 0 < length l → skipped (frame_records.read l) ≡ got tt t → (length t < length l) × (tally k (frames_in l) ≡ tally (k + 1) (frames_in t))
count-more k l t h e = go (frame_records.read l) refl e
  where
    go : (x : Got (Frame Contact)) → frame_records.read l ≡ x → skipped x ≡ got tt t → (length t < length l) × (tally k (frames_in l) ≡ tally (k + 1) (frames_in t))
    go (bad y) w e = never y (tt {0}) t e
    go (got f u) w e =
        let z : u ≡ t = cc in
        let v : frame_records.read l ≡ got f t = rw z at w in
        (frame-shorter l f t v, ap (tally k) (frames-more l f t h v) ∙ tally-one k f (frames_in t))

pub count-stop : (k : ℕ) (l : List ℕ) (e : ℕ) → 0 < length l → skipped (frame_records.read l) ≡ bad e → tally k (frames_in l) ≡ bad e
count-stop k l e h w = go (frame_records.read l) refl w
  where
    go : (x : Got (Frame Contact)) → frame_records.read l ≡ x → skipped x ≡ bad e → tally k (frames_in l) ≡ bad e
    go (bad y) v w = let z : y ≡ e = cc in ap (tally k) (frames-bad l y h v) ∙ ap bad z
    go (got f u) v w = never e (tt {0}) u (sym w)
