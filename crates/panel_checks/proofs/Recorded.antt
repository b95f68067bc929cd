-- The frame at the front of records, part by part, and the frames behind it.
-- Assumes nothing.
use Prim.Native.Nat.{ℕ, ◌≤◌, ◌<◌}
use mathlib.Core.Path.{◌≡◌, refl, sym, ap, ◌∙◌}
use mathlib.Core.Bool.{false}
use mathlib.Core.List.{List, [], ◌∷◌}
use native.Mathlib.Omega.{arith}
use lib.ListN.{length, take, drop}
use Rattle.formats.specs.Format.{Got, got, bad, and_then, read_series}
use Rattle.formats.proofs.Laws.{never}
use Rattle.house.specs.Layout.{head_in, record_of, head}
use Rattle.house.specs.declared.Head.{Head}
use Rattle.house.specs.declared.Contact.{Contact}
use Rattle.house.specs.declared.Record.TheVariants as Record
use Rattle.house.proofs.Front.{record-head}
use Rattle.framing.specs.Frame.{Frame}
use Rattle.recordings.specs.Records.{stands, head_record, contact_record, frame_records, read_all, frames_in}
use Rattle.recordings.specs.Answer.{contacts_after}
use Rattle.recordings.proofs.Records.{passed, stood}
use Rattle.recordings.proofs.Judged.{contact_by, frames-bad, frames-more}
use Rattle.contacts.specs.Ruling.{contacts_by}
use Rattle.panel_checks.specs.Checks.{offset_in}

-- ---- a frame

pub record Parts (l : List ℕ) (f : Frame Contact) (t : List ℕ) : Type 0 where
  pub long : 21 ≤ length l
  pub offset : offset_in (record_of l) ≡ f.offset.0
  pub contacts : contacts_by contact_record (contacts_after (record_of l)) (drop 21 l) ≡ got f.contacts t

pub parts : (l : List ℕ) (f : Frame Contact) (t : List ℕ) → frame_records.read l ≡ got f t → Parts l f t
unfolding frame_records
parts l f t e = go (head_record.read l) refl e
  where
    go : (x : Got Head) → head_record.read l ≡ x → and_then x (λ h u. and_then (read_series contact_by false h.count u) (λ cs v. got (record { offset = h.offset; contacts = cs }) v)) ≡ got f t → Parts l f t
    go (bad x) w e = never x f t e
    go (got h u) w e = on (read_series contact_by false h.count u) refl e
      where
        on : (y : Got (List Contact)) → read_series contact_by false h.count u ≡ y → and_then y (λ cs v. got (record { offset = h.offset; contacts = cs }) v) ≡ got f t → Parts l f t
        on (bad x) k e = never x f t e
        on (got cs v) k e =
            let z : v ≡ t = cc in
            let y : record { offset = h.offset; contacts = cs } ≡ f = cc in
            let p = passed (stands head l) (head_in (take 21 l)) h (drop 21 l) u w in
            let s = stood head l p.0 in
            let r : record_of l ≡ Record.Head h = record-head l s.long s.kind ∙ ap Record.Head p.1 in
            record {
              long = s.long;
              offset = ap offset_in r ∙ ap (λ (g : Frame Contact). g.offset.0) y;
              contacts = rw (r, p.2) (k ∙ (λ i. got (y i).contacts (z i)));
            }

-- ---- frames

-- the first frame of records that are some
pub record First (l : List ℕ) (fs : List (Frame Contact)) (end : List ℕ) : Type 0 where
  pub frame : Frame Contact
  pub others : List (Frame Contact)
  pub after : List ℕ
  pub read : frame_records.read l ≡ got frame after
  pub behind : frames_in after ≡ got others end
  pub all : fs ≡ frame ∷ others

pub first : (l : List ℕ) (fs : List (Frame Contact)) (end : List ℕ) → 0 < length l → frames_in l ≡ got fs end → First l fs end
first l fs end h e = go (frame_records.read l) refl
  where
    on : (f : Frame Contact) (t : List ℕ) → frame_records.read l ≡ got f t → (y : Got (List (Frame Contact))) → frames_in t ≡ y → and_then y (λ gs u. got (f ∷ gs) u) ≡ got fs end → First l fs end
    on f t w (bad x) q k = never x fs end k
    on f t w (got gs u) q k =
        let z : u ≡ end = cc in
        let y : f ∷ gs ≡ fs = cc in
        record { frame = f; others = gs; after = t; read = w; behind = q ∙ ap (got gs) z; all = sym y }

    go : (x : Got (Frame Contact)) → frame_records.read l ≡ x → First l fs end
    go (bad x) w = never x fs end (sym (frames-bad l x h w) ∙ e)
    go (got f t) w = on f t w (frames_in t) refl (sym (frames-more l f t h w) ∙ e)

pub none_left : (l : List ℕ) (fs : List (Frame Contact)) (end : List ℕ) → length l ≤ 0 → frames_in l ≡ got fs end → fs ≡ []
unfolding frames_in read_all
none_left [] fs end h e = cc
none_left (x ∷ l) fs end h e = absurd (omega (arith, h))
