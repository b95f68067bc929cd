-- Document 01, "House records": the records of frames as a format, "each head followed by its count of contacts"; whatever is not well formed
-- is 14.
use Rattle.std.specs.Prelude.{ℕ, zero, suc, ◌≡◌, Bool, true, false, cond, List, [], ◌∷◌, eqb, length, take, drop}
use Rattle.paper.specs.Refusals.{bad_record}
use Rattle.formats.specs.Format.{Got, got, bad, and_then, Format, done, field, times}
use Rattle.house.specs.Fields.{record_bytes}
use Rattle.house.specs.Layout.{head_bytes, contact_bytes, kind_of, head_in, contact_of, head, touched}
use Rattle.house.specs.Fits.{HeadFits, ContactFits}
use Rattle.house.specs.declared.Head.{Head}
use Rattle.house.specs.declared.Contact.{Contact}
use Rattle.well_formed.specs.WellFormed.{well_formed, contact_well}
use Rattle.framing.specs.Frame.{Frame, head_of}

-- a whole and well-formed record of a kind stands at the front
abbrev pub stands : ℕ → List ℕ → Bool
stands kind l = cond (well_formed l) (eqb (kind_of (take record_bytes l)) kind) false

abbrev pub head_record : Format Head
head_record =
    record {
      read = λ l. cond (stands head l) (got (head_in (take record_bytes l)) (drop record_bytes l)) (bad bad_record);
      write = head_bytes;
      Holds = HeadFits;
    }

abbrev pub contact_record : Format Contact
contact_record =
    record {
      read = λ l. cond (stands touched l) (got (contact_of (take record_bytes l)) (drop record_bytes l)) (bad bad_record);
      write = contact_bytes touched;
      Holds = λ c. ContactFits c × (contact_well c ≡ true);
    }

-- a frame: a head, then its count of contacts
unfoldable pub frame_records : Format (Frame Contact)
frame_records =
    field head_record head_of λ h.
    field (times h.count contact_record) (λ f. f.contacts) λ cs.
    done (record { offset = h.offset; contacts = cs })

-- frames up to the end: n is no less than their number
unfoldable pub read_all : {A : Type 0} → (List ℕ → Got A) → ℕ → List ℕ → Got (List A)
read_all r zero [] = got [] []
read_all r zero (x ∷ l) = bad bad_record
read_all r (suc n) [] = got [] []
read_all r (suc n) (x ∷ l) = and_then (r (x ∷ l)) (λ a t. and_then (read_all r n t) (λ more u. got (a ∷ more) u))

-- the frames of a slice of records ("an empty slice means no frames")
unfoldable pub frames_in : List ℕ → Got (List (Frame Contact))
frames_in l = read_all frame_records.read (length l) l
