-- The frames of records that are read fit what a receiver keeps.
-- Assumes nothing.
use Prim.Native.Nat.{ℕ, zero, suc}
use mathlib.Core.Bool.{false}
use mathlib.Core.List.{List, [], ◌∷◌}
use lib.ListN.{length}
use Rattle.formats.specs.Format.{Each}
use Rattle.house.specs.declared.Contact.{Contact}
use Rattle.well_formed.proofs.WellFormed.{in-range}
use Rattle.framing.specs.Frame.{Frame}
use Rattle.touch.proofs.Ranges.{ContactRead}
use Rattle.recordings.specs.Records.{contact_record, frame_records}
use Rattle.recordings.proofs.Records.{FramesFit}
use Rattle.stream.specs.Asked.{All, FrameFits}
use Rattle.receiver.proofs.Lawful.{Fits}
use Rattle.receiver.proofs.Invariants.{frames-fit}

each_fits : {A : Type 0} (P Q : A → Type 0) → ((a : A) → P a → Q a) → (n : ℕ) (l : List A) → Each (λ b. P) false n l → All Q l
unfolding Each
each_fits P Q f zero [] h = tt
each_fits P Q f zero (a ∷ l) h = absurd h
each_fits P Q f (suc n) [] h = absurd h
each_fits P Q f (suc n) (a ∷ l) h = (f a h.0, each_fits P Q f n l h.1)

contact-fits : (c : Contact) → contact_record.Holds c → ContactRead c
contact-fits c h = record { fits = h.0; well = h.1; range = in-range c h.0 h.1 }

frame-fits : (f : Frame Contact) → frame_records.Holds f → FrameFits ContactRead f
unfolding frame_records
frame-fits f h = record { head = h.0; contacts = each_fits contact_record.Holds ContactRead contact-fits _ f.contacts h.1.0 }

pub recorded-fit : (fs : List (Frame Contact)) → FramesFit fs → All (FrameFits Fits) fs
recorded-fit fs h = frames-fit fs (each_fits frame_records.Holds (FrameFits ContactRead) frame-fits (length fs) fs h)
