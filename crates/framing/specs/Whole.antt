-- Document 01, "House records": which bytes are records of whole frames. "One head record, then its contacts in message order. An empty frame gives
-- its head."; a cancel's records and a dismissal's stand between frames.
use Rattle.std.specs.Prelude.{ℕ, zero, suc, ◌≡◌, true, List, [], ◌++◌, length}
use Rattle.house.specs.Fields.{record_bytes}
use Rattle.house.specs.Layout.{kind_of, head_in, touched, cancelled, dismissed}
use Rattle.house.specs.Layout as layout
use Rattle.well_formed.specs.WellFormed.{well_formed}

-- one well-formed record of a kind
pub record Formed (k : ℕ) (s : List ℕ) : Type 0 where
  pub long : length s ≡ record_bytes
  pub well : well_formed s ≡ true
  pub kind : kind_of s ≡ k

-- records of which the first n are the contacts that are still to come of a frame: a head is followed by its count of contacts
pub data Framed : ℕ → List ℕ → Type 0 where
  ends : Framed zero []
  head : (s t : List ℕ) → Formed layout.head s → Framed (head_in s).count t → Framed zero (s ++ t)
  contact : (n : ℕ) (s t : List ℕ) → Formed touched s → Framed n t → Framed (suc n) (s ++ t)
  cancel : (s t : List ℕ) → Formed cancelled s → Framed zero t → Framed zero (s ++ t)
  dismissal : (s t : List ℕ) → Formed dismissed s → Framed zero t → Framed zero (s ++ t)

-- every frame is whole
abbrev pub FramesWhole : List ℕ → Type 0
FramesWhole l = Framed zero l
