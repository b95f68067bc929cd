-- What is packed is well formed, and packing what was read of a well-formed record gives its bytes back.
-- Assumes nothing.
use mathlib.Core.Path.{◌≡◌, sym, ap, ◌∙◌}
use mathlib.Core.Bool.{true}
use mathlib.Core.List.{List, [], ◌∷◌, ◌++◌}
use Prim.Native.Nat.{ℕ, ◌<◌, ◌≤◌}
use lib.ListN.{take}
use Rattle.digits.specs.Digits.{Bytes}
use borrow.Author.Tests.{leb-true, le-leb}
use Rattle.house.specs.Layout.{head, head_bytes, contact_bytes, kind_of, head_in, record_of, spare_zero, bytes_of}
use Rattle.house.specs.Fits.{HeadFits, ContactFits}
use Rattle.house.specs.declared.Head.{Head}
use Rattle.house.specs.declared.Contact.{Contact}
use Rattle.house.specs.declared.Record.{Record}
use Rattle.house.proofs.Round.{record-of-head, record-of-contact, spare-of-head, spare-of-contact, offset-fits, again}
use Rattle.well_formed.specs.WellFormed.{all, head_well, contact_well, kind_well, record_well, well_formed}
use Rattle.well_formed.proofs.WellFormed.{all_none, all_split, all_join}
use Rattle.well_formed.proofs.Front.{well-head, well-long}

pub head-well : (h : Head) (t : List ℕ) → HeadFits h → well_formed (head_bytes h ++ t) ≡ true
unfolding well_formed record_well head_well
head-well h t f =
    ap (λ (r : Record). all (spare_zero (head_bytes h ++ t) ∷ record_well r)) (record-of-head h t f)
    ∙ all_join _ _ (spare-of-head h t) (all_join _ [] (le-leb _ _ f.count) all_none)

pub contact-well : (k : ℕ) (c : Contact) (t : List ℕ) → 1 ≤ k → k < 4 → ContactFits c → contact_well c ≡ true → kind_well k c ≡ true → well_formed (contact_bytes k c ++ t) ≡ true
unfolding well_formed record_well
contact-well k c t h l f wc wk =
    ap (λ (r : Record). all (spare_zero (contact_bytes k c ++ t) ∷ record_well r)) (record-of-contact k c t h l f)
    ∙ all_join _ _ (spare-of-contact k c t h l) (all_join _ _ wc (all_join _ [] wk all_none))

-- what is read of a head that is well formed
pub head-fits : (l : List ℕ) → well_formed l ≡ true → kind_of (take 21 l) ≡ head → HeadFits (head_in (take 21 l))
unfolding head_well
head-fits l w k =
    let few = (all_split _ _ (sym (well-head l (well-long l w) k) ∙ w)).1 in
    record { count = leb-true _ _ (all_split _ [] few).0; offset = offset-fits (take 21 l) }

pub bytes-of-record : (l : List ℕ) → well_formed l ≡ true → Bytes l → bytes_of (record_of l) ≡ take 21 l
unfolding well_formed
bytes-of-record l w b = again l (well-long l w) (all_split _ _ w).0 b
