-- Whether what stands at the front of a slice of records is well formed: too few bytes, a head or a contact.
-- Assumes nothing.
use mathlib.Core.Path.{◌≡◌, ap}
use mathlib.Core.Bool.{true, false}
use mathlib.Core.List.{List, [], ◌∷◌, ◌++◌}
use Prim.Native.Nat.{ℕ, ◌≤◌, ◌<◌}
use lib.Dec.{eqb}
use lib.ListN.{length, take}
use borrow.Author.Tests.{lt-leb}
use Rattle.house.specs.Fields.{record_bytes}
use Rattle.house.specs.Layout.{kind_of, head_in, contact_of, record_of, head_spare, contact_spare, spare_zero}
use Rattle.house.specs.declared.Record.{Record}
use Rattle.house.proofs.Front.{Front, short, head, contact, front, record-head, record-contact, spare-head, spare-contact, record-alone, spare-alone}
use Rattle.well_formed.specs.WellFormed.{all, head_well, contact_well, kind_well, record_well, well_as, well_formed}
use Rattle.well_formed.proofs.WellFormed.{never}

-- what was read there is the record that is there
pub well-read : (l : List ℕ) (r : Record) → r ≡ record_of l → well_as l r ≡ well_formed l
unfolding well_formed
well-read l r e = ap (well_as l) e

pub well-short : (l : List ℕ) → length l < 21 → well_formed l ≡ false
unfolding well_formed spare_zero all
well-short l h = rw (lt-leb _ _ h)

pub well-head : (l : List ℕ) → 21 ≤ length l → kind_of (take 21 l) ≡ 0 → let s = take 21 l in well_formed l ≡ all (eqb (head_spare s) 0 ∷ head_well (head_in s) ∷ [])
unfolding well_formed record_well
well-head l h k = λ i. all (spare-head l h k i ∷ record_well (record-head l h k i))

pub well-contact : (l : List ℕ) → 21 ≤ length l → (kind_of (take 21 l) ≡ 0 → ⊥)
    → let s = take 21 l in well_formed l ≡ all (eqb (contact_spare s) 0 ∷ contact_well (contact_of s) ∷ kind_well (kind_of s) (contact_of s) ∷ [])
unfolding well_formed record_well
well-contact l h k = λ i. all (spare-contact l h k i ∷ record_well (record-contact l h k i))

well-long-by : (l : List ℕ) → Front l → well_formed l ≡ true → 21 ≤ length l
well-long-by l (short h) w = never w (well-short l h)
well-long-by l (head h k) w = h
well-long-by l (contact h k) w = h

-- a well-formed record is whole
pub well-long : (l : List ℕ) → well_formed l ≡ true → 21 ≤ length l
well-long l w = well-long-by l (front l) w

-- whatever follows changes nothing
pub well-alone : (s t : List ℕ) → record_bytes ≤ length s → well_formed (s ++ t) ≡ well_formed s
unfolding well_formed
well-alone s t h = λ i. all (spare-alone s t h i ∷ record_well (record-alone s t h i))
