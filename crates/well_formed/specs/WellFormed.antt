-- Document 01, "House records": which records are well formed. "The writer .. refuses with 14 a slice not of whole records, a nonzero unused or
-- absent field, a value outside the message's range (x of -2^29, a side of -2^14), or flags not in the table."
use Rattle.std.specs.Prelude.{ℕ, ◌/◌, ◌%◌, Bool, true, false, cond, List, [], ◌∷◌, ℤ, pos, negsuc, leb, eqb, ltb}
use Rattle.states.specs.Table.{listed}
use Rattle.house.specs.Layout.{contacts_most, touched, cancelled, record_of, spare_zero}
use Rattle.house.specs.declared.Head.{Head}
use Rattle.house.specs.declared.Contact.{Contact}
use Rattle.house.specs.declared.Sides.{Sides}
use Rattle.house.specs.declared.Record.{Record}

-- the limits of a message: of a coordinate's magnitude (S4) and a side's (S2), of an orientation and of a pressure
abbrev pub place_most : ℕ
place_most = 0x1FFFFFFF

abbrev pub side_most : ℕ
side_most = 0x3FFF

abbrev pub orientation_most : ℕ
orientation_most = 359

abbrev pub pressure_most : ℕ
pressure_most = 65000

-- every one of these
unfoldable pub all : List Bool → Bool
all [] = true
all (b ∷ bs) = cond b (all bs) false

-- fieldsPresent has a bit
abbrev pub has : ℕ → ℕ → Bool
has bit present = eqb (present / bit % 2) 1

-- z is no less than -n
unfoldable pub above : ℕ → ℤ → Bool
above n (pos m) = true
above n (negsuc m) = ltb m n

-- a place's coordinate in S4's range, which 30 bits hold but for -2^29, and a side in S2's, which 15 bits hold but for -2^14
abbrev pub place_well : ℤ → Bool
place_well z = above place_most z

abbrev pub side_well : ℤ → Bool
side_well z = above side_most z

abbrev pub zero? : ℤ → Bool
zero? (pos n) = eqb n 0
zero? (negsuc n) = false

-- the sides, if they are there, are in range, and otherwise 0
unfoldable pub sides_well : Bool → Sides → Bool
sides_well true s = all (side_well s.left ∷ side_well s.top ∷ side_well s.right ∷ side_well s.bottom ∷ [])
sides_well false s = all (zero? s.left ∷ zero? s.top ∷ zero? s.right ∷ zero? s.bottom ∷ [])

-- a number, if it is there, is at most n, and otherwise 0
abbrev pub at_most : Bool → ℕ → ℕ → Bool
at_most there n v = leb v (cond there n 0)

-- #107: "a head over 256 is 14"
unfoldable pub head_well : Head → Bool
head_well h = leb h.count contacts_most

unfoldable pub contact_well : Contact → Bool
contact_well c =
    all
    (listed c.flags
    ∷ place_well c.place.x
    ∷ place_well c.place.y
    ∷ sides_well (has 1 c.present) c.sides
    ∷ at_most (has 2 c.present) orientation_most c.orientation
    ∷ at_most (has 4 c.present) pressure_most c.pressure
    ∷ [])

-- "Kind 1 is a frame's contact; 2 a cancel, flags 0x24 if engaged, 0x22 if hovering; 3 a dismissal, flags 0x02. Kinds 2 and 3 carry .. no
-- optional field."
unfoldable pub kind_well : ℕ → Contact → Bool
kind_well kind c =
    cond (eqb kind touched) true
    (cond (eqb c.present 0)
    (cond (eqb kind cancelled) (cond (eqb c.flags 0x24) true (eqb c.flags 0x22)) (eqb c.flags 0x02))
    false)

-- the rules for what stands at the front of a slice of records
unfoldable pub record_well : Record → List Bool
record_well (Record.Head h) = head_well h ∷ []
record_well (Record.Contact kind c) = contact_well c ∷ kind_well kind c ∷ []
record_well (Record.Refused e) = false ∷ []

-- one that was read there is whole and well formed
abbrev pub well_as : List ℕ → Record → Bool
well_as l r = all (spare_zero l ∷ record_well r)

-- the one that is there
unfoldable pub well_formed : List ℕ → Bool
well_formed l = well_as l (record_of l)
