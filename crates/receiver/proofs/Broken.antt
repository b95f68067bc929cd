-- What is no path: records that the definition of a legal path turns down, and the nearest ones that it takes.
-- Assumes nothing.
use Prim.Native.Nat.{ℕ}
use mathlib.Core.Path.{◌≡◌, refl}
use mathlib.Core.List.{List, [], ◌∷◌}
use lib.IntN.{pos}
use Rattle.states.specs.Table.{next, place_of, from, out}
use Rattle.house.specs.declared.Record.{Record}
use Rattle.machine.specs.Table.{origin}
use Rattle.tables.specs.Same.{same_number}
use Rattle.contacts.specs.Touch.{bare_contact}
use Rattle.stream.specs.Path.{Path, at, broken, path_step}
use Rattle.stream.specs.Path as paths
use Rattle.receiver.specs.History.{path}

-- a record of contact 1
abbrev one : ℕ → ℕ → ℕ → ℕ → Record
one kind flags x y = Record.Contact kind (bare_contact flags 1 (record { x = pos x; y = pos y }))

-- the path of contact 1 from out of range
abbrev walked : List Record → Path
walked xs = path 1 xs out origin

-- an update of a contact that is out of range
update-first : walked (one 1 0x1A 100 50 ∷ []) ≡ broken
unfolding paths.path path_step next place_of from
update-first = refl

-- down and up at one place; at two
down-and-up : walked (one 1 0x19 100 50 ∷ one 1 0x04 100 50 ∷ []) ≡ at out origin
unfolding paths.path path_step next place_of from same_number
down-and-up = refl

lift-elsewhere : walked (one 1 0x19 100 50 ∷ one 1 0x04 101 50 ∷ []) ≡ broken
unfolding paths.path path_step next place_of from same_number
lift-elsewhere = refl

-- a cancel of a hovering contact; elsewhere; as of an engaged one
cancel-hovering : walked (one 1 0x0A 7 8 ∷ one 2 0x22 7 8 ∷ []) ≡ at out origin
unfolding paths.path path_step next place_of from same_number
cancel-hovering = refl

cancel-elsewhere : walked (one 1 0x0A 7 8 ∷ one 2 0x22 7 9 ∷ []) ≡ broken
unfolding paths.path path_step next place_of from same_number
cancel-elsewhere = refl

cancel-as-engaged : walked (one 1 0x0A 7 8 ∷ one 2 0x24 7 8 ∷ []) ≡ broken
unfolding paths.path path_step next place_of from same_number
cancel-as-engaged = refl

-- a cancel with the flags of a lift
cancel-as-lift : walked (one 1 0x19 7 8 ∷ one 2 0x04 7 8 ∷ []) ≡ broken
unfolding paths.path path_step next place_of from same_number
cancel-as-lift = refl

-- a dismissal of a hovering contact; with the flags of a cancel
dismiss-hovering : walked (one 1 0x0A 7 8 ∷ one 3 0x02 7 8 ∷ []) ≡ at out origin
unfolding paths.path path_step next place_of from same_number
dismiss-hovering = refl

dismiss-as-cancel : walked (one 1 0x0A 7 8 ∷ one 3 0x22 7 8 ∷ []) ≡ broken
unfolding paths.path path_step next place_of from same_number
dismiss-as-cancel = refl

-- a dismissal of an engaged contact
dismiss-engaged : walked (one 1 0x19 7 8 ∷ one 3 0x02 7 8 ∷ []) ≡ broken
unfolding paths.path path_step next place_of from same_number
dismiss-engaged = refl

-- what is no record
not-whole : walked (Record.Refused 14 ∷ []) ≡ broken
unfolding paths.path path_step
not-whole = refl
