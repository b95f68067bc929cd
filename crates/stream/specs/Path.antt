-- The path of a contact through records: "each contact's records are a legal path through the three states from out of range".
use Rattle.std.specs.Prelude.{ℕ, Bool, true, false, cond, List, [], ◌∷◌, eqb}
use Rattle.states.specs.Table.{illegal}
use Rattle.house.specs.Layout.{touched, cancelled, dismissed}
use Rattle.house.specs.declared.Point.{Point}
use Rattle.machine.specs.Conforms.{lifts, same_place, place_in}
use Rattle.machine.specs.Machine.{cancel_flags}

-- ---- what a path asks of a record: a contact's kind, flags, id and position

pub data Seen : Type 0 where
  head : Seen
  contact : (kind flags id : ℕ) → Point → Seen
  refused : Seen

-- where a path has come: a state and a position; or it was none
pub data Path : Type 0 where
  at : ℕ → Point → Path
  broken : Path

abbrev pub and_on : Path → (ℕ → Point → Path) → Path
and_on (at s p) f = f s p
and_on broken f = broken

-- "Kind 1 is a frame's contact; 2 a cancel, flags 0x24 if engaged, 0x22 if hovering; 3 a dismissal, flags 0x02": flags of a kind, in the state s
abbrev pub of_kind : (kind flags s : ℕ) → Bool
of_kind kind flags s =
    cond (eqb kind touched) true
    (cond (eqb kind cancelled) (eqb flags (cancel_flags s))
    (cond (eqb kind dismissed) (eqb flags 0x02) false))

-- "With 0x0C, 0x04 and 0x24 the position must be the stored one"; "Kinds 2 and 3 carry the stored position"
abbrev pub as_stored : ℕ → ℕ → Bool
as_stored kind flags = cond (eqb kind touched) (lifts flags) true

-- ---- over the state table, which gives the next state of flags in a state, or illegal

module _ (next : ℕ → ℕ → ℕ) where
  -- from the state s and the position p, with flags and at the position q
  abbrev pub may_step : (kind flags : ℕ) (q : Point) (s : ℕ) (p : Point) → Bool
  may_step kind flags q s p =
      cond (eqb (next flags s) illegal) false
      (cond (of_kind kind flags s) (cond (as_stored kind flags) (same_place q p) true) false)

  -- "An injected contact's position is stored with its state. A contact out of range has position 0, 0."
  abbrev pub stepped : (flags : ℕ) (q : Point) (s : ℕ) → Path
  stepped flags q s = at (next flags s) (place_in (next flags s) q)

  -- one record: of another contact and of none it moves nothing
  unfoldable pub path_step : ℕ → Seen → ℕ → Point → Path
  path_step id head s p = at s p
  path_step id (contact kind flags k q) s p = cond (eqb k id) (cond (may_step kind flags q s p) (stepped flags q s) broken) (at s p)
  path_step id refused s p = broken

  unfoldable pub path : {R : Type 0} → (R → Seen) → ℕ → List R → ℕ → Point → Path
  path seen id [] s p = at s p
  path seen id (x ∷ xs) s p = and_on (path_step id (seen x) s p) (path seen id xs)
