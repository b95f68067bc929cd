-- The 256 contacts: a state and a position each. Nothing above uses how they are kept.
use Rattle.std.specs.Prelude.{ℕ, ◌+◌, Bool, true, false, cond, List, [], ◌∷◌, eqb, ℤ, pos, get_or, set, replicate}
use Rattle.states.specs.Table.{out}
use Rattle.house.specs.declared.Point.{Point}

pub record Table : Type 0 where
  pub states : List ℕ
  pub xs : List ℤ
  pub ys : List ℤ

-- how many contacts there are: an id is a byte
abbrev pub contacts : ℕ
contacts = 256

unfoldable pub state_at : Table → ℕ → ℕ
state_at t id = get_or t.states id out

unfoldable pub place_at : Table → ℕ → Point
place_at t id = record { x = get_or t.xs id (pos 0); y = get_or t.ys id (pos 0) }

unfoldable pub with_contact : Table → ℕ → ℕ → Point → Table
with_contact t id s p = record { states = set t.states id s; xs = set t.xs id p.x; ys = set t.ys id p.y }

-- "A contact out of range has position 0, 0."
abbrev pub origin : Point
origin = record { x = pos 0; y = pos 0 }

-- every contact out of range
unfoldable pub resting : Table
resting = record { states = replicate contacts out; xs = replicate contacts (pos 0); ys = replicate contacts (pos 0) }

-- a contact is active when it is not out of range
abbrev pub active : ℕ → Bool
active s = cond (eqb s out) false true

abbrev pub one : Bool → ℕ
one true = 1
one false = 0

-- how many of these states are active
unfoldable pub count_active : List ℕ → ℕ
count_active [] = 0
count_active (s ∷ ss) = one (active s) + count_active ss
