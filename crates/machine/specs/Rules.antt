-- The two things that the machine is given: what it sees of a contact, and what it holds a table of contacts to.
use Rattle.std.specs.Prelude.{ℕ, Bool, List}
use Rattle.house.specs.declared.Point.{Point}

-- what the machine sees of a contact, whatever else it holds: its id, its flags and its position; the contact of these three that has no optional
-- field; and the record of a kind ("Kind 1 is a frame's contact; 2 a cancel ..; 3 a dismissal")
pub record View (C : Type 0) : Type 0 where
  pub id : C → ℕ
  pub flags : C → ℕ
  pub place : C → Point
  pub bare : ℕ → ℕ → Point → C
  pub bytes : ℕ → C → List ℕ

-- what a table of contacts is held to: the next state of flags in a state, or illegal; how many may be active; and a test that each contact passes
pub record Rules (C : Type 0) : Type 0 where
  pub next : ℕ → ℕ → ℕ
  pub most : ℕ
  pub passes : C → Bool
