-- What a dismissal does to the set.
use Rattle.std.specs.Prelude.{ℕ, cond, List, eqb}
use Rattle.paper.specs.Refusals.{none}
use Rattle.machine.specs.Held.{held_without}

-- an accepted dismissal takes the id out of the set
abbrev pub held_by : ℕ → List ℕ → ℕ → List ℕ
held_by number held id = cond (eqb number none) (held_without held id) held
