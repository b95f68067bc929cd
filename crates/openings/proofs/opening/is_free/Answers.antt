-- `openings::opening::is_free` meets its contract: an id is not in the set where its mark is 0.
-- Assumes nothing.
use mathlib.Core.Path.{◌≡◌, refl, sym, ◌∙◌}
use mathlib.Core.Bool.{Bool, true, false, not}
use Rattle.machine.specs.Held.{is_held}
use Rattle.openings.proofs.opening.is_free.Goals as goal

twice-not : (b : Bool) → b ≡ not (not b)
twice-not true = refl
twice-not false = refl

pub returns-then-begins : goal.returns-then-begins
unfolding is_held
returns-then-begins c =
    rw (sym c.begins.ensures ∙ c.if-begins.true) (twice-not _)
