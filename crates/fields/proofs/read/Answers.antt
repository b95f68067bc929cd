-- `fields::read` meets its contract: an integer ends inside what it was read from.
-- Assumes nothing.
use mathlib.Core.Path.{sym}
use Rattle.std.proofs.Common.{rules}
use Rattle.integers.proofs.Laws.{reading-inside}
use Rattle.fields.proofs.read.Goals as goal

pub slice_bounds-result-count : goal.slice_bounds-result-count
slice_bounds-result-count g c = reading-inside _ _ _ _ _ _ _ (sym c.in-Ok.ensures)

pub slice_bounds-result-start : goal.slice_bounds-result-start
slice_bounds-result-start g c = reading-inside _ _ _ _ _ _ _ (sym c.in-Ok.ensures)

pub returns-clause-tail : goal.returns-clause-tail
returns-clause-tail g c =
    let inside = reading-inside _ _ _ _ _ _ _ (sym c.in-Ok.ensures) in
    search rules
