use Prim.Native.Nat.{◌-◌}
use mathlib.Core.Path.{◌≡◌}
use mathlib.Core.Bool.{false}
use Rattle.machine.specs.Conforms.{every}
use Rattle.contacts.specs.Ruling.{contacts_of, of_read}
use Rattle.openings.specs.Openings.{passes_by}
use Rattle.openings.proofs.opening.all_pass.Given as goal

abbrev pub invariant-loop : goal.invariant-loop
invariant-loop l =
    of_read false (every (passes_by l.hovers l.held)) (contacts_of (l.n - l.counter) l.left) ≡ of_read false (every (passes_by l.hovers l.held)) (contacts_of l.n l.rest)
