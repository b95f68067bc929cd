-- `feed::entry_in` meets its contract: a whole entry lies within the part that it was found in.
-- Assumes nothing.
use Rattle.std.specs.Prelude.{Some}
use Prim.Native.Nat.{◌+◌, ◌≤◌}
use mathlib.Core.Path.{◌≡◌, sym, ◌∙◌}
use native.Mathlib.Omega.{arith}
use Rattle.entries.specs.Entries.{front_of}
use Rattle.feed.specs.Within.{bytes_in}
use Rattle.feed.proofs.Handing.{entry-ends}
use Rattle.feed.proofs.entry_in.Goals as goal

pub overflow_add-rest : goal.overflow_add-rest
overflow_add-rest c =
    let front : let a = c.args in front_of (bytes_in a.window a.space.now) ≡ Some c.in-Some.n =
    sym c.read_front.ensures ∙ c.in-Some.is in
    let found : let a = c.args in a.window.at + (2 + c.in-Some.n) ≤ a.window.end =
    entry-ends _ _ _ c.requires front in
    omega (arith, found)
