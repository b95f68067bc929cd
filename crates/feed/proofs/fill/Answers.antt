-- `feed::fill` meets its contract: what was read and not yet handed out is kept.
-- Assumes nothing.
use Rattle.std.proofs.Common.{ℕ, ◌≡◌, ◌∙◌, refl, sym, Bool, true, false}
use Rattle.std.specs.Prelude.{Option, Some, None}
use Rattle.std.specs.Option.{is_some}
use native.Mathlib.Omega.{arith}
use lib.ListN.{length}
use Rattle.feed.specs.Within.{Inside}
use Rattle.feed.proofs.Moving.{filled_on}
use Rattle.feed.proofs.fill.Goals as goal

none : (f : Option ℕ) → false ≡ is_some f → f ≡ None
none None e = refl
none (Some n) e = absurd (let z : ◌≡◌ {A = Bool} false true = e in cc)

pub returns : goal.returns
returns c =
    let a = c.args in
    let inside : Inside (length a.space.now) a.window = record { order = omega (arith, c.if-end-at.false); inside = omega (arith, c.if-space-end.false) } in
    filled_on _ _ _ _ _ _ inside (sym c.read_front.ensures ∙ none _ c.if-is_some.ensures) c.moved-kept.ensures c.read_on.ensures
