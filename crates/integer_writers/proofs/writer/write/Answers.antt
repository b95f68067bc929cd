-- `integer_writers::writer::write` meets its contract: out of range, or as the fewest bytes go.
-- Assumes nothing.
use Prim.Native.Nat.{◌≤◌, ◌<◌}
use mathlib.Core.Path.{refl, ap}
use native.Mathlib.Omega.{arith}
use Rattle.paper.specs.Refusals.{bad_range}
use Rattle.slices.proofs.Laws.{writes-refuse}
use Rattle.integers.specs.Integer.{limit}
use Rattle.integers.proofs.ByteOne.{held}
use Rattle.integers.proofs.Laws.{draft-bytes, draft-refuse}
use Rattle.integer_writers.proofs.writer.write.Goals as goal

pub returns-then-GREATEST-size : goal.returns-then-GREATEST-size
returns-then-GREATEST-size g c =
    let i = g.T.Integer in
    let m = i.shape.size c.args.value in
    let out : limit i.COUNT_BITS i.SIGN_BITS ≤ m = omega (arith, g.met.T.Integer.ends, c.GREATEST.ensures, c.if-GREATEST-size.true, ap (λ p. p.1) c.split-sign.ensures) in
    rw (draft-refuse i.COUNT_BITS i.SIGN_BITS (i.shape.sign c.args.value) m out) (writes-refuse bad_range _ _ _ c.refused.ensures refl)

pub put_fewest-requires : goal.put_fewest-requires
put_fewest-requires g c =
    let i = g.T.Integer in
    let law = g.met.T.Integer in
    let m = i.shape.size c.args.value in
    let inside : m < limit i.COUNT_BITS i.SIGN_BITS = omega (arith, law.ends, c.GREATEST.ensures, c.if-GREATEST-size.false, ap (λ p. p.1) c.split-sign.ensures) in
    let h = held i.COUNT_BITS i.SIGN_BITS m law.shared.1 (omega (arith, law.shared)) inside in
    rw (c.signs.ensures, c.tops.ensures, c.split-sign.ensures) (law.sign_fits c.args.value, h.fits, h.counted)

pub returns : goal.returns
returns g c =
    let i = g.T.Integer in
    let m = i.shape.size c.args.value in
    let inside : m < limit i.COUNT_BITS i.SIGN_BITS = omega (arith, g.met.T.Integer.ends, c.GREATEST.ensures, c.if-GREATEST-size.false, ap (λ p. p.1) c.split-sign.ensures) in
    rw (draft-bytes i.COUNT_BITS i.SIGN_BITS (i.shape.sign c.args.value) m inside)
    (rw (c.signs.ensures, c.tops.ensures, c.split-sign.ensures) at c.put_fewest.ensures)
