-- `recordings::judge::skip_contacts` meets its contract. The loop keeps: what is left, of as many contacts as are still to come, ends where the
-- whole ends.
-- Assumes nothing.
use Prim.Native.Nat.{ℕ, ◌+◌, ◌-◌, ◌<◌}
use mathlib.Core.Path.{◌≡◌, sym, ap, ◌∙◌}
use mathlib.Core.Bool.{false}
use native.Mathlib.Omega.{arith}
use lib.ListN.{drop}
use Rattle.formats.specs.Format.{read_series}
use Rattle.formats.specs.Answer.{skipped}
use Rattle.formats.proofs.Steps.{tail, series-end, series-got, series-bad}
use Rattle.recordings.proofs.Judged.{contact_by, contact-stands, contact-fails}
use Rattle.recordings.proofs.Records.{stood}
use Rattle.recordings.proofs.judge.skip_contacts.Goals as goal

pub returns-then-not-is_standing : goal.returns-then-not-is_standing
returns-then-not-is_standing c =
    let some : 0 < c.args.n - c.loop.counter = omega arith in
    let b = contact-fails _ (sym c.is_standing.ensures ∙ c.if-not-is_standing.true) in
    sym (ap skipped (series-bad contact_by false _ _ _ some b)) ∙ c.loop.invariant

pub slice_bounds-left-count : goal.slice_bounds-left-count
slice_bounds-left-count c = (stood 1 _ (sym c.is_standing.ensures ∙ c.if-not-is_standing.false)).long

pub slice_bounds-left-start : goal.slice_bounds-left-start
slice_bounds-left-start c = (stood 1 _ (sym c.is_standing.ensures ∙ c.if-not-is_standing.false)).long

pub loop-preserved : goal.loop-preserved
loop-preserved c =
    let some : 0 < c.args.n - c.loop.counter = omega arith in
    let left = c.loop.left.now in
    let g = contact-stands left (sym c.is_standing.ensures ∙ c.if-not-is_standing.false) in
    let fewer : c.args.n - (c.loop.counter + 1) ≡ c.args.n - c.loop.counter - 1 = omega arith in
    rw (tail left 21) (ap (λ (k : ℕ). skipped (read_series contact_by false k (drop 21 left))) fewer ∙ sym (series-got contact_by false _ left _ _ some g) ∙ c.loop.invariant)

pub returns : goal.returns
returns c = sym (ap skipped (series-end contact_by false (c.args.n - c.loop.counter) c.loop.left.now (omega arith))) ∙ c.loop.invariant
