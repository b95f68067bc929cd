-- `runs::run_frames` meets its contract. The loop keeps: the frames that are left lead from the run as it is where all lead from its beginning.
-- Assumes nothing.
use Prim.Native.Nat.{◌+◌, ◌-◌, ◌≤◌, ◌<◌}
use mathlib.Core.Path.{◌≡◌, sym, ap, ◌∙◌}
use native.Mathlib.Omega.{arith}
use lib.ListN.{length}
use borrow.Rule.Slice.PartMut.{put_mid}
use Rattle.runs.specs.Runs.{Underway}
use Rattle.runs.proofs.Frames.{frames-end, frames-next}
use Rattle.runs.proofs.run_frames.Goals as goal

pub loop-preserved : goal.loop-preserved
loop-preserved c =
    let a = c.args in
    let p = c.loop in
    let b = c.step.ensures in
    let some : 0 < a.n - p.counter = omega arith in
    let fewer : a.n - (p.counter + 1) ≡ a.n - p.counter - 1 = omega arith in
    let g : length (put_mid p.pos (length p.out - p.pos) p.out c.step.new.out) ≡ length p.out = omega arith in (
      c.pass-pos.ensures.inside,
      omega (arith, b.frames, p.invariant.1),
      omega (arith, b.small, p.invariant.2),
      rw fewer (frames-next a.untimed a.wet a.most _ _ _ _ _ _ _ _ some _ _ c.find_head.ensures.value.0 c.find_head.ensures.value.1 _ c.timed-head.ensures _ _ b _ g c.pass-pos.ensures ∙ p.invariant.3),
    )

pub returns : goal.returns
returns c =
    let a = c.args in
    let p = c.loop in
    let none : a.n - p.counter ≤ 0 = omega arith in
    let e = sym (frames-end a.untimed a.wet a.most _ _ _ none) ∙ p.invariant.3 in
    record { small = omega (arith, p.invariant.2); run = ap (λ (u : Underway). u.run) e; arrays = ap (λ (u : Underway). u.arrays) e; output = ap (λ (u : Underway). u.output) e }
