use Rattle.std.proofs.Common.{◌≡◌, ℕ, ◌-◌, ◌<◌, ◌∙◌, sym, ap, arith, Bool, List, length}
use Rattle.house.specs.declared.Point.{Point}
use Rattle.presses.specs.Buttons.{hit_in}
use Rattle.presses.specs.declared.Hit.{Hit}
use Rattle.presses.specs.Turns.{Went, hit_at, went_to, went_on, driven}
use Rattle.presses.proofs.Driving.{turn, driven-on, driven-done, turn-nearer}
use Rattle.label.proofs.drive.drive.Goals as goal

-- a turn is the run's next one
turn-is : (hit : Point → Hit) (l : List ℕ) (writing : Bool) (w v : Went) (h : Hit) → v ≡ went_on h l writing w → h ≡ hit_at hit l w.run.at → v ≡ turn hit l writing w
turn-is hit l writing w v h e f = e ∙ ap (λ (k : Hit). went_on k l writing w) f

nearer : (hit : Point → Hit) (l : List ℕ) (writing : Bool) (w v : Went) → v ≡ turn hit l writing w → w.run.at < length l → length l - v.run.at < length l - w.run.at
nearer hit l writing w v e less =
    let a : v.run.at ≡ (turn hit l writing w).run.at = ap (λ (u : Went). u.run.at) e in
    omega (arith, turn-nearer hit l writing w less, a)

pub loop-tally-smaller : goal.loop-tally-smaller
loop-tally-smaller c =
    let w : Went = went_to c.loop-tally.states c.loop-tally.pressed c.loop-tally.tally c.loop-tally.choices in
    let v : Went = went_to c.go_on-tally.new.states c.go_on-tally.new.pressed c.go_on-tally.result c.go_on-tally.new.choices in
    let hit = hit_in c.args.buttons.now in
    nearer hit c.args.records.now c.args.writing w v (turn-is hit c.args.records.now c.args.writing w v c.hit_at-hit.result c.go_on-tally.ensures c.hit_at-hit.ensures) c.loop-tally-test.true

pub loop-tally-preserved : goal.loop-tally-preserved
loop-tally-preserved c =
    let w : Went = went_to c.loop-tally.states c.loop-tally.pressed c.loop-tally.tally c.loop-tally.choices in
    let v : Went = went_to c.go_on-tally.new.states c.go_on-tally.new.pressed c.go_on-tally.result c.go_on-tally.new.choices in
    let hit = hit_in c.args.buttons.now in
    ap (driven hit c.args.records.now c.args.writing) (turn-is hit c.args.records.now c.args.writing w v c.hit_at-hit.result c.go_on-tally.ensures c.hit_at-hit.ensures)
    ∙ sym (driven-on hit c.args.records.now c.args.writing w c.loop-tally-test.true) ∙ c.loop-tally.invariant

pub returns : goal.returns
returns c =
    let w : Went = went_to c.loop-tally.states c.loop-tally.pressed c.loop-tally.tally c.loop-tally.choices in
    sym (driven-done (hit_in c.args.buttons.now) c.args.records.now c.args.writing w c.loop-tally-test.false) ∙ c.loop-tally.invariant
