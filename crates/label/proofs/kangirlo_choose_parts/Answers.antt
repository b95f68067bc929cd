use Rattle.std.proofs.Common.{◌∙◌, ◌^◌, ◌<◌, ap, arith, true, false, ℕ, length}
use Rattle.presses.specs.Buttons.{hit_in}
use Rattle.presses.specs.Turns.{begun_at, went_to, driven}
use Rattle.presses.proofs.Concluding.{chosen_is}
use Rattle.label.proofs.kangirlo_choose_parts.Goals as goal

pub returns : goal.returns
returns c =
    let hit = hit_in c.args.buttons.now in
    let fits : length c.args.records.now < 2 ^ 64 = omega arith in
    chosen_is hit (record { states = c.args.states.now; pressed = c.args.pressed.now }) c.args.records.now c.args.choices.now c.drive-tried.new.choices c.drive-run.new.choices
    c.drive-tried.new.states c.drive-tried.new.pressed c.drive-run.new.states c.drive-run.new.pressed c.drive-tried.result c.drive-run.result c.number_of-refusal.result c.conclude.result fits
    (c.drive-tried.ensures ∙ ap (λ (k : ℕ). driven hit c.args.records.now false (went_to c.args.states.now c.args.pressed.now (begun_at k) c.args.choices.now)) c.counting_from-from.ensures)
    (c.number_of-refusal.ensures ∙ c.rule.ensures)
    (c.drive-run.ensures ∙ ap (λ (k : ℕ). driven hit c.args.records.now true (went_to c.args.states.now c.args.pressed.now (begun_at k) c.drive-tried.new.choices)) c.writing_from-start.ensures)
    c.conclude.ensures
