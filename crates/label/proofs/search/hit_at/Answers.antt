-- `label::search::hit_at` meets its contract.
-- Assumes nothing.
use Rattle.std.proofs.Common.{◌∙◌, ap, rules}
use mir.Syntax.{w32}
use mir.Val.{SFits}
use Rattle.presses.specs.Buttons.{first_holding}
use Rattle.label.proofs.Places.{hit-due, hit-none, point-is}
use Rattle.label.proofs.search.hit_at.Goals as goal

pub returns-then-look : goal.returns-then-look
returns-then-look c =
    let p = c.look_at-look.result.point in
    let fx : SFits w32 p.x = search rules in
    let fy : SFits w32 p.y = search rules in
    c.hit_of.ensures ∙ hit-due c.args.buttons.now c.args.records.now c.args.at c.look_at-look.result c.kangirlo_button_at-place.result c.look_at-look.ensures c.if-look.true
    (c.kangirlo_button_at-place.ensures ∙ ap (first_holding c.args.buttons.now) (point-is p.x p.y fx fy))

pub returns-else-look : goal.returns-else-look
returns-else-look c = c.none_hit.ensures ∙ hit-none c.args.buttons.now c.args.records.now c.args.at c.look_at-look.result c.look_at-look.ensures c.if-look.false
