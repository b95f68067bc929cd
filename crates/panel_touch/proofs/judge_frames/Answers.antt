-- `panel_touch::judge_frames` meets its contract.
-- Assumes nothing.
use mathlib.Core.Path.{◌∙◌}
use Rattle.panel_checks.proofs.Offsets.{first-stands}
use Rattle.panel_touch.proofs.Faulting.{fault-offset, fault-none}
use Rattle.contacts.specs.Ruling.{table_from}
use Rattle.panels.specs.Panel.{panel_of_parts}
use Rattle.panel_touch.proofs.judge_frames.Goals as goal

pub returns-then-not-offset_stands : goal.returns-then-not-offset_stands
returns-then-not-offset_stands c =
    fault-offset _ _ _ _ c.run_through.ensures c.if-not-run_through.false _ (λ fs rest e. c.offset_stands.ensures ∙ first-stands (panel_of_parts c.args.marks (table_from c.args.states.now c.args.xs.now c.args.ys.now)) _ fs rest e) c.if-not-offset_stands.true

pub returns : goal.returns
returns c =
    fault-none _ _ _ _ c.run_through.ensures c.if-not-run_through.false _ (λ fs rest e. c.offset_stands.ensures ∙ first-stands (panel_of_parts c.args.marks (table_from c.args.states.now c.args.xs.now c.args.ys.now)) _ fs rest e) c.if-not-offset_stands.false
