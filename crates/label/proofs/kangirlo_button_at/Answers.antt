-- `label::kangirlo_button_at` meets its contract.
-- Assumes nothing.
use Rattle.std.proofs.Common.{◌∙◌, ap, length, rules}
use Rattle.std.specs.Option.{unwrap_or}
use borrow.Author.Tests.{tests}
use Rattle.std.proofs.lemmas.Iterator.{YieldsList-from_slice}
use Rattle.std.proofs.lemmas.Iterator.Search.{position_from_yields_List}
use Rattle.house.specs.declared.Point.{Point}
use Rattle.presses.specs.Buttons.{holds}
use Rattle.label.proofs.Places.{first-found, record_point}
use Rattle.label.proofs.kangirlo_button_at.Goals as goal

pub returns : goal.returns
returns c =
    let p : Point = record_point c.args.x c.args.y in
    let found = position_from_yields_List (λ b. holds b p) _ _ c.position.result c.position.ensures.ran (YieldsList-from_slice c.args.buttons.now c.iter.ensures.rest) (λ x b q k. search (rules, tests)) in
    c.unwrap_or.ensures ∙ ap (λ r. unwrap_or r (length c.args.buttons.now)) found ∙ first-found c.args.buttons.now p
