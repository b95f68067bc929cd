-- `bursts::receive_all_parts` meets its contract.
-- Assumes nothing.
use mathlib.Core.Path.{sym, ◌∙◌}
use Rattle.bursts.proofs.Receiving.{receives-all}
use Rattle.bursts.proofs.receive_all_parts.Goals as goal

pub returns : goal.returns
returns c =
    receives-all _ c.args.buffer.now _ c.args.answers.now _ c.args.output.now _ (sym c.is_batch.ensures ∙ c.if-not-is_batch.false) c.feed_parts-fed.ensures
