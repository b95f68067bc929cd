-- `feed::next_entry` meets its contract: what it hands out is what the filled window has.
-- Assumes nothing.
use mathlib.Core.Path.{◌∙◌}
use Rattle.feed.proofs.Handing.{front-within, handed-front}
use Rattle.feed.proofs.next_entry.Goals as goal

pub returns : goal.returns
returns c =
    let f = c.fill-filled in
    let n = c.entry_in.ensures in
    record { filled = f.result; fills = f.ensures; next = n ∙ handed-front _ _ c.if-filled.false; within = rw n (front-within _ _ f.ensures.window) }
