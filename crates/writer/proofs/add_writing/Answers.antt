-- `writer::add_writing` meets its contract: the word, or what the writer answered and wrote.
-- Assumes nothing.
use mathlib.Core.Path.{refl}
use borrow.Author.Tests.{lt-leb}
use Rattle.slices.proofs.Tails.{tail-is}
use Rattle.writer.specs.Line.{said_of}
use Rattle.writer.proofs.Laws.{line-written}
use Rattle.writer.proofs.add_writing.Goals as goal

pub returns-then-entry-lt4 : goal.returns-then-entry-lt4
unfolding said_of
returns-then-entry-lt4 c = rw (lt-leb _ _ c.if-entry-lt4.true) c.add_text.ensures

pub returns : goal.returns
returns c =
    line-written c.args.entry.now _ _ _ _ _ _ _ _ _ c.write_touch-written.ensures (λ i. record { 0 = c.join_four.ensures i }) (tail-is c.args.entry.now 4) refl c.if-entry-lt4.false c.add_written.ensures
