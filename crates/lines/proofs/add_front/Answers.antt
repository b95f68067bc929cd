-- `lines::add_front` meets its contract: a space and the bytes, or nothing.
-- Assumes nothing.
use borrow.Author.Tests.{eq-eqb, ne_eqb, le-leb, lt-leb}
use Rattle.lines.specs.Page.{front_text}
use Rattle.lines.proofs.Adding.{added_none, added_then}
use Rattle.lines.proofs.add_front.Goals as goal

pub returns-then-n-eq0 : goal.returns-then-n-eq0
unfolding front_text
returns-then-n-eq0 c = rw (eq-eqb _ _ c.if-n-eq0.true) (added_none _ _)

pub returns-then-bytes-n : goal.returns-then-bytes-n
unfolding front_text
returns-then-bytes-n c = rw (ne_eqb _ _ c.if-n-eq0.false, lt-leb _ _ c.if-bytes-n.true) (added_none _ _)

pub returns : goal.returns
unfolding front_text
returns c =
    let b = c.before.before.before.before.before.before.before in
    let e = b.before.before in
    rw (ne_eqb _ _ e.if-n-eq0.false, le-leb _ _ e.if-bytes-n.false) (added_then b.add_byte-digits.ensures c.add_hexes.ensures)
