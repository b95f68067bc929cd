-- `writing::message::write_message` meets its contract: the header, and the body behind it.
-- Assumes nothing.
use mathlib.Core.Path.{refl}
use mathlib.Core.List.{◌++◌}
use native.Mathlib.Omega.{arith}
use Rattle.formats.specs.Format.{write_little}
use Rattle.slices.proofs.Laws.{writes-done}
use Rattle.message_writers.specs.Put.{Put}
use Rattle.messages.specs.Header.{header, header_bytes, touch}
use Rattle.messages.proofs.Laws.{header-long}
use Rattle.writing.specs.Spelling.{body_of}
use Rattle.writing.proofs.Putting.{Parted, put_both}
use Rattle.writing.proofs.message.write_message.Goals as goal

pub returns : goal.returns
unfolding write_little
returns c =
    let parted : let a = c.args in let b = body_of a.time a.frames a.count a.records.now in
    Parted (header touch a.total) b (header touch a.total ++ b) a.out.now =
    let a = c.args in
    record { same = refl; room = omega (arith, header-long touch a.total (body_of a.time a.frames a.count a.records.now), c.requires.2, c.requires.3) } in
    let headed : let a = c.args in Put (header touch a.total) header_bytes a.out.now c.write_header.new.out =
    record { count = refl; output = (writes-done _ _ _ _ c.write_header.ensures (omega arith)).output } in
    put_both parted headed c.write_body.ensures
