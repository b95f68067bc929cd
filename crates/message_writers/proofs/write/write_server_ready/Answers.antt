-- `message_writers::write::write_server_ready` meets its contract: 8, then 13, then the header and the version behind it.
-- Assumes nothing.
use mathlib.Core.Path.{◌≡◌, refl, sym, ◌∙◌}
use native.Mathlib.Omega.{arith}
use Rattle.formats.specs.Format.{write_little}
use mathlib.Core.Bool.{true}
use Rattle.paper.specs.Refusals.{bad_field}
use Rattle.slices.proofs.Laws.{writes-refuse}
use Rattle.messages.specs.Header.{server_ready}
use Rattle.messages.specs.Bodies.{version, version_listed}
use Rattle.message_writers.proofs.Writing.{Room, room, message-writes, message-none, server-draft, server-refused}
use Rattle.message_writers.proofs.write.write_server_ready.Goals as goal

pub returns-then-not-is_version : goal.returns-then-not-is_version
returns-then-not-is_version c =
    let k = c.is_version in
    rw (server-refused _ (sym k.ensures ∙ c.if-not-is_version.true)) (writes-refuse bad_field _ _ _ c.refused.ensures refl)

pub returns-then-out-lt-SERVER_READY_BYTES : goal.returns-then-out-lt-SERVER_READY_BYTES
unfolding write_little
returns-then-out-lt-SERVER_READY_BYTES c =
    let listed : version_listed c.args.version ≡ true =
    sym c.is_version.ensures ∙ c.if-not-is_version.false in
    rw (server-draft _ listed) (message-none server_ready version _ _ _ c.if-out-lt-SERVER_READY_BYTES.true c.refused-then-out-lt-SERVER_READY_BYTES.ensures)

pub put_four-requires : goal.put_four-requires
unfolding write_little
put_four-requires c =
    let after : Room c.put_header-at.new.out c.put_header-at.result 4 =
    room _ _ _ _ 4 c.put_header-at.ensures (omega arith) in
    after.next

pub returns : goal.returns
unfolding write_little
returns c =
    let listed : version_listed c.args.version ≡ true =
    sym c.is_version.ensures ∙ c.if-not-is_version.false in
    rw (server-draft _ listed)
    (message-writes server_ready version _ _ _ _ _ _ _ c.put_header-at.ensures c.put_four.ensures (omega arith) c.done.ensures)
