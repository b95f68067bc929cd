-- `message_writers::write::write_client_ready` meets its contract: 8 for the flags, 8 for the version, then 13, then the header and the body behind it.
-- Assumes nothing.
use mathlib.Core.Path.{◌≡◌, refl, sym, ◌∙◌}
use native.Mathlib.Omega.{arith}
use Rattle.formats.specs.Format.{write_little}
use mathlib.Core.Bool.{true}
use borrow.Author.Tests.{lt-ltb, le-ltb}
use Rattle.paper.specs.Refusals.{bad_field}
use Rattle.slices.proofs.Laws.{writes-refuse}
use Rattle.messages.specs.Header.{client_ready}
use Rattle.messages.specs.Bodies.{ready_by, ready, version_listed, flags_listed}
use Rattle.message_writers.proofs.Writing.{Room, room, message-writes, message-none, client-draft, client-flags, client-version}
use Rattle.message_writers.proofs.write.write_client_ready.Goals as goal

pub returns-then-settings-ge-FLAGS_END : goal.returns-then-settings-ge-FLAGS_END
returns-then-settings-ge-FLAGS_END c = rw (client-flags _ (le-ltb _ _ c.if-settings-ge-FLAGS_END.true)) (writes-refuse bad_field _ _ _ c.refused.ensures refl)

pub returns-then-not-is_version : goal.returns-then-not-is_version
returns-then-not-is_version c =
    let flags : flags_listed c.args.settings.flags ≡ true =
    lt-ltb _ _ c.if-settings-ge-FLAGS_END.false in
    let no = sym c.is_version.ensures ∙ c.if-not-is_version.true in
    rw (client-version c.args.settings flags no) (writes-refuse bad_field _ _ _ c.refused-then-not-is_version.ensures refl)

pub returns-then-out-lt-CLIENT_READY_BYTES : goal.returns-then-out-lt-CLIENT_READY_BYTES
unfolding ready_by write_little
returns-then-out-lt-CLIENT_READY_BYTES c =
    let flags : flags_listed c.args.settings.flags ≡ true =
    lt-ltb _ _ c.if-settings-ge-FLAGS_END.false in
    let listed : version_listed c.args.settings.version ≡ true =
    sym c.is_version.ensures ∙ c.if-not-is_version.false in
    rw (client-draft c.args.settings flags listed) (message-none client_ready ready _ _ _ c.if-out-lt-CLIENT_READY_BYTES.true c.refused-then-out-lt-CLIENT_READY_BYTES.ensures)

pub put_ready-requires : goal.put_ready-requires
unfolding write_little
put_ready-requires c =
    let after : Room c.put_header-at.new.out c.put_header-at.result 10 =
    room _ _ _ _ 10 c.put_header-at.ensures (omega arith) in
    after.next

pub returns : goal.returns
unfolding ready_by write_little
returns c =
    let flags : flags_listed c.args.settings.flags ≡ true =
    lt-ltb _ _ c.if-settings-ge-FLAGS_END.false in
    let listed : version_listed c.args.settings.version ≡ true =
    sym c.is_version.ensures ∙ c.if-not-is_version.false in
    rw (client-draft c.args.settings flags listed)
    (message-writes client_ready ready _ _ _ _ _ _ _ c.put_header-at.ensures c.put_ready.ensures (omega arith) c.done.ensures)
