-- `writing::message::judge` meets its contract: 10 and 14, then 7, 2 and 13.
-- Assumes nothing.
use Prim.Native.Nat.{◌/◌}
use mathlib.Core.Path.{◌≡◌, sym, ◌∙◌}
use native.Mathlib.Omega.{arith}
use lib.ListN.{length}
use Rattle.std.proofs.lemmas.Result.{err_from_is_err_and}
use Rattle.paper.specs.Refusals.{bad_count, too_long}
use Rattle.digits.specs.Digits.{Bytes}
use Rattle.slices.proofs.Laws.{given-none, given-refuse}
use Rattle.writing.proofs.Drafts.{spelled, spelled-long, draft-bad, Frames, frames-of, passed, draft-many, all-spelt, few-records, draft-long, draft-done}
use Rattle.writing.proofs.message.judge.Goals as goal
use Rattle.writing.proofs.message.judge.Goals.{In_ok-frames, After-message_bytes-total}

-- the frames that were counted
frames : (c : In_ok-frames) → Frames c.args.time c.args.records.now c.in_ok-frames.frames
frames c = frames-of c.args.time c.args.records.now _ c.in_ok-frames.ensures

-- the message that would be written
long : (c : After-message_bytes-total) → c.message_bytes-total.result ≡ length (spelled c.args.time c.in_ok-frames.frames (length c.args.records.now / 21) c.args.records.now)
long c = c.message_bytes-total.ensures ∙ sym (spelled-long c.args.time c.in_ok-frames.frames (length c.args.records.now / 21) c.args.records.now)

pub returns-in_err-frames : goal.returns-in_err-frames
returns-in_err-frames c =
    let p = err_from_is_err_and c.from_residual.result c.from_residual.ensures.1 in
    rw (p.1, p.2, draft-bad c.args.time c.args.records.now _ c.in_err-frames.ensures) (given-refuse _ c.args.room)

pub returns-then-frames-gt-FRAMES_MOST : goal.returns-then-frames-gt-FRAMES_MOST
returns-then-frames-gt-FRAMES_MOST c =
    let f = frames (goal.at.returns-then-frames-gt-FRAMES_MOST c).In_ok-frames in
    rw (draft-many c.args.time c.args.records.now _ f c.if-frames-gt-FRAMES_MOST.true) (given-refuse bad_count c.args.room)

pub message_bytes-total-requires : goal.message_bytes-total-requires
message_bytes-total-requires c =
    let f = frames (goal.at.message_bytes-total-requires c).In_ok-frames in
    let b : Bytes c.args.records.now = λ i. (c.type_inv.records i).fits in
    let few = c.if-frames-gt-FRAMES_MOST.false in
    (all-spelt c.args.time c.args.records.now _ f few b, few-records c.args.time c.args.records.now _ f few b)

pub returns-then-total-gt-MESSAGE_MOST : goal.returns-then-total-gt-MESSAGE_MOST
returns-then-total-gt-MESSAGE_MOST c =
    let f = frames (goal.at.returns-then-total-gt-MESSAGE_MOST c).In_ok-frames in
    let n = long (goal.at.returns-then-total-gt-MESSAGE_MOST c).After-message_bytes-total in
    let b : Bytes c.args.records.now = λ i. (c.type_inv.records i).fits in
    rw (draft-long c.args.time c.args.records.now _ f c.if-frames-gt-FRAMES_MOST.false b (omega (arith, n, c.if-total-gt-MESSAGE_MOST.true))) (given-refuse too_long c.args.room)

pub returns-then-room-total : goal.returns-then-room-total
returns-then-room-total c =
    let f = frames (goal.at.returns-then-room-total c).In_ok-frames in
    let n = long (goal.at.returns-then-room-total c).After-message_bytes-total in
    let b : Bytes c.args.records.now = λ i. (c.type_inv.records i).fits in
    rw (draft-done c.args.time c.args.records.now _ f c.if-frames-gt-FRAMES_MOST.false b (omega (arith, n, c.if-total-gt-MESSAGE_MOST.false)))
    (given-none _ c.args.room (omega (arith, n, c.if-room-total.true)))

pub returns : goal.returns
returns c =
    let f = frames (goal.at.returns c).In_ok-frames in
    let n = long (goal.at.returns c).After-message_bytes-total in
    let b : Bytes c.args.records.now = λ i. (c.type_inv.records i).fits in
    let few = c.if-frames-gt-FRAMES_MOST.false in
    record {
      early = (passed c.args.time c.args.records.now _ f).early;
      spelt = all-spelt c.args.time c.args.records.now _ f few b;
      total = c.message_bytes-total.ensures;
      draft = rw (← c.message_bytes-total.ensures) at (draft-done c.args.time c.args.records.now _ f few b (omega (arith, n, c.if-total-gt-MESSAGE_MOST.false)));
      most = c.if-total-gt-MESSAGE_MOST.false;
      fits = c.if-room-total.false;
    }
