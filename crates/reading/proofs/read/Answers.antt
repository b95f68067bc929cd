-- `reading::read` meets its contract: the message is judged to its last byte, then the room, and only then is anything written.
-- Assumes nothing.
use Prim.Native.Nat.{ℕ, ◌*◌}
use mathlib.Core.Path.{◌≡◌, refl, sym, ap, ◌∙◌}
use mathlib.Core.List.{[]}
use native.Mathlib.Omega.{arith}
use lib.ListN.{length}
use Rattle.framing.specs.Frame.{frames_bytes}
use Rattle.framing.specs.declared.BodyHead.{BodyHead}
use Rattle.touch.specs.Touch.{touch_record}
use Rattle.frame_records.specs.Frames.{record_count}
use Rattle.frame_records.proofs.Laws.{length-frames}
use Rattle.reading.proofs.Answering.{plain-refused, plain-none, plain-read}
use Rattle.reading.proofs.read.Goals as goal
use Rattle.reading.proofs.read.Goals.{After-count_records-records}

-- the records that were counted are those of the frames
counted : (c : After-count_records-records) → c.count_records-records.result ≡ record_count c.in-Ok.ensures.message.frames
counted c = c.count_records-records.ensures.same _ [] c.in-Ok.ensures.frames

room : (c : After-count_records-records) → length (frames_bytes touch_record c.in-Ok.ensures.message.frames) ≡ 21 * c.count_records-records.result
room c = length-frames c.in-Ok.ensures.message.frames ∙ ap (λ (n : ℕ). 21 * n) (sym (counted c))

pub returns-in-Err : goal.returns-in-Err
returns-in-Err c = plain-refused _ _ _ _ _ _ c.in-Err.ensures c.refused.ensures refl

pub returns-then-output-records : goal.returns-then-output-records
returns-then-output-records c =
    let n = room (goal.at.returns-then-output-records c).After-count_records-records in
    plain-none _ _ _ _ _ c.in-Ok.ensures.message c.in-Ok.ensures.read (omega arith) c.refused-then-output-records.ensures refl

pub write_frames-requires : goal.write_frames-requires
write_frames-requires c =
    let n = room (goal.at.write_frames-requires c).After-count_records-records in
    record { whole = c.in-Ok.ensures.message.frames; read = c.in-Ok.ensures.frames; fits = omega arith }

pub returns : goal.returns
returns c =
    let s = (goal.at.returns c).After-count_records-records in
    let k = c.in-Ok.ensures in
    let n = room s in
    let t = ap (λ (h : BodyHead). h.time) k.head in
    plain-read _ _ _ _ _ k.message k.read (omega arith) (λ i. record { refusal = 0; time = t i; records = counted s i }) (c.write_frames.ensures k.message.frames [] k.frames)
