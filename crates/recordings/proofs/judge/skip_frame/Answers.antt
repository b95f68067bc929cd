-- `recordings::judge::skip_frame` meets its contract: a head and as many contacts as follow it.
-- Assumes nothing.
use mathlib.Core.Path.{◌≡◌, sym, ap, ◌∙◌}
use lib.ListN.{drop}
use Rattle.formats.specs.Format.{times}
use Rattle.formats.specs.Answer.{skip, skipped}
use Rattle.formats.proofs.Steps.{tail}
use Rattle.recordings.specs.Records.{stands, contact_record}
use Rattle.recordings.specs.Answer.{contacts_after}
use Rattle.recordings.proofs.Judged.{stands_read, frame-end, frame-fails}
use Rattle.recordings.proofs.Records.{stood}
use Rattle.recordings.proofs.judge.skip_frame.Goals as goal
use Rattle.recordings.proofs.judge.skip_frame.Goals.{After-is_of_kind}

judged : (c : After-is_of_kind) → c.is_of_kind.result ≡ stands 0 c.args.records.now
judged c = c.is_of_kind.ensures ∙ stands_read 0 _ _ c.read_record-found.ensures

pub returns-then-not-is_of_kind : goal.returns-then-not-is_of_kind
returns-then-not-is_of_kind c =
    let j = judged (goal.at.returns-then-not-is_of_kind c).After-is_of_kind in
    sym (ap skipped (frame-fails _ (sym j ∙ c.if-not-is_of_kind.true)))

pub slice_bounds-skip_contacts-count : goal.slice_bounds-skip_contacts-count
slice_bounds-skip_contacts-count c =
    let j = judged (goal.at.slice_bounds-skip_contacts-count c).After-is_of_kind in
    (stood 0 _ (sym j ∙ c.if-not-is_of_kind.false)).long

pub slice_bounds-skip_contacts-start : goal.slice_bounds-skip_contacts-start
slice_bounds-skip_contacts-start c =
    let j = judged (goal.at.slice_bounds-skip_contacts-start c).After-is_of_kind in
    (stood 0 _ (sym j ∙ c.if-not-is_of_kind.false)).long

pub returns : goal.returns
returns c =
    let l = c.args.records.now in
    let j = judged (goal.at.returns c).After-is_of_kind in
    let n = c.contacts_after-count.ensures ∙ ap contacts_after c.read_record-found.ensures in
    let ends = frame-end l (sym j ∙ c.if-not-is_of_kind.false) in
    rw (tail l 21) at c.skip_contacts.ensures ∙ ap (λ k. (skip (times k contact_record)).read (drop 21 l)) n ∙ sym ends
