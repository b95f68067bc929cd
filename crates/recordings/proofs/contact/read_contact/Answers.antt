-- `recordings::contact::read_contact` meets its contract: the record that was read is a contact's, and what is behind it is left.
-- Assumes nothing.
use mathlib.Core.Path.{◌≡◌, sym, ap, ◌∙◌}
use mathlib.Core.Bool.{true}
use lib.ListN.{take, drop}
use Rattle.std.proofs.Common.{rules}
use Rattle.formats.specs.Format.{got}
use Rattle.formats.proofs.Steps.{tail}
use Rattle.house.specs.Layout.{contact_of}
use Rattle.house.specs.declared.Record.TheVariants as Record
use Rattle.recordings.specs.Records.{stands}
use Rattle.recordings.proofs.Records.{stood, contact-is}
use Rattle.recordings.proofs.Judged.{stands_read, contact-stands, contact-fails}
use Rattle.recordings.proofs.contact.read_contact.Goals as goal
use Rattle.recordings.proofs.contact.read_contact.Goals.{After-is_of_kind}

judged : (c : After-is_of_kind) → c.is_of_kind.result ≡ stands 1 c.args.records.now
judged c = c.is_of_kind.ensures ∙ stands_read 1 _ _ c.read_record-found.ensures

pub returns-then-not-is_of_kind-clause-value : goal.returns-then-not-is_of_kind-clause-value
returns-then-not-is_of_kind-clause-value c =
    let j = judged (goal.at.returns-then-not-is_of_kind-clause-value c).After-is_of_kind in
    sym (contact-fails _ (sym j ∙ c.if-not-is_of_kind.true))

pub slice_bounds-result-count : goal.slice_bounds-result-count
slice_bounds-result-count c =
    let j = judged (goal.at.slice_bounds-result-count c).After-is_of_kind in
    (stood 1 _ (sym j ∙ c.if-not-is_of_kind.false)).long

pub slice_bounds-result-start : goal.slice_bounds-result-start
slice_bounds-result-start c =
    let j = judged (goal.at.slice_bounds-result-start c).After-is_of_kind in
    (stood 1 _ (sym j ∙ c.if-not-is_of_kind.false)).long

pub returns-in-Contact-clause-value : goal.returns-in-Contact-clause-value
returns-in-Contact-clause-value c =
    let l = c.args.records.now in
    let j = judged (goal.at.returns-in-Contact-clause-value c).After-is_of_kind in
    let touched : stands 1 l ≡ true = sym j ∙ c.if-not-is_of_kind.false in
    let is : c.read_record-found.result ≡ Record.Contact 1 (contact_of (take 21 l)) = c.read_record-found.ensures ∙ contact-is l (stood 1 l touched) in
    let same-record = sym c.in-Contact.is ∙ is in
    let same-contact : c.in-Contact.contact ≡ contact_of (take 21 l) = cc in
    rw (tail l 21) (ap (λ x. got x (drop 21 l)) same-contact ∙ sym (contact-stands l touched))

pub returns-in-Contact-clause-tail : goal.returns-in-Contact-clause-tail
returns-in-Contact-clause-tail c =
    let j = judged (goal.at.returns-in-Contact-clause-tail c).After-is_of_kind in
    let inside = (stood 1 _ (sym j ∙ c.if-not-is_of_kind.false)).long in
    search rules
