-- `unpacking::read_record` meets its contract: the length and then the kind pick the case.
-- Assumes nothing.
use Rattle.house.specs.declared.Record.TheVariants as Record
use mathlib.Core.Path.{◌≡◌, sym, ap, ◌∙◌}
use lib.ListN.{take}
use borrow.Author.Tests.{eq-eqb, ne_eqb, le-leb, lt-leb}
use Rattle.house.specs.Layout.{record_of, kind_of, head_in, contact_of}
use Rattle.unpacking.proofs.read_record.Goals as goal

pub returns-in_default : goal.returns-in_default
unfolding record_of
returns-in_default c = rw (lt-leb _ _ c.in_default.ensures.cases) (ap Record.Refused c.number.ensures)

pub returns-then-kind-eq-HEAD : goal.returns-then-kind-eq-HEAD
unfolding record_of
returns-then-kind-eq-HEAD c =
    let first = c.in-Some.ensures.cases in
    let kind : kind_of (take 21 c.args.records.now) ≡ 0 = rw first.same at (sym c.read_kind-kind.ensures) ∙ c.if-kind-eq-HEAD.true in
    rw (le-leb _ _ first.enough, eq-eqb _ 0 kind) (ap Record.Head (c.read_head.ensures ∙ ap head_in first.same))

pub returns : goal.returns
unfolding record_of
returns c =
    let first = c.in-Some.ensures.cases in
    let kind : c.read_kind-kind.result ≡ kind_of (take 21 c.args.records.now) = rw first.same at c.read_kind-kind.ensures in
    let contact : c.read_contact.result ≡ contact_of (take 21 c.args.records.now) = rw first.same at c.read_contact.ensures in
    rw (le-leb _ _ first.enough, ne_eqb _ 0 (λ z. c.if-kind-eq-HEAD.false (kind ∙ z))) (λ i. Record.Contact (kind i) (contact i))
