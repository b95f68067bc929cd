-- `unpacking::is_spare_zero` meets its contract: the length and then the kind pick the case.
-- Assumes nothing.
use mathlib.Core.Path.{◌≡◌, sym, ◌∙◌}
use lib.ListN.{take}
use borrow.Author.Tests.{eq-eqb, ne_eqb, le-leb, lt-leb}
use Rattle.house.specs.Layout.{spare_zero, kind_of}
use Rattle.unpacking.proofs.is_spare_zero.Goals as goal

pub returns-in_default : goal.returns-in_default
unfolding spare_zero
returns-in_default c = rw (lt-leb _ _ c.in_default.ensures.cases)

pub returns-then-kind-eq-HEAD : goal.returns-then-kind-eq-HEAD
unfolding spare_zero
returns-then-kind-eq-HEAD c =
    let first = c.in-Some.ensures.cases in
    let kind : kind_of (take 21 c.args.records.now) ≡ 0 = rw first.same at (sym c.read_kind-kind.ensures) ∙ c.if-kind-eq-HEAD.true in
    rw (le-leb _ _ first.enough, eq-eqb _ 0 kind) (rw first.same at c.is_head_spare_zero.ensures)

pub returns : goal.returns
unfolding spare_zero
returns c =
    let first = c.in-Some.ensures.cases in
    let kind : c.read_kind-kind.result ≡ kind_of (take 21 c.args.records.now) = rw first.same at c.read_kind-kind.ensures in
    rw (le-leb _ _ first.enough, ne_eqb _ 0 (λ z. c.if-kind-eq-HEAD.false (kind ∙ z))) (rw first.same at c.is_contact_spare_zero.ensures)
