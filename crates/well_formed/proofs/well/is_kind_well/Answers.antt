-- `well_formed::well::is_kind_well` meets its contract: each test picks a case of the rule.
-- Assumes nothing.
use lib.Dec.{eqb}
use borrow.Author.Tests.{eq-eqb, ne_eqb}
use Rattle.well_formed.specs.WellFormed.{kind_well}
use Rattle.well_formed.proofs.WellFormed.{or-cond}
use Rattle.well_formed.proofs.well.is_kind_well.Goals as goal

pub returns-then-kind-eq-TOUCHED : goal.returns-then-kind-eq-TOUCHED
unfolding kind_well
returns-then-kind-eq-TOUCHED c = rw (eq-eqb _ 1 c.if-kind-eq-TOUCHED.true)

pub returns-then-kind-eq-CANCELLED : goal.returns-then-kind-eq-CANCELLED
unfolding kind_well
returns-then-kind-eq-CANCELLED c =
    let t = c.before.before in
    let f = t.args.contact.flags in
    rw (ne_eqb _ 1 t.if-kind-eq-TOUCHED.false, eq-eqb _ 0 t.if-contact-eq0.true, eq-eqb _ 2 t.if-kind-eq-CANCELLED.true) (or-cond (eqb f 0x24) (eqb f 0x22))

pub returns-then-contact-eq0 : goal.returns-then-contact-eq0
unfolding kind_well
returns-then-contact-eq0 c =
    let t = c.before in
    rw (ne_eqb _ 1 t.if-kind-eq-TOUCHED.false, eq-eqb _ 0 t.if-contact-eq0.true, ne_eqb _ 2 t.if-kind-eq-CANCELLED.false)

pub returns : goal.returns
unfolding kind_well
returns c = rw (ne_eqb _ 1 c.if-kind-eq-TOUCHED.false, ne_eqb _ 0 c.if-contact-eq0.false)
