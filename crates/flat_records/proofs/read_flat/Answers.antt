-- `flat_records::read_flat` meets its contract: being well formed picks the case.
-- Assumes nothing.
use mathlib.Core.Path.{◌≡◌, sym, ap, ◌∙◌}
use Rattle.well_formed.specs.WellFormed.{well_formed}
use Rattle.well_formed.proofs.Front.{well-read}
use Rattle.flat_records.specs.Flat.{flat, flattened, refused}
use Rattle.flat_records.proofs.read_flat.Goals as goal

pub returns-then-is_well_formed : goal.returns-then-is_well_formed
unfolding flat
returns-then-is_well_formed c =
    let judged : c.is_well_formed.result ≡ well_formed c.args.records.now =
    c.is_well_formed.ensures ∙ well-read _ _ c.read_record-read.ensures in
    let k = c.before in
    rw (sym judged ∙ k.if-is_well_formed.true) (c.flatten.ensures ∙ ap flattened k.read_record-read.ensures)

pub returns : goal.returns
unfolding flat
returns c =
    let judged : c.is_well_formed.result ≡ well_formed c.args.records.now =
    c.is_well_formed.ensures ∙ well-read _ _ c.read_record-read.ensures in
    rw (sym judged ∙ c.if-is_well_formed.false) (c.refused.ensures ∙ ap refused c.number.ensures)
