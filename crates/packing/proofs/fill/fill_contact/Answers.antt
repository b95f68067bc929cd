-- `packing::fill::fill_contact` meets its contract: the parts of the layout follow each other.
-- Assumes nothing.
use mathlib.Core.Path.{refl}
use Rattle.packing.proofs.Filling.{puts_then, puts-all}
use Rattle.house.specs.Fields.{pack, packed}
use Rattle.house.specs.Layout.{contact_fields, contact_bytes}
use Rattle.house.proofs.Fields.{length-packed}
use Rattle.packing.proofs.fill.fill_contact.Goals as goal

pub returns : goal.returns
unfolding packed contact_bytes
returns c =
    let fs = contact_fields c.args.kind c.args.contact in
    rw (length-packed fs)
    (puts-all (pack fs) (puts_then (puts_then (puts_then c.put_lead.ensures c.put_point.ensures) c.put_sides.ensures) c.put_last.ensures) (λ i. (c.type_inv.out i).fits) c.requires refl refl)
