-- `packing::fill::fill_head` meets its contract: each field follows the last, and 96 zeros are 56 and 40.
-- Assumes nothing.
use mathlib.Core.Path.{refl}
use Rattle.packing.proofs.Filling.{puts_then, puts-all}
use Rattle.house.specs.Fields.{pack, packed}
use Rattle.house.specs.Layout.{head_fields, head_bytes}
use Rattle.house.proofs.Fields.{length-packed, zeros}
use Rattle.packing.proofs.fill.fill_head.Goals as goal

pub returns : goal.returns
unfolding packed head_bytes
returns c =
    let fs = head_fields c.args.head in
    let three = puts_then (puts_then c.put.ensures c.put-2.ensures) c.put-3.ensures in
    rw (length-packed fs)
    (puts-all (pack fs) (puts_then (puts_then (puts_then three c.put-4.ensures) c.put-5.ensures) c.put-6.ensures) (λ i. (c.type_inv.out i).fits) c.requires refl (zeros _ 56 40))
