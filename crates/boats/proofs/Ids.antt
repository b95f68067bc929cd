-- The id of a contact in records is a byte, whatever the records are.
-- Assumes nothing.
use Prim.Native.Nat.{ℕ, zero, suc, ◌+◌, ◌/◌, ◌<◌}
use mathlib.Core.Bool.{Bool, true, false, cond}
use mathlib.Core.List.{List}
use lib.Dec.{leb, eqb}
use lib.ListN.{length, take, drop}
use Rattle.paper.specs.Refusals.{bad_record}
use Rattle.house.specs.Fields.{record_bytes}
use Rattle.house.specs.Layout.{kind_of, head_in, contact_of, record_of, head}
use Rattle.house.specs.Records as house
use Rattle.house.specs.declared.Record.{Record}
use Rattle.house.specs.declared.Record.TheVariants as Record
use Rattle.house.proofs.Round.{contact-fits}
use Rattle.machine.specs.Table.{contacts}
use Rattle.stream.specs.Asked.{All}
use Rattle.presses.specs.Choosing.{records_in}

abbrev pub Small : Record → Type 0
Small (Record.Head h) = Unit
Small (Record.Contact kind c) = c.id < contacts
Small (Record.Refused e) = Unit

small : (l : List ℕ) → Small (record_of l)
unfolding record_of
small l = go (leb record_bytes (length l)) (eqb (kind_of (take record_bytes l)) head)
  where
    go : (a b : Bool) → let s : List ℕ = take record_bytes l in Small (cond a (cond b (Record.Head (head_in s)) (Record.Contact (kind_of s) (contact_of s))) (Record.Refused bad_record))
    go true true = tt
    go true false = (contact-fits (take record_bytes l)).id
    go false b = tt

small-from : (n : ℕ) (l : List ℕ) → All Small (house.records_from record_of n l)
unfolding house.records_from
small-from zero l = tt
small-from (suc n) l = (small l, small-from n (drop record_bytes l))

pub all_small : (l : List ℕ) → All Small (records_in l)
unfolding house.records_in
all_small l = small-from ((length l + 20) / record_bytes) l
