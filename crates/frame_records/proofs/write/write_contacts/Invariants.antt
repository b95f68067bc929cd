use Prim.Native.Nat.{◌-◌}
use Rattle.frame_records.proofs.Contacts.{Laying}
use Rattle.frame_records.proofs.write.write_contacts.Given as goal

abbrev pub invariant-loop : goal.invariant-loop
invariant-loop l = Laying l.n l.rest l.initial.out l.out l.pos l.left (l.n - l.counter)
