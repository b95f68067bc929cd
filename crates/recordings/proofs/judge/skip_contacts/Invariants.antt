use Prim.Native.Nat.{◌-◌}
use mathlib.Core.Path.{◌≡◌}
use mathlib.Core.Bool.{false}
use Rattle.formats.specs.Format.{read_series}
use Rattle.formats.specs.Answer.{skipped}
use Rattle.recordings.proofs.Judged.{contact_by}
use Rattle.recordings.proofs.judge.skip_contacts.Given as goal

abbrev pub invariant-loop : goal.invariant-loop
invariant-loop l = skipped (read_series contact_by false (l.n - l.counter) l.left) ≡ skipped (read_series contact_by false l.n l.records)
