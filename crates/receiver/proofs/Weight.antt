-- How many bytes the records of a message's frames take at most.
-- Assumes nothing.
use Prim.Native.Nat.{ℕ, zero, suc, ◌+◌, ◌*◌, ◌/◌, ◌≤◌}
use mathlib.Core.Path.{◌≡◌, ◌∙◌}
use mathlib.Core.List.{List, [], ◌∷◌}
use native.Mathlib.Omega.{arith}
use lib.Dec.{lit≤}
use lib.ListN.{length, set, length-append}
use Rattle.formats.specs.Format.{got}
use Rattle.fields.specs.Integers.{taken}
use Rattle.fields.proofs.Least.{taken-least}
use Rattle.house.specs.Fields.{record_bytes}
use Rattle.house.specs.declared.Contact.{Contact}
use Rattle.house.proofs.Round.{length-contact}
use Rattle.framing.specs.Frame.{Frame, timed_frames}
use Rattle.framing.proofs.Least.{weight, weight-timed, body-weight}
use Rattle.machine.specs.Rules.{Rules}
use Rattle.machine.specs.Table.{Table, contacts, active, with_contact, count_active}
use Rattle.machine.specs.Conforms.{next_of, moved, table_after}
use Rattle.machine.specs.Machine.{Machine, Verdict, injected, ignored, cancelled, verdict, machine_after, bytes_for, step_machine, step_bytes, run_bytes}
use Rattle.machine.proofs.Table.{one-le, count-le, resting-whole, resting-count}
use Rattle.machine.proofs.Machine.{cancels-length}
use Rattle.touch.specs.Limits.{touch_limits}
use Rattle.touch.specs.Touch.{Touch, contact, body}
use Rattle.touch.proofs.Least.{takes-contact}
use Rattle.frame_records.proofs.Laws.{length-frame}
use Rattle.contacts.specs.Touch.{touch_view}
use Rattle.machine.proofs.Conforms.{after-long}
use Rattle.receiver.specs.declared.Receiver.{Receiver}
use Rattle.receiver.specs.Receive.{rules_of, machine_of, untimed, judged, touched}

-- ---- the records of a run: a head and its contacts for an injected frame, and for a cancel those that are active, each of which was so before
-- or came with a contact

count_set : (ss : List ℕ) (id s : ℕ) → count_active (set ss id s) ≤ count_active ss + 1
unfolding count_active
count_set [] id s = omega arith
count_set (x ∷ ss) zero s = omega (arith, one-le (active s))
count_set (x ∷ ss) (suc id) s = omega (arith, count_set ss id s)

module _ (rules : Rules Contact) where
  pub after-count : (t : Table) (cs : List Contact) → count_active (table_after touch_view rules.next t cs).states ≤ count_active t.states + length cs
  unfolding table_after moved with_contact
  after-count t [] = omega arith
  after-count t (c ∷ cs) = omega (arith, after-count (moved touch_view rules.next t c) cs, count_set t.states c.id (next_of touch_view rules.next t c))

  verdict-weight : (m : Machine) (f : Frame Contact) (v : Verdict) → length m.table.states ≡ contacts
      → length (bytes_for touch_view v m f) + 21 * count_active (machine_after touch_view v rules.next m f.contacts).table.states ≤ 21 * (1 + 2 * length f.contacts + count_active m.table.states)
  verdict-weight m f injected h = omega (arith, length-frame f, after-count m.table f.contacts)
  verdict-weight m f ignored h = omega arith
  verdict-weight m f cancelled h = omega (arith, cancels-length touch_view m.table length-contact h, resting-count)

  pub verdict-long : (m : Machine) (cs : List Contact) (v : Verdict) → length m.table.states ≡ contacts → length (machine_after touch_view v rules.next m cs).table.states ≡ contacts
  verdict-long m cs injected h = after-long touch_view rules.next m.table cs ∙ h
  verdict-long m cs ignored h = h
  verdict-long m cs cancelled h = resting-whole.states

  pub run-weight : (m : Machine) (fs : List (Frame Contact)) → length m.table.states ≡ contacts → length (run_bytes touch_view rules m fs) ≤ 21 * (weight fs + count_active m.table.states)
  unfolding run_bytes weight step_machine step_bytes
  run-weight m [] h = omega arith
  run-weight m (f ∷ fs) h =
      let v = verdict touch_view rules m f.contacts in
      let a = verdict-weight m f v h in
      let b = run-weight (step_machine touch_view rules m f) fs (verdict-long m f.contacts v h) in
      rw length-append (omega (arith, a, b))

-- ---- a touch message: two bytes of its body give at most one record, beside a cancel for each contact

pub touch-small : (r : Receiver) → length r.states ≡ contacts → (b : List ℕ) (m : Touch) (t : List ℕ) → body taken (judged r) b ≡ got m t
    → length (touched r m).bytes ≤ record_bytes * (length b / 2 + contacts)
unfolding touched
touch-small r h b m t w =
    omega (arith, run-weight (rules_of r) (machine_of r) (timed_frames (untimed r) m.frames) h, weight-timed (untimed r) m.frames, body-weight taken taken-least touch_limits (contact taken) 5 (lit≤ tt) (takes-contact taken taken-least) (judged r) b m t w, count-le r.states)
