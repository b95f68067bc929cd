-- What one message writes: whole records, as many as are answered, within its room and within 48 KiB; with 48 KiB it has room.
-- Assumes nothing.
use Prim.Native.Nat.{ℕ, ◌+◌, ◌*◌, ◌/◌, ◌≤◌}
use mathlib.Core.Path.{◌≡◌, refl, ap, ◌∙◌}
use mathlib.Core.Bool.{Bool, true, false, cond}
use mathlib.Core.List.{List, [], ◌∷◌}
use native.Mathlib.Omega.{arith}
use borrow.Author.Tests.{eqb-true, eqb-false, leb-true, leb-false}
use lib.Dec.{eqb, leb}
use lib.ListN.{length, length-append, length-set}
use Rattle.paper.specs.Refusals.{no_room}
use Rattle.slices.specs.Writing.{bytes, refuse, given}
use Rattle.formats.specs.Format.{Got, got, bad}
use Rattle.formats.proofs.Refusing.{Tame}
use Rattle.states.specs.Table.{out, hovering}
use Rattle.house.specs.Fields.{record_bytes}
use Rattle.house.specs.declared.Contact.{Contact}
use Rattle.house.proofs.Round.{length-contact}
use Rattle.framing.specs.Frame.{Frame, timed_frames}
use Rattle.frame_records.proofs.Laws.{length-frame}
use Rattle.machine.specs.Rules.{Rules}
use Rattle.machine.specs.Table.{Table, contacts, state_at, origin, with_contact}
use Rattle.machine.specs.Machine.{Machine, Verdict, injected, ignored, cancelled, verdict, bytes_for, step_machine, step_bytes, run_machine, run_bytes, dismiss_table, dismiss_bytes}
use Rattle.machine.proofs.Machine.{cancels-from-length, keep-bytes}
use Rattle.moves.proofs.Dismissal.{dismiss-length}
use Rattle.stream.specs.Set.{Happening}
use Rattle.receiver.specs.declared.Receiver.{Receiver}
use Rattle.receiver.specs.declared.Answer.{Answer}
use Rattle.receiver.specs.Limits.{most_output}
use Rattle.receiver.specs.Receive.{rules_of, machine_of, judged, Effect, touched, effect, draft_of, refusal, answer_of, answer_after, untimed}
use Rattle.receiver.specs.History.{Sent, next, answer_to, wrote, written_by}
use Rattle.receiver.proofs.Became.{Became, became, refused, settles, touches, dismisses}
use Rattle.receiver.proofs.Bound.{no-message-writes-more}
use Rattle.receiver.proofs.Streaming.{bytes-touched, machine-touched}
use Rattle.receiver.proofs.Refusing.{Listed, not-room, effect-tame}
use Rattle.receiver.proofs.Weight.{verdict-long}
use Rattle.contacts.specs.Touch.{touch_view}

-- ---- whole records

record Records (n : ℕ) : Type 0 where
  count : ℕ
  is : n ≡ record_bytes * count

shared : (n : ℕ) → Records n → record_bytes * (n / record_bytes) ≡ n
shared n k = omega (arith, k.is)

verdict-records : (m : Machine) (f : Frame Contact) (v : Verdict) → Records (length (bytes_for touch_view v m f))
verdict-records m f injected = record { count = length f.contacts + 1; is = length-frame f }
verdict-records m f ignored = record { count = 0; is = refl }
verdict-records m f cancelled = record { count = _; is = cancels-from-length touch_view m.table length-contact 0 contacts }

run-records : (rules : Rules Contact) (m : Machine) (fs : List (Frame Contact)) → Records (length (run_bytes touch_view rules m fs))
unfolding run_bytes step_bytes
run-records rules m [] = record { count = 0; is = refl }
run-records rules m (f ∷ fs) =
    let a = verdict-records m f (verdict touch_view rules m f.contacts) in
    let b = run-records rules (step_machine touch_view rules m f) fs in
    record { count = a.count + b.count; is = rw length-append (omega (arith, a.is, b.is)) }

dismiss-records : (t : Table) (id : ℕ) → Records (length (dismiss_bytes touch_view t id))
dismiss-records t id = go (eqb (state_at t id) hovering) refl
  where
    go : (b : Bool) → eqb (state_at t id) hovering ≡ b → Records (length (dismiss_bytes touch_view t id))
    go true e = record { count = 1; is = dismiss-length t id (eqb-true (state_at t id) hovering e) }
    go false e = record { count = 0; is = ap length (keep-bytes touch_view t id (eqb-false (state_at t id) hovering e)) }

became-records : (r : Receiver) (l : List ℕ) {q : Receiver} {s : List ℕ} {a : Answer} {fs : List (Frame Contact)} {ds : List (Happening Contact)} → Became r l q s a fs ds → record_bytes * a.records ≡ length s
became-records r l (refused n) = refl
became-records r l (settles s o) = refl
became-records r l (touches m t o e) =
    shared (length (touched r m).bytes) (rw (bytes-touched r m) (run-records (rules_of r) (machine_of r) (timed_frames (untimed r) m.frames)))
became-records r l (dismisses id t o e) = shared _ (dismiss-records (machine_of r).table id)

-- "records written"
pub records-written : (r : Receiver) (x : Sent) → record_bytes * (answer_to r x).records ≡ length (wrote r x)
records-written r x = became-records r x.message (became r x)

-- ---- within its room, and within 48 KiB

pub wrote-room : (r : Receiver) (x : Sent) → length (wrote r x) ≤ x.room
unfolding wrote given
wrote-room r x = go (effect r x.message)
  where
    by : (s : List ℕ) (b : Bool) → leb (length s) x.room ≡ b → length (written_by (cond b (bytes s) (refuse no_room))) ≤ x.room
    by s true e = leb-true _ _ e
    by s false e = omega arith

    go : (y : Got Effect) → length (written_by (given x.room (draft_of y))) ≤ x.room
    go (got e t) = by e.bytes (leb (length e.bytes) x.room) refl
    go (bad n) = omega arith

module _ (r : Receiver) (h : length r.states ≡ contacts) (x : Sent) where
  pub wrote-small : length (wrote r x) ≤ most_output
  unfolding wrote given
  wrote-small = go (effect r x.message) refl
    where
      by : (s : List ℕ) (b : Bool) → length s ≤ most_output → length (written_by (cond b (bytes s) (refuse no_room))) ≤ most_output
      by s true k = k
      by s false k = omega arith

      go : (y : Got Effect) → effect r x.message ≡ y → length (written_by (given x.room (draft_of y))) ≤ most_output
      go (got e t) w = by e.bytes (leb (length e.bytes) x.room) (no-message-writes-more r h x.message e t w)
      go (bad n) w = omega arith

  -- 13 is not answered
  pub has_room : most_output ≤ x.room → (answer_to r x).refusal ≡ no_room → ⊥
  unfolding answer_to answer_after
  has_room room = go (effect r x.message) refl (effect-tame r x.message)
    where
      by : (e : Effect) (b : Bool) → leb (length e.bytes) x.room ≡ b → length e.bytes ≤ most_output → (cond b (answer_of e) (refusal no_room)).refusal ≡ no_room → ⊥
      by e true w k z = omega arith
      by e false w k z = omega (arith, leb-false (length e.bytes) x.room w)

      go : (y : Got Effect) → effect r x.message ≡ y → Tame (Listed false (judged r)) y → (answer_after y x.room).refusal ≡ no_room → ⊥
      go (got e t) w k z = by e (leb (length e.bytes) x.room) refl (no-message-writes-more r h x.message e t w) z
      go (bad n) w k z = not-room (judged r) (rw z at k)

-- ---- all contacts are kept

run_long : (rules : Rules Contact) (m : Machine) (fs : List (Frame Contact)) → length m.table.states ≡ contacts → length (run_machine touch_view rules m fs).table.states ≡ contacts
unfolding run_machine step_machine
run_long rules m [] h = h
run_long rules m (f ∷ fs) h = run_long rules (step_machine touch_view rules m f) fs (verdict-long rules m f.contacts (verdict touch_view rules m f.contacts) h)

dismiss-long : (t : Table) (id : ℕ) → length t.states ≡ contacts → length (dismiss_table t id).states ≡ contacts
unfolding dismiss_table with_contact
dismiss-long t id h = go (eqb (state_at t id) hovering)
  where
    go : (b : Bool) → length (cond b (with_contact t id out origin) t).states ≡ contacts
    go true = simp length-set h
    go false = h

became-long : (r : Receiver) (l : List ℕ) {q : Receiver} {s : List ℕ} {a : Answer} {fs : List (Frame Contact)} {ds : List (Happening Contact)} → length r.states ≡ contacts → Became r l q s a fs ds → length q.states ≡ contacts
became-long r l h (refused n) = h
became-long r l h (settles s o) = h
became-long r l h (touches m t o e) =
    ap (λ (n : Machine). length n.table.states) (machine-touched r m) ∙ run_long (rules_of r) (machine_of r) (timed_frames (untimed r) m.frames) h
became-long r l h (dismisses id t o e) = dismiss-long (machine_of r).table id h

pub next-long : (r : Receiver) → length r.states ≡ contacts → (x : Sent) → length (next r x).states ≡ contacts
next-long r h x = became-long r x.message h (became r x)
