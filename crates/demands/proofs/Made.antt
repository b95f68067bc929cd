-- What a receiver writes is made of the records of frames that it read, of cancels and of dismissals: what is true of each of these, and of one
-- behind the other, is true of all that it writes.
-- Assumes nothing.
use Prim.Native.Nat.{ℕ, zero, suc, ◌+◌, ◌≤◌, ◌<◌}
use mathlib.Core.Path.{◌≡◌, refl}
use mathlib.Core.Bool.{Bool, true, false, cond}
use mathlib.Core.List.{List, [], ◌∷◌, ◌++◌}
use native.Mathlib.Omega.{arith}
use lib.Dec.{eqb, ltb, lit<, lit≤}
use lib.ListN.{drop}
use borrow.Author.Tests.{eqb-true, eqb-false, ltb-true, ltb-false}
use Rattle.digits.specs.Digits.{Bytes}
use Rattle.formats.specs.Format.{got}
use Rattle.states.specs.Table.{hovering, engaged, listed, place_of}
use Rattle.fields.specs.Integers.{taken}
use Rattle.house.specs.Layout.{cancelled, dismissed, contact_bytes}
use Rattle.house.specs.Fits.{ContactFits, no_sides}
use Rattle.house.specs.declared.Contact.{Contact}
use Rattle.house.specs.declared.Point.{Point}
use Rattle.well_formed.specs.WellFormed.{orientation_most, pressure_most, all, sides_well, at_most, contact_well, kind_well}
use Rattle.well_formed.proofs.WellFormed.{all_join}
use Rattle.messages.specs.Header.{header_bytes}
use Rattle.messages.specs.declared.Ready.{Ready}
use Rattle.framing.specs.Frame.{Frame, frame_bytes, timed_frames}
use Rattle.framing.specs.Whole.{Formed}
use Rattle.framing.proofs.Whole.{contact-formed}
use Rattle.touch.specs.Touch.{Touch, touch_record, body}
use Rattle.touch.proofs.Ranges.{ContactRead}
use Rattle.machine.specs.Table.{Table, contacts, state_at, place_at, active}
use Rattle.machine.specs.Machine.{Machine, cancel_flags, cancel_bytes, cancels_from, dismiss_bytes, step_machine, step_bytes, run_bytes}
use Rattle.machine.proofs.Machine.{cancel-active, cancel-out, dismiss-bytes, keep-bytes}
use Rattle.contacts.specs.Touch.{bare_contact, touch_view}
use Rattle.stream.specs.Asked.{All, FrameFits}
use Rattle.stream.proofs.Steadiness.{Sound, beyond, Steady, Judged, injects, ignores, judged, step-steady}
use Rattle.stream.proofs.Kept.{timed-fit}
use Rattle.stream.proofs.Paths.{cancel-small}
use Rattle.receiver.specs.Receive.{machine_of, untimed, touched, dismissed_by}
use Rattle.receiver.specs.Receive as receive
use Rattle.receiver.specs.History.{touch_profile}
use Rattle.receiver.specs.declared.Receiver.{Receiver}
use Rattle.receiver.proofs.Lawful.{OneOfThree, PlaceFits, bare-fits, touch-law}
use Rattle.receiver.proofs.Invariants.{Kept, message-read, frames-fit}
use Rattle.receiver.proofs.Streaming.{bytes-touched}

-- a record of kind 2 or 3, of a contact that fits it
pub record Stored (kind : ℕ) (c : Contact) : Type 0 where
  pub fits : ContactFits c
  pub formed : Formed kind (contact_bytes kind c)

-- what is true of the frames that were read and have Q, of the others, and of one behind the other
pub record Made (P : List ℕ → Type 0) (Q : Frame Contact → Type 0) : Type 0 where
  pub nothing : P []
  pub both : (a b : List ℕ) → P a → P b → P (a ++ b)
  pub frame : (f : Frame Contact) → FrameFits ContactRead f → Q f → P (frame_bytes touch_record f)
  pub cancel : (c : Contact) → Stored cancelled c → P (contact_bytes cancelled c)
  pub dismissal : (c : Contact) → Stored dismissed c → P (contact_bytes dismissed c)

-- ---- the records of a stored position

no-optional : all (sides_well false no_sides ∷ at_most false orientation_most 0 ∷ at_most false pressure_most 0 ∷ []) ≡ true
unfolding all sides_well
no-optional = refl

bare-well : (flags id : ℕ) (p : Point) → listed flags ≡ true → PlaceFits p → contact_well (bare_contact flags id p) ≡ true
unfolding contact_well
bare-well flags id p l h = all_join (listed flags) _ l (all_join _ _ h.x-well (all_join _ _ h.y-well no-optional))

cancel-listed : (s : ℕ) → listed (cancel_flags s) ≡ true
unfolding listed place_of
cancel-listed s = go (eqb s engaged)
  where
    go : (b : Bool) → listed (cond b 0x24 0x22) ≡ true
    go true = refl
    go false = refl

cancel-kind : (s id : ℕ) (p : Point) → kind_well cancelled (bare_contact (cancel_flags s) id p) ≡ true
unfolding kind_well
cancel-kind s id p = go (eqb s engaged)
  where
    go : (b : Bool) → cond (eqb (cond b 0x24 0x22) 0x24) true (eqb (cond b 0x24 0x22) 0x22) ≡ true
    go true = refl
    go false = refl

dismiss-listed : listed 0x02 ≡ true
unfolding listed place_of
dismiss-listed = refl

dismiss-kind : (id : ℕ) (p : Point) → kind_well dismissed (bare_contact 0x02 id p) ≡ true
unfolding kind_well
dismiss-kind id p = refl

-- of a table's contact
bare-stored : (t : Table) → Sound OneOfThree PlaceFits t → (kind flags id : ℕ) → 1 ≤ kind → kind < 4 → flags < 64 → id < contacts → listed flags ≡ true
    → kind_well kind (bare_contact flags id (place_at t id)) ≡ true → Stored kind (bare_contact flags id (place_at t id))
bare-stored t h kind flags id low high small l w k =
    let p = place_at t id in
    let f = (bare-fits flags id p small l (h.fits id)).fields in
    record { fits = f; formed = contact-formed kind (bare_contact flags id p) low high f (bare-well flags id p w (h.fits id)) k }

-- ---- what a message writes

module _ {P : List ℕ → Type 0} {Q : Frame Contact → Type 0} (made : Made P Q) where
  module _ (t : Table) (h : Sound OneOfThree PlaceFits t) where
    cancel-made : (id : ℕ) → id < contacts → P (cancel_bytes touch_view t id)
    cancel-made id l = go (active (state_at t id)) refl
      where
        go : (b : Bool) → active (state_at t id) ≡ b → P (cancel_bytes touch_view t id)
        go true e =
            let s = state_at t id in
            rw (cancel-active touch_view t id e)
            (made.cancel (bare_contact (cancel_flags s) id (place_at t id)) (bare-stored t h cancelled (cancel_flags s) id (lit≤ tt) (lit< tt) (cancel-small s) l (cancel-listed s) (cancel-kind s id (place_at t id))))
        go false e = rw (cancel-out touch_view t id e) made.nothing

    cancels-made : (n id : ℕ) → id + n ≤ contacts → P (cancels_from touch_view t id n)
    unfolding cancels_from
    cancels-made zero id l = made.nothing
    cancels-made (suc n) id l = made.both (cancel_bytes touch_view t id) (cancels_from touch_view t (suc id) n) (cancel-made id (omega arith)) (cancels-made n (suc id) (omega arith))

    dismissal-made : (id : ℕ) → P (dismiss_bytes touch_view t id)
    dismissal-made id = go (eqb (state_at t id) hovering) refl (ltb id contacts) refl
      where
        go : (b : Bool) → eqb (state_at t id) hovering ≡ b → (c : Bool) → ltb id contacts ≡ c → P (dismiss_bytes touch_view t id)
        go false e c l = rw (keep-bytes touch_view t id (eqb-false _ _ e)) made.nothing
        go true e false l =
            let z : state_at t id ≡ hovering = eqb-true _ _ e in
            absurd (omega (arith, beyond t id h.whole (ltb-false _ _ l)))
        go true e true l =
            rw (dismiss-bytes touch_view t id (eqb-true _ _ e))
            (made.dismissal (bare_contact 0x02 id (place_at t id)) (bare-stored t h dismissed 0x02 id (lit≤ tt) (lit< tt) (lit< tt) (ltb-true _ _ l) dismiss-listed (dismiss-kind id (place_at t id))))

  module _ (x : Ready) where
    step-made : (m : Machine) (f : Frame Contact) → Steady OneOfThree PlaceFits (touch_profile.rules x).most m → FrameFits ContactRead f → Q f → P (step_bytes touch_view (touch_profile.rules x) m f)
    step-made m f h k q = go (judged touch_view (touch_profile.rules x) m f)
      where
        go : {n : Machine} {s : List ℕ} → Judged touch_view (touch_profile.rules x) m f n s → P s
        go (injects c) = made.frame f k q
        go (ignores i) = made.nothing
        go Judged.cancels = cancels-made m.table h.table contacts 0 (lit≤ tt)

    run-made : (m : Machine) (fs : List (Frame Contact)) → Steady OneOfThree PlaceFits (touch_profile.rules x).most m → All (FrameFits ContactRead) fs → All Q fs → P (run_bytes touch_view (touch_profile.rules x) m fs)
    unfolding run_bytes
    run-made m [] h k q = made.nothing
    run-made m (f ∷ fs) h k q =
        let n = step_machine touch_view (touch_profile.rules x) m f in
        let fits = (frames-fit (f ∷ []) (k.0, tt)).0 in
        made.both (step_bytes touch_view (touch_profile.rules x) m f) (run_bytes touch_view (touch_profile.rules x) n fs) (step-made m f h k.0 q.0)
        (run-made n fs (step-steady touch-law x m f fits h) k.1 q.1)

  pub touched-made : (r : Receiver) (l : List ℕ) (m : Touch) (t : List ℕ) → Bytes l → Kept r → body taken (receive.judged r) (drop header_bytes l) ≡ got m t → All Q (timed_frames (untimed r) m.frames)
      → P (touched r m).bytes
  touched-made r l m t b k e q =
      rw (bytes-touched r m)
      (run-made r.settings (machine_of r) (timed_frames (untimed r) m.frames) k.stream (timed-fit ContactRead (untimed r) m.frames (message-read r l m t b e)) q)

  pub dismissed-made : (r : Receiver) (id : ℕ) → Kept r → P (dismissed_by r id).bytes
  dismissed-made r id k = dismissal-made (machine_of r).table k.stream.table id
