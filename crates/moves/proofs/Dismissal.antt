-- What a dismissal writes and leaves: of a contact that does not hover, and of one that does, with room and without.
-- Assumes nothing.
use Prim.Native.Nat.{ℕ, ◌≤◌, ◌<◌}
use mathlib.Core.Path.{◌≡◌, refl, sym, ap, ◌∙◌}
use mathlib.Core.List.{List}
use native.Mathlib.Omega.{arith}
use borrow.Author.Tests.{le-leb, lt-leb}
use lib.ListN.{length}
use Rattle.paper.specs.Refusals.{none, no_room}
use Rattle.slices.specs.Writing.{bytes, Writes}
use Rattle.slices.specs.declared.Written.{Written}
use Rattle.slices.proofs.Laws.{writes-none}
use Rattle.states.specs.Table.{out, hovering}
use Rattle.house.proofs.Round.{length-contact}
use Rattle.house.specs.Layout.{contact_bytes, dismissed as dismiss_kind}
use Rattle.house.specs.declared.Contact.{Contact}
use Rattle.machine.specs.Table.{Table, state_at, place_at, with_contact, origin}
use Rattle.machine.specs.Machine.{dismiss_table, dismiss_bytes}
use Rattle.machine.proofs.Machine.{dismiss-table, dismiss-bytes, keep-table, keep-bytes}
use Rattle.contacts.specs.Touch.{bare_contact, touch_view}
use Rattle.moves.specs.Moves.{dismissed_in, Dismisses}
use Rattle.moves.proofs.Cancelling.{writes_nothing}

module _ (t : Table) (id : ℕ) where
  pub dismiss-length : state_at t id ≡ hovering → length (dismiss_bytes touch_view t id) ≡ 21
  dismiss-length h = ap length (dismiss-bytes touch_view t id h) ∙ length-contact dismiss_kind (bare_contact 0x02 id (place_at t id))

  dismissed-room : (room : ℕ) → length (dismiss_bytes touch_view t id) ≤ room → dismissed_in room t id ≡ dismiss_table t id
  unfolding dismissed_in
  dismissed-room room h = rw (le-leb _ _ h)

  dismissed-none : (room : ℕ) → room < length (dismiss_bytes touch_view t id) → dismissed_in room t id ≡ t
  unfolding dismissed_in
  dismissed-none room h = rw (lt-leb _ _ h)

  -- ---- the three ways of meeting the contract

  pub dismisses-nothing : (w : Written) (before : List ℕ) → w ≡ record { refusal = none; bytes = 0 } → (state_at t id ≡ hovering → ⊥) → Dismisses id w before before t t
  dismisses-nothing w before d h =
      let e = keep-bytes touch_view t id h in
      let l : length (dismiss_bytes touch_view t id) ≤ length before = rw e (omega arith) in
      record {
        writes = writes_nothing (dismiss_bytes touch_view t id) w before d e;
        table = sym (dismissed-room (length before) l ∙ keep-table t id h);
      }

  module _ (h : state_at t id ≡ hovering) where
    pub dismisses-none : (w : Written) (before : List ℕ) → w ≡ record { refusal = no_room; bytes = 0 } → length before < 21 → Dismisses id w before before t t
    dismisses-none w before d r =
        let l : length before < length (dismiss_bytes touch_view t id) = rw (dismiss-length h) r in
        record {
          writes = writes-none (dismiss_bytes touch_view t id) w before before l d refl;
          table = sym (dismissed-none (length before) l);
        }

    pub dismisses-record : (w : Written) (before after : List ℕ) (u : Table) (c : Contact) → 21 ≤ length before → c ≡ bare_contact 0x02 id (place_at t id) → u ≡ with_contact t id out origin
        → Writes (bytes (contact_bytes dismiss_kind c)) w before after → Dismisses id w before after t u
    dismisses-record w before after u c r e q d =
        let l : length (dismiss_bytes touch_view t id) ≤ length before = rw (dismiss-length h) r in
        record {
          writes = rw (dismiss-bytes touch_view t id h, ← e) d;
          table = q ∙ sym (dismissed-room (length before) l ∙ dismiss-table t id h);
        }
