-- What a contact's cancel is, of the record that was written; a write of nothing; and the cancels of all contacts, as a loop writes them.
-- Assumes nothing.
use Prim.Native.Nat.{ℕ, ◌+◌, ◌-◌, ◌*◌, ◌≤◌, ◌<◌}
use mathlib.Core.Path.{◌≡◌, refl, sym, ap, ◌∙◌}
use mathlib.Core.List.{List, []}
use native.Mathlib.Omega.{arith}
use borrow.Author.Tests.{eq-eqb, ne_eqb}
use lib.ListN.{length, length-append, length-take, length-drop}
use borrow.Rule.Slice.PartMut.{mid_of, put_mid}
use Rattle.paper.specs.Refusals.{none}
use Rattle.slices.specs.Writing.{bytes, laid, Writes}
use Rattle.slices.specs.declared.Written.{Written}
use Rattle.slices.proofs.Laws.{writes_bytes, writes-done}
use Rattle.slices.proofs.Tails.{laid_at, laid_none, Wrote, wrote}
use Rattle.states.specs.Table.{out}
use Rattle.house.proofs.Round.{length-contact}
use Rattle.house.specs.Layout.{contact_bytes, cancelled as cancel_kind}
use Rattle.house.specs.declared.Contact.{Contact}
use Rattle.machine.specs.Table.{Table, contacts, state_at, place_at}
use Rattle.machine.specs.Machine.{cancel_flags, cancel_bytes, cancels_from, cancels}
use Rattle.machine.proofs.Machine.{cancel-active, cancel-out, cancels-step, cancels-end, cancels-length}
use Rattle.contacts.specs.Touch.{bare_contact, touch_view}
use Rattle.contacts.specs.Ruling.{Counted}

-- no bytes are written anywhere
pub writes_nothing : (s : List ℕ) (w : Written) (before : List ℕ) → w ≡ record { refusal = none; bytes = 0 } → s ≡ [] → Writes (bytes s) w before before
writes_nothing s w before d e = rw e (writes_bytes [] w before before (omega arith) d refl)

module _ (t : Table) (id : ℕ) where
  -- a contact out of range writes nothing
  pub cancels-nothing : (w : Written) (before : List ℕ) → w ≡ record { refusal = none; bytes = 0 } → state_at t id ≡ out → Writes (bytes (cancel_bytes touch_view t id)) w before before
  cancels-nothing w before d o = writes_nothing (cancel_bytes touch_view t id) w before d (cancel-out touch_view t id (rw (eq-eqb (state_at t id) out o)))

  -- an active contact writes its record
  pub cancels-record : (w : Written) (before after : List ℕ) (flags : ℕ) (c : Contact) → (state_at t id ≡ out → ⊥) → flags ≡ cancel_flags (state_at t id) → c ≡ bare_contact flags id (place_at t id)
      → Writes (bytes (contact_bytes cancel_kind c)) w before after → Writes (bytes (cancel_bytes touch_view t id)) w before after
  cancels-record w before after flags c o f e h =
      let a = cancel-active touch_view t id (rw (ne_eqb (state_at t id) out o)) in
      let b = e ∙ ap (λ (n : ℕ). bare_contact n id (place_at t id)) f in
      rw (a, ← b) h

-- ---- the cancels one after the other: those from id on, laid from at on, give what all of them give

abbrev pub Underway : Table → List ℕ → List ℕ → ℕ → ℕ → Type 0
Underway t start d id at =
    (at + length (cancels_from touch_view t id (contacts - id)) ≡ length (cancels touch_view t))
    × (length (cancels touch_view t) ≤ length d)
    × (length d ≡ length start)
    × (laid_at d at (cancels_from touch_view t id (contacts - id)) ≡ laid start (cancels touch_view t))

-- their length, by how many are active
pub cancels-counted : (t : Table) (k : ℕ) → Counted k t.states → length (cancels touch_view t) ≡ 21 * k
cancels-counted t k c = cancels-length touch_view t length-contact c.all ∙ ap (λ (n : ℕ). 21 * n) (sym c.same)

module _ (t : Table) (start d : List ℕ) (id at : ℕ) (u : Underway t start d id at) where
  -- one turn, by what it wrote to the tail that it was lent
  pub cancels_turn : (w : Written) (new : List ℕ) → id < contacts → Writes (bytes (cancel_bytes touch_view t id)) w (mid_of at (length d - at) d) new
      → Underway t start (put_mid at (length d - at) d new) (id + 1) (at + w.bytes)
  cancels_turn w new h x =
      let e = cancels-step touch_view t id h in
      let l = ap length e ∙ length-append (cancel_bytes touch_view t id) (cancels_from touch_view t (id + 1) (contacts - (id + 1))) in
      let this = writes-done _ _ _ _ x (simp (length-take, length-drop) (omega (arith, l, u.0, u.1))) in
      let turn : Wrote d at w.bytes new (cancel_bytes touch_view t id) (cancels_from touch_view t (id + 1) (contacts - (id + 1))) =
      wrote _ _ _ _ _ _ this.output this.count (simp length-append (omega (arith, l, u.0, u.1))) in
      (omega (arith, this.count, l, u.0), omega (arith, turn.long, u.1), turn.long ∙ u.2, turn.same ∙ (rw e at u.3))

  pub cancels-over : (w : Written) → w ≡ record { refusal = none; bytes = at } → contacts ≤ id → Writes (bytes (cancels touch_view t)) w start d
  cancels-over w q h =
      let e = cancels-end touch_view t id h in
      let n : length (cancels touch_view t) ≡ at = omega (arith, ap length e, u.0) in
      writes_bytes _ _ _ _ (omega (arith, u.1, u.2)) (rw n q) (sym (laid_none d at) ∙ (rw e at u.3))
