-- The effect of a message by its header, and of the bodies that have no frames.
-- Assumes nothing.
use Prim.Native.Nat.{ℕ, ◌/◌}
use mathlib.Core.Path.{◌≡◌, refl, sym, ap, ◌∙◌}
use mathlib.Core.Bool.{Bool, true, false, cond}
use mathlib.Core.List.{List, [], ◌∷◌}
use native.Mathlib.Omega.{arith}
use borrow.Author.Tests.{ne_eqb, eqb-true, leb-true, leb-false}
use lib.Dec.{eqb, leb}
use lib.ListN.{length}
use Rattle.paper.specs.Refusals.{trailing}
use Rattle.slices.specs.declared.Written.{Written}
use Rattle.slices.proofs.Laws.{given-room, given-none}
use Rattle.formats.specs.Format.{got, bad, whole, byte}
use Rattle.house.specs.Fields.{record_bytes}
use Rattle.messages.specs.Header.{headed, client_ready, touch, dismiss}
use Rattle.messages.specs.Bodies.{ready}
use Rattle.messages.specs.declared.Ready.{Ready}
use Rattle.messages.proofs.Laws.{headed_same, headed-got, one-of-one, one-of-later}
use Rattle.machine.specs.Table.{Table}
use Rattle.machine.specs.Machine.{dismiss_bytes}
use Rattle.moves.specs.Moves.{dismissed_in, Dismisses}
use Rattle.receiver.specs.declared.Receiver.{Receiver}
use Rattle.receiver.specs.declared.Received.{Received}
use Rattle.receiver.specs.Receive.{takes, of_parts, marks_of, machine_of, settled, dismissed_by, effect, refusal}
use Rattle.channel.specs.Marks.{off}
use Rattle.receiver.specs.Events.{Gives, ready_effect, touch_effect, dismiss_effect}
use Rattle.receiving.specs.Dismissal.{held_by}
use Rattle.receiver.proofs.Answering.{gives-refused, gives_none, gives-done}
use Rattle.contacts.specs.Touch.{touch_view}

-- ---- by the header

module _ (r : Receiver) (l : List ℕ) where
  -- an unready receiver takes client ready alone
  module _ (o : off r.ready ≡ true) where
    unready : headed (takes r) l ≡ headed (client_ready ∷ client_ready ∷ []) l
    unready = ap (λ (b : Bool). headed (cond b (client_ready ∷ []) (touch ∷ dismiss ∷ [])) l) o ∙ sym (headed_same client_ready l)

    pub unready-refused : (n : ℕ) → bad n ≡ headed (client_ready ∷ client_ready ∷ []) l → effect r l ≡ bad n
    unfolding effect
    unready-refused n g = rw (unready, ← g)

    pub unready-event : (e : ℕ) (b : List ℕ) → got e b ≡ headed (client_ready ∷ client_ready ∷ []) l → effect r l ≡ ready_effect r b
    unfolding effect
    unready-event e b g =
        let w : headed (client_ready ∷ []) l ≡ got e b = sym (headed_same client_ready l) ∙ sym g in
        let z = sym (one-of-one client_ready e) ∙ (headed-got (client_ready ∷ []) l e b w).takes in
        rw (unready, ← g, z)

  -- a ready one takes touch and dismiss
  module _ (o : off r.ready ≡ false) where
    running : headed (takes r) l ≡ headed (touch ∷ dismiss ∷ []) l
    running = ap (λ (b : Bool). headed (cond b (client_ready ∷ []) (touch ∷ dismiss ∷ [])) l) o

    pub ready_refused : (n : ℕ) → bad n ≡ headed (touch ∷ dismiss ∷ []) l → effect r l ≡ bad n
    unfolding effect
    ready_refused n g = rw (running, ← g)

    pub ready-touch : (e : ℕ) (b : List ℕ) → got e b ≡ headed (touch ∷ dismiss ∷ []) l → e ≡ touch → effect r l ≡ touch_effect r b
    unfolding effect
    ready-touch e b g t = rw (running, ← g, t)

    pub ready-dismiss : (e : ℕ) (b : List ℕ) → got e b ≡ headed (touch ∷ dismiss ∷ []) l → (e ≡ touch → ⊥) → effect r l ≡ dismiss_effect r b
    unfolding effect
    ready-dismiss e b g t =
        let w = (headed-got (touch ∷ dismiss ∷ []) l e b (sym g)).takes in
        let z : eqb e dismiss ≡ true = sym (one-of-later touch (dismiss ∷ []) e (ne_eqb e touch t) ∙ one-of-one dismiss e) ∙ w in
        let d : e ≡ dismiss = eqb-true e dismiss z in
        rw (running, ← g, d)

-- ---- client ready

module _ (r : Receiver) (b : List ℕ) (q : Received) (d : List ℕ) where
  pub settings-refused : (n : ℕ) → bad n ≡ whole ready trailing b → q ≡ record { receiver = r; answer = refusal n } → Gives r (ready_effect r b) d q d
  settings-refused n g a = gives-refused r d q (ready_effect r b) n (rw (← g)) a

  pub settings-taken : (s : Ready) (n : Receiver) → got s [] ≡ whole ready trailing b → n ≡ (settled r s).receiver
      → q ≡ record { receiver = n; answer = record { refusal = 0; injected = 0; ignored = 0; cancelled = 0; time = record { 0 = 0 }; records = 0 } } → Gives r (ready_effect r b) d q d
  settings-taken s n g k a = gives-done r d q (ready_effect r b) (settled r s) [] (rw (← g)) d (omega arith) (rw k at a) refl

-- ---- dismiss

module _ (r : Receiver) (b : List ℕ) (q : Received) (before : List ℕ) where
  pub dismiss-refused : (n : ℕ) → bad n ≡ whole byte trailing b → q ≡ record { receiver = r; answer = refusal n } → Gives r (dismiss_effect r b) before q before
  dismiss-refused n g a = gives-refused r before q (dismiss_effect r b) n (rw (← g)) a

  pub dismiss-taken : (k : ℕ) (v : Written) (u : Table) (held : List ℕ) (after : List ℕ) → got k [] ≡ whole byte trailing b → Dismisses k v before after (machine_of r).table u → held ≡ held_by v.refusal r.held k
      → q ≡ record { receiver = of_parts (marks_of r) (record { table = u; held = held }); answer = record { refusal = v.refusal; injected = 0; ignored = 0; cancelled = 0; time = record { 0 = 0 }; records = v.bytes / record_bytes } }
      → Gives r (dismiss_effect r b) before q after
  unfolding dismissed_in
  dismiss-taken k v u held after g m f a = go (leb (length s) (length before)) refl
    where
      s : List ℕ
      s = dismiss_bytes touch_view (machine_of r).table k

      go : (y : Bool) → leb (length s) (length before) ≡ y → Gives r (dismiss_effect r b) before q after
      go true y =
          let room = leb-true (length s) (length before) y in
          let z = given-room s (length before) room in
          let an = rw z at m.writes.answer in
          let ou = rw z at m.writes.output in
          gives-done r before q (dismiss_effect r b) (dismissed_by r k) [] (rw (← g)) after room (rw (f, m.table, y, an) at a) ou
      go false y =
          let room = leb-false (length s) (length before) y in
          let z = given-none s (length before) room in
          let an = rw z at m.writes.answer in
          let ou = rw z at m.writes.output in
          rw ou (gives_none r before q (dismiss_effect r b) (dismissed_by r k) [] (rw (← g)) room (rw (f, m.table, y, an) at a))
