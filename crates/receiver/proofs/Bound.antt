-- "48 KiB of output for each entry (no message writes more)".
-- Assumes nothing.
use Prim.Native.Nat.{ℕ, ◌+◌, ◌≤◌}
use mathlib.Core.Path.{◌≡◌, refl, ap}
use mathlib.Core.Bool.{Bool, true, false, cond}
use mathlib.Core.List.{List}
use native.Mathlib.Omega.{arith}
use borrow.Author.Tests.{eqb-true, eqb-false}
use lib.Dec.{eqb}
use lib.ListN.{length, length-drop}
use Rattle.paper.specs.Refusals.{trailing}
use Rattle.formats.specs.Format.{Got, got, bad, and_then, whole, byte}
use Rattle.formats.proofs.Laws.{never}
use Rattle.fields.specs.Integers.{taken}
use Rattle.states.specs.Table.{hovering}
use Rattle.messages.specs.Header.{headed, header_bytes, most_bytes, client_ready, touch}
use Rattle.messages.specs.Bodies.{ready}
use Rattle.messages.proofs.Laws.{headed-got}
use Rattle.touch.specs.Touch.{body}
use Rattle.machine.specs.Table.{Table, contacts, state_at}
use Rattle.machine.specs.Machine.{dismiss_bytes}
use Rattle.machine.proofs.Machine.{keep-bytes}
use Rattle.moves.proofs.Dismissal.{dismiss-length}
use Rattle.receiver.specs.declared.Receiver.{Receiver}
use Rattle.receiver.specs.Limits.{most_output}
use Rattle.receiver.specs.Receive.{Effect, takes, machine_of, judged, settled, touched, dismissed_by, body_effect, effect}
use Rattle.receiver.specs.Events.{ready_effect, touch_effect, dismiss_effect}
use Rattle.receiver.proofs.Weight.{touch-small}
use Rattle.contacts.specs.Touch.{touch_view}

-- what a body leads to
from-body : {A : Type 0} (f : A → Effect) (x : Got A) (e : Effect) (t : List ℕ) → and_then x (λ a u. got (f a) u) ≡ got e t → ((a : A) (u : List ℕ) → x ≡ got a u → length (f a).bytes ≤ most_output)
    → length e.bytes ≤ most_output
from-body f (bad n) e t h k = never n e t h
from-body f (got a u) e t h k = let q : f a ≡ e = cc in rw q at (k a u refl)

dismiss-small : (t : Table) (id : ℕ) → length (dismiss_bytes touch_view t id) ≤ most_output
dismiss-small t id = go (eqb (state_at t id) hovering) refl
  where
    go : (b : Bool) → eqb (state_at t id) hovering ≡ b → length (dismiss_bytes touch_view t id) ≤ most_output
    go true e = omega (arith, dismiss-length t id (eqb-true (state_at t id) hovering e))
    go false e = rw (keep-bytes touch_view t id (eqb-false (state_at t id) hovering e)) (omega arith)

module _ (r : Receiver) (h : length r.states ≡ contacts) where
  body-small : (n : ℕ) (b : List ℕ) (e : Effect) (t : List ℕ) → header_bytes + length b ≤ most_bytes → body_effect r n b ≡ got e t → length e.bytes ≤ most_output
  body-small n b e t s w = go (eqb n client_ready) (eqb n touch) w
    where
      go : (x y : Bool) → cond x (ready_effect r b) (cond y (touch_effect r b) (dismiss_effect r b)) ≡ got e t → length e.bytes ≤ most_output
      go true y w = from-body (settled r) (whole ready trailing b) e t w (λ a u k. omega arith)
      go false true w = from-body (touched r) (body taken (judged r) b) e t w (λ m u k. omega (arith, touch-small r h b m u k))
      go false false w = from-body (dismissed_by r) (whole byte trailing b) e t w (λ id u k. dismiss-small (machine_of r).table id)

  -- no message writes more than 48 KiB
  pub no-message-writes-more : (l : List ℕ) (e : Effect) (t : List ℕ) → effect r l ≡ got e t → length e.bytes ≤ most_output
  unfolding effect
  no-message-writes-more l e t w = go (headed (takes r) l) refl w
    where
      go : (x : Got ℕ) → headed (takes r) l ≡ x → and_then x (body_effect r) ≡ got e t → length e.bytes ≤ most_output
      go (bad n) q w = never n e t w
      go (got n b) q w =
          let g = headed-got (takes r) l n b q in
          body-small n b e t (omega (arith, g.high, g.low, ap length g.body, length-drop header_bytes l)) w
