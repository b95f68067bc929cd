-- What a receiver that has what the panel has makes of a message of the panel.
-- Assumes nothing.
use Prim.Native.Nat.{ℕ}
use mathlib.Core.Path.{◌≡◌}
use mathlib.Core.Bool.{true}
use mathlib.Core.List.{List, []}
use lib.ListN.{drop}
use Rattle.paper.specs.Refusals.{trailing}
use Rattle.formats.specs.Format.{Format, got, whole}
use Rattle.formats.proofs.Laws.{Law}
use Rattle.messages.specs.Header.{header_bytes, one_of, headed, read_message}
use Rattle.messages.proofs.Laws.{headed-good, message-got}
use Rattle.machine.proofs.Conforming.{all_injected}
use Rattle.panels.specs.declared.Panel.{Panel}
use Rattle.receiver.specs.Receive.{Effect, takes}
use Rattle.receiver.specs.Receive as receiving
use Rattle.receiver.specs.declared.Receiver.{Receiver}
use Rattle.receiver.proofs.Invariants.{Kept}
use Rattle.delivery.specs.Delivery.{Asked, sending_of, mirror, frames_given, records_given}

-- the message that the panel p writes where it is asked for a: all its frames are injected, and the receiver has what the panel has then
pub record Understood (p : Panel) (a : Asked) (message : List ℕ) : Type 0 where
  pub effect : Effect
  pub read : receiving.effect (mirror p) message ≡ got effect []
  pub counts : effect.counts ≡ all_injected (frames_given a)
  pub receiver : effect.receiver ≡ mirror (sending_of p a).panel
  pub bytes : effect.bytes ≡ records_given p a
  pub kept : Kept (mirror p) → Kept effect.receiver

-- a message of an event that the receiver takes, by its header and its body
pub record Opened {A : Type 0} (r : Receiver) (event : ℕ) (f : Format A) (l : List ℕ) (a : A) : Type 0 where
  pub head : headed (takes r) l ≡ got event (drop header_bytes l)
  pub body : whole f trailing (drop header_bytes l) ≡ got a []

pub opened : {X A : Type 0} (r : Receiver) (event : ℕ) (f : Format A) → Law X f → (l : List ℕ) (a : A) → read_message event f l ≡ got a [] → one_of (takes r) event ≡ true → Opened r event f l a
opened r event f law l a h o =
    let g = message-got f law event l a [] h in
    let e = headed-good (takes r) l g.head.low g.head.high (rw g.head.event o) g.head.long in
    record { head = rw g.head.event at e; body = g.rest }
