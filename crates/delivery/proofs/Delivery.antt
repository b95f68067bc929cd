-- THE PROMISE of the panel's sending side holds: what a panel sends is never refused, cancelled or ignored by a receiver that has room.
-- Assumes nothing.
use Prim.Native.Nat.{ℕ, ◌≤◌}
use mathlib.Core.Path.{◌≡◌, sym, ap, subst, ◌∙◌}
use mathlib.Core.Bool.{cond}
use mathlib.Core.List.{List, [], ◌∷◌}
use lib.ListN.{length, take}
use Rattle.slices.specs.declared.Written.{Written}
use Rattle.machine.specs.Machine.{Counts}
use Rattle.panels.specs.Panel.{fresh_panel, Sends}
use Rattle.panels.specs.declared.Panel.{Panel}
use Rattle.receiver.specs.Limits.{most_output}
use Rattle.receiver.specs.Receive.{answer_of, Receives}
use Rattle.receiver.specs.declared.Receiver.{Receiver}
use Rattle.receiver.specs.declared.Answer.{Answer}
use Rattle.receiver.proofs.Rested.{takes-effect}
use Rattle.receiver.proofs.Records.{has_room}
use Rattle.receiver.proofs.Histories.{a-step-of-the-contract-is-a-step-of-a-history}
use Rattle.demands.specs.Histories.{Call, Calls}
use Rattle.demands.proofs.Histories.{sent_by, call-left}
use Rattle.delivery.specs.Delivery.{Asked, sending_of, Typed, PanelCall, arrived, sent, PanelCalls, wrote, NextIs, Delivers, mirror, Delivered, NextBecame, AllDelivered, NothingRefusedNothingCancelled}
use Rattle.delivery.proofs.Refusals.{told}
use Rattle.delivery.proofs.Results.{Result, writes, refuses, result}
use Rattle.delivery.proofs.Understood.{Understood}
use Rattle.delivery.proofs.Arriving.{arrived-mirror}
use Rattle.delivery.proofs.Kept.{PanelKept, fresh-mirror, fresh_kept, understood, arrived-kept, sent-kept}

-- ---- one message

-- a call of the receiver with room, lent a message that it understands
delivered : (p : Panel) (a : Asked) (d : Call) → PanelKept p → Understood p a d.message → most_output ≤ length d.before
    → Receives (mirror p) d.message d.before d.receiver d.answer d.after → Delivered p a (sending_of p a).panel d
delivered p a d k u room c =
    let r = mirror p in
    let t = takes-effect r (sent_by d) u.effect [] u.read (has_room r k.stream.table.whole.states (sent_by d) room) in
    let s = a-step-of-the-contract-is-a-step-of-a-history r d.message d.before d.receiver d.answer d.after c in
    let answer : d.answer ≡ answer_of u.effect = s.1 ∙ t.answer in
    record {
      accepted = ap (λ (x : Answer). x.refusal) answer;
      injected = ap (λ (x : Answer). x.injected) answer ∙ ap (λ (n : Counts). n.injected) u.counts;
      ignored = ap (λ (x : Answer). x.ignored) answer ∙ ap (λ (n : Counts). n.ignored) u.counts;
      cancelled = ap (λ (x : Answer). x.cancelled) answer ∙ ap (λ (n : Counts). n.cancelled) u.counts;
      receiver = s.0 ∙ (t.next ∙ u.receiver);
      records = call-left r d c ∙ (t.wrote ∙ u.bytes);
    }

-- ---- the calls from one that sends on

module _ (p : Panel) (a : Asked) (before : List ℕ) (q : Panel) (w : Written) (after : List ℕ) (cs : List PanelCall) (typed : Typed a) (h : Sends p (sending_of p a) q w before after) (k : PanelKept p)
    (others : (ds : List Call) → Calls (mirror q) ds → Delivers cs ds → AllDelivered q cs ds) where
  -- its message is that of the receiver's NextIs call
  message-first : (message : List ℕ) → Understood p a message → take w.bytes after ≡ message → q ≡ (sending_of p a).panel → (ds : List Call) → Calls (mirror p) ds
      → NextIs (take w.bytes after) (λ es. Delivers cs es) ds → NextBecame p a q (λ es. AllDelivered q cs es) ds
  unfolding Calls
  message-first message u n z [] c d = d
  message-first message u n z (x ∷ ds) c d =
      let e : message ≡ x.message = sym (d.0 ∙ n) in
      let y : Delivered p a q x = subst (λ (g : Panel). Delivered p a g x) (sym z) (delivered p a x k (subst (Understood p a) e u) d.1 c.0) in
      (y, others ds (subst (λ (r : Receiver). Calls r ds) y.receiver c.1) d.2)

  all_from : (ds : List Call) → Calls (mirror p) ds → Delivers (sent a before q w after ∷ cs) ds → AllDelivered p (sent a before q w after ∷ cs) ds
  unfolding Delivers AllDelivered
  all_from ds c = go (result p (sending_of p a) q w before after (told p a) h)
    where
      go : Result p (sending_of p a) q w after → cond (wrote w) (NextIs (take w.bytes after) (λ es. Delivers cs es) ds) (Delivers cs ds)
          → cond (wrote w) (NextBecame p a q (λ es. AllDelivered q cs es) ds) (AllDelivered q cs ds)
      go (writes message d n z y) = rw y (message-first message (understood p a message typed d) n z ds c)
      go (refuses z y) = rw y (others ds (subst (λ (g : Panel). Calls (mirror g) ds) (sym z) c))

all-delivered : (p : Panel) → PanelKept p → (cs : List PanelCall) → PanelCalls p cs → (ds : List Call) → Calls (mirror p) ds → Delivers cs ds → AllDelivered p cs ds
unfolding PanelCalls Delivers AllDelivered
all-delivered p k [] h ds c d = tt
all-delivered p k (arrived l q e ∷ cs) h ds c d =
    all-delivered q (arrived-kept p l q e h.0 k) cs h.1 ds (subst (λ (r : Receiver). Calls r ds) (sym (arrived-mirror p l q e h.0)) c) d
all-delivered p k (sent a before q w after ∷ cs) h ds c d =
    all_from p a before q w after cs h.0.0 h.0.1 k (all-delivered q (sent-kept p a before q w after h.0.0 h.0.1 k) cs h.1) ds c d

-- WHAT A PANEL SENDS IS NEVER REFUSED, CANCELLED OR IGNORED
pub nothing-refused-nothing-cancelled : NothingRefusedNothingCancelled
nothing-refused-nothing-cancelled cs h ds c d = all-delivered fresh_panel fresh_kept cs h ds (subst (λ (r : Receiver). Calls r ds) (sym fresh-mirror) c) d
