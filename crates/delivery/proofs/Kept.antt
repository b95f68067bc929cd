-- What is true of a panel after any calls: a receiver that has what the panel has obeys the receiver's invariants.
-- Assumes nothing.
use Prim.Native.Nat.{ℕ}
use mathlib.Core.Path.{◌≡◌, refl, sym, ap, subst, ◌∙◌}
use mathlib.Core.List.{List, [], ◌∷◌}
use Rattle.slices.specs.Writing.{bytes}
use Rattle.slices.specs.declared.Written.{Written}
use Rattle.panels.specs.Panel.{fresh_panel, Takes, Sends}
use Rattle.panels.specs.declared.Panel.{Panel}
use Rattle.receiver.specs.Receive.{fresh}
use Rattle.receiver.proofs.Invariants as receiver
use Rattle.delivery.specs.Delivery.{Asked, ready, touch, dismissal, sending_of, Typed, PanelCall, arrived, sent, PanelCalls, mirror}
use Rattle.delivery.proofs.Refusals.{told}
use Rattle.delivery.proofs.Results.{Result, writes, refuses, result}
use Rattle.delivery.proofs.Understood.{Understood}
use Rattle.delivery.proofs.Declaring.{ready-understood}
use Rattle.delivery.proofs.Touching.{touch-understood}
use Rattle.delivery.proofs.Dismissing.{dismiss-understood}
use Rattle.delivery.proofs.Arriving.{arrived-mirror}

-- each of the 256 contacts is there, in one of three states, with a position that a message carries, and 0, 0 out of range; at most
-- maxTouchContacts are active; the marks are 0 or 1; and before client ready no contact is active
abbrev pub PanelKept : Panel → Type 0
PanelKept p = receiver.Kept (mirror p)

pub fresh-mirror : mirror fresh_panel ≡ fresh
unfolding fresh_panel fresh
fresh-mirror = refl

pub fresh_kept : PanelKept fresh_panel
fresh_kept = subst receiver.Kept (sym fresh-mirror) receiver.fresh_kept

-- ---- one call

pub understood : (p : Panel) (a : Asked) (l : List ℕ) → Typed a → (sending_of p a).draft ≡ bytes l → Understood p a l
understood p (ready s) l t h = ready-understood p s l t h
understood p (touch time records) l t h = touch-understood p time records l t h
understood p (dismissal id) l t h = dismiss-understood p id l t h

pub arrived-kept : (p : Panel) (l : List ℕ) (q : Panel) (e : ℕ) → Takes p l q e → PanelKept p → PanelKept q
arrived-kept p l q e h k = subst receiver.Kept (sym (arrived-mirror p l q e h)) k

pub sent-kept : (p : Panel) (a : Asked) (before : List ℕ) (q : Panel) (w : Written) (after : List ℕ) → Typed a → Sends p (sending_of p a) q w before after → PanelKept p → PanelKept q
sent-kept p a before q w after t h k = go (result p (sending_of p a) q w before after (told p a) h)
  where
    go : Result p (sending_of p a) q w after → PanelKept q
    go (writes message d n z y) =
        let u = understood p a message t d in
        subst receiver.Kept (u.receiver ∙ ap mirror (sym z)) (u.kept k)
    go (refuses z y) = subst PanelKept (sym z) k

-- ---- any calls

-- the panel that they leave
unfoldable pub last_panel : Panel → List PanelCall → Panel
last_panel p [] = p
last_panel p (arrived l q e ∷ cs) = last_panel q cs
last_panel p (sent a before q w after ∷ cs) = last_panel q cs

calls-kept : (p : Panel) (cs : List PanelCall) → PanelCalls p cs → PanelKept p → PanelKept (last_panel p cs)
unfolding PanelCalls last_panel
calls-kept p [] h k = k
calls-kept p (arrived l q e ∷ cs) h k = calls-kept q cs h.1 (arrived-kept p l q e h.0 k)
calls-kept p (sent a before q w after ∷ cs) h k = calls-kept q cs h.1 (sent-kept p a before q w after h.0.0 h.0.1 k)

-- THE INVARIANTS OF A PANEL
pub a-panel-keeps-what-a-receiver-keeps : (cs : List PanelCall) → PanelCalls fresh_panel cs → PanelKept (last_panel fresh_panel cs)
a-panel-keeps-what-a-receiver-keeps cs h = calls-kept fresh_panel cs h fresh_kept
