-- Two outcomes that the contract of a call allows are equal: in its answer, in the panel that it was lent, whole or in parts, and in the output.
-- Assumes nothing.
use Prim.Native.Nat.{ℕ}
use mathlib.Core.Path.{◌≡◌}
use mathlib.Core.List.{List}
use Rattle.paper.specs.declared.Milliseconds.{Milliseconds}
use Rattle.panels.specs.Panel.{fresh_panel, Takes, TakesParts, ready_sending, touch_sending, dismiss_sending}
use Rattle.panels.specs.declared.Panel.{Panel}
use Rattle.panels.specs.declared.PanelMarks.{PanelMarks}
use Rattle.panels.specs.declared.Heard.{Heard}
use Rattle.sending.proofs.Unique.{One, OneInParts, OneReady}
use Rattle.sending.proofs.Unique as sending

pub record Calls : Type 0 where
  pub kangirlo-panel-fresh : (a b : Panel) → a ≡ fresh_panel → b ≡ fresh_panel → a ≡ b
  pub kangirlo-panel-take : (p : Panel) (message : List ℕ) (q r : Panel) (m n : ℕ) → Takes p message q m → Takes p message r n → (q ≡ r) × (m ≡ n)
  pub kangirlo-panel-write-ready : (p : Panel) (flags version most : ℕ) → One p (ready_sending p (record { flags = flags; version = version; most = most }))
  pub kangirlo-panel-write-touch : (p : Panel) (time : Milliseconds) (records : List ℕ) → One p (touch_sending p time records)
  pub kangirlo-panel-write-dismiss : (p : Panel) (id : ℕ) → One p (dismiss_sending p id)
  pub kangirlo-panel-take-parts : (m : PanelMarks) (message : List ℕ) (a b : Heard) → TakesParts m message a → TakesParts m message b → a ≡ b
  pub kangirlo-panel-write-ready-parts : (m : PanelMarks) (flags version most : ℕ) → OneReady m (record { flags = flags; version = version; most = most })
  pub kangirlo-panel-write-touch-parts : (p : Panel) (time : Milliseconds) (records : List ℕ) → OneInParts p (touch_sending p time records)
  pub kangirlo-panel-write-dismiss-parts : (p : Panel) (id : ℕ) → OneInParts p (dismiss_sending p id)

pub calls-unique : Calls
calls-unique =
    record {
      kangirlo-panel-fresh = (sending.calls-unique).fresh;
      kangirlo-panel-take = (sending.calls-unique).take;
      kangirlo-panel-write-ready = λ p flags version most. (sending.calls-unique).write-ready p (record { flags = flags; version = version; most = most });
      kangirlo-panel-write-touch = (sending.calls-unique).write-touch;
      kangirlo-panel-write-dismiss = (sending.calls-unique).write-dismiss;
      kangirlo-panel-take-parts = (sending.calls-unique).take-parts;
      kangirlo-panel-write-ready-parts = λ m flags version most. (sending.calls-unique).write-ready-parts m (record { flags = flags; version = version; most = most });
      kangirlo-panel-write-touch-parts = (sending.calls-unique).write-touch-parts;
      kangirlo-panel-write-dismiss-parts = (sending.calls-unique).write-dismiss-parts;
    }
