-- What arrives at a panel changes nothing that a receiver has of it.
-- Assumes nothing.
use Prim.Native.Nat.{ℕ}
use mathlib.Core.Path.{◌≡◌, refl, ap, ◌∙◌}
use mathlib.Core.Bool.{Bool, true, false, cond}
use mathlib.Core.List.{List}
use lib.Dec.{eqb}
use Rattle.paper.specs.Refusals.{trailing}
use Rattle.formats.specs.Format.{Got, got, bad, and_then, whole}
use Rattle.messages.specs.Header.{headed, server_ready, suspend}
use Rattle.messages.specs.Bodies.{version, nothing}
use Rattle.panels.specs.Panel.{awaited, greeted_by, suspended_by, body_arrival, arrival, panel_of, Takes}
use Rattle.panels.specs.declared.Panel.{Panel}
use Rattle.delivery.specs.Delivery.{mirror}

-- a panel with the same mirror as p, or p itself where the message is refused
abbrev Mirrored : Panel → Got Panel → Type 0
Mirrored p x = mirror (panel_of p x) ≡ mirror p

field-mirrored : {A : Type 0} (p : Panel) (x : Got A) (f : A → List ℕ → Got Panel) → ((a : A) (t : List ℕ) → Mirrored p (f a t)) → Mirrored p (and_then x f)
field-mirrored p (got a t) f h = h a t
field-mirrored p (bad e) f h = refl

body-mirrored : (p : Panel) (event : ℕ) (b : List ℕ) → Mirrored p (body_arrival p event b)
body-mirrored p event b = go (eqb event server_ready)
  where
    go : (c : Bool) → Mirrored p (cond c (and_then (whole version trailing b) (λ v t. got (greeted_by p) t)) (and_then (whole nothing trailing b) (λ u t. got (suspended_by p (eqb event suspend)) t)))
    go true = field-mirrored p (whole version trailing b) (λ v t. got (greeted_by p) t) (λ v t. refl)
    go false = field-mirrored p (whole nothing trailing b) (λ u t. got (suspended_by p (eqb event suspend)) t) (λ u t. refl)

pub arrived-mirror : (p : Panel) (l : List ℕ) (q : Panel) (e : ℕ) → Takes p l q e → mirror q ≡ mirror p
unfolding arrival
arrived-mirror p l q e h = ap mirror h.kept ∙ field-mirrored p (headed (awaited p) l) (body_arrival p) (body-mirrored p)
