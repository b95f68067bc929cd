-- "A second suspend or resume changes nothing": a panel that is suspended stays as it is by a suspend, and one that is not by a resume.
-- Assumes nothing.
use Prim.Native.Nat.{ℕ}
use mathlib.Core.Path.{◌≡◌, refl, sym, ◌∙◌}
use mathlib.Core.Bool.{Bool, true, false, cond}
use mathlib.Core.List.{List}
use Rattle.paper.specs.Refusals.{trailing}
use Rattle.formats.specs.Format.{Got, got, bad, and_then, whole}
use Rattle.messages.specs.Header.{headed, event_of, suspend, resume}
use Rattle.messages.specs.Bodies.{nothing}
use Rattle.messages.proofs.Laws.{headed-got}
use Rattle.channel.specs.Marks.{mark}
use Rattle.panels.specs.Panel.{awaited, suspended_by, body_arrival, arrival, panel_of, Takes}
use Rattle.panels.specs.declared.Panel.{Panel}

-- the event that sets the suspended mark, or clears it
abbrev setting : Bool → ℕ
setting on = cond on suspend resume

module _ (p : Panel) (on : Bool) (already : p.suspended ≡ mark on) where
  same : suspended_by p on ≡ p
  same =
      λ i. record {
        greeted = p.greeted;
        ready = p.ready;
        suspended = sym already i;
        begun = p.begun;
        settings = p.settings;
        states = p.states;
        xs = p.xs;
        ys = p.ys;
      }

  body-again : (b : List ℕ) → panel_of p (body_arrival p (setting on) b) ≡ p
  body-again b = by on same
    where
      rest : (q : Panel) → q ≡ p → (x : Got (Unit {0})) → panel_of p (and_then x (λ u t. got q t)) ≡ p
      rest q e (got u t) = e
      rest q e (bad n) = refl

      by : (o : Bool) → suspended_by p o ≡ p → panel_of p (body_arrival p (setting o) b) ≡ p
      by true e = rest (suspended_by p true) e (whole nothing trailing b)
      by false e = rest (suspended_by p false) e (whole nothing trailing b)

  again : (message : List ℕ) → event_of message ≡ setting on → (q : Panel) (refusal : ℕ) → Takes p message q refusal → q ≡ p
  unfolding arrival
  again message e q n c = c.kept ∙ go (headed (awaited p) message) refl
    where
      go : (x : Got ℕ) → headed (awaited p) message ≡ x → panel_of p (and_then x (body_arrival p)) ≡ p
      go (bad n) h = refl
      go (got k b) h =
          let z : k ≡ setting on = sym (headed-got (awaited p) message k b h).event ∙ e in
          rw z (body-again b)

pub second-suspend : (p q : Panel) (message : List ℕ) (refusal : ℕ) → p.suspended ≡ 1 → event_of message ≡ suspend → Takes p message q refusal → q ≡ p
second-suspend p q message n h e c = again p true h message e q n c

pub second-resume : (p q : Panel) (message : List ℕ) (refusal : ℕ) → p.suspended ≡ 0 → event_of message ≡ resume → Takes p message q refusal → q ≡ p
second-resume p q message n h e c = again p false h message e q n c
