-- A dismissal that a panel writes is taken by a ready receiver, where the contact hovers as it does at the panel.
-- Assumes nothing.
use Prim.Native.Nat.{ℕ, ◌<◌}
use mathlib.Core.Path.{◌≡◌, refl, ap, ◌∙◌}
use mathlib.Core.Bool.{Bool, true, false, cond}
use mathlib.Core.List.{List, [], ◌∷◌}
use lib.Dec.{eqb}
use Rattle.paper.specs.Refusals.{not_ready}
use Rattle.paper.specs.Refusals as refusals
use Rattle.slices.specs.Writing.{bytes}
use Rattle.formats.specs.Format.{byte}
use Rattle.states.specs.Table.{hovering}
use Rattle.messages.specs.Header.{one_of, client_ready, touch, dismiss}
use Rattle.messages.proofs.Laws.{one-of-first, one-of-later, dismiss-law}
use Rattle.message_writers.proofs.RoundTrip.{round-trips}
use Rattle.machine.specs.Table.{state_at}
use Rattle.machine.specs.Machine.{dismiss_table}
use Rattle.machine.proofs.Held.{without-nobody}
use Rattle.channel.specs.Marks.{off}
use Rattle.panels.specs.Panel.{panel_table, dismiss_sending}
use Rattle.panels.specs.declared.Panel.{Panel}
use Rattle.receiver.specs.Receive.{marks_of, of_parts, takes, dismissed_by, effect}
use Rattle.receiver.proofs.Invariants.{dismissed-kept}
use Rattle.delivery.specs.Delivery.{dismissal, mirror}
use Rattle.slices.proofs.Drafts.{passed, spared}
use Rattle.delivery.proofs.Understood.{Understood, opened}

takes-dismiss : (p : Panel) → off p.ready ≡ false → one_of (takes (mirror p)) dismiss ≡ true
takes-dismiss p o =
    ap (λ (b : Bool). one_of (cond b (client_ready ∷ []) (touch ∷ dismiss ∷ [])) dismiss) o
    ∙ (one-of-later touch (dismiss ∷ []) dismiss refl ∙ one-of-first dismiss [] dismiss refl)

pub dismiss-understood : (p : Panel) (id : ℕ) (l : List ℕ) → id < 256 → (dismiss_sending p id).draft ≡ bytes l → Understood p (dismissal id) l
unfolding dismiss_sending effect
dismiss-understood p id l m h =
    let d = spared (off p.ready) _ not_ready l h in
    let v = passed (eqb (state_at (panel_table p) id) hovering) _ refusals.illegal l d.1 in
    let b = round-trips.dismisses.back id l m v.1 in
    let k = opened {X = Unit {0}} (mirror p) dismiss byte dismiss-law l id b (takes-dismiss p d.0) in
    record {
      effect = dismissed_by (mirror p) id;
      read = rw (k.head, k.body);
      counts = refl;
      receiver =
          ap
          (λ (held : List ℕ). of_parts (marks_of (mirror p)) (record { table = dismiss_table (panel_table p) id; held = held }))
          (without-nobody id);
      bytes = refl;
      kept = dismissed-kept (mirror p) id d.0;
    }
