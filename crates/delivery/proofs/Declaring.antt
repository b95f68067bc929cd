-- A client ready that a panel writes is taken by an unready receiver.
-- Assumes nothing.
use Prim.Native.Nat.{ℕ, ◌^◌, ◌<◌}
use mathlib.Core.Path.{◌≡◌, refl, ap, ◌∙◌}
use mathlib.Core.Bool.{Bool, true, false, cond}
use mathlib.Core.List.{List, [], ◌∷◌}
use native.Mathlib.Omega.{arith}
use borrow.Author.Tests.{ltb-true, eqb-true}
use lib.Dec.{eqb}
use Rattle.paper.specs.Refusals.{bad_field, not_ready}
use Rattle.slices.specs.Writing.{bytes}
use Rattle.messages.specs.Header.{one_of, client_ready, touch, dismiss}
use Rattle.messages.specs.Bodies.{flags_listed, version_listed, client_ready_draft}
use Rattle.messages.specs.Bodies as body
use Rattle.messages.specs.declared.Ready.{Ready}
use Rattle.messages.proofs.Laws.{one-of-first, ready-law}
use Rattle.message_writers.proofs.RoundTrip.{FitReady, round-trips}
use Rattle.channel.specs.Marks.{off}
use Rattle.panels.specs.Panel.{may_declare, ready_sending}
use Rattle.panels.specs.declared.Panel.{Panel}
use Rattle.receiver.specs.Receive.{takes, settled, effect}
use Rattle.receiver.proofs.Invariants.{settled-kept}
use Rattle.delivery.specs.Delivery.{ready, mirror}
use Rattle.slices.proofs.Drafts.{passed}
use Rattle.delivery.proofs.Understood.{Understood, opened}

-- ---- settings that the writer takes fit

version-small : (v : ℕ) → version_listed v ≡ true → v < 256 ^ 4
unfolding version_listed one_of
version-small v h = go (eqb v 0x00010000) refl (eqb v 0x00010001) refl h
  where
    go : (a : Bool) → eqb v 0x00010000 ≡ a → (b : Bool) → eqb v 0x00010001 ≡ b → cond a true (cond b true false) ≡ true → v < 256 ^ 4
    go true e b d h = omega (arith, eqb-true v 0x00010000 e)
    go false e true d h = omega (arith, eqb-true v 0x00010001 d)
    go false e false d h = absurd (let z : ◌≡◌ {A = ℕ} 0 1 = cc in omega arith)

settings-fit : (s : Ready) (l : List ℕ) → s.most < 65536 → client_ready_draft s ≡ bytes l → FitReady s
unfolding client_ready_draft
settings-fit s l m h =
    let f = passed (flags_listed s.flags) _ bad_field l h in
    let v = passed (version_listed s.version) _ bad_field l f.1 in
    (omega (arith, ltb-true s.flags 4 f.0), version-small s.version v.0, omega (arith, m))

-- ---- the message

may-declare : (g r : Bool) → cond g false r ≡ true → r ≡ true
may-declare true r h = absurd (let z : ◌≡◌ {A = ℕ} 0 1 = cc in omega arith)
may-declare false r h = h

takes-ready : (p : Panel) → off p.ready ≡ true → one_of (takes (mirror p)) client_ready ≡ true
takes-ready p o = ap (λ (b : Bool). one_of (cond b (client_ready ∷ []) (touch ∷ dismiss ∷ [])) client_ready) o ∙ one-of-first client_ready [] client_ready refl

pub ready-understood : (p : Panel) (s : Ready) (l : List ℕ) → s.most < 65536 → (ready_sending p s).draft ≡ bytes l → Understood p (ready s) l
unfolding ready_sending effect
ready-understood p s l m h =
    let d = passed (may_declare p) (client_ready_draft s) not_ready l h in
    let o = may-declare (off p.greeted) (off p.ready) d.0 in
    let b = round-trips.client-ready.back s l (settings-fit s l m d.1) d.1 in
    let k = opened {X = Unit {0}} (mirror p) client_ready body.ready ready-law l s b (takes-ready p o) in
    record {
      effect = settled (mirror p) s;
      read = rw (k.head, k.body);
      counts = refl;
      receiver = refl;
      bytes = refl;
      kept = settled-kept (mirror p) s o;
    }
