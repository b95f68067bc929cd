-- What becomes of a panel by a message that arrives: before server ready was taken, and afterwards.
-- Assumes nothing.
use Prim.Native.Nat.{ℕ}
use mathlib.Core.Path.{◌≡◌, refl, sym, ap, ◌∙◌}
use mathlib.Core.Bool.{Bool, true, false, cond}
use mathlib.Core.List.{List, [], ◌∷◌}
use native.Mathlib.Omega.{arith}
use borrow.Author.Tests.{ne_eqb, eqb-true}
use lib.Dec.{eqb}
use Rattle.paper.specs.Refusals.{trailing}
use Rattle.formats.specs.Format.{Got, got, bad, and_then, whole}
use Rattle.messages.specs.Header.{one_of, headed, read_message, server_ready, suspend, resume}
use Rattle.messages.specs.Bodies.{version, nothing}
use Rattle.messages.proofs.Laws.{headed-got, one-of-one, one-of-later}
use Rattle.channel.specs.Marks.{off}
use Rattle.panels.specs.Panel.{greeted_by, suspended_by, body_arrival, arrival}
use Rattle.panels.specs.declared.Panel.{Panel}

-- ---- before server ready was taken

pub greeting : (p : Panel) (l : List ℕ) → off p.greeted ≡ true → arrival p l ≡ and_then (read_message server_ready version l) (λ v t. got (greeted_by p) t)
unfolding arrival read_message
greeting p l o = ap (λ (b : Bool). and_then (headed (cond b (server_ready ∷ []) (suspend ∷ resume ∷ [])) l) (body_arrival p)) o ∙ go (headed (server_ready ∷ []) l) refl
  where
    go : (x : Got ℕ) → headed (server_ready ∷ []) l ≡ x → and_then x (body_arrival p) ≡ and_then (and_then x (λ e b. whole version trailing b)) (λ v t. got (greeted_by p) t)
    go (bad e) h = refl
    go (got e b) h =
        let z : eqb e server_ready ≡ true = sym (one-of-one server_ready e) ∙ (headed-got (server_ready ∷ []) l e b h).takes in
        rw z

-- ---- afterwards

no-greeting : (e : ℕ) → one_of (suspend ∷ resume ∷ []) e ≡ true → eqb e server_ready ≡ false
no-greeting e h = go (eqb e suspend) refl
  where
    go : (b : Bool) → eqb e suspend ≡ b → eqb e server_ready ≡ false
    go true w = ne_eqb e server_ready (λ z. omega (arith, z, eqb-true e suspend w))
    go false w =
        let r = sym (one-of-later suspend (resume ∷ []) e w ∙ one-of-one resume e) ∙ h in
        ne_eqb e server_ready (λ z. omega (arith, z, eqb-true e resume r))

pub holding : (p : Panel) (l : List ℕ) → off p.greeted ≡ false
    → arrival p l ≡ and_then (headed (suspend ∷ resume ∷ []) l) (λ e b. and_then (whole nothing trailing b) (λ u t. got (suspended_by p (eqb e suspend)) t))
unfolding arrival
holding p l o = ap (λ (b : Bool). and_then (headed (cond b (server_ready ∷ []) (suspend ∷ resume ∷ [])) l) (body_arrival p)) o ∙ go (headed (suspend ∷ resume ∷ []) l) refl
  where
    go : (x : Got ℕ) → headed (suspend ∷ resume ∷ []) l ≡ x → and_then x (body_arrival p) ≡ and_then x (λ e b. and_then (whole nothing trailing b) (λ u t. got (suspended_by p (eqb e suspend)) t))
    go (bad e) h = refl
    go (got e b) h = rw (no-greeting e (headed-got (suspend ∷ resume ∷ []) l e b h).takes)
