-- Two signed numbers are the same where their bits are.
-- Assumes nothing.
use Prim.Native.Nat.{ℕ, suc, ◌<◌, ◌-◌, ◌^◌}
use mathlib.Core.Path.{◌≡◌, refl, sym, ◌∙◌}
use native.Mathlib.Decide.{ℕ_discrete}
use native.Mathlib.Omega.{arith}
use borrow.Author.Tests.{eq-eqb, ne_eqb}
use lib.Dec.{eqb}
use lib.IntN.{ℤ, pos, negsuc}
use mir.Syntax.{w32}
use mir.Val.{SFits, of_z}
use Rattle.tables.specs.Same.{same_number}

below : (a b : ℕ) → a < 2 ^ 31 → b < 2 ^ 31 → Dec (a ≡ b) → eqb (2 ^ 32 - suc a) (2 ^ 32 - suc b) ≡ eqb a b
below a b ha hb (yes e) = eq-eqb (2 ^ 32 - suc a) (2 ^ 32 - suc b) (omega arith) ∙ sym (eq-eqb a b e)
below a b ha hb (no n) = ne_eqb (2 ^ 32 - suc a) (2 ^ 32 - suc b) (λ q. n (omega arith)) ∙ sym (ne_eqb a b n)

apart : (a b : ℕ) → a < 2 ^ 31 → b < 2 ^ 31 → a ≡ 2 ^ 32 - suc b → ⊥
apart a b ha hb q = omega arith

pub same_bits : (a b : ℤ) → SFits w32 a → SFits w32 b → eqb (of_z w32 a) (of_z w32 b) ≡ same_number a b
unfolding same_number
same_bits (pos a) (pos b) f g = refl
same_bits (pos a) (negsuc b) f g = ne_eqb a (2 ^ 32 - suc b) (apart a b f.sfits g.sfits)
same_bits (negsuc a) (pos b) f g = ne_eqb (2 ^ 32 - suc a) b (λ q. apart b a g.sfits f.sfits (sym q))
same_bits (negsuc a) (negsuc b) f g = below a b f.sfits g.sfits (ℕ_discrete a b)
