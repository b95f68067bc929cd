-- `unpacking::read::is_head_spare_zero` meets its contract: 96 bits are 56 and 40.
-- Assumes nothing.
use borrow.Author.Tests.{ne_eqb}
use mathlib.Core.Path.{◌≡◌, sym, ap, ◌∙◌}
use Prim.Native.Nat.{ℕ, ◌+◌, ◌*◌, ◌/◌, ◌%◌, ◌^◌}
use native.Mathlib.Nat.{zero-mul, zero-add, div-one}
use native.Mathlib.Omega.{arith}
use lib.Dec.{eqb}
use lib.Pow.{mod-pow-add}
use Rattle.house.specs.Fields.{unpacked}
use Rattle.house.specs.Layout.{head_spare}
use Rattle.unpacking.proofs.read.is_head_spare_zero.Goals as goal

-- the low 96 bits by their parts
parts : (n : ℕ) → n / 2 ^ 0 % 2 ^ 96 ≡ (n / 2 ^ 40 % 2 ^ 56) * 2 ^ 40 + n / 2 ^ 0 % 2 ^ 40
parts n = mod-pow-add (n / 2 ^ 0) 56 40 ∙ rw (div-one n)

low : (n h l : ℕ) → h ≡ n / 2 ^ 40 % 2 ^ 56 → l ≡ n / 2 ^ 0 % 2 ^ 40 → h ≡ 0 → l ≡ n / 2 ^ 0 % 2 ^ 96
low n h l e f z = sym (parts n ∙ rw (← e, z, zero-mul, zero-add, ← f))

high : (n h : ℕ) → h ≡ n / 2 ^ 40 % 2 ^ 56 → (h ≡ 0 → ⊥) → n / 2 ^ 0 % 2 ^ 96 ≡ 0 → ⊥
high n h e z q =
    let t : h * 2 ^ 40 + n / 2 ^ 0 % 2 ^ 40 ≡ 0 = rw e (sym (parts n) ∙ q) in
    z (omega (arith, t))

pub returns-then-high-eq0 : goal.returns-then-high-eq0
unfolding unpacked head_spare
returns-then-high-eq0 c = ap (λ (k : ℕ). eqb k 0) (low _ _ _ c.get-high.ensures.0 c.get-low.ensures.0 c.if-high-eq0.true)

pub returns-else-high-eq0 : goal.returns-else-high-eq0
unfolding unpacked head_spare
returns-else-high-eq0 c = sym (ne_eqb _ 0 (high _ _ c.get-high.ensures.0 c.if-high-eq0.false))
