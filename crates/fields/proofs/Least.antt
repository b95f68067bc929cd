-- An integer takes a byte at least, whatever reading takes one and ends inside what it was given.
-- Assumes nothing.
use Prim.Native.Nat.{ℕ, ◌+◌, ◌≤◌}
use mathlib.Core.Path.{◌≡◌, refl, ap}
use mathlib.Core.Bool.{false}
use mathlib.Core.List.{List}
use native.Mathlib.Omega.{arith}
use lib.ListN.{length, drop, length-drop}
use Rattle.formats.specs.Format.{got}
use Rattle.formats.proofs.Laws.{never}
use Rattle.formats.proofs.Least.{Takes}
use Rattle.integers.specs.Integer.{Reading, value, refused, reading_by}
use Rattle.integers.proofs.Laws.{reading-one, reading-inside}
use Rattle.integers.specs.Shape.{Shape, unsigned, signed}
use Rattle.fields.specs.Integers.{got_by, integer, Integers, integers_by, taken}
use Rattle.fields.proofs.Order.{Inside}

pub record IntegersLeast (i : Integers) : Type 0 where
  pub u2 : Takes 1 i.u2
  pub s2 : Takes 1 i.s2
  pub u4 : Takes 1 i.u4
  pub s4 : Takes 1 i.s4
  pub u8 : Takes 1 i.u8

module _ (rd : ℕ → ℕ → List ℕ → Reading) (one : (k g : ℕ) (l : List ℕ) (s m n : ℕ) → rd k g l ≡ value s m n → 1 ≤ n) (inside : (k g : ℕ) → Inside (rd k g)) where
  takes-integer : {A : Type 0} (h : Shape A) (k g : ℕ) → Takes 1 (integer h rd k g)
  takes-integer {A} h k g = record { least = λ l a t w. go l a t (rd k g l) refl w }
    where
      go : (l : List ℕ) (a : A) (t : List ℕ) (z : Reading) → rd k g l ≡ z → got_by h.made z l ≡ got a t → 1 + length t ≤ length l
      go l a t (value s m n) e w =
          let q : drop n l ≡ t = cc in
          omega (arith, one k g l s m n e, inside k g l s m n e, ap length q, length-drop n l)
      go l a t (refused e) v w = never e a t w

  integers-least : IntegersLeast (integers_by rd)
  integers-least =
      record {
        u2 = takes-integer unsigned 1 0;
        s2 = takes-integer signed 1 1;
        u4 = takes-integer unsigned 2 0;
        s4 = takes-integer signed 2 1;
        u8 = takes-integer unsigned 3 0;
      }

pub taken-least : IntegersLeast taken
taken-least = integers-least (reading_by false) (reading-one false) (reading-inside false)
