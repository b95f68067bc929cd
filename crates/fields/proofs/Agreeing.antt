-- An integer that is not refused with 6 is read strictly as it is read leniently.
-- Assumes nothing.
use Prim.Native.Nat.{ℕ}
use mathlib.Core.Path.{ap}
use mathlib.Core.List.{List}
use Rattle.paper.specs.Refusals.{not_shortest}
use Rattle.formats.proofs.Agreeing.{Agree, refuses, same, Agreeing}
use Rattle.integers.specs.Integer.{Reading, reading, any_reading}
use Rattle.integers.proofs.Laws.{Apart, six, alike, readings}
use Rattle.integers.specs.Shape.{Shape, unsigned, signed}
use Rattle.fields.specs.Integers.{got_by, integer, Integers, strict, lenient}

pub record IntegersAgreeing (e : ℕ) (i j : Integers) : Type 0 where
  pub u2 : Agreeing e i.u2 j.u2
  pub s2 : Agreeing e i.s2 j.s2
  pub u4 : Agreeing e i.u4 j.u4
  pub s4 : Agreeing e i.s4 j.s4
  pub u8 : Agreeing e i.u8 j.u8

one : {A : Type 0} (h : Shape A) (k g : ℕ) → Agreeing not_shortest (integer h reading k g) (integer h any_reading k g)
one h k g = record { agree = λ l. go l (readings k g l) }
  where
    go : (l : List ℕ) → Apart (reading k g l) (any_reading k g l) → Agree not_shortest (got_by h.made (reading k g l) l) (got_by h.made (any_reading k g l) l)
    go l (six w) = refuses (ap (λ (x : Reading). got_by h.made x l) w)
    go l (alike w) = same (ap (λ (x : Reading). got_by h.made x l) w)

pub strict-agrees : IntegersAgreeing not_shortest strict lenient
strict-agrees =
    record {
      u2 = one unsigned 1 0;
      s2 = one signed 1 1;
      u4 = one unsigned 2 0;
      s4 = one signed 2 1;
      u8 = one unsigned 3 0;
    }
