-- What an integer leaves behind it is the end of what it was read from, in its only form or in any.
-- Assumes nothing.
use Prim.Native.Nat.{ℕ}
use mathlib.Core.Path.{◌≡◌, refl, sym}
use mathlib.Core.Bool.{Bool}
use mathlib.Core.List.{List}
use lib.ListN.{drop}
use Rattle.formats.specs.Format.{got}
use Rattle.formats.proofs.Laws.{never}
use Rattle.formats.proofs.Ends.{TailOf, Ends}
use Rattle.integers.specs.Integer.{Reading, value, refused, reading_by}
use Rattle.integers.specs.Shape.{Shape, unsigned, signed}
use Rattle.integers.proofs.Laws.{reading-inside}
use Rattle.fields.specs.Integers.{got_by, integer, Integers, taken_by}

integer-ends : {A : Type 0} (h : Shape A) (strictly : Bool) (k g : ℕ) → Ends (integer h (reading_by strictly) k g)
integer-ends {A} h strictly k g = record { ends = λ l b t e. go l b t (reading_by strictly k g l) refl e }
  where
    go : (l : List ℕ) (b : A) (t : List ℕ) (x : Reading) → reading_by strictly k g l ≡ x → got_by h.made x l ≡ got b t → TailOf l t
    go l b t (refused x) w e = never x b t e
    go l b t (value s m n) w e =
        let z : drop n l ≡ t = cc in
        (n, reading-inside strictly k g l s m n w, sym z)

pub record IntegersEnd (i : Integers) : Type 0 where
  pub u2 : Ends i.u2
  pub s2 : Ends i.s2
  pub u4 : Ends i.u4
  pub s4 : Ends i.s4
  pub u8 : Ends i.u8

pub form-ends : (strictly : Bool) → IntegersEnd (taken_by strictly)
form-ends strictly =
    record {
      u2 = integer-ends unsigned strictly 1 0;
      s2 = integer-ends signed strictly 1 1;
      u4 = integer-ends unsigned strictly 2 0;
      s4 = integer-ends signed strictly 2 1;
      u8 = integer-ends unsigned strictly 3 0;
    }
