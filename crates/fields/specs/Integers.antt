-- The five integers of 000, 2.2.2, as formats: over a reading, so that a message's format does not say which lengths are taken.
use Rattle.std.specs.Prelude.{ℕ, ◌<◌, Bool, true, false, List, ℤ, drop}
use Rattle.formats.specs.Format.{Got, got, bad, Format}
use Rattle.integers.specs.Integer.{Reading, value, refused, reading_by, writing, limit}
use Rattle.integers.specs.Shape.{Shape, unsigned, signed}

-- a reading, as a value and the bytes after it
abbrev pub got_by : {A : Type 0} → (ℕ → ℕ → A) → Reading → List ℕ → Got A
got_by made (value s m n) l = got (made s m) (drop n l)
got_by made (refused e) l = bad e

-- an integer of k count bits and g sign bits, as rd reads it
abbrev pub integer : {A : Type 0} → Shape A → (ℕ → ℕ → List ℕ → Reading) → ℕ → ℕ → Format A
integer h rd k g =
    record {
      read = λ l. got_by h.made (rd k g l) l;
      write = λ a. writing k g (h.sign a) (h.size a);
      Holds = λ a. h.size a < limit k g;
    }

-- the five
pub record Integers : Type 1 where
  pub u2 : Format ℕ
  pub s2 : Format ℤ
  pub u4 : Format ℕ
  pub s4 : Format ℤ
  pub u8 : Format ℕ

abbrev pub integers_by : (ℕ → ℕ → List ℕ → Reading) → Integers
integers_by rd =
    record {
      u2 = integer unsigned rd 1 0;
      s2 = integer signed rd 1 1;
      u4 = integer unsigned rd 2 0;
      s4 = integer signed rd 2 1;
      u8 = integer unsigned rd 3 0;
    }

-- strictly in their only form, or in any
abbrev pub taken_by : Bool → Integers
taken_by strictly = integers_by (reading_by strictly)

abbrev pub strict : Integers
strict = taken_by true

abbrev pub lenient : Integers
lenient = taken_by false

-- how messages are read ("The receiver and the plain reading now accept every length that document 000 allows, and minus zero as zero"), and so the
-- five of their formats
abbrev pub taken : Integers
taken = lenient
