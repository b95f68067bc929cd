-- Document 01's proved set, in one table under one claim: each row's bytes are read as its answer, and its value is written as its bytes.
-- Assumes nothing.
use Prim.Native.Nat.{ℕ}
use mathlib.Core.Path.{◌≡◌, refl}
use mathlib.Core.List.{List, [], ◌∷◌, map}
use Rattle.paper.specs.Refusals.{not_shortest}
use Rattle.digits.specs.Digits.{joined, digits}
use Rattle.integers.specs.Integer.{Reading, value, refused, reading, writing, decoded_by, only, fewest, decoded, formed}

-- count bits, sign bits, bytes, and the answer: a sign, a magnitude and a length, or a refusal
pub record Row : Type 0 where
  pub k : ℕ
  pub g : ℕ
  pub bytes : List ℕ
  pub answer : Reading

abbrev row : ℕ → ℕ → List ℕ → Reading → Row
row k g b a = record { k = k; g = g; bytes = b; answer = a }

abbrev u2 : List ℕ → Reading → Row
u2 = row 1 0

abbrev s2 : List ℕ → Reading → Row
s2 = row 1 1

abbrev u4 : List ℕ → Reading → Row
u4 = row 2 0

abbrev s4 : List ℕ → Reading → Row
s4 = row 2 1

abbrev u8 : List ℕ → Reading → Row
u8 = row 3 0

pub table : List Row
table =
    u2 (0x9A ∷ 0x1B ∷ []) (value 0 0x1A1B 2)
    ∷ s2 (0xDA ∷ 0x1B ∷ []) (value 1 0x1A1B 2)
    ∷ s2 (0x42 ∷ []) (value 1 2 1)
    ∷ u4 (0x9A ∷ 0x1B ∷ 0x1C ∷ []) (value 0 0x1A1B1C 3)
    ∷ s4 (0xBA ∷ 0x1B ∷ 0x1C ∷ []) (value 1 0x1A1B1C 3)
    ∷ s4 (0x22 ∷ []) (value 1 2 1)
    ∷ u8 (0xDA ∷ 0x1B ∷ 0x1C ∷ 0x1D ∷ 0x1E ∷ 0x1F ∷ 0x2A ∷ []) (value 0 0x1A1B1C1D1E1F2A 7)
    ∷ u2 (0x7F ∷ []) (value 0 0x7F 1)
    ∷ u2 (0x80 ∷ 0x80 ∷ []) (value 0 0x80 2)
    ∷ s2 (0xC0 ∷ 0x40 ∷ []) (value 1 64 2)
    ∷ s4 (0x40 ∷ 0x20 ∷ []) (value 0 32 2)
    ∷ u8 (0x20 ∷ 0x20 ∷ []) (value 0 32 2)
    ∷ s2 (0x40 ∷ []) (refused not_shortest)
    ∷ []

-- what a row's bytes are read as
pub read_of : Row → Reading
read_of r = reading r.k r.g r.bytes

-- what an answer's value is written as; a refusal has none, and stands for the row's own bytes
pub written_as : ℕ → ℕ → List ℕ → Reading → List ℕ
written_as k g b (value s m n) = writing k g s m
written_as k g b (refused e) = b

pub written_of : Row → List ℕ
written_of r = written_as r.k r.g r.bytes r.answer

-- THE CLAIM
pub record Proved (rows : List Row) : Type 0 where
  pub read : map read_of rows ≡ map (λ r. r.answer) rows
  pub written : map written_of rows ≡ map (λ r. r.bytes) rows

pub proved-set : Proved table
unfolding table read_of written_of written_as joined digits fewest decoded_by only decoded formed
proved-set = record { read = refl; written = refl }
