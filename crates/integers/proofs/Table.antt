-- Document 01's table of the five integers, in one table under one claim: of each row, what its count bits and its sign make of the bits in
-- byte one and of the greatest value.
-- Assumes nothing.
use Prim.Native.Nat.{ℕ, ◌^◌, ◌+◌}
use mathlib.Core.Path.{◌≡◌, refl}
use mathlib.Core.List.{List, [], ◌∷◌, map}
use Rattle.integers.specs.Integer.{tops, limit}
use Rattle.integers.specs.declared.kinds.Integer.{Ghosts}
use Rattle.integers.specs.contracts.kinds.U16Integer.TheImpl as U2
use Rattle.integers.specs.contracts.kinds.I16Integer.TheImpl as S2
use Rattle.integers.specs.contracts.kinds.U32Integer.TheImpl as U4
use Rattle.integers.specs.contracts.kinds.I32Integer.TheImpl as S4
use Rattle.integers.specs.contracts.kinds.U64Integer.TheImpl as U8

-- count bits, sign bits, the value's bits in byte one, and the greatest magnitude
pub record Kind : Type 0 where
  pub counts : ℕ
  pub sign : ℕ
  pub bits : ℕ
  pub greatest : ℕ

abbrev kind : ℕ → ℕ → ℕ → ℕ → Kind
kind k g b m = record { counts = k; sign = g; bits = b; greatest = m }

abbrev no : ℕ
no = 0

abbrev yes : ℕ
yes = 1

abbrev u2 : Kind
u2 = kind 1 no 7 0x7FFF

abbrev s2 : Kind
s2 = kind 1 yes 6 0x3FFF

abbrev u4 : Kind
u4 = kind 2 no 6 0x3FFFFFFF

abbrev s4 : Kind
s4 = kind 2 yes 5 0x1FFFFFFF

abbrev u8 : Kind
u8 = kind 3 no 5 0x1FFFFFFFFFFFFFFF

pub kinds : List Kind
kinds = u2 ∷ s2 ∷ u4 ∷ s4 ∷ u8 ∷ []

-- THE CLAIM: byte one is the count's bits, the sign's and the value's; those of the value have that many values, and the first magnitude that is
-- out of range is behind the greatest
pub record Tabled (rows : List Kind) : Type 0 where
  pub whole : map (λ r. r.counts + r.sign + r.bits) rows ≡ map (λ r. 8) rows
  pub byte_one : map (λ r. tops r.counts r.sign) rows ≡ map (λ r. 2 ^ r.bits) rows
  pub range : map (λ r. limit r.counts r.sign) rows ≡ map (λ r. r.greatest + 1) rows

pub the-table : Tabled kinds
unfolding kinds
the-table = record { whole = refl; byte_one = refl; range = refl }

-- and its rows are what the code says of its five kinds
abbrev said : {A : Type 0} → Ghosts A → ℕ × ℕ × ℕ
said i = (i.COUNT_BITS, i.SIGN_BITS, i.GREATEST)

pub the-kinds : map (λ r. (r.counts, r.sign, r.greatest)) kinds ≡ said U2.ghosts ∷ said S2.ghosts ∷ said U4.ghosts ∷ said S4.ghosts ∷ said U8.ghosts ∷ []
unfolding kinds
the-kinds = refl
