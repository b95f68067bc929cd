-- Base 256, most significant digit first: how document 01 lays the integers' further bytes and the records' bits ("most significant first").
use Rattle.std.specs.Prelude.{ℕ, zero, suc, ◌+◌, ◌*◌, ◌/◌, ◌%◌, ◌^◌, ◌<◌, List, [], ◌∷◌, get_or}

-- the number whose digits are those of a and then the list's
unfoldable pub joined : ℕ → List ℕ → ℕ
joined a [] = a
joined a (x ∷ xs) = joined (a * 256 + x) xs

-- the c lowest digits of n
unfoldable pub digits : ℕ → ℕ → List ℕ
digits zero n = []
digits (suc c) n = n / 256 ^ c % 256 ∷ digits c n

-- each element is a byte (past the end `get_or` gives 0)
abbrev pub Bytes : List ℕ → Type 0
Bytes l = (i : ℕ) → get_or l i 0 < 256
