-- Document 01, "A bench file": "entries of a 16-bit length, most significant first, then a message".
use Rattle.std.specs.Prelude.{ℕ, ◌/◌, ◌%◌, cond, List, [], ◌∷◌, eqb, take}

-- the longest that is written: of the longest message
abbrev pub written_most : ℕ
written_most = 4098

-- the entry of the first n bytes; none of no bytes
unfoldable pub entry_of : ℕ → List ℕ → List ℕ
entry_of n output = cond (eqb n 0) [] ((n / 256 % 256) ∷ (n % 256) ∷ take n output)
