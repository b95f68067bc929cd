-- Document 01, "A bench file": "entries of a 16-bit length, most significant first, then a message".
use Rattle.std.specs.Prelude.{ℕ, ◌+◌, ◌*◌, cond, List, leb, length, get_or, Option, Some, None}

-- the length that stands at the front
abbrev pub length_at : List ℕ → ℕ
length_at l = get_or l 0 0 * 256 + get_or l 1 0

-- a whole entry, or a part of one: with fewer than two bytes the length itself is incomplete
unfoldable pub front_of : List ℕ → Option ℕ
front_of l = cond (leb 2 (length l)) (cond (leb (2 + length_at l) (length l)) (Some (length_at l)) None) None
