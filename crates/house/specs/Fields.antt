-- "21 bytes, bit-packed, most significant bit first": a record as a list of fields, packed into one number, and that number's bytes.
use Rattle.std.specs.Prelude.{ℕ, ◌+◌, ◌*◌, ◌/◌, ◌%◌, ◌^◌, List, [], ◌∷◌, get_or}
use Rattle.digits.specs.Digits.{joined, digits}

-- a width in bits and a value
pub record Field : Type 0 where
  pub width : ℕ
  pub value : ℕ

-- a field holds what its width has room for: a wider value is taken modulo 2 ^ width
abbrev pub field : ℕ → ℕ → Field
field w v = record { width = w; value = v % 2 ^ w }

-- the number that follows n where the fields follow
abbrev pub pack_from : ℕ → List Field → ℕ
pack_from n [] = n
pack_from n (f ∷ fs) = pack_from (n * 2 ^ f.width + f.value) fs

abbrev pub pack : List Field → ℕ
pack fs = pack_from 0 fs

-- the sum of the widths
abbrev pub total : List ℕ → ℕ
total [] = 0
total (w ∷ ws) = w + total ws

abbrev pub widths : List Field → List ℕ
widths [] = []
widths (f ∷ fs) = f.width ∷ widths fs

-- the fields of a number, by their widths
abbrev pub unpack : List ℕ → ℕ → List Field
unpack [] n = []
unpack (w ∷ ws) n = field w (n / 2 ^ total ws) ∷ unpack ws n

-- how many bytes a record has
abbrev pub record_bytes : ℕ
record_bytes = 21

-- fields as a record's bytes, and a record's bytes as fields
unfoldable pub packed : List Field → List ℕ
packed fs = digits record_bytes (pack fs)

unfoldable pub unpacked : List ℕ → List ℕ → List Field
unpacked ws s = unpack ws (joined 0 s)

-- the value of the field at a place
abbrev pub value_at : ℕ → List Field → ℕ
value_at i fs = (get_or fs i (field 0 0)).value
