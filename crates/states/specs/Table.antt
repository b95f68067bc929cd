-- Document 01, "Contact states (000, 2.2.3.3.1.1 and 3.1.1.1)": the table of eight flag values by three states.
use Rattle.std.specs.Prelude.{ℕ, suc, Bool, cond, List, [], ◌∷◌, length, get_or, eqb, ltb}

-- the states; a contact whose number is none of them has no legal flags
abbrev pub out : ℕ
out = 0

abbrev pub hovering : ℕ
hovering = 1

abbrev pub engaged : ℕ
engaged = 2

-- no state: there is no such step
abbrev pub illegal : ℕ
illegal = 3

-- a flag value, and the state that it leads to from each of the three
pub record Row : Type 0 where
  pub flags : ℕ
  pub from_out : ℕ
  pub from_hovering : ℕ
  pub from_engaged : ℕ

abbrev pub row : ℕ → ℕ → ℕ → ℕ → Row
row f o h e = record { flags = f; from_out = o; from_hovering = h; from_engaged = e }

abbrev pub table : List Row
table =
    row 0x0A hovering hovering illegal
    ∷ row 0x19 engaged engaged illegal
    ∷ row 0x1A illegal illegal engaged
    ∷ row 0x0C illegal illegal hovering
    ∷ row 0x04 illegal illegal out
    ∷ row 0x24 illegal illegal out
    ∷ row 0x02 illegal out illegal
    ∷ row 0x22 illegal out illegal
    ∷ []

-- the place of a flag value in a table, and the table's length where it has none
unfoldable pub place_of : ℕ → List Row → ℕ
place_of f [] = 0
place_of f (r ∷ rs) = cond (eqb f r.flags) 0 (suc (place_of f rs))

-- "contactFlags not in the state table" is the contrary
unfoldable pub listed : ℕ → Bool
listed f = ltb (place_of f table) (length table)

-- what a row says of a state
unfoldable pub from : ℕ → Row → ℕ
from s r = cond (eqb s out) r.from_out (cond (eqb s hovering) r.from_hovering (cond (eqb s engaged) r.from_engaged illegal))

-- the row of flags that the table does not have
abbrev pub unlisted : Row
unlisted = row 0 illegal illegal illegal

-- the next state, or illegal
unfoldable pub next : ℕ → ℕ → ℕ
next f s = from s (get_or table (place_of f table) unlisted)
