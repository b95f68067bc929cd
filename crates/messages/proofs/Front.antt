-- Little-endian numbers as code reads them: byte by byte at the front of a list.
-- Assumes nothing.
use Prim.Native.Nat.{ℕ, zero, suc, ◌+◌, ◌*◌, ◌≤◌, ◌<◌}
use mathlib.Core.Path.{◌≡◌, refl}
use mathlib.Core.List.{List, [], ◌∷◌}
use native.Mathlib.Nat.{zero-add}
use native.Mathlib.Omega.{arith}
use lib.ListN.{length, get_or, drop}
use Rattle.paper.specs.Refusals.{truncated}
use Rattle.formats.specs.Format.{got, bad, read_byte, read_little}

-- 5: too few bytes for the number
pub little_short : (n : ℕ) (l : List ℕ) → length l < n → read_little n l ≡ bad truncated
unfolding read_little read_byte
little_short zero l h = absurd (omega arith)
little_short (suc n) [] h = refl
little_short (suc n) (x ∷ l) h = rw (little_short n l (omega arith))

pub little_two : (l : List ℕ) → 2 ≤ length l → read_little 2 l ≡ got (get_or l 1 0 * 256 + get_or l 0 0) (drop 2 l)
unfolding read_little read_byte
little_two [] h = absurd (omega arith)
little_two (a ∷ []) h = absurd (omega arith)
little_two (a ∷ b ∷ l) h = rw zero-add

pub little_four : (l : List ℕ) → 4 ≤ length l → read_little 4 l ≡ got (((get_or l 3 0 * 256 + get_or l 2 0) * 256 + get_or l 1 0) * 256 + get_or l 0 0) (drop 4 l)
unfolding read_little read_byte
little_four [] h = absurd (omega arith)
little_four (a ∷ []) h = absurd (omega arith)
little_four (a ∷ b ∷ l) h = let e = little_two l (omega arith) in rw e
