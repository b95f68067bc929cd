-- Filling an output with digits from behind, and byte one before them.
-- Assumes nothing.
use Prim.Native.Nat.{ℕ, suc, ◌+◌, ◌-◌, ◌*◌, ◌/◌, ◌%◌, ◌^◌, ◌<◌}
use mathlib.Core.Path.{◌≡◌, sym}
use mathlib.Core.List.{List, [], ◌∷◌, ◌++◌}
use native.Mathlib.Nat.{sub-zero, sub_self}
use native.Mathlib.Numerals.{add-one}
use native.Mathlib.Omega.{arith}
use lib.ListN.{length, take, drop, set, take-append-drop}
use lib.Seq.{take-suc, append_snoc, set_at, length-take-le}
use Rattle.digits.specs.Digits.{digits}
use Rattle.digits.proofs.Laws.{length_digits}
use Rattle.slices.specs.Writing.{laid}
use Rattle.integers.specs.Integer.{formed}

-- a list whose elements up to c have been given the j lowest digits of n from behind
unfoldable pub filled : List ℕ → ℕ → ℕ → ℕ → List ℕ
filled o c j n = take (suc (c - j)) o ++ (digits j n ++ drop (suc c) o)

pub filled_none : (o : List ℕ) (c n : ℕ) → o ≡ filled o c 0 n
unfolding filled digits
filled_none o c n = rw sub-zero (sym (take-append-drop (suc c) o))

pub filled_more : (o : List ℕ) (c j n : ℕ) → j < c → c < length o → set (filled o c j n) (c - j) (n / 256 ^ j % 256) ≡ filled o c (j + 1) n
unfolding filled digits
filled_more o c j n hj hc =
    let i : suc (c - suc j) ≡ c - j = omega arith in
    let inside : c - j < length o = omega arith in
    rw (add-one j, take-suc o (c - j) 0 inside, append_snoc, set_at (take (c - j) o) _ _ _ (c - j) (length-take-le (c - j) o (omega arith)), i)

pub filled-all : (o : List ℕ) (c n : ℕ) → filled o c c n ≡ take 1 o ++ (digits c n ++ drop (c + 1) o)
unfolding filled
filled-all o c n = rw (sub_self, add-one c)

-- byte one stored before the digits
pub placed : (t q c s m : ℕ) (o : List ℕ) → 0 < length o → set (take 1 o ++ (digits c m ++ drop (c + 1) o)) 0 ((c * q + s) * t + m / 256 ^ c) ≡ laid o (formed t q c s m)
unfolding formed
placed t q c s m [] h = absurd (omega arith)
placed t q c s m (x ∷ xs) h = simp (length_digits, add-one)
