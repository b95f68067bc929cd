-- The laws of packed fields, each proved once over the list of fields.
-- Assumes nothing.
use mathlib.Core.Path.{◌≡◌, refl, sym, ap, ◌∙◌}
use mathlib.Core.List.{List, [], ◌∷◌, ◌++◌}
use Prim.Native.Nat.{ℕ, ◌+◌, ◌*◌, ◌/◌, ◌%◌, ◌^◌, ◌<◌}
use native.Mathlib.Nat.{add-zero, zero-add, mul_assoc, add-mul, add_assoc, mod-lt, mod-eq_of_lt, mul-add-div_right, mul-add-mod_self_right, zero-mul, one-mul}
use native.Mathlib.Omega.{arith}
use lib.ListN.{length}
use lib.Pow.{pow_pos, pow-add, high, mod-pow-add}
use lib.Arith.{digits_lt}
use Rattle.digits.specs.Digits.{joined, Bytes}
use Rattle.digits.proofs.Laws.{pow-bits, joined-lt, joined-digits, digits-joined, length_digits}
use Rattle.house.specs.Fields.{Field, field, pack_from, pack, total, widths, unpack, packed, unpacked}

-- each value is of its width
abbrev pub Fit : List Field → Type 0
Fit [] = Unit
Fit (f ∷ fs) = (f.value < 2 ^ f.width) × Fit fs

-- a field is what its width has room for
pub field_fit : (w v : ℕ) → v % 2 ^ w < 2 ^ w
field_fit w v = mod-lt v (pow_pos w)

pub field-again : (w v : ℕ) → field w (v % 2 ^ w) ≡ field w v
field-again w v = ap (λ (x : ℕ). record { width = w; value = x }) (mod-eq_of_lt (field_fit w v))

-- ---- packing

pub pack-append : (n : ℕ) (fs gs : List Field) → pack_from n (fs ++ gs) ≡ pack_from (pack_from n fs) gs
pack-append n [] gs = refl
pack-append n (f ∷ fs) gs = pack-append (n * 2 ^ f.width + f.value) fs gs

pub total-append : (fs gs : List Field) → total (widths (fs ++ gs)) ≡ total (widths fs) + total (widths gs)
total-append [] gs = sym (zero-add _)
total-append (f ∷ fs) gs = ap (λ (x : ℕ). f.width + x) (total-append fs gs) ∙ sym (add_assoc _ _ _)

pub pack-high : (n : ℕ) (fs : List Field) → pack_from n fs ≡ n * 2 ^ total (widths fs) + pack fs
pack-high n [] = omega arith
pack-high n (f ∷ fs) =
    pack-high (n * 2 ^ f.width + f.value) fs
    ∙ rw (pack-high (0 * 2 ^ f.width + f.value) fs, pow-add, add-mul, zero-mul, zero-add, mul_assoc, add_assoc)

pub pack-cons : (f : Field) (fs : List Field) → pack (f ∷ fs) ≡ f.value * 2 ^ total (widths fs) + pack fs
pack-cons f fs = pack-high (0 * 2 ^ f.width + f.value) fs ∙ rw (zero-mul, zero-add)

pub pack-lt : (fs : List Field) → Fit fs → pack fs < 2 ^ total (widths fs)
pack-lt [] h = omega arith
pack-lt (f ∷ fs) h = rw (pack-cons f fs, pow-add) (digits_lt h.0 (pack-lt fs h.1))

-- a run of zeros, packed in two parts
pub zeros : (n a b : ℕ) → (n * 2 ^ a + 0) * 2 ^ b + 0 ≡ n * 2 ^ (a + b) + 0
zeros n a b = rw (pow-add, add-zero, add-zero, add-zero, mul_assoc)

-- ---- unpacking

pub unpack-high : (ws : List ℕ) (z r : ℕ) → unpack ws (z * 2 ^ total ws + r) ≡ unpack ws r
unpack-high [] z r = refl
unpack-high (w ∷ ws) z r =
    rw (pow-add, ← mul_assoc, mul-add-div_right (pow_pos (total ws)) (z * 2 ^ w) r, mul-add-mod_self_right z (2 ^ w) (r / 2 ^ total ws), unpack-high ws (z * 2 ^ w) r)

pub unpack-pack : (fs : List Field) → Fit fs → unpack (widths fs) (pack fs) ≡ fs
unpack-pack [] h = refl
unpack-pack (f ∷ fs) h =
    rw (pack-cons f fs, high f.value (total (widths fs)) (pack-lt fs h.1), mod-eq_of_lt h.0, unpack-high (widths fs) f.value (pack fs), unpack-pack fs h.1)

pub widths-unpack : (ws : List ℕ) (n : ℕ) → widths (unpack ws n) ≡ ws
widths-unpack [] n = refl
widths-unpack (w ∷ ws) n = ap (λ (l : List ℕ). w ∷ l) (widths-unpack ws n)

pub pack-unpack : (ws : List ℕ) (n : ℕ) → pack (unpack ws n) ≡ n % 2 ^ total ws
pack-unpack [] n = omega arith
pack-unpack (w ∷ ws) n =
    pack-cons (field w (n / 2 ^ total ws)) (unpack ws n)
    ∙ rw (widths-unpack ws n, pack-unpack ws n, mod-pow-add n w (total ws))

-- ---- records: 21 bytes

pub length-packed : (fs : List Field) → length (packed fs) ≡ 21
unfolding packed
length-packed fs = length_digits 21 (pack fs)

-- reading what was packed
pub unpacked-packed : (fs : List Field) → Fit fs → total (widths fs) ≡ 168 → unpacked (widths fs) (packed fs) ≡ fs
unfolding packed unpacked
unpacked-packed fs h e =
    let l : pack fs < 2 ^ 168 = rw e at (pack-lt fs h) in
    rw (joined-digits 0 21 (pack fs), pow-bits 21, mod-eq_of_lt l, zero-mul, zero-add, unpack-pack fs h)

-- packing what was read
pub packed-unpacked : (ws s : List ℕ) → Bytes s → length s ≡ 21 → total ws ≡ 168 → packed (unpacked ws s) ≡ s
unfolding packed unpacked
packed-unpacked ws s h l e =
    let b : joined 0 s < 256 ^ 21 = rw (one-mul, l) at (joined-lt 0 s h) in
    let c : joined 0 s < 2 ^ 168 = rw (pow-bits 21) at b in
    rw (pack-unpack ws (joined 0 s), e, mod-eq_of_lt c, ← l, digits-joined 0 s h)
