-- Fields put one behind the other: what one put does, and how runs of fields follow each other.
-- Assumes nothing.
use mathlib.Core.Path.{◌≡◌, sym, ap, ◌∙◌, subst}
use mathlib.Core.List.{List, [], ◌∷◌, ◌++◌}
use Prim.Native.Nat.{ℕ, zero, suc, ◌+◌, ◌*◌, ◌-◌, ◌/◌, ◌%◌, ◌^◌, ◌≤◌, ◌<◌}
use native.Mathlib.Nat.{mul_assoc, add_assoc, add-mul, zero-mul, zero-add, mod-eq_of_lt, div-eq_of_lt, div-one, mul-lt-mul_of_pos_right, mul-add-div_right}
use native.Mathlib.Omega.{arith}
use lib.IntN.{ℤ}
use lib.ListN.{length, take, drop, get_or, length-append, length-drop, take-append-drop}
use lib.Seq.{take-suc, take_at, drop_at, take-append-add, drop-append-add, drop-drop, length-take-le}
use lib.Pow.{pow_pos, pow-add, shl-shr}
use borrow.Rule.Slice.PartMut.{mid_of, put_mid}
use Rattle.digits.specs.Digits.{joined, digits, Bytes}
use Rattle.digits.proofs.Laws.{pow-bits, length_digits, joined-append, joined-split, joined-digits, digits-joined, bytes_take}
use Rattle.slices.proofs.Tails.{tail-is, tail-back}
use Rattle.house.specs.Fields.{Field, field, pack, pack_from, total, widths}
use Rattle.house.specs.Layout.{signed}
use Rattle.packing.specs.Filling.{reach, first_bits, Puts}
use Rattle.house.proofs.Fields.{pack-append, pack-high, total-append}

-- ---- the first bits of some bytes

-- the bytes that b bits reach into: those bits, and the others of the last byte
reached : (b : ℕ) → 256 ^ reach b ≡ 2 ^ b * 2 ^ (8 * reach b - b)
reached b =
    let r = 8 * reach b - b in
    let e : 8 * reach b ≡ b + r = omega arith in
    pow-bits (reach b) ∙ ap (λ (x : ℕ). 2 ^ x) e ∙ pow-add 2 b r

-- those of a byte that is begun
pub first-begun : (b : ℕ) (s : List ℕ) → b < 8 → 0 < length s → Bytes s → get_or s 0 0 / 2 ^ (8 - b) ≡ first_bits b s
unfolding first_bits joined
first-begun zero s h l k = div-eq_of_lt (k 0)
first-begun (suc b) s h l k =
    let r : reach (suc b) ≡ 1 = omega arith in
    rw (r, take-suc s 0 0 l, zero-mul, zero-add)

-- those that were written, with zeros behind them in their last byte
first-written : (b m : ℕ) (t : List ℕ) → m < 2 ^ b → first_bits b (digits (reach b) (m * 2 ^ (8 * reach b - b)) ++ t) ≡ m
unfolding first_bits
first-written b m t h =
    let k = reach b in
    let r = 8 * k - b in
    let l : m * 2 ^ r < 256 ^ k = rw (reached b) (mul-lt-mul_of_pos_right h (pow_pos r)) in
    rw (take_at _ t k (length_digits k (m * 2 ^ r)), joined-digits 0 k (m * 2 ^ r), mod-eq_of_lt l, zero-mul, zero-add) (shl-shr m r)

-- whole bytes stand before the others
first-behind : (p t : List ℕ) (k b : ℕ) → length p ≡ k → reach b ≤ length t → first_bits (8 * k + b) (p ++ t) ≡ joined 0 p * 2 ^ b + first_bits b t
unfolding first_bits
first-behind p t k b e h =
    let j = reach b in
    let r = 8 * j - b in
    let n = joined 0 (take j t) in
    let ej : reach (8 * k + b) ≡ length p + j = omega arith in
    let er : 8 * (length p + j) - (8 * k + b) ≡ r = omega arith in
    rw (ej, er, take-append-add p t j, joined-append 0 p (take j t), joined-split (joined 0 p) (take j t), length-take-le j t h, reached b, ← mul_assoc (joined 0 p) (2 ^ b) (2 ^ r))
    (mul-add-div_right (pow_pos r) (joined 0 p * 2 ^ b) n)

-- ---- one field

-- the bits of the byte that is begun and a field, m, go out with zeros behind them
pub puts_one : (out after : List ℕ) (b w v m : ℕ) → m < 2 ^ (b + w) → m ≡ first_bits b out * 2 ^ w + v % 2 ^ w
    → after ≡ digits (reach (b + w)) (m * 2 ^ (8 * reach (b + w) - (b + w))) ++ drop (reach (b + w)) out → length after ≡ length out → Puts (field w v ∷ []) b out after
puts_one out after b w v m h em ea size =
    let e : b + (w + 0) ≡ b + w = omega arith in
    let k = reach (b + w) in
    let n = m * 2 ^ (8 * k - (b + w)) in
    record {
      bits = rw (e, ea, first-written (b + w) m (drop k out) h) em;
      rest = rw (e, ea) (drop_at (digits k n) (drop k out) k (length_digits k n));
      size = size;
    }

-- a signed field is its number's
pub puts-same : (w : ℕ) {b : ℕ} {s t : List ℕ} {y z : ℤ} → y ≡ z → Puts (signed w y ∷ []) b s t → Puts (signed w z ∷ []) b s t
puts-same w {b} {s} {t} e h = subst (λ (x : ℤ). Puts (signed w x ∷ []) b s t) e h

-- ---- runs of fields

-- through a tail: whole bytes stand before what is lent
puts-behind : {fs : List Field} {t u : List ℕ} (p : List ℕ) (k b : ℕ) → length p ≡ k → b + total (widths fs) ≤ 8 * length t → Puts fs b t u → Puts fs (8 * k + b) (p ++ t) (p ++ u)
puts-behind {fs} {t} {u} p k b e l h =
    let w = total (widths fs) in
    let ek : reach (8 * k + b + w) ≡ length p + reach (b + w) = omega arith in
    let rt : reach b ≤ length t = omega arith in
    let ru : reach (b + w) ≤ length u = omega (arith, h.size) in
    let low : pack_from (first_bits b t) fs ≡ first_bits b t * 2 ^ w + pack fs = pack-high (first_bits b t) fs in
    record {
      bits =
          rw (add_assoc (8 * k) b w, first-behind p u k (b + w) e ru, h.bits, first-behind p t k b e rt, pack-high (joined 0 p * 2 ^ b + first_bits b t) fs, low, pow-add 2 b w, add-mul, ← mul_assoc, add_assoc);
      rest = rw (ek, drop-append-add p u (reach (b + w)), drop-append-add p t (reach (b + w))) h.rest;
      size = rw (length-append p u, length-append p t, h.size);
    }

-- through the tail that `&mut s[at / 8..]` lends
pub puts-tail : {fs : List Field} {u : List ℕ} (s : List ℕ) (at : ℕ) → at + total (widths fs) ≤ 8 * length s
    → Puts fs (at % 8) (mid_of (at / 8) (length s - at / 8) s) u → Puts fs at s (put_mid (at / 8) (length s - at / 8) s u)
puts-tail {fs} {u} s at l h =
    let k = at / 8 in
    let g : Puts fs (at % 8) (drop k s) u = subst (λ (x : List ℕ). Puts fs (at % 8) x u) (tail-is s k) h in
    let f = puts-behind (take k s) k (at % 8) (length-take-le k s (omega arith)) (omega (arith, length-drop k s)) g in
    let e : 8 * k + at % 8 ≡ at = omega arith in
    rw (tail-back s u k) (rw (e, take-append-drop k s) at f)

-- one run of fields behind another
pub puts_then : {fs gs : List Field} {b : ℕ} {s t u : List ℕ} → Puts fs b s t → Puts gs (b + total (widths fs)) t u → Puts (fs ++ gs) b s u
puts_then {fs} {gs} {b} {s} {t} {u} h k =
    let v = total (widths fs) in
    let w = total (widths gs) in
    let e : b + total (widths (fs ++ gs)) ≡ b + v + w = rw (total-append fs gs) (sym (add_assoc b v w)) in
    let more = reach (b + v + w) - reach (b + v) in
    let past : reach (b + v) + more ≡ reach (b + v + w) = omega arith in
    let kept : drop (reach (b + v + w)) t ≡ drop (reach (b + v + w)) s =
    rw (← past, ← drop-drop more (reach (b + v)) t, ← drop-drop more (reach (b + v)) s, h.rest) in
    record {
      bits = rw (e, pack-append (first_bits b s) fs gs, ← h.bits) k.bits;
      rest = rw e (k.rest ∙ kept);
      size = k.size ∙ h.size;
    }

-- ---- a whole record

-- the fields of all 168 bits lie over the front
pub puts-all : {fs : List Field} {s t : List ℕ} (m : ℕ) → Puts fs 0 s t → Bytes t → 21 ≤ length s → total (widths fs) ≡ 168 → pack fs ≡ m → t ≡ digits 21 m ++ drop 21 s
unfolding first_bits joined
puts-all {fs} {s} {t} m h k l e q =
    let z : 0 + total (widths fs) ≡ 168 = omega arith in
    let n : joined 0 (take 21 t) ≡ m = sym (div-one _) ∙ (rw z at h.bits) ∙ q in
    let r : drop 21 t ≡ drop 21 s = rw z at h.rest in
    let b : length (take 21 t) ≡ 21 = length-take-le 21 t (omega (arith, h.size)) in
    let d : digits 21 m ≡ take 21 t = rw (b, n) at (digits-joined 0 (take 21 t) (bytes_take 21 t k)) in
    rw (d, ← r) (sym (take-append-drop 21 t))
