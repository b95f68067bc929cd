-- Where the bits of a field are found among the bytes of a record.
-- Assumes nothing.
use mathlib.Core.Path.{◌≡◌, sym, ap, ◌∙◌}
use mathlib.Core.List.{List, ◌++◌}
use Prim.Native.Nat.{ℕ, ◌+◌, ◌*◌, ◌/◌, ◌%◌, ◌^◌, ◌<◌}
use native.Mathlib.Nat.{mul_assoc, mul-add-div_right, mul-add-mod_self_right, one-mul}
use native.Mathlib.Omega.{arith}
use lib.ListN.{length, take, drop, length-drop, take-append-drop}
use lib.Seq.{length-take-le, drop-drop}
use lib.Pow.{pow_pos, pow-add, shr-shr, high}
use Rattle.digits.specs.Digits.{joined, Bytes}
use Rattle.digits.proofs.Laws.{pow-bits, joined-append, joined-split, joined-lt, bytes_drop}

-- w bits of a list of bytes, r + 8 z bits before its end, are found in the j bytes from i on
pub window : (s : List ℕ) → Bytes s → (i j z u w r : ℕ) → i + j + z ≡ length s → 8 * j ≡ u + w + r
    → joined 0 (take j (drop i s)) / 2 ^ r % 2 ^ w ≡ joined 0 s / 2 ^ (8 * z + r) % 2 ^ w
window s h i j z u w r e q =
    let a = joined 0 (take i s) in
    let m = joined 0 (take j (drop i s)) in
    let t = joined 0 (drop (i + j) s) in
    let lj : length (take j (drop i s)) ≡ j = length-take-le j (drop i s) (omega (arith, length-drop i s)) in
    let lz : length (drop (i + j) s) ≡ z = omega (arith, length-drop (i + j) s) in
    let lt : t < 2 ^ (8 * z) = rw (one-mul, lz, pow-bits z) at (joined-lt 0 (drop (i + j) s) (bytes_drop (i + j) s h)) in
    let parts : s ≡ take i s ++ (take j (drop i s) ++ drop (i + j) s) =
    sym (take-append-drop i s) ∙ ap (λ (l : List ℕ). take i s ++ l) (sym (take-append-drop j (drop i s)) ∙ ap (λ (l : List ℕ). take j (drop i s) ++ l) (drop-drop j i s)) in
    let whole : joined 0 s ≡ (a * 2 ^ (8 * j) + m) * 2 ^ (8 * z) + t =
    ap (joined 0) parts ∙ rw (joined-append, joined-append) (joined-split (joined a (take j (drop i s))) (drop (i + j) s) ∙ rw (lz, joined-split a (take j (drop i s)), lj, pow-bits z, pow-bits j)) in
    let two : 2 ^ (8 * j) ≡ 2 ^ u * 2 ^ w * 2 ^ r = rw (q, pow-add, pow-add) in
    sym (rw (← shr-shr (joined 0 s) (8 * z) r, whole, high (a * 2 ^ (8 * j) + m) (8 * z) lt, two, ← mul_assoc a (2 ^ u * 2 ^ w) (2 ^ r), mul-add-div_right (pow_pos r) (a * (2 ^ u * 2 ^ w)) m, ← mul_assoc a (2 ^ u) (2 ^ w), mul-add-mod_self_right (a * 2 ^ u) (2 ^ w) (m / 2 ^ r)))
