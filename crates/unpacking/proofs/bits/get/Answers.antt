-- `unpacking::bits::get` meets its contract: fewer than eight bytes are a word, and the bytes that hold the field are read.
-- Assumes nothing.
use mathlib.Core.Path.{◌≡◌, refl, sym, ap, ◌∙◌}
use mathlib.Core.List.{List}
use Prim.Native.Nat.{ℕ, suc, ◌+◌, ◌*◌, ◌-◌, ◌/◌, ◌%◌, ◌^◌, ◌≤◌, ◌<◌}
use native.Mathlib.Nat.{mod-lt}
use native.Mathlib.Omega.{arith}
use lib.Dec.{lit<}
use lib.ListN.{length, take, drop, get_or, length-take}
use lib.Seq.{take-suc, take_all}
use lib.Pow.{pow_pos}
use Rattle.digits.specs.Digits.{joined, Bytes}
use Rattle.digits.proofs.Laws.{joined_snoc, joined_small, bytes_take, bytes_drop}
use Rattle.unpacking.specs.Within.{Within}
use Rattle.unpacking.proofs.Window.{window}
use Rattle.unpacking.proofs.bits.get.Goals as goal

-- one byte more
more : (s : List ℕ) (j : ℕ) → j < length s → joined 0 (take j s) * 256 + get_or s j 0 ≡ joined 0 (take (j + 1) s)
more s j h =
    let e : j + 1 ≡ suc j = omega arith in
    sym (rw (e, take-suc s j 0 h, joined_snoc))

-- fewer than eight bytes are below 2 ^ 56
small : (s : List ℕ) (j : ℕ) → Bytes s → j ≤ 7 → joined 0 (take j s) < 1 * 256 ^ 7
small s j h l = joined_small 1 0 7 (take j s) (bytes_take j s h) (lit< tt) (omega (arith, length-take j s))

-- of those that hold a field fewer than eight were read before the last
early : (s : List ℕ) (at w i j : ℕ) → Bytes s → Within at w (length s) → i < length (take j (drop (at / 8) s)) → j ≡ (at + w + 7) / 8 - at / 8
    → joined 0 (take i (take j (drop (at / 8) s))) < 1 * 256 ^ 7
early s at w i j h k l e =
    small (take j (drop (at / 8) s)) i (bytes_take j (drop (at / 8) s) (bytes_drop (at / 8) s h)) (omega (arith, k.narrow, k.word, length-take j (drop (at / 8) s)))

-- the bytes that were read hold the field
found : (s : List ℕ) (at w i n : ℕ) → Bytes s → Within at w (length s)
    → let bytes : List ℕ = take ((at + w + 7) / 8 - at / 8) (drop (at / 8) s) in n ≡ joined 0 (take i bytes) → length bytes ≤ i
    → n / 2 ^ (8 * ((at + w + 7) / 8) - (at + w)) % 2 ^ w ≡ joined 0 s / 2 ^ (168 - (at + w)) % 2 ^ w
found s at w i n h k g l =
    let e = (at + w + 7) / 8 in
    let bytes = take (e - at / 8) (drop (at / 8) s) in
    let q : 168 - (at + w) ≡ 8 * (21 - e) + (8 * e - (at + w)) = omega arith in
    let all : n ≡ joined 0 bytes = g ∙ ap (λ t. joined 0 t) (take_all i bytes l) in
    rw (all, q) (window s h (at / 8) (e - at / 8) (21 - e) (at % 8) w (8 * e - (at + w)) (omega arith) (omega arith))

pub loop-byte-init : goal.loop-byte-init
unfolding joined
loop-byte-init c = refl

pub overflow_mul-n : goal.overflow_mul-n
overflow_mul-n c =
    let a = c.args in
    let low : c.loop-byte.n < 1 * 256 ^ 7 =
    rw c.loop-byte.invariant (early a.whole.now a.at a.width _ _ (λ k. (c.type_inv.whole k).fits) c.requires c.loop-byte-test.true refl) in
    omega (arith, low)

pub overflow_add-n : goal.overflow_add-n
overflow_add-n c =
    let a = c.args in
    let low : c.loop-byte.n < 1 * 256 ^ 7 =
    rw c.loop-byte.invariant (early a.whole.now a.at a.width _ _ (λ k. (c.type_inv.whole k).fits) c.requires c.loop-byte-test.true refl) in
    let bytes = take ((a.at + a.width + 7) / 8 - a.at / 8) (drop (a.at / 8) a.whole.now) in
    let byte : Bytes bytes = bytes_take _ _ (bytes_drop (a.at / 8) a.whole.now (λ k. (c.type_inv.whole k).fits)) in
    omega (arith, low, byte c.loop-byte.byte-index)

pub loop-byte-preserved : goal.loop-byte-preserved
loop-byte-preserved c = rw c.loop-byte.invariant (more _ c.loop-byte.byte-index c.loop-byte-test.true)

pub returns : goal.returns
returns c =
    let a = c.args in
    (rw c.low_bits.ensures (found _ a.at a.width _ _ (λ i. (c.type_inv.whole i).fits) c.requires c.loop-byte.invariant c.loop-byte-test.false), rw c.low_bits.ensures (mod-lt _ (pow_pos a.width)))
