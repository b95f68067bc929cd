-- `packing::bits::put_behind` meets its contract. The loop's invariant: the first i bytes are those of n, the others as they were.
-- Assumes nothing.
use mathlib.Core.Path.{◌≡◌, refl, ap, ◌∙◌}
use mathlib.Core.List.{List, ◌++◌}
use Prim.Native.Nat.{ℕ, zero, suc, ◌+◌, ◌*◌, ◌-◌, ◌/◌, ◌%◌, ◌^◌, ◌≤◌, ◌<◌}
use native.Mathlib.Nat.{add-zero, mod-lt, mul-mod_left}
use native.Mathlib.Omega.{arith}
use lib.ListN.{drop, get_or, set, length-set}
use lib.Seq.{take_all}
use lib.Pow.{pow_pos, pow-add, shl-shr, shl_exact, shr_lt, mod-pow-add}
use lib.Arith.{digits_lt}
use Rattle.digits.specs.Digits.{digits, Bytes}
use Rattle.digits.proofs.Laws.{pow-bits, length_digits}
use Rattle.slices.proofs.Tails.{front-step}
use Rattle.packing.specs.Filling.{reach}
use Rattle.packing.proofs.Filling.{first-begun, puts_one}
use Rattle.packing.proofs.bits.put_behind.Invariants.{Sent}
use Rattle.packing.proofs.bits.put_behind.Goals as goal

-- the byte at a place of a number's bytes
digit_at : (c n i : ℕ) → i < c → get_or (digits c n) i 0 ≡ n / 2 ^ (8 * (c - 1 - i)) % 256
unfolding digits
digit_at zero n i h = absurd (omega arith)
digit_at (suc c) n zero h = let e : suc c - 1 - 0 ≡ c = omega arith in rw (e, pow-bits c)
digit_at (suc c) n (suc i) h =
    let e : suc c - 1 - suc i ≡ c - 1 - i = omega arith in
    rw e (digit_at c n i (omega arith))

-- one byte more
more : (s₀ s : List ℕ) (n k i : ℕ) → Sent s₀ n k s i → i < k → Sent s₀ n k (set s i (n / 2 ^ (8 * (k - 1 - i)) % 256)) (i + 1)
more s₀ s n k i g h =
    record {
      inside = omega arith;
      room = g.room;
      sent = rw (g.sent, ← digit_at k n i h) (front-step s₀ (digits k n) i (omega arith) (omega (arith, length_digits k n)));
      size = simp length-set g.size;
    }

-- all of them
done : (s₀ s : List ℕ) (n k i : ℕ) → Sent s₀ n k s i → k ≤ i → s ≡ digits k n ++ drop k s₀
done s₀ s n k i g h =
    let e : i ≡ k = omega arith in
    g.sent ∙ rw (e, take_all k (digits k n) (omega (arith, length_digits k n)))

-- a number that is shifted by w bits has room for w more, whatever was shifted out
room-below : (b w r : ℕ) → w < 64 → r < 2 ^ w → b * 2 ^ w % 18446744073709551616 + r < 18446744073709551616
room-below b w r h l =
    let e : 64 - w + w ≡ 64 = omega arith in
    let q : b * 2 ^ w % 2 ^ (64 - w + w) ≡ b % 2 ^ (64 - w) * 2 ^ w = mod-pow-add (b * 2 ^ w) (64 - w) w ∙ rw (shl-shr b w, mul-mod_left b (2 ^ w), add-zero) in
    let t : b % 2 ^ (64 - w) * 2 ^ w + r < 2 ^ (64 - w + w) = rw pow-add (digits_lt (mod-lt b (pow_pos (64 - w))) l) in
    rw (← q, e) at t

-- the t bits that are taken of a byte x, and behind them a field
abbrev together : ℕ → ℕ → ℕ → ℕ → ℕ
together x t w v = x / 2 ^ (8 - t) * 2 ^ w + v % 2 ^ w

-- nothing of them is shifted out of the word, where r is the field's number
module _ (x t w v r : ℕ) (hx : x < 256) (ht : t < 8) (hw : t + w ≤ 64) (e : r ≡ v % 2 ^ w) where
  top_lt : x / 2 ^ (8 - t) < 2 ^ t
  top_lt = let q : t + (8 - t) ≡ 8 = omega arith in shr_lt t (8 - t) (rw q hx)

  together-lt : together x t w v < 2 ^ (t + w)
  together-lt = rw pow-add (digits_lt top_lt (mod-lt v (pow_pos w)))

  together-is : x / 2 ^ (8 - t) * 2 ^ w % 18446744073709551616 + r ≡ together x t w v
  together-is = rw (shl_exact t w 64 top_lt hw, e)

  word-is : (x / 2 ^ (8 - t) * 2 ^ w % 18446744073709551616 + r) * 2 ^ (8 * reach (t + w) - (t + w)) % 18446744073709551616 ≡ together x t w v * 2 ^ (8 * reach (t + w) - (t + w))
  word-is = rw together-is (shl_exact (t + w) (8 * reach (t + w) - (t + w)) 64 together-lt (omega arith))

pub overflow_add-n : goal.overflow_add-n
overflow_add-n c =
    let a = c.args in
    record { fits = room-below _ a.width _ (omega arith) (rw c.low_bits.ensures (mod-lt a.value (pow_pos a.width))) }

pub loop-i-init : goal.loop-i-init
loop-i-init c = record { inside = omega arith; room = omega arith; sent = refl; size = refl }

pub loop-i-preserved : goal.loop-i-preserved
loop-i-preserved c = more _ _ _ _ _ c.loop-i.invariant c.loop-i-test.true

pub returns : goal.returns
returns c =
    let l = c.loop-i in
    let out = c.args.out.now in
    let t = c.args.taken in
    let w = c.args.width in
    let v = c.args.value in
    let byte : Bytes out = λ i. (c.slice_known-2-1.given i).fits in
    let lt = together-lt (get_or out 0 0) t w v _ (byte 0) c.requires.0 (omega arith) c.low_bits.ensures in
    let n = word-is (get_or out 0 0) t w v _ (byte 0) c.requires.0 (omega arith) c.low_bits.ensures in
    puts_one out l.out t w v (together (get_or out 0 0) t w v) lt
    (ap (λ (x : ℕ). x * 2 ^ w + v % 2 ^ w) (first-begun t out c.requires.0 (omega arith) byte))
    (done _ _ _ _ _ l.invariant c.loop-i-test.false ∙ ap (λ (x : ℕ). digits (reach (t + w)) x ++ drop (reach (t + w)) out) n)
    l.invariant.size
