-- Byte one: how the count's, the sign's and the magnitude's bits share it, by k count bits and g sign bits.
-- Assumes nothing.
use Prim.Native.Nat.{ℕ, ◌+◌, ◌-◌, ◌*◌, ◌/◌, ◌^◌, ◌<◌, ◌≤◌}
use mathlib.Core.Path.{◌≡◌}
use native.Mathlib.Nat.{lt_of_lt_of_le, mul-le-mul_right, mul-le-mul_left, pow-le-pow_right, div-lt_iff_lt-mul, div-div-eq-div-mul, le_trans, le_of_eq}
use native.Mathlib.Omega.{arith}
use lib.Dec.{lit<}
use lib.Pow.{pow-add, pow_mono, shr_lt, pow_pos}
use Rattle.integers.specs.Integer.{furthest, fewest, count_of, tops, signs, limit}
use Rattle.integers.proofs.Fewest.{fewest-fits, fewest-least}

pub tops-pos : (k g : ℕ) → 0 < tops k g
tops-pos k g = pow_pos (8 - (k + g))

pub signs-pos : (g : ℕ) → 0 < signs g
signs-pos g = pow_pos g

-- how the count's, the sign's and the magnitude's bits share byte one
pub record Shares (k g : ℕ) : Type 0 where
  pub some : 0 < tops k g
  pub most : tops k g ≤ 128
  pub signed : 0 < signs g
  pub counted : 32 ≤ tops k g * signs g

pub shares : (k g : ℕ) → 0 < k → k ≤ 3 → k + g ≤ 8 → Shares k g
shares k g hk h3 h8 =
    let e : (8 - (k + g)) + g ≡ 8 - k = omega arith in
    record {
      some = tops-pos k g;
      most = pow_mono {i = 8 - (k + g)} {j = 7} (omega arith);
      signed = signs-pos g;
      counted = rw (← pow-add, e) (pow_mono {i = 5} {j = 8 - k} (omega arith));
    }

-- so the count is at most 7
pub count_small : (t q b : ℕ) → b < 256 → 32 ≤ t * q → count_of t q b ≤ furthest
count_small t q b hb h =
    let p : 0 < t * q = omega arith in
    let w : b < 8 * (t * q) = omega arith in
    let k : b / (t * q) < 8 = (div-lt_iff_lt-mul p).1 w in
    omega (arith, div-div-eq-div-mul b t q)

-- the count of a kind's byte one is one of the kind's
pub count-range : (k g b : ℕ) → k + g ≤ 8 → b < 256 → count_of (tops k g) (signs g) b < 2 ^ k
count-range k g b h hb =
    let e : (8 - (k + g)) + g ≡ 8 - k = omega arith in
    let w : k + (8 - k) ≡ 8 = omega arith in
    rw (div-div-eq-div-mul, ← pow-add, e) (shr_lt k (8 - k) (rw w hb))

-- a magnitude in the range of its kind takes no more bytes than the kind counts
pub record Held (k g m : ℕ) : Type 0 where
  pub long : m < tops k g * 256 ^ furthest
  pub fits : m < tops k g * 256 ^ fewest furthest (tops k g) m
  pub most : fewest furthest (tops k g) m + 1 ≤ 2 ^ k
  pub counted : (fewest furthest (tops k g) m + 1) * (signs g * tops k g) ≤ 256

pub held : (k g m : ℕ) → k ≤ 3 → k + g ≤ 8 → m < limit k g → Held k g m
held k g m hk h hm =
    let p : 2 ^ k ≤ 2 ^ 3 = pow-le-pow_right (lit< tt) hk in
    let o : 0 < 2 ^ k = pow_pos k in
    let f : fewest furthest (tops k g) m ≤ 2 ^ k - 1 = fewest-least furthest (tops k g) m (2 ^ k - 1) hm in
    let top : 2 ^ k - 1 ≤ furthest = omega arith in
    let more : fewest furthest (tops k g) m + 1 ≤ 2 ^ k = omega arith in
    let w : k + (g + (8 - (k + g))) ≡ 8 = omega arith in
    let lg : m < tops k g * 256 ^ furthest = lt_of_lt_of_le hm (mul-le-mul_left (tops k g) (pow-le-pow_right (lit< tt) top)) in
    record {
      long = lg;
      fits = fewest-fits furthest (tops k g) m lg;
      most = more;
      counted = le_trans (mul-le-mul_right (signs g * tops k g) more) (le_of_eq (rw (← pow-add, ← pow-add, w)));
    }
