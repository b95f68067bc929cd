-- The fewest digits of a number are its decimal digits, and how many these are at most.
-- Assumes nothing.
use Prim.Native.Nat.{ℕ, zero, suc, ◌-◌, ◌/◌, ◌%◌, ◌^◌, ◌≤◌, ◌<◌}
use mathlib.Core.Path.{◌≡◌, refl, sym, ap, ◌∙◌}
use mathlib.Core.Bool.{Bool, true, false, cond}
use mathlib.Core.List.{List, [], ◌∷◌, ◌++◌}
use native.Mathlib.Nat.{pow-suc, pow-le-pow_right}
use native.Mathlib.Omega.{arith}
use lib.Dec.{lit<, leb, ltb}
use lib.ListN.{length, length-append}
use borrow.Author.Tests.{lt-ltb, le-ltb, leb-true, leb-false}
use Rattle.io.specs.Digits.{hex_digit_ascii, last_digits, IsDigitCount}
use Rattle.lines.specs.Page.{decimal_from, decimal}

one-digit : (k n : ℕ) → n < 10 → decimal_from k n ≡ hex_digit_ascii n ∷ []
unfolding decimal_from
one-digit zero n h = refl
one-digit (suc k) n h = ap (λ (b : Bool). cond b (hex_digit_ascii n ∷ []) (decimal_from k (n / 10) ++ (hex_digit_ascii (n % 10) ∷ []))) (lt-ltb n 10 h)

more-digits : (k n : ℕ) → 10 ≤ n → decimal_from (suc k) n ≡ decimal_from k (n / 10) ++ (hex_digit_ascii (n % 10) ∷ [])
unfolding decimal_from
more-digits k n h = ap (λ (b : Bool). cond b (hex_digit_ascii n ∷ []) (decimal_from k (n / 10) ++ (hex_digit_ascii (n % 10) ∷ []))) (le-ltb n 10 h)

one_less : (c : ℕ) → suc c - 1 ≡ c
one_less c = omega arith

from-digits : (k n c : ℕ) → IsDigitCount 10 1 n (suc c) → c ≤ k → last_digits 10 (suc c) n ≡ decimal_from k n
from-digits k n zero f h =
    let small : n < 10 = omega (arith, f.1) in
    let e : n % 10 ≡ n = omega arith in
    ap (λ (d : ℕ). hex_digit_ascii d ∷ []) e ∙ sym (one-digit k n small)
from-digits zero n (suc c) f h = absurd (omega arith)
from-digits (suc k) n (suc c) f h =
    let p = pow-suc 10 c in
    let q = pow-suc 10 (suc c) in
    let one : 1 ≤ 10 ^ c = pow-le-pow_right (lit< tt) {i = 0} {j = c} (omega arith) in
    let low : 10 ^ suc c ≤ n = rw (one_less (suc c)) at (f.2 (omega arith)) in
    let less : n / 10 < 10 ^ suc c = omega (arith, f.1) in
    let more : 10 ^ c ≤ n / 10 = omega arith in
    ap (λ (l : List ℕ). l ++ (hex_digit_ascii (n % 10) ∷ [])) (from-digits k (n / 10) c (omega arith, less, λ z. rw (one_less c) more) (omega arith)) ∙ sym (more-digits k n (omega arith))

-- a number below 2^64 has at most 20 digits
few-digits : (n c : ℕ) → n < 2 ^ 64 → IsDigitCount 10 1 n (suc c) → c ≤ 19
few-digits n c h f = go (leb c 19) refl
  where
    go : (b : Bool) → leb c 19 ≡ b → c ≤ 19
    go true e = leb-true _ _ e
    go false e =
        let k : 19 < c = leb-false c 19 e in
        let p : 10 ^ 20 ≤ 10 ^ c = pow-le-pow_right (lit< tt) {i = 20} {j = c} (omega arith) in
        let q : 10 ^ c ≤ n = rw (one_less c) at (f.2 (omega arith)) in
        absurd (omega arith)

pub decimal-digits : (n count : ℕ) → n < 2 ^ 64 → IsDigitCount 10 1 n count → last_digits 10 count n ≡ decimal n
decimal-digits n zero h f = absurd (omega (arith, f.0))
decimal-digits n (suc c) h f = from-digits 19 n c f (few-digits n c h f)

pub digits-few : (k n : ℕ) → length (decimal_from k n) ≤ suc k
unfolding decimal_from
digits-few zero n = omega arith
digits-few (suc k) n = go (ltb n 10) (digits-few k (n / 10))
  where
    go : (b : Bool) → length (decimal_from k (n / 10)) ≤ suc k → length (cond b (hex_digit_ascii n ∷ []) (decimal_from k (n / 10) ++ (hex_digit_ascii (n % 10) ∷ []))) ≤ suc (suc k)
    go true h = omega arith
    go false h = rw length-append (omega arith)
