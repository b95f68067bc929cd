-- The laws of base 256.
-- Assumes nothing.
use Prim.Native.Nat.{ℕ, zero, suc, ◌+◌, ◌*◌, ◌/◌, ◌%◌, ◌^◌, ◌<◌, ◌≤◌}
use mathlib.Core.Path.{◌≡◌, refl, sym, ap, ◌∙◌}
use mathlib.Core.List.{List, [], ◌∷◌, ◌++◌}
use native.Mathlib.Nat.{pow-suc, pow-succ', add-mul, mul_assoc, mul_comm, add_assoc, zero-add, one-mul, one-le-pow, pow-le-pow_right, mul-le-mul, lt_of_lt_of_le, mul-le-mul_right, div-add-mod', div-div-eq-div-mul, mul-suc}
use native.Mathlib.Omega.{arith}
use lib.Dec.{lit<}
use lib.ListN.{length, take, drop}
use lib.Seq.{get_or-drop}
use lib.Pow.{pow-add}
use lib.Arith.{digits_div, digits_mod, mod-mul}
use Rattle.digits.specs.Digits.{joined, digits, Bytes}

-- ---- bytes

pub bytes_take : (c : ℕ) (xs : List ℕ) → Bytes xs → Bytes (take c xs)
bytes_take zero xs h i = lit< tt
bytes_take (suc c) [] h i = lit< tt
bytes_take (suc c) (x ∷ xs) h zero = h zero
bytes_take (suc c) (x ∷ xs) h (suc i) = bytes_take c xs (λ j. h (suc j)) i

pub bytes_drop : (c : ℕ) (xs : List ℕ) → Bytes xs → Bytes (drop c xs)
bytes_drop c xs h i = rw get_or-drop (h (c + i))

-- ---- powers

pub pow_pos : (c : ℕ) → 0 < 256 ^ c
pow_pos c = one-le-pow c 256 (lit< tt)

-- a byte is eight bits
pub pow-bits : (c : ℕ) → 256 ^ c ≡ 2 ^ (8 * c)
pow-bits zero = refl
pow-bits (suc c) =
    pow-suc 256 c ∙ ap (λ (x : ℕ). x * 256) (pow-bits c) ∙ sym (ap (λ (x : ℕ). 2 ^ x) (mul-suc 8 c) ∙ pow-add 2 (8 * c) 8)

-- a * 256 ^ suc n, as the definitions meet it
up : (a n : ℕ) → a * 256 ^ suc n ≡ a * 256 * 256 ^ n
up a n = rw (pow-succ', ← mul_assoc)

-- ---- joined

pub joined-append : (a : ℕ) (xs ys : List ℕ) → joined a (xs ++ ys) ≡ joined (joined a xs) ys
unfolding joined
joined-append a [] ys = refl
joined-append a (x ∷ xs) ys = joined-append (a * 256 + x) xs ys

pub joined-split : (a : ℕ) (xs : List ℕ) → joined a xs ≡ a * 256 ^ length xs + joined 0 xs
unfolding joined
joined-split a [] = omega arith
joined-split a (x ∷ xs) =
    joined-split (a * 256 + x) xs ∙ rw (zero-add, joined-split x xs, up, add-mul) (add_assoc _ _ _)

pub joined-lt : (a : ℕ) (xs : List ℕ) → Bytes xs → joined a xs < suc a * 256 ^ length xs
unfolding joined
joined-lt a [] h = omega arith
joined-lt a (x ∷ xs) h =
    rw up
    (lt_of_lt_of_le (joined-lt (a * 256 + x) xs (λ i. h (suc i)))
    (mul-le-mul_right (256 ^ length xs) (omega (arith, h 0))))

-- no more than n digits after a top below t are below t * 256 ^ n
pub joined_small : (t a n : ℕ) (xs : List ℕ) → Bytes xs → a < t → length xs ≤ n → joined a xs < t * 256 ^ n
joined_small t a n xs h ha hn =
    lt_of_lt_of_le (joined-lt a xs h) (mul-le-mul ha (pow-le-pow_right (lit< tt) hn))

pub joined-div : (a : ℕ) (xs : List ℕ) → Bytes xs → joined a xs / 256 ^ length xs ≡ a
joined-div a xs h = rw joined-split (digits_div a (simp one-mul at (joined-lt 0 xs h)))

pub joined_snoc : (a : ℕ) (xs : List ℕ) (y : ℕ) → joined a (xs ++ (y ∷ [])) ≡ joined a xs * 256 + y
unfolding joined
joined_snoc a xs y = joined-append a xs (y ∷ [])

-- ---- digits

pub length_digits : (c n : ℕ) → length (digits c n) ≡ c
unfolding digits
length_digits zero n = refl
length_digits (suc c) n = ap suc (length_digits c n)

-- the digits of what was joined are the digits that were joined
pub digits-joined : (a : ℕ) (xs : List ℕ) → Bytes xs → digits (length xs) (joined a xs) ≡ xs
unfolding joined digits
digits-joined a [] h = refl
digits-joined a (x ∷ xs) h =
    rw (joined-div (a * 256 + x) xs (λ i. h (suc i)), digits_mod a (h 0), digits-joined (a * 256 + x) xs (λ i. h (suc i)))

-- and the other way
pub joined-digits : (a c n : ℕ) → joined a (digits c n) ≡ a * 256 ^ c + n % 256 ^ c
unfolding joined digits
joined-digits a zero n = omega arith
joined-digits a (suc c) n =
    joined-digits (a * 256 + n / 256 ^ c % 256) c n
    ∙ rw (up, pow-suc, mul_comm (256 ^ c) 256, mod-mul n {m = 256} {c = 256 ^ c} (lit< tt) (pow_pos c), add-mul) (add_assoc _ _ _)

pub joined-whole : (c n : ℕ) → joined (n / 256 ^ c) (digits c n) ≡ n
joined-whole c n = joined-digits (n / 256 ^ c) c n ∙ div-add-mod' n (256 ^ c)

-- one digit less
pub digit-step : (n j : ℕ) → n / 256 ^ j / 256 ≡ n / 256 ^ suc j
digit-step n j = rw (pow-suc, div-div-eq-div-mul)
