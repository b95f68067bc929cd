-- The five integers of 000, 2.2.2, over the number k of count bits and the number g of sign bits (1 or 0), as document 01's table lists them:
-- U2 is 1 0, S2 is 1 1, U4 is 2 0, S4 is 2 1 and U8 is 3 0.
-- "The top bits of the first byte give the further byte count c, then a sign bit where signed, then the most significant value bits.
-- The remaining bytes follow, most significant first." "Signed values are sign and magnitude."
use Rattle.std.specs.Prelude.{ℕ, zero, suc, ◌+◌, ◌-◌, ◌*◌, ◌/◌, ◌%◌, ◌^◌, List, ◌∷◌, Bool, true, false, cond, length, get_or, take, drop, ltb, leb, eqb}
use Rattle.paper.specs.Refusals.{truncated, not_shortest, bad_range}
use Rattle.digits.specs.Digits.{joined, digits}
use Rattle.slices.specs.Writing.{Draft, bytes, refuse}

-- ---- byte one

-- how many values the magnitude's bits of byte one have, and how many the sign's
abbrev pub tops : ℕ → ℕ → ℕ
tops k g = 2 ^ (8 - (k + g))

abbrev pub signs : ℕ → ℕ
signs g = 2 ^ g

-- of byte one b, where the magnitude's bits have t values and the sign's q: the count of further bytes, and the sign
abbrev pub count_of : ℕ → ℕ → ℕ → ℕ
count_of t q b = b / t / q

abbrev pub sign_of : ℕ → ℕ → ℕ → ℕ
sign_of t q b = b / t % q

-- the first magnitude that is out of range: the count's greatest value is 2 ^ k - 1
abbrev pub limit : ℕ → ℕ → ℕ
limit k g = tops k g * 256 ^ (2 ^ k - 1)

-- ---- reading

-- what a reading answers: a sign (1 is minus), a magnitude and a length; or a refusal's number
pub data Reading : Type 0 where
  value : ℕ → ℕ → ℕ → Reading
  refused : ℕ → Reading

-- decoding, at any length; 5 where the list ends inside the integer or before it
unfoldable pub decoded : ℕ → ℕ → List ℕ → Reading
decoded t q l =
    let b : ℕ = get_or l 0 0 in
    let c : ℕ = count_of t q b in
    cond (ltb c (length l)) (value (sign_of t q b) (joined (b % t) (take c (drop 1 l))) (c + 1)) (refused truncated)

-- the greatest count of further bytes of any integer
abbrev pub furthest : ℕ
furthest = 7

-- the least c with n < t * 256 ^ c, where it is no more than the first argument
unfoldable pub fewest : ℕ → ℕ → ℕ → ℕ
fewest zero t n = zero
fewest (suc f) t n = cond (ltb n t) zero (suc (fewest f t (n / 256)))

-- "Writers use the fewest bytes and write zero as positive. Readers take only that form", which since #104 the strict reading does: of sign 0 or 1
-- and magnitude m, only minus zero has the sign above m
unfoldable pub only : ℕ → Reading → Reading
only t (value s m n) = cond (eqb (fewest furthest t m + 1) n) (cond (leb s m) (value s m n) (refused not_shortest)) (refused not_shortest)
only t (refused e) = refused e

-- #104: "accept every length that document 000 allows, and minus zero as zero": the sign s over the magnitude m, which is none over nothing
unfoldable pub sign_over : ℕ → ℕ → ℕ
sign_over s m = cond (leb s m) s 0

unfoldable pub any : Reading → Reading
any (value s m n) = value (sign_over s m) m n
any (refused e) = refused e

-- with the test for the only form, or without it
abbrev pub form_by : Bool → ℕ → Reading → Reading
form_by true t x = only t x
form_by false t x = any x

unfoldable pub decoded_by : Bool → ℕ → ℕ → List ℕ → Reading
decoded_by strictly t q l = form_by strictly t (decoded t q l)

-- reading, by count bits and sign bits
abbrev pub reading_by : Bool → ℕ → ℕ → List ℕ → Reading
reading_by strictly k g = decoded_by strictly (tops k g) (signs g)

-- in the only form, and in any
abbrev pub reading : ℕ → ℕ → List ℕ → Reading
reading = reading_by true

abbrev pub any_reading : ℕ → ℕ → List ℕ → Reading
any_reading = reading_by false

-- ---- writing

-- sign s and magnitude m with c further bytes
unfoldable pub formed : ℕ → ℕ → ℕ → ℕ → ℕ → List ℕ
formed t q c s m = ((c * q + s) * t + m / 256 ^ c) ∷ digits c m

-- with the fewest
abbrev pub written : ℕ → ℕ → ℕ → ℕ → List ℕ
written t q s m = formed t q (fewest furthest t m) s m

-- by count bits and sign bits
abbrev pub writing : ℕ → ℕ → ℕ → ℕ → List ℕ
writing k g = written (tops k g) (signs g)

-- "The integer writers check 10, then 13": 13 is every writer's last check
unfoldable pub draft : ℕ → ℕ → ℕ → ℕ → Draft
draft k g s m = cond (ltb m (limit k g)) (bytes (writing k g s m)) (refuse bad_range)
