-- A test that the checker computes at every number below n, and the laws that hand it out at each: so a table's rule is shown once over the
-- whole.
-- Assumes nothing.
use mathlib.Core.Path.{◌≡◌, ap}
use mathlib.Core.Bool.{Bool, true, false, ◌&&◌}
use Prim.Native.Nat.{ℕ, zero, suc, ◌<◌}
use native.Mathlib.Nat.{not-suc-le-zero}
use native.Mathlib.Decide.{ℕ_discrete}
use native.Mathlib.Omega.{arith}
use lib.Dec.{T, eqb, eqb→eq}
use lib.IntN.{ℤ, pos, negsuc}
use Rattle.tables.specs.Same.{same_number}

both_left : (a b : Bool) → T (a && b) → T a
both_left true b t = tt
both_left false b t = t

both_right : (a b : Bool) → T (a && b) → T b
both_right true b t = t
both_right false b t = absurd t

abbrev pub all_below : ℕ → (ℕ → Bool) → Bool
all_below zero f = true
all_below (suc n) f = f n && all_below n f

last : (n : ℕ) (f : ℕ → Bool) (k : ℕ) → k < suc n → T (f n) → (k < n → T (f k)) → Dec (k ≡ n) → T (f k)
last n f k h t r (yes e) = rw e t
last n f k h t r (no ne) = r (omega arith)

pub below : (n : ℕ) (f : ℕ → Bool) → T (all_below n f) → (k : ℕ) → k < n → T (f k)
below zero f t k h = absurd (not-suc-le-zero h)
below (suc n) f t k h =
    last n f k h (both_left (f n) (all_below n f) t) (λ l. below n f (both_right (f n) (all_below n f) t) k l) (ℕ_discrete k n)

-- ---- equations: of numbers, and of numbers with a sign

pub below_equal : (n : ℕ) (f g : ℕ → ℕ) → T (all_below n (λ k. eqb (f k) (g k))) → (k : ℕ) → k < n → f k ≡ g k
below_equal n f g t k h = eqb→eq _ _ (below n (λ k. eqb (f k) (g k)) t k h)

same-equal : (y z : ℤ) → T (same_number y z) → y ≡ z
unfolding same_number
same-equal (pos m) (pos n) t = ap pos (eqb→eq m n t)
same-equal (pos m) (negsuc n) t = absurd t
same-equal (negsuc m) (pos n) t = absurd t
same-equal (negsuc m) (negsuc n) t = ap negsuc (eqb→eq m n t)

pub below-same : (n : ℕ) (f g : ℕ → ℤ) → T (all_below n (λ k. same_number (f k) (g k))) → (k : ℕ) → k < n → f k ≡ g k
below-same n f g t k h = same-equal _ _ (below n (λ k. same_number (f k) (g k)) t k h)
