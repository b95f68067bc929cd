-- A whole entry lies within the part of the file that it was found in, has the length that stands there, and is found as well where more bytes follow.
-- Assumes nothing.
use Rattle.std.specs.Prelude.{Some, None}
use Prim.Native.Nat.{ℕ, ◌+◌, ◌≤◌}
use mathlib.Core.Path.{◌≡◌, refl, ap, ◌∙◌}
use mathlib.Core.Bool.{Bool, true, false, cond}
use mathlib.Core.List.{List, [], ◌∷◌, ◌++◌}
use native.Mathlib.Omega.{arith}
use lib.Dec.{leb}
use lib.ListN.{length, length-append}
use borrow.Author.Tests.{leb-true, le-leb}
use Rattle.entries.specs.Entries.{length_at, front_of}

record Whole (l : List ℕ) (n : ℕ) : Type 0 where
  number : length_at l ≡ n
  inside : 2 + n ≤ length l

front-whole : (l : List ℕ) (n : ℕ) → front_of l ≡ Some n → Whole l n
unfolding front_of
front-whole l n e = go (leb 2 (length l)) (leb (2 + length_at l) (length l)) refl e
  where
    go : (a b : Bool) → leb (2 + length_at l) (length l) ≡ b → cond a (cond b (Some (length_at l)) None) None ≡ Some n → Whole l n
    go true true w e = let z : length_at l ≡ n = cc in let k : 2 + length_at l ≤ length l = leb-true _ _ w in record { number = z; inside = omega arith }
    go true false w e = absurd (let z : ◌≡◌ {A = ℕ} 0 1 = cc in omega arith)
    go false b w e = absurd (let z : ◌≡◌ {A = ℕ} 0 1 = cc in omega arith)

pub front-inside : (l : List ℕ) (n : ℕ) → front_of l ≡ Some n → 2 + n ≤ length l
front-inside l n e = (front-whole l n e).inside

pub whole-front : (l : List ℕ) → 2 + length_at l ≤ length l → front_of l ≡ Some (length_at l)
unfolding front_of
whole-front l h = rw (le-leb 2 (length l) (omega (arith, h)), le-leb _ _ h)

pub front-append : (l t : List ℕ) (n : ℕ) → front_of l ≡ Some n → front_of (l ++ t) ≡ Some n
front-append [] t n e = absurd (omega (arith, front-inside [] n e))
front-append (a ∷ []) t n e = absurd (omega (arith, front-inside (a ∷ []) n e))
front-append (a ∷ b ∷ l) t n e =
    let k = front-whole (a ∷ b ∷ l) n e in
    whole-front (a ∷ b ∷ l ++ t) (omega (arith, k.number, k.inside, length-append l t)) ∙ ap Some k.number
