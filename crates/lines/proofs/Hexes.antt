-- Bytes in hexadecimal, one more at a time, and how long they and what a writer answered are.
-- Assumes nothing.
use Prim.Native.Nat.{ℕ, suc, ◌+◌, ◌*◌, ◌≤◌, ◌<◌}
use mathlib.Core.Path.{◌≡◌, refl, ap}
use mathlib.Core.Bool.{Bool, true, false, cond}
use mathlib.Core.List.{List, [], ◌∷◌, ◌++◌}
use native.Mathlib.Omega.{arith}
use borrow.Author.Tests.{leb-true}
use lib.Dec.{eqb, leb}
use lib.ListN.{length, get_or, take, length-append}
use lib.Seq.{take-suc, length-take-le}
use Rattle.slices.specs.declared.Written.{Written}
use Rattle.lines.specs.Page.{text_of, hex_of, hexes, space, front_text, written_text}
use Rattle.lines.proofs.Decimal.{digits-few}

hexes-append : (l m : List ℕ) → hexes (l ++ m) ≡ hexes l ++ hexes m
unfolding hexes
hexes-append [] m = refl
hexes-append (b ∷ l) m = ap (λ (t : List (List ℕ)). hex_of b ∷ t) (hexes-append l m)

-- the bytes up to a place, and the one there
pub hexes-next : (l : List ℕ) (i : ℕ) → i < length l → hexes (take (suc i) l) ≡ hexes (take i l) ++ (hex_of (get_or l i 0) ∷ [])
unfolding hexes
hexes-next l i h = rw (take-suc l i 0 h) (hexes-append (take i l) (get_or l i 0 ∷ []))

pub hexes-long : (l : List ℕ) → length (text_of (hexes l)) ≡ 2 * length l
unfolding hexes
hexes-long [] = refl
hexes-long (b ∷ l) = omega (arith, hexes-long l)

pub front-short : (n : ℕ) (l : List ℕ) → length (text_of (front_text n l)) ≤ 1 + 2 * n
unfolding front_text
front-short n l = go (eqb n 0) (leb n (length l)) refl
  where
    go : (b c : Bool) → leb n (length l) ≡ c → length (text_of (cond b [] (cond c (space ∷ hexes (take n l)) []))) ≤ 1 + 2 * n
    go true c e = omega arith
    go false false e = omega arith
    go false true e = let h : n ≤ length l = leb-true _ _ e in omega (arith, hexes-long (take n l), length-take-le n l h)

-- two numbers of at most 20 digits, each after a space, and the bytes
pub written-short : (w : Written) (output : List ℕ) → length (text_of (written_text w output)) ≤ 43 + 2 * w.bytes
written-short w output = simp length-append (omega (arith, digits-few 19 w.refusal, digits-few 19 w.bytes, front-short w.bytes output))
