-- Choices as numbers, put one behind the other, and counted.
-- Assumes nothing.
use Prim.Native.Nat.{ℕ, suc, ◌+◌, ◌*◌, ◌/◌, ◌^◌, ◌≤◌, ◌<◌}
use mathlib.Core.Path.{◌≡◌, refl, sym, ap, ◌∙◌}
use mathlib.Core.Bool.{Bool, true, false}
use mathlib.Core.List.{List, [], ◌∷◌, ◌++◌}
use native.Mathlib.Nat.{mod-eq_of_lt}
use native.Mathlib.Omega.{arith}
use borrow.Author.Tests.{lt-ltb, le-leb, lt-leb, leb-true, leb-false}
use lib.Dec.{leb}
use lib.ListN.{length, get_or, set, take, drop, take-append-drop}
use lib.Seq.{drop-cons, set_at, length-take-le}
use Rattle.slices.specs.Writing.{laid}
use Rattle.slices.proofs.Tails.{laid_at, laid_none, laid_next, laid-length}
use Rattle.presses.specs.Choosing.{Choice, numbers_of}
use Rattle.presses.specs.Turns.{put_choices, tallied}

-- ---- how many numbers

pub numbers-long : (cs : List Choice) → length (numbers_of cs) ≡ 2 * length cs
unfolding numbers_of
numbers-long [] = refl
numbers-long (c ∷ cs) = omega (arith, numbers-long cs)

-- two numbers for each fit where there are as many places
pub places-fit : (cs : List Choice) (n : ℕ) → leb (length cs) (n / 2) ≡ leb (length (numbers_of cs)) n
places-fit cs n = rw (numbers-long cs) (go (leb (length cs) (n / 2)) refl)
  where
    go : (b : Bool) → leb (length cs) (n / 2) ≡ b → b ≡ leb (2 * length cs) n
    go true e =
        let k : length cs ≤ n / 2 = leb-true _ _ e in
        let h : 2 * length cs ≤ n = omega (arith, k) in
        sym (le-leb _ _ h)
    go false e =
        let k : n / 2 < length cs = leb-false _ _ e in
        let h : n < 2 * length cs = omega (arith, k) in
        sym (lt-leb _ _ h)

-- ---- counted

pub counted_is : (cs : List Choice) (n : ℕ) → n + length cs < 2 ^ 64 → tallied cs n ≡ n + length cs
unfolding tallied
counted_is [] n h = omega arith
counted_is (c ∷ cs) n h =
    let k : n + 1 < 2 ^ 64 = omega (arith, h) in
    rw (mod-eq_of_lt k) (counted_is cs (n + 1) (omega (arith, h)) ∙ omega arith)

-- ---- put

pub put-append : (writing : Bool) (n : ℕ) (xs ys : List Choice) (out : List ℕ) → put_choices writing (n + length xs) ys (put_choices writing n xs out) ≡ put_choices writing n (xs ++ ys) out
unfolding put_choices
put-append writing n [] ys out = ap (λ (k : ℕ). put_choices writing k ys out) (omega arith)
put-append writing n (x ∷ xs) ys out =
    let m : n + length (x ∷ xs) ≡ suc n + length xs = omega arith in
    rw m (put-append writing (suc n) xs ys _)

pub put-none : (n : ℕ) (cs : List Choice) (out : List ℕ) → put_choices false n cs out ≡ out
unfolding put_choices
put-none n [] out = refl
put-none n (c ∷ cs) out = put-none (suc n) cs out

set-one : (d : List ℕ) (i v : ℕ) → i < length d → set d i v ≡ laid_at d i (v ∷ [])
set-one d i v h =
    let k : drop i d ≡ get_or d i 0 ∷ drop (suc i) d = drop-cons d i 0 h in
    let e : d ≡ take i d ++ (get_or d i 0 ∷ drop (suc i) d) = sym (take-append-drop i d) ∙ ap (λ (l : List ℕ). take i d ++ l) k in
    ap (λ (l : List ℕ). set l i v) e ∙ set_at (take i d) (get_or d i 0) (drop (suc i) d) v i (length-take-le i d (omega (arith, h))) ∙ ap (λ (l : List ℕ). take i d ++ laid l (v ∷ [])) (sym k)

set-two : (d : List ℕ) (i v w : ℕ) → i + 1 < length d → set (set d i v) (i + 1) w ≡ laid_at d i (v ∷ w ∷ [])
set-two d i v w h =
    let e : set d i v ≡ laid_at d i (v ∷ []) = set-one d i v (omega (arith, h)) in
    let l : length (laid_at d i (v ∷ [])) ≡ length d = laid-length d (v ∷ []) i (omega (arith, h)) in
    ap (λ (x : List ℕ). set x (i + 1) w) e ∙ set-one (laid_at d i (v ∷ [])) (i + 1) w (omega (arith, h, l)) ∙ laid_next d (v ∷ []) (w ∷ []) i 1 refl (omega (arith, h))

put-laid : (n : ℕ) (cs : List Choice) (out : List ℕ) → 2 * (n + length cs) ≤ length out → put_choices true n cs out ≡ laid_at out (2 * n) (numbers_of cs)
unfolding put_choices numbers_of
put-laid n [] out h = sym (laid_none out (2 * n))
put-laid n (c ∷ cs) out h =
    let f : n < length out / 2 = omega (arith, h) in
    let two : set (set out (2 * n) c.id) (2 * n + 1) c.item ≡ laid_at out (2 * n) (c.id ∷ c.item ∷ []) = set-two out (2 * n) c.id c.item (omega (arith, h)) in
    let l : length (laid_at out (2 * n) (c.id ∷ c.item ∷ [])) ≡ length out = laid-length out (c.id ∷ c.item ∷ []) (2 * n) (omega (arith, h)) in
    let m : 2 * suc n ≡ 2 * n + 2 = omega arith in
    rw (lt-ltb _ _ f, two)
    (put-laid (suc n) cs (laid_at out (2 * n) (c.id ∷ c.item ∷ [])) (omega (arith, h, l))
    ∙ ap (λ (k : ℕ). laid_at (laid_at out (2 * n) (c.id ∷ c.item ∷ [])) k (numbers_of cs)) m
    ∙ laid_next out (c.id ∷ c.item ∷ []) (numbers_of cs) (2 * n) 2 refl (omega (arith, h)))

-- all of them, where there is room
pub put_all : (cs : List Choice) (out : List ℕ) → length (numbers_of cs) ≤ length out → put_choices true 0 cs out ≡ laid out (numbers_of cs)
put_all cs out h = put-laid 0 cs out (omega (arith, h, numbers-long cs))
