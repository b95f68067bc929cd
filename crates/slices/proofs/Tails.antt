-- Writing on from a place, and through the tail that a caller lends: how writers follow each other.
-- Assumes nothing.
use Prim.Native.Nat.{ℕ, suc, ◌+◌, ◌-◌, ◌≤◌, ◌<◌}
use mathlib.Core.Path.{◌≡◌, refl, sym, ap, ◌∙◌}
use mathlib.Core.List.{List, [], ◌++◌, append_assoc, append-nil}
use native.Mathlib.Nat.{zero-add}
use native.Mathlib.Numerals.{add-one}
use native.Mathlib.Omega.{arith}
use lib.ListN.{length, get_or, set, take, drop, length-append, length-take, length-drop, take-append-drop, drop_of_length-le}
use lib.Seq.{drop-cons, drop-drop, take_at, drop_at, take_all, length-take-le, set_at, take-suc, append_snoc}
use borrow.Rule.Slice.PartMut.{mid_of, put_mid}
use Rattle.slices.specs.Writing.{laid}

-- s laid over d from at on
abbrev pub laid_at : List ℕ → ℕ → List ℕ → List ℕ
laid_at d at s = take at d ++ laid (drop at d) s

pub laid_none : (d : List ℕ) (at : ℕ) → laid_at d at [] ≡ d
laid_none d at = take-append-drop at d

pub laid-length : (d s : List ℕ) (at : ℕ) → at + length s ≤ length d → length (laid_at d at s) ≡ length d
laid-length d s at h = simp (length-append, length-take, length-drop) (omega arith)

-- two writes, one where the other ended, are one
pub laid_next : (d s t : List ℕ) (at n : ℕ) → length s ≡ n → at + n ≤ length d → laid_at (laid_at d at s) (at + n) t ≡ laid_at d at (s ++ t)
laid_next d s t at n e h =
    let q = drop (length s) (drop at d) in
    let l : length (take at d ++ s) ≡ at + n = simp (length-append, length-take) (omega arith) in
    let a : laid_at d at s ≡ (take at d ++ s) ++ q = sym (append_assoc (take at d) s q) in
    rw (a, take_at (take at d ++ s) q (at + n) l, drop_at (take at d ++ s) q (at + n) l, drop-drop (length t) (length s) (drop at d), length-append s t)
    (simp append_assoc)

-- ---- lent tails

-- the tail that `&mut d[at..]` and `&d[at..]` lend
pub tail-is : (d : List ℕ) (at : ℕ) → mid_of at (length d - at) d ≡ drop at d
tail-is d at = take_all (length d - at) (drop at d) (omega (arith, length-drop at d))

-- what a lent tail comes back as
pub tail-back : (d l : List ℕ) (at : ℕ) → put_mid at (length d - at) d l ≡ take at d ++ l
tail-back d l at = rw (drop_of_length-le (drop at d) {i = length d - at} (omega (arith, length-drop at d)), append-nil)

pub put_back : (d s : List ℕ) (at : ℕ) → put_mid at (length d - at) d (laid (mid_of at (length d - at) d) s) ≡ laid_at d at s
put_back d s at = tail-back d (laid (mid_of at (length d - at) d) s) at ∙ rw (tail-is d at)

-- THE LAW OF SEQUENTIAL WRITING. d is the output before a write through a lent tail, at its place, l what the callee left of the tail,
-- s what it wrote, n its count, and t what is still to come.
pub record Wrote (d : List ℕ) (at n : ℕ) (l s t : List ℕ) : Type 0 where
  pub room : at + n + length t ≤ length (put_mid at (length d - at) d l)
  pub long : length (put_mid at (length d - at) d l) ≡ length d
  pub same : laid_at (put_mid at (length d - at) d l) (at + n) t ≡ laid_at d at (s ++ t)

pub wrote : (d : List ℕ) (at n : ℕ) (l s t : List ℕ) → l ≡ laid (mid_of at (length d - at) d) s → n ≡ length s → at + length (s ++ t) ≤ length d → Wrote d at n l s t
wrote d at n l s t el en h =
    let k : at + (length s + length t) ≤ length d = simp length-append at h in
    let b : put_mid at (length d - at) d l ≡ laid_at d at s = rw el (put_back d s at) in
    let lg : length (put_mid at (length d - at) d l) ≡ length d = ap length b ∙ laid-length d s at (omega arith) in
    record {
      room = omega arith;
      long = lg;
      same = rw (b, en) (laid_next d s t at (length s) refl (omega arith));
    }

-- a write at the front, and then one through the tail that it left
pub wrote-second : (d d₁ l s t : List ℕ) (n : ℕ) → length s ≡ n → d₁ ≡ laid d s → l ≡ laid (mid_of n (length d₁ - n) d₁) t → length (s ++ t) ≤ length d
    → put_mid n (length d₁ - n) d₁ l ≡ laid d (s ++ t)
wrote-second d d₁ l s t n es e₁ el r =
    let m : length s + length t ≤ length d = simp length-append at r in
    let b : put_mid n (length d₁ - n) d₁ l ≡ laid_at d₁ n t = rw el (put_back d₁ t n) in
    b ∙ rw e₁ (rw zero-add at (laid_next d s t 0 n es (omega arith)))

-- ---- a copy to the front, byte by byte

pub front-step : (d s : List ℕ) (i : ℕ) → i < length d → i < length s → set (take i s ++ drop i d) i (get_or s i 0) ≡ take (i + 1) s ++ drop (i + 1) d
front-step d s i hd hs =
    let l : length (take i s) ≡ i = length-take-le i s (omega arith) in
    rw (add-one, drop-cons d i 0, set_at (take i s) (get_or d i 0) (drop (suc i) d) (get_or s i 0) i l, take-suc s i 0) (sym (append_snoc (take i s) (get_or s i 0) (drop (suc i) d)))
