-- What is read, step by step, as code reads it: a series, the end.
-- Assumes nothing.
use Prim.Native.Nat.{ℕ, zero, suc, ◌-◌, ◌≤◌, ◌<◌}
use mathlib.Core.Path.{◌≡◌, refl, sym, ◌∙◌}
use mathlib.Core.Bool.{Bool, false}
use mathlib.Core.List.{List, [], ◌∷◌}
use native.Mathlib.Omega.{arith}
use lib.ListN.{length, take, drop, length-drop}
use lib.Seq.{take_all}
use native.Mathlib.Numerals.{sub-one}
use Rattle.formats.specs.Format.{Got, got, bad, and_then, read_series, ended}
use Rattle.formats.specs.Answer.{skipped}
use Rattle.formats.proofs.Laws.{never}

-- the part of a list from n on, as it is lent
pub tail : (l : List ℕ) (n : ℕ) → take (length l - n) (drop n l) ≡ drop n l
tail l n = take_all (length l - n) (drop n l) (omega (arith, length-drop n l))

gone : {A : Type 0} (a : A) (x : Got (List A)) → skipped (and_then x (λ more u. got (a ∷ more) u)) ≡ skipped x
gone a (got s t) = refl
gone a (bad e) = refl

-- a series, as a loop meets it: only where it ends
module _ {A : Type 0} (r : Bool → List ℕ → Got A) where
  pub series-end : (first : Bool) (k : ℕ) (l : List ℕ) → k ≤ 0 → read_series r first k l ≡ got [] l
  unfolding read_series
  series-end first zero l h = refl
  series-end first (suc k) l h = absurd (omega arith)

  pub series-got : (first : Bool) (k : ℕ) (l : List ℕ) (a : A) (t : List ℕ) → 0 < k → r first l ≡ got a t
      → skipped (read_series r first k l) ≡ skipped (read_series r false (k - 1) t)
  unfolding read_series
  series-got first zero l a t h e = absurd (omega arith)
  series-got first (suc k) l a t h e = rw (e, sub-one) (gone a (read_series r false k t))

  pub series-bad : (first : Bool) (k : ℕ) (l : List ℕ) (x : ℕ) → 0 < k → r first l ≡ bad x → read_series r first k l ≡ bad x
  unfolding read_series
  series-bad first zero l x h e = absurd (omega arith)
  series-bad first (suc k) l x h e = rw e

  -- it is the same to read only where each ends
  pub series-skip : (first : Bool) (k : ℕ) (l : List ℕ) → skipped (read_series (λ b m. skipped (r b m)) first k l) ≡ skipped (read_series r first k l)
  unfolding read_series
  series-skip first zero l = refl
  series-skip first (suc k) l = go (r first l) (series-skip false k)
    where
      go : (x : Got A) → ((t : List ℕ) → skipped (read_series (λ b m. skipped (r b m)) false k t) ≡ skipped (read_series r false k t))
          → skipped (and_then (skipped x) (λ a t. and_then (read_series (λ b m. skipped (r b m)) false k t) (λ more u. got (a ∷ more) u))) ≡ skipped (and_then x (λ a t. and_then (read_series r false k t) (λ more u. got (a ∷ more) u)))
      go (bad e) h = refl
      go (got a t) h = gone (tt {0}) (read_series (λ b m. skipped (r b m)) false k t) ∙ h t ∙ sym (gone a (read_series r false k t))

-- a value made of what was read ends where that ends
pub skipped-made : {A B : Type 0} (h : A → B) (x : Got A) → skipped (and_then x (λ a t. got (h a) t)) ≡ skipped x
skipped-made h (got a t) = refl
skipped-made h (bad e) = refl

-- the end of a message, as code tests for it
pub ended_none : {A : Type 0} (e : ℕ) (a : A) (l : List ℕ) → length l ≡ 0 → ended e a l ≡ got a []
unfolding ended
ended_none e a [] h = refl
ended_none e a (x ∷ l) h = absurd (omega (arith, h))

pub ended_more : {A : Type 0} (e : ℕ) (a : A) (l : List ℕ) → 0 < length l → ended e a l ≡ bad e
unfolding ended
ended_more e a [] h = absurd (omega arith)
ended_more e a (x ∷ l) h = refl

-- what stands before it makes no difference
pub ended_got : {A B : Type 0} (e : ℕ) (a : A) (b : B) (l : List ℕ) → ended e a l ≡ got a [] → ended e b l ≡ got b []
unfolding ended
ended_got e a b [] h = refl
ended_got e a b (x ∷ l) h = never e a [] h

pub ended_bad : {A B : Type 0} (e x : ℕ) (a : A) (b : B) (l : List ℕ) → ended e a l ≡ bad x → ended e b l ≡ bad x
unfolding ended
ended_bad e x a b [] h = never x a [] (sym h)
ended_bad e x a b (y ∷ l) h = let z : e ≡ x = cc in rw z
