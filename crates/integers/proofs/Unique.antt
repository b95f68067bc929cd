-- Two outcomes that a contract of this crate allows are equal.
-- Assumes nothing.
use Prim.Native.Nat.{ℕ}
use mathlib.Core.Path.{◌≡◌, refl, sym, ap, ◌∙◌}
use native.Mathlib.Omega.{arith}
use Rattle.std.specs.Prelude.{Result, Ok, Err, ℤ}
use Rattle.paper.specs.Refusals.{number}
use Rattle.paper.specs.declared.Refusal.{Refusal}
use Rattle.paper.proofs.Numbers.{number-once}
use Rattle.integers.specs.Integer.{Reading, value, refused}
use Rattle.integers.specs.Shape.{Shape, unsigned, signed, signed-again}
use Rattle.integers.specs.Answer.{reading_of}

-- ---- the reader, at each kind: a value is its sign and its magnitude

valued : (s m n e : ℕ) → value s m n ≡ refused e → ⊥
valued s m n e w = let o : ◌≡◌ {A = ℕ} 0 1 = cc in omega arith

module _ {A : Type 0} (h : Shape A) (again : (a : A) → h.made (h.sign a) (h.size a) ≡ a) where
  pub read-unique : (x : Reading) (a b : Result (A × ℕ) Refusal) → reading_of h a ≡ x → reading_of h b ≡ x → a ≡ b
  read-unique x a b ea eb = go a b (ea ∙ sym eb)
    where
      go : (a b : Result (A × ℕ) Refusal) → reading_of h a ≡ reading_of h b → a ≡ b
      go (Ok (v, n)) (Ok (w, m)) e =
          let s : h.sign v ≡ h.sign w = cc in
          let z : h.size v ≡ h.size w = cc in
          let k : n ≡ m = cc in
          let same : v ≡ w = sym (again v) ∙ (λ i. h.made (s i) (z i)) ∙ again w in
          λ i. Ok (same i, k i)
      go (Ok (v, n)) (Err f) e = absurd (valued _ _ _ _ e)
      go (Err e) (Ok (w, m)) f = absurd (valued _ _ _ _ (sym f))
      go (Err e) (Err f) w = let z : number e ≡ number f = cc in ap Err (number-once e f z)

-- .. so of all five
pub read-unsigned-unique : (x : Reading) (a b : Result (ℕ × ℕ) Refusal) → reading_of unsigned a ≡ x → reading_of unsigned b ≡ x → a ≡ b
read-unsigned-unique = read-unique unsigned (λ a. refl)

pub read-signed-unique : (x : Reading) (a b : Result (ℤ × ℕ) Refusal) → reading_of signed a ≡ x → reading_of signed b ≡ x → a ≡ b
read-signed-unique = read-unique signed signed-again

-- ---- numbers: the fewest further bytes

pub number-unique : (x r r' : ℕ) → r ≡ x → r' ≡ x → r ≡ r'
number-unique x r r' e e' = e ∙ sym e'
