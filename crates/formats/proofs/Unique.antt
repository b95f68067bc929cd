-- Two answers that the contract of a reader allows are the same.
-- Assumes nothing.
use Prim.Native.Nat.{ℕ, ◌+◌}
use mathlib.Core.Path.{◌≡◌, sym, ap, ◌∙◌}
use mathlib.Core.List.{List, []}
use native.Mathlib.Omega.{arith}
use lib.ListN.{length}
use Rattle.std.specs.Prelude.{Result, Ok, Err}
use Rattle.std.specs.Borrow.{Bor}
use Rattle.paper.specs.Refusals.{number}
use Rattle.paper.specs.declared.Refusal.{Refusal}
use Rattle.paper.proofs.Numbers.{number-once}
use Rattle.formats.specs.Format.{Got, got, bad}
use Rattle.formats.specs.Answer.{read_of, whole_of, left_of, end_of, tail_end, left_end}
use Rattle.formats.proofs.Laws.{never}

-- what a reader of l answers that finds x there, and hands on the end of l
abbrev pub Answers : {A : Type 0} → Got A → Bor (List ℕ) → Result (A × Bor (List ℕ)) Refusal → Type 0
Answers x l r = (read_of r ≡ x) × (tail_end l r ≡ end_of l)

-- .. and of one that hands on no value
abbrev pub Leaves : Got (Unit {0}) → Bor (List ℕ) → Result (Bor (List ℕ)) Refusal → Type 0
Leaves x l r = (left_of r ≡ x) × (left_end l r ≡ end_of l)

-- two slices of the same bytes that end where a third ends are the same
pub one-place : (l t u : Bor (List ℕ)) → t.now ≡ u.now → end_of t ≡ end_of l → end_of u ≡ end_of l → t ≡ u
one-place l t u e p q =
    let b : t.ref_ptr.0 ≡ u.ref_ptr.0 = ap (λ (x : ℕ × ℕ). x.0) (p ∙ sym q) in
    let f : t.ref_ptr.1 + length t.now ≡ u.ref_ptr.1 + length u.now = ap (λ (x : ℕ × ℕ). x.1) (p ∙ sym q) in
    let o : t.ref_ptr.1 ≡ u.ref_ptr.1 = omega (arith, f, ap (λ (x : List ℕ). length x) e) in
    λ i. record { ref_ptr = (b i, o i); now = e i }

one-bad : (A : Type 0) (e f : ℕ) → ◌≡◌ {A = Got A} (bad e) (bad f) → e ≡ f
one-bad A e f h = cc

one-got : {A : Type 0} (a b : A) (t u : List ℕ) → got a t ≡ got b u → (a ≡ b) × (t ≡ u)
one-got a b t u h = (cc, cc)

pub read-once : {A : Type 0} (x : Got A) (l : Bor (List ℕ)) (a b : Result (A × Bor (List ℕ)) Refusal) → Answers x l a → Answers x l b → a ≡ b
read-once {A} x l a b ha hb = go a b (ha.0 ∙ sym hb.0) ha.1 hb.1
  where
    go : (a b : Result (A × Bor (List ℕ)) Refusal) → read_of a ≡ read_of b → tail_end l a ≡ end_of l → tail_end l b ≡ end_of l → a ≡ b
    go (Ok (a, t)) (Ok (b, u)) h p q =
        let e = one-got a b t.now u.now h in
        let s = one-place l t u e.1 p q in
        λ i. Ok (e.0 i, s i)
    go (Ok (a, t)) (Err f) h p q = never (number f) a t.now (sym h)
    go (Err e) (Ok (b, u)) h p q = never (number e) b u.now h
    go (Err e) (Err f) h p q = ap Err (number-once e f (one-bad A (number e) (number f) h))

pub left-once : (x : Got (Unit {0})) (l : Bor (List ℕ)) (a b : Result (Bor (List ℕ)) Refusal) → Leaves x l a → Leaves x l b → a ≡ b
left-once x l a b ha hb = go a b (ha.0 ∙ sym hb.0) ha.1 hb.1
  where
    go : (a b : Result (Bor (List ℕ)) Refusal) → left_of a ≡ left_of b → left_end l a ≡ end_of l → left_end l b ≡ end_of l → a ≡ b
    go (Ok t) (Ok u) h p q = ap Ok (one-place l t u (one-got {A = Unit {0}} tt tt t.now u.now h).1 p q)
    go (Ok t) (Err f) h p q = never {A = Unit {0}} (number f) tt t.now (sym h)
    go (Err e) (Ok u) h p q = never {A = Unit {0}} (number e) tt u.now h
    go (Err e) (Err f) h p q = ap Err (number-once e f (one-bad (Unit {0}) (number e) (number f) h))

-- of one that leaves nothing behind there is one answer
pub whole-once : {A : Type 0} (x : Got A) (a b : Result A Refusal) → whole_of a ≡ x → whole_of b ≡ x → a ≡ b
whole-once {A} x a b ha hb = go a b (ha ∙ sym hb)
  where
    go : (a b : Result A Refusal) → whole_of a ≡ whole_of b → a ≡ b
    go (Ok a) (Ok b) h = ap Ok (one-got a b [] [] h).0
    go (Ok a) (Err f) h = never (number f) a [] (sym h)
    go (Err e) (Ok b) h = never (number e) b [] h
    go (Err e) (Err f) h = ap Err (number-once e f (one-bad A (number e) (number f) h))
