-- What a format leaves behind a value is the end of what it was read from: so many bytes of the front are gone, and nothing else.
-- Assumes nothing.
use Prim.Native.Nat.{ℕ, zero, suc, ◌+◌, ◌-◌, ◌≤◌, ◌<◌}
use mathlib.Core.Path.{◌≡◌, refl, sym, ap, ◌∙◌}
use mathlib.Core.Bool.{Bool, true, false}
use mathlib.Core.List.{List, [], ◌∷◌}
use mathlib.Core.Logic.{◌⊎◌, inl, inr}
use native.Mathlib.Omega.{arith}
use lib.ListN.{length, drop, length-drop, drop_of_length-le}
use lib.Seq.{drop-drop, drop-length}
use Rattle.std.proofs.lemmas.Bool.{cases_lt}
use Rattle.std.specs.Prelude.{Result, Ok, Err}
use Rattle.std.specs.Borrow.{Bor}
use Rattle.paper.specs.Refusals.{truncated}
use Rattle.paper.specs.declared.Refusal.{Refusal}
use Rattle.formats.specs.Format.{Got, got, bad, and_then, Format, done, field, such, when, series, read_series, times, read_byte, byte}
use Rattle.formats.specs.Answer.{read_of, left_of, skipped, skip}
use Rattle.formats.proofs.Laws.{never, such_got, more-got}

-- t is l without n bytes of its front
abbrev pub TailOf : List ℕ → List ℕ → Type 0
TailOf l t = (n : ℕ) × (n ≤ length l) × (t ≡ drop n l)

-- what is behind a value is the end of what it was read from
pub record Ends {A : Type 0} (f : Format A) : Type 0 where
  pub ends : (l : List ℕ) (a : A) (t : List ℕ) → f.read l ≡ got a t → TailOf l t

-- the end of an end
further : (l t u : List ℕ) → TailOf l t → TailOf t u → TailOf l u
further l t u (n, h, e) (k, i, v) =
    let w : length t ≡ length l - n = rw e (length-drop n l) in
    (n + k, omega arith, v ∙ (ap (drop k) e ∙ drop-drop k n l))

-- whatever is dropped, the rest is an end
pub drop-ends : (k : ℕ) (l : List ℕ) → TailOf l (drop k l)
drop-ends k l = go (cases_lt (length l) k)
  where
    go : (length l < k) ⊎ (k ≤ length l) → TailOf l (drop k l)
    go (inl h) = (length l, omega arith, drop_of_length-le l (omega arith) ∙ sym (drop-length l))
    go (inr h) = (k, h, refl)

all-of : (l t : List ℕ) → l ≡ t → TailOf l t
all-of l t e = (0, omega arith, sym e)

pub done-ends : {A : Type 0} (a : A) → Ends (done a)
done-ends a = record { ends = λ l b t e. all-of l t cc }

module _ {A B : Type 0} (f : Format A) (p : B → A) (g : A → Format B) where
  pub field-ends : Ends f → ((a : A) → Ends (g a)) → Ends (field f p g)
  field-ends hf hg = record { ends = λ l b t e. go l b t (f.read l) refl e }
    where
      go : (l : List ℕ) (b : B) (t : List ℕ) (x : Got A) → f.read l ≡ x → and_then x (λ a t. (g a).read t) ≡ got b t → TailOf l t
      go l b t (bad x) w e = never x b t e
      go l b t (got a u) w e = further l u t (hf.ends l a u w) ((hg a).ends u b t e)

pub such-ends : {A : Type 0} (f : Format A) (q : A → Bool) (e : ℕ) → Ends f → Ends (such f q e)
such-ends f q e hf = record { ends = λ l a t h. hf.ends l a t (such_got f q e l a t h).0 }

pub when-ends : {A : Type 0} (f : Format A) (z : A) (c : Bool) → Ends f → Ends (when c f z)
when-ends f z true hf = hf
when-ends f z false hf = done-ends z

module _ {A : Type 0} (f : Bool → Format A) (hf : (b : Bool) → Ends (f b)) where
  behind-all : (first : Bool) (n : ℕ) (l : List ℕ) (s : List A) (t : List ℕ) → (series f first n).read l ≡ got s t → TailOf l t
  unfolding read_series
  behind-all first zero l s t e = all-of l t cc
  behind-all first (suc n) l s t e =
      let m = more-got f first n l s t e in
      further l m.after t ((hf first).ends l m.head m.after m.one) (behind-all false n m.after m.rest t m.others)

  pub series-ends : (first : Bool) (n : ℕ) → Ends (series f first n)
  series-ends first n = record { ends = behind-all first n }

pub times-ends : {A : Type 0} (f : Format A) (n : ℕ) → Ends f → Ends (times n f)
times-ends f n hf = series-ends (λ b. f) (λ b. hf) false n

behind-byte : (l : List ℕ) (a : ℕ) (t : List ℕ) → byte.read l ≡ got a t → TailOf l t
unfolding read_byte
behind-byte [] a t e = never truncated a t e
behind-byte (x ∷ l) a t e = let w : l ≡ t = cc in (1, omega arith, sym w)

pub byte-ends : Ends byte
byte-ends = record { ends = behind-byte }

-- ---- so it is in the answers of code

-- what an answer hands on behind a value
abbrev pub AnswerEnds : {A : Type 0} → List ℕ → Result (A × Bor (List ℕ)) Refusal → Type 0
AnswerEnds l (Ok (a, t)) = TailOf l t.now
AnswerEnds l (Err e) = Unit {0}

abbrev pub LeftEnds : List ℕ → Result (Bor (List ℕ)) Refusal → Type 0
LeftEnds l (Ok t) = TailOf l t.now
LeftEnds l (Err e) = Unit {0}

module _ {A : Type 0} (f : Format A) (h : Ends f) (l : List ℕ) where
  pub answer-ends : (r : Result (A × Bor (List ℕ)) Refusal) → read_of r ≡ f.read l → AnswerEnds l r
  answer-ends (Ok (a, t)) e = h.ends l a t.now (sym e)
  answer-ends (Err x) e = tt

  pub left-ends : (r : Result (Bor (List ℕ)) Refusal) → left_of r ≡ (skip f).read l → LeftEnds l r
  left-ends (Ok t) e = go (f.read l) refl e
    where
      go : (x : Got A) → f.read l ≡ x → got tt t.now ≡ skipped x → TailOf l t.now
      go (got a u) w e = let v : t.now ≡ u = cc in rw v (h.ends l a u w)
      go (bad x) w e = never {A = Unit {0}} x tt t.now (sym e)
  left-ends (Err x) e = tt
