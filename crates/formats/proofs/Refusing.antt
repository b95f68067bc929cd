-- Which numbers a reader refuses with, each law proved once for a combinator: over what is asked of a number.
-- Assumes nothing.
use Prim.Native.Nat.{ℕ, zero, suc}
use mathlib.Core.Bool.{Bool, true, false, cond}
use mathlib.Core.List.{List, [], ◌∷◌}
use Rattle.paper.specs.Refusals.{truncated}
use Rattle.formats.specs.Format.{Got, got, bad, and_then, Format, done, field, such, when, read_series, series, ended, whole, read_byte, byte, read_little, little}

module _ (Given : ℕ → Type 0) where
  -- a refusal's number is such a one
  abbrev pub Tame : {A : Type 0} → Got A → Type 0
  Tame (got a t) = Unit {0}
  Tame (bad e) = Given e

  pub and-then : {A B : Type 0} (x : Got A) (f : A → List ℕ → Got B) → Tame x → ((a : A) (t : List ℕ) → Tame (f a t)) → Tame (and_then x f)
  and-then (got a t) f h k = k a t
  and-then (bad e) f h k = h

  pub by-test : {A : Type 0} (b : Bool) (x y : Got A) → Tame x → Tame y → Tame (cond b x y)
  by-test true x y h k = h
  by-test false x y h k = k

  -- as a record, so that a chain of fields finds its formats by itself
  pub record Tamed {A : Type 0} (f : Format A) : Type 0 where
    pub tame : (l : List ℕ) → Tame (f.read l)

  pub done-tame : {A : Type 0} (a : A) → Tamed (done a)
  done-tame a = record { tame = λ l. tt }

  pub field-tame : {A B : Type 0} (f : Format A) (p : B → A) (g : A → Format B) → Tamed f → ((a : A) → Tamed (g a)) → Tamed (field f p g)
  field-tame f p g h k = record { tame = λ l. and-then (f.read l) (λ a t. (g a).read t) (h.tame l) (λ a t. (k a).tame t) }

  pub such-tame : {A : Type 0} (f : Format A) (q : A → Bool) (e : ℕ) → Given e → Tamed f → Tamed (such f q e)
  such-tame f q e n h =
      record { tame = λ l. and-then (f.read l) (λ a t. cond (q a) (got a t) (bad e)) (h.tame l) (λ a t. by-test (q a) (got a t) (bad e) tt n) }

  pub when-tame : {A : Type 0} (f : Format A) (z : A) (c : Bool) → Tamed f → Tamed (when c f z)
  when-tame f z c h = record { tame = λ l. by-test c (f.read l) (got z l) (h.tame l) tt }

  -- the first of a series, and the others
  series-read : {A : Type 0} (f : Bool → Format A) (first : Bool) → Tamed (f first) → Tamed (f false) → (n : ℕ) (l : List ℕ) → Tame (read_series (λ b. (f b).read) first n l)
  unfolding read_series
  series-read f first h k zero l = tt
  series-read f first h k (suc n) l =
      and-then ((f first).read l) _ (h.tame l)
      (λ a t. and-then (read_series (λ b. (f b).read) false n t) _ (series-read f false k k n t) (λ more u. tt))

  pub series-tame : {A : Type 0} (f : Bool → Format A) (first : Bool) (n : ℕ) → Tamed (f first) → Tamed (f false) → Tamed (series f first n)
  series-tame f first n h k = record { tame = series-read f first h k n }

  ended-tame : {A : Type 0} (e : ℕ) → Given e → (a : A) (t : List ℕ) → Tame (ended e a t)
  unfolding ended
  ended-tame e n a [] = tt
  ended-tame e n a (x ∷ t) = n

  pub whole-tame : {A : Type 0} (f : Format A) (e : ℕ) → Given e → Tamed f → (l : List ℕ) → Tame (whole f e l)
  whole-tame f e n h l = and-then (f.read l) (ended e) (h.tame l) (ended-tame e n)

  -- bytes are refused with 5
  module _ (five : Given truncated) where
    byte-read : (l : List ℕ) → Tame (read_byte l)
    unfolding read_byte
    byte-read [] = five
    byte-read (x ∷ l) = tt

    pub byte-tame : Tamed byte
    byte-tame = record { tame = byte-read }

    little-read : (n : ℕ) (l : List ℕ) → Tame (read_little n l)
    unfolding read_little
    little-read zero l = tt
    little-read (suc n) l = and-then (read_byte l) _ (byte-read l) (λ b t. and-then (read_little n t) _ (little-read n t) (λ v u. tt))

    pub little-tame : (n : ℕ) → Tamed (little n)
    little-tame n = record { tame = little-read n }
