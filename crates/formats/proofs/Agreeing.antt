-- Two formats of which the first refuses with a number, or both read the same, each law once for a combinator.
-- Assumes nothing.
use Prim.Native.Nat.{ℕ, zero, suc}
use mathlib.Core.Path.{◌≡◌, refl}
use mathlib.Core.Bool.{Bool, true, false}
use mathlib.Core.List.{List}
use Rattle.formats.specs.Format.{Got, got, bad, and_then, Format, done, field, such, when, read_series, series, times, whole}

-- the first of two readings refuses with e, or the second is the same
pub data Agree (e : ℕ) {A : Type 0} (x y : Got A) : Type 0 where
  refuses : x ≡ bad e → Agree e x y
  same : x ≡ y → Agree e x y

-- as a record, so that a chain of fields finds its formats by itself
pub record Agreeing (e : ℕ) {A : Type 0} (f g : Format A) : Type 0 where
  pub agree : (l : List ℕ) → Agree e (f.read l) (g.read l)

module _ {e : ℕ} where
  pub and-then-agree : {A B : Type 0} (x y : Got A) (f g : A → List ℕ → Got B) → Agree e x y → ((a : A) (t : List ℕ) → Agree e (f a t) (g a t)) → Agree e (and_then x f) (and_then y g)
  and-then-agree x y f g (refuses w) k = refuses (rw w)
  and-then-agree {A} {B} x y f g (same w) k = rw (← w) (go x)
    where
      go : (z : Got A) → Agree e (and_then z f) (and_then z g)
      go (got a t) = k a t
      go (bad n) = same refl

  pub itself-agrees : {A : Type 0} (f : Format A) → Agreeing e f f
  itself-agrees f = record { agree = λ l. same refl }

  pub done-agrees : {A : Type 0} (a : A) → Agreeing e (done a) (done a)
  done-agrees a = itself-agrees (done a)

  pub field-agrees : {A B : Type 0} (f f' : Format A) (p : B → A) (g g' : A → Format B) → Agreeing e f f' → ((a : A) → Agreeing e (g a) (g' a)) → Agreeing e (field f p g) (field f' p g')
  field-agrees f f' p g g' h k = record { agree = λ l. and-then-agree (f.read l) (f'.read l) _ _ (h.agree l) (λ a t. (k a).agree t) }

  pub such-agrees : {A : Type 0} (f f' : Format A) (q : A → Bool) (n : ℕ) → Agreeing e f f' → Agreeing e (such f q n) (such f' q n)
  such-agrees f f' q n h = record { agree = λ l. and-then-agree (f.read l) (f'.read l) _ _ (h.agree l) (λ a t. same refl) }

  pub when-agrees : {A : Type 0} (f f' : Format A) (z : A) (c : Bool) → Agreeing e f f' → Agreeing e (when c f z) (when c f' z)
  when-agrees f f' z true h = record { agree = h.agree }
  when-agrees f f' z false h = record { agree = λ l. same refl }

  pub series-agrees : {A : Type 0} (f f' : Bool → Format A) (first : Bool) (n : ℕ) → ((b : Bool) → Agreeing e (f b) (f' b)) → Agreeing e (series f first n) (series f' first n)
  unfolding read_series
  series-agrees f f' first n h = record { agree = go first n }
    where
      go : (first : Bool) (n : ℕ) (l : List ℕ) → Agree e (read_series (λ b. (f b).read) first n l) (read_series (λ b. (f' b).read) first n l)
      go first zero l = same refl
      go first (suc n) l =
          and-then-agree ((f first).read l) ((f' first).read l) _ _ ((h first).agree l)
          (λ a t. and-then-agree (read_series (λ b. (f b).read) false n t) (read_series (λ b. (f' b).read) false n t) _ _ (go false n t) (λ more u. same refl))

  pub times-agrees : {A : Type 0} (f f' : Format A) (n : ℕ) → Agreeing e f f' → Agreeing e (times n f) (times n f')
  times-agrees f f' n h = series-agrees (λ b. f) (λ b. f') false n (λ b. h)

  pub whole-agrees : {A : Type 0} (f f' : Format A) (n : ℕ) → Agreeing e f f' → (l : List ℕ) → Agree e (whole f n l) (whole f' n l)
  whole-agrees f f' n h l = and-then-agree (f.read l) (f'.read l) _ _ (h.agree l) (λ a t. same refl)
