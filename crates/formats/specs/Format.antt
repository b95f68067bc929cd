-- Formats: how a value stands at the front of a list of bytes. One description gives the reader, the writer and the values that can be written.
-- "The body is judged left to right, field by field, and the first fault answers; for one field 5, then 6, then its meaning. Then 12."
use Rattle.std.specs.Prelude.{ℕ, zero, suc, ◌+◌, ◌*◌, ◌/◌, ◌%◌, ◌<◌, ◌^◌, ◌≡◌, Bool, true, false, cond, List, [], ◌∷◌, ◌++◌}
use Rattle.paper.specs.Refusals.{truncated}

-- what a reader finds: a value and the bytes after it; or a refusal's number
pub data Got (A : Type 0) : Type 0 where
  got : A → List ℕ → Got A
  bad : ℕ → Got A

-- the first fault answers
abbrev pub and_then : {A B : Type 0} → Got A → (A → List ℕ → Got B) → Got B
and_then (got a t) f = f a t
and_then (bad e) f = bad e

pub record Format (A : Type 0) : Type 1 where
  pub read : List ℕ → Got A
  pub write : A → List ℕ
  pub Holds : A → Type 0

-- no bytes: the value is a
abbrev pub done : {A : Type 0} → A → Format A
done a = record { read = λ l. got a l; write = λ b. []; Holds = λ b. b ≡ a }

-- a field of the format f, then what its value says; p finds the field in the whole
abbrev pub field : {A B : Type 0} → Format A → (B → A) → (A → Format B) → Format B
field f p g =
    record {
      read = λ l. and_then (f.read l) (λ a t. (g a).read t);
      write = λ b. f.write (p b) ++ (g (p b)).write b;
      Holds = λ b. f.Holds (p b) × (g (p b)).Holds b;
    }

-- the field's meaning: refused with e where the test fails
abbrev pub such : {A : Type 0} → Format A → (A → Bool) → ℕ → Format A
such f q e =
    record {
      read = λ l. and_then (f.read l) (λ a t. cond (q a) (got a t) (bad e));
      write = f.write;
      Holds = λ a. f.Holds a × (q a ≡ true);
    }

-- a field that is there where c is true, and z otherwise
abbrev pub HoldsWhen : {A : Type 0} → Bool → (A → Type 0) → A → A → Type 0
HoldsWhen true H z b = H b
HoldsWhen false H z b = b ≡ z

abbrev pub when : {A : Type 0} → Bool → Format A → A → Format A
when c f z =
    record {
      read = λ l. cond c (f.read l) (got z l);
      write = λ b. cond c (f.write b) [];
      Holds = HoldsWhen c f.Holds z;
    }

-- n values, one behind the other: the first of the format f first, the others of f false
unfoldable pub read_series : {A : Type 0} → (Bool → List ℕ → Got A) → Bool → ℕ → List ℕ → Got (List A)
read_series r first zero l = got [] l
read_series r first (suc n) l = and_then (r first l) (λ a t. and_then (read_series r false n t) (λ more u. got (a ∷ more) u))

unfoldable pub write_series : {A : Type 0} → (Bool → A → List ℕ) → Bool → List A → List ℕ
write_series w first [] = []
write_series w first (a ∷ more) = w first a ++ write_series w false more

unfoldable pub Each : {A : Type 0} → (Bool → A → Type 0) → Bool → ℕ → List A → Type 0
Each H first zero [] = Unit {0}
Each H first zero (a ∷ more) = ⊥
Each H first (suc n) [] = ⊥
Each H first (suc n) (a ∷ more) = H first a × Each H false n more

abbrev pub series : {A : Type 0} → (Bool → Format A) → Bool → ℕ → Format (List A)
series f first n =
    record {
      read = read_series (λ b. (f b).read) first n;
      write = write_series (λ b. (f b).write) first;
      Holds = Each (λ b. (f b).Holds) first n;
    }

-- n values of one format
abbrev pub times : {A : Type 0} → ℕ → Format A → Format (List A)
times n f = series (λ b. f) false n

-- the whole of a message: bytes after the last field are refused with e
unfoldable pub ended : {A : Type 0} → ℕ → A → List ℕ → Got A
ended e a [] = got a []
ended e a (x ∷ l) = bad e

abbrev pub whole : {A : Type 0} → Format A → ℕ → List ℕ → Got A
whole f e l = and_then (f.read l) (ended e)

-- ---- bytes

-- one byte; 5 where there is none
unfoldable pub read_byte : List ℕ → Got ℕ
read_byte [] = bad truncated
read_byte (x ∷ l) = got x l

abbrev pub byte : Format ℕ
byte = record { read = read_byte; write = λ x. x ∷ []; Holds = λ x. x < 256 }

-- a number of n bytes, least significant first ("little-endian")
unfoldable pub read_little : ℕ → List ℕ → Got ℕ
read_little zero l = got 0 l
read_little (suc n) l = and_then (read_byte l) (λ b t. and_then (read_little n t) (λ v u. got (v * 256 + b) u))

unfoldable pub write_little : ℕ → ℕ → List ℕ
write_little zero v = []
write_little (suc n) v = v % 256 ∷ write_little n (v / 256)

abbrev pub little : ℕ → Format ℕ
little n = record { read = read_little n; write = write_little n; Holds = λ v. v < 256 ^ n }
