-- The five integers are read left to right: what was read, and a fault other than an end that comes too soon, stand whatever follows.
-- Assumes nothing.
use Prim.Native.Nat.{ℕ, ◌≤◌}
use mathlib.Core.Path.{◌≡◌, refl}
use mathlib.Core.Bool.{Bool}
use mathlib.Core.List.{List, ◌++◌}
use native.Mathlib.Omega.{arith}
use lib.ListN.{length}
use lib.Seq.{drop-append-le}
use Rattle.paper.specs.Refusals.{truncated}
use Rattle.formats.proofs.Order.{behind, Settled, Stays, Ordered}
use Rattle.integers.specs.Integer.{Reading, value, refused, reading_by}
use Rattle.integers.proofs.Laws.{reading-inside, reading-more}
use Rattle.integers.specs.Shape.{Shape, unsigned, signed}
use Rattle.fields.specs.Integers.{got_by, integer, Integers, integers_by, taken_by}

-- a reading that is not short of bytes is the same with bytes behind
abbrev pub Kept : (List ℕ → Reading) → Type 0
Kept rd = (l m : List ℕ) (x : Reading) → rd l ≡ x → (x ≡ refused truncated → ⊥) → rd (l ++ m) ≡ x

abbrev pub Inside : (List ℕ → Reading) → Type 0
Inside rd = (l : List ℕ) (s m n : ℕ) → rd l ≡ value s m n → n ≤ length l

-- a value is no refusal
pub valued : (s m n e : ℕ) → value s m n ≡ refused e → ⊥
valued s m n e w = let o : ◌≡◌ {A = ℕ} 0 1 = cc in omega arith

pub integer-ordered : {A : Type 0} (h : Shape A) (rd : ℕ → ℕ → List ℕ → Reading) (k g : ℕ) → Kept (rd k g) → Inside (rd k g) → Ordered (integer h rd k g)
integer-ordered {A} h rd k g kept inside = record { stays = stays }
  where
    stays : Stays (integer h rd k g)
    stays l m s = go (rd k g l) refl s
      where
        go : (x : Reading) → rd k g l ≡ x → Settled (got_by h.made x l) → got_by h.made (rd k g (l ++ m)) (l ++ m) ≡ behind (got_by h.made x l) m
        go (refused y) w s = rw (kept l m (refused y) w (λ e. s (let z : y ≡ truncated = cc in z)))
        go (value a b c) w s = rw (kept l m (value a b c) w (valued a b c truncated), drop-append-le c l m (inside l a b c w))

pub record IntegersOrdered (i : Integers) : Type 0 where
  pub u2 : Ordered i.u2
  pub s2 : Ordered i.s2
  pub u4 : Ordered i.u4
  pub s4 : Ordered i.s4
  pub u8 : Ordered i.u8

pub integers-ordered : (rd : ℕ → ℕ → List ℕ → Reading) → ((k g : ℕ) → Kept (rd k g)) → ((k g : ℕ) → Inside (rd k g)) → IntegersOrdered (integers_by rd)
integers-ordered rd h n =
    record {
      u2 = integer-ordered unsigned rd 1 0 (h 1 0) (n 1 0);
      s2 = integer-ordered signed rd 1 1 (h 1 1) (n 1 1);
      u4 = integer-ordered unsigned rd 2 0 (h 2 0) (n 2 0);
      s4 = integer-ordered signed rd 2 1 (h 2 1) (n 2 1);
      u8 = integer-ordered unsigned rd 3 0 (h 3 0) (n 3 0);
    }

pub form-ordered : (strictly : Bool) → IntegersOrdered (taken_by strictly)
form-ordered strictly = integers-ordered (reading_by strictly) (reading-more strictly) (reading-inside strictly)
