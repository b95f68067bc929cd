-- How many bytes a format takes at least, each law once for a combinator.
-- Assumes nothing.
use Prim.Native.Nat.{ℕ, ◌+◌, ◌≤◌}
use mathlib.Core.Path.{◌≡◌, refl, ap}
use mathlib.Core.Bool.{Bool, true, false}
use mathlib.Core.List.{List, [], ◌∷◌}
use native.Mathlib.Omega.{arith}
use lib.ListN.{length}
use Rattle.paper.specs.Refusals.{truncated}
use Rattle.formats.specs.Format.{Got, got, bad, and_then, Format, done, field, such, when, read_byte, byte}
use Rattle.formats.proofs.Laws.{never, such_got}

pub record Takes {A : Type 0} (n : ℕ) (f : Format A) : Type 0 where
  pub least : (l : List ℕ) (a : A) (t : List ℕ) → f.read l ≡ got a t → n + length t ≤ length l

pub takes-done : {A : Type 0} (a : A) → Takes 0 (done a)
takes-done {A} a = record { least = go }
  where
    go : (l : List ℕ) (b : A) (t : List ℕ) → got a l ≡ got b t → 0 + length t ≤ length l
    go l b t h = let e : l ≡ t = cc in omega (arith, ap length e)

pub takes_field : {A B : Type 0} (f : Format A) (p : B → A) (g : A → Format B) (n k : ℕ) → Takes n f → ((a : A) → Takes k (g a)) → Takes (n + k) (field f p g)
takes_field {A} {B} f p g n k x y = record { least = λ l b t h. go l b t (f.read l) refl h }
  where
    go : (l : List ℕ) (b : B) (t : List ℕ) (z : Got A) → f.read l ≡ z → and_then z (λ a u. (g a).read u) ≡ got b t → n + k + length t ≤ length l
    go l b t (got a u) w h = omega (arith, x.least l a u w, (y a).least u b t h)
    go l b t (bad e) w h = never e b t h

pub takes-such : {A : Type 0} (f : Format A) (q : A → Bool) (e n : ℕ) → Takes n f → Takes n (such f q e)
takes-such f q e n x = record { least = λ l a t h. x.least l a t (such_got f q e l a t h).0 }

pub takes-when : {A : Type 0} (f : Format A) (z : A) (c : Bool) (n : ℕ) → Takes n f → Takes 0 (when c f z)
takes-when f z true n x = record { least = λ l a t h. omega (arith, x.least l a t h) }
takes-when f z false n x = record { least = (takes-done z).least }

pub takes-byte : Takes 1 byte
unfolding read_byte
takes-byte = record { least = go }
  where
    go : (l : List ℕ) (a : ℕ) (t : List ℕ) → read_byte l ≡ got a t → 1 + length t ≤ length l
    go [] a t h = never truncated a t h
    go (x ∷ l) a t h = let e : l ≡ t = cc in omega (arith, ap length e)
