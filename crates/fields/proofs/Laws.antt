-- The five integers as lawful formats, whatever the reading, and those of a form.
-- Assumes nothing.
use Prim.Native.Nat.{ℕ, zero, suc, ◌+◌, ◌≤◌, ◌<◌}
use mathlib.Core.Logic.{◌↔◌}
use mathlib.Core.Path.{◌≡◌, refl, sym, ◌∙◌}
use mathlib.Core.Bool.{Bool, true, false}
use mathlib.Core.List.{List, ◌++◌}
use native.Mathlib.Omega.{arith}
use lib.Dec.{lit<, lit≤}
use lib.IntN.{ℤ, pos, negsuc, nat_abs}
use lib.ListN.{length, take, drop, take-append-drop, length-drop}
use lib.Seq.{drop-append_seam}
use Rattle.digits.specs.Digits.{Bytes}
use Rattle.digits.proofs.Laws.{bytes_drop}
use Rattle.formats.specs.Format.{got, Format}
use Rattle.formats.proofs.Laws.{Law, Back, Sound, Short, Exact, never}
use Rattle.integers.specs.Integer.{Reading, value, refused, reading_by, writing, limit, signs}
use Rattle.integers.proofs.Laws.{length-and-value, reading-inside, writing-shorter}
use Rattle.integers.proofs.Signed.{minus-small}
use Rattle.integers.specs.Shape.{Shape, unsigned, signed, minus, signed_value, signed-again}
use Rattle.fields.specs.Integers.{got_by, integer, Integers, integers_by, taken_by, taken}

-- what a reading of integers promises, at whatever lengths: what is written is read back, the value is in range, and it is written in no more
-- bytes
pub record Reads (rd : ℕ → ℕ → List ℕ → Reading) (k g : ℕ) : Type 0 where
  pub back : (s m : ℕ) (t : List ℕ) → s < signs g → s ≤ m → m < limit k g → rd k g (writing k g s m ++ t) ≡ value s m (length (writing k g s m))
  pub fit : (l : List ℕ) (s m n : ℕ) → Bytes l → rd k g l ≡ value s m n → (s < signs g) × (s ≤ m) × (m < limit k g)
  pub short : (l : List ℕ) (s m n : ℕ) → Bytes l → rd k g l ≡ value s m n → length (writing k g s m) + length (drop n l) ≤ length l

-- and of the only form
abbrev pub Strict : (ℕ → ℕ → List ℕ → Reading) → ℕ → ℕ → Type 0
Strict rd k g = (l : List ℕ) (s m n : ℕ) → Bytes l → rd k g l ≡ value s m n → take n l ≡ writing k g s m

-- a shape is sign and magnitude, where it has g sign bits: no minus zero
pub record Shaped {A : Type 0} (h : Shape A) (g : ℕ) : Type 0 where
  pub again : (a : A) → h.made (h.sign a) (h.size a) ≡ a
  pub low : (a : A) → h.sign a < signs g
  pub plain : (a : A) → h.sign a ≤ h.size a
  pub sign : (s m : ℕ) → s < signs g → s ≤ m → h.sign (h.made s m) ≡ s
  pub size : (s m : ℕ) → s < signs g → s ≤ m → h.size (h.made s m) ≡ m

pub unsigned-shaped : Shaped unsigned 0
unsigned-shaped =
    record {
      again = λ a. refl;
      low = λ a. lit< tt;
      plain = λ a. omega arith;
      sign = λ s m h k. omega arith;
      size = λ s m h k. refl;
    }

sign-plain : (z : ℤ) → minus z ≤ nat_abs z
sign-plain (pos n) = omega arith
sign-plain (negsuc n) = omega arith

signed_parts : (s m : ℕ) → s < 2 → s ≤ m → (minus (signed_value s m) ≡ s) × (nat_abs (signed_value s m) ≡ m)
unfolding signed_value
signed_parts zero m h k = (refl, refl)
signed_parts (suc s) zero h k = absurd (omega arith)
signed_parts (suc s) (suc m) h k = (omega arith, refl)

pub signed-shaped : Shaped signed 1
signed-shaped =
    record {
      again = signed-again;
      low = minus-small;
      plain = sign-plain;
      sign = λ s m h k. (signed_parts s m h k).0;
      size = λ s m h k. (signed_parts s m h k).1;
    }

-- ---- an integer, of either shape

module _ {A : Type 0} (h : Shape A) (rd : ℕ → ℕ → List ℕ → Reading) (k g : ℕ) (w : Shaped h g) (r : Reads rd k g) where
  integer-back : Back (integer h rd k g)
  integer-back a t ha = rw (r.back (h.sign a) (h.size a) t (w.low a) (w.plain a) ha, drop-append_seam, w.again a)

  integer-sound : Sound (integer h rd k g)
  integer-sound l b t hl e = go (rd k g l) refl e
    where
      go : (x : Reading) → rd k g l ≡ x → got_by h.made x l ≡ got b t → (h.size b < limit k g) × Bytes t
      go (refused x) v e = never x b t e
      go (value s m n) v e =
          let f = r.fit l s m n hl v in
          let z : h.made s m ≡ b = cc in
          let y : drop n l ≡ t = cc in
          (rw (← z, w.size s m f.0 f.1) f.2, rw y at (bytes_drop n l hl))

  integer-short : Short (integer h rd k g)
  integer-short l b t hl e = go (rd k g l) refl e
    where
      go : (x : Reading) → rd k g l ≡ x → got_by h.made x l ≡ got b t → length (writing k g (h.sign b) (h.size b)) + length t ≤ length l
      go (refused x) v e = never x b t e
      go (value s m n) v e =
          let f = r.fit l s m n hl v in
          let z : h.made s m ≡ b = cc in
          let y : drop n l ≡ t = cc in
          rw (← z, w.sign s m f.0 f.1, w.size s m f.0 f.1, ← y) (r.short l s m n hl v)

  integer-exact : Strict rd k g → Exact (integer h rd k g)
  integer-exact x l b t hl e = go (rd k g l) refl e
    where
      go : (y : Reading) → rd k g l ≡ y → got_by h.made y l ≡ got b t → l ≡ writing k g (h.sign b) (h.size b) ++ t
      go (refused y) v e = never y b t e
      go (value s m n) v e =
          let f = r.fit l s m n hl v in
          let z : h.made s m ≡ b = cc in
          let y : drop n l ≡ t = cc in
          let p : take n l ≡ writing k g (h.sign b) (h.size b) = rw (← z, w.sign s m f.0 f.1, w.size s m f.0 f.1) (x l s m n hl v) in
          sym (take-append-drop n l) ∙ rw (p, y)

-- ---- a count: one that is less can be written too, and no longer

pub record Downward (f : Format ℕ) : Type 0 where
  pub holds : (m n : ℕ) → m ≤ n → f.Holds n → f.Holds m
  pub shorter : (m n : ℕ) → m ≤ n → f.Holds n → length (f.write m) ≤ length (f.write n)

pub integer-downward : (rd : ℕ → ℕ → List ℕ → Reading) (k : ℕ) → k ≤ 3 → Downward (integer unsigned rd k 0)
integer-downward rd k hk = record { holds = λ m n le h. omega arith; shorter = λ m n le h. writing-shorter k 0 0 m n hk (omega arith) le h }

-- ---- the five: lawful, and exact where X holds

pub record IntegersLaw (X : Type 0) (i : Integers) : Type 0 where
  pub u2 : Law X i.u2
  pub s2 : Law X i.s2
  pub u4 : Law X i.u4
  pub s4 : Law X i.s4
  pub u8 : Law X i.u8

module _ (X : Type 0) (rd : ℕ → ℕ → List ℕ → Reading) (h : (k g : ℕ) → k ≤ 3 → k + g ≤ 8 → Reads rd k g) (w : X → (k g : ℕ) → k ≤ 3 → k + g ≤ 8 → Strict rd k g) where
  one-law : {A : Type 0} (s : Shape A) (k g : ℕ) → Shaped s g → k ≤ 3 → k + g ≤ 8 → Law X (integer s rd k g)
  one-law s k g v a b =
      let r = h k g a b in
      record { back = integer-back s rd k g v r; sound = integer-sound s rd k g v r; short = integer-short s rd k g v r; exact = λ x. integer-exact s rd k g v r (w x k g a b) }

  pub integers-law : IntegersLaw X (integers_by rd)
  integers-law =
      record {
        u2 = one-law unsigned 1 0 unsigned-shaped (lit≤ tt) (lit≤ tt);
        s2 = one-law signed 1 1 signed-shaped (lit≤ tt) (lit≤ tt);
        u4 = one-law unsigned 2 0 unsigned-shaped (lit≤ tt) (lit≤ tt);
        s4 = one-law signed 2 1 signed-shaped (lit≤ tt) (lit≤ tt);
        u8 = one-law unsigned 3 0 unsigned-shaped (lit≤ tt) (lit≤ tt);
      }

-- and what can be written is what is in range
pub record IntegersRange (i : Integers) : Type 0 where
  pub u2 : (n : ℕ) → i.u2.Holds n ↔ (n < limit 1 0)
  pub s2 : (z : ℤ) → i.s2.Holds z ↔ (nat_abs z < limit 1 1)
  pub u4 : (n : ℕ) → i.u4.Holds n ↔ (n < limit 2 0)
  pub s4 : (z : ℤ) → i.s4.Holds z ↔ (nat_abs z < limit 2 1)
  pub u8 : (n : ℕ) → i.u8.Holds n ↔ (n < limit 3 0)

pub integers-range : (rd : ℕ → ℕ → List ℕ → Reading) → IntegersRange (integers_by rd)
integers-range rd =
    record {
      u2 = λ n. (λ h. h, λ h. h);
      s2 = λ z. (λ h. h, λ h. h);
      u4 = λ n. (λ h. h, λ h. h);
      s4 = λ z. (λ h. h, λ h. h);
      u8 = λ n. (λ h. h, λ h. h);
    }

-- ---- those of a form: exact where it is the only one

module _ (strictly : Bool) where
  form-reads : (k g : ℕ) → k ≤ 3 → k + g ≤ 8 → Reads (reading_by strictly) k g
  form-reads k g hk h =
      let v = length-and-value strictly k g hk h in
      record {
        back = v.back;
        fit = λ l s m n hl e. let r = v.range l s m n hl e in (r.sign, r.plain, r.size);
        short = λ l s m n hl e. omega (arith, v.shortest l s m n hl e, reading-inside strictly k g l s m n e, length-drop n l);
      }

  pub form-law : IntegersLaw (strictly ≡ true) (taken_by strictly)
  form-law = integers-law (strictly ≡ true) (reading_by strictly) form-reads (λ x k g hk h. (length-and-value strictly k g hk h).exact x)

-- ---- those that are taken

pub taken-law : IntegersLaw (false ≡ true) taken
taken-law = form-law false

pub taken-range : IntegersRange taken
taken-range = integers-range (reading_by false)

pub taken-counts : Downward taken.u2
taken-counts = integer-downward (reading_by false) 1 (lit≤ tt)
