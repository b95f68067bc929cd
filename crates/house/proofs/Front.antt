-- What stands at the front of a slice of records: too few bytes, a head or a contact.
-- Assumes nothing.
use mathlib.Core.Path.{◌≡◌, refl, sym, ◌∙◌}
use mathlib.Core.Bool.{Bool, true, false}
use mathlib.Core.List.{List, ◌++◌}
use Prim.Native.Nat.{ℕ, ◌≤◌, ◌<◌}
use native.Mathlib.Omega.{arith}
use lib.Dec.{leb, eqb}
use lib.ListN.{length, take, length-append}
use lib.Seq.{take_at, take-append-le}
use borrow.Author.Tests.{leb-true, leb-false, eqb-true, eqb-false, le-leb, eq-eqb, ne_eqb}
use Rattle.house.specs.Fields.{record_bytes}
use Rattle.house.specs.Layout.{kind_of, head_in, contact_of, head_spare, contact_spare, record_of, spare_zero}
use Rattle.house.specs.declared.Record.{Record}

pub data Front : List ℕ → Type 0 where
  short : {l : List ℕ} → length l < 21 → Front l
  head : {l : List ℕ} → 21 ≤ length l → kind_of (take 21 l) ≡ 0 → Front l
  contact : {l : List ℕ} → 21 ≤ length l → (kind_of (take 21 l) ≡ 0 → ⊥) → Front l

front_by : (l : List ℕ) (a b : Bool) → leb 21 (length l) ≡ a → eqb (kind_of (take 21 l)) 0 ≡ b → Front l
front_by l false b e f = short (leb-false _ _ e)
front_by l true true e f = head (leb-true _ _ e) (eqb-true _ _ f)
front_by l true false e f = contact (leb-true _ _ e) (eqb-false _ _ f)

pub front : (l : List ℕ) → Front l
front l = front_by l (leb 21 (length l)) (eqb (kind_of (take 21 l)) 0) refl refl

-- ---- what is read there

pub record-head : (l : List ℕ) → 21 ≤ length l → kind_of (take 21 l) ≡ 0 → record_of l ≡ Record.Head (head_in (take 21 l))
unfolding record_of
record-head l h k = rw (le-leb _ _ h, eq-eqb _ 0 k)

pub record-contact : (l : List ℕ) → 21 ≤ length l → (kind_of (take 21 l) ≡ 0 → ⊥) → record_of l ≡ Record.Contact (kind_of (take 21 l)) (contact_of (take 21 l))
unfolding record_of
record-contact l h k = rw (le-leb _ _ h, ne_eqb _ 0 k)

-- ---- whether its unused bits are 0

pub spare-head : (l : List ℕ) → 21 ≤ length l → kind_of (take 21 l) ≡ 0 → spare_zero l ≡ eqb (head_spare (take 21 l)) 0
unfolding spare_zero
spare-head l h k = rw (le-leb _ _ h, eq-eqb _ 0 k)

pub spare-contact : (l : List ℕ) → 21 ≤ length l → (kind_of (take 21 l) ≡ 0 → ⊥) → spare_zero l ≡ eqb (contact_spare (take 21 l)) 0
unfolding spare_zero
spare-contact l h k = rw (le-leb _ _ h, ne_eqb _ 0 k)

-- ---- a whole record and whatever follows

pub front-is : (s t : List ℕ) → length s ≡ 21 → take 21 (s ++ t) ≡ s
front-is s t e = take_at s t 21 e

pub front_long : (s t : List ℕ) → length s ≡ 21 → 21 ≤ length (s ++ t)
front_long s t e = rw length-append (omega arith)

-- whatever follows changes nothing
same-front : (s t : List ℕ) → record_bytes ≤ length s → (take record_bytes (s ++ t) ≡ take record_bytes s) × (leb record_bytes (length (s ++ t)) ≡ leb record_bytes (length s))
same-front s t h =
    let k : record_bytes ≤ length (s ++ t) = rw length-append (omega (arith, h)) in
    (take-append-le record_bytes s t h, le-leb _ _ k ∙ sym (le-leb _ _ h))

pub record-alone : (s t : List ℕ) → record_bytes ≤ length s → record_of (s ++ t) ≡ record_of s
unfolding record_of
record-alone s t h = let e = same-front s t h in rw (e.0, e.1)

pub spare-alone : (s t : List ℕ) → record_bytes ≤ length s → spare_zero (s ++ t) ≡ spare_zero s
unfolding spare_zero
spare-alone s t h = let e = same-front s t h in rw (e.0, e.1)
