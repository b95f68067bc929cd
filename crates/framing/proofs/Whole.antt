-- Records of whole frames: they follow each other, each of them is well formed, and what is packed of values that fit is one.
-- Assumes nothing.
use Prim.Native.Nat.{ℕ, zero, suc, ◌+◌, ◌*◌, ◌≤◌, ◌<◌}
use mathlib.Core.Path.{◌≡◌, sym, ap, ◌∙◌, subst}
use mathlib.Core.Bool.{true}
use mathlib.Core.List.{List, [], ◌++◌, append_assoc, append-nil}
use native.Mathlib.Omega.{arith}
use lib.ListN.{length, drop, length-append}
use lib.Seq.{drop-append-add}
use Rattle.house.specs.Fields.{record_bytes}
use Rattle.house.specs.Layout.{head_in, head_bytes, contact_bytes}
use Rattle.house.specs.Layout as layout
use Rattle.house.specs.Fits.{HeadFits, ContactFits}
use Rattle.house.specs.declared.Head.{Head}
use Rattle.house.specs.declared.Contact.{Contact}
use Rattle.house.proofs.Round.{length-head, length-contact, kind-head, kind-contact, head-back}
use Rattle.well_formed.specs.WellFormed.{contact_well, kind_well, well_formed}
use Rattle.well_formed.proofs.Front.{well-alone}
use Rattle.well_formed.proofs.Round.{head-well, contact-well}
use Rattle.framing.specs.Whole.{Formed, Framed, ends, head, contact, cancel, dismissal}

-- ---- one record

pub head-formed : (h : Head) → HeadFits h → Formed layout.head (head_bytes h)
head-formed h f = record { long = length-head h; well = rw append-nil at (head-well h [] f); kind = kind-head h }

pub contact-formed : (k : ℕ) (c : Contact) → 1 ≤ k → k < 4 → ContactFits c → contact_well c ≡ true → kind_well k c ≡ true → Formed k (contact_bytes k c)
contact-formed k c low high f w v =
    record { long = length-contact k c; well = rw append-nil at (contact-well k c [] low high f w v); kind = kind-contact k c high }

-- ---- records, one after the other

pub head-framed : (h : Head) (t : List ℕ) → HeadFits h → Framed h.count t → Framed zero (head_bytes h ++ t)
head-framed h t f k = head (head_bytes h) t (head-formed h f) (subst (λ (n : ℕ). Framed n t) (sym (ap (λ (x : Head). x.count) (head-back h f))) k)

pub framed_then : (n : ℕ) (a b : List ℕ) → Framed n a → Framed zero b → Framed n (a ++ b)
framed_then n a b ends k = k
framed_then n a b (head s t f h) k = rw (append_assoc s t b) (head s (t ++ b) f (framed_then (head_in s).count t b h k))
framed_then n a b (contact m s t f h) k = rw (append_assoc s t b) (contact m s (t ++ b) f (framed_then m t b h k))
framed_then n a b (cancel s t f h) k = rw (append_assoc s t b) (cancel s (t ++ b) f (framed_then zero t b h k))
framed_then n a b (dismissal s t f h) k = rw (append_assoc s t b) (dismissal s (t ++ b) f (framed_then zero t b h k))

-- EACH OF THEM IS WELL FORMED, so that reading it never answers 14

one-well : (k : ℕ) (s t : List ℕ) → Formed k s → ((i : ℕ) → record_bytes * i < length t → well_formed (drop (record_bytes * i) t) ≡ true)
    → (i : ℕ) → record_bytes * i < length (s ++ t) → well_formed (drop (record_bytes * i) (s ++ t)) ≡ true
one-well k s t f h zero l = well-alone s t (omega (arith, f.long)) ∙ f.well
one-well k s t f h (suc i) l =
    let n : record_bytes * suc i ≡ length s + record_bytes * i = omega (arith, f.long) in
    ap (λ (m : ℕ). well_formed (drop m (s ++ t))) n ∙ ap well_formed (drop-append-add s t (record_bytes * i)) ∙ h i (omega (arith, l, length-append s t, f.long))

pub each-is-well-formed : (n : ℕ) (l : List ℕ) → Framed n l → (i : ℕ) → record_bytes * i < length l → well_formed (drop (record_bytes * i) l) ≡ true
each-is-well-formed n l ends i h = absurd (omega (arith, h))
each-is-well-formed n l (head s t f k) i h = one-well layout.head s t f (λ j w. each-is-well-formed (head_in s).count t k j w) i h
each-is-well-formed n l (contact m s t f k) i h = one-well layout.touched s t f (λ j w. each-is-well-formed m t k j w) i h
each-is-well-formed n l (cancel s t f k) i h = one-well layout.cancelled s t f (λ j w. each-is-well-formed zero t k j w) i h
each-is-well-formed n l (dismissal s t f k) i h = one-well layout.dismissed s t f (λ j w. each-is-well-formed zero t k j w) i h
