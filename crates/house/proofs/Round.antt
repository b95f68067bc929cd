-- Reading what was packed gives the record back, and packing what was read gives the bytes back.
-- Assumes nothing.
use mathlib.Core.Path.{◌≡◌, refl, sym, ap, ◌∙◌}
use mathlib.Core.Bool.{true}
use mathlib.Core.List.{List, [], ◌∷◌, ◌++◌}
use Prim.Native.Nat.{ℕ, suc, ◌+◌, ◌*◌, ◌/◌, ◌%◌, ◌^◌, ◌<◌, ◌≤◌}
use native.Mathlib.Nat.{mod-eq_of_lt, mul-add-mod_self_right}
use native.Mathlib.Omega.{arith}
use lib.IntN.{ℤ}
use lib.ListN.{length, take}
use lib.Seq.{length-take-le}
use lib.Pow.{high, mod-pow-add}
use borrow.Author.Tests.{eqb-true, eq-eqb}
use Rattle.digits.specs.Digits.{joined, Bytes}
use Rattle.digits.proofs.Laws.{bytes_take}
use Rattle.house.specs.Fields.{field, packed, unpacked, value_at}
use Rattle.house.specs.Twos.{twos_of, of_twos, Holds}
use Rattle.house.specs.Layout.{head, head_fields, head_widths, head_bytes, head_as, head_in, contact_fields, contact_widths, contact_bytes, contact_as, contact_of, kind_of, head_spare, contact_spare, record_of, spare_zero, bytes_of}
use Rattle.house.specs.Fits.{HeadFits, ContactFits}
use Rattle.house.specs.declared.Head.{Head}
use Rattle.house.specs.declared.Contact.{Contact}
use Rattle.house.specs.declared.Record.{Record}
use Rattle.house.proofs.Fields.{Fit, field_fit, field-again, length-packed, unpacked-packed, packed-unpacked}
use Rattle.house.proofs.Twos.{twos-lt, of-twos, twos-of, of-holds}
use Rattle.house.proofs.Front.{Front, short, front, record-head, record-contact, spare-head, spare-contact, front-is, front_long}

-- ---- 21 bytes

pub length-head : (h : Head) → length (head_bytes h) ≡ 21
unfolding head_bytes
length-head h = length-packed (head_fields h)

pub length-contact : (k : ℕ) (c : Contact) → length (contact_bytes k c) ≡ 21
unfolding contact_bytes
length-contact k c = length-packed (contact_fields k c)

-- ---- the fields of what was packed

head-fields : (h : Head) → unpacked head_widths (head_bytes h) ≡ head_fields h
unfolding head_bytes
head-fields h =
    unpacked-packed (head_fields h) (field_fit 2 0, (field_fit 6 h.count, (field_fit 61 h.offset.0, (field_fit 3 (h.count / 2 ^ 6), (field_fit 96 0, tt))))) refl

contact-fit : (k : ℕ) (c : Contact) → Fit (contact_fields k c)
contact-fit k c = (field_fit 2 k, (field_fit 6 c.flags, (field_fit 3 c.present, (field_fit 8 c.id, (field_fit 30 (twos_of 30 c.place.x), (field_fit 30 (twos_of 30 c.place.y), (field_fit 15 (twos_of 15 c.sides.left), (field_fit 15 (twos_of 15 c.sides.top), (field_fit 15 (twos_of 15 c.sides.right), (field_fit 15 (twos_of 15 c.sides.bottom), (field_fit 9 c.orientation, (field_fit 16 c.pressure, (field_fit 4 0, tt)))))))))))))

contact-fields : (k : ℕ) (c : Contact) → unpacked contact_widths (contact_bytes k c) ≡ contact_fields k c
unfolding contact_bytes
contact-fields k c = unpacked-packed (contact_fields k c) (contact-fit k c) refl

-- the kind stands where it stands in either layout
kind-either : (s : List ℕ) → kind_of s ≡ value_at 0 (unpacked contact_widths s)
unfolding unpacked kind_of
kind-either s = refl

pub kind-head : (h : Head) → kind_of (head_bytes h) ≡ head
unfolding kind_of
kind-head h = ap (value_at 0) (head-fields h)

pub kind-contact : (k : ℕ) (c : Contact) → k < 4 → kind_of (contact_bytes k c) ≡ k
kind-contact k c h = kind-either (contact_bytes k c) ∙ ap (value_at 0) (contact-fields k c) ∙ mod-eq_of_lt h

head-spare : (h : Head) → head_spare (head_bytes h) ≡ 0
unfolding head_spare
head-spare h = ap (value_at 4) (head-fields h)

contact-spare : (k : ℕ) (c : Contact) → contact_spare (contact_bytes k c) ≡ 0
unfolding contact_spare
contact-spare k c = ap (value_at 12) (contact-fields k c)

-- ---- UNPACK OF PACK

-- a count of nine bits, by its high and its low ones
count-back : (n : ℕ) → n < 2 ^ 9 → n / 2 ^ 6 % 2 ^ 3 * 2 ^ 6 + n % 2 ^ 6 ≡ n
count-back n h = sym (mod-pow-add n 3 6) ∙ mod-eq_of_lt h

pub head-back : (h : Head) → HeadFits h → head_in (head_bytes h) ≡ h
unfolding head_in
head-back h f =
    let n : h.count < 2 ^ 9 = omega (arith, f.count) in
    ap head_as (head-fields h) ∙ (λ i. record { count = count-back h.count n i; offset = record { 0 = mod-eq_of_lt f.offset i } })

-- a signed field of w + 1 bits, through its width and back
signed_back : (w : ℕ) (z : ℤ) → Holds (suc w) z → of_twos (suc w) (twos_of (suc w) z % 2 ^ suc w) ≡ z
signed_back w z h = ap (of_twos (suc w)) (mod-eq_of_lt (twos-lt (suc w) z)) ∙ of-twos w z h

pub contact-back : (k : ℕ) (c : Contact) → ContactFits c → contact_of (contact_bytes k c) ≡ c
unfolding contact_of
contact-back k c f =
    ap contact_as (contact-fields k c)
    ∙ (λ i. record {
      flags = mod-eq_of_lt f.flags i;
      present = mod-eq_of_lt f.present i;
      id = mod-eq_of_lt f.id i;
      place = record { x = signed_back 29 c.place.x f.x i; y = signed_back 29 c.place.y f.y i };
      sides = record {
        left = signed_back 14 c.sides.left f.left i;
        top = signed_back 14 c.sides.top f.top i;
        right = signed_back 14 c.sides.right f.right i;
        bottom = signed_back 14 c.sides.bottom f.bottom i;
      };
      orientation = mod-eq_of_lt f.orientation i;
      pressure = mod-eq_of_lt f.pressure i;
    })

pub record-of-head : (h : Head) (t : List ℕ) → HeadFits h → record_of (head_bytes h ++ t) ≡ Record.Head h
record-of-head h t f =
    let e = front-is (head_bytes h) t (length-head h) in
    record-head (head_bytes h ++ t) (front_long (head_bytes h) t (length-head h)) (ap kind_of e ∙ kind-head h) ∙ ap Record.Head (ap head_in e ∙ head-back h f)

-- a contact's kind is not a head's
not-head : (k : ℕ) (c : Contact) (t : List ℕ) → 1 ≤ k → k < 4 → kind_of (take 21 (contact_bytes k c ++ t)) ≡ 0 → ⊥
not-head k c t h l z =
    let e : k ≡ 0 = sym (ap kind_of (front-is (contact_bytes k c) t (length-contact k c)) ∙ kind-contact k c l) ∙ z in
    omega arith

pub record-of-contact : (k : ℕ) (c : Contact) (t : List ℕ) → 1 ≤ k → k < 4 → ContactFits c → record_of (contact_bytes k c ++ t) ≡ Record.Contact k c
record-of-contact k c t h l f =
    let e = front-is (contact_bytes k c) t (length-contact k c) in
    let ek = ap kind_of e ∙ kind-contact k c l in
    let ec = ap contact_of e ∙ contact-back k c f in
    record-contact (contact_bytes k c ++ t) (front_long (contact_bytes k c) t (length-contact k c)) (not-head k c t h l) ∙ (λ i. Record.Contact (ek i) (ec i))

-- ---- THE UNUSED BITS OF WHAT IS PACKED ARE 0

pub spare-of-head : (h : Head) (t : List ℕ) → spare_zero (head_bytes h ++ t) ≡ true
spare-of-head h t =
    let e = front-is (head_bytes h) t (length-head h) in
    spare-head (head_bytes h ++ t) (front_long (head_bytes h) t (length-head h)) (ap kind_of e ∙ kind-head h) ∙ eq-eqb _ 0 (ap head_spare e ∙ head-spare h)

pub spare-of-contact : (k : ℕ) (c : Contact) (t : List ℕ) → 1 ≤ k → k < 4 → spare_zero (contact_bytes k c ++ t) ≡ true
spare-of-contact k c t h l =
    let e = front-is (contact_bytes k c) t (length-contact k c) in
    spare-contact (contact_bytes k c ++ t) (front_long (contact_bytes k c) t (length-contact k c)) (not-head k c t h l)
    ∙ eq-eqb _ 0 (ap contact_spare e ∙ contact-spare k c)

-- ---- WHATEVER IS READ FITS ITS FIELDS

pub offset-fits : (s : List ℕ) → (head_in s).offset.0 < 2 ^ 61
unfolding head_in unpacked
offset-fits s = field_fit 61 _

signed-fits : (w q : ℕ) → Holds w (of_twos w (q % 2 ^ w))
signed-fits w q = of-holds w (q % 2 ^ w) (field_fit w q)

pub contact-fits : (s : List ℕ) → ContactFits (contact_of s)
unfolding contact_of unpacked
contact-fits s =
    let n = joined 0 s in
    record {
      flags = field_fit 6 _;
      present = field_fit 3 _;
      id = field_fit 8 _;
      x = signed-fits 30 (n / 2 ^ 119);
      y = signed-fits 30 (n / 2 ^ 89);
      left = signed-fits 15 (n / 2 ^ 74);
      top = signed-fits 15 (n / 2 ^ 59);
      right = signed-fits 15 (n / 2 ^ 44);
      bottom = signed-fits 15 (n / 2 ^ 29);
      orientation = field_fit 9 _;
      pressure = field_fit 16 _;
    }

-- ---- PACK OF UNPACK

-- a field that was read, packed again
signed-again : (w q : ℕ) → field w (twos_of w (of_twos w (q % 2 ^ w))) ≡ field w q
signed-again w q = ap (field w) (twos-of w (q % 2 ^ w) (field_fit w q)) ∙ field-again w q

-- the low bits of a count, and its high ones
low_again : (q r : ℕ) → field 6 (q * 2 ^ 6 + r % 2 ^ 6) ≡ field 6 r
low_again q r = ap (λ (v : ℕ). record { width = 6; value = v }) (mul-add-mod_self_right q (2 ^ 6) (r % 2 ^ 6)) ∙ field-again 6 r

high-again : (q r : ℕ) → field 3 ((q % 2 ^ 3 * 2 ^ 6 + r % 2 ^ 6) / 2 ^ 6) ≡ field 3 q
high-again q r = ap (field 3) (high (q % 2 ^ 3) 6 (field_fit 6 r)) ∙ field-again 3 q

head-again : (s : List ℕ) → Bytes s → length s ≡ 21 → kind_of s ≡ head → head_spare s ≡ 0 → head_bytes (head_in s) ≡ s
unfolding head_bytes head_in head_spare kind_of unpacked
head-again s h l k z =
    let n = joined 0 s in
    let e : head_fields (head_in s) ≡ unpacked head_widths s = λ i.
    record { width = 2; value = sym k i } ∷ low_again (n / 2 ^ 96 % 2 ^ 3) (n / 2 ^ 160) i ∷ field-again 61 (n / 2 ^ 99) i ∷ high-again (n / 2 ^ 96) (n / 2 ^ 160) i
    ∷ record { width = 96; value = sym z i } ∷ [] in
    ap packed e ∙ packed-unpacked head_widths s h l refl

contact-again : (s : List ℕ) → Bytes s → length s ≡ 21 → contact_spare s ≡ 0 → contact_bytes (kind_of s) (contact_of s) ≡ s
unfolding contact_bytes contact_of contact_spare kind_of unpacked
contact-again s h l z =
    let n = joined 0 s in
    let e : contact_fields (kind_of s) (contact_of s) ≡ unpacked contact_widths s = λ i.
    field-again 2 (n / 2 ^ 166) i ∷ field-again 6 (n / 2 ^ 160) i ∷ field-again 3 (n / 2 ^ 157) i ∷ field-again 8 (n / 2 ^ 149) i
    ∷ signed-again 30 (n / 2 ^ 119) i ∷ signed-again 30 (n / 2 ^ 89) i
    ∷ signed-again 15 (n / 2 ^ 74) i ∷ signed-again 15 (n / 2 ^ 59) i ∷ signed-again 15 (n / 2 ^ 44) i ∷ signed-again 15 (n / 2 ^ 29) i
    ∷ field-again 9 (n / 2 ^ 20) i ∷ field-again 16 (n / 2 ^ 4) i ∷ record { width = 4; value = sym z i } ∷ [] in
    ap packed e ∙ packed-unpacked contact_widths s h l refl

again_by : (l : List ℕ) → Front l → 21 ≤ length l → spare_zero l ≡ true → Bytes l → bytes_of (record_of l) ≡ take 21 l
unfolding bytes_of
again_by l (short h) g w b = absurd (omega arith)
again_by l (Front.head h k) g w b =
    let z = eqb-true _ 0 (sym (spare-head l h k) ∙ w) in
    ap bytes_of (record-head l h k) ∙ head-again (take 21 l) (bytes_take 21 l b) (length-take-le 21 l h) k z
again_by l (Front.contact h k) g w b =
    let z = eqb-true _ 0 (sym (spare-contact l h k) ∙ w) in
    ap bytes_of (record-contact l h k) ∙ contact-again (take 21 l) (bytes_take 21 l b) (length-take-le 21 l h) z

pub again : (l : List ℕ) → 21 ≤ length l → spare_zero l ≡ true → Bytes l → bytes_of (record_of l) ≡ take 21 l
again l g w b = again_by l (front l) g w b
