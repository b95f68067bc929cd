-- EVERY STORED HEAD READS AS IT DID, AND AN OLDER READER REFUSES A COUNT ABOVE 63 BY 14.
-- Assumes nothing.
use Prim.Native.Nat.{ℕ, ◌+◌, ◌*◌, ◌/◌, ◌%◌, ◌^◌, ◌≤◌, ◌<◌}
use mathlib.Core.Path.{◌≡◌, refl, sym, ap, ◌∙◌}
use mathlib.Core.Bool.{Bool, true, false}
use mathlib.Core.List.{List, [], ◌∷◌, ◌++◌}
use native.Mathlib.Nat.{zero-mul, zero-add, div-one, div-eq_of_lt}
use native.Mathlib.Omega.{arith}
use lib.Dec.{eqb}
use lib.ListN.{length, take}
use lib.Pow.{mod-pow-add}
use borrow.Author.Tests.{le-leb, lt-leb, eq-eqb, ne_eqb, eqb-true}
use Rattle.paper.specs.Refusals.{bad_record}
use Rattle.digits.specs.Digits.{joined, digits}
use Rattle.house.specs.Fields.{record_bytes, packed, unpacked, value_at}
use Rattle.house.specs.Layout.{contacts_most, head_bytes, head_in, head_spare, kind_of, record_of}
use Rattle.house.specs.declared.Head.{Head}
use Rattle.house.specs.declared.Record.{Record}
use Rattle.house.specs.declared.Record.TheVariants as Record
use Rattle.house.proofs.Fields.{field_fit, length-packed, unpacked-packed, zeros}
use Rattle.house.proofs.Front.{Front, short, front, record-head, record-contact, front-is, front_long}
use Rattle.house.proofs.Round.{record-of-head}
use Rattle.well_formed.specs.WellFormed.{all, head_well, well_formed}
use Rattle.well_formed.proofs.Front.{well-head}
use Rattle.old_heads.specs.OldHeads.{old_contacts_most, old_head_fields, old_head_widths, old_head_bytes, old_head_in, old_head_spare, old_record_of, old_well_formed, old_reading}
use Rattle.old_heads.specs.Standing.{ReadsAsItDid, high_bits, HeadsStand}

-- the 99 bits behind the offset: three, and 96
spare-parts : (s : List ℕ) → old_head_spare s ≡ joined 0 s / 2 ^ 96 % 2 ^ 3 * 2 ^ 96 + head_spare s
unfolding old_head_spare head_spare unpacked
spare-parts s = mod-pow-add (joined 0 s / 2 ^ 0) 3 96 ∙ rw (div-one (joined 0 s))

-- a test that holds adds nothing
all_true : (b c : Bool) → c ≡ true → all (b ∷ c ∷ []) ≡ b
unfolding all
all_true true c h = rw h
all_true false c h = refl

-- ---- heads

-- the count of 21 bytes by its two parts, and the offset
module _ (l : List ℕ) (long : 21 ≤ length l) (k : kind_of (take 21 l) ≡ 0) where
  abbrev s : List ℕ
  s = take 21 l

  old-record : old_record_of l ≡ Record.Head (old_head_in s)
  unfolding old_record_of
  old-record = rw (record-head l long k)

  old-well : old_well_formed l ≡ eqb (old_head_spare s) 0
  unfolding old_well_formed
  old-well = rw (record-head l long k)

  count-parts : (head_in s).count ≡ high_bits l * 2 ^ 6 + (old_head_in s).count
  unfolding head_in old_head_in high_bits unpacked
  count-parts = refl

  offset-same : (head_in s).offset ≡ (old_head_in s).offset
  unfolding head_in old_head_in unpacked
  offset-same = refl

  old-small : (old_head_in s).count < 2 ^ 6
  unfolding old_head_in unpacked
  old-small = field_fit 6 _

  -- the unused bits, as they were: the three, and those of today
  spare-is : old_head_spare s ≡ high_bits l * 2 ^ 96 + head_spare s
  unfolding high_bits unpacked
  spare-is = spare-parts s

  module _ (z : high_bits l ≡ 0) where
    head-same : head_in s ≡ old_head_in s
    head-same =
        let n : (head_in s).count ≡ (old_head_in s).count = count-parts ∙ rw (z, zero-mul, zero-add) in
        λ i. record { count = n i; offset = offset-same i }

    spare-same : old_head_spare s ≡ head_spare s
    spare-same = spare-is ∙ rw (z, zero-mul, zero-add)

    few : head_well (head_in s) ≡ true
    unfolding head_well
    few =
        let n : (head_in s).count ≡ (old_head_in s).count = ap (λ h. h.count) head-same in
        le-leb (head_in s).count contacts_most (omega (arith, n, old-small))

    well-same : well_formed l ≡ eqb (head_spare s) 0
    well-same = well-head l long k ∙ all_true (eqb (head_spare s) 0) (head_well (head_in s)) few

    zeros-read : ReadsAsItDid l
    zeros-read =
        record {
          found = record-head l long k ∙ ap Record.Head head-same ∙ sym old-record;
          formed = well-same ∙ ap (λ n. eqb n 0) (sym spare-same) ∙ sym old-well;
        }

  -- where the three are not all 0
  over-well : (high_bits l ≡ 0 → ⊥) → old_well_formed l ≡ false
  over-well z = old-well ∙ ne_eqb _ 0 (λ e. z (omega (arith, sym spare-is ∙ e)))

  -- well formed as it was, the three are 0
  high-none : old_well_formed l ≡ true → high_bits l ≡ 0
  high-none w = let e : high_bits l * 2 ^ 96 + head_spare s ≡ 0 = sym spare-is ∙ eqb-true _ 0 (sym old-well ∙ w) in omega (arith, e)

  -- above 63 they are not
  high-some : old_contacts_most < (head_in s).count → high_bits l ≡ 0 → ⊥
  high-some h z =
      let n : (head_in s).count ≡ (old_head_in s).count = ap (λ h. h.count) (head-same z) in
      omega (arith, n, h, old-small)

-- ---- all else: what is no head is read as it is

abbrev NoHead : Record → Type 0
NoHead (Record.Head h) = ⊥
NoHead (Record.Contact kind c) = Unit
NoHead (Record.Refused e) = Unit

no-head-reads : (l : List ℕ) (r : Record) → record_of l ≡ r → NoHead r → ReadsAsItDid l
unfolding old_record_of old_well_formed
no-head-reads l (Record.Head h) e never = absurd never
no-head-reads l (Record.Contact kind c) e never = record { found = rw e; formed = rw e }
no-head-reads l (Record.Refused n) e never = record { found = rw e; formed = rw e }

record-short : (l : List ℕ) → length l < 21 → record_of l ≡ Record.Refused bad_record
unfolding record_of
record-short l h = rw (lt-leb _ _ h)

-- ---- THE FACTS

zeros-reads : (l : List ℕ) → Front l → high_bits l ≡ 0 → ReadsAsItDid l
zeros-reads l (short h) z = no-head-reads l _ (record-short l h) tt
zeros-reads l (Front.head h k) z = zeros-read l h k z
zeros-reads l (Front.contact h k) z = no-head-reads l _ (record-contact l h k) tt

formed-reads : (l : List ℕ) → Front l → old_well_formed l ≡ true → ReadsAsItDid l
formed-reads l (short h) w = no-head-reads l _ (record-short l h) tt
formed-reads l (Front.head h k) w = zeros-read l h k (high-none l h k w)
formed-reads l (Front.contact h k) w = no-head-reads l _ (record-contact l h k) tt

others-read : (l : List ℕ) (r : Record) → record_of l ≡ r → ((h : Head) → r ≡ Record.Head h → ⊥) → ReadsAsItDid l
others-read l (Record.Head h) e none = absurd (none h refl)
others-read l (Record.Contact kind c) e none = no-head-reads l _ e tt
others-read l (Record.Refused n) e none = no-head-reads l _ e tt

-- how many contacts a record says follow
abbrev count_in : Record → ℕ
count_in (Record.Head h) = h.count
count_in (Record.Contact kind c) = 0
count_in (Record.Refused e) = 0

over-refused : (l : List ℕ) → Front l → old_contacts_most < count_in (record_of l) → old_reading l ≡ Record.Refused bad_record
unfolding old_reading
over-refused l (short h) c = absurd (omega (arith, c, ap count_in (record-short l h)))
over-refused l (Front.contact h k) c = absurd (omega (arith, c, ap count_in (record-contact l h k)))
over-refused l (Front.head h k) c =
    let e : count_in (record_of l) ≡ (head_in (take 21 l)).count = ap count_in (record-head l h k) in
    rw (over-well l h k (high-some l h k (omega (arith, c, e))))

refused : (l : List ℕ) (h : Head) → record_of l ≡ Record.Head h → old_contacts_most < h.count → old_reading l ≡ Record.Refused bad_record
refused l h e c = over-refused l (front l) (rw e c)

-- a head that was stored
length-old : (h : Head) → length (old_head_bytes h) ≡ 21
unfolding old_head_bytes
length-old h = length-packed (old_head_fields h)

old-fields : (h : Head) → unpacked old_head_widths (old_head_bytes h) ≡ old_head_fields h
unfolding old_head_bytes
old-fields h = unpacked-packed (old_head_fields h) (field_fit 2 0, (field_fit 6 h.count, (field_fit 61 h.offset.0, (field_fit 99 0, tt)))) refl

old-kind : (h : Head) → kind_of (old_head_bytes h) ≡ 0
unfolding kind_of unpacked
old-kind h = ap (value_at 0) (old-fields h)

old-spare : (h : Head) → old_head_spare (old_head_bytes h) ≡ 0
unfolding old_head_spare
old-spare h = ap (value_at 3) (old-fields h)

stored-formed : (h : Head) (t : List ℕ) → old_well_formed (old_head_bytes h ++ t) ≡ true
stored-formed h t =
    let e = front-is (old_head_bytes h) t (length-old h) in
    old-well (old_head_bytes h ++ t) (front_long (old_head_bytes h) t (length-old h)) (ap kind_of e ∙ old-kind h) ∙ eq-eqb _ 0 (ap old_head_spare e ∙ old-spare h)

pub same_bytes : (h : Head) → h.count ≤ old_contacts_most → head_bytes h ≡ old_head_bytes h
unfolding head_bytes old_head_bytes packed
same_bytes h c =
    let z : h.count / 2 ^ 6 ≡ 0 = div-eq_of_lt (omega (arith, c)) in
    rw z (ap (digits record_bytes) (zeros _ 3 96))

pub the-heads-stand : HeadsStand
the-heads-stand =
    record {
      stored = λ h t. formed-reads (old_head_bytes h ++ t) (front _) (stored-formed h t);
      formed = λ l. formed-reads l (front l);
      zeros = λ l. zeros-reads l (front l);
      others = λ l. others-read l (record_of l) refl;
      refused = refused;
      refused_written = λ h t f. refused (head_bytes h ++ t) h (record-of-head h t f);
      same = same_bytes;
    }
