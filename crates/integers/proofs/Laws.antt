-- The laws of reading and writing, over t values of the magnitude's bits of byte one and q of the sign's, and over the numbers k of count
-- bits and g of sign bits. Each of the five kinds is an instance.
-- Assumes nothing.
use Prim.Native.Nat.{ℕ, suc, ◌+◌, ◌-◌, ◌*◌, ◌/◌, ◌%◌, ◌^◌, ◌<◌, ◌≤◌}
use mathlib.Core.Path.{◌≡◌, refl, sym, ap, ◌∙◌}
use mathlib.Core.List.{List, [], ◌∷◌, ◌++◌}
use mathlib.Core.Bool.{Bool, true, false, cond}
use native.Mathlib.Nat.{lt_of_lt_of_le, lt_of_le_of_lt, mul-le-mul_left, pow-le-pow_right, div-add-mod', div-lt_iff_lt-mul, mod-lt}
use native.Mathlib.Numerals.{add-one}
use native.Mathlib.Omega.{arith}
use lib.Dec.{ltb, leb, eqb, lit<}
use lib.ListN.{length, get_or, take, drop, length-append}
use lib.Seq.{take_at, take-append-le, length-take-le}
use lib.Arith.{digits_div, digits_mod}
use borrow.Author.Tests.{ltb-true, ltb-false, lt-ltb, le-ltb, eqb-true, eq-eqb, leb-true, le-leb}
use Rattle.paper.specs.Refusals.{truncated, not_shortest, bad_range}
use Rattle.digits.specs.Digits.{joined, digits, Bytes}
use Rattle.digits.proofs.Laws.{bytes_take, pow_pos, joined-whole, joined-div, joined_small, digits-joined, length_digits}
use Rattle.slices.specs.Writing.{bytes, refuse}
use Rattle.integers.specs.Integer.{Reading, value, refused, decoded, furthest, fewest, only, sign_over, any, form_by, decoded_by, formed, written, count_of, sign_of, tops, signs, limit, reading_by, reading, any_reading, writing, draft}
use Rattle.integers.proofs.Fewest.{fewest-fits, fewest-least, fewest-most}
use Rattle.integers.proofs.ByteOne.{tops-pos, signs-pos, count-range, held}

-- ---- decoding, at any length

-- what is decoded where the list holds the whole integer
abbrev pub held_there : ℕ → ℕ → List ℕ → Reading
held_there t q l =
    let b : ℕ = get_or l 0 0 in
    value (sign_of t q b) (joined (b % t) (take (count_of t q b) (drop 1 l))) (count_of t q b + 1)

-- the two cases of decoding
pub data Cases (t q : ℕ) (l : List ℕ) : Type 0 where
  whole : count_of t q (get_or l 0 0) < length l → decoded t q l ≡ held_there t q l → Cases t q l
  short : length l ≤ count_of t q (get_or l 0 0) → decoded t q l ≡ refused truncated → Cases t q l

module _ (t q : ℕ) (l : List ℕ) where
  pub decoded-whole : count_of t q (get_or l 0 0) < length l → decoded t q l ≡ held_there t q l
  unfolding decoded
  decoded-whole h = rw (lt-ltb _ _ h)

  pub decoded-short : length l ≤ count_of t q (get_or l 0 0) → decoded t q l ≡ refused truncated
  unfolding decoded
  decoded-short h = rw (le-ltb _ _ h)

  pub decoded-cases : Cases t q l
  decoded-cases = go (ltb (count_of t q (get_or l 0 0)) (length l)) refl
    where
      go : (b : Bool) → ltb (count_of t q (get_or l 0 0)) (length l) ≡ b → Cases t q l
      go true e = let h : count_of t q (get_or l 0 0) < length l = ltb-true _ _ e in whole h (decoded-whole h)
      go false e = let h : length l ≤ count_of t q (get_or l 0 0) = ltb-false _ _ e in short h (decoded-short h)

-- a refusal is no value
pub never : {A : Type 0} (e s m n : ℕ) → refused e ≡ value s m n → A
never e s m n h = absurd (let z : ◌≡◌ {A = ℕ} 0 1 = cc in omega arith)

pub length-formed : (t q c s m : ℕ) → length (formed t q c s m) ≡ c + 1
unfolding formed
length-formed t q c s m = simp (length_digits, add-one)

-- what was written at any length is decoded, whatever follows it
pub decoded-formed : (t q c s m : ℕ) (l : List ℕ) → s < q → m < t * 256 ^ c → decoded t q (formed t q c s m ++ l) ≡ value s m (c + 1)
unfolding decoded formed
decoded-formed t q c s m l hs hm =
    let top : m / 256 ^ c < t = (div-lt_iff_lt-mul (pow_pos c)).1 hm in
    let inside : c < suc (length (digits c m ++ l)) = omega (arith, length-append (digits c m) l, length_digits c m) in
    rw (digits_div (c * q + s) top, digits_mod (c * q + s) top, digits_div c hs, digits_mod c hs, lt-ltb _ _ inside, take_at (digits c m) l c (length_digits c m), joined-whole)

-- what is decoded, at any length, has the bytes that are written at that length
pub record Decoded (t q : ℕ) (l : List ℕ) (s m n : ℕ) : Type 0 where
  pub count : n ≡ count_of t q (get_or l 0 0) + 1
  pub inside : n ≤ length l
  pub sign : s < q
  pub small : m < t * 256 ^ count_of t q (get_or l 0 0)
  pub bytes : take n l ≡ formed t q (count_of t q (get_or l 0 0)) s m

module _ (t q : ℕ) (ht : 0 < t) (hq : 0 < q) where
  held_bytes : (b : ℕ) (xs : List ℕ) → Bytes xs → count_of t q b < suc (length xs) → Decoded t q (b ∷ xs) (sign_of t q b) (joined (b % t) (take (count_of t q b) xs)) (count_of t q b + 1)
  unfolding formed
  held_bytes b xs h k =
      let c : ℕ = count_of t q b in
      let ys : List ℕ = take c xs in
      let hy : Bytes ys = bytes_take c xs h in
      let lc : length ys ≡ c = length-take-le c xs (omega arith) in
      record {
        count = refl;
        inside = omega arith;
        sign = mod-lt (b / t) hq;
        small = joined_small t (b % t) c ys hy (mod-lt b ht) (omega arith);
        bytes = rw (add-one, rw lc at (joined-div (b % t) ys hy), rw lc at (digits-joined (b % t) ys hy), div-add-mod' (b / t) q, div-add-mod' b t);
      }

  pub decoded-bytes : (l : List ℕ) (s m n : ℕ) → Bytes l → decoded t q l ≡ value s m n → Decoded t q l s m n
  decoded-bytes l s m n h e = go l h (decoded-cases t q l) e
    where
      go : (l : List ℕ) → Bytes l → Cases t q l → decoded t q l ≡ value s m n → Decoded t q l s m n
      go l h (short k d) e = never truncated s m n (sym d ∙ e)
      go [] h (whole k d) e = absurd (omega arith)
      go (b ∷ xs) h (whole k d) e =
          let es : sign_of t q b ≡ s = cc in
          let em : joined (b % t) (take (count_of t q b) xs) ≡ m = cc in
          let en : count_of t q b + 1 ≡ n = cc in
          rw (es, em, en) at (held_bytes b xs (λ i. h (suc i)) k)

-- a reading stays inside what it was given
pub decoded-inside : (t q : ℕ) (l : List ℕ) (s m n : ℕ) → decoded t q l ≡ value s m n → n ≤ length l
decoded-inside t q l s m n e = go (decoded-cases t q l)
  where
    go : Cases t q l → n ≤ length l
    go (whole k d) = let en : count_of t q (get_or l 0 0) + 1 ≡ n = cc in omega arith
    go (short k d) = never truncated s m n (sym d ∙ e)

-- and takes a byte at least
pub decoded-one : (t q : ℕ) (l : List ℕ) (s m n : ℕ) → decoded t q l ≡ value s m n → 1 ≤ n
decoded-one t q l s m n e = go (decoded-cases t q l)
  where
    go : Cases t q l → 1 ≤ n
    go (short k d) = never _ s m n (sym d ∙ e)
    go (whole k d) = let en : count_of t q (get_or l 0 0) + 1 ≡ n = cc in omega arith

-- its sign is one of q
pub decoded-sign : (t q : ℕ) → 0 < q → (l : List ℕ) (s m n : ℕ) → decoded t q l ≡ value s m n → s < q
decoded-sign t q hq l s m n e = go (decoded-cases t q l)
  where
    go : Cases t q l → s < q
    go (short k d) = never truncated s m n (sym d ∙ e)
    go (whole k d) =
        let es : sign_of t q (get_or l 0 0) ≡ s = cc in
        rw es at (mod-lt (get_or l 0 0 / t) hq)

-- what follows changes nothing, but where the list ended inside the integer
pub decoded-more : (t q : ℕ) (l more : List ℕ) (x : Reading) → decoded t q l ≡ x → (x ≡ refused truncated → ⊥) → decoded t q (l ++ more) ≡ x
decoded-more t q l more x e other = go l (decoded-cases t q l) e
  where
    go : (l : List ℕ) → Cases t q l → decoded t q l ≡ x → decoded t q (l ++ more) ≡ x
    go l (short k d) e = absurd (other (sym e ∙ d))
    go [] (whole k d) e = absurd (omega arith)
    go (b ∷ xs) (whole k d) e =
        let c : ℕ = count_of t q b in
        let within : c ≤ length xs = omega arith in
        let room : c < suc (length (xs ++ more)) = omega (arith, length-append xs more) in
        decoded-whole t q (b ∷ (xs ++ more)) room ∙ rw (take-append-le c xs more within) (sym d ∙ e)

-- ---- the only form

pub record Only (t : ℕ) (x : Reading) (s m n : ℕ) : Type 0 where
  pub same : x ≡ value s m n
  pub least : n ≡ fewest furthest t m + 1
  pub plain : s ≤ m

pub only-value : (t : ℕ) (x : Reading) (s m n : ℕ) → only t x ≡ value s m n → Only t x s m n
unfolding only
only-value t (refused y) s m n e = never y s m n e
only-value t (value a b c) s m n e = go (eqb (fewest furthest t b + 1) c) (leb a b) refl refl e
  where
    go : (x y : Bool) → eqb (fewest furthest t b + 1) c ≡ x → leb a b ≡ y → cond x (cond y (value a b c) (refused not_shortest)) (refused not_shortest) ≡ value s m n → Only t (value a b c) s m n
    go true true w v e =
        let ea : a ≡ s = cc in
        let eb : b ≡ m = cc in
        let ec : c ≡ n = cc in
        record {
          same = e;
          least = sym (rw (ec, eb) at (eqb-true (fewest furthest t b + 1) c w));
          plain = rw (ea, eb) at (leb-true a b v);
        }
    go true false w v e = never not_shortest s m n e
    go false y w v e = never not_shortest s m n e

-- what is in the only form
pub only_same : (t s m n : ℕ) → fewest furthest t m + 1 ≡ n → s ≤ m → only t (value s m n) ≡ value s m n
unfolding only
only_same t s m n e h = rw (eq-eqb _ _ e, le-leb _ _ h)

-- ---- any form

-- of a value in a form the magnitude, the length and the sign were decoded; the sign of minus zero became 0
pub record FormOf (x : Reading) (s m n : ℕ) : Type 0 where
  pub read : ℕ
  pub same : x ≡ value read m n
  pub plain : s ≤ m
  pub sign : s ≤ read

-- of minus zero alone the sign is another
module _ (s m : ℕ) where
  pub sign_same : s ≤ m → sign_over s m ≡ s
  unfolding sign_over
  sign_same h = rw (le-leb _ _ h)

  pub sign-plain : (sign_over s m ≤ m) × (sign_over s m ≤ s)
  unfolding sign_over
  sign-plain = go (leb s m) refl
    where
      go : (y : Bool) → leb s m ≡ y → (cond y s 0 ≤ m) × (cond y s 0 ≤ s)
      go true v = omega (arith, leb-true s m v)
      go false v = omega arith

pub any_value : (x : Reading) (s m n : ℕ) → any x ≡ value s m n → FormOf x s m n
unfolding any
any_value (refused y) s m n e = never y s m n e
any_value (value a b c) s m n e =
    let es : sign_over a b ≡ s = cc in
    let eb : b ≡ m = cc in
    let ec : c ≡ n = cc in
    let p = sign-plain a b in
    record { read = a; same = rw (eb, ec); plain = rw (es, eb) at p.0; sign = rw es at p.1 }

pub any_same : (s m n : ℕ) → s ≤ m → any (value s m n) ≡ value s m n
unfolding any
any_same s m n h = rw (sign_same s m h)

-- ---- of either

pub form-value : (b : Bool) (t : ℕ) (x : Reading) (s m n : ℕ) → form_by b t x ≡ value s m n → FormOf x s m n
form-value true t x s m n e =
    let o = only-value t x s m n e in
    record { read = s; same = o.same; plain = o.plain; sign = omega arith }
form-value false t x s m n e = any_value x s m n e

-- reading what was written gives the value back with its length, whatever follows
pub form-written : (b : Bool) (t q s m : ℕ) (l : List ℕ) → s < q → s ≤ m → m < t * 256 ^ furthest → decoded_by b t q (written t q s m ++ l) ≡ value s m (length (written t q s m))
unfolding decoded_by
form-written b t q s m l hs hp hm = rw (decoded-formed t q (fewest furthest t m) s m l hs (fewest-fits furthest t m hm), length-formed) (go b)
  where
    go : (b : Bool) → form_by b t (value s m (fewest furthest t m + 1)) ≡ value s m (fewest furthest t m + 1)
    go true = only_same t s m (fewest furthest t m + 1) refl hp
    go false = any_same s m (fewest furthest t m + 1) hp

-- what is read begins with exactly the bytes that are written for the value
pub record Accepted (t q : ℕ) (l : List ℕ) (s m n : ℕ) : Type 0 where
  pub inside : n ≤ length l
  pub sign : s < q
  pub plain : s ≤ m
  pub bytes : take n l ≡ written t q s m
  pub least : n ≡ fewest furthest t m + 1

pub only-form-accepted : (t q : ℕ) → 0 < t → 0 < q → (l : List ℕ) (s m n : ℕ) → Bytes l → decoded_by true t q l ≡ value s m n → Accepted t q l s m n
unfolding decoded_by
only-form-accepted t q ht hq l s m n h e =
    let o = only-value t (decoded t q l) s m n e in
    let d = decoded-bytes t q ht hq l s m n h o.same in
    let ec : count_of t q (get_or l 0 0) ≡ fewest furthest t m = omega (arith, o.least, d.count) in
    record {
      inside = d.inside;
      sign = d.sign;
      plain = o.plain;
      bytes = rw ec at d.bytes;
      least = o.least;
    }

-- what follows changes nothing, but where the list ended inside the integer
pub form-more : (b : Bool) (t q : ℕ) (l more : List ℕ) (x : Reading) → decoded_by b t q l ≡ x → (x ≡ refused truncated → ⊥) → decoded_by b t q (l ++ more) ≡ x
unfolding decoded_by only any
form-more b t q l more x e other =
    ap (form_by b t) (decoded-more t q l more (decoded t q l) refl (λ d. other (sym e ∙ ap (form_by b t) d ∙ kept b))) ∙ e
  where
    kept : (b : Bool) → form_by b t (refused truncated) ≡ refused truncated
    kept true = refl
    kept false = refl

-- what is decoded is refused with 5 alone
pub decoded-refused : (t q : ℕ) (l : List ℕ) (e : ℕ) → decoded t q l ≡ refused e → e ≡ truncated
decoded-refused t q l e h = go (decoded-cases t q l)
  where
    go : Cases t q l → e ≡ truncated
    go (short k d) = cc
    go (whole k d) = never e _ _ _ (sym h ∙ d)

-- and by its form with 6 alone
pub only-refused : (t s m n e : ℕ) → only t (value s m n) ≡ refused e → e ≡ not_shortest
unfolding only
only-refused t s m n e h = go (eqb (fewest furthest t m + 1) n) (leb s m) h
  where
    go : (x y : Bool) → cond x (cond y (value s m n) (refused not_shortest)) (refused not_shortest) ≡ refused e → e ≡ not_shortest
    go true true h = never e s m n (sym h)
    go true false h = cc
    go false y h = cc

-- so an integer is refused with 5; or with 6, strictly
pub data Fault (strictly : Bool) (e : ℕ) : Type 0 where
  cut : e ≡ truncated → Fault strictly e
  form : strictly ≡ true → e ≡ not_shortest → Fault strictly e

pub form-refused : (b : Bool) (t q : ℕ) (l : List ℕ) (e : ℕ) → decoded_by b t q l ≡ refused e → Fault b e
unfolding decoded_by only any
form-refused b t q l e h = go b (decoded t q l) refl h
  where
    go : (b : Bool) (x : Reading) → decoded t q l ≡ x → form_by b t x ≡ refused e → Fault b e
    go true (value s m n) d h = form refl (only-refused t s m n e h)
    go true (refused y) d h = let same : y ≡ e = cc in cut (sym same ∙ decoded-refused t q l y d)
    go false (value s m n) d h = never e (sign_over s m) m n (sym h)
    go false (refused y) d h = let same : y ≡ e = cc in cut (sym same ∙ decoded-refused t q l y d)

-- what is refused with 6 strictly, or read alike in both forms
pub data Apart (x y : Reading) : Type 0 where
  six : x ≡ refused not_shortest → Apart x y
  alike : x ≡ y → Apart x y

form-apart : (t : ℕ) (x : Reading) → Apart (only t x) (any x)
unfolding only any
form-apart t (refused e) = alike refl
form-apart t (value s m n) = go (eqb (fewest furthest t m + 1) n) (leb s m) refl
  where
    go : (x y : Bool) → leb s m ≡ y → Apart (cond x (cond y (value s m n) (refused not_shortest)) (refused not_shortest)) (value (sign_over s m) m n)
    go true true v = alike (rw (sign_same s m (leb-true s m v)))
    go true false v = six refl
    go false y v = six refl

-- ---- by count bits and sign bits

module _ (strictly : Bool) (k g : ℕ) where
  -- a value that is read was decoded, but for the sign of minus zero
  pub reading-decoded : (l : List ℕ) (s m n : ℕ) → reading_by strictly k g l ≡ value s m n → FormOf (decoded (tops k g) (signs g) l) s m n
  unfolding decoded_by
  reading-decoded l s m n e = form-value strictly (tops k g) (decoded (tops k g) (signs g) l) s m n e

  pub reading-inside : (l : List ℕ) (s m n : ℕ) → reading_by strictly k g l ≡ value s m n → n ≤ length l
  reading-inside l s m n e = decoded-inside (tops k g) (signs g) l _ m n (reading-decoded l s m n e).same

  pub reading-one : (l : List ℕ) (s m n : ℕ) → reading_by strictly k g l ≡ value s m n → 1 ≤ n
  reading-one l s m n e = decoded-one (tops k g) (signs g) l _ m n (reading-decoded l s m n e).same

  pub reading-more : (l more : List ℕ) (x : Reading) → reading_by strictly k g l ≡ x → (x ≡ refused truncated → ⊥) → reading_by strictly k g (l ++ more) ≡ x
  reading-more = form-more strictly (tops k g) (signs g)

  pub reading-refused : (l : List ℕ) (e : ℕ) → reading_by strictly k g l ≡ refused e → Fault strictly e
  reading-refused = form-refused strictly (tops k g) (signs g)

pub readings : (k g : ℕ) (l : List ℕ) → Apart (reading k g l) (any_reading k g l)
unfolding decoded_by
readings k g l = form-apart (tops k g) (decoded (tops k g) (signs g) l)

-- what is decoded, at any length, is in the range of its kind
pub record Bounded (k g : ℕ) (s m n : ℕ) : Type 0 where
  pub sign : s < signs g
  pub size : m < limit k g
  pub len : n ≤ 2 ^ k

pub decoded-bounded : (k g : ℕ) (l : List ℕ) (s m n : ℕ) → k + g ≤ 8 → Bytes l → decoded (tops k g) (signs g) l ≡ value s m n → Bounded k g s m n
decoded-bounded k g l s m n h hl e =
    let d = decoded-bytes (tops k g) (signs g) (tops-pos k g) (signs-pos g) l s m n hl e in
    let c : count_of (tops k g) (signs g) (get_or l 0 0) < 2 ^ k = count-range k g (get_or l 0 0) h (hl 0) in
    let f : count_of (tops k g) (signs g) (get_or l 0 0) ≤ 2 ^ k - 1 = omega arith in
    record {
      sign = d.sign;
      size = lt_of_lt_of_le d.small (mul-le-mul_left (tops k g) (pow-le-pow_right (lit< tt) f));
      len = omega (arith, d.count);
    }

-- what a reading accepts, with no minus zero
pub record Ranged (k g : ℕ) (s m n : ℕ) : Type 0 where
  pub sign : s < signs g
  pub plain : s ≤ m
  pub size : m < limit k g
  pub len : n ≤ 2 ^ k

pub reading-ranged : (strictly : Bool) (k g : ℕ) (l : List ℕ) (s m n : ℕ) → k + g ≤ 8 → Bytes l → reading_by strictly k g l ≡ value s m n → Ranged k g s m n
reading-ranged strictly k g l s m n h hl e =
    let f = reading-decoded strictly k g l s m n e in
    let b = decoded-bounded k g l f.read m n h hl f.same in
    record { sign = omega (arith, f.sign, b.sign); plain = f.plain; size = b.size; len = b.len }

-- what is decoded takes no fewer bytes than are written for its value
decoded-longer : (k g : ℕ) (l : List ℕ) (s m n : ℕ) → Bytes l → decoded (tops k g) (signs g) l ≡ value s m n → length (writing k g s m) ≤ n
decoded-longer k g l s m n hl e =
    let t = tops k g in
    let d = decoded-bytes t (signs g) (tops-pos k g) (signs-pos g) l s m n hl e in
    let c = fewest-least furthest t m (count_of t (signs g) (get_or l 0 0)) d.small in
    omega (arith, c, d.count, length-formed t (signs g) (fewest furthest t m) s m)

-- ---- what is written

-- a sign takes no byte of its own, and no integer more than eight
module _ (k g s m : ℕ) where
  pub writing-sign : length (writing k g s m) ≡ length (writing k g 0 m)
  writing-sign =
      let c = fewest furthest (tops k g) m in
      length-formed (tops k g) (signs g) c s m ∙ sym (length-formed (tops k g) (signs g) c 0 m)

  pub writing-most : length (writing k g s m) ≤ 8
  writing-most =
      let t = tops k g in
      omega (arith, length-formed t (signs g) (fewest furthest t m) s m, fewest-most furthest t m)

-- THE LAW OF LENGTH AND VALUE: what is written is read back with its length, whatever follows; the value of a reading is in the kind's range,
-- and no bytes that are read as it are fewer than those that are written for it; and strictly it is read of just those
pub record LengthAndValue (strictly : Bool) (k g : ℕ) : Type 0 where
  pub back : (s m : ℕ) (l : List ℕ) → s < signs g → s ≤ m → m < limit k g → reading_by strictly k g (writing k g s m ++ l) ≡ value s m (length (writing k g s m))
  pub range : (l : List ℕ) (s m n : ℕ) → Bytes l → reading_by strictly k g l ≡ value s m n → Ranged k g s m n
  pub shortest : (l : List ℕ) (s m n : ℕ) → Bytes l → reading_by strictly k g l ≡ value s m n → length (writing k g s m) ≤ n
  pub exact : strictly ≡ true → (l : List ℕ) (s m n : ℕ) → Bytes l → reading_by strictly k g l ≡ value s m n → take n l ≡ writing k g s m

pub length-and-value : (strictly : Bool) (k g : ℕ) → k ≤ 3 → k + g ≤ 8 → LengthAndValue strictly k g
length-and-value strictly k g hk h =
    record {
      back = λ s m l hs hp hm. form-written strictly (tops k g) (signs g) s m l hs hp (held k g m hk h hm).long;
      range = λ l s m n hl e. reading-ranged strictly k g l s m n h hl e;
      shortest = λ l s m n hl e.
          let f = reading-decoded strictly k g l s m n e in
          omega (arith, decoded-longer k g l f.read m n hl f.same, writing-sign k g s m, writing-sign k g f.read m);
      exact = λ x l s m n hl e. (only-form-accepted (tops k g) (signs g) (tops-pos k g) (signs-pos g) l s m n hl (rw x at e)).bytes;
    }

-- a magnitude that is less is written no longer
pub writing-shorter : (k g s m n : ℕ) → k ≤ 3 → k + g ≤ 8 → m ≤ n → n < limit k g → length (writing k g s m) ≤ length (writing k g s n)
writing-shorter k g s m n hk h less hn =
    let t = tops k g in
    let c = fewest furthest t n in
    let l = fewest-least furthest t m c (lt_of_le_of_lt less (held k g n hk h hn).fits) in
    omega (arith, length-formed t (signs g) (fewest furthest t m) s m, length-formed t (signs g) c s n)

-- a value in the range is drafted as its bytes, any other refused with 10
module _ (k g s m : ℕ) where
  pub draft-bytes : m < limit k g → draft k g s m ≡ bytes (writing k g s m)
  unfolding draft
  draft-bytes h = rw (lt-ltb m (limit k g) h)

  pub draft-refuse : limit k g ≤ m → draft k g s m ≡ refuse bad_range
  unfolding draft
  draft-refuse h = rw (le-ltb m (limit k g) h)
