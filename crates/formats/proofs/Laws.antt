-- The laws of the formats, each proved once for a combinator.
-- Assumes nothing.
use Prim.Native.Nat.{ℕ, zero, suc, ◌+◌, ◌-◌, ◌*◌, ◌/◌, ◌^◌, ◌≤◌, ◌<◌}
use mathlib.Core.Path.{◌≡◌, refl, sym, ap, ◌∙◌}
use mathlib.Core.Bool.{Bool, true, false, cond}
use mathlib.Core.List.{List, [], ◌∷◌, ◌++◌, append_assoc, append-nil}
use native.Mathlib.Nat.{pow-suc, div-add-mod', div-lt_iff_lt-mul}
use native.Mathlib.Numerals.{sub-one}
use native.Mathlib.Omega.{arith}
use lib.Arith.{digits_div, digits_mod, digits_lt}
use lib.Dec.{lit<}
use lib.ListN.{length, length-append}
use Rattle.paper.specs.Refusals.{truncated}
use Rattle.digits.specs.Digits.{Bytes}
use Rattle.formats.specs.Format.{Got, got, bad, and_then, Format, done, field, such, when, series, read_series, write_series, Each, times, ended, whole, read_byte, byte, read_little, write_little, little}

-- what is written is read back, whatever follows
abbrev pub Back : {A : Type 0} → Format A → Type 0
Back {A} f = (b : A) (t : List ℕ) → f.Holds b → f.read (f.write b ++ t) ≡ got b t

-- what is read can be written, and the bytes after it are bytes
abbrev pub Sound : {A : Type 0} → Format A → Type 0
Sound {A} f = (l : List ℕ) (b : A) (t : List ℕ) → Bytes l → f.read l ≡ got b t → f.Holds b × Bytes t

-- what is read is written back to the same bytes
abbrev pub Exact : {A : Type 0} → Format A → Type 0
Exact {A} f = (l : List ℕ) (b : A) (t : List ℕ) → Bytes l → f.read l ≡ got b t → l ≡ f.write b ++ t

-- what is read is written in no more bytes
abbrev pub Short : {A : Type 0} → Format A → Type 0
Short {A} f = (l : List ℕ) (b : A) (t : List ℕ) → Bytes l → f.read l ≡ got b t → length (f.write b) + length t ≤ length l

pub exact-short : {A : Type 0} (f : Format A) → Exact f → Short f
exact-short f xf l b t hl e = omega (arith, ap length (xf l b t hl e), length-append (f.write b) t)

-- p finds the field a in what g a reads
abbrev pub Finds : {A B : Type 0} → (B → A) → (A → Format B) → Type 0
Finds {A} {B} p g = (a : A) (b : B) → (g a).Holds b → p b ≡ a

pub never : {A : Type 0} {P : Type 0} (e : ℕ) (a : A) (t : List ℕ) → bad e ≡ got a t → P
never e a t h = absurd (let z : ◌≡◌ {A = ℕ} 0 1 = cc in omega arith)

module _ {A : Type 0} (a : A) where
  pub done-back : Back (done a)
  done-back b t h = rw h

  pub done-sound : Sound (done a)
  done-sound l b t hl e =
      let h : b ≡ a = cc in
      let w : l ≡ t = cc in
      (h, rw w at hl)

  pub done-exact : Exact (done a)
  done-exact l b t hl e = cc

module _ {A B : Type 0} (f : Format A) (p : B → A) (g : A → Format B) where
  pub field_back : Back f → ((a : A) → Back (g a)) → Back (field f p g)
  field_back hf hg b t h = rw (append_assoc, hf (p b) ((g (p b)).write b ++ t) h.0) (hg (p b) b t h.1)

  pub field-sound : Sound f → ((a : A) → Sound (g a)) → Finds p g → Sound (field f p g)
  field-sound hf hg find l b t hl e = go (f.read l) refl e
    where
      go : (x : Got A) → f.read l ≡ x → and_then x (λ a t. (g a).read t) ≡ got b t → (f.Holds (p b) × (g (p b)).Holds b) × Bytes t
      go (bad x) w e = never x b t e
      go (got a u) w e =
          let s = hf l a u hl w in
          let r = hg a u b t s.1 e in
          let q : p b ≡ a = find a b r.0 in
          ((rw q s.0, rw q r.0), r.1)

  pub field-exact : Sound f → ((a : A) → Sound (g a)) → Finds p g → Exact f → ((a : A) → Exact (g a)) → Exact (field f p g)
  field-exact hf hg find xf xg l b t hl e = go (f.read l) refl e
    where
      go : (x : Got A) → f.read l ≡ x → and_then x (λ a t. (g a).read t) ≡ got b t → l ≡ (f.write (p b) ++ (g (p b)).write b) ++ t
      go (bad x) w e = never x b t e
      go (got a u) w e =
          let s = hf l a u hl w in
          let q : p b ≡ a = find a b (hg a u b t s.1 e).0 in
          let v : l ≡ f.write a ++ u = xf l a u hl w in
          let y : u ≡ (g a).write b ++ t = xg a u b t s.1 e in
          rw (q, append_assoc, ← y) v

  pub field-short : Sound f → ((a : A) → Sound (g a)) → Finds p g → Short f → ((a : A) → Short (g a)) → Short (field f p g)
  field-short hf hg find sf sg l b t hl e = go (f.read l) refl e
    where
      go : (x : Got A) → f.read l ≡ x → and_then x (λ a t. (g a).read t) ≡ got b t → length (f.write (p b) ++ (g (p b)).write b) + length t ≤ length l
      go (bad x) w e = never x b t e
      go (got a u) w e =
          let s = hf l a u hl w in
          let q : p b ≡ a = find a b (hg a u b t s.1 e).0 in
          let v = sf l a u hl w in
          let y = sg a u b t s.1 e in
          rw (q, length-append) (omega arith)

module _ {A : Type 0} (f : Format A) (q : A → Bool) (e : ℕ) where
  pub such-back : Back f → Back (such f q e)
  such-back hf b t h = rw (hf b t h.0, h.1)

  -- what a read with a test gives
  pub such_got : (l : List ℕ) (b : A) (t : List ℕ) → (such f q e).read l ≡ got b t → (f.read l ≡ got b t) × (q b ≡ true)
  such_got l b t h = go (f.read l) refl h
    where
      go : (x : Got A) → f.read l ≡ x → and_then x (λ a t. cond (q a) (got a t) (bad e)) ≡ got b t → (f.read l ≡ got b t) × (q b ≡ true)
      go (bad x) w h = never x b t h
      go (got a u) w h = on (q a) refl h
        where
          on : (c : Bool) → q a ≡ c → cond c (got a u) (bad e) ≡ got b t → (f.read l ≡ got b t) × (q b ≡ true)
          on true v h = let z : a ≡ b = cc in (w ∙ h, (rw z at v))
          on false v h = never e b t h

  pub such-sound : Sound f → Sound (such f q e)
  such-sound hf l b t hl h =
      let g = such_got l b t h in
      let s = hf l b t hl g.0 in
      ((s.0, g.1), s.1)

  pub such-exact : Exact f → Exact (such f q e)
  such-exact xf l b t hl h = xf l b t hl (such_got l b t h).0

  pub such-short : Short f → Short (such f q e)
  such-short sf l b t hl h = sf l b t hl (such_got l b t h).0

-- as many as there are
pub each-length : {A : Type 0} (H : Bool → A → Type 0) (first : Bool) (n : ℕ) (s : List A) → Each H first n s → length s ≡ n
unfolding Each
each-length H first zero [] h = refl
each-length H first zero (a ∷ s) h = absurd h
each-length H first (suc n) [] h = absurd h
each-length H first (suc n) (a ∷ s) h = ap suc (each-length H false n s h.1)

module _ {A : Type 0} (f : Bool → Format A) where
  abbrev reads : Bool → List ℕ → Got A
  reads b = (f b).read

  pub series-back : ((b : Bool) → Back (f b)) → (first : Bool) (n : ℕ) → Back (series f first n)
  unfolding read_series write_series Each
  series-back hf first zero [] t h = refl
  series-back hf first zero (a ∷ s) t h = absurd h
  series-back hf first (suc n) [] t h = absurd h
  series-back hf first (suc n) (a ∷ s) t h =
      rw (append_assoc, hf first a (write_series (λ b. (f b).write) false s ++ t) h.0, series-back hf false n s t h.1)

  -- one more: what is read is a head and what is read after it
  pub record More (first : Bool) (n : ℕ) (l : List ℕ) (s : List A) (t : List ℕ) : Type 0 where
    pub head : A
    pub after : List ℕ
    pub rest : List A
    pub one : (f first).read l ≡ got head after
    pub others : read_series reads false n after ≡ got rest t
    pub all : s ≡ head ∷ rest

  pub more-got : (first : Bool) (n : ℕ) (l : List ℕ) (s : List A) (t : List ℕ) → read_series reads first (suc n) l ≡ got s t → More first n l s t
  unfolding read_series
  more-got first n l s t h = go ((f first).read l) refl h
    where
      go : (x : Got A) → (f first).read l ≡ x → and_then x (λ a t. and_then (read_series reads false n t) (λ more u. got (a ∷ more) u)) ≡ got s t → More first n l s t
      go (bad x) w h = never x s t h
      go (got a u) w h = on (read_series reads false n u) refl h
        where
          on : (y : Got (List A)) → read_series reads false n u ≡ y → and_then y (λ more u. got (a ∷ more) u) ≡ got s t → More first n l s t
          on (bad x) v h = never x s t h
          on (got r k) v h = let z : k ≡ t = cc in record { head = a; after = u; rest = r; one = w; others = rw z at v; all = cc }

  -- as many as were asked for
  pub series-length : (first : Bool) (n : ℕ) (l : List ℕ) (s : List A) (t : List ℕ) → read_series reads first n l ≡ got s t → length s ≡ n
  unfolding read_series
  series-length first zero l s t h = let z : s ≡ [] = cc in rw z
  series-length first (suc n) l s t h =
      let m = more-got first n l s t h in
      rw m.all (ap suc (series-length false n m.after m.rest t m.others))

  pub series-sound : ((b : Bool) → Sound (f b)) → (first : Bool) (n : ℕ) → Sound (series f first n)
  unfolding Each read_series
  series-sound hf first zero l s t hl h =
      let w : l ≡ t = cc in
      let z : s ≡ [] = cc in
      (rw z tt, rw w at hl)
  series-sound hf first (suc n) l s t hl h =
      let m = more-got first n l s t h in
      let k = hf first l m.head m.after hl m.one in
      let i = series-sound hf false n m.after m.rest t k.1 m.others in
      (rw m.all (k.0, i.0), i.1)

  pub series-exact : ((b : Bool) → Sound (f b)) → ((b : Bool) → Exact (f b)) → (first : Bool) (n : ℕ) → Exact (series f first n)
  unfolding read_series write_series
  series-exact hf xf first zero l s t hl h =
      let w : l ≡ t = cc in
      let z : s ≡ [] = cc in
      rw (z, w)
  series-exact hf xf first (suc n) l s t hl h =
      let m = more-got first n l s t h in
      let i = series-exact hf xf false n m.after m.rest t (hf first l m.head m.after hl m.one).1 m.others in
      rw (m.all, append_assoc, ← i) (xf first l m.head m.after hl m.one)

  pub series-short : ((b : Bool) → Sound (f b)) → ((b : Bool) → Short (f b)) → (first : Bool) (n : ℕ) → Short (series f first n)
  unfolding read_series write_series
  series-short hf sf first zero l s t hl h =
      let w : l ≡ t = cc in
      let z : s ≡ [] = cc in
      rw (z, w) (omega arith)
  series-short hf sf first (suc n) l s t hl h =
      let m = more-got first n l s t h in
      let i = series-short hf sf false n m.after m.rest t (hf first l m.head m.after hl m.one).1 m.others in
      let a = sf first l m.head m.after hl m.one in
      rw (m.all, length-append) (omega arith)

-- the next of a series that is not at its end
pub next-got : {A : Type 0} (f : Bool → Format A) (first : Bool) (k : ℕ) (l : List ℕ) (s : List A) (t : List ℕ) → 0 < k → read_series (λ b. (f b).read) first k l ≡ got s t → More f first (k - 1) l s t
next-got f first zero l s t h e = absurd (omega arith)
next-got f first (suc k) l s t h e = rw sub-one (more-got f first k l s t e)

-- THE ROUND TRIP of a whole message
module _ {A : Type 0} (f : Format A) (e : ℕ) where
  pub whole_back : Back f → (b : A) → f.Holds b → whole f e (f.write b) ≡ got b []
  unfolding ended
  whole_back hf b h = let r = rw append-nil at (hf b [] h) in rw r

  pub whole-exact : Exact f → (l : List ℕ) (b : A) (t : List ℕ) → Bytes l → whole f e l ≡ got b t → l ≡ f.write b
  unfolding ended
  whole-exact xf l b t hl h = go (f.read l) refl h
    where
      go : (x : Got A) → f.read l ≡ x → and_then x (ended e) ≡ got b t → l ≡ f.write b
      go (bad x) w h = never x b t h
      go (got a (y ∷ u)) w h = never e b t h
      go (got a []) w h = let z : a ≡ b = cc in (rw (z, append-nil) at (xf l a [] hl w))

  pub whole-short : Short f → (l : List ℕ) (b : A) (t : List ℕ) → Bytes l → whole f e l ≡ got b t → length (f.write b) ≤ length l
  unfolding ended
  whole-short sf l b t hl h = go (f.read l) refl h
    where
      go : (x : Got A) → f.read l ≡ x → and_then x (ended e) ≡ got b t → length (f.write b) ≤ length l
      go (bad x) w h = never x b t h
      go (got a (y ∷ u)) w h = never e b t h
      go (got a []) w h =
          let z : a ≡ b = cc in
          let s = sf l a [] hl w in
          rw (← z) (omega arith)

  pub whole-sound : Sound f → (l : List ℕ) (b : A) (t : List ℕ) → Bytes l → whole f e l ≡ got b t → f.Holds b
  unfolding ended
  whole-sound hf l b t hl h = go (f.read l) refl h
    where
      go : (x : Got A) → f.read l ≡ x → and_then x (ended e) ≡ got b t → f.Holds b
      go (bad x) w h = never x b t h
      go (got a (y ∷ u)) w h = never e b t h
      go (got a []) w h = let z : a ≡ b = cc in (rw z at (hf l a [] hl w).0)

-- the four together; the last where X holds (X is what strictness asks)
pub record Law (X : Type 0) {A : Type 0} (f : Format A) : Type 0 where
  pub back : Back f
  pub sound : Sound f
  pub short : Short f
  pub exact : X → Exact f

module _ {X : Type 0} where
  pub done-law : {A : Type 0} (a : A) → Law X (done a)
  done-law a = record { back = done-back a; sound = done-sound a; short = exact-short (done a) (done-exact a); exact = λ x. done-exact a }

  pub field-law : {A B : Type 0} (f : Format A) (p : B → A) (g : A → Format B) → Law X f → Finds p g → ((a : A) → Law X (g a)) → Law X (field f p g)
  field-law f p g h find k =
      record {
        back = field_back f p g h.back (λ a. (k a).back);
        sound = field-sound f p g h.sound (λ a. (k a).sound) find;
        short = field-short f p g h.sound (λ a. (k a).sound) find h.short (λ a. (k a).short);
        exact = λ x. field-exact f p g h.sound (λ a. (k a).sound) find (h.exact x) (λ a. (k a).exact x);
      }

  pub such-law : {A : Type 0} (f : Format A) (q : A → Bool) (e : ℕ) → Law X f → Law X (such f q e)
  such-law f q e h = record { back = such-back f q e h.back; sound = such-sound f q e h.sound; short = such-short f q e h.short; exact = λ x. such-exact f q e (h.exact x) }

  pub when-law : {A : Type 0} (f : Format A) (z : A) (c : Bool) → Law X f → Law X (when c f z)
  when-law f z true h = h
  when-law f z false h = done-law z

  pub series-law : {A : Type 0} (f : Bool → Format A) (first : Bool) (n : ℕ) → ((b : Bool) → Law X (f b)) → Law X (series f first n)
  series-law f first n h =
      record {
        back = series-back f (λ b. (h b).back) first n;
        sound = series-sound f (λ b. (h b).sound) first n;
        short = series-short f (λ b. (h b).sound) (λ b. (h b).short) first n;
        exact = λ x. series-exact f (λ b. (h b).sound) (λ b. (h b).exact x) first n;
      }

  pub times-law : {A : Type 0} (f : Format A) (n : ℕ) → Law X f → Law X (times n f)
  times-law f n h = series-law (λ b. f) false n (λ b. h)

-- ---- bytes

pub byte-back : Back byte
unfolding read_byte
byte-back b t h = refl

pub byte-sound : Sound byte
unfolding read_byte
byte-sound [] b t hl e = never truncated b t e
byte-sound (x ∷ l) b t hl e =
    let v : x ≡ b = cc in
    let w : l ≡ t = cc in
    let hm : Bytes l = λ i. hl (suc i) in
    (rw v at (hl zero), rw w at hm)

pub byte-exact : Exact byte
unfolding read_byte
byte-exact [] b t hl e = never truncated b t e
byte-exact (x ∷ l) b t hl e = cc

pub byte-law : {X : Type 0} → Law X byte
byte-law = record { back = byte-back; sound = byte-sound; short = exact-short byte byte-exact; exact = λ x. byte-exact }

-- one byte more: what is read is a byte and, of the bytes after it, the number above it
pub record Above (n : ℕ) (l : List ℕ) (v : ℕ) (t : List ℕ) : Type 0 where
  pub low : ℕ
  pub after : List ℕ
  pub high : ℕ
  pub front : l ≡ low ∷ after
  pub others : read_little n after ≡ got high t
  pub all : v ≡ high * 256 + low

pub above : (n : ℕ) (l : List ℕ) (v : ℕ) (t : List ℕ) → read_little (suc n) l ≡ got v t → Above n l v t
unfolding read_little read_byte
above n [] v t h = never truncated v t h
above n (b ∷ u) v t h = go (read_little n u) refl h
  where
    go : (x : Got ℕ) → read_little n u ≡ x → and_then x (λ v u. got (v * 256 + b) u) ≡ got v t → Above n (b ∷ u) v t
    go (bad x) w h = never x v t h
    go (got a k) w h =
        let z : k ≡ t = cc in
        let y : a * 256 + b ≡ v = cc in
        record { low = b; after = u; high = a; front = refl; others = rw z at w; all = sym y }

pub little-back : (n : ℕ) → Back (little n)
unfolding read_little write_little read_byte
little-back zero v t h = let z : 0 ≡ v = omega arith in rw z
little-back (suc n) v t h =
    let k : v / 256 < 256 ^ n = (div-lt_iff_lt-mul (lit< tt)).1 (rw pow-suc at h) in
    rw (little-back n (v / 256) t k, div-add-mod' v 256)

pub little-sound : (n : ℕ) → Sound (little n)
unfolding read_little
little-sound zero l v t hl h =
    let z : 0 ≡ v = cc in
    let w : l ≡ t = cc in
    (rw (← z) (lit< tt), rw w at hl)
little-sound (suc n) l v t hl h =
    let a = above n l v t h in
    let hm : Bytes (a.low ∷ a.after) = rw a.front at hl in
    let r = little-sound n a.after a.high t (λ i. hm (suc i)) a.others in
    (rw (a.all, pow-suc) (digits_lt r.0 (hm zero)), r.1)

little-again : (n : ℕ) (l : List ℕ) (v : ℕ) (t : List ℕ) (b : ℕ) (u : List ℕ) (a : ℕ) → l ≡ b ∷ u → v ≡ a * 256 + b → b < 256 → u ≡ write_little n a ++ t
    → l ≡ write_little (suc n) v ++ t
unfolding write_little
little-again n l v t b u a el ev hb eu = rw (el, ev, digits_mod a hb, digits_div a hb, ← eu)

pub little-exact : (n : ℕ) → Exact (little n)
unfolding read_little write_little
little-exact zero l v t hl h = cc
little-exact (suc n) l v t hl h =
    let a = above n l v t h in
    let hm : Bytes (a.low ∷ a.after) = rw a.front at hl in
    let i = little-exact n a.after a.high t (λ i. hm (suc i)) a.others in
    little-again n l v t a.low a.after a.high a.front a.all (hm zero) i

pub little-law : {X : Type 0} (n : ℕ) → Law X (little n)
little-law n = record { back = little-back n; sound = little-sound n; short = exact-short (little n) (little-exact n); exact = λ x. little-exact n }

-- ---- what follows for any lawful format

module _ {X : Type 0} {A : Type 0} (f : Format A) (h : Law X f) where
  -- no value's bytes are the front of another's
  pub apart : (a b : A) (t u : List ℕ) → f.Holds a → f.Holds b → f.write a ++ t ≡ f.write b ++ u → (a ≡ b) × (t ≡ u)
  apart a b t u ha hb e =
      let p : got a t ≡ got b u = sym (h.back a t ha) ∙ (rw e (h.back b u hb)) in
      (cc, cc)
