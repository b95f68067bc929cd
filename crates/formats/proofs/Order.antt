-- Left to right: what was read, and a fault other than an end that comes too soon, stand whatever is put behind.
-- Assumes nothing.
use Prim.Native.Nat.{ℕ, zero, suc, ◌+◌, ◌*◌}
use mathlib.Core.Path.{◌≡◌, refl}
use mathlib.Core.Bool.{Bool, true, false, cond}
use mathlib.Core.List.{List, [], ◌∷◌, ◌++◌}
use Rattle.paper.specs.Refusals.{truncated}
use Rattle.formats.specs.Format.{Got, got, bad, and_then, Format, done, field, such, when, series, read_series, times, read_byte, byte, read_little, little}

-- the reading with m behind
abbrev pub behind : {A : Type 0} → Got A → List ℕ → Got A
behind (got a t) m = got a (t ++ m)
behind (bad e) m = bad e

-- short of bytes: nothing is said; otherwise the answer stays
abbrev pub Settled : {A : Type 0} → Got A → Type 0
Settled (got a t) = Unit {0}
Settled (bad e) = e ≡ truncated → ⊥

abbrev pub Stays : {A : Type 0} → Format A → Type 0
Stays f = (l m : List ℕ) → Settled (f.read l) → f.read (l ++ m) ≡ behind (f.read l) m

pub done-stays : {A : Type 0} (a : A) → Stays (done a)
done-stays a l m s = refl

module _ {A B : Type 0} (f : Format A) (p : B → A) (g : A → Format B) where
  pub field-stays : Stays f → ((a : A) → Stays (g a)) → Stays (field f p g)
  field-stays hf hg l m s = go (f.read l) refl s
    where
      go : (x : Got A) → f.read l ≡ x → Settled (and_then x (λ a t. (g a).read t)) → and_then (f.read (l ++ m)) (λ a t. (g a).read t) ≡ behind (and_then x (λ a t. (g a).read t)) m
      go (bad e) w s = let q : f.read (l ++ m) ≡ bad e = rw w at (hf l m (rw w s)) in rw q
      go (got a t) w s = let q : f.read (l ++ m) ≡ got a (t ++ m) = rw w at (hf l m (rw w tt)) in rw q (hg a t m s)

module _ {A : Type 0} (f : Format A) (q : A → Bool) (e : ℕ) where
  pub such-stays : Stays f → Stays (such f q e)
  such-stays hf l m s = go (f.read l) refl s
    where
      go : (x : Got A) → f.read l ≡ x → Settled (and_then x (λ a t. cond (q a) (got a t) (bad e))) → and_then (f.read (l ++ m)) (λ a t. cond (q a) (got a t) (bad e)) ≡ behind (and_then x (λ a t. cond (q a) (got a t) (bad e))) m
      go (bad y) w s = let z : f.read (l ++ m) ≡ bad y = rw w at (hf l m (rw w s)) in rw z
      go (got a t) w s = let z : f.read (l ++ m) ≡ got a (t ++ m) = rw w at (hf l m (rw w tt)) in rw z (on (q a))
        where
          on : (b : Bool) → cond b (got a (t ++ m)) (bad e) ≡ behind (cond b (got a t) (bad e)) m
          on true = refl
          on false = refl

pub when-stays : {A : Type 0} (f : Format A) (z : A) (c : Bool) → Stays f → Stays (when c f z)
when-stays f z true h = h
when-stays f z false h = done-stays z

module _ {A : Type 0} (f : Bool → Format A) where
  -- a series with one value more, of what its first reading gave
  abbrev onward : ℕ → Got A → Got (List A)
  onward n x = and_then x (λ a t. and_then (read_series (λ b. (f b).read) false n t) (λ more u. got (a ∷ more) u))

  pub series-stays : ((b : Bool) → Stays (f b)) → (first : Bool) (n : ℕ) → Stays (series f first n)
  unfolding read_series
  series-stays h first zero l m s = refl
  series-stays h first (suc n) l m s = go ((f first).read l) refl s (series-stays h false n)
    where
      go : (x : Got A) → (f first).read l ≡ x → Settled (onward n x) → Stays (series f false n) → onward n ((f first).read (l ++ m)) ≡ behind (onward n x) m
      go (bad y) w s i = let z : (f first).read (l ++ m) ≡ bad y = rw w at (h first l m (rw w s)) in rw z
      go (got a t) w s i =
          let z : (f first).read (l ++ m) ≡ got a (t ++ m) = rw w at (h first l m (rw w tt)) in rw z (on (read_series (λ b. (f b).read) false n t) refl s)
        where
          on : (y : Got (List A)) → read_series (λ b. (f b).read) false n t ≡ y → Settled (and_then y (λ more u. got (a ∷ more) u))
              → and_then (read_series (λ b. (f b).read) false n (t ++ m)) (λ more u. got (a ∷ more) u) ≡ behind (and_then y (λ more u. got (a ∷ more) u)) m
          on (bad k) v s = let z : read_series (λ b. (f b).read) false n (t ++ m) ≡ bad k = rw v at (i t m (rw v s)) in rw z
          on (got r u) v s = let z : read_series (λ b. (f b).read) false n (t ++ m) ≡ got r (u ++ m) = rw v at (i t m (rw v tt)) in rw z

pub byte-stays : Stays byte
unfolding read_byte
byte-stays [] m s = absurd (s refl)
byte-stays (x ∷ l) m s = refl

-- a number of n bytes is n bytes, one behind the other
pub little-stays : (n : ℕ) → Stays (little n)
unfolding read_little read_byte
little-stays zero l m s = refl
little-stays (suc n) [] m s = absurd (s refl)
little-stays (suc n) (x ∷ l) m s = go (read_little n l) refl s (little-stays n l m)
  where
    go : (y : Got ℕ) → read_little n l ≡ y → Settled (and_then y (λ v u. got (v * 256 + x) u)) → (Settled (read_little n l) → read_little n (l ++ m) ≡ behind (read_little n l) m)
        → and_then (read_little n (l ++ m)) (λ v u. got (v * 256 + x) u) ≡ behind (and_then y (λ v u. got (v * 256 + x) u)) m
    go (bad k) w s i = let z : read_little n (l ++ m) ≡ bad k = rw w at (i (rw w s)) in rw z
    go (got v u) w s i = let z : read_little n (l ++ m) ≡ got v (u ++ m) = rw w at (i (rw w tt)) in rw z

-- as a record, so that a chain of fields finds its formats by itself
pub record Ordered {A : Type 0} (f : Format A) : Type 0 where
  pub stays : Stays f

pub done-ordered : {A : Type 0} (a : A) → Ordered (done a)
done-ordered a = record { stays = done-stays a }

pub field-ordered : {A B : Type 0} (f : Format A) (p : B → A) (g : A → Format B) → Ordered f → ((a : A) → Ordered (g a)) → Ordered (field f p g)
field-ordered f p g h k = record { stays = field-stays f p g h.stays (λ a. (k a).stays) }

pub such-ordered : {A : Type 0} (f : Format A) (q : A → Bool) (e : ℕ) → Ordered f → Ordered (such f q e)
such-ordered f q e h = record { stays = such-stays f q e h.stays }

pub when-ordered : {A : Type 0} (f : Format A) (z : A) (c : Bool) → Ordered f → Ordered (when c f z)
when-ordered f z c h = record { stays = when-stays f z c h.stays }

pub series-ordered : {A : Type 0} (f : Bool → Format A) (first : Bool) (n : ℕ) → ((b : Bool) → Ordered (f b)) → Ordered (series f first n)
series-ordered f first n h = record { stays = series-stays f (λ b. (h b).stays) first n }

pub times-ordered : {A : Type 0} (f : Format A) (n : ℕ) → Ordered f → Ordered (times n f)
times-ordered f n h = series-ordered (λ b. f) false n (λ b. h)

pub byte-ordered : Ordered byte
byte-ordered = record { stays = byte-stays }

pub little-ordered : (n : ℕ) → Ordered (little n)
little-ordered n = record { stays = little-stays n }
