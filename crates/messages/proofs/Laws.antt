-- The laws of messages, once for all formats of a body: written ones are read back, and what is read is written back to the same bytes.
-- Assumes nothing.
use Prim.Native.Nat.{ℕ, ◌+◌, ◌≤◌, ◌<◌}
use mathlib.Core.Path.{◌≡◌, refl, sym, ap, ◌∙◌}
use mathlib.Core.Bool.{Bool, true, false, cond}
use mathlib.Core.List.{List, [], ◌∷◌, ◌++◌, append_assoc}
use native.Mathlib.Omega.{arith}
use lib.Dec.{ltb, eqb}
use lib.ListN.{length, drop, length-drop}
use lib.Seq.{drop-drop, get_or-drop}
use borrow.Author.Tests.{le-ltb, eq-eqb, ltb-false, eqb-true}
use Rattle.paper.specs.Refusals.{short, too_long, unexpected, bad_length, bad_field, trailing}
use Rattle.digits.specs.Digits.{Bytes}
use Rattle.digits.proofs.Laws.{bytes_drop}
use Rattle.formats.specs.Format.{Got, got, bad, and_then, Format, byte, little, write_little, whole}
use Rattle.formats.proofs.Laws.{Law, never, little-exact, whole_back, whole-exact, whole-short, whole-sound, done-law, field-law, such-law, byte-law, little-law}
use Rattle.formats.proofs.Order.{Ordered, done-ordered, field-ordered, such-ordered, byte-ordered, little-ordered}
use Rattle.messages.specs.Header.{header_bytes, most_bytes, event_of, pdu_length, one_of, headed, read_message, header, write_message}
use Rattle.messages.specs.Bodies.{version, version_listed, ready_flags, flags_listed, ready_by, ready, nothing}
use Rattle.messages.specs.declared.Ready.{Ready}
use Rattle.messages.proofs.Front.{little_two, little_four}

-- ---- one of those listed

module _ (e : ℕ) (es : List ℕ) (x : ℕ) where
  pub one-of-first : x ≡ e → one_of (e ∷ es) x ≡ true
  unfolding one_of
  one-of-first h = rw (eq-eqb _ _ h)

  pub one-of-later : eqb x e ≡ false → one_of (e ∷ es) x ≡ one_of es x
  unfolding one_of
  one-of-later h = rw h

pub one-of-one : (e x : ℕ) → one_of (e ∷ []) x ≡ eqb x e
unfolding one_of
one-of-one e x = go (eqb x e)
  where
    go : (b : Bool) → cond b true false ≡ b
    go true = refl
    go false = refl

-- one that is listed twice
pub one-of-twice : (e x : ℕ) → one_of (e ∷ e ∷ []) x ≡ one_of (e ∷ []) x
unfolding one_of
one-of-twice e x = go (eqb x e)
  where
    go : (b : Bool) → cond b true (cond b true false) ≡ cond b true false
    go true = refl
    go false = refl

-- ---- the header

-- it is taken where every check passes
pub headed-good : (events : List ℕ) (l : List ℕ) → header_bytes ≤ length l → length l ≤ most_bytes → one_of events (event_of l) ≡ true → pdu_length l ≡ length l → headed events l ≡ got (event_of l) (drop header_bytes l)
unfolding headed
headed-good events l low high h k = rw (le-ltb _ _ low, le-ltb _ _ high, h, eq-eqb _ _ k)

-- what an accepted header says
pub record Headed (events : List ℕ) (l : List ℕ) (e : ℕ) (b : List ℕ) : Type 0 where
  pub low : header_bytes ≤ length l
  pub high : length l ≤ most_bytes
  pub takes : one_of events e ≡ true
  pub event : event_of l ≡ e
  pub long : pdu_length l ≡ length l
  pub body : drop header_bytes l ≡ b

pub headed-got : (events : List ℕ) (l : List ℕ) (e : ℕ) (b : List ℕ) → headed events l ≡ got e b → Headed events l e b
unfolding headed
headed-got events l e b h = go (ltb (length l) header_bytes) refl (ltb most_bytes (length l)) refl (one_of events (event_of l)) refl (eqb (pdu_length l) (length l)) refl h
  where
    go : (p : Bool) → ltb (length l) header_bytes ≡ p → (q : Bool) → ltb most_bytes (length l) ≡ q → (r : Bool) → one_of events (event_of l) ≡ r → (s : Bool) → eqb (pdu_length l) (length l) ≡ s
        → cond p (bad short) (cond q (bad too_long) (cond r (cond s (got (event_of l) (drop header_bytes l)) (bad bad_length)) (bad unexpected))) ≡ got e b → Headed events l e b
    go true ep q eq r er s es h = never short e b h
    go false ep true eq r er s es h = never too_long e b h
    go false ep false eq false er s es h = never unexpected e b h
    go false ep false eq true er false es h = never bad_length e b h
    go false ep false eq true er true es h =
        let z : event_of l ≡ e = cc in
        let y : drop header_bytes l ≡ b = cc in
        record { low = ltb-false _ _ ep; high = ltb-false _ _ eq; takes = ap (one_of events) (sym z) ∙ er; event = z; long = eqb-true _ _ es; body = y }

-- one event, named twice
pub headed_same : (e : ℕ) (l : List ℕ) → headed (e ∷ e ∷ []) l ≡ headed (e ∷ []) l
unfolding headed
headed_same e l = rw (one-of-twice e (event_of l))

-- ---- the header's bytes

-- a list that starts with a header has its event and its length
pub event-back : (e n : ℕ) (t : List ℕ) → e < 65536 → event_of (header e n ++ t) ≡ e
unfolding write_little
event-back e n t h = omega arith

pub length_back : (e n : ℕ) (t : List ℕ) → n < 4294967296 → pdu_length (header e n ++ t) ≡ n
unfolding write_little
length_back e n t h = omega arith

pub header-long : (e n : ℕ) (t : List ℕ) → length (header e n ++ t) ≡ header_bytes + length t
unfolding write_little
header-long e n t = omega arith

pub body_back : (e n : ℕ) (t : List ℕ) → drop header_bytes (header e n ++ t) ≡ t
unfolding write_little
body_back e n t = refl

-- and every list that is long enough starts with its header
pub header-exact : (l : List ℕ) → Bytes l → header_bytes ≤ length l → l ≡ header (event_of l) (pdu_length l) ++ drop header_bytes l
header-exact l hl h =
    let two : l ≡ write_little 2 (event_of l) ++ drop 2 l = little-exact 2 l (event_of l) (drop 2 l) hl (little_two l (omega arith)) in
    let k : 4 ≤ length (drop 2 l) = rw (length-drop 2 l) (omega arith) in
    let four : drop 2 l ≡ write_little 4 (pdu_length l) ++ drop header_bytes l =
    little-exact 4 (drop 2 l) (pdu_length l) (drop header_bytes l) (bytes_drop 2 l hl) (simp (get_or-drop, drop-drop) at (little_four (drop 2 l) k)) in
    two ∙ ap (λ (x : List ℕ). write_little 2 (event_of l) ++ x) four ∙ sym (append_assoc (write_little 2 (event_of l)) (write_little 4 (pdu_length l)) (drop header_bytes l))

-- the message of a body, whose header says how long it is, is read as its body is
pub message-whole : {A : Type 0} (f : Format A) (e : ℕ) (b : List ℕ) → header_bytes + length b ≤ most_bytes → e < 65536 → read_message e f (header e (header_bytes + length b) ++ b) ≡ whole f trailing b
unfolding read_message
message-whole f e b k he =
    let n = header_bytes + length b in
    let l = header e n ++ b in
    let long : length l ≡ n = header-long e n b in
    let g = headed-good (e ∷ []) l (omega arith) (omega arith) (one-of-first e [] _ (event-back e n b he)) (length_back e n b (omega arith) ∙ sym long) in
    rw (g, body_back e n b)

-- ---- THE ROUND TRIP, for every lawful format of a body

module _ {X : Type 0} {A : Type 0} (f : Format A) (law : Law X f) (e : ℕ) where
  -- what is written is read back
  pub message-back : (a : A) → f.Holds a → header_bytes + length (f.write a) ≤ most_bytes → e < 65536 → read_message e f (write_message e f a) ≡ got a []
  unfolding write_message
  message-back a h k he = message-whole f e (f.write a) k he ∙ whole_back f trailing law.back a h

  -- what a message that is read says: its header, and the whole of its body
  pub record Read (l : List ℕ) (a : A) (t : List ℕ) : Type 0 where
    pub head : Headed (e ∷ []) l e (drop header_bytes l)
    pub rest : whole f trailing (drop header_bytes l) ≡ got a t

  pub message-got : (l : List ℕ) (a : A) (t : List ℕ) → read_message e f l ≡ got a t → Read l a t
  unfolding read_message
  message-got l a t h = go (headed (e ∷ []) l) refl h
    where
      go : (x : Got ℕ) → headed (e ∷ []) l ≡ x → and_then x (λ x b. whole f trailing b) ≡ got a t → Read l a t
      go (bad x) w h = never x a t h
      go (got y b) w h =
          let k = headed-got (e ∷ []) l y b w in
          let z : y ≡ e = eqb-true _ _ (sym (one-of-one e y) ∙ k.takes) in
          record { head = headed-got (e ∷ []) l e (drop header_bytes l) (rw (← k.body, z) at w); rest = rw k.body h }

  -- what is read is written back to the same bytes
  pub message-exact : X → (l : List ℕ) (a : A) (t : List ℕ) → Bytes l → read_message e f l ≡ got a t → l ≡ write_message e f a
  unfolding write_message
  message-exact x l a t hl h =
      let r = message-got l a t h in
      let b : drop header_bytes l ≡ f.write a = whole-exact f trailing (law.exact x) (drop header_bytes l) a t (bytes_drop header_bytes l hl) r.rest in
      let n : length l ≡ header_bytes + length (f.write a) = omega (arith, r.head.low, length-drop header_bytes l, ap length b) in
      header-exact l hl r.head.low ∙ rw (r.head.event, r.head.long, n, b)

  -- and is written in no more bytes
  pub message-short : (l : List ℕ) (a : A) (t : List ℕ) → Bytes l → read_message e f l ≡ got a t → length (write_message e f a) ≤ length l
  unfolding write_message
  message-short l a t hl h =
      let r = message-got l a t h in
      let b = whole-short f trailing law.short (drop header_bytes l) a t (bytes_drop header_bytes l hl) r.rest in
      omega (arith, b, r.head.low, length-drop header_bytes l, header-long e (header_bytes + length (f.write a)) (f.write a))

  -- what is read can be written
  pub message-sound : (l : List ℕ) (a : A) (t : List ℕ) → Bytes l → read_message e f l ≡ got a t → f.Holds a
  message-sound l a t hl h =
      whole-sound f trailing law.sound (drop header_bytes l) a t (bytes_drop header_bytes l hl) (message-got l a t h).rest

-- ---- the five bodies

module _ {X : Type 0} where
  pub version-law : Law X version
  version-law = such-law (little 4) version_listed bad_field (little-law 4)

  pub flags-law : Law X ready_flags
  flags-law = such-law (little 4) flags_listed bad_field (little-law 4)

  -- whichever versions are taken
  pub ready-by-law : (declared : Format ℕ) → Law X declared → Law X (ready_by declared)
  unfolding ready_by
  ready-by-law declared law =
      field-law _ _ _ flags-law (λ f r h. ap (λ (x : Ready). x.flags) h.1.1) λ f.
      field-law _ _ _ law (λ v r h. ap (λ (x : Ready). x.version) h.1) λ v.
      field-law _ _ _ (little-law 2) (λ m r h. ap (λ (x : Ready). x.most) h) λ m.
      done-law _

  pub ready-law : Law X ready
  ready-law = ready-by-law version version-law

  pub nothing-law : Law X nothing
  nothing-law = done-law tt

  pub dismiss-law : Law X byte
  dismiss-law = byte-law

-- left to right
pub version-ordered : Ordered version
version-ordered = such-ordered (little 4) version_listed bad_field (little-ordered 4)

pub ready-by-ordered : (declared : Format ℕ) → Ordered declared → Ordered (ready_by declared)
unfolding ready_by
ready-by-ordered declared ordered =
    field-ordered _ _ _ (such-ordered (little 4) flags_listed bad_field (little-ordered 4)) λ f.
    field-ordered _ (λ (r : Ready). r.version) _ ordered λ v.
    field-ordered _ (λ (r : Ready). r.most) _ (little-ordered 2) λ m.
    done-ordered _

pub ready-ordered : Ordered ready
ready-ordered = ready-by-ordered version version-ordered

pub nothing-ordered : Ordered nothing
nothing-ordered = done-ordered tt

pub dismiss-ordered : Ordered byte
dismiss-ordered = byte-ordered
