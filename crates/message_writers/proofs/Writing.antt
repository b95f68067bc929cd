-- Writers that follow each other, each through the tail that the one before it left.
-- Assumes nothing.
use Prim.Native.Nat.{ℕ, ◌+◌, ◌-◌, ◌≤◌, ◌<◌}
use mathlib.Core.Path.{◌≡◌, refl, sym, ap, ◌∙◌}
use mathlib.Core.Bool.{true, false}
use mathlib.Core.List.{List, ◌++◌, append-nil}
use native.Mathlib.Omega.{arith}
use lib.ListN.{length, take, drop, length-append, length-take, length-drop}
use borrow.Rule.Slice.PartMut.{mid_of, put_mid}
use Rattle.paper.specs.Refusals.{none, no_room, bad_field}
use Rattle.slices.specs.Writing.{bytes, refuse, Writes}
use Rattle.slices.specs.declared.Written.{Written}
use Rattle.slices.proofs.Laws.{writes_bytes, writes-none}
use Rattle.slices.proofs.Tails.{wrote-second}
use Rattle.formats.specs.Format.{Format, write_little}
use Rattle.messages.specs.Header.{header_bytes, header, write_message, server_ready, client_ready, suspend, resume}
use Rattle.messages.specs.Bodies.{version, version_listed, flags_listed, ready, server_ready_draft, client_ready_draft, suspend_draft, resume_draft}
use Rattle.messages.specs.declared.Ready.{Ready}
use Rattle.message_writers.specs.Put.{Put}

-- ONE BEHIND THE OTHER: a write, and then one through the tail that is lent from where it ended
pub put_next : (d d₁ l s t : List ℕ) (n k : ℕ) → Put s n d d₁ → Put t k (mid_of n (length d₁ - n) d₁) l → length (s ++ t) ≤ length d → Put (s ++ t) (n + k) d (put_mid n (length d₁ - n) d₁ l)
put_next d d₁ l s t n k p q h =
    record {
      count = rw (p.count, q.count) (sym (length-append s t));
      output = wrote-second d d₁ l s t n (sym p.count) p.output q.output h;
    }

-- the next writer's place, and its room
pub record Room (d : List ℕ) (n m : ℕ) : Type 0 where
  pub start : n ≤ length d
  pub next : m ≤ length (take (length d - n) (drop n d))

pub room : (d d₁ s : List ℕ) (n m : ℕ) → Put s n d d₁ → length s + m ≤ length d → Room d₁ n m
room d d₁ s n m p h =
    let l : length d₁ ≡ length s + (length d - length s) = ap length p.output ∙ (simp (length-append, length-drop)) in
    let c = p.count in
    record { start = omega arith; next = simp (length-take, length-drop) (omega arith) }

-- ---- a message is its header and then its body

module _ {A : Type 0} (e : ℕ) (f : Format A) (a : A) where
  pub message-long : length (write_message e f a) ≡ header_bytes + length (f.write a)
  unfolding write_message write_little
  message-long = omega arith

  pub message-writes : (d d₁ l : List ℕ) (n k : ℕ) (w : Written) → Put (header e (header_bytes + length (f.write a))) n d d₁ → Put (f.write a) k (mid_of n (length d₁ - n) d₁) l
      → header_bytes + length (f.write a) ≤ length d → w ≡ record { refusal = none; bytes = n + k } → Writes (bytes (write_message e f a)) w d (put_mid n (length d₁ - n) d₁ l)
  unfolding write_message
  message-writes d d₁ l n k w p q h ew =
      let long : length (write_message e f a) ≤ length d = omega (arith, message-long) in
      let both = put_next d d₁ l (header e (header_bytes + length (f.write a))) (f.write a) n k p q long in
      writes_bytes (write_message e f a) w d (put_mid n (length d₁ - n) d₁ l) long (rw both.count at ew) both.output

  pub message-none : (d : List ℕ) (w : Written) → length d < header_bytes + length (f.write a) → w ≡ record { refusal = no_room; bytes = 0 } → Writes (bytes (write_message e f a)) w d d
  message-none d w h ew = writes-none (write_message e f a) w d d (omega (arith, message-long)) ew refl

-- ---- what is to be written

pub server-draft : (v : ℕ) → version_listed v ≡ true → server_ready_draft v ≡ bytes (write_message server_ready version v)
unfolding server_ready_draft
server-draft v h = rw h

pub server-refused : (v : ℕ) → version_listed v ≡ false → server_ready_draft v ≡ refuse bad_field
unfolding server_ready_draft
server-refused v h = rw h

pub client-draft : (r : Ready) → flags_listed r.flags ≡ true → version_listed r.version ≡ true → client_ready_draft r ≡ bytes (write_message client_ready ready r)
unfolding client_ready_draft
client-draft r f v = rw (f, v)

pub client-flags : (r : Ready) → flags_listed r.flags ≡ false → client_ready_draft r ≡ refuse bad_field
unfolding client_ready_draft
client-flags r f = rw f

pub client-version : (r : Ready) → flags_listed r.flags ≡ true → version_listed r.version ≡ false → client_ready_draft r ≡ refuse bad_field
unfolding client_ready_draft
client-version r f v = rw (f, v)

-- a message with no body is its header
pub suspend-draft : suspend_draft ≡ bytes (header suspend header_bytes)
unfolding suspend_draft write_message
suspend-draft = ap bytes (append-nil (header suspend header_bytes))

pub resume-draft : resume_draft ≡ bytes (header resume header_bytes)
unfolding resume_draft write_message
resume-draft = ap bytes (append-nil (header resume header_bytes))
