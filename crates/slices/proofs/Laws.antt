-- The contract of every writer: what it says where there is room and where there is not, and that it leaves no choice.
-- Assumes nothing.
use Prim.Native.Nat.{ℕ, ◌≤◌, ◌<◌}
use mathlib.Core.Path.{◌≡◌, refl, sym, ap, ◌∙◌}
use mathlib.Core.Bool.{Bool, true, false, cond}
use mathlib.Core.List.{List}
use native.Mathlib.Omega.{arith}
use lib.Dec.{leb}
use lib.ListN.{length, take, drop}
use lib.Seq.{take_at}
use borrow.Author.Tests.{le-leb, lt-leb, leb-true}
use Rattle.paper.specs.Refusals.{none, no_room}
use Rattle.slices.specs.Writing.{laid, Draft, bytes, refuse, given, answered, left, laid_of, Writes}
use Rattle.slices.specs.declared.Written.{Written}

-- room enough: the bytes are written
pub given-room : (s : List ℕ) (room : ℕ) → length s ≤ room → given room (bytes s) ≡ bytes s
unfolding given
given-room s room h = rw (le-leb _ _ h)

-- too little: 13
pub given-none : (s : List ℕ) (room : ℕ) → room < length s → given room (bytes s) ≡ refuse no_room
unfolding given
given-none s room h = rw (lt-leb _ _ h)

-- a refusal is what it was
pub given-refuse : (e room : ℕ) → given room (refuse e) ≡ refuse e
unfolding given
given-refuse e room = refl

-- no more bytes than the room are answered
pub given-few : (room : ℕ) (d : Draft) → (answered (given room d)).bytes ≤ room
unfolding given
given-few room (bytes s) = go (leb (length s) room) refl
  where
    go : (b : Bool) → leb (length s) room ≡ b → (answered (cond b (bytes s) (refuse no_room))).bytes ≤ room
    go true e = leb-true _ _ e
    go false e = omega arith
given-few room (refuse e) = omega arith

-- what was written stands at the front of the output
pub front-left : (d : Draft) (before : List ℕ) → take (answered d).bytes (left before d) ≡ laid_of d
front-left (bytes s) before = take_at s (drop (length s) before) (length s) refl
front-left (refuse e) before = refl

-- the three ways of meeting the contract
pub writes_bytes : (s : List ℕ) (w : Written) (before after : List ℕ) → length s ≤ length before
    → w ≡ record { refusal = none; bytes = length s } → after ≡ laid before s → Writes (bytes s) w before after
writes_bytes s w b a h ew ea =
    record { answer = rw (given-room s (length b) h) ew; output = rw (given-room s (length b) h) ea }

pub writes-none : (s : List ℕ) (w : Written) (before after : List ℕ) → length before < length s
    → w ≡ record { refusal = no_room; bytes = 0 } → after ≡ before → Writes (bytes s) w before after
writes-none s w b a h ew ea =
    record { answer = rw (given-none s (length b) h) ew; output = rw (given-none s (length b) h) ea }

pub writes-refuse : (e : ℕ) (w : Written) (before after : List ℕ)
    → w ≡ record { refusal = e; bytes = 0 } → after ≡ before → Writes (refuse e) w before after
writes-refuse e w b a ew ea =
    record { answer = rw (given-refuse e (length b)) ew; output = rw (given-refuse e (length b)) ea }

-- what a caller that lent room enough learns
pub record Done (s : List ℕ) (w : Written) (before after : List ℕ) : Type 0 where
  pub answer : w ≡ record { refusal = none; bytes = length s }
  pub count : w.bytes ≡ length s
  pub output : after ≡ laid before s

pub writes-done : (s : List ℕ) (w : Written) (before after : List ℕ) → Writes (bytes s) w before after → length s ≤ length before → Done s w before after
writes-done s w b a h r =
    let e : w ≡ record { refusal = none; bytes = length s } = h.answer ∙ ap answered (given-room s (length b) r) in
    record { answer = e; count = ap (λ (x : Written). x.bytes) e; output = h.output ∙ ap (left b) (given-room s (length b) r) }

-- two outcomes that the contract allows are equal, in the answer and in the output
pub writes-unique : (d : Draft) (v w : Written) (before after after' : List ℕ) → Writes d v before after → Writes d w before after' → (v ≡ w) × (after ≡ after')
writes-unique d v w b a a' h k = (h.answer ∙ sym k.answer, h.output ∙ sym k.output)
