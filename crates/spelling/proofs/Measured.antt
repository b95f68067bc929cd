-- How many bytes the parts of a message take: the sum of their fields', of which no integer takes more than eight.
-- Assumes nothing.
use Prim.Native.Nat.{ℕ, ◌+◌, ◌≤◌}
use mathlib.Core.Path.{◌≡◌}
use mathlib.Core.Bool.{Bool, true, false, cond}
use mathlib.Core.List.{List, [], append-nil}
use native.Mathlib.Omega.{arith}
use lib.IntN.{ℤ, nat_abs}
use lib.ListN.{length, length-append}
use Rattle.integers.specs.Shape.{minus}
use Rattle.integers.proofs.Laws.{writing-most}
use Rattle.fields.specs.Integers.{taken}
use Rattle.house.specs.declared.Contact.{Contact}
use Rattle.house.specs.declared.Head.{Head}
use Rattle.house.specs.declared.Point.{Point}
use Rattle.house.specs.declared.Record.{Record}
use Rattle.house.specs.declared.Sides.{Sides}
use Rattle.well_formed.specs.WellFormed.{has}
use Rattle.framing.specs.Format.{frame_head_format, body_head_format}
use Rattle.framing.specs.declared.BodyHead.{BodyHead}
use Rattle.touch.specs.Touch.{point, sides, optional, optional_of, contact, frame_head, touch_head}
use Rattle.spelling.specs.Spelling.{spelling}

-- s is of n bytes, and n is no more than most
pub record Sized (s : List ℕ) (n most : ℕ) : Type 0 where
  pub sum : length s ≡ n
  pub bound : n ≤ most

-- ---- integers

pub u2-most : (n : ℕ) → length (taken.u2.write n) ≤ 8
u2-most n = writing-most 1 0 0 n

pub s2-most : (z : ℤ) → length (taken.s2.write z) ≤ 8
s2-most z = writing-most 1 1 (minus z) (nat_abs z)

pub u4-most : (n : ℕ) → length (taken.u4.write n) ≤ 8
u4-most n = writing-most 2 0 0 n

pub s4-most : (z : ℤ) → length (taken.s4.write z) ≤ 8
s4-most z = writing-most 2 1 (minus z) (nat_abs z)

pub u8-most : (n : ℕ) → length (taken.u8.write n) ≤ 8
u8-most n = writing-most 3 0 0 n

-- ---- a contact

pub point-sized : (p : Point) → Sized ((point taken).write p) (length (taken.s4.write p.x) + length (taken.s4.write p.y)) 16
unfolding point
point-sized p = record { sum = simp (append-nil, length-append); bound = omega (arith, s4-most p.x, s4-most p.y) }

pub sides-sized : (s : Sides)
    → Sized ((sides taken).write s) (length (taken.s2.write s.left) + length (taken.s2.write s.top) + length (taken.s2.write s.right) + length (taken.s2.write s.bottom)) 32
unfolding sides
sides-sized s =
    record {
      sum = simp (append-nil, length-append) (omega arith);
      bound = omega (arith, s2-most s.left, s2-most s.top, s2-most s.right, s2-most s.bottom);
    }

-- a part that may be absent
there-most : (c : Bool) (s : List ℕ) (n : ℕ) → length s ≤ n → length (cond c s []) ≤ n
there-most true s n h = h
there-most false s n h = omega arith

pub sides-most : (c : Bool) (s : Sides) → length (cond c ((sides taken).write s) []) ≤ 32
sides-most c s = there-most c _ 32 (omega (arith, (sides-sized s).sum, (sides-sized s).bound))

pub number-most : (c : Bool) (n : ℕ) → length (cond c (taken.u4.write n) []) ≤ 8
number-most c n = there-most c _ 8 (u4-most n)

pub optional-sized : (c : Contact) → let p = c.present in
    Sized ((optional taken p).write (optional_of c))
    (length (cond (has 1 p) ((sides taken).write c.sides) []) + length (cond (has 2 p) (taken.u4.write c.orientation) []) + length (cond (has 4 p) (taken.u4.write c.pressure) [])) 48
unfolding optional
optional-sized c =
    let p = c.present in
    record {
      sum = simp (append-nil, length-append) (omega arith);
      bound = omega (arith, sides-most (has 1 p) c.sides, number-most (has 2 p) c.orientation, number-most (has 4 p) c.pressure);
    }

pub contact-sized : (c : Contact)
    → Sized ((contact taken).write c)
    (1 + length (taken.u2.write c.present) + (length ((point taken).write c.place) + length (taken.u4.write c.flags)) + length ((optional taken c.present).write (optional_of c))) 81
unfolding contact
contact-sized c =
    let p = point-sized c.place in
    let o = optional-sized c in
    record {
      sum = simp (append-nil, length-append) (omega arith);
      bound = omega (arith, u2-most c.present, p.sum, p.bound, u4-most c.flags, o.sum, o.bound);
    }

-- ---- records

pub head-sized : (h : Head) → Sized ((frame_head taken false).write h) (length (taken.u2.write h.count) + length (taken.u8.write h.offset.0)) 16
unfolding frame_head_format
head-sized h = record { sum = simp (append-nil, length-append); bound = omega (arith, u2-most h.count, u8-most h.offset.0) }

pub spelling-most : (r : Record) → length (spelling r) ≤ 81
spelling-most (Record.Head h) = omega (arith, (head-sized h).sum, (head-sized h).bound)
spelling-most (Record.Contact k c) = omega (arith, (contact-sized c).sum, (contact-sized c).bound)
spelling-most (Record.Refused e) = omega arith

-- ---- what stands before the frames

pub touch-head-sized : (h : BodyHead) → Sized ((touch_head taken).write h) (length (taken.u4.write h.time.0) + length (taken.u2.write h.frames)) 16
unfolding body_head_format
touch-head-sized h = record { sum = simp (append-nil, length-append); bound = omega (arith, u4-most h.time.0, u2-most h.frames) }
