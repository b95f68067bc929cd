-- Parts that are written one behind the other, into an output with room for all of them.
-- Assumes nothing.
use Prim.Native.Nat.{ℕ, ◌+◌, ◌-◌, ◌≤◌, ◌<◌}
use mathlib.Core.Path.{◌≡◌, refl, sym, ap, ◌∙◌}
use mathlib.Core.List.{List, [], ◌++◌}
use native.Mathlib.Omega.{arith}
use lib.ListN.{length, length-append, length-take, length-drop}
use borrow.Rule.Slice.PartMut.{mid_of, put_mid}
use Rattle.slices.specs.Writing.{laid, Writes}
use Rattle.slices.specs.declared.Written.{Written}
use Rattle.slices.proofs.Laws.{writes-done}
use Rattle.slices.proofs.Tails.{laid_at, laid_none, wrote}
use Rattle.integers.specs.Integer.{writing, draft, limit}
use Rattle.integers.proofs.Laws.{draft-bytes}
use Rattle.message_writers.specs.Put.{Put}
use Rattle.message_writers.proofs.Writing.{put_next, Room, room}

-- an integer that is in range
pub put-integer : (k g s m : ℕ) (w : Written) (before after : List ℕ) → m < limit k g → length (writing k g s m) ≤ length before → Writes (draft k g s m) w before after
    → Put (writing k g s m) w.bytes before after
put-integer k g s m w b a h r e =
    let d = writes-done (writing k g s m) w b a (rw (draft-bytes k g s m h) at e) r in
    record { count = d.count; output = d.output }

-- nothing
pub put-none : (d : List ℕ) → Put [] 0 d d
put-none d = record { count = refl; output = refl }

-- s and then t are u, for which d has room
pub record Parted (s t u d : List ℕ) : Type 0 where
  pub same : s ++ t ≡ u
  pub room : length u ≤ length d

-- TWO PARTS, THE SECOND THROUGH THE TAIL THAT THE FIRST LEFT
module _ {s t u d : List ℕ} (f : Parted s t u d) where
  long : length s + length t ≡ length u
  long = sym (length-append s t) ∙ ap length f.same

  pub first-room : length s ≤ length d
  first-room = omega (arith, long, f.room)

  module _ {d₁ : List ℕ} {n : ℕ} (p : Put s n d d₁) where
    -- where the second begins, and its room
    pub next-room : Room d₁ n (length t)
    next-room = room d d₁ s n (length t) p (omega (arith, long, f.room))

    module _ {l : List ℕ} {k : ℕ} (q : Put t k (mid_of n (length d₁ - n) d₁) l) where
      pub both-inside : n + k ≤ length d
      both-inside = omega (arith, p.count, q.count, long, f.room)

      pub put_both : Put u (n + k) d (put_mid n (length d₁ - n) d₁ l)
      put_both = rw (← f.same) (put_next d d₁ l s t n k p q (rw f.same f.room))

-- ---- a loop that writes part after part

-- of the whole, rest is still to be written, from at on
pub record Partly (whole rest d₀ d : List ℕ) (at : ℕ) : Type 0 where
  pub count : at + length rest ≡ length whole
  pub room : length whole ≤ length d
  pub long : length d ≡ length d₀
  pub same : laid_at d at rest ≡ laid d₀ whole

-- all is written
pub partly-all : {whole d₀ d : List ℕ} {at : ℕ} → Partly whole [] d₀ d at → Put whole at d₀ d
partly-all {whole} {d₀} {d} {at} p = record { count = omega (arith, p.count); output = sym (laid_none d at) ∙ p.same }

module _ (s rest : List ℕ) {whole d₀ d : List ℕ} {at : ℕ} (p : Partly whole (s ++ rest) d₀ d at) where
  inside : at + length (s ++ rest) ≤ length d
  inside = omega (arith, p.count, p.room)

  -- where the next part begins, and its room
  pub partly-room : Room d at (length s)
  partly-room =
      let a = length-append s rest in
      record { start = omega (arith, inside); next = simp (length-take, length-drop) (omega (arith, inside, a)) }

  -- one part more
  pub partly_more : {l : List ℕ} {n : ℕ} → Put s n (mid_of at (length d - at) d) l → Partly whole rest d₀ (put_mid at (length d - at) d l) (at + n)
  partly_more {l} {n} q =
      let w = wrote d at n l s rest q.output q.count inside in
      record {
        count = omega (arith, p.count, q.count, length-append s rest);
        room = omega (arith, w.long, p.room);
        long = w.long ∙ p.long;
        same = w.same ∙ p.same;
      }
