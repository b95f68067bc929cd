-- The loop that counts a buffer's entries keeps: those counted and those still to come are all of them, and so are their bytes.
-- Assumes nothing.
use Rattle.std.specs.Prelude.{Option, Some, None}
use Prim.Native.Nat.{ℕ, ◌+◌, ◌-◌, ◌≤◌}
use mathlib.Core.Path.{◌≡◌, sym, ap, ◌∙◌}
use mathlib.Core.List.{List, []}
use native.Mathlib.Omega.{arith}
use borrow.Rule.Slice.PartMut.{mid_of}
use lib.ListN.{length, drop, length-drop}
use lib.Seq.{drop-drop}
use Rattle.slices.proofs.Tails.{tail-is}
use Rattle.entries.specs.Entries.{front_of}
use Rattle.entries.proofs.Laws.{front-inside}
use Rattle.intake.specs.Feeding.{entry_bytes}
use Rattle.bursts.specs.Batch.{messages_in}
use Rattle.bursts.proofs.Entries.{messages-end, messages-empty, behind}

-- k entries of n bytes are counted
pub record Counts (l : List ℕ) (k n : ℕ) : Type 0 where
  pub inside : n ≤ length l
  pub few : k ≤ n
  pub entries : k + length (messages_in (drop n l)) ≡ length (messages_in l)
  pub bytes : n + entry_bytes (messages_in (drop n l)) ≡ entry_bytes (messages_in l)

pub counts-first : (l : List ℕ) → Counts l 0 0
counts-first l = record { inside = omega arith; few = omega arith; entries = omega arith; bytes = omega arith }

module _ (l : List ℕ) (k n : ℕ) (c : Counts l k n) where
  -- nothing is to come
  ended : messages_in (drop n l) ≡ [] → (k ≡ length (messages_in l)) × (n ≡ entry_bytes (messages_in l))
  unfolding entry_bytes
  ended e = (omega (arith, c.entries, ap length e), omega (arith, c.bytes, ap entry_bytes e))

  pub counts-last : length l ≤ n → (k ≡ length (messages_in l)) × (n ≡ entry_bytes (messages_in l))
  counts-last h = ended (messages-empty (drop n l) (omega (arith, h, length-drop n l)))

  at_rest : (f : Option ℕ) → front_of (mid_of n (length l - n) l) ≡ f → front_of (drop n l) ≡ f
  at_rest f e = ap front_of (sym (tail-is l n)) ∙ e

  pub counts-stop : front_of (mid_of n (length l - n) l) ≡ None → (k ≡ length (messages_in l)) × (n ≡ entry_bytes (messages_in l))
  counts-stop e = ended (messages-end (drop n l) (at_rest None e))

  -- an entry at the front, of a message of m bytes
  module _ (m : ℕ) (e : front_of (mid_of n (length l - n) l) ≡ Some m) where
    pub found_inside : n + 2 + m ≤ length l
    found_inside = omega (arith, c.inside, front-inside (drop n l) m (at_rest (Some m) e), length-drop n l)

    pub counts-next : Counts l (k + 1) (n + 2 + m)
    counts-next =
        let b = behind (drop n l) m (at_rest (Some m) e) in
        let z : n + (m + 2) ≡ n + 2 + m = omega arith in
        let d : drop (m + 2) (drop n l) ≡ drop (n + 2 + m) l = drop-drop (m + 2) n l ∙ ap (λ (j : ℕ). drop j l) z in
        record {
          inside = found_inside;
          few = omega (arith, c.few);
          entries = omega (arith, c.entries, b.entries, ap (λ (t : List ℕ). length (messages_in t)) d);
          bytes = omega (arith, c.bytes, b.bytes, ap (λ (t : List ℕ). entry_bytes (messages_in t)) d);
        }
