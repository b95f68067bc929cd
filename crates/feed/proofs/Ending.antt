-- An entry is said to be cut only where the input ends.
-- Assumes nothing.
use Rattle.std.specs.Prelude.{Option, Some, None}
use Prim.Native.Nat.{ℕ, ◌≤◌, ◌<◌}
use mathlib.Core.Path.{◌≡◌, refl, sym, ap, ◌∙◌}
use mathlib.Core.Bool.{Bool, true, false}
use mathlib.Core.List.{List}
use native.Mathlib.Nat.{sub-zero}
use native.Mathlib.Omega.{arith}
use borrow.Author.Tests.{leb-true, leb-false}
use lib.Dec.{leb}
use lib.ListN.{length}
use lib.Seq.{take_all}
use Rattle.digits.specs.Digits.{Bytes}
use Rattle.entries.specs.Entries.{length_at, front_of}
use Rattle.entries.proofs.Laws.{whole-front}
use Rattle.feed.specs.declared.Window.{Window}
use Rattle.feed.specs.Within.{entry_most, Inside, bytes_in, FillsBy, Fills}
use Rattle.feed.proofs.Moving.{is-inside}

never : {A : Type 0} {n : ℕ} → Some n ≡ None → A
never e = absurd (let z : ◌≡◌ {A = ℕ} 0 1 = cc in omega arith)

-- so many bytes have a whole entry at their front
long-whole : (l : List ℕ) → Bytes l → entry_most ≤ length l → front_of l ≡ Some (length_at l)
long-whole l b h = whole-front l (omega (arith, b 0, b 1, h))

-- in a space for the longest entry none is whole at the front of a window that was filled only where the space is not full: all that could be read was read
pub no-entry-only-at-the-end : (w r : Window) (before after : List ℕ) → entry_most ≤ length before → Bytes after → Inside (length before) w → Fills w r before after
    → front_of (bytes_in r after) ≡ None → r.end < length after
no-entry-only-at-the-end w r before after h b i f e = go (front_of (bytes_in w before)) refl (rw (is-inside (length before) w i) at f.by)
  where
    full : r.at ≡ 0 → length after ≤ r.end → bytes_in r after ≡ after
    full z k = rw (z, sub-zero) (take_all r.end after k)

    go : (x : Option ℕ) → front_of (bytes_in w before) ≡ x → FillsBy true (front_of (bytes_in w before)) w r before after → r.end < length after
    go (Some n) p y =
        let q = rw p at y in
        never (sym p ∙ (sym (λ j. front_of (bytes_in (q.0 j) (q.1 j))) ∙ e))
    go None p y =
        let q = rw p at y in
        last (leb (length after) r.end) refl q.begins
      where
        last : (c : Bool) → leb (length after) r.end ≡ c → r.at ≡ 0 → r.end < length after
        last true k z = never (sym (long-whole after b (omega (arith, h, f.long))) ∙ (sym (ap front_of (full z (leb-true _ _ k))) ∙ e))
        last false k z = leb-false _ _ k
