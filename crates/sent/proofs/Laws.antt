-- An entry is printed whole where the page holds the longest.
-- Assumes nothing.
use Prim.Native.Nat.{ℕ, ◌/◌, ◌%◌, ◌≤◌}
use mathlib.Core.Path.{◌≡◌, subst}
use mathlib.Core.List.{List, [], ◌∷◌, append-nil}
use native.Mathlib.Omega.{arith}
use lib.ListN.{length, take, length-append}
use lib.Seq.{length-take-le}
use borrow.Author.Tests.{eq-eqb, ne_eqb}
use Rattle.messages.specs.Header.{most_bytes}
use Rattle.lines.specs.Page.{Added, turned_to, Prints}
use Rattle.lines.proofs.Printing.{prints-none, turned-adds}
use Rattle.sent.specs.Entry.{written_most, entry_of}

pub none_told : (n : ℕ) (output : List ℕ) (place : ℕ) (page : List ℕ) → n ≡ 0 → place ≤ length page → Prints (entry_of n output) place place page page
unfolding entry_of
none_told n output place page z h = rw (eq-eqb n 0 z) (prints-none place page h)

pub entry-told : (n : ℕ) (output : List ℕ) (place at next : ℕ) (before after : List ℕ) → (n ≡ 0 → ⊥) → n ≤ length output → n ≤ most_bytes → place ≤ length before → written_most ≤ length before
    → at ≡ turned_to written_most place before → Added ((n / 256 % 256 ∷ []) ∷ (n % 256 ∷ []) ∷ take n output ∷ []) at next before after
    → Prints (entry_of n output) place next before after
unfolding entry_of
entry-told n output place at next before after z h m p l t a =
    let k = length-append (take n output) [] in
    let e = append-nil (take n output) in
    let x = turned-adds ((n / 256 % 256 ∷ []) ∷ (n % 256 ∷ []) ∷ take n output ∷ []) written_most place at next before after t p l (omega (arith, k, length-take-le n output h)) a in
    rw (ne_eqb n 0 z) (subst (λ (s : List ℕ). Prints s place next before after) (λ i. n / 256 % 256 ∷ n % 256 ∷ e i) x)
