-- A run ends only where its input does.
-- Assumes nothing.
use Rattle.std.specs.Prelude.{Option, Some, None}
use Prim.Native.Nat.{ℕ, suc, ◌-◌, ◌/◌, ◌≤◌, ◌<◌}
use mathlib.Core.Path.{◌≡◌, refl, sym, ap, ◌∙◌}
use mathlib.Core.List.{List}
use native.Mathlib.Omega.{arith}
use borrow.Author.Tests.{le-leb}
use lib.ListN.{length}
use Rattle.digits.specs.Digits.{Bytes}
use Rattle.entries.specs.Entries.{front_of}
use Rattle.feed.specs.Within.{entry_most, Inside, bytes_in}
use Rattle.feed.proofs.Ending.{no-entry-only-at-the-end}
use Rattle.intake.specs.Feeding.{answer_numbers, fed_from}
use Rattle.receiver.specs.Limits.{most_output}
use Rattle.receiver.specs.declared.Receiver.{Receiver}
use Rattle.rounds.specs.Rounds.{GoesOn}
use Rattle.rounds.specs.declared.Round.{Round}

-- where there is room for what any message writes, nothing is fed only where no entry is whole
fed-none : (k : ℕ) (r : Receiver) (file : List ℕ) (room : ℕ) → most_output ≤ room → length (fed_from most_output (suc k) r file room) ≡ 0 → front_of file ≡ None
unfolding fed_from
fed-none k r file room h e = go (front_of file) refl
  where
    go : (x : Option ℕ) → front_of file ≡ x → front_of file ≡ None
    go (Some n) p = let z = rw (le-leb _ _ h, p) at e in absurd (omega (arith, z))
    go None p = p

-- a list that has a place for an answer has a first one
fed-first : (least n : ℕ) (r : Receiver) (file : List ℕ) (room : ℕ) → answer_numbers ≤ n → fed_from least (n / answer_numbers) r file room ≡ fed_from least (suc (n / answer_numbers - 1)) r file room
fed-first least n r file room h = let e : n / answer_numbers ≡ suc (n / answer_numbers - 1) = omega (arith, h) in ap (λ (k : ℕ). fed_from least k r file room) e

-- a round in which nothing is fed, where there is room for all that it may need, has read all that could be read
pub a-run-ends-only-where-its-input-does : (b r : Round) (s₀ s a₀ a o₀ o : List ℕ) (x : GoesOn b r s₀ s a₀ a o₀ o) → entry_most ≤ length s₀ → answer_numbers ≤ length a₀ → most_output ≤ length o₀ → Bytes s
    → Inside (length s₀) b.window → r.entries ≡ 0 → (front_of (bytes_in x.filled s) ≡ None) × (x.filled.end < length s)
a-run-ends-only-where-its-input-does b r s₀ s a₀ a o₀ o x h k l y i e =
    let file = bytes_in x.filled s in
    let n : length (fed_from most_output (length a₀ / answer_numbers) b.receiver file (length o₀)) ≡ 0 = sym x.fed.fed.entries ∙ e in
    let p = fed-none (length a₀ / answer_numbers - 1) b.receiver file (length o₀) l (ap length (sym (fed-first most_output (length a₀) b.receiver file (length o₀) k)) ∙ n) in
    (p, no-entry-only-at-the-end b.window x.filled s₀ s h y i x.fills p)
