-- What it is to be a batch: the last entry is complete, and there is a place for each answer.
-- Assumes nothing.
use Prim.Native.Nat.{ℕ, ◌/◌, ◌≤◌}
use mathlib.Core.Path.{◌≡◌, refl, sym, ◌∙◌}
use mathlib.Core.Bool.{Bool, true, false, cond}
use mathlib.Core.List.{List}
use native.Mathlib.Omega.{arith}
use borrow.Author.Tests.{leb-true, le-leb, eq-eqb, ne_eqb}
use lib.Dec.{leb}
use lib.ListN.{length}
use Rattle.intake.specs.Feeding.{entry_bytes, answer_numbers}
use Rattle.bursts.specs.Batch.{messages_in, complete, batched}

pub not-both : (b : Bool) → b ≡ true → b ≡ false → ⊥
not-both b t f = let e : true ≡ false = sym t ∙ f in let z : ◌≡◌ {A = ℕ} 0 1 = cc in omega arith

-- the two rules of a batch
pub record Batched (l : List ℕ) (numbers : ℕ) : Type 0 where
  pub ends : complete l ≡ true
  pub places : length (messages_in l) ≤ numbers / answer_numbers

pub batched-both : (l : List ℕ) (numbers : ℕ) → batched l numbers ≡ true → Batched l numbers
unfolding batched
batched-both l numbers h = go (complete l) refl h
  where
    go : (b : Bool) → complete l ≡ b → cond b (leb (length (messages_in l)) (numbers / answer_numbers)) false ≡ true → Batched l numbers
    go true e w = record { ends = e; places = leb-true _ _ w }
    go false e w = absurd (not-both false w refl)

-- the code judges one after the other
pub batched-not : (l : List ℕ) (numbers : ℕ) → (entry_bytes (messages_in l) ≡ length l → ⊥) → batched l numbers ≡ false
unfolding batched complete
batched-not l numbers h = rw (ne_eqb _ _ h)

pub batched-if : (l : List ℕ) (numbers : ℕ) → entry_bytes (messages_in l) ≡ length l → batched l numbers ≡ leb (length (messages_in l)) (numbers / answer_numbers)
unfolding batched complete
batched-if l numbers h = rw (eq-eqb _ _ h)

pub batched-is : (l : List ℕ) (numbers : ℕ) → Batched l numbers → batched l numbers ≡ true
unfolding batched
batched-is l numbers b = rw b.ends (le-leb _ _ b.places)
