-- A batch is refused with 18 and nothing else, and then nothing is fed: the receiver, the list of answers and the output are as they were.
-- Assumes nothing.
use Prim.Native.Nat.{ℕ}
use mathlib.Core.Path.{◌≡◌, refl, ap}
use mathlib.Core.Bool.{Bool, true, false}
use mathlib.Core.List.{List}
use native.Mathlib.Omega.{arith}
use lib.ListN.{length}
use Rattle.paper.specs.Refusals.{none}
use Rattle.receiver.specs.declared.Receiver.{Receiver}
use Rattle.bursts.specs.declared.Batch.{Batch}
use Rattle.bursts.specs.Batch.{batched, FeedsAll, FeedsNone, ReceivesAll}

module _ (r : Receiver) (buffer : List ℕ) (q : Receiver) (b : Batch) (a₀ a o₀ o : List ℕ) (x : ReceivesAll r buffer q b a₀ a o₀ o) where
  -- all entries were fed, or none
  pub by-contract : {P : Type 0} → (batched buffer (length a₀) ≡ true → FeedsAll r buffer q b a₀ a o₀ o → P) → (FeedsNone r q b a₀ a o₀ o → P) → P
  by-contract {P} all nothing = go (batched buffer (length a₀)) refl
    where
      go : (w : Bool) → batched buffer (length a₀) ≡ w → P
      go true e = all e (x.fed e)
      go false e = nothing (x.refused e)

  -- "18 BadBatch, before anything is fed"
  pub a-batch's-refusal-is-18-and-changes-nothing : (b.refusal ≡ none → ⊥) → FeedsNone r q b a₀ a o₀ o
  a-batch's-refusal-is-18-and-changes-nothing h = by-contract (λ _ f. absurd (h f.refusal)) (λ n. n)

  -- and what is not refused is a batch
  pub accepted-batch : b.refusal ≡ none → batched buffer (length a₀) ≡ true
  accepted-batch h = by-contract (λ e _. e) (λ n. absurd (omega (arith, h, ap (λ (c : Batch). c.refusal) n.batch)))
