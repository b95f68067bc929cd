-- Two outcomes that a contract of this crate allows are equal, in the answer and in the output.
-- Assumes nothing.
use Prim.Native.Nat.{ℕ}
use mathlib.Core.Path.{◌≡◌, sym, ◌∙◌}
use mathlib.Core.List.{List}
use lib.ListN.{length}
use Rattle.slices.specs.Writing.{Writes}
use Rattle.slices.specs.declared.Written.{Written}
use Rattle.slices.proofs.Laws.{writes-unique}
use Rattle.integers.specs.Integer.{writing, draft}

-- ---- writers, all five

pub write-unique : (k g s m : ℕ) (v w : Written) (before after after' : List ℕ) → Writes (draft k g s m) v before after → Writes (draft k g s m) w before after' → (v ≡ w) × (after ≡ after')
write-unique k g s m = writes-unique (draft k g s m)

-- ---- lengths, all five

pub bytes-unique : (k g s m n n' : ℕ) → n ≡ length (writing k g s m) → n' ≡ length (writing k g s m) → n ≡ n'
bytes-unique k g s m n n' e e' = e ∙ sym e'
