-- A run over standard input, and when what it is lent is enough for it.
use Rattle.std.specs.Prelude.{ℕ, ◌≤◌, ◌≡◌, Bool, false, cond, List, leb, length}
use Rattle.feed.specs.Within.{entry_most}
use Rattle.receiver.specs.Limits.{most_output}
use Rattle.readings.specs.Line.{line_most}

-- the space holds the longest entry, the page the longest line, and the output the records of any message
pub record Enough (space page output : List ℕ) : Type 0 where
  pub entry : entry_most ≤ length space
  pub line : line_most ≤ length page
  pub records : most_output ≤ length output

abbrev pub is_enough : List ℕ → List ℕ → List ℕ → Bool
is_enough space page output = cond (leb entry_most (length space)) (cond (leb line_most (length page)) (leb most_output (length output)) false) false

-- all three keep their lengths
pub record Keeps (s₀ s p₀ p o₀ o : List ℕ) : Type 0 where
  pub space : length s ≡ length s₀
  pub page : length p ≡ length p₀
  pub output : length o ≡ length o₀

-- THE CONTRACT of a run, whose space, page and output held s₀, p₀ and o₀: where they are not enough it answers false, and they stay as they were
pub record RunsOver (s₀ s p₀ p o₀ o : List ℕ) (r : Bool) : Type 0 where
  pub answer : r ≡ is_enough s₀ p₀ o₀
  pub refused : r ≡ false → (s ≡ s₀) × (p ≡ p₀) × (o ≡ o₀)
  pub kept : Keeps s₀ s p₀ p o₀ o
