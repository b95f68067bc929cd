-- Two answers that a contract of this crate allows are equal.
-- Assumes nothing.
use Prim.Native.Nat.{ℕ}
use mathlib.Core.Path.{◌≡◌, sym, ◌∙◌}
use mathlib.Core.Bool.{Bool}
use Rattle.framing.specs.Frame.{begun_by}
use Rattle.channel.specs.Marks.{untimed_by, judged_by}

pub is-untimed-unique : (flags : ℕ) (a b : Bool) → a ≡ untimed_by flags → b ≡ untimed_by flags → a ≡ b
is-untimed-unique flags a b e f = e ∙ sym f

pub is-judged-unique : (flags begun : ℕ) (a b : Bool) → a ≡ judged_by flags begun → b ≡ judged_by flags begun → a ≡ b
is-judged-unique flags begun a b e f = e ∙ sym f

pub begun-after-unique : (begun frames : ℕ) (a b : ℕ) → a ≡ begun_by 1 begun frames → b ≡ begun_by 1 begun frames → a ≡ b
begun-after-unique begun frames a b e f = e ∙ sym f
