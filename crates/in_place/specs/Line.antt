-- The line of an entry: its number, the refusal, the records, and what was left in the receiver, the three marks and how many contacts are active.
use Rattle.std.specs.Prelude.{ℕ, ◌≤◌, List, [], ◌∷◌, length}
use Rattle.receiver.specs.declared.Answer.{Answer}
use Rattle.receiver.specs.declared.Marks.{Marks}
use Rattle.lines.specs.Page.{decimal, space, line_end, cut_word}

-- the longest line
abbrev pub line_most : ℕ
line_most = 147

abbrev pub left_text : Marks → ℕ → List (List ℕ)
left_text m active = space ∷ decimal m.ready ∷ space ∷ decimal m.begun ∷ space ∷ decimal m.ignoring ∷ space ∷ decimal active ∷ line_end ∷ []

abbrev pub line_of : ℕ → Answer → Marks → ℕ → List (List ℕ)
line_of number a m active = decimal number ∷ space ∷ decimal a.refusal ∷ space ∷ decimal a.records ∷ left_text m active

-- of an entry that is cut
abbrev pub cut_line : ℕ → List (List ℕ)
cut_line number = decimal number ∷ cut_word ∷ []

-- a place of a page that holds the longest line
pub record Stands (place : ℕ) (page : List ℕ) : Type 0 where
  pub inside : place ≤ length page
  pub line : line_most ≤ length page
