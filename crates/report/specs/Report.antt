-- Document 01, "A bench file": "prints per entry: number from 1, refusal, injected, ignored, cancelled, records, separated by one space".
use Rattle.std.specs.Prelude.{ℕ, zero, suc, ◌+◌, ◌≤◌, ◌≡◌, Bool, true, false, cond, List, [], ◌∷◌, ◌++◌, leb, ltb, length, get_or, drop}
use Rattle.feed.specs.Within.{entry_most}
use Rattle.feed.specs.declared.Window.{Window}
use Rattle.intake.specs.Feeding.{answer_numbers}
use Rattle.lines.specs.Page.{decimal, space, line_end, cut_word}
use Rattle.receiver.specs.Limits.{most_output}

-- the texts of a line: an answer's fifth number, encodeTime, is not printed
abbrev pub line_of : ℕ → List ℕ → List (List ℕ)
line_of number a =
    decimal number
    ∷ space ∷ decimal (get_or a 0 0)
    ∷ space ∷ decimal (get_or a 1 0)
    ∷ space ∷ decimal (get_or a 2 0)
    ∷ space ∷ decimal (get_or a 3 0)
    ∷ space ∷ decimal (get_or a 5 0)
    ∷ line_end ∷ []

-- the lines of so many answers that stand one after the other
unfoldable pub lines_of : ℕ → ℕ → List ℕ → List (List ℕ)
lines_of number zero a = []
lines_of number (suc k) a = line_of number a ++ lines_of (number + 1) k (drop answer_numbers a)

-- .. and the last line, where the input ends inside an entry
abbrev pub last_of : Window → ℕ → List (List ℕ)
last_of w number = cond (ltb w.at w.end) (decimal number ∷ cut_word ∷ []) []

-- ---- the call

-- no line is longer: six numbers of at most 20 digits, what stands between them, and the line's end
abbrev pub line_most : ℕ
line_most = 126

-- what is lent has room for any entry, for an answer, for what any message writes, and for any line
abbrev pub suffices : ℕ → ℕ → ℕ → ℕ → Bool
suffices space answers output page = cond (leb entry_most space) (cond (leb answer_numbers answers) (cond (leb most_output output) (leb line_most page) false) false) false

-- .. so that all of these are so long
pub record Enough (space answers output page : List ℕ) : Type 0 where
  pub entry : entry_most ≤ length space
  pub answer : answer_numbers ≤ length answers
  pub records : most_output ≤ length output
  pub line : line_most ≤ length page

abbrev pub PrintsBy : Bool → ℕ → List ℕ → List ℕ → List ℕ → List ℕ → List ℕ → List ℕ → List ℕ → List ℕ → Type 0
PrintsBy true r s₀ s a₀ a o₀ o p₀ p = 1 ≤ r
PrintsBy false r s₀ s a₀ a o₀ o p₀ p = (r ≡ 0) × (s ≡ s₀) × (a ≡ a₀) × (o ≡ o₀) × (p ≡ p₀)

-- THE CONTRACT of printing a file: where something lent is too small, 0, and nothing is read or touched. What is read and printed no contract can
-- say; what is put on the page is said of the calls that do.
pub record PrintsFile (r : ℕ) (s₀ s a₀ a o₀ o p₀ p : List ℕ) : Type 0 where
  pub by : PrintsBy (suffices (length s₀) (length a₀) (length o₀) (length p₀)) r s₀ s a₀ a o₀ o p₀ p
