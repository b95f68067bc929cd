-- The turns of a run over entries that prints a line for each. What is read and printed no contract can say; by what was read all else is decided.
use Rattle.std.specs.Prelude.{ℕ, ◌+◌, ◌≡◌, cond, List, [], ◌∷◌, ◌++◌, ltb}
use Rattle.feed.specs.Within.{HandsOut}
use Rattle.feed.specs.declared.Next.{Next}
use Rattle.lines.specs.Page.{Placed, add_to, add_all, text_of, turned_to, Prints, decimal, line_end, cut_word}
use Rattle.turns.specs.declared.Stand.{Stand}
use Rattle.turns.specs.declared.Turn.{Turn}

abbrev pub begun : Stand
begun = record { window = record { at = 0; end = 0 }; at = 0; number = 1 }

-- the number after a number of 64 bits; the last has none
abbrev pub following : ℕ → ℕ
following n = cond (ltb n 18446744073709551615) (n + 1) n

-- ---- the next entry

-- where its line begins: lines have at most so many bytes, and the page is turned over for one that has no room
abbrev pub begun_at : Stand → ℕ → List ℕ → Placed
begun_at b most page = record { at = turned_to most b.at page; page = page }

-- its number is on the page
abbrev pub numbered : Stand → ℕ → List ℕ → Placed
numbered b most page = add_to (decimal b.number) (begun_at b most page)

abbrev pub turn_of : Stand → ℕ → Next → List ℕ → Turn
turn_of b most (Next.Entry from n rest) page = Turn.Entry from (from + n) (record { window = rest; at = (numbered b most page).at; number = b.number })
turn_of b most Next.Cut page = Turn.Over
turn_of b most Next.End page = Turn.Over

-- the number of an entry, and a last line where one is cut
abbrev pub page_of : Stand → ℕ → Next → List ℕ → List ℕ
page_of b most (Next.Entry from n rest) page = (numbered b most page).page
page_of b most Next.Cut page = (add_all (decimal b.number ∷ cut_word ∷ []) (begun_at b most page)).page
page_of b most Next.End page = page

-- THE CONTRACT of a turn: the space held s₀ and holds s, the page p₀ and p
pub record Turns (b : Stand) (most : ℕ) (s₀ s p₀ p : List ℕ) (r : Turn) : Type 0 where
  pub next : Next
  pub read : HandsOut b.window next s₀ s
  pub turn : r ≡ turn_of b most next p₀
  pub page : p ≡ page_of b most next p₀

-- ---- the end of its line

-- THE CONTRACT of ending a line at a place: the run goes on behind it, with the next number
pub record EndsLine (b : Stand) (place : ℕ) (before after : List ℕ) (r : Stand) : Type 0 where
  pub stand : r ≡ record { window = b.window; at = (add_to line_end (record { at = place; page = before })).at; number = following b.number }
  pub page : after ≡ (add_to line_end (record { at = place; page = before })).page

-- THE CONTRACT of the rest of a line, which is said behind its number: these texts and the line's end stand there whole, and the run goes on with the next number
pub record TellsLine (ss : List (List ℕ)) (b : Stand) (before after : List ℕ) (r : Stand) : Type 0 where
  pub line : Prints (text_of ss ++ line_end) b.at r.at before after
  pub window : r.window ≡ b.window
  pub number : r.number ≡ following b.number
