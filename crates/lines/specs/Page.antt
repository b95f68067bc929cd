-- Text that is added at a place of a page.
use Rattle.std.specs.Prelude.{ℕ, zero, suc, ◌+◌, ◌/◌, ◌%◌, ◌≤◌, ◌≡◌, Bool, cond, List, [], ◌∷◌, ◌++◌, eqb, leb, ltb, length, take, drop}
use Rattle.slices.specs.Writing.{laid}
use Rattle.slices.specs.declared.Written.{Written}
use Rattle.io.specs.Digits.{hex_digit_ascii}

-- ---- texts, one after the other

-- a page, and the place where it goes on
pub record Placed : Type 0 where
  pub at : ℕ
  pub page : List ℕ

-- there is room for s
abbrev pub fits : List ℕ → Placed → Bool
fits s p = leb (p.at + length s) (length p.page)

-- where there is room, s stands at the place and the next place is behind it; otherwise both stay as they were
unfoldable pub add_to : List ℕ → Placed → Placed
add_to s p = cond (fits s p) (record { at = p.at + length s; page = take p.at p.page ++ laid (drop p.at p.page) s }) p

unfoldable pub add_all : List (List ℕ) → Placed → Placed
add_all [] p = p
add_all (s ∷ ss) p = add_all ss (add_to s p)

-- all of them, one behind the other
abbrev pub text_of : List (List ℕ) → List ℕ
text_of [] = []
text_of (s ∷ ss) = s ++ text_of ss

-- THE CONTRACT of every call that adds text
pub record Added (ss : List (List ℕ)) (at next : ℕ) (before after : List ℕ) : Type 0 where
  pub all : record { at = next; page = after } ≡ add_all ss (record { at = at; page = before })
  -- what a caller needs: the page keeps its length, and a place within it stays so
  pub long : length after ≡ length before
  pub inside : at ≤ length before → next ≤ length before

-- ---- texts that are printed, page by page

-- the place to go on from where so many bytes are needed: this one, or the beginning of a page that was printed up to it
unfoldable pub turned_to : ℕ → ℕ → List ℕ → ℕ
turned_to need at page = cond (leb (at + need) (length page)) at 0

-- THE CONTRACT of every call that adds a text whole, and prints the page before it where it has to: nothing is lost. What was printed, and what
-- stands on the page now, is what stood there with the text behind it.
pub record Prints (text : List ℕ) (at next : ℕ) (before after : List ℕ) : Type 0 where
  pub printed : List ℕ
  pub all : printed ++ take next after ≡ take at before ++ text
  pub inside : next ≤ length after
  pub long : length after ≡ length before

-- ---- what is added

-- the digits of a number that has at most one more than so many
unfoldable pub decimal_from : ℕ → ℕ → List ℕ
decimal_from zero n = hex_digit_ascii n ∷ []
decimal_from (suc k) n = cond (ltb n 10) (hex_digit_ascii n ∷ []) (decimal_from k (n / 10) ++ (hex_digit_ascii (n % 10) ∷ []))

-- a number below 2^64 in decimal, most significant digit first and with no zero before it: at most 20 digits
abbrev pub decimal : ℕ → List ℕ
decimal n = decimal_from 19 n

-- a byte in hexadecimal
abbrev pub hex_of : ℕ → List ℕ
hex_of b = hex_digit_ascii (b / 16) ∷ hex_digit_ascii (b % 16) ∷ []

-- bytes in hexadecimal, one after the other
unfoldable pub hexes : List ℕ → List (List ℕ)
hexes [] = []
hexes (b ∷ bs) = hex_of b ∷ hexes bs

-- what stands between two numbers, and at the end of a line
abbrev pub space : List ℕ
space = 32 ∷ []

abbrev pub line_end : List ℕ
line_end = 10 ∷ []

-- " cut" and the end of the line
abbrev pub cut_word : List ℕ
cut_word = 32 ∷ 99 ∷ 117 ∷ 116 ∷ 10 ∷ []

-- the first n bytes in hexadecimal after a space, where n are there; no space for none
unfoldable pub front_text : ℕ → List ℕ → List (List ℕ)
front_text n bytes = cond (eqb n 0) [] (cond (leb n (length bytes)) (space ∷ hexes (take n bytes)) [])

-- a writer's answer in numbers, and then what it wrote, which stands at the front of its output
abbrev pub written_text : Written → List ℕ → List (List ℕ)
written_text w output = space ∷ decimal w.refusal ∷ space ∷ decimal w.bytes ∷ front_text w.bytes output
