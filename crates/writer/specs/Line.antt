-- What the line of an entry says behind its number: what the touch writer answers of the time and the records in the entry, and the bytes of its
-- message; or ` short`.
use Rattle.std.specs.Prelude.{ℕ, cond, List, [], ◌∷◌, leb, length, get_or, drop}
use Rattle.paper.specs.declared.Milliseconds.{Milliseconds}
use Rattle.digits.specs.Digits.{joined}
use Rattle.slices.specs.Writing.{Draft, given, answered, laid_of}
use Rattle.messages.specs.Header.{most_bytes}
use Rattle.writing.specs.TouchDraft.{touch_draft}
use Rattle.lines.specs.Page.{written_text}

-- the longest line, and what of it stands behind a number of 20 digits
abbrev pub line_most : ℕ
line_most = 8256

abbrev pub rest_most : ℕ
rest_most = 8236

-- ---- the entry

-- four bytes, most significant first
abbrev pub entry_time : List ℕ → Milliseconds
entry_time l = record { 0 = joined 0 (get_or l 0 0 ∷ get_or l 1 0 ∷ get_or l 2 0 ∷ get_or l 3 0 ∷ []) }

-- what the writer gives of the rest, lent room for the longest message
abbrev pub draft_in : List ℕ → Draft
draft_in l = given most_bytes (touch_draft (entry_time l) (drop 4 l))

-- ---- the texts

abbrev pub draft_text : Draft → List (List ℕ)
draft_text d = written_text (answered d) (laid_of d)

-- " short"
abbrev pub short_word : List ℕ
short_word = 32 ∷ 115 ∷ 104 ∷ 111 ∷ 114 ∷ 116 ∷ []

-- fewer than four bytes have no time
unfoldable pub said_of : List ℕ → List (List ℕ)
said_of l = cond (leb 4 (length l)) (draft_text (draft_in l)) (short_word ∷ [])
