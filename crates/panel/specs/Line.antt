-- What the line of an entry says behind its number: what the panel answered, and the message that it wrote; or ` bad`.
use Rattle.std.specs.Prelude.{ℕ, cond, List, [], ◌∷◌}
use Rattle.commands.specs.declared.Obeyed.{Obeyed}
use Rattle.lines.specs.Page.{written_text}

-- the longest line, and what of it stands behind a number of 20 digits
abbrev pub line_most : ℕ
line_most = 8256

abbrev pub rest_most : ℕ
rest_most = 8236

-- " bad"
abbrev pub bad_word : List ℕ
bad_word = 32 ∷ 98 ∷ 97 ∷ 100 ∷ []

-- of an entry that was carried out, and of the output after it
unfoldable pub said_of : Obeyed → List ℕ → List (List ℕ)
said_of obeyed output = cond obeyed.known (written_text obeyed.written output) (bad_word ∷ [])
