-- What decoding answers.
use Rattle.std.specs.Prelude.{ℕ, Result, Ok, Err}
use Rattle.integers.specs.Integer.{Reading, value, refused}
use Rattle.paper.specs.Refusals.{number}
use Rattle.paper.specs.declared.Refusal.{Refusal}

-- of a minus zero the sign is still minus
abbrev pub found_of : Result (ℕ × ℕ × ℕ) Refusal → Reading
found_of (Ok (s, m, n)) = value s m n
found_of (Err e) = refused (number e)
