-- What a reader's answer means: "a value with its length, or a refusal".
use Rattle.std.specs.Prelude.{ℕ, Result, Ok, Err}
use Rattle.paper.specs.Refusals.{number}
use Rattle.paper.specs.declared.Refusal.{Refusal}
use Rattle.integers.specs.Integer.{Reading, value, refused}
use Rattle.integers.specs.Shape.{Shape}

abbrev pub reading_of : {A : Type 0} → Shape A → Result (A × ℕ) Refusal → Reading
reading_of h (Ok (a, n)) = value (h.sign a) (h.size a) n
reading_of h (Err e) = refused (number e)
