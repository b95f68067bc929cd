-- What is said of a batch: what it came to, and below that a line for each entry that was fed, with the records that it wrote.
use Rattle.std.specs.Prelude.{ℕ, ◌*◌, cond, List, [], ◌∷◌, ◌++◌, leb, length, get_or}
use Rattle.house.specs.Fields.{record_bytes}
use Rattle.intake.specs.Feeding.{answer_numbers}
use Rattle.bursts.specs.declared.Batch.{Batch}
use Rattle.lines.specs.Page.{decimal, space, line_end, front_text}

-- behind the batch's number
abbrev pub batch_text : Batch → List (List ℕ)
batch_text b = space ∷ decimal b.refusal ∷ space ∷ decimal b.entries ∷ space ∷ decimal b.records ∷ []

-- the end of the line before, the batch's number, a dot, and the entry's number in the batch
abbrev pub name_text : ℕ → ℕ → List (List ℕ)
name_text number k = line_end ∷ decimal number ∷ (46 ∷ []) ∷ decimal k ∷ []

-- the six numbers of an answer
abbrev pub numbers_text : List ℕ → List (List ℕ)
numbers_text a =
    space ∷ decimal (get_or a 0 0)
    ∷ space ∷ decimal (get_or a 1 0)
    ∷ space ∷ decimal (get_or a 2 0)
    ∷ space ∷ decimal (get_or a 3 0)
    ∷ space ∷ decimal (get_or a 4 0)
    ∷ space ∷ decimal (get_or a 5 0) ∷ []

-- an entry's line but for its end: `output` begins with what the entry wrote. Nothing is said where there is no whole answer.
unfoldable pub answer_text : ℕ → ℕ → List ℕ → List ℕ → List (List ℕ)
answer_text number k a output = cond (leb answer_numbers (length a)) (name_text number k ++ (numbers_text a ++ front_text (record_bytes * get_or a 5 0) output)) []
