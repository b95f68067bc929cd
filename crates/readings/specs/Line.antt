-- What the line of a message says behind its number: the refusal, encodeTime and records that a reading answers; and of one that it accepts whether
-- writing it back gives its bytes: ` same`; strictly ` differs`, and otherwise what length it then has, ` becomes N`.
use Rattle.std.specs.Prelude.{ℕ, ◌*◌, Bool, true, false, cond, List, [], ◌∷◌, ◌++◌, eqb, take}
use Rattle.paper.specs.Refusals.{none}
use Rattle.slices.specs.Writing.{Draft, given, answered, laid_of}
use Rattle.house.specs.Fields.{record_bytes}
use Rattle.messages.specs.Header.{most_bytes}
use Rattle.reading.specs.Plain.{ReadsBy}
use Rattle.reading.specs.declared.PlainAnswer.{PlainAnswer}
use Rattle.writing.specs.TouchDraft.{touch_draft}
use Rattle.lines.specs.Page.{decimal, space}
use Rattle.turns.specs.Turns.{TellsLine}
use Rattle.turns.specs.declared.Stand.{Stand}

-- the longest line, and what of it stands behind a number of 20 digits
abbrev pub line_most : ℕ
line_most = 113

abbrev pub rest_most : ℕ
rest_most = 93

-- ---- what was read

abbrev pub read_text : PlainAnswer → List (List ℕ)
read_text a = space ∷ decimal a.refusal ∷ space ∷ decimal a.time.0 ∷ space ∷ decimal a.records ∷ []

-- ---- what writing it back gives

-- of the time that was read and of the records that were left in the output
abbrev pub back_draft : PlainAnswer → List ℕ → Draft
back_draft a output = given most_bytes (touch_draft a.time (take (record_bytes * a.records) output))

unfoldable pub same_as : List ℕ → List ℕ → Bool
same_as [] [] = true
same_as [] (y ∷ m) = false
same_as (x ∷ l) [] = false
same_as (x ∷ l) (y ∷ m) = cond (eqb x y) (same_as l m) false

-- " same", " differs", " becomes"
abbrev pub same_word : List ℕ
same_word = 32 ∷ 115 ∷ 97 ∷ 109 ∷ 101 ∷ []

abbrev pub differs_word : List ℕ
differs_word = 32 ∷ 100 ∷ 105 ∷ 102 ∷ 102 ∷ 101 ∷ 114 ∷ 115 ∷ []

abbrev pub becomes_word : List ℕ
becomes_word = 32 ∷ 98 ∷ 101 ∷ 99 ∷ 111 ∷ 109 ∷ 101 ∷ 115 ∷ []

abbrev pub outcome_text : Bool → Bool → ℕ → List (List ℕ)
outcome_text strictly same n = cond same (same_word ∷ []) (cond strictly (differs_word ∷ []) (becomes_word ∷ space ∷ decimal n ∷ []))

-- a message that was refused is not written back
unfoldable pub back_text : Bool → List ℕ → PlainAnswer → List ℕ → List (List ℕ)
back_text strictly message a output =
    let d : Draft = back_draft a output in
    cond (eqb a.refusal none) (outcome_text strictly (same_as message (laid_of d)) (answered d).bytes) []

-- ---- the line

-- THE CONTRACT of the rest of a message's line: the page held p₀ and the output o₀
pub record Tells (strictly : Bool) (message : List ℕ) (b : Stand) (p₀ p o₀ o : List ℕ) (r : Stand) : Type 0 where
  pub answer : PlainAnswer
  pub read : ReadsBy strictly message answer o₀ o
  pub line : TellsLine (read_text answer ++ back_text strictly message answer o) b p₀ p r
