-- "where one call over some records is accepted, two calls over them, cut between frames, with the same buttons and the second given the room that is
-- left, answer the same"
use Rattle.std.specs.Prelude.{ℕ, ◌+◌, ◌*◌, ◌%◌, ◌≡◌, true, List, ◌++◌, length, take, drop}
use Rattle.paper.specs.Refusals.{none}
use Rattle.house.specs.Fields.{record_bytes}
use Rattle.presses.specs.Buttons.{hit_in}
use Rattle.presses.specs.Choosing.{records_in, in_frames, Chooses}
use Rattle.presses.specs.declared.Button.{Button}
use Rattle.presses.specs.declared.Label.{Label}
use Rattle.presses.specs.declared.Chosen.{Chosen}

-- whole records, in whole frames
pub record BetweenFrames (front : List ℕ) : Type 0 where
  pub whole : length front % record_bytes ≡ 0
  pub frames : in_frames 0 (records_in front) ≡ true

-- the call x over both parts, and the calls y and z over the one and the other
pub record AnsweredInTwo (x y z : Chosen) (xs ys zs : List ℕ) : Type 0 where
  pub first : y.refusal ≡ none
  pub second : z.refusal ≡ none
  pub label : z.label ≡ x.label
  pub count : y.count + z.count ≡ x.count
  pub choices : take (2 * y.count) ys ++ zs ≡ xs

pub record CutsInTwo : Type 0 where
  pub cut : (bs : List Button) (l : Label) (front back : List ℕ) (x y z : Chosen) (before xs ys zs : List ℕ) → BetweenFrames front
      → Chooses (hit_in bs) l (front ++ back) x before xs → x.refusal ≡ none
      → Chooses (hit_in bs) l front y before ys → Chooses (hit_in bs) y.label back z (drop (2 * y.count) ys) zs
      → AnsweredInTwo x y z xs ys zs
