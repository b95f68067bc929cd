-- What both ends of the channel keep as numbers, and what they judge by them: whether the first frame's offset is to be 0.
use Rattle.std.specs.Prelude.{ℕ, ◌/◌, ◌%◌, Bool, true, false, cond, eqb}

-- a mark is off where its number is 0
abbrev pub off : ℕ → Bool
off n = eqb n 0

abbrev pub mark : Bool → ℕ
mark true = 1
mark false = 0

-- "With ready flag 2 set, 11 is not applied, and the receiver answers encodeTime 0 and writes offset 0 (000, 2.2.3.2)."
abbrev pub untimed_by : ℕ → Bool
untimed_by flags = eqb (flags / 2 % 2) 1

-- "11 is judged on a message's first frame as long as no touch message with a frame has been accepted since ready."
abbrev pub judged_by : ℕ → ℕ → Bool
judged_by flags begun = cond (untimed_by flags) false (off begun)
