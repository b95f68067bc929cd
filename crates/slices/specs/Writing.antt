-- What a call that writes answers, and what it leaves in the output that it was lent.
use Rattle.std.specs.Prelude.{ℕ, ◌≡◌, cond, List, [], ◌++◌, leb, length, drop}
use Rattle.paper.specs.Refusals.{none, no_room}
use Rattle.slices.specs.declared.Written.{Written}

-- the bytes s laid over the front of d: "fills its output .. and touches nothing past its own bytes"
abbrev pub laid : List ℕ → List ℕ → List ℕ
laid d s = s ++ drop (length s) d

-- what a call would write, given room: its bytes, or the refusal that its own checks give
pub data Draft : Type 0 where
  bytes : List ℕ → Draft
  refuse : ℕ → Draft

-- 13, the last check of every writer: the output is shorter than the bytes
unfoldable pub given : ℕ → Draft → Draft
given room (bytes s) = cond (leb (length s) room) (bytes s) (refuse no_room)
given room (refuse e) = refuse e

-- "a writer [answers] the refusal and bytes written .. a refusal answers its number with all other fields 0"
abbrev pub answered : Draft → Written
answered (bytes s) = record { refusal = none; bytes = length s }
answered (refuse e) = record { refusal = e; bytes = 0 }

-- ".. and the output stay[s] as [it was]"
abbrev pub left : List ℕ → Draft → List ℕ
left d (bytes s) = laid d s
left d (refuse e) = d

-- the bytes that are laid there: of a refusal none
abbrev pub laid_of : Draft → List ℕ
laid_of (bytes s) = s
laid_of (refuse e) = []

-- THE CONTRACT OF EVERY WRITER: of the draft d, lent an output that held `before`
pub record Writes (d : Draft) (w : Written) (before after : List ℕ) : Type 0 where
  pub answer : w ≡ answered (given (length before) d)
  pub output : after ≡ left before (given (length before) d)
