-- What code that reads a format answers: a value and the bytes behind it, or a refusal.
use Rattle.std.specs.Prelude.{List, [], ℕ, ◌+◌, length, Result, Ok, Err}
use Rattle.std.specs.Borrow.{Bor}
use Rattle.paper.specs.Refusals.{number}
use Rattle.paper.specs.declared.Refusal.{Refusal}
use Rattle.formats.specs.Format.{Got, got, bad, Format}

-- what such an answer finds
abbrev pub read_of : {A : Type 0} → Result (A × Bor (List ℕ)) Refusal → Got A
read_of (Ok (a, t)) = got a t.now
read_of (Err e) = bad (number e)

-- .. of code that leaves nothing behind
abbrev pub whole_of : {A : Type 0} → Result A Refusal → Got A
whole_of (Ok a) = got a []
whole_of (Err e) = bad (number e)

-- .. and of code that hands on what is behind a value, without the value
abbrev pub left_of : Result (Bor (List ℕ)) Refusal → Got (Unit {0})
left_of (Ok t) = got tt t.now
left_of (Err e) = bad (number e)

-- where a slice ends: its block, and how far into that
abbrev pub end_of : Bor (List ℕ) → ℕ × ℕ
end_of t = (t.ref_ptr.0, t.ref_ptr.1 + length t.now)

-- where the slice ends that such an answer hands on, and of a refusal, which hands on none, the one that was lent. A reader hands on the end of
-- what it was lent, so that this is where that ends
abbrev pub tail_end : {A : Type 0} → Bor (List ℕ) → Result (A × Bor (List ℕ)) Refusal → ℕ × ℕ
tail_end l (Ok (a, t)) = end_of t
tail_end l (Err e) = end_of l

-- .. and of one without a value
abbrev pub left_end : Bor (List ℕ) → Result (Bor (List ℕ)) Refusal → ℕ × ℕ
left_end l (Ok t) = end_of t
left_end l (Err e) = end_of l

-- what is left behind a value, without the value
abbrev pub skipped : {A : Type 0} → Got A → Got (Unit {0})
skipped (got a t) = got tt t
skipped (bad e) = bad e

-- .. as a format
abbrev pub skip : {A : Type 0} → Format A → Format (Unit {0})
skip f = record { read = λ l. skipped (f.read l); write = λ u. []; Holds = λ u. ⊥ }

-- the refusal of a reading, 0 where there is none
abbrev pub refusal_of : {A : Type 0} → Got A → ℕ
refusal_of (got a t) = 0
refusal_of (bad e) = e
