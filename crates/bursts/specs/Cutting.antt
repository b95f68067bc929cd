-- A batch cut between two entries is two batches, over nothing but calls.
use Rattle.std.specs.Prelude.{ℕ, ◌+◌, ◌*◌, ◌≡◌, true, List, ◌++◌, take, drop}
use Rattle.paper.specs.Refusals.{none}
use Rattle.house.specs.Fields.{record_bytes}
use Rattle.receiver.specs.declared.Receiver.{Receiver}
use Rattle.intake.specs.Feeding.{answer_numbers}
use Rattle.bursts.specs.declared.Batch.{Batch}
use Rattle.bursts.specs.Batch.{complete, ReceivesAll}

-- a call, by value or in place: its buffer, the list of answers and the output that it was lent, the receiver and the answer that it gave, and
-- the list and the output that it left
pub record BatchCall : Type 0 where
  pub buffer : List ℕ
  pub places : List ℕ
  pub before : List ℕ
  pub receiver : Receiver
  pub batch : Batch
  pub answers : List ℕ
  pub after : List ℕ

-- with the receiver r, the contract allows it
abbrev pub AllowedAll : Receiver → BatchCall → Type 0
AllowedAll r c = ReceivesAll r c.buffer c.receiver c.batch c.places c.answers c.before c.after

-- what it wrote stands at the front of what it left ..
unfoldable pub answers_of : BatchCall → List ℕ
answers_of c = take (answer_numbers * c.batch.entries) c.answers

unfoldable pub records_of : BatchCall → List ℕ
records_of c = take (record_bytes * c.batch.records) c.after

-- .. and the rest can be lent on
unfoldable pub places_left : BatchCall → List ℕ
places_left c = drop (answer_numbers * c.batch.entries) c.answers

unfoldable pub output_left : BatchCall → List ℕ
output_left c = drop (record_bytes * c.batch.records) c.after

-- the buffer of the call b is cut between two entries: c is given the first part, and d the second, with the receiver, the places and the output
-- that c left
pub record InTwo (r : Receiver) (b c d : BatchCall) : Type 0 where
  pub one : AllowedAll r b
  pub first : AllowedAll r c
  pub second : AllowedAll c.receiver d
  pub buffer : b.buffer ≡ c.buffer ++ d.buffer
  pub between : complete c.buffer ≡ true
  pub first_places : c.places ≡ b.places
  pub first_output : c.before ≡ b.before
  pub second_places : d.places ≡ places_left c
  pub second_output : d.before ≡ output_left c

-- the two come to the same as the one
pub record SameInTwo (b c d : BatchCall) : Type 0 where
  pub receiver : d.receiver ≡ b.receiver
  pub entries : c.batch.entries + d.batch.entries ≡ b.batch.entries
  pub records : c.batch.records + d.batch.records ≡ b.batch.records
  pub answers : answers_of c ++ d.answers ≡ b.answers
  pub output : records_of c ++ d.after ≡ b.after

-- the one is accepted where both of the two are
pub record AsTwo (b c d : BatchCall) : Type 0 where
  pub accepted : b.batch.refusal ≡ none → (c.batch.refusal ≡ none) × (d.batch.refusal ≡ none)
  pub joined : c.batch.refusal ≡ none → d.batch.refusal ≡ none → b.batch.refusal ≡ none
  pub same : b.batch.refusal ≡ none → SameInTwo b c d
