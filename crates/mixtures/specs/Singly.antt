-- Document 02, #102: "The result equals feeding them singly, each given the output that is left", over calls of both kinds.
use Rattle.std.specs.Prelude.{ℕ, ◌*◌, ◌≡◌, List, [], ◌∷◌, ◌++◌, map, length, drop}
use Rattle.paper.specs.Refusals.{none}
use Rattle.slices.specs.Writing.{laid}
use Rattle.house.specs.Fields.{record_bytes}
use Rattle.receiver.specs.declared.Receiver.{Receiver}
use Rattle.intake.specs.Feeding.{numbers_of}
use Rattle.bursts.specs.Batch.{messages_in}
use Rattle.bursts.specs.Cutting.{BatchCall, AllowedAll}
use Rattle.demands.specs.Histories.{Call, Calls, last, all_left}

-- single calls, of which the first is lent an output, and each further one what the one before it left
unfoldable pub HandedOn : List ℕ → List Call → Type 0
HandedOn output [] = Unit
HandedOn output (c ∷ cs) = (c.before ≡ output) × HandedOn (drop (record_bytes * c.answer.records) c.after) cs

-- their answers as numbers
unfoldable pub all_answers : List Call → List ℕ
all_answers [] = []
all_answers (c ∷ cs) = numbers_of c.answer ++ all_answers cs

-- the batch b with the receiver r, accepted, and its messages in single calls
pub record EntriesOf (r : Receiver) (b : BatchCall) (cs : List Call) : Type 0 where
  pub batch : AllowedAll r b
  pub accepted : b.batch.refusal ≡ none
  pub calls : Calls r cs
  pub handed_on : HandedOn b.before cs
  pub messages : map (λ (c : Call). c.message) cs ≡ messages_in b.buffer

-- they come to the same
pub record SameSingly (r : Receiver) (b : BatchCall) (cs : List Call) : Type 0 where
  pub receiver : b.receiver ≡ last r cs
  pub entries : b.batch.entries ≡ length cs
  pub records : record_bytes * b.batch.records ≡ length (all_left cs)
  pub answers : b.answers ≡ laid b.places (all_answers cs)
  pub output : b.after ≡ laid b.before (all_left cs)
