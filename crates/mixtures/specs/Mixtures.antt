-- DEMAND 3 over any mixture of batches and single calls: it is a history.
use Rattle.std.specs.Prelude.{ℕ, ◌<◌, ◌≡◌, cond, List, [], ◌∷◌, ◌++◌, map, eqb}
use Rattle.paper.specs.Refusals.{none}
use Rattle.digits.specs.Digits.{Bytes}
use Rattle.states.specs.Table.{out}
use Rattle.machine.specs.Table.{Table, contacts, state_at, place_at, origin}
use Rattle.stream.specs.Path.{at}
use Rattle.stream.specs.Asked.{All}
use Rattle.receiver.specs.Receive.{fresh, Receives}
use Rattle.receiver.specs.History.{table_of, rested, records_in, path}
use Rattle.receiver.specs.declared.Receiver.{Receiver}
use Rattle.intake.specs.Feeding.{numbers_of}
use Rattle.bursts.specs.Batch.{messages_in}
use Rattle.bursts.specs.Cutting.{BatchCall, AllowedAll, answers_of, records_of}
use Rattle.demands.specs.Histories.{Call, Calls, History, last, records_left, all_left, NothingUntilAnOpeningFrame, AsRestedFromAnOpeningFrame, AtRest}
use Rattle.mixtures.specs.Singly.{all_answers}

-- ---- calls of either kind

pub data Either : Type 0 where
  single : Call → Either
  batch : BatchCall → Either

-- with the receiver r, the contract allows it
abbrev pub Allowed : Receiver → Either → Type 0
Allowed r (single c) = Receives r c.message c.before c.receiver c.answer c.after
Allowed r (batch b) = AllowedAll r b

abbrev pub receiver_of : Either → Receiver
receiver_of (single c) = c.receiver
receiver_of (batch b) = b.receiver

-- the messages that it fed: a batch that is refused feeds none
abbrev pub messages_of_either : Either → List (List ℕ)
messages_of_either (single c) = c.message ∷ []
messages_of_either (batch b) = cond (eqb b.batch.refusal none) (messages_in b.buffer) []

-- their answers, and the records that they wrote
abbrev pub answers_of_either : Either → List ℕ
answers_of_either (single c) = numbers_of c.answer
answers_of_either (batch b) = answers_of b

abbrev pub records_of_either : Either → List ℕ
records_of_either (single c) = records_left c
records_of_either (batch b) = records_of b

-- ---- one after the other, the first of them with the receiver r

unfoldable pub Mixed : Receiver → List Either → Type 0
Mixed r [] = Unit
Mixed r (e ∷ es) = Allowed r e × Mixed (receiver_of e) es

unfoldable pub last_of : Receiver → List Either → Receiver
last_of r [] = r
last_of r (e ∷ es) = last_of (receiver_of e) es

unfoldable pub messages_fed : List Either → List (List ℕ)
messages_fed [] = []
messages_fed (e ∷ es) = messages_of_either e ++ messages_fed es

unfoldable pub answers_given : List Either → List ℕ
answers_given [] = []
answers_given (e ∷ es) = answers_of_either e ++ answers_given es

unfoldable pub records_written : List Either → List ℕ
records_written [] = []
records_written (e ∷ es) = records_of_either e ++ records_written es

-- single calls h that come to the same, message by message
pub record SameAs (r : Receiver) (es : List Either) (h : List Call) : Type 0 where
  pub calls : Calls r h
  pub messages : map (λ (c : Call). c.message) h ≡ messages_fed es
  pub receiver : last r h ≡ last_of r es
  pub answers : all_answers h ≡ answers_given es
  pub records : all_left h ≡ records_written es

-- there are such calls
pub record InSingleCalls (r : Receiver) (es : List Either) : Type 0 where
  pub calls : List Call
  pub same : SameAs r es calls

-- ---- THE DEMAND

-- a fresh receiver's mixture, whose messages are lists of bytes
pub record Mixture (es : List Either) : Type 0 where
  pub calls : Mixed fresh es
  pub bytes : All Bytes (messages_fed es)

-- "For each contact, the records written are a legal path through the three states, starting out of range."
abbrev pub LegalPathIn : List Either → ℕ → Type 0
LegalPathIn es id = let t : Table = table_of (last_of fresh es) in path id (records_in (records_written es)) out origin ≡ at (state_at t id) (place_at t id)

-- a history of single calls that comes to the same
pub record AsHistory (es : List Either) : Type 0 where
  pub calls : List Call
  pub history : History calls
  pub same : SameAs fresh es calls

-- A mixture is a history: from a fresh receiver, and what follows from any receiver on. So what demand 3 says of the calls of a history it says of
-- the messages of a mixture, one by one; and after a mixture all is as after a history.
pub record EveryMixture : Type 0 where
  pub following : (r : Receiver) (es : List Either) → Mixed r es → InSingleCalls r es
  pub history : (es : List Either) → Mixture es → AsHistory es
  pub legal : (es : List Either) → Mixture es → (id : ℕ) → id < contacts → LegalPathIn es id
  pub silent : (es : List Either) → Mixture es → NothingUntilAnOpeningFrame (last_of fresh es)
  pub as_rested : (es : List Either) → Mixture es → AsRestedFromAnOpeningFrame (last_of fresh es)
  pub rest : (es : List Either) → Mixture es → AtRest (last_of fresh es) → last_of fresh es ≡ rested (last_of fresh es).settings
