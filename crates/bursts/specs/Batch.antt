-- Document 02, #102: "Take a buffer of bench-file entries and feed all to one receiver, with an answer per entry in a lent list."
use Rattle.std.specs.Prelude.{ℕ, zero, suc, ◌+◌, ◌-◌, ◌/◌, ◌≡◌, Bool, true, false, cond, List, [], ◌∷◌, eqb, leb, length, take, drop, Option, Some, None}
use Rattle.paper.specs.Refusals.{none, bad_batch}
use Rattle.entries.specs.Entries.{front_of}
use Rattle.receiver.specs.History.{Sent, next, wrote}
use Rattle.receiver.specs.declared.Receiver.{Receiver}
use Rattle.intake.specs.Feeding.{entry_bytes, answer_numbers, Feeds}
use Rattle.bursts.specs.declared.Batch.{Batch}

-- ---- "a buffer of bench-file entries"

abbrev pub with_message : Option ℕ → (ℕ → List (List ℕ)) → List (List ℕ)
with_message (Some n) more = more n
with_message None more = []

-- the messages of the whole entries at its front, so many at most
unfoldable pub messages_at : ℕ → List ℕ → List (List ℕ)
messages_at zero l = []
messages_at (suc k) l = with_message (front_of l) λ n. take n (drop 2 l) ∷ messages_at k (drop (n + 2) l)

-- .. and all of them: there are no more entries than bytes
abbrev pub messages_in : List ℕ → List (List ℕ)
messages_in l = messages_at (length l) l

-- the last entry is complete: the whole entries are all that there is
unfoldable pub complete : List ℕ → Bool
complete l = eqb (entry_bytes (messages_in l)) (length l)

-- "18 BadBatch, before anything is fed, if the last entry is incomplete or the answer list is too short"
unfoldable pub batched : List ℕ → ℕ → Bool
batched l numbers = cond (complete l) (leb (length (messages_in l)) (numbers / answer_numbers)) false

-- ---- "The result equals feeding them singly, each given the output that is left."

unfoldable pub singly : Receiver → List (List ℕ) → ℕ → List Sent
singly r [] room = []
singly r (m ∷ ms) room = let x : Sent = record { message = m; room = room } in x ∷ singly (next r x) ms (room - length (wrote r x))

-- ---- the call

-- the entries of the buffer were fed: what is answered, and what the list of answers, which held a₀, and the output, which held o₀, hold then
pub record FeedsAll (r : Receiver) (buffer : List ℕ) (q : Receiver) (b : Batch) (a₀ a o₀ o : List ℕ) : Type 0 where
  pub refusal : b.refusal ≡ none
  pub fed : Feeds r (singly r (messages_in buffer) (length o₀)) (record { receiver = q; entries = b.entries; used = length buffer; records = b.records }) a₀ a o₀ o

-- nothing was fed
pub record FeedsNone (r q : Receiver) (b : Batch) (a₀ a o₀ o : List ℕ) : Type 0 where
  pub batch : b ≡ record { refusal = bad_batch; entries = 0; records = 0 }
  pub receiver : q ≡ r
  pub answers : a ≡ a₀
  pub output : o ≡ o₀

-- THE CONTRACT
pub record ReceivesAll (r : Receiver) (buffer : List ℕ) (q : Receiver) (b : Batch) (a₀ a o₀ o : List ℕ) : Type 0 where
  pub fed : batched buffer (length a₀) ≡ true → FeedsAll r buffer q b a₀ a o₀ o
  pub refused : batched buffer (length a₀) ≡ false → FeedsNone r q b a₀ a o₀ o
