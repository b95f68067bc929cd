-- Document 01, "A bench file": which entries of a file are fed to a receiver, as a history, and what the call for them answers and leaves.
use Rattle.std.specs.Prelude.{ℕ, zero, suc, ◌+◌, ◌-◌, ◌*◌, ◌/◌, ◌≤◌, ◌≡◌, cond, List, [], ◌∷◌, ◌++◌, leb, length, take, drop, Option, Some, None}
use Rattle.slices.specs.Writing.{laid}
use Rattle.entries.specs.Entries.{front_of}
use Rattle.house.specs.Fields.{record_bytes}
use Rattle.machine.specs.Machine.{Arrays}
use Rattle.receiver.specs.Receive.{of_parts}
use Rattle.receiver.specs.History.{Sent, messages_of, next, answer_to, wrote, after, written}
use Rattle.receiver.specs.declared.Receiver.{Receiver}
use Rattle.receiver.specs.declared.Answer.{Answer}
use Rattle.intake.specs.declared.Fed.{Fed}
use Rattle.intake.specs.declared.FedParts.{FedParts}

-- ---- the entries that are fed

-- what is taken next where so much output is left: the entry at the front of the file, and nothing with less than `least` left
abbrev pub next_in : ℕ → List ℕ → ℕ → Option ℕ
next_in least file room = cond (leb least room) (front_of file) None

-- the message of n bytes at the front of the file, lent the output that is left
abbrev pub sent_from : ℕ → List ℕ → ℕ → Sent
sent_from n file room = record { message = take n (drop 2 file); room = room }

abbrev pub with_entry : Option ℕ → (ℕ → List Sent) → List Sent
with_entry (Some n) more = more n
with_entry None more = []

-- the entries at the front of a file, so many at most, each with the output that the ones before it left
unfoldable pub fed_from : ℕ → ℕ → Receiver → List ℕ → ℕ → List Sent
fed_from least zero r file room = []
fed_from least (suc k) r file room =
    with_entry (next_in least file room) λ n.
    let x : Sent = sent_from n file room in
    x ∷ fed_from least k (next r x) (drop (n + 2) file) (room - length (wrote r x))

-- ---- what is answered of them

-- the bytes of messages in a file: two of length, and the message
unfoldable pub entry_bytes : List (List ℕ) → ℕ
entry_bytes [] = 0
entry_bytes (m ∷ ms) = 2 + length m + entry_bytes ms

-- how many numbers an answer has
abbrev pub answer_numbers : ℕ
answer_numbers = 6

-- "The answer holds the refusal (0 for none), frames injected, ignored and cancelled, encodeTime, and records written."
abbrev pub numbers_of : Answer → List ℕ
numbers_of a = a.refusal ∷ a.injected ∷ a.ignored ∷ a.cancelled ∷ a.time.0 ∷ a.records ∷ []

-- the answers of a history, one after the other
unfoldable pub answers_to : Receiver → List Sent → List ℕ
answers_to r [] = []
answers_to r (x ∷ h) = numbers_of (answer_to r x) ++ answers_to (next r x) h

-- ---- the call

-- the history h was fed to the receiver r: what is answered, and what the list of answers, which held a₀, and the output, which held o₀, hold then
pub record Feeds (r : Receiver) (h : List Sent) (f : Fed) (a₀ a o₀ o : List ℕ) : Type 0 where
  pub receiver : f.receiver ≡ after r h
  pub entries : f.entries ≡ length h
  pub used : f.used ≡ entry_bytes (messages_of h)
  pub records : record_bytes * f.records ≡ length (written r h)
  pub answers : a ≡ laid a₀ (answers_to r h)
  pub output : o ≡ laid o₀ (written r h)

-- THE CONTRACT of the loop: the history is the one that the file gives, with a place for each answer. What a caller needs beside it, and
-- what follows from it: all lies within what was lent.
pub record TakesEntries (least : ℕ) (r : Receiver) (file : List ℕ) (f : Fed) (a₀ a o₀ o : List ℕ) : Type 0 where
  pub fed : Feeds r (fed_from least (length a₀ / answer_numbers) r file (length o₀)) f a₀ a o₀ o
  pub used : f.used ≤ length file
  pub places : answer_numbers * f.entries ≤ length a₀
  pub room : record_bytes * f.records ≤ length o₀

-- what is answered of a receiver that is lent in parts, with the contacts where they stand
abbrev pub fed_of : FedParts → Arrays → Fed
fed_of f a = record { receiver = of_parts f.marks a; entries = f.entries; used = f.used; records = f.records }
