-- #107, of record files: what has no frame over 63 is byte for byte what it was.
use Rattle.std.specs.Prelude.{ℕ, ◌≤◌, ◌≡◌, List, [], ◌∷◌, map, length}
use Rattle.digits.specs.Digits.{Bytes}
use Rattle.house.specs.declared.Record.{Record}
use Rattle.house.specs.declared.Record.TheVariants as Record
use Rattle.framing.specs.Whole.{FramesWhole}
use Rattle.stream.specs.Asked.{All}
use Rattle.receiver.specs.Receive.{fresh}
use Rattle.receiver.specs.History.{records_in}
use Rattle.receiver.specs.declared.Receiver.{Receiver}
use Rattle.demands.specs.Histories.{Call, History, accepted, all_left}
use Rattle.old_heads.specs.OldHeads.{old_contacts_most, old_file}
use Rattle.old_files.specs.OldReceiver.{OldCalls}

-- no frame of a file is over 63
abbrev pub AtMost63 : Record → Type 0
AtMost63 (Record.Head h) = h.count ≤ old_contacts_most
AtMost63 (Record.Contact kind c) = Unit
AtMost63 (Record.Refused e) = Unit

-- no frame that a receiver accepts is over 63
unfoldable pub NoneOver63 : Receiver → List Call → Type 0
NoneOver63 r [] = Unit
NoneOver63 r (c ∷ cs) = All (λ f. length f.contacts ≤ old_contacts_most) (accepted r c) × NoneOver63 c.receiver cs

-- the same messages, lent the same outputs
pub record Alike (h k : List Call) : Type 0 where
  pub messages : map (λ (c : Call). c.message) h ≡ map (λ (c : Call). c.message) k
  pub outputs : map (λ (c : Call). c.before) h ≡ map (λ (c : Call). c.before) k

pub record FilesStand : Type 0 where
  -- a file of whole frames, none of them over 63, is its records as they were laid out
  pub laid : (l : List ℕ) → Bytes l → FramesWhole l → All AtMost63 (records_in l) → old_file (records_in l) ≡ l
  -- what today's receiver writes, where it accepts no frame over 63, is byte for byte what the older receiver writes of the same messages
  pub written : (h k : List Call) → History h → OldCalls fresh k → Alike h k → NoneOver63 fresh h → all_left h ≡ all_left k
