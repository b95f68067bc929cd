-- What the plain reading, the strict one and the receiver write, over the calls: records of whole frames, each of them well formed.
use Rattle.std.specs.Prelude.{ℕ, ◌*◌, ◌<◌, ◌≡◌, Bool, true, List, [], ◌∷◌, length, drop}
use Rattle.paper.specs.Refusals.{none}
use Rattle.digits.specs.Digits.{Bytes}
use Rattle.house.specs.Fields.{record_bytes}
use Rattle.well_formed.specs.WellFormed.{well_formed}
use Rattle.framing.specs.Whole.{FramesWhole}
use Rattle.reading.specs.Plain.{ReadsBy}
use Rattle.reading.specs.declared.PlainAnswer.{PlainAnswer}
use Rattle.receiver.specs.Receive.{fresh}
use Rattle.flat_records.specs.Flat.{flat}
use Rattle.flat_records.specs.declared.FlatRecord.{FlatRecord}
use Rattle.demands.specs.RoundTrip.{records_read}
use Rattle.demands.specs.Histories.{Call, Calls, History, last, records_left}

-- the records answered stand at the front of the output that was lent as `before` and left as `out`
pub record WritesWholeFrames : Type 0 where
  pub readings : (strictly : Bool) (message : List ℕ) (a : PlainAnswer) (before out : List ℕ) → Bytes message → ReadsBy strictly message a before out
      → FramesWhole (records_read a out)
  -- each call of the receiver, after any history of calls
  pub receiver : (h : List Call) → History h → (c : Call) → Calls (last fresh h) (c ∷ []) → Bytes c.message → FramesWhole (records_left c)
  -- each record of whole frames is one that well_formed::is_well_formed takes, and kangirlo_read_record refuses none of them by 14
  pub formed : (l : List ℕ) (i : ℕ) → FramesWhole l → record_bytes * i < length l → well_formed (drop (record_bytes * i) l) ≡ true
  pub readable : (l : List ℕ) (i : ℕ) (r : FlatRecord) → FramesWhole l → record_bytes * i < length l → r ≡ flat (drop (record_bytes * i) l)
      → r.refusal ≡ none
