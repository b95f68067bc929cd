-- What the inner functions answer of a touch message: of the frames of records, one after the other, and of the checks over all of them.
use Rattle.std.specs.Prelude.{ℕ, ◌≡◌, Bool, true, false, cond, not, List, [], Option, Some, None, Result}
use Rattle.std.specs.Borrow.{Bor}
use Rattle.paper.specs.Refusals.{bad_offset}
use Rattle.paper.specs.declared.Refusal.{Refusal}
use Rattle.paper.specs.Refusals as refusals
use Rattle.formats.specs.Format.{Got, got, bad}
use Rattle.formats.specs.Answer.{whole_of}
use Rattle.house.specs.declared.Contact.{Contact}
use Rattle.framing.specs.Frame.{Frame}
use Rattle.recordings.specs.Records.{frame_records, frames_in}
use Rattle.machine.specs.Table.{Table}
use Rattle.machine.specs.Rules.{Rules}
use Rattle.machine.specs.Conforms.{table_after, conforms}
use Rattle.machine.specs.Machine.{running_with, run_machine, all_conform}
use Rattle.contacts.specs.Touch.{touch_view}
use Rattle.contacts.specs.Ruling.{Counted}
use Rattle.panels.specs.Panel.{panel_machine, panel_rules, offset_stands}
use Rattle.panels.specs.declared.Panel.{Panel}

-- ---- frames of records

-- records that begin with a whole frame
pub record BeginsFrame (l : List ℕ) : Type 0 where
  pub frame : Frame Contact
  pub after : List ℕ
  pub read : frame_records.read l ≡ got frame after

-- records that are whole frames
pub record AreFrames (l : List ℕ) : Type 0 where
  pub frames : List (Frame Contact)
  pub after : List ℕ
  pub read : frames_in l ≡ got frames after

-- of the frame f at the front of l, with rest behind it: where it conforms, how many contacts are active then, and the table that it leaves
abbrev pub StepsOver : Rules Contact → Frame Contact → List ℕ → Option (ℕ × Bor (List ℕ)) → Table → Table → Type 0
StepsOver rules f rest (Some (active, left)) t u =
    (conforms touch_view rules t f.contacts ≡ true) × (u ≡ table_after touch_view rules.next t f.contacts) × Counted active u.states × (left.now ≡ rest)
StepsOver rules f rest None t u = conforms touch_view rules t f.contacts ≡ false

abbrev pub Steps : Rules Contact → ℕ → List ℕ → Option (ℕ × Bor (List ℕ)) → Table → Table → Type 0
Steps rules active l r t u = (f : Frame Contact) (rest : List ℕ) → frame_records.read l ≡ got f rest → Counted active t.states → StepsOver rules f rest r t u

-- whether the frames of records all conform, and the table that they leave where they do
pub record RunsThrough (rules : Rules Contact) (l : List ℕ) (r : Bool) (t u : Table) : Type 0 where
  pub judged : (fs : List (Frame Contact)) (rest : List ℕ) → frames_in l ≡ got fs rest → r ≡ all_conform touch_view rules (running_with t) fs
  pub table : (fs : List (Frame Contact)) (rest : List ℕ) → frames_in l ≡ got fs rest → r ≡ true → running_with u ≡ run_machine touch_view rules (running_with t) fs

-- ---- a touch message

-- 17, then 11
abbrev pub fault_of : Panel → List (Frame Contact) → Got (Unit {0})
fault_of p fs =
    cond (not (all_conform touch_view (panel_rules p) (panel_machine p) fs)) (bad refusals.illegal)
    (cond (not (offset_stands p fs)) (bad bad_offset) (got tt []))

-- .. of the frames of records, and the table that they leave
pub record Faults (p : Panel) (l : List ℕ) (r : Result (Unit {0}) Refusal) (u : Table) : Type 0 where
  pub fault : (fs : List (Frame Contact)) (rest : List ℕ) → frames_in l ≡ got fs rest → whole_of r ≡ fault_of p fs
  pub table : (fs : List (Frame Contact)) (rest : List ℕ) → frames_in l ≡ got fs rest → whole_of r ≡ got tt [] → running_with u ≡ run_machine touch_view (panel_rules p) (panel_machine p) fs
