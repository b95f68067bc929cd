-- Document 01, "Contact states", with document 02's #106: what becomes of a frame, and of the frames of a message, one after the other.
use Rattle.std.specs.Prelude.{ℕ, zero, suc, ◌+◌, Bool, true, false, cond, List, [], ◌∷◌, ◌++◌, eqb}
use Rattle.states.specs.Table.{out, hovering, engaged}
use Rattle.house.specs.Layout.{touched, cancelled as cancel_kind, dismissed as dismiss_kind}
use Rattle.framing.specs.Frame.{Frame, frame_bytes}
use Rattle.machine.specs.Table.{Table, contacts, state_at, place_at, with_contact, origin, resting, active}
use Rattle.machine.specs.Rules.{View, Rules}
use Rattle.machine.specs.Conforms.{table_after, conforms}
use Rattle.machine.specs.Held.{nobody, active_ids, held_without, held_after, opening}

-- the contacts, the mode (running, or ignoring) and the set of ids that is kept while ignoring
pub record Machine : Type 0 where
  pub table : Table
  pub running : Bool
  pub held : List ℕ

-- what it keeps for each contact, beside the mode
pub record Arrays : Type 0 where
  pub table : Table
  pub held : List ℕ

abbrev pub arrays_in : Machine → Arrays
arrays_in m = record { table = m.table; held = m.held }

abbrev pub in_mode : Bool → Arrays → Machine
in_mode running a = record { table = a.table; running = running; held = a.held }

-- "Outside ignoring the set is empty."
abbrev pub running_with : Table → Machine
running_with t = record { table = t; running = true; held = nobody }

pub data Verdict : Type 0 where
  injected : Verdict
  ignored : Verdict
  cancelled : Verdict

pub record Counts : Type 0 where
  pub injected : ℕ
  pub ignored : ℕ
  pub cancelled : ℕ

abbrev pub count_of : Verdict → Counts
count_of injected = record { injected = 1; ignored = 0; cancelled = 0 }
count_of ignored = record { injected = 0; ignored = 1; cancelled = 0 }
count_of cancelled = record { injected = 0; ignored = 0; cancelled = 1 }

abbrev pub plus : Counts → Counts → Counts
plus a b = record { injected = a.injected + b.injected; ignored = a.ignored + b.ignored; cancelled = a.cancelled + b.cancelled }

abbrev pub none : Counts
none = record { injected = 0; ignored = 0; cancelled = 0 }

-- "2 a cancel, flags 0x24 if engaged, 0x22 if hovering"
abbrev pub cancel_flags : ℕ → ℕ
cancel_flags s = cond (eqb s engaged) 0x24 0x22

-- "Dismiss: a hovering contact goes out of range with a record of kind 3; otherwise nothing happens"
unfoldable pub dismiss_table : Table → ℕ → Table
dismiss_table t id = cond (eqb (state_at t id) hovering) (with_contact t id out origin) t

-- .. and its id leaves the set
abbrev pub dismiss_arrays : Arrays → ℕ → Arrays
dismiss_arrays a id = record { table = dismiss_table a.table id; held = held_without a.held id }

module _ {C : Type 0} (view : View C) where
  -- ---- records that no message carries: "Kinds 2 and 3 carry the stored position and no optional field."

  abbrev pub stored_bytes : ℕ → ℕ → Table → ℕ → List ℕ
  stored_bytes kind flags t id = view.bytes kind (view.bare flags id (place_at t id))

  unfoldable pub cancel_bytes : Table → ℕ → List ℕ
  cancel_bytes t id = cond (active (state_at t id)) (stored_bytes cancel_kind (cancel_flags (state_at t id)) t id) []

  -- "For each active contact by rising id a record of kind 2": of n contacts from id on
  unfoldable pub cancels_from : Table → ℕ → ℕ → List ℕ
  cancels_from t id zero = []
  cancels_from t id (suc n) = cancel_bytes t id ++ cancels_from t (suc id) n

  abbrev pub cancels : Table → List ℕ
  cancels t = cancels_from t 0 contacts

  unfoldable pub dismiss_bytes : Table → ℕ → List ℕ
  dismiss_bytes t id = cond (eqb (state_at t id) hovering) (stored_bytes dismiss_kind 0x02 t id) []

  -- ---- a frame

  -- "Ignoring: .. An opening frame is judged as if running .. Any other frame is ignored and writes nothing."
  abbrev pub is_judged : Machine → List C → Bool
  is_judged m cs = cond m.running true (opening view m.held cs)

  abbrev pub verdict_by : Bool → Rules C → Table → List C → Verdict
  verdict_by judged rules t cs = cond judged (cond (conforms view rules t cs) injected cancelled) ignored

  unfoldable pub verdict : Rules C → Machine → List C → Verdict
  verdict rules m cs = verdict_by (is_judged m cs) rules m.table cs

  -- "All go out of range; the mode becomes ignoring"; "if it conforms, the mode becomes running". The set "is emptied when a frame opens .. and built
  -- again if it is cancelled": of "those active at the cancel, the offending frame's, and those of each frame ignored since".
  abbrev pub machine_after : Verdict → (ℕ → ℕ → ℕ) → Machine → List C → Machine
  machine_after injected next m cs =
      record { table = table_after view next m.table cs; running = true; held = cond m.running m.held nobody }
  machine_after ignored next m cs = record { table = m.table; running = m.running; held = held_after view m.held cs }
  machine_after cancelled next m cs = record { table = resting; running = false; held = held_after view (active_ids m.table) cs }

  abbrev pub bytes_for : Verdict → Machine → Frame C → List ℕ
  bytes_for injected m f = frame_bytes (view.bytes touched) f
  bytes_for ignored m f = []
  bytes_for cancelled m f = cancels m.table

  unfoldable pub step_machine : Rules C → Machine → Frame C → Machine
  step_machine rules m f = machine_after (verdict rules m f.contacts) rules.next m f.contacts

  unfoldable pub step_bytes : Rules C → Machine → Frame C → List ℕ
  step_bytes rules m f = bytes_for (verdict rules m f.contacts) m f

  -- ---- the frames of a message, in order

  unfoldable pub run_machine : Rules C → Machine → List (Frame C) → Machine
  run_machine rules m [] = m
  run_machine rules m (f ∷ fs) = run_machine rules (step_machine rules m f) fs

  unfoldable pub run_bytes : Rules C → Machine → List (Frame C) → List ℕ
  run_bytes rules m [] = []
  run_bytes rules m (f ∷ fs) = step_bytes rules m f ++ run_bytes rules (step_machine rules m f) fs

  unfoldable pub run_counts : Rules C → Machine → List (Frame C) → Counts
  run_counts rules m [] = none
  run_counts rules m (f ∷ fs) = plus (count_of (verdict rules m f.contacts)) (run_counts rules (step_machine rules m f) fs)

  -- every frame conforms, each from what the one before leaves
  unfoldable pub all_conform : Rules C → Machine → List (Frame C) → Bool
  all_conform rules m [] = true
  all_conform rules m (f ∷ fs) = cond (conforms view rules m.table f.contacts) (all_conform rules (step_machine rules m f) fs) false
