-- One stream: a machine, the settings that it is held to and its first-frame mark; and what it becomes and writes by the messages of a history,
-- which are read already. A receiver may have several: to each of them a message is something, or nothing.
use Rattle.std.specs.Prelude.{ℕ, ◌≡◌, Bool, true, false, cond, List, [], ◌∷◌, ◌++◌, length}
use Rattle.states.specs.Table.{out}
use Rattle.framing.specs.Frame.{Frame, timed_frames, begun_by}
use Rattle.machine.specs.Table.{Table, state_at, resting}
use Rattle.machine.specs.Rules.{View, Rules}
use Rattle.machine.specs.Held.{opening}
use Rattle.machine.specs.Machine.{Machine, arrays_in, in_mode, running_with, Counts, cancelled, verdict, step_machine, run_machine, run_bytes, run_counts, dismiss_arrays, dismiss_bytes}

-- what a stream of contacts C goes by under settings S: what its machine sees of a contact, what it is held to, and whether offset 0 is written
-- (ready flag 2)
pub record Profile (S C : Type 0) : Type 0 where
  pub view : View C
  pub rules : S → Rules C
  pub untimed : S → Bool

pub record Stream (S : Type 0) : Type 0 where
  pub settings : S
  pub machine : Machine
  pub begun : Bool

-- what a message is to a stream: nothing where it is refused or of another; the settings of a client ready, the frames as they were read, or the
-- id of a dismissal where it is accepted
pub data Given (S C : Type 0) : Type 0 where
  nothing : Given S C
  settings : S → Given S C
  frames : List (Frame C) → Given S C
  dismissal : ℕ → Given S C

-- "A frame is accepted when its message is"
abbrev pub frames_given : {S C : Type 0} → Given S C → List (Frame C)
frames_given nothing = []
frames_given (settings x) = []
frames_given (frames fs) = fs
frames_given (dismissal id) = []

-- "A rested receiver has accepted event 2, is past its first frame, is running, and has no active contact."
unfoldable pub rested : {S : Type 0} → S → Stream S
rested x = record { settings = x; machine = running_with resting; begun = true }

-- what a cancelled frame leaves: ignoring, every contact out of range
pub record Silent {S : Type 0} (s : Stream S) : Type 0 where
  pub ignoring : s.machine.running ≡ false
  pub resting : s.machine.table ≡ resting

-- no contact is active
abbrev pub NoneActive : Table → Type 0
NoneActive t = (id : ℕ) → state_at t id ≡ out

-- ---- "The meaning of "opening" is the same in both modes.": outside ignoring the set is empty

module _ {C : Type 0} (view : View C) where
  -- a frame that finds the machine m
  abbrev pub opens : Machine → Frame C → Bool
  opens m f = opening view m.held f.contacts

  -- none of these frames is opening, each where those before it have led
  unfoldable pub unopened : Rules C → Machine → List (Frame C) → Bool
  unopened rules m [] = true
  unopened rules m (f ∷ fs) = cond (opens m f) false (unopened rules (step_machine view rules m f) fs)

module _ {S C : Type 0} (profile : Profile S C) where
  -- ---- the first frames of a message: the contacts and the mode after them, what they write, and how they are counted

  abbrev pub machine_at : Stream S → List (Frame C) → Machine
  machine_at s fs = run_machine profile.view (profile.rules s.settings) s.machine (timed_frames (profile.untimed s.settings) fs)

  abbrev pub bytes_at : Stream S → List (Frame C) → List ℕ
  bytes_at s fs = run_bytes profile.view (profile.rules s.settings) s.machine (timed_frames (profile.untimed s.settings) fs)

  abbrev pub counts_at : Stream S → List (Frame C) → Counts
  counts_at s fs = run_counts profile.view (profile.rules s.settings) s.machine (timed_frames (profile.untimed s.settings) fs)

  -- the frame f is cancelled, after the frames fs of its message
  abbrev pub CancelledAfter : Stream S → List (Frame C) → Frame C → Type 0
  CancelledAfter s fs f = verdict profile.view (profile.rules s.settings) (machine_at s fs) f.contacts ≡ cancelled

  -- none of the frames gs is opening, after the frames fs of their message
  abbrev pub UnopenedAfter : Stream S → List (Frame C) → List (Frame C) → Type 0
  UnopenedAfter s fs gs = unopened profile.view (profile.rules s.settings) (machine_at s fs) gs ≡ true

  -- ---- what one message leaves and writes

  unfoldable pub next : Stream S → Given S C → Stream S
  next s nothing = s
  next s (settings x) = record { settings = x; machine = s.machine; begun = s.begun }
  next s (frames fs) = record { settings = s.settings; machine = machine_at s fs; begun = begun_by true s.begun (length fs) }
  next s (dismissal id) =
      record {
        settings = s.settings;
        machine = in_mode s.machine.running (dismiss_arrays (arrays_in s.machine) id);
        begun = s.begun;
      }

  unfoldable pub wrote : Stream S → Given S C → List ℕ
  wrote s nothing = []
  wrote s (settings x) = []
  wrote s (frames fs) = bytes_at s fs
  wrote s (dismissal id) = dismiss_bytes profile.view s.machine.table id

  -- ---- what a history leaves and writes

  unfoldable pub after : Stream S → List (Given S C) → Stream S
  after s [] = s
  after s (g ∷ gs) = after (next s g) gs

  unfoldable pub written : Stream S → List (Given S C) → List ℕ
  written s [] = []
  written s (g ∷ gs) = wrote s g ++ written (next s g) gs

  -- no opening frame is accepted
  unfoldable pub Unopened : Stream S → List (Given S C) → Type 0
  Unopened s [] = Unit
  Unopened s (g ∷ gs) = UnopenedAfter s [] (frames_given g) × Unopened (next s g) gs

  -- the stream q is silent, and has the settings of s and the set that the frames fs leave of it
  pub record SilentAs (s : Stream S) (fs : List (Frame C)) (q : Stream S) : Type 0 where
    pub silent : Silent q
    pub settings : q.settings ≡ s.settings
    pub held : q.machine.held ≡ (machine_at s fs).held

  -- "records are compared from that frame on": the stream s given the frames fs, f, gs and then `more` is, but for the frames fs, the rested one
  -- given f, gs and then `more`
  pub record AsRested (s : Stream S) (fs : List (Frame C)) (f : Frame C) (gs : List (Frame C)) (more : List (Given S C)) : Type 0 where
    pub stream : next s (frames (fs ++ (f ∷ gs))) ≡ next (rested s.settings) (frames (f ∷ gs))
    pub bytes : wrote s (frames (fs ++ (f ∷ gs))) ≡ bytes_at s fs ++ wrote (rested s.settings) (frames (f ∷ gs))
    pub after : after s (frames (fs ++ (f ∷ gs)) ∷ more) ≡ after (rested s.settings) (frames (f ∷ gs) ∷ more)
    pub written : written s (frames (fs ++ (f ∷ gs)) ∷ more) ≡ bytes_at s fs ++ written (rested s.settings) (frames (f ∷ gs) ∷ more)
