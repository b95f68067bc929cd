-- What this crate's calls answer: of one frame, and of the frames of a message, one after the other, written or only counted.
use Rattle.std.specs.Prelude.{ℕ, zero, suc, ◌+◌, ◌-◌, ◌*◌, ◌≤◌, ◌<◌, ◌≡◌, Bool, true, false, cond, List, [], ◌++◌, leb, length, take, drop}
use Rattle.slices.specs.Writing.{laid, Draft, bytes, given, left}
use Rattle.formats.specs.Format.{Got}
use Rattle.fields.specs.Integers.{taken}
use Rattle.states.specs.Table.{next}
use Rattle.house.specs.Fields.{record_bytes}
use Rattle.house.specs.declared.Head.{Head}
use Rattle.house.specs.declared.Contact.{Contact}
use Rattle.framing.specs.After.{after_read}
use Rattle.touch.specs.Touch.{contact}
use Rattle.frame_records.specs.Frames.{records_read, frame_draft, head_in, contacts_in}
use Rattle.machine.specs.Table.{Table, resting}
use Rattle.machine.specs.Conforms.{moved}
use Rattle.machine.specs.Held.{nobody, active_ids, with_listing}
use Rattle.machine.specs.Machine.{Arrays, cancels}
use Rattle.contacts.specs.Touch.{touch_view}
use Rattle.contacts.specs.Ruling.{contacts_of, judged_from, ruling_by}
use Rattle.contacts.specs.declared.Ruling.{Ruling}
use Rattle.moves.specs.Moves.{behind, Applies}
use Rattle.openings.specs.Openings.{judged_among, Lists}
use Rattle.runs.specs.declared.Run.{Run}

-- ---- frames as they are written: with no offset where the client asked for none

abbrev pub timed_head : Bool → Head → Head
timed_head untimed h = cond untimed (record { count = h.count; offset = record { 0 = 0 } }) h

-- ---- what is written

-- what a run leaves of an output: nothing is touched where it is dry; where it is wet, what a draft leaves in the room that there is
abbrev pub laid_by : Bool → Draft → List ℕ → List ℕ
laid_by wet d before = cond wet (left before (given (length before) d)) before

-- of n contacts, where there is room for their records: the table as they leave it, and their records
pub record CarriesContacts (n : ℕ) (l rest : List ℕ) (t u : Table) (before after : List ℕ) : Type 0 where
  pub table : Applies (contact taken) n l rest t u
  pub output : after ≡ laid before (records_read n [] l)

pub record CarriesFrame (wet : Bool) (head : Head) (l rest : List ℕ) (t u : Table) (before after : List ℕ) : Type 0 where
  pub table : Applies (contact taken) head.count l rest t u
  pub output : after ≡ laid_by wet (frame_draft (length before) head l) before

-- ---- a run so far

-- how many frames it has come over
abbrev pub frames_passed : Run → ℕ
frames_passed r = r.injected + r.ignored + r.cancelled

-- its counts have room for one more
abbrev pub HasRoom : Run → Type 0
HasRoom r = (frames_passed r < 255) × (r.records ≤ 4294967296)

abbrev pub started : Bool → ℕ → Run
started running active = record { running = running; active = active; injected = 0; ignored = 0; cancelled = 0; records = 0 }

-- after one more frame: injected, ignored or cancelled
abbrev pub injected_run : Run → ℕ → ℕ → Run
injected_run r count active =
    record { running = true; active = active; injected = r.injected + 1; ignored = r.ignored; cancelled = r.cancelled; records = r.records + count + 1 }

abbrev pub ignored_run : Run → Run
ignored_run r =
    record { running = r.running; active = r.active; injected = r.injected; ignored = r.ignored + 1; cancelled = r.cancelled; records = r.records }

abbrev pub cancelled_run : Run → Run
cancelled_run r =
    record { running = false; active = 0; injected = r.injected; ignored = r.ignored; cancelled = r.cancelled + 1; records = r.records + r.active }

-- ---- one frame, of its head and the bytes l from its first contact on

-- what becomes of it, of contacts that are read as x
abbrev pub ruling_on : ℕ → Run → Arrays → Got (List Contact) → Ruling
ruling_on most run a x = ruling_by (judged_among run.running a.held x) (judged_from most run.active a.table x)

-- what it leaves by its ruling: of the run, of the arrays, and what it would write
abbrev pub run_after : Ruling → ℕ → Run → Run
run_after (Ruling.Injected k) n run = injected_run run n k
run_after Ruling.Ignored n run = ignored_run run
run_after Ruling.Cancelled n run = cancelled_run run

abbrev pub arrays_after : Ruling → ℕ → List ℕ → Bool → Arrays → Arrays
arrays_after (Ruling.Injected k) n l running a =
    record { table = after_read (moved touch_view next) (contact taken) n a.table l; held = cond running a.held nobody }
arrays_after Ruling.Ignored n l running a = record { table = a.table; held = after_read (with_listing touch_view) (contact taken) n a.held l }
arrays_after Ruling.Cancelled n l running a = record { table = resting; held = after_read (with_listing touch_view) (contact taken) n (active_ids a.table) l }

abbrev pub draft_after : Ruling → ℕ → Head → List ℕ → Table → Draft
draft_after (Ruling.Injected k) room head l t = frame_draft room head l
draft_after Ruling.Ignored room head l t = bytes []
draft_after Ruling.Cancelled room head l t = bytes (cancels touch_view t)

pub record Injects (head : Head) (active : ℕ) (l : List ℕ) (wet : Bool) (run r : Run) (rest : List ℕ) (a b : Arrays) (before after : List ℕ) : Type 0 where
  pub answer : r ≡ injected_run run head.count active
  pub small : head.count < 65536
  pub carried : CarriesFrame wet head l rest a.table b.table before after
  pub held : b.held ≡ cond run.running a.held nobody

pub record Ignores (n : ℕ) (l : List ℕ) (run r : Run) (rest : List ℕ) (before after : List ℕ) : Type 0 where
  pub answer : r ≡ ignored_run run
  pub held : Lists n l rest before after

pub record Cancels (n : ℕ) (l : List ℕ) (wet : Bool) (run r : Run) (rest : List ℕ) (a b : Arrays) (before after : List ℕ) : Type 0 where
  pub answer : r ≡ cancelled_run run
  pub small : run.active < 65536
  pub table : b.table ≡ resting
  pub held : Lists n l rest (active_ids a.table) b.held
  pub output : after ≡ laid_by wet (bytes (cancels touch_view a.table)) before

-- a frame with the ruling g, and bounds that hold whatever it is
pub record Steps (g : Ruling) (head : Head) (l : List ℕ) (wet : Bool) (run r : Run) (rest : List ℕ) (a b : Arrays) (before after : List ℕ) : Type 0 where
  pub frames : frames_passed r ≤ frames_passed run + 1
  pub small : r.records ≤ run.records + 65536
  pub more : run.records ≤ r.records
  pub answer : r ≡ run_after g head.count run
  pub arrays : b ≡ arrays_after g head.count l run.running a
  pub output : after ≡ laid_by wet (draft_after g (length before) head l a.table) before
  pub passed : rest ≡ behind (contact taken) head.count l

-- ---- the frames of a message

-- the place behind so many records, where the room reaches so far
abbrev pub passing : ℕ → ℕ → ℕ → ℕ
passing place records room = cond (leb (record_bytes * records) (room - place)) (place + record_bytes * records) place

pub record Passes (place records room r : ℕ) : Type 0 where
  pub same : r ≡ passing place records room
  pub inside : r ≤ room

-- a run under way: what it has come to, the arrays, the output, and the place in it where the next record goes
pub record Underway : Type 0 where
  pub run : Run
  pub arrays : Arrays
  pub output : List ℕ
  pub place : ℕ

-- .. after a frame with the ruling g: it writes at the place, which goes behind as many records as it gives
abbrev pub underway_after : Bool → Ruling → Head → List ℕ → Underway → Underway
underway_after wet g head l u =
    record {
      run = run_after g head.count u.run;
      arrays = arrays_after g head.count l u.run.running u.arrays;
      output = take u.place u.output ++ laid_by wet (draft_after g (length (drop u.place u.output)) head l u.arrays.table) (drop u.place u.output);
      place = passing u.place ((run_after g head.count u.run).records - u.run.records) (length u.output);
    }

module _ (untimed wet : Bool) (most : ℕ) where
  -- a frame, ruled as the run stands
  abbrev pub on_frame : Head → List ℕ → Underway → Underway
  on_frame head l u = underway_after wet (ruling_on most u.run u.arrays (contacts_of head.count l)) head l u

  -- the n frames at the front of l, one after the other
  unfoldable pub on_frames : ℕ → List ℕ → Underway → Underway
  on_frames zero l u = u
  on_frames (suc n) l u = on_frames n (behind (contact taken) (head_in l).count (contacts_in l)) (on_frame (timed_head untimed (head_in l)) (contacts_in l) u)

-- no more records than these, whatever is read: of 255 frames at most, each gives at most 65536
abbrev pub most_records : ℕ
most_records = 16711680

-- where a run begins
abbrev pub beginning : Bool → ℕ → Arrays → List ℕ → Underway
beginning running active a before = record { run = started running active; arrays = a; output = before; place = 0 }

-- THE CONTRACT OF A RUN over the n frames at the front of l, whatever bytes they are
pub record Runs (n : ℕ) (l : List ℕ) (untimed wet running : Bool) (most active : ℕ) (r : Run) (a b : Arrays) (before after : List ℕ) : Type 0 where
  pub small : r.records ≤ most_records
  pub run : r ≡ (on_frames untimed wet most n l (beginning running active a before)).run
  pub arrays : b ≡ (on_frames untimed wet most n l (beginning running active a before)).arrays
  pub output : after ≡ (on_frames untimed wet most n l (beginning running active a before)).output
