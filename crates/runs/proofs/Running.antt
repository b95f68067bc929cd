-- A run over frames that can be read, from the table's number of active contacts on, is the machine's.
-- Assumes nothing.
use Prim.Native.Nat.{ℕ, zero, suc, ◌+◌, ◌-◌, ◌*◌, ◌≤◌}
use mathlib.Core.Path.{◌≡◌, refl, sym, ap, subst, ◌∙◌}
use mathlib.Core.Bool.{Bool, true, false, cond}
use mathlib.Core.List.{List, [], ◌∷◌, ◌++◌}
use native.Mathlib.Omega.{arith}
use borrow.Author.Tests.{le-leb}
use lib.ListN.{length, take, drop, length-append, length-drop, take-append-drop}
use Rattle.digits.specs.Digits.{Bytes}
use Rattle.slices.specs.Writing.{laid, bytes, given, left}
use Rattle.slices.proofs.Laws.{given-room}
use Rattle.slices.proofs.Tails.{laid_at, laid_none, laid-length, laid_next}
use Rattle.formats.specs.Format.{got, read_series}
use Rattle.formats.proofs.Laws.{more-got}
use Rattle.fields.specs.Integers.{taken}
use Rattle.fields.proofs.Laws.{taken-law}
use Rattle.house.specs.Fields.{record_bytes}
use Rattle.house.specs.declared.Head.{Head}
use Rattle.house.specs.declared.Contact.{Contact}
use Rattle.framing.specs.Frame.{Frame, head_of, timed_frame, timed_frames}
use Rattle.framing.specs.After.{on_read}
use Rattle.framing.proofs.Laws.{frame-head-law, frame-law}
use Rattle.framing.proofs.Reading.{frame-got}
use Rattle.framing.proofs.Timed.{timed-contacts, timed-none, timed-cons}
use Rattle.touch.specs.Limits.{touch_limits}
use Rattle.touch.specs.Touch.{contact, frame}
use Rattle.touch.proofs.Laws.{contact-law}
use Rattle.touch.proofs.Passes.{frame_by}
use Rattle.frame_records.specs.Frames.{empty_head, head_in, contacts_in}
use Rattle.machine.specs.Rules.{Rules}
use Rattle.machine.specs.Machine.{Machine, Arrays, in_mode, none, plus, count_of, verdict, step_machine, step_bytes, run_machine, run_bytes, run_counts}
use Rattle.machine.proofs.Machine.{none-plus, plus_none, plus_assoc}
use Rattle.contacts.specs.Touch.{touch_view, touch_rules}
use Rattle.contacts.specs.Ruling.{contacts_of, Counted}
use Rattle.moves.specs.Moves.{behind}
use Rattle.runs.specs.declared.Run.{Run}
use Rattle.runs.specs.Runs.{timed_head, laid_by, passing, Underway, on_frame, on_frames, beginning, Runs}
use Rattle.runs.proofs.Turning.{machine_in, counts_of, Turned, turned}

-- ---- frames as they are written, one by one

timed-head : (untimed : Bool) (f : Frame Contact) → timed_head untimed (head_of f) ≡ head_of (timed_frame untimed f)
timed-head true f = refl
timed-head false f = refl

-- ---- one more frame

module _ (rules : Rules Contact) (m : Machine) (f : Frame Contact) (fs : List (Frame Contact)) where
  machine-cons : run_machine touch_view rules m (f ∷ fs) ≡ run_machine touch_view rules (step_machine touch_view rules m f) fs
  unfolding run_machine
  machine-cons = refl

  bytes-cons : run_bytes touch_view rules m (f ∷ fs) ≡ step_bytes touch_view rules m f ++ run_bytes touch_view rules (step_machine touch_view rules m f) fs
  unfolding run_bytes
  bytes-cons = refl

  counts-cons : run_counts touch_view rules m (f ∷ fs) ≡ plus (count_of (verdict touch_view rules m f.contacts)) (run_counts touch_view rules (step_machine touch_view rules m f) fs)
  unfolding run_counts
  counts-cons = refl

module _ (rules : Rules Contact) (m : Machine) where
  machine-none : run_machine touch_view rules m [] ≡ m
  unfolding run_machine
  machine-none = refl

  bytes-none : run_bytes touch_view rules m [] ≡ []
  unfolding run_bytes
  bytes-none = refl

  counts-none : run_counts touch_view rules m [] ≡ none
  unfolding run_counts
  counts-none = refl

-- ---- where a run under way stands after the frames fs: v, from u on

module _ (rules : Rules Contact) (wet : Bool) where
  record Went (fs : List (Frame Contact)) (u v : Underway) : Type 0 where
    machine : machine_in v.run v.arrays ≡ run_machine touch_view rules (machine_in u.run u.arrays) fs
    active : Counted v.run.active v.arrays.table.states
    counts : counts_of v.run ≡ plus (counts_of u.run) (run_counts touch_view rules (machine_in u.run u.arrays) fs)
    records : 21 * v.run.records ≡ 21 * u.run.records + length (run_bytes touch_view rules (machine_in u.run u.arrays) fs)
    kept : wet ≡ false → v.output ≡ u.output
    written : wet ≡ true → u.place + length (run_bytes touch_view rules (machine_in u.run u.arrays) fs) ≤ length u.output
        → v.output ≡ laid_at u.output u.place (run_bytes touch_view rules (machine_in u.run u.arrays) fs)

  went-none : (u : Underway) → Counted u.run.active u.arrays.table.states → Went [] u u
  went-none u a =
      let m = machine_in u.run u.arrays in
      record {
        machine = sym (machine-none rules m);
        active = a;
        counts = sym (ap (plus (counts_of u.run)) (counts-none rules m) ∙ plus_none (counts_of u.run));
        records = rw (bytes-none rules m) (omega arith);
        kept = λ e. refl;
        written = λ e room. sym (ap (laid_at u.output u.place) (bytes-none rules m) ∙ laid_none u.output u.place);
      }

  -- the frame f leads from u to w, and the others from there to v
  module _ (f : Frame Contact) (fs : List (Frame Contact)) (u w v : Underway) (part : List ℕ)
      (t : Turned rules f wet u.run w.run u.arrays w.arrays (drop u.place u.output) part)
      (eo : w.output ≡ take u.place u.output ++ part) (ep : w.place ≡ passing u.place (w.run.records - u.run.records) (length u.output)) (o : Went fs w v) where
    abbrev m : Machine
    m = machine_in u.run u.arrays

    abbrev n : Machine
    n = machine_in w.run w.arrays

    abbrev B : List ℕ
    B = step_bytes touch_view rules m f

    abbrev T : List ℕ
    T = run_bytes touch_view rules n fs

    all : run_bytes touch_view rules m (f ∷ fs) ≡ B ++ T
    all = bytes-cons rules m f fs ∙ ap (λ (k : Machine). B ++ run_bytes touch_view rules k fs) (sym t.machine)

    long : length (run_bytes touch_view rules m (f ∷ fs)) ≡ length B + length T
    long = ap length all ∙ length-append B T

    -- wet, and with room for all of it
    module _ (e : wet ≡ true) (room : u.place + length (run_bytes touch_view rules m (f ∷ fs)) ≤ length u.output) where
      fits : u.place + length B ≤ length u.output
      fits = omega (arith, room, long)

      part-is : part ≡ laid (drop u.place u.output) B
      part-is =
          let d = drop u.place u.output in
          t.output ∙ ap (λ (b : Bool). cond b (left d (given (length d) (bytes B))) d) e ∙ ap (left d) (given-room B (length d) (rw length-drop (omega (arith, fits))))

      output-is : w.output ≡ laid_at u.output u.place B
      output-is = eo ∙ ap (λ (s : List ℕ). take u.place u.output ++ s) part-is

      place_is : w.place ≡ u.place + length B
      place_is =
          let k : 21 * (w.run.records - u.run.records) ≡ length B = omega (arith, t.records) in
          ep ∙ rw (k, le-leb (length B) (length u.output - u.place) (omega (arith, fits)))

      all-written : v.output ≡ laid_at u.output u.place (run_bytes touch_view rules m (f ∷ fs))
      all-written =
          let g = laid-length u.output B u.place fits in
          let r : w.place + length T ≤ length w.output = rw (place_is, output-is, g) (omega (arith, room, long)) in
          o.written e r
          ∙ (λ i. laid_at (output-is i) (place_is i) T) ∙ laid_next u.output B T u.place (length B) refl fits
          ∙ ap (laid_at u.output u.place) (sym all)

    went-cons : Went (f ∷ fs) u v
    went-cons =
        record {
          machine = o.machine ∙ ap (λ (k : Machine). run_machine touch_view rules k fs) t.machine ∙ sym (machine-cons rules m f fs);
          active = o.active;
          counts =
              o.counts ∙ ap (λ k. plus k (run_counts touch_view rules n fs)) t.counts ∙ plus_assoc (counts_of u.run) _ _
              ∙ ap (plus (counts_of u.run)) (ap (λ (k : Machine). plus (count_of (verdict touch_view rules m f.contacts)) (run_counts touch_view rules k fs)) t.machine ∙ sym (counts-cons rules m f fs));
          records = omega (arith, o.records, t.records, long);
          kept = λ e.
              o.kept e ∙ eo
              ∙ ap (λ (s : List ℕ). take u.place u.output ++ s) (t.output ∙ ap (λ (b : Bool). laid_by b (bytes B) (drop u.place u.output)) e)
              ∙ take-append-drop u.place u.output;
          written = all-written;
        }

-- ---- the frames at the front of l

module _ (untimed wet : Bool) (most : ℕ) where
  abbrev Leads : ℕ → Type 0
  Leads n = (l : List ℕ) (u : Underway) (fs : List (Frame Contact)) (rest : List ℕ) → Bytes l → Counted u.run.active u.arrays.table.states → read_series frame_by false n l ≡ got fs rest
      → Went (touch_rules most) wet (timed_frames untimed fs) u (on_frames untimed wet most n l u)

  one_more : (n : ℕ) → Leads n → Leads (suc n)
  unfolding on_frames
  one_more n leads l u fs rest hl a e =
      let x = more-got (frame taken) false n l fs rest e in
      let f = x.head in
      let now = timed_frame untimed f in
      let later = timed_frames untimed x.rest in
      let r = frame-got taken touch_limits (contact taken) false l f x.after x.one in
      let hr : Bytes r.after = ((frame-head-law taken taken-law touch_limits false).sound l (head_of f) r.after hl r.head).1 in
      let hx : Bytes x.after = ((frame-law taken taken-law touch_limits (contact taken) (contact-law taken taken-law) false).sound l f x.after hl x.one).1 in
      let head : Head = head_of now in
      let eh : timed_head untimed (head_in l) ≡ head = ap (λ y. timed_head untimed (on_read empty_head (λ g t. g) y)) r.head ∙ timed-head untimed f in
      let ec : contacts_in l ≡ r.after = ap (on_read l (λ g t. t)) r.head in
      let eb : behind (contact taken) (head_in l).count (contacts_in l) ≡ x.after =
      (λ i. behind (contact taken) (on_read empty_head (λ g t. g) (r.head i)).count (ec i)) ∙ ap (on_read r.after (λ cs t. t)) r.contacts in
      let en : contacts_of head.count r.after ≡ got now.contacts x.after = rw (timed-contacts untimed f) r.contacts in
      let w = on_frame untimed wet most head r.after u in
      let t = turned head r.after wet most u.run u.arrays (drop u.place u.output) now x.after refl en a hr in
      let o = leads x.after w x.rest rest hx t.active x.others in
      let k : timed_frames untimed fs ≡ now ∷ later = ap (timed_frames untimed) x.all ∙ timed-cons untimed f x.rest in
      let z : on_frames untimed wet most n x.after w ≡ on_frames untimed wet most n (behind (contact taken) (head_in l).count (contacts_in l)) (on_frame untimed wet most (timed_head untimed (head_in l)) (contacts_in l) u) =
      sym (λ i. on_frames untimed wet most n (eb i) (on_frame untimed wet most (eh i) (ec i) u)) in
      let v : Went (touch_rules most) wet (timed_frames untimed fs) u (on_frames untimed wet most n x.after w) = subst (λ gs. Went (touch_rules most) wet gs u (on_frames untimed wet most n x.after w)) (sym k) (went-cons (touch_rules most) wet now later u w _ _ t refl refl o) in
      subst (Went (touch_rules most) wet (timed_frames untimed fs) u) z v

  frames-went : (n : ℕ) → Leads n
  unfolding on_frames read_series
  frames-went zero l u fs rest hl a e =
      let z : fs ≡ [] = cc in
      subst (λ gs. Went (touch_rules most) wet gs u u) (sym (ap (timed_frames untimed) z ∙ timed-none untimed)) (went-none (touch_rules most) wet u a)
  frames-went (suc n) l u fs rest hl a e = one_more n (frames-went n) l u fs rest hl a e

-- ---- the contract's outcome, of frames fs that can be read; of the output, where nothing is to be written or there is room for all

pub record Ran (rules : Rules Contact) (fs : List (Frame Contact)) (wet running : Bool) (r : Run) (a b : Arrays) (before after : List ℕ) : Type 0 where
  pub machine : machine_in r b ≡ run_machine touch_view rules (in_mode running a) fs
  pub active : Counted r.active b.table.states
  pub counts : counts_of r ≡ run_counts touch_view rules (in_mode running a) fs
  pub records : record_bytes * r.records ≡ length (run_bytes touch_view rules (in_mode running a) fs)
  pub kept : wet ≡ false → after ≡ before
  pub written : wet ≡ true → length (run_bytes touch_view rules (in_mode running a) fs) ≤ length before → after ≡ laid before (run_bytes touch_view rules (in_mode running a) fs)

pub ran-as-the-machine-says : (n : ℕ) (l : List ℕ) (untimed wet running : Bool) (most active : ℕ) (r : Run) (a b : Arrays) (before after : List ℕ)
    → Runs n l untimed wet running most active r a b before after → Bytes l
    → (fs : List (Frame Contact)) (rest : List ℕ) → read_series frame_by false n l ≡ got fs rest → Counted active a.table.states
    → Ran (touch_rules most) (timed_frames untimed fs) wet running r a b before after
ran-as-the-machine-says n l untimed wet running most active r a b before after x hl fs rest e k =
    let w = frames-went untimed wet most n l (beginning running active a before) fs rest hl k e in
    record {
      machine = (λ i. machine_in (x.run i) (x.arrays i)) ∙ w.machine;
      active = rw (x.run, x.arrays) w.active;
      counts = ap counts_of x.run ∙ w.counts ∙ none-plus _;
      records = ap (λ (q : Run). 21 * q.records) x.run ∙ omega (arith, w.records);
      kept = λ d. x.output ∙ w.kept d;
      written = λ d room. x.output ∙ w.written d (omega (arith, room));
    }
