-- A frame whose contacts can be read, where the number of active contacts is the table's: what its ruling leaves is what the machine makes of it.
-- Assumes nothing.
use Prim.Native.Nat.{ℕ, ◌+◌, ◌*◌}
use mathlib.Core.Path.{◌≡◌, refl, sym, ap, ◌∙◌}
use mathlib.Core.Bool.{Bool, true, false}
use mathlib.Core.List.{List, ◌++◌}
use native.Mathlib.Omega.{arith}
use native.Mathlib.Nat.{add-zero}
use lib.ListN.{length}
use Rattle.digits.specs.Digits.{Bytes}
use Rattle.slices.specs.Writing.{Draft, bytes, given, left}
use Rattle.formats.specs.Format.{got}
use Rattle.fields.specs.Integers.{taken}
use Rattle.house.specs.Layout.{head_bytes}
use Rattle.house.specs.Fields.{record_bytes}
use Rattle.house.specs.declared.Head.{Head}
use Rattle.house.specs.declared.Contact.{Contact}
use Rattle.house.proofs.Round.{length-contact}
use Rattle.framing.specs.Frame.{Frame, head_of, contacts_bytes, frame_bytes}
use Rattle.touch.specs.Touch.{contact, touch_record}
use Rattle.frame_records.proofs.Laws.{frame_is, length-frame, drafted-whole}
use Rattle.machine.specs.Rules.{Rules}
use Rattle.machine.specs.Conforms.{every}
use Rattle.machine.specs.Held.{active_ids}
use Rattle.machine.specs.Machine.{Machine, Arrays, in_mode, is_judged, verdict_by, Counts, plus, count_of, Verdict, injected, ignored, cancelled, verdict, step_machine, step_bytes}
use Rattle.machine.proofs.Conforms.{in_table, after-long}
use Rattle.machine.proofs.Machine.{injected-machine, injected-bytes, ignored-machine, ignored-bytes, cancelled-machine, cancelled-bytes, cancels-length}
use Rattle.contacts.specs.Touch.{touch_view, touch_rules}
use Rattle.contacts.specs.Ruling.{contacts_of, of_read, ruling_of, Counted}
use Rattle.contacts.specs.declared.Ruling.{Ruling}
use Rattle.contacts.proofs.Reading.{read-ids}
use Rattle.contacts.proofs.Judgement.{ruled-as-the-rules-say, ruled-injected, ruled-ignored, ruled-cancelled, counted-resting}
use Rattle.moves.proofs.Moving.{stored-all}
use Rattle.openings.proofs.Listed.{listed-all}
use Rattle.runs.specs.declared.Run.{Run}
use Rattle.runs.specs.Runs.{laid_by, ruling_on, run_after, arrays_after, draft_after}

-- a run with its arrays, and its counts, as the machine has them
abbrev pub machine_in : Run → Arrays → Machine
machine_in r a = in_mode r.running a

abbrev pub counts_of : Run → Counts
counts_of r = record { injected = r.injected; ignored = r.ignored; cancelled = r.cancelled }

-- what the machine makes of a frame f, after which the run is r and the arrays are b
pub record Turned (rules : Rules Contact) (f : Frame Contact) (wet : Bool) (run r : Run) (a b : Arrays) (before after : List ℕ) : Type 0 where
  pub machine : machine_in r b ≡ step_machine touch_view rules (machine_in run a) f
  pub active : Counted r.active b.table.states
  pub counts : counts_of r ≡ plus (counts_of run) (count_of (verdict touch_view rules (machine_in run a) f.contacts))
  pub records : record_bytes * r.records ≡ record_bytes * run.records + length (step_bytes touch_view rules (machine_in run a) f)
  pub output : after ≡ laid_by wet (bytes (step_bytes touch_view rules (machine_in run a) f)) before

-- a count that goes up by one frame
counted-as : (rules : Rules Contact) (m : Machine) (cs : List Contact) (a b : Counts) (v : Verdict) → verdict touch_view rules m cs ≡ v → b ≡ plus a (count_of v) → b ≡ plus a (count_of (verdict touch_view rules m cs))
counted-as rules m cs a b v e h = rw e h

-- two drafts that give the same in the room that there is leave the same
same_left : (wet : Bool) (d e : Draft) (before : List ℕ) → given (length before) d ≡ given (length before) e → laid_by wet d before ≡ laid_by wet e before
same_left true d e before h = ap (left before) h
same_left false d e before h = refl

module _ (head : Head) (l : List ℕ) (wet : Bool) (most : ℕ) (run : Run) (a : Arrays) (before : List ℕ) (f : Frame Contact) (rest : List ℕ)
    (h : head ≡ head_of f) (e : contacts_of head.count l ≡ got f.contacts rest) (n : Counted run.active a.table.states) where
  abbrev m : Machine
  m = machine_in run a

  abbrev judged_now : Bool
  judged_now = is_judged touch_view m f.contacts

  abbrev Leads : Ruling → Type 0
  Leads g = Turned (touch_rules most) f wet run (run_after g head.count run) a (arrays_after g head.count l run.running a) before (laid_by wet (draft_after g (length before) head l a.table) before)

  -- it is ruled as the machine's rules say
  ruling-is : Bytes l → ruling_on most run a (contacts_of head.count l) ≡ ruling_of judged_now (touch_rules most) a.table f.contacts
  ruling-is hl =
      let i : every (in_table touch_view) f.contacts ≡ true = sym (ap (of_read true (every (in_table touch_view))) e) ∙ read-ids false head.count l hl in
      ap (ruling_on most run a) e ∙ ruled-as-the-rules-say most a.table.states a.table.xs a.table.ys run.active n judged_now (got f.contacts rest) i

  -- the verdict that a ruling tells
  verdict-is : verdict touch_view (touch_rules most) m f.contacts ≡ verdict_by touch_view judged_now (touch_rules most) a.table f.contacts
  unfolding verdict
  verdict-is = refl

  leads-injected : (k : ℕ) → Ruling.Injected k ≡ ruling_of judged_now (touch_rules most) a.table f.contacts → Leads (Ruling.Injected k)
  leads-injected k q =
      let v = ruled-injected judged_now (touch_rules most) a.table f.contacts k q in
      let o = verdict-is ∙ v.verdict in
      let x = stored-all (contact taken) head.count a.table l f.contacts rest e in
      let c : head.count ≡ length f.contacts = ap (λ (g : Head). g.count) h in
      let s = injected-bytes touch_view (touch_rules most) m f o in
      let d : head_bytes head ++ contacts_bytes touch_record f.contacts ≡ frame_bytes touch_record f = ap (λ (g : Head). head_bytes g ++ contacts_bytes touch_record f.contacts) h ∙ sym (frame_is f) in
      record {
        machine = rw x (sym (injected-machine touch_view (touch_rules most) m f o));
        active = rw x (record { all = after-long touch_view (touch_rules most).next a.table f.contacts ∙ n.all; same = v.active });
        counts = counted-as (touch_rules most) m f.contacts _ _ injected o (λ j. record { injected = run.injected + 1; ignored = sym (add-zero run.ignored) j; cancelled = sym (add-zero run.cancelled) j });
        records = rw (s, length-frame f) (omega arith);
        output = rw s (same_left wet _ _ before (drafted-whole head l f.contacts rest e (length before) ∙ ap (λ (t : List ℕ). given (length before) (bytes t)) d));
      }

  leads-ignored : Ruling.Ignored ≡ ruling_of judged_now (touch_rules most) a.table f.contacts → Leads Ruling.Ignored
  leads-ignored q =
      let o = verdict-is ∙ ruled-ignored judged_now (touch_rules most) a.table f.contacts q in
      let x = listed-all head.count a.held l f.contacts rest e in
      let s = ignored-bytes touch_view (touch_rules most) m f o in
      record {
        machine = rw x (sym (ignored-machine touch_view (touch_rules most) m f o));
        active = n;
        counts = counted-as (touch_rules most) m f.contacts _ _ ignored o (λ j. record { injected = sym (add-zero run.injected) j; ignored = run.ignored + 1; cancelled = sym (add-zero run.cancelled) j });
        records = rw s (omega arith);
        output = rw s;
      }

  leads-cancelled : Ruling.Cancelled ≡ ruling_of judged_now (touch_rules most) a.table f.contacts → Leads Ruling.Cancelled
  leads-cancelled q =
      let o = verdict-is ∙ ruled-cancelled judged_now (touch_rules most) a.table f.contacts q in
      let x = listed-all head.count (active_ids a.table) l f.contacts rest e in
      let s = cancelled-bytes touch_view (touch_rules most) m f o in
      let c = cancels-length touch_view a.table length-contact n.all in
      let z = n.same in
      record {
        machine = rw x (sym (cancelled-machine touch_view (touch_rules most) m f o));
        active = counted-resting;
        counts = counted-as (touch_rules most) m f.contacts _ _ cancelled o (λ j. record { injected = sym (add-zero run.injected) j; ignored = sym (add-zero run.ignored) j; cancelled = run.cancelled + 1 });
        records = rw (s, c) (omega arith);
        output = rw s;
      }

  pub turned : Bytes l → Leads (ruling_on most run a (contacts_of head.count l))
  turned hl = go (ruling_on most run a (contacts_of head.count l)) (ruling-is hl)
    where
      go : (g : Ruling) → g ≡ ruling_of judged_now (touch_rules most) a.table f.contacts → Leads g
      go (Ruling.Injected k) q = leads-injected k q
      go Ruling.Ignored q = leads-ignored q
      go Ruling.Cancelled q = leads-cancelled q
