-- From an opening frame on, while no contact is active, a stream is as a rested one.
-- Assumes nothing.
use Prim.Native.Nat.{ℕ}
use mathlib.Core.Path.{◌≡◌, refl, sym, ap, ◌∙◌}
use mathlib.Core.Bool.{Bool, true, false, cond}
use mathlib.Core.List.{List, [], ◌∷◌, ◌++◌, append_assoc}
use lib.ListN.{length}
use Rattle.framing.specs.Frame.{Frame, timed_frame, timed_frames, begun_by}
use Rattle.framing.proofs.Begun.{begun-some}
use Rattle.framing.proofs.Timed.{timed-cons, timed-append}
use Rattle.machine.specs.Table.{Table, resting}
use Rattle.machine.specs.Rules.{View, Rules}
use Rattle.machine.specs.Conforms.{conforms}
use Rattle.machine.specs.Held.{nobody, opening}
use Rattle.machine.specs.Machine.{Machine, running_with, injected, cancelled, verdict, machine_after, bytes_for, step_machine, step_bytes, run_machine, run_bytes}
use Rattle.machine.proofs.Machine.{machine-append, bytes-append}
use Rattle.stream.specs.Stream.{Profile, Stream, Given, frames, opens, rested, machine_at, bytes_at, next, wrote, after, written, AsRested}
use Rattle.stream.proofs.Quiet.{timed-opens}

-- ---- an opening frame, in either mode: running there is no set, and ignoring the frame empties it

module _ {C : Type 0} (view : View C) (rules : Rules C) (t : Table) (held : List ℕ) (f : Frame C) (o : opening view held f.contacts ≡ true) where
  abbrev machine_in : Bool → Machine
  machine_in b = record { table = t; running = b; held = held }

  open-machine : (b : Bool) → (b ≡ true → held ≡ nobody) → step_machine view rules (machine_in b) f ≡ step_machine view rules (running_with t) f
  unfolding step_machine verdict
  open-machine true e = ap (λ h. step_machine view rules (record { table = t; running = true; held = h }) f) (e refl)
  open-machine false e = rw o (go (conforms view rules t f.contacts))
    where
      go : (c : Bool) → machine_after view (cond c injected cancelled) rules.next (machine_in false) f.contacts ≡ machine_after view (cond c injected cancelled) rules.next (running_with t) f.contacts
      go true = refl
      go false = refl

  bytes-alike : (b c : Bool) → bytes_for view (cond c injected cancelled) (machine_in b) f ≡ bytes_for view (cond c injected cancelled) (running_with t) f
  bytes-alike b true = refl
  bytes-alike b false = refl

  open-bytes : (b : Bool) → step_bytes view rules (machine_in b) f ≡ step_bytes view rules (running_with t) f
  unfolding step_bytes verdict
  open-bytes true = bytes-alike true (conforms view rules t f.contacts)
  open-bytes false = rw o (bytes-alike false (conforms view rules t f.contacts))

-- ---- the frames of a message from an opening one on, with no contact active before it

module _ {C : Type 0} (view : View C) (rules : Rules C) (m : Machine) (e : m.table ≡ resting) (n : m.running ≡ true → m.held ≡ nobody) (f : Frame C) (fs : List (Frame C)) (o : opens view m f ≡ true) where
  in-mode : m ≡ record { table = resting; running = m.running; held = m.held }
  in-mode = λ i. record { table = e i; running = m.running; held = m.held }

  first-machine : step_machine view rules m f ≡ step_machine view rules (running_with resting) f
  first-machine = ap (λ (k : Machine). step_machine view rules k f) in-mode ∙ open-machine view rules resting m.held f o m.running n

  first-bytes : step_bytes view rules m f ≡ step_bytes view rules (running_with resting) f
  first-bytes = ap (λ (k : Machine). step_bytes view rules k f) in-mode ∙ open-bytes view rules resting m.held f o m.running

  from-machine : run_machine view rules m (f ∷ fs) ≡ run_machine view rules (running_with resting) (f ∷ fs)
  unfolding run_machine
  from-machine = ap (λ (k : Machine). run_machine view rules k fs) first-machine

  from_bytes : run_bytes view rules m (f ∷ fs) ≡ run_bytes view rules (running_with resting) (f ∷ fs)
  unfolding run_bytes
  from_bytes = λ i. first-bytes i ++ run_bytes view rules (first-machine i) fs

-- ---- the two streams

module _ {S C : Type 0} (profile : Profile S C) (s : Stream S) (fs : List (Frame C)) (f : Frame C) (gs : List (Frame C)) (o : opens profile.view (machine_at profile s fs) f ≡ true) (z : (machine_at profile s fs).table ≡ resting)
    (n : (machine_at profile s fs).running ≡ true → (machine_at profile s fs).held ≡ nobody) where
  abbrev untimed : Bool
  untimed = profile.untimed s.settings

  abbrev rules : Rules C
  rules = profile.rules s.settings

  timed-open : opens profile.view (machine_at profile s fs) (timed_frame untimed f) ≡ true
  timed-open = timed-opens profile.view untimed (machine_at profile s fs) f ∙ o

  whole-machine : machine_at profile s (fs ++ (f ∷ gs)) ≡ machine_at profile (rested s.settings) (f ∷ gs)
  unfolding rested
  whole-machine =
      rw (timed-append untimed fs (f ∷ gs), timed-cons untimed f gs)
      (machine-append profile.view rules s.machine (timed_frames untimed fs) (timed_frame untimed f ∷ timed_frames untimed gs)
      ∙ from-machine profile.view rules (machine_at profile s fs) z n (timed_frame untimed f) (timed_frames untimed gs) timed-open)

  whole-bytes : bytes_at profile s (fs ++ (f ∷ gs)) ≡ bytes_at profile s fs ++ bytes_at profile (rested s.settings) (f ∷ gs)
  unfolding rested
  whole-bytes =
      rw (timed-append untimed fs (f ∷ gs), timed-cons untimed f gs)
      (bytes-append profile.view rules s.machine (timed_frames untimed fs) (timed_frame untimed f ∷ timed_frames untimed gs)
      ∙ ap (λ (l : List ℕ). bytes_at profile s fs ++ l) (from_bytes profile.view rules (machine_at profile s fs) z n (timed_frame untimed f) (timed_frames untimed gs) timed-open))

  begun-whole : begun_by true s.begun (length (fs ++ (f ∷ gs))) ≡ begun_by true true (length (f ∷ gs))
  begun-whole = begun-some true s.begun fs f gs ∙ sym (begun-some true true [] f gs)

  rested-next : next profile s (frames (fs ++ (f ∷ gs))) ≡ next profile (rested s.settings) (frames (f ∷ gs))
  unfolding next rested
  rested-next = λ i. record { settings = s.settings; machine = whole-machine i; begun = begun-whole i }

  rested-wrote : wrote profile s (frames (fs ++ (f ∷ gs))) ≡ bytes_at profile s fs ++ wrote profile (rested s.settings) (frames (f ∷ gs))
  unfolding wrote
  rested-wrote = whole-bytes

  pub rested-from : (more : List (Given S C)) → AsRested profile s fs f gs more
  unfolding after written
  rested-from more =
      let q = next profile (rested s.settings) (frames (f ∷ gs)) in
      record {
        stream = rested-next;
        bytes = rested-wrote;
        after = ap (λ (k : Stream S). after profile k more) rested-next;
        written =
            (λ i. rested-wrote i ++ written profile (rested-next i) more)
            ∙ append_assoc (bytes_at profile s fs) (wrote profile (rested s.settings) (frames (f ∷ gs))) (written profile q more);
      }
