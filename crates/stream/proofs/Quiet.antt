-- After a cancel nothing is written until a frame opens.
-- Assumes nothing.
use Prim.Native.Nat.{ℕ}
use mathlib.Core.Path.{◌≡◌, refl, sym, ap, ◌∙◌}
use mathlib.Core.Bool.{Bool, true, false, cond}
use mathlib.Core.List.{List, [], ◌∷◌, ◌++◌, append-nil, append_assoc}
use native.Mathlib.Omega.{arith}
use lib.ListN.{length, length-append}
use Rattle.states.specs.Table.{hovering}
use Rattle.well_formed.proofs.WellFormed.{never}
use Rattle.framing.specs.Frame.{Frame, timed_frame, timed_frames}
use Rattle.framing.proofs.Timed.{timed-contacts, timed-none, timed-cons, timed-append}
use Rattle.machine.specs.Table.{Table, resting, state_at}
use Rattle.machine.specs.Rules.{View, Rules}
use Rattle.machine.specs.Held.{opening}
use Rattle.machine.specs.Machine.{Machine, cancelled, verdict, cancels, step_machine, run_machine, run_bytes}
use Rattle.machine.proofs.Table.{resting-state}
use Rattle.machine.proofs.Machine.{verdict-other, ignored-machine, ignored-bytes, cancelled-machine, cancelled-bytes, machine-append, bytes-append, keep-table, keep-bytes}
use Rattle.machine.proofs.Conforming.{timed-step}
use Rattle.stream.specs.Stream.{Profile, Stream, Given, nothing, settings, frames, dismissal, frames_given, opens, unopened, Unopened, UnopenedAfter, Silent, SilentAs, machine_at, bytes_at, CancelledAfter, next, wrote, after, written}

-- ---- one of two tests is not passed, and the other is

not_first : (a b : Bool) → cond a false b ≡ true → a ≡ false
not_first true b h = never h refl
not_first false b h = refl

but-second : (a b : Bool) → cond a false b ≡ true → b ≡ true
but-second true b h = never h refl
but-second false b h = h

-- a machine that ignores, every contact out of range
record Still (m : Machine) : Type 0 where
  ignoring : m.running ≡ false
  resting : m.table ≡ resting

still-by : (m n : Machine) → m ≡ n → Still n → Still m
still-by m n e k =
    record { ignoring = ap (λ (k : Machine). k.running) e ∙ k.ignoring; resting = ap (λ (k : Machine). k.table) e ∙ k.resting }

module _ {C : Type 0} (view : View C) where
  -- ---- frames open or not with whatever offset

  pub timed-opens : (untimed : Bool) (m : Machine) (f : Frame C) → opens view m (timed_frame untimed f) ≡ opens view m f
  timed-opens untimed m f = ap (opening view m.held) (timed-contacts untimed f)

  module _ (rules : Rules C) where
    timed-unopened : (untimed : Bool) (m : Machine) (fs : List (Frame C)) → unopened view rules m (timed_frames untimed fs) ≡ unopened view rules m fs
    unfolding unopened
    timed-unopened untimed m [] = rw (timed-none untimed)
    timed-unopened untimed m (f ∷ fs) =
        rw (timed-cons untimed f fs, timed-contacts untimed f, timed-step view rules untimed m f)
        (ap (λ b. cond (opens view m f) false b) (timed-unopened untimed (step_machine view rules m f) fs))

    nothing-unopened : (m : Machine) → unopened view rules m [] ≡ true
    unfolding unopened
    nothing-unopened m = refl

    -- ---- frames that do not open, to a machine that ignores

    module _ (m : Machine) (f : Frame C) (fs : List (Frame C)) (u : unopened view rules m (f ∷ fs) ≡ true) where
      first-unopened : opens view m f ≡ false
      unfolding unopened
      first-unopened = not_first (opens view m f) (unopened view rules (step_machine view rules m f) fs) u

      others-unopened : unopened view rules (step_machine view rules m f) fs ≡ true
      unfolding unopened
      others-unopened = but-second (opens view m f) (unopened view rules (step_machine view rules m f) fs) u

    -- they change nothing but the set
    pub quiet-machine : (m : Machine) (fs : List (Frame C)) → m.running ≡ false → unopened view rules m fs ≡ true
        → run_machine view rules m fs ≡ record { table = m.table; running = m.running; held = (run_machine view rules m fs).held }
    unfolding run_machine
    quiet-machine m [] h u = refl
    quiet-machine m (f ∷ fs) h u =
        let n = step_machine view rules m f in
        let e = ignored-machine view rules m f (verdict-other view rules m f.contacts h (first-unopened m f fs u)) in
        quiet-machine n fs (ap (λ (k : Machine). k.running) e ∙ h) (others-unopened m f fs u)
        ∙ (λ i. record { table = (e i).table; running = (e i).running; held = (run_machine view rules n fs).held })

    pub quiet-bytes : (m : Machine) (fs : List (Frame C)) → m.running ≡ false → unopened view rules m fs ≡ true → run_bytes view rules m fs ≡ []
    unfolding run_bytes
    quiet-bytes m [] h u = refl
    quiet-bytes m (f ∷ fs) h u =
        let v = verdict-other view rules m f.contacts h (first-unopened m f fs u) in
        let r = ap (λ (k : Machine). k.running) (ignored-machine view rules m f v) ∙ h in
        rw (ignored-bytes view rules m f v) (quiet-bytes (step_machine view rules m f) fs r (others-unopened m f fs u))

    quiet-still : (m : Machine) (fs : List (Frame C)) → Still m → unopened view rules m fs ≡ true → Still (run_machine view rules m fs)
    quiet-still m fs k u =
        still-by (run_machine view rules m fs) _ (quiet-machine m fs k.ignoring u) (record { ignoring = k.ignoring; resting = k.resting })

    -- a cancelled frame, and the frames after it that do not open
    module _ (m : Machine) (fs : List (Frame C)) (f : Frame C) (gs : List (Frame C)) (v : verdict view rules (run_machine view rules m fs) f.contacts ≡ cancelled)
        (u : unopened view rules (run_machine view rules m (fs ++ (f ∷ []))) gs ≡ true) where
      abbrev cut : Machine
      cut = step_machine view rules (run_machine view rules m fs) f

      cut-still : Still cut
      cut-still = still-by cut _ (cancelled-machine view rules (run_machine view rules m fs) f v) (record { ignoring = refl; resting = refl })

      cut-unopened : unopened view rules cut gs ≡ true
      unfolding run_machine
      cut-unopened = ap (λ (k : Machine). unopened view rules k gs) (sym (machine-append view rules m fs (f ∷ []))) ∙ u

      cancel-still : Still (run_machine view rules m (fs ++ (f ∷ gs)))
      unfolding run_machine
      cancel-still =
          still-by (run_machine view rules m (fs ++ (f ∷ gs))) (run_machine view rules cut gs) (machine-append view rules m fs (f ∷ gs)) (quiet-still cut gs cut-still cut-unopened)

      cancel-bytes : run_bytes view rules m (fs ++ (f ∷ gs)) ≡ run_bytes view rules m fs ++ cancels view (run_machine view rules m fs).table
      unfolding run_bytes
      cancel-bytes =
          let n = run_machine view rules m fs in
          bytes-append view rules m fs (f ∷ gs)
          ∙ rw (cancelled-bytes view rules n f v, quiet-bytes cut gs cut-still.ignoring cut-unopened)
          (ap (λ (l : List ℕ). run_bytes view rules m fs ++ l) (append-nil (cancels view n.table)))

-- ---- messages to a silent stream

pub record Nothing {S : Type 0} (s : Stream S) (bytes : List ℕ) : Type 0 where
  pub still : Silent s
  pub none : bytes ≡ []

silent-by : {S : Type 0} (s : Stream S) → Still s.machine → Silent s
silent-by s k = record { ignoring = k.ignoring; resting = k.resting }

module _ {S C : Type 0} (profile : Profile S C) where
  abbrev rules_in : Stream S → Rules C
  rules_in s = profile.rules s.settings

  abbrev untimed_in : Stream S → Bool
  untimed_in s = profile.untimed s.settings

  abbrev timed_in : Stream S → List (Frame C) → List (Frame C)
  timed_in s fs = timed_frames (untimed_in s) fs

  -- none of the first frames of a message opens
  module _ (s : Stream S) (gs : List (Frame C)) (k : Silent s) (u : UnopenedAfter profile s [] gs) where
    front-unopened : unopened profile.view (rules_in s) s.machine (timed_in s gs) ≡ true
    unfolding run_machine timed_frames
    front-unopened = timed-unopened profile.view (rules_in s) (untimed_in s) s.machine gs ∙ u

    front-still : Still (machine_at profile s gs)
    front-still =
        quiet-still profile.view (rules_in s) s.machine (timed_in s gs) (record { ignoring = k.ignoring; resting = k.resting }) front-unopened

    front_bytes : bytes_at profile s gs ≡ []
    front_bytes = quiet-bytes profile.view (rules_in s) s.machine (timed_in s gs) k.ignoring front-unopened

  next-quiet : (s : Stream S) (g : Given S C) → Silent s → UnopenedAfter profile s [] (frames_given g) → Nothing (next profile s g) (wrote profile s g)
  unfolding next wrote
  next-quiet s nothing k u = record { still = k; none = refl }
  next-quiet s (settings x) k u = record { still = record { ignoring = k.ignoring; resting = k.resting }; none = refl }
  next-quiet s (frames fs) k u = record { still = silent-by (next profile s (frames fs)) (front-still s fs k u); none = front_bytes s fs k u }
  next-quiet s (dismissal id) k u =
      let n : state_at s.machine.table id ≡ hovering → ⊥ = λ h. omega (arith, ap (λ (t : Table). state_at t id) k.resting ∙ resting-state id) in
      record {
        still = record { ignoring = k.ignoring; resting = keep-table s.machine.table id n ∙ k.resting };
        none = keep-bytes profile.view s.machine.table id n;
      }

  pub after-quiet : (s : Stream S) (gs : List (Given S C)) → Silent s → Unopened profile s gs → Nothing (after profile s gs) (written profile s gs)
  unfolding after written Unopened
  after-quiet s [] k u = record { still = k; none = refl }
  after-quiet s (g ∷ gs) k u =
      let a = next-quiet s g k u.0 in
      let b = after-quiet (next profile s g) gs a.still u.1 in
      record { still = b.still; none = rw (a.none, b.none) }

  -- a message to a silent stream writes what its frames do
  silent-wrote : (s : Stream S) (g : Given S C) → Silent s → wrote profile s g ≡ bytes_at profile s (frames_given g)
  unfolding wrote run_bytes timed_frames
  silent-wrote s nothing k = refl
  silent-wrote s (settings x) k = refl
  silent-wrote s (frames fs) k = refl
  silent-wrote s (dismissal id) k = (next-quiet s (dismissal id) k (nothing-unopened profile.view (rules_in s) (machine_at profile s []))).none

  -- ---- frames that leave a machine silent, and the others: those are as to any silent stream with these settings and this set

  module _ (s : Stream S) (fs hs : List (Frame C)) (k : Still (machine_at profile s fs)) (q : Stream S) (a : SilentAs profile s fs q) where
    there : machine_at profile s fs ≡ q.machine
    there =
        λ i. record {
          table = (k.resting ∙ sym a.silent.resting) i;
          running = (k.ignoring ∙ sym a.silent.ignoring) i;
          held = sym a.held i;
        }

    then-machine : machine_at profile s (fs ++ hs) ≡ machine_at profile q hs
    then-machine =
        ap (run_machine profile.view (rules_in s) s.machine) (timed-append (untimed_in s) fs hs)
        ∙ (machine-append profile.view (rules_in s) s.machine (timed_in s fs) (timed_in s hs)
        ∙ (λ i. let x : S = sym a.settings i in run_machine profile.view (profile.rules x) (there i) (timed_frames (profile.untimed x) hs)))

    then-bytes : bytes_at profile s (fs ++ hs) ≡ bytes_at profile s fs ++ bytes_at profile q hs
    then-bytes =
        ap (run_bytes profile.view (rules_in s) s.machine) (timed-append (untimed_in s) fs hs)
        ∙ (bytes-append profile.view (rules_in s) s.machine (timed_in s fs) (timed_in s hs)
        ∙ (λ i. let x : S = sym a.settings i in bytes_at profile s fs ++ run_bytes profile.view (profile.rules x) (there i) (timed_frames (profile.untimed x) hs)))

  -- the first frames of a message, none of which opens
  pub front-wrote : (s : Stream S) (g : Given S C) (gs hs : List (Frame C)) → Silent s → frames_given g ≡ gs ++ hs → UnopenedAfter profile s [] gs
      → (q : Stream S) → SilentAs profile s gs q → wrote profile s g ≡ bytes_at profile q hs
  front-wrote s g gs hs k e u q a =
      silent-wrote s g k
      ∙ (ap (bytes_at profile s) e
      ∙ (then-bytes s gs hs (front-still s gs k u) q a ∙ ap (λ (l : List ℕ). l ++ bytes_at profile q hs) (front_bytes s gs k u)))

  -- ---- a cancelled frame in a message, up to it and after it

  pub record Since (s : Stream S) (fs : List (Frame C)) (q : Stream S) (bytes : List ℕ) : Type 0 where
    pub silent : Silent q
    pub own : bytes ≡ bytes_at profile s fs ++ cancels profile.view (machine_at profile s fs).table

  module _ (s : Stream S) (fs : List (Frame C)) (f : Frame C) (gs : List (Frame C)) (v : CancelledAfter profile s fs f) (u : UnopenedAfter profile s (fs ++ (f ∷ [])) gs) where
    parts : (hs : List (Frame C)) → timed_in s (fs ++ (f ∷ hs)) ≡ timed_in s fs ++ (timed_frame (untimed_in s) f ∷ timed_in s hs)
    parts hs = timed-append (untimed_in s) fs (f ∷ hs) ∙ rw (timed-cons (untimed_in s) f hs)

    cancelled-there : verdict profile.view (rules_in s) (machine_at profile s fs) (timed_frame (untimed_in s) f).contacts ≡ cancelled
    cancelled-there = ap (verdict profile.view (rules_in s) (machine_at profile s fs)) (timed-contacts (untimed_in s) f) ∙ v

    unopened-there : unopened profile.view (rules_in s) (run_machine profile.view (rules_in s) s.machine (timed_in s fs ++ (timed_frame (untimed_in s) f ∷ []))) (timed_in s gs) ≡ true
    unopened-there =
        let n = run_machine profile.view (rules_in s) s.machine (timed_in s fs ++ (timed_frame (untimed_in s) f ∷ [])) in
        timed-unopened profile.view (rules_in s) (untimed_in s) n gs
        ∙ (ap (λ (l : List (Frame C)). unopened profile.view (rules_in s) (run_machine profile.view (rules_in s) s.machine l) gs) (sym (rw (timed-none (untimed_in s)) at (parts []))) ∙ u)

    cancelled-still : Still (machine_at profile s (fs ++ (f ∷ gs)))
    cancelled-still =
        rw (parts gs)
        (cancel-still profile.view (rules_in s) s.machine (timed_in s fs) (timed_frame (untimed_in s) f) (timed_in s gs) cancelled-there unopened-there)

    own-bytes : bytes_at profile s (fs ++ (f ∷ gs)) ≡ bytes_at profile s fs ++ cancels profile.view (machine_at profile s fs).table
    own-bytes =
        ap (run_bytes profile.view (rules_in s) s.machine) (parts gs)
        ∙ cancel-bytes profile.view (rules_in s) s.machine (timed_in s fs) (timed_frame (untimed_in s) f) (timed_in s gs) cancelled-there unopened-there

    cancel-silences : Since s fs (next profile s (frames (fs ++ (f ∷ gs)))) (wrote profile s (frames (fs ++ (f ∷ gs))))
    unfolding next wrote
    cancel-silences = record { silent = silent-by (next profile s (frames (fs ++ (f ∷ gs)))) cancelled-still; own = own-bytes }

    -- .. and the others, to which the stream is another silent one
    module _ (hs : List (Frame C)) (q : Stream S) (a : SilentAs profile s (fs ++ (f ∷ gs)) q) where
      longer : fs ++ (f ∷ (gs ++ hs)) ≡ (fs ++ (f ∷ gs)) ++ hs
      longer = sym (append_assoc fs (f ∷ gs) hs)

      cancel-then-machine : machine_at profile s (fs ++ (f ∷ (gs ++ hs))) ≡ machine_at profile q hs
      cancel-then-machine = ap (machine_at profile s) longer ∙ then-machine s (fs ++ (f ∷ gs)) hs cancelled-still q a

      cancel-then-bytes : bytes_at profile s (fs ++ (f ∷ (gs ++ hs))) ≡ (bytes_at profile s fs ++ cancels profile.view (machine_at profile s fs).table) ++ bytes_at profile q hs
      cancel-then-bytes =
          ap (bytes_at profile s) longer
          ∙ (then-bytes s (fs ++ (f ∷ gs)) hs cancelled-still q a ∙ ap (λ (l : List ℕ). l ++ bytes_at profile q hs) own-bytes)

  no-frame : {P : Type 0} (fs gs : List (Frame C)) (f : Frame C) → [] ≡ fs ++ (f ∷ gs) → P
  no-frame fs gs f e = absurd (omega (arith, simp length-append at (ap length e)))

  -- a message that has a frame is its frames
  some-frames : (g : Given S C) (fs : List (Frame C)) (f : Frame C) (gs : List (Frame C)) → frames_given g ≡ fs ++ (f ∷ gs) → g ≡ frames (fs ++ (f ∷ gs))
  some-frames nothing fs f gs e = no-frame fs gs f e
  some-frames (settings x) fs f gs e = no-frame fs gs f e
  some-frames (dismissal id) fs f gs e = no-frame fs gs f e
  some-frames (frames hs) fs f gs e = ap frames e

  cancel-next : (s : Stream S) (g : Given S C) (fs : List (Frame C)) (f : Frame C) (gs : List (Frame C)) → frames_given g ≡ fs ++ (f ∷ gs) → CancelledAfter profile s fs f → UnopenedAfter profile s (fs ++ (f ∷ [])) gs
      → Since s fs (next profile s g) (wrote profile s g)
  cancel-next s g fs f gs e v u = rw (some-frames g fs f gs e) (cancel-silences s fs f gs v u)

  module _ (s : Stream S) (g : Given S C) (fs : List (Frame C)) (f : Frame C) (gs hs : List (Frame C)) (e : frames_given g ≡ fs ++ (f ∷ (gs ++ hs))) (v : CancelledAfter profile s fs f) (u : UnopenedAfter profile s (fs ++ (f ∷ [])) gs)
      (q : Stream S) (a : SilentAs profile s (fs ++ (f ∷ gs)) q) where
    pub cancel-wrote : wrote profile s g ≡ (bytes_at profile s fs ++ cancels profile.view (machine_at profile s fs).table) ++ bytes_at profile q hs
    unfolding wrote
    cancel-wrote = rw (some-frames g fs f (gs ++ hs) e) (cancel-then-bytes s fs f gs v u hs q a)

    pub cancel_left : (next profile s g).machine ≡ machine_at profile q hs
    unfolding next
    cancel_left = rw (some-frames g fs f (gs ++ hs) e) (cancel-then-machine s fs f gs v u hs q a)

  pub since-cancel : (s : Stream S) (g : Given S C) (more : List (Given S C)) (fs : List (Frame C)) (f : Frame C) (gs : List (Frame C)) → frames_given g ≡ fs ++ (f ∷ gs) → CancelledAfter profile s fs f → UnopenedAfter profile s (fs ++ (f ∷ [])) gs
      → Unopened profile (next profile s g) more → Since s fs (after profile s (g ∷ more)) (written profile s (g ∷ more))
  unfolding after written
  since-cancel s g more fs f gs e v u k =
      let a = cancel-next s g fs f gs e v u in
      let b = after-quiet (next profile s g) more a.silent k in
      record { silent = b.still; own = ap (λ (l : List ℕ). wrote profile s g ++ l) b.none ∙ (append-nil (wrote profile s g) ∙ a.own) }
