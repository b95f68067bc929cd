-- Frames that all conform, each from what the one before leaves: a machine that runs injects them all, whatever their offsets.
-- Assumes nothing.
use Prim.Native.Nat.{ℕ, suc, ◌+◌}
use mathlib.Core.Path.{◌≡◌, refl, ap, ◌∙◌}
use mathlib.Core.Bool.{Bool, true, false, cond}
use mathlib.Core.List.{List, [], ◌∷◌, ◌++◌}
use native.Mathlib.Omega.{arith}
use lib.ListN.{length}
use Rattle.house.specs.Layout.{touched}
use Rattle.framing.specs.Frame.{Frame, frame_bytes, frames_bytes, timed_frame, timed_frames}
use Rattle.framing.proofs.Timed.{timed-contacts}
use Rattle.machine.specs.Rules.{View, Rules}
use Rattle.machine.specs.Conforms.{table_after, conforms}
use Rattle.machine.specs.Held.{nobody, opening}
use Rattle.machine.specs.Machine.{Machine, injected, ignored, cancelled, verdict, machine_after, step_machine, step_bytes, Counts, count_of, plus, run_machine, run_bytes, run_counts, all_conform}
use Rattle.machine.proofs.Conforms.{both_left, both_right}
use Rattle.machine.proofs.Machine.{injected-machine, injected-bytes}

-- so many frames, all injected
abbrev pub all_injected : ℕ → Counts
all_injected n = record { injected = n; ignored = 0; cancelled = 0 }

module _ {C : Type 0} (view : View C) (rules : Rules C) where
  -- ---- one turn

  -- a frame that conforms is injected, the mode being running
  pub conforms-injected : (m : Machine) (cs : List C) → m.running ≡ true → conforms view rules m.table cs ≡ true → verdict view rules m cs ≡ injected
  unfolding verdict
  conforms-injected m cs r h =
      ap (λ b. cond (cond b true (opening view m.held cs)) (cond (conforms view rules m.table cs) injected cancelled) ignored) r ∙ rw h

  pub conforms-machine : (m : Machine) (f : Frame C) → m.running ≡ true → conforms view rules m.table f.contacts ≡ true
      → step_machine view rules m f ≡ record { table = table_after view rules.next m.table f.contacts; running = true; held = m.held }
  conforms-machine m f r h =
      let t = table_after view rules.next m.table f.contacts in
      injected-machine view rules m f (conforms-injected m f.contacts r h)
      ∙ ap (λ b. record { table = t; running = true; held = cond b m.held nobody }) r

  conforms-bytes : (m : Machine) (f : Frame C) → m.running ≡ true → conforms view rules m.table f.contacts ≡ true
      → step_bytes view rules m f ≡ frame_bytes (view.bytes touched) f
  conforms-bytes m f r h = injected-bytes view rules m f (conforms-injected m f.contacts r h)

  -- .. after which it is running still
  still-running : (m : Machine) (f : Frame C) → m.running ≡ true → conforms view rules m.table f.contacts ≡ true → (step_machine view rules m f).running ≡ true
  still-running m f r h = ap (λ (n : Machine). n.running) (conforms-machine m f r h)

  -- ---- all turns: the first frame conforms, and the others from what it leaves

  module _ (m : Machine) (f : Frame C) (fs : List (Frame C)) where
    pub first-conforms : all_conform view rules m (f ∷ fs) ≡ true → conforms view rules m.table f.contacts ≡ true
    unfolding all_conform
    first-conforms h = both_left (conforms view rules m.table f.contacts) (all_conform view rules (step_machine view rules m f) fs) h

    pub others-conform : all_conform view rules m (f ∷ fs) ≡ true → all_conform view rules (step_machine view rules m f) fs ≡ true
    unfolding all_conform
    others-conform h = both_right (conforms view rules m.table f.contacts) (all_conform view rules (step_machine view rules m f) fs) h

  pub all-running : (m : Machine) (fs : List (Frame C)) → m.running ≡ true → all_conform view rules m fs ≡ true → (run_machine view rules m fs).running ≡ true
  unfolding run_machine
  all-running m [] r h = r
  all-running m (f ∷ fs) r h = all-running (step_machine view rules m f) fs (still-running m f r (first-conforms m f fs h)) (others-conform m f fs h)

  -- .. and the set is as it was
  pub all_held : (m : Machine) (fs : List (Frame C)) → m.running ≡ true → all_conform view rules m fs ≡ true → (run_machine view rules m fs).held ≡ m.held
  unfolding run_machine
  all_held m [] r h = refl
  all_held m (f ∷ fs) r h =
      let c = first-conforms m f fs h in
      all_held (step_machine view rules m f) fs (still-running m f r c) (others-conform m f fs h) ∙ ap (λ (n : Machine). n.held) (conforms-machine m f r c)

  pub all-bytes : (m : Machine) (fs : List (Frame C)) → m.running ≡ true → all_conform view rules m fs ≡ true
      → run_bytes view rules m fs ≡ frames_bytes (view.bytes touched) fs
  unfolding run_bytes frames_bytes
  all-bytes m [] r h = refl
  all-bytes m (f ∷ fs) r h =
      let c = first-conforms m f fs h in
      let b = all-bytes (step_machine view rules m f) fs (still-running m f r c) (others-conform m f fs h) in
      ap (λ (s : List ℕ). s ++ run_bytes view rules (step_machine view rules m f) fs) (conforms-bytes m f r c) ∙ ap (λ (s : List ℕ). frame_bytes (view.bytes touched) f ++ s) b

  pub all-counts : (m : Machine) (fs : List (Frame C)) → m.running ≡ true → all_conform view rules m fs ≡ true → run_counts view rules m fs ≡ all_injected (length fs)
  unfolding run_counts
  all-counts m [] r h = refl
  all-counts m (f ∷ fs) r h =
      let c = first-conforms m f fs h in
      let k = all-counts (step_machine view rules m f) fs (still-running m f r c) (others-conform m f fs h) in
      ap (λ v. plus (count_of v) (run_counts view rules (step_machine view rules m f) fs)) (conforms-injected m f.contacts r c) ∙ ap (plus (all_injected 1)) k ∙ one_more (length fs)
    where
      one_more : (n : ℕ) → plus (all_injected 1) (all_injected n) ≡ all_injected (suc n)
      one_more n = let e : 1 + n ≡ suc n = omega arith in λ i. record { injected = e i; ignored = 0; cancelled = 0 }

  -- ---- offsets are not looked at

  module _ (untimed : Bool) where
    pub timed-step : (m : Machine) (f : Frame C) → step_machine view rules m (timed_frame untimed f) ≡ step_machine view rules m f
    unfolding step_machine
    timed-step m f = ap (λ (cs : List C). machine_after view (verdict view rules m cs) rules.next m cs) (timed-contacts untimed f)

    pub timed-machine : (m : Machine) (fs : List (Frame C)) → run_machine view rules m (timed_frames untimed fs) ≡ run_machine view rules m fs
    unfolding run_machine timed_frames
    timed-machine m [] = refl
    timed-machine m (f ∷ fs) =
        ap (λ (n : Machine). run_machine view rules n (timed_frames untimed fs)) (timed-step m f) ∙ timed-machine (step_machine view rules m f) fs

    pub timed-conform : (m : Machine) (fs : List (Frame C)) → all_conform view rules m (timed_frames untimed fs) ≡ all_conform view rules m fs
    unfolding all_conform timed_frames
    timed-conform m [] = refl
    timed-conform m (f ∷ fs) =
        rw (timed-contacts untimed f, timed-step m f)
        (ap (λ (b : Bool). cond (conforms view rules m.table f.contacts) b false) (timed-conform (step_machine view rules m f) fs))
