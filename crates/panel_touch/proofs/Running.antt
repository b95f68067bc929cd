-- A run over the frames of records: those still to come, from the table as it is, give what all of them give from the table as it was.
-- Assumes nothing.
use Prim.Native.Nat.{ℕ, ◌≤◌, ◌<◌}
use mathlib.Core.Path.{◌≡◌, refl, sym, ap, ◌∙◌}
use mathlib.Core.Bool.{true, false}
use mathlib.Core.List.{List, [], ◌∷◌}
use native.Mathlib.Omega.{arith}
use lib.ListN.{length}
use Rattle.std.specs.Prelude.{Some, None}
use Rattle.std.specs.Borrow.{Bor}
use Rattle.formats.specs.Format.{got}
use Rattle.house.specs.declared.Contact.{Contact}
use Rattle.framing.specs.Frame.{Frame}
use Rattle.recordings.specs.Records.{frames_in}
use Rattle.recordings.proofs.Judged.{frame-shorter}
use Rattle.machine.specs.Table.{Table}
use Rattle.machine.specs.Rules.{Rules}
use Rattle.machine.specs.Conforms.{conforms}
use Rattle.machine.specs.Machine.{Machine, running_with, step_machine, run_machine, all_conform}
use Rattle.machine.proofs.Conforming.{conforms-machine}
use Rattle.contacts.specs.Touch.{touch_view}
use Rattle.contacts.specs.Ruling.{Counted}
use Rattle.panel_checks.proofs.Recorded.{First, first, none_left}
use Rattle.panel_touch.specs.Judging.{BeginsFrame, Steps}

module _ (rules : Rules Contact) where
  -- ---- one frame more

  module _ (m : Machine) (f : Frame Contact) (fs : List (Frame Contact)) where
    conform-on : conforms touch_view rules m.table f.contacts ≡ true → all_conform touch_view rules m (f ∷ fs) ≡ all_conform touch_view rules (step_machine touch_view rules m f) fs
    unfolding all_conform
    conform-on h = rw h

    conform-not : conforms touch_view rules m.table f.contacts ≡ false → all_conform touch_view rules m (f ∷ fs) ≡ false
    unfolding all_conform
    conform-not h = rw h

    machine-on : run_machine touch_view rules m (f ∷ fs) ≡ run_machine touch_view rules (step_machine touch_view rules m f) fs
    unfolding run_machine
    machine-on = refl

  none-conform : (m : Machine) → all_conform touch_view rules m [] ≡ true
  unfolding all_conform
  none-conform m = refl

  none-machine : (m : Machine) → run_machine touch_view rules m [] ≡ m
  unfolding run_machine
  none-machine m = refl

  -- ---- the run under way

  module _ (t₀ : Table) (fs : List (Frame Contact)) (end : List ℕ) where
    pub record Underway (active : ℕ) (l : List ℕ) (t : Table) : Type 0 where
      pub ahead : List (Frame Contact)
      pub read : frames_in l ≡ got ahead end
      pub counted : Counted active t.states
      pub conform : all_conform touch_view rules (running_with t) ahead ≡ all_conform touch_view rules (running_with t₀) fs
      pub machine : run_machine touch_view rules (running_with t) ahead ≡ run_machine touch_view rules (running_with t₀) fs

    -- a frame's turn leaves less
    pub record Turned (l : List ℕ) (active : ℕ) (left : List ℕ) (u : Table) : Type 0 where
      pub shorter : length left < length l
      pub under : Underway active left u

    module _ (active : ℕ) (l : List ℕ) (t : Table) (w : Underway active l t) where
      pub underway-last : length l ≤ 0 → (true ≡ all_conform touch_view rules (running_with t₀) fs) × (running_with t ≡ run_machine touch_view rules (running_with t₀) fs)
      underway-last h =
          let z = none_left l w.ahead end h w.read in
          let a : all_conform touch_view rules (running_with t) w.ahead ≡ true = rw z (none-conform (running_with t)) in
          let b : run_machine touch_view rules (running_with t) w.ahead ≡ running_with t = rw z (none-machine (running_with t)) in
          (sym a ∙ w.conform, sym b ∙ w.machine)

      module _ (h : 0 < length l) where
        here : First l w.ahead end
        here = first l w.ahead end h w.read

        pub begins : BeginsFrame l
        begins = record { frame = here.frame; after = here.after; read = here.read }

        module _ (u : Table) where
          pub stops : Steps rules active l None t u → false ≡ all_conform touch_view rules (running_with t₀) fs
          stops k =
              let c : conforms touch_view rules t here.frame.contacts ≡ false = k here.frame here.after here.read w.counted in
              let a = ap (all_conform touch_view rules (running_with t)) here.all ∙ conform-not (running_with t) here.frame here.others c in
              sym a ∙ w.conform

          pub goes : (n : ℕ) (left : Bor (List ℕ)) → Steps rules active l (Some (n, left)) t u → Turned l n left.now u
          goes n left k =
              let over = k here.frame here.after here.read w.counted in
              let c : conforms touch_view rules t here.frame.contacts ≡ true = over.0 in
              let d : left.now ≡ here.after = over.3 in
              let m : step_machine touch_view rules (running_with t) here.frame ≡ running_with u = conforms-machine touch_view rules (running_with t) here.frame refl c ∙ ap running_with (sym over.1) in
              let a = ap (all_conform touch_view rules (running_with t)) here.all ∙ conform-on (running_with t) here.frame here.others c ∙ ap (λ (n : Machine). all_conform touch_view rules n here.others) m in
              let b = ap (run_machine touch_view rules (running_with t)) here.all ∙ machine-on (running_with t) here.frame here.others ∙ ap (λ (n : Machine). run_machine touch_view rules n here.others) m in
              record {
                shorter = omega (arith, frame-shorter l here.frame here.after here.read, ap length d);
                under = record {
                  ahead = here.others;
                  read = rw d here.behind;
                  counted = over.2;
                  conform = sym a ∙ w.conform;
                  machine = sym b ∙ w.machine;
                };
              }
