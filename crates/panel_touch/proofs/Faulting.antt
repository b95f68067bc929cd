-- 17, then 11: what the run over the frames and the first frame's offset decide together.
-- Assumes nothing.
use Prim.Native.Nat.{ℕ}
use mathlib.Core.Path.{◌≡◌, sym, ◌∙◌}
use mathlib.Core.Bool.{Bool, true, false}
use mathlib.Core.List.{List, []}
use Rattle.std.specs.Prelude.{Ok, Err}
use Rattle.paper.specs.Refusals.{bad_offset, illegal}
use Rattle.paper.specs.declared.Refusal.TheVariants.{BadOffset, Illegal}
use Rattle.formats.specs.Format.{got}
use Rattle.formats.proofs.Laws.{never}
use Rattle.house.specs.declared.Contact.{Contact}
use Rattle.framing.specs.Frame.{Frame}
use Rattle.recordings.specs.Records.{frames_in}
use Rattle.machine.specs.Table.{Table}
use Rattle.panels.specs.Panel.{panel_table, panel_rules, offset_stands}
use Rattle.panels.specs.declared.Panel.{Panel}
use Rattle.panel_touch.specs.Judging.{RunsThrough, Faults}

module _ (p : Panel) (l : List ℕ) (r : Bool) (u : Table) (run : RunsThrough (panel_rules p) l r (panel_table p) u) where
  pub fault-illegal : r ≡ false → Faults p l (Err Illegal) u
  fault-illegal z = record { fault = λ fs rest e. rw (sym (run.judged fs rest e) ∙ z); table = λ fs rest e n. never illegal (tt {0}) [] n }

  module _ (z : r ≡ true) (o : Bool) (stands : (fs : List (Frame Contact)) (rest : List ℕ) → frames_in l ≡ got fs rest → o ≡ offset_stands p fs) where
    pub fault-offset : o ≡ false → Faults p l (Err BadOffset) u
    fault-offset y =
        record {
          fault = λ fs rest e. rw (sym (run.judged fs rest e) ∙ z, sym (stands fs rest e) ∙ y);
          table = λ fs rest e n. never bad_offset (tt {0}) [] n;
        }

    pub fault-none : o ≡ true → Faults p l (Ok tt) u
    fault-none y =
        record {
          fault = λ fs rest e. rw (sym (run.judged fs rest e) ∙ z, sym (stands fs rest e) ∙ y);
          table = λ fs rest e n. run.table fs rest e z;
        }
