-- What a run leaves of an output: dry nothing; wet, what the bytes of a draft leave where there is room for them.
-- Assumes nothing.
use Prim.Native.Nat.{ℕ, ◌+◌, ◌*◌, ◌≤◌, ◌<◌}
use mathlib.Core.Path.{◌≡◌, refl, sym, ap, ◌∙◌}
use mathlib.Core.Bool.{Bool, true, false, cond}
use mathlib.Core.List.{List, [], ◌++◌}
use mathlib.Core.Logic.{◌⊎◌, inl, inr}
use native.Mathlib.Omega.{arith}
use lib.ListN.{length}
use Rattle.paper.specs.Refusals.{none, no_room}
use Rattle.slices.specs.Writing.{laid, Draft, bytes, given, left, Writes}
use Rattle.slices.specs.declared.Written.{Written}
use Rattle.slices.proofs.Laws.{given-room}
use Rattle.house.specs.Layout.{head_bytes}
use Rattle.house.specs.declared.Head.{Head}
use Rattle.frame_records.specs.Frames.{records_read, frame_read, frame_draft}
use Rattle.frame_records.proofs.Laws.{frame-behind, writes-frame, writes-no-frame}
use Rattle.runs.specs.Runs.{laid_by}

module _ (wet : Bool) (d : Draft) (before : List ℕ) where
  -- what a writer leaves where it is called
  pub lays-on : (after : List ℕ) (w : Written) → wet ≡ true → Writes d w before after → after ≡ laid_by wet d before
  lays-on after w e h = h.output ∙ sym (ap (λ (b : Bool). cond b (left before (given (length before) d)) before) e)

  pub lays-off : wet ≡ false → before ≡ laid_by wet d before
  lays-off e = sym (ap (λ (b : Bool). cond b (left before (given (length before) d)) before) e)

-- the records of a frame: all of them, or none
pub lays-frame : (wet : Bool) (h : Head) (l before after : List ℕ) → wet ≡ true → 21 * (h.count + 1) ≤ length before → after ≡ laid before (head_bytes h ++ records_read h.count [] l)
    → after ≡ laid_by wet (frame_draft (length before) h l) before
lays-frame wet h l before after e r o =
    lays-on wet (frame_draft (length before) h l) before after (record { refusal = none; bytes = length (frame_read h l) }) e
    (writes-frame h l _ before after r refl (o ∙ ap (laid before) (sym (frame-behind h l))))

pub lays-nothing : (wet : Bool) (h : Head) (l before : List ℕ) → ((wet ≡ true) × (length before < 21 * (h.count + 1))) ⊎ (wet ≡ false) → before ≡ laid_by wet (frame_draft (length before) h l) before
lays-nothing wet h l before (inl x) = lays-on wet (frame_draft (length before) h l) before before (record { refusal = no_room; bytes = 0 }) x.0 (writes-no-frame h l _ before before x.1 refl refl)
lays-nothing wet h l before (inr x) = lays-off wet (frame_draft (length before) h l) before x

-- nothing to write
pub lays-none : (wet : Bool) (before : List ℕ) → before ≡ laid_by wet (bytes []) before
lays-none true before = sym (ap (left before) (given-room [] (length before) (omega arith)))
lays-none false before = refl
