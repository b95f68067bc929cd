-- 10, then 14: what passes both checks, and what is refused.
-- Assumes nothing.
use Prim.Native.Nat.{ℕ, ◌≤◌, ◌<◌}
use mathlib.Core.Path.{◌≡◌, refl, sym, subst}
use mathlib.Core.Bool.{Bool, true, false, cond}
use mathlib.Core.List.{List}
use lib.Dec.{ltb}
use borrow.Author.Tests.{lt-ltb, le-ltb, ltb-true}
use Rattle.paper.specs.Refusals.{bad_range, bad_record}
use Rattle.paper.specs.declared.Milliseconds.{Milliseconds}
use Rattle.formats.specs.Format.{Got, got, bad}
use Rattle.formats.proofs.Laws.{never}
use Rattle.formats.proofs.Refusing.{Tame, by-test}
use Rattle.integers.specs.Integer.{limit}
use Rattle.house.specs.declared.Contact.{Contact}
use Rattle.framing.specs.Frame.{Frame}
use Rattle.recordings.specs.Records.{frames_in}
use Rattle.recordings.proofs.Judged.{frames-refused}
use Rattle.writing.specs.TouchDraft.{checked_frames}

module _ (time : Milliseconds) (l : List ℕ) where
  pub checked-late : limit 2 0 ≤ time.0 → checked_frames time l ≡ bad bad_range
  unfolding checked_frames
  checked-late h = rw (le-ltb _ _ h)

  pub checked-early : time.0 < limit 2 0 → checked_frames time l ≡ frames_in l
  unfolding checked_frames
  checked-early h = rw (lt-ltb _ _ h)

  -- what passed both
  pub record Checked (fs : List (Frame Contact)) (t : List ℕ) : Type 0 where
    pub early : time.0 < limit 2 0
    pub read : frames_in l ≡ got fs t

  pub checked-got : (fs : List (Frame Contact)) (t : List ℕ) → checked_frames time l ≡ got fs t → Checked fs t
  unfolding checked_frames
  checked-got fs t e = go (ltb time.0 (limit 2 0)) refl e
    where
      go : (b : Bool) → ltb time.0 (limit 2 0) ≡ b → cond b (frames_in l) (bad bad_range) ≡ got fs t → Checked fs t
      go true w e = record { early = ltb-true _ _ w; read = e }
      go false w e = never bad_range fs t e

  -- what does not pass is refused with 10 or with 14
  pub checked-tame : (P : ℕ → Type 0) → P bad_range → P bad_record → Tame P (checked_frames time l)
  unfolding checked_frames
  checked-tame P h k = by-test P (ltb time.0 (limit 2 0)) (frames_in l) (bad bad_range) (go (frames_in l) refl) h
    where
      go : (x : Got (List (Frame Contact))) → frames_in l ≡ x → Tame P x
      go (got fs t) w = tt
      go (bad e) w = subst P (sym (frames-refused l e w)) k
