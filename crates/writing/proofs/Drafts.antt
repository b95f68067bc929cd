-- The draft of a touch message, check by check, as the code meets them.
-- Assumes nothing.
use Prim.Native.Nat.{ℕ, ◌+◌, ◌/◌, ◌≤◌, ◌<◌}
use mathlib.Core.Path.{◌≡◌, refl, sym, ap, ◌∙◌}
use mathlib.Core.List.{List, [], ◌++◌}
use native.Mathlib.Omega.{arith}
use lib.ListN.{length}
use borrow.Author.Tests.{lt-leb, le-leb}
use Rattle.paper.specs.Refusals.{bad_count, too_long}
use Rattle.paper.specs.declared.Milliseconds.{Milliseconds}
use Rattle.digits.specs.Digits.{Bytes}
use Rattle.slices.specs.Writing.{bytes, refuse}
use Rattle.formats.specs.Format.{Got, got, bad}
use Rattle.formats.proofs.Laws.{never}
use Rattle.messages.specs.Header.{header, header_bytes, most_bytes}
use Rattle.messages.specs.Header as event
use Rattle.messages.proofs.Laws.{header-long}
use Rattle.touch.specs.Limits.{most_frames}
use Rattle.house.specs.declared.Contact.{Contact}
use Rattle.framing.specs.Frame.{Frame}
use Rattle.recordings.specs.Answer.{counted}
use Rattle.writing.specs.TouchDraft.{message_of, frames_draft, checked_frames, draft_of, touch_draft}
use Rattle.writing.specs.Spelling.{Spelt, body_of}
use Rattle.writing.specs.Limits.{most_spelt}
use Rattle.writing.proofs.Checked.{Checked, checked-got}
use Rattle.writing.proofs.Spelt.{Spelling, spelling-of}

-- the message as the code spells it: its header holds the length of both
abbrev pub spelled : Milliseconds → ℕ → ℕ → List ℕ → List ℕ
spelled time frames count l = header event.touch (header_bytes + length (body_of time frames count l)) ++ body_of time frames count l

pub spelled-long : (time : Milliseconds) (frames count : ℕ) (l : List ℕ) → length (spelled time frames count l) ≡ header_bytes + length (body_of time frames count l)
spelled-long time frames count l = header-long event.touch _ (body_of time frames count l)

module _ (time : Milliseconds) (l : List ℕ) where
  -- 10 and 14
  pub draft-bad : (e : ℕ) → bad e ≡ counted (checked_frames time l) → touch_draft time l ≡ refuse e
  unfolding touch_draft
  draft-bad e h = go (checked_frames time l) h
    where
      go : (x : Got (List (Frame Contact))) → bad e ≡ counted x → draft_of time x ≡ refuse e
      go (bad y) h = let z : y ≡ e = cc in ap refuse z
      go (got fs t) h = never e (length fs) [] h

  -- frames that passed both, as many as were counted
  pub record Frames (n : ℕ) : Type 0 where
    pub frames : List (Frame Contact)
    pub after : List ℕ
    pub checked : checked_frames time l ≡ got frames after
    pub count : length frames ≡ n

  pub frames-of : (n : ℕ) → got n [] ≡ counted (checked_frames time l) → Frames n
  frames-of n h = go (checked_frames time l) refl h
    where
      go : (x : Got (List (Frame Contact))) → checked_frames time l ≡ x → got n [] ≡ counted x → Frames n
      go (bad y) w h = never y n [] (sym h)
      go (got fs t) w h = record { frames = fs; after = t; checked = w; count = cc }

  pub passed : (n : ℕ) (f : Frames n) → Checked time l f.frames f.after
  passed n f = checked-got time l f.frames f.after f.checked

  -- 7
  pub draft-many : (n : ℕ) → Frames n → most_frames < n → touch_draft time l ≡ refuse bad_count
  unfolding touch_draft frames_draft
  draft-many n f h = let k : most_frames < length f.frames = rw f.count h in rw (f.checked, lt-leb _ _ k)

  module _ (n : ℕ) (f : Frames n) (few : n ≤ most_frames) (hl : Bytes l) where
    fewer : length f.frames ≤ most_frames
    fewer = rw f.count few

    spelling : Spelling time l f.frames
    spelling = spelling-of time l f.frames f.after hl (passed n f).read

    pub all-spelt : Spelt (length l / 21) l
    all-spelt = spelling.each

    pub few-records : length l / 21 ≤ most_spelt
    few-records = omega (arith, spelling.few, fewer)

    spelled_is : message_of time f.frames ≡ spelled time n (length l / 21) l
    spelled_is = spelling.same ∙ ap (λ (k : ℕ). spelled time k (length l / 21) l) f.count

    -- 2
    pub draft-long : most_bytes < length (spelled time n (length l / 21) l) → touch_draft time l ≡ refuse too_long
    unfolding touch_draft frames_draft
    draft-long h = rw (f.checked, le-leb _ _ fewer, spelled_is, lt-leb _ _ h)

    pub draft-done : length (spelled time n (length l / 21) l) ≤ most_bytes → touch_draft time l ≡ bytes (spelled time n (length l / 21) l)
    unfolding touch_draft frames_draft
    draft-done h = rw (f.checked, le-leb _ _ fewer, spelled_is, le-leb _ _ h)
