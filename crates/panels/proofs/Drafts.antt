-- Which numbers a draft refuses with, over what is asked of a number.
-- Assumes nothing.
use Prim.Native.Nat.{ℕ}
use mathlib.Core.Path.{◌≡◌}
use mathlib.Core.Bool.{Bool, true, false, cond}
use mathlib.Core.List.{List}
use native.Mathlib.Omega.{arith}
use lib.Dec.{leb}
use lib.ListN.{length}
use Rattle.paper.specs.Refusals.{none, too_long, bad_count, bad_field, no_room}
use Rattle.paper.specs.declared.Milliseconds.{Milliseconds}
use Rattle.slices.specs.Writing.{Draft, bytes, refuse, given}
use Rattle.messages.specs.Bodies.{flags_listed, version_listed, client_ready_draft, dismiss_draft}
use Rattle.messages.specs.Header.{most_bytes}
use Rattle.messages.specs.declared.Ready.{Ready}
use Rattle.house.specs.declared.Contact.{Contact}
use Rattle.framing.specs.Frame.{Frame}
use Rattle.touch.specs.Limits.{most_frames}
use Rattle.writing.specs.TouchDraft.{message_of, frames_draft}

module _ (Given : ℕ → Type 0) where
  -- a draft's refusal is such a one
  abbrev pub Tame : Draft → Type 0
  Tame (bytes s) = Unit {0}
  Tame (refuse e) = Given e

  pub by-test : (b : Bool) (d e : Draft) → Tame d → Tame e → Tame (cond b d e)
  by-test true d e h k = h
  by-test false d e h k = k

  -- room is asked last
  pub given-tame : (room : ℕ) (d : Draft) → Given no_room → Tame d → Tame (given room d)
  unfolding given
  given-tame room (bytes s) h k = by-test (leb (length s) room) (bytes s) (refuse no_room) tt h
  given-tame room (refuse e) h k = k

  pub client-ready-tame : (s : Ready) → Given bad_field → Tame (client_ready_draft s)
  unfolding client_ready_draft
  client-ready-tame s h = by-test (flags_listed s.flags) _ _ (by-test (version_listed s.version) _ _ tt h) h

  pub frames-tame : (time : Milliseconds) (fs : List (Frame Contact)) → Given bad_count → Given too_long → Tame (frames_draft time fs)
  unfolding frames_draft
  frames-tame time fs h k = by-test (leb (length fs) most_frames) _ _ (by-test (leb (length (message_of time fs)) most_bytes) _ _ tt k) h

-- a refusal is told by its number
abbrev pub Told : ℕ → Type 0
Told e = e ≡ none → ⊥

pub client-ready-told : (s : Ready) → Tame Told (client_ready_draft s)
client-ready-told s = client-ready-tame Told s (λ z. omega (arith, z))

pub frames-told : (time : Milliseconds) (fs : List (Frame Contact)) → Tame Told (frames_draft time fs)
frames-told time fs = frames-tame Told time fs (λ z. omega (arith, z)) (λ z. omega (arith, z))

pub dismiss-told : (id : ℕ) → Tame Told (dismiss_draft id)
unfolding dismiss_draft
dismiss-told id = tt
