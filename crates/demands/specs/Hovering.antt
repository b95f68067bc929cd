-- REQUEST #106, over calls of the receiver alone: which ids are in the set that is kept while ignoring, and that a panel which only hovers is heard
-- again. Demand 3 "reads with this rule": it is stated over the same `opening`.
use Rattle.std.specs.Prelude.{ℕ, ◌≤◌, ◌<◌, ◌≡◌, true, false, cond, List, [], ◌∷◌, ◌++◌, eqb, length}
use Rattle.paper.specs.Refusals.{none}
use Rattle.house.specs.declared.Contact.{Contact}
use Rattle.framing.specs.Frame.{Frame}
use Rattle.machine.specs.Table.{contacts}
use Rattle.machine.specs.Conforms.{every, distinct}
use Rattle.machine.specs.Held.{is_held, nobody, is_hover}
use Rattle.channel.specs.Marks.{off}
use Rattle.contacts.specs.Touch.{touch_view}
use Rattle.stream.specs.Set.{Happening, InSet, frames_log}
use Rattle.receiver.specs.Receive.{rules_of, machine_of, fresh}
use Rattle.receiver.specs.History.{dismiss_in, dismissal_of, opens_after}
use Rattle.receiver.specs.declared.Receiver.{Receiver}
use Rattle.demands.specs.Histories.{Call, Calls, History, last, accepted}

-- ---- what happened by a call: what became of its frames, each where those before it have led; or a contact was dismissed

unfoldable pub happened_by : Receiver → Call → List (Happening Contact)
happened_by r c =
    frames_log touch_view (rules_of r) (machine_of r) (accepted r c)
    ++ cond (eqb c.answer.refusal none) (dismissal_of (dismiss_in r c.message)) []

unfoldable pub happened : Receiver → List Call → List (Happening Contact)
happened r [] = []
happened r (c ∷ cs) = happened_by r c ++ happened c.receiver cs

-- ---- the set

-- the ids in it are those of document 02's sentence
pub record SetOf (h : List Call) (id : ℕ) : Type 0 where
  pub only : is_held (last fresh h).held id ≡ true → InSet touch_view id (happened fresh h)
  pub all : InSet touch_view id (happened fresh h) → is_held (last fresh h).held id ≡ true

-- every id that was in it has left
abbrev pub AllHaveLeft : List Call → Type 0
AllHaveLeft h = (id : ℕ) → id < contacts → InSet touch_view id (happened fresh h) → ⊥

-- ---- a frame of 0x0A alone

pub record OnlyHovers (f : Frame Contact) : Type 0 where
  pub first : Contact
  pub others : List Contact
  pub contacts : f.contacts ≡ first ∷ others
  pub hover : every (is_hover touch_view) f.contacts ≡ true

-- the call injects one frame, and leaves a receiver that runs
pub record IsHeard (c : Call) : Type 0 where
  pub injected : c.answer.injected ≡ 1
  pub running : off c.receiver.ignoring ≡ true
  pub empty : c.receiver.held ≡ nobody

pub record HeardAgain (r : Receiver) : Type 0 where
  -- it opens, wherever it is the first frame of a message
  pub opens : (f : Frame Contact) → OnlyHovers f → opens_after r [] f ≡ true
  -- and alone in a message it is injected while ignoring, where its ids are distinct and not more than may be active
  pub heard : off r.ignoring ≡ false → (c : Call) → Calls r (c ∷ []) → (f : Frame Contact) → accepted r c ≡ f ∷ [] → OnlyHovers f
      → distinct touch_view f.contacts ≡ true → length f.contacts ≤ r.settings.most → IsHeard c

-- ---- THE REQUEST

pub record HoveringHands : Type 0 where
  -- "Outside ignoring the set is empty."
  pub empty : (h : List Call) → History h → off (last fresh h).ignoring ≡ true → (last fresh h).held ≡ nobody
  pub set : (h : List Call) → History h → (id : ℕ) → id < contacts → SetOf h id
  -- "A panel with hover begins with 0x0A": after a cancel, once every id in the set has left, such a frame opens
  pub again : (h : List Call) → History h → AllHaveLeft h → HeardAgain (last fresh h)
