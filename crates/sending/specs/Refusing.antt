-- What each call can refuse with, and what a refusal leaves, of any outcome that the call's contract allows: "A refusal changes no contact, no
-- setting and not one byte of the lent output" (document 01), for the calls of document 02's #101.
use Rattle.std.specs.Prelude.{ℕ, ◌≡◌, true, List, [], ◌∷◌}
use Rattle.paper.specs.Refusals.{none, short, too_long, unexpected, bad_length, truncated, bad_count, bad_field, bad_range, bad_offset, trailing, no_room, bad_record, not_ready, suspended, illegal}
use Rattle.paper.specs.declared.Milliseconds.{Milliseconds}
use Rattle.slices.specs.declared.Written.{Written}
use Rattle.messages.specs.Header.{one_of}
use Rattle.messages.specs.declared.Ready.{Ready}
use Rattle.panels.specs.Panel.{Takes, Sending, ready_sending, touch_sending, dismiss_sending, Sends}
use Rattle.panels.specs.declared.Panel.{Panel}

-- ---- a call gives no number but these

-- checks 1 to 4, then 5, 8, 12
abbrev pub arrival_numbers : List ℕ
arrival_numbers = short ∷ too_long ∷ unexpected ∷ bad_length ∷ truncated ∷ bad_field ∷ trailing ∷ []

-- "Client ready checks 15, 8, 13."
abbrev pub ready_numbers : List ℕ
ready_numbers = not_ready ∷ bad_field ∷ no_room ∷ []

-- 15, 16 and 17 "in that order after 14 and before 7; 11 .. follows 17"
abbrev pub touch_numbers : List ℕ
touch_numbers = bad_range ∷ bad_record ∷ not_ready ∷ suspended ∷ illegal ∷ bad_offset ∷ bad_count ∷ too_long ∷ no_room ∷ []

abbrev pub dismiss_numbers : List ℕ
dismiss_numbers = not_ready ∷ illegal ∷ no_room ∷ []

-- ---- what a refusal leaves

-- of the panel p, which is q after a message
pub record Untaken (p q : Panel) (refusal : ℕ) : Type 0 where
  pub number : one_of arrival_numbers refusal ≡ true
  pub panel : q ≡ p

-- of the panel p, which is q after a call that writes
pub record Unsent (numbers : List ℕ) (p q : Panel) (w : Written) (before after : List ℕ) : Type 0 where
  pub number : one_of numbers w.refusal ≡ true
  pub others : w.bytes ≡ 0
  pub panel : q ≡ p
  pub output : after ≡ before

-- every refusal of a call that writes
abbrev pub Refuses : List ℕ → (Panel → Sending) → Type 0
Refuses numbers s =
    (p q : Panel) (w : Written) (before after : List ℕ) → Sends p (s p) q w before after → (w.refusal ≡ none → ⊥) → Unsent numbers p q w before after

-- ---- call by call: each field is named after the call whose contract it has, at any arguments

pub record EveryPanelRefusal : Type 0 where
  pub take : (p q : Panel) (message : List ℕ) (refusal : ℕ) → Takes p message q refusal → (refusal ≡ none → ⊥) → Untaken p q refusal
  pub write-ready : (settings : Ready) → Refuses ready_numbers (λ p. ready_sending p settings)
  pub write-touch : (time : Milliseconds) (records : List ℕ) → Refuses touch_numbers (λ p. touch_sending p time records)
  pub write-dismiss : (id : ℕ) → Refuses dismiss_numbers (λ p. dismiss_sending p id)
