-- The receiver as it was before #107: it took frames of up to 63 contacts, and laid out heads as document 01 does; all else was as it is.
use Rattle.std.specs.Prelude.{ℕ, Bool, List, [], ◌∷◌}
use Rattle.formats.specs.Format.{Got, got, and_then}
use Rattle.fields.specs.Integers.{taken}
use Rattle.framing.specs.Format.{Limits, whole_body}
use Rattle.touch.specs.Limits.{most_frames}
use Rattle.touch.specs.Touch.{Touch, contact}
use Rattle.receiver.specs.Receive.{Effect, effect_by}
use Rattle.receiver.specs.Events.{Gives}
use Rattle.receiver.specs.History.{records_in}
use Rattle.receiver.specs.declared.Receiver.{Receiver}
use Rattle.demands.specs.Histories.{Call}
use Rattle.old_heads.specs.OldHeads.{old_contacts_most, old_file}

abbrev pub old_limits : Limits
old_limits = record { frames = most_frames; contacts = old_contacts_most }

-- the body of a touch message, as it was read
abbrev pub old_body : Bool → List ℕ → Got Touch
old_body = whole_body taken old_limits (contact taken)

-- the same records, as they were laid out
abbrev pub in_old_layout : Effect → Effect
in_old_layout e = record { receiver = e.receiver; counts = e.counts; time = e.time; bytes = old_file (records_in e.bytes) }

unfoldable pub old_effect : Receiver → List ℕ → Got Effect
old_effect r l = and_then (effect_by old_body r l) (λ e t. got (in_old_layout e) t)

-- a call of the receiver as it was, by its contract, and calls one after the other
abbrev pub OldReceives : Receiver → Call → Type 0
OldReceives r c = Gives r (old_effect r c.message) c.before (record { receiver = c.receiver; answer = c.answer }) c.after

unfoldable pub OldCalls : Receiver → List Call → Type 0
OldCalls r [] = Unit
OldCalls r (c ∷ cs) = OldReceives r c × OldCalls c.receiver cs
