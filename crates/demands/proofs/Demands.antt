-- THE THREE DEMANDS, and request #106, each over nothing but the contracts of public calls. What each says is its type, in specs/.
-- Assumes nothing.
use mathlib.Core.Bool.{Bool}
use Rattle.demands.specs.Refusing.{EveryRefusal}
use Rattle.demands.specs.RoundTrip.{ReadAndWrittenBack}
use Rattle.demands.specs.Padding.{PaddingChangesNothing}
use Rattle.demands.specs.FirstFault.{FirstFault}
use Rattle.demands.specs.Histories.{EveryHistory}
use Rattle.demands.specs.Hovering.{HoveringHands}
use Rattle.demands.specs.Whole.{WritesWholeFrames}
use Rattle.demands.proofs.Refusals.{every-refusal}
use Rattle.demands.proofs.RoundTrip.{read-and-written-back}
use Rattle.demands.proofs.Padding.{padding-changes-nothing}
use Rattle.demands.proofs.FirstFault.{the-first-fault-answers}
use Rattle.demands.proofs.Histories.{every-history}
use Rattle.demands.proofs.Hovering.{hovering-hands}
use Rattle.demands.proofs.Whole.{writes-whole-frames}

-- "The receiver, the plain reading and the writers take every input, end, and refuse bad ones by a number from document 01. A refusal changes no
-- contact, no setting and not one byte of the lent output."
pub demand-1 : EveryRefusal
demand-1 = every-refusal

-- "Messages are read and judged as [MS-RDPEI] says, with document 01's rules where it is silent. Given room, a touch message that the plain reading
-- accepts is written back .. from its records and its encode time, and both are read back the same when the writer accepts them." "In place of .. same
-- bytes, reading and then writing yields the shortest message of the same meaning; doing that twice changes nothing more." (#104)
pub demand-2 : ReadAndWrittenBack
demand-2 = read-and-written-back

-- And padding changes nothing: to a receiver such a message is what the shortest of the same meaning is.
pub padding : PaddingChangesNothing
padding = padding-changes-nothing

-- "The body is judged left to right, field by field, and the first fault answers", strictly or not.
pub first-fault : (strictly : Bool) → FirstFault strictly
first-fault = the-first-fault-answers

-- "Take any history of messages to one receiver, refused ones among them. For each contact, the records written are a legal path through the three
-- states, starting out of range. After a cancel's own records nothing is written until an opening frame. From any opening frame accepted while no
-- contact is active, the records and the contact table are those of a rested receiver with the same ready settings, given that frame and all that
-- follows, as long as neither is refused for lack of room." What is opening is #106's: "Demand 3 reads with this rule."
pub demand-3 : EveryHistory
demand-3 = every-history

-- "While ignoring, keep a set of ids: those active at the cancel, the offending frame's, and those of each frame ignored since. An id leaves when an
-- ignored or offending frame lists it last with 0x02, 0x22, 0x04 or 0x24, or by a dismissal. .. Outside ignoring the set is empty." And "a panel with
-- hover begins with 0x0A": once every id has left, a frame of these alone opens and is injected. (#106)
pub hovering : HoveringHands
hovering = hovering-hands

-- And what is written is whole frames of well-formed records, so that no record of our own output is refused by 14.
pub whole-frames : WritesWholeFrames
whole-frames = writes-whole-frames
