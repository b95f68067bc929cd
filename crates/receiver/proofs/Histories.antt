-- The sentences on every history of a receiver: any messages, lent any room, refused ones among them.
-- Assumes nothing.
use Prim.Native.Nat.{ℕ, ◌+◌, ◌≤◌, ◌<◌}
use mathlib.Core.Path.{◌≡◌, refl, sym, ap, subst, ◌∙◌}
use mathlib.Core.Bool.{true, false}
use mathlib.Core.List.{List, [], ◌∷◌, ◌++◌}
use lib.ListN.{length}
use Rattle.paper.specs.Refusals.{none}
use Rattle.paper.specs.declared.Milliseconds.{Milliseconds}
use Rattle.digits.specs.Digits.{Bytes}
use Rattle.slices.specs.Writing.{laid, given}
use Rattle.formats.specs.Format.{got}
use Rattle.messages.specs.declared.Ready.{Ready}
use Rattle.states.specs.Table.{out, engaged}
use Rattle.house.specs.declared.Contact.{Contact}
use Rattle.framing.specs.Frame.{Frame}
use Rattle.machine.specs.Rules.{Rules}
use Rattle.machine.specs.Table.{contacts, state_at, place_at, origin, count_active, resting}
use Rattle.machine.specs.Held.{is_held, nobody, active_ids, held_after}
use Rattle.machine.specs.Machine.{Machine, cancelled, verdict, cancels, step_machine, run_machine, run_bytes}
use Rattle.machine.proofs.Table.{Whole, resting-state}
use Rattle.machine.proofs.Machine.{cancelled-machine}
use Rattle.stream.specs.Stream.{Stream, unopened, NoneActive}
use Rattle.stream.specs.Stream as stream
use Rattle.stream.specs.Set.{InSet, log}
use Rattle.stream.specs.Path.{at}
use Rattle.stream.proofs.Steadiness.{none-active-rests}
use Rattle.stream.proofs.Quiet.{quiet-bytes, quiet-machine}
use Rattle.stream.proofs.Demand.{a-silent-stream-writes-nothing-until-an-opening-frame, a-silent-stream-passes-over-frames-that-do-not-open}
use Rattle.stream.proofs.Demand as demand
use Rattle.stream.proofs.Set as set
use Rattle.receiver.specs.Receive.{machine_of, fresh, effect, draft_of, Receives}
use Rattle.channel.specs.Marks.{off}
use Rattle.receiver.specs.declared.Receiver.{Receiver}
use Rattle.receiver.specs.declared.Answer.{Answer}
use Rattle.receiver.specs.History.{Sent, OfBytes, messages_of, next, answer_to, wrote, after, written, Roomy, table_of, touch_in, frames_taken, opens_after, UnopenedAfter, Unopened, rested, machine_at, bytes_at, message_of, Cut, AsRested, CancelledAfter, Silent, SilentAs, records_in, path, touch_profile, stream_of}
use Rattle.receiver.proofs.Lawful.{touch-law}
use Rattle.receiver.proofs.Streaming.{given_by, givens, given-frames, stream-next, stream-wrote, stream-after, stream-written, givens-unopened}
use Rattle.receiver.proofs.Invariants.{fresh_kept, history-kept, givens-proper, answer-counts}
use Rattle.receiver.proofs.Rested.{at_rest, as-rested}
use Rattle.receiver.proofs.Cutting.{rest-of-message}
use Rattle.receiver.proofs.Refusing.{left_laid, refused-as-none}
use Rattle.contacts.specs.Touch.{touch_view}

-- ---- HISTORIES ARE THOSE OF THE CONTRACT

-- A step that the contract allows leaves, answers and writes what its message does in a history.
pub a-step-of-the-contract-is-a-step-of-a-history : (r : Receiver) (message before : List ℕ) (q : Receiver) (a : Answer) (output : List ℕ) → Receives r message before q a output
    → let x : Sent = record { message = message; room = length before } in (q ≡ next r x) × (a ≡ answer_to r x) × (output ≡ laid before (wrote r x))
unfolding next answer_to wrote
a-step-of-the-contract-is-a-step-of-a-history r message before q a output h =
    (h.kept, h.answered, h.output ∙ left_laid before (given (length before) (draft_of (effect r message))))

-- .. and what a message does in a history, the contract allows.
pub a-step-of-a-history-is-a-step-of-the-contract : (r : Receiver) (message before : List ℕ) → let x : Sent = record { message = message; room = length before } in Receives r message before (next r x) (answer_to r x) (laid before (wrote r x))
unfolding next answer_to wrote
a-step-of-a-history-is-a-step-of-the-contract r message before =
    record { kept = refl; answered = refl; output = sym (left_laid before (given (length before) (draft_of (effect r message)))) }

-- ---- WHAT IS ALWAYS TRUE

-- All 256 contacts are there.
pub no-contact-is-lost : (h : List Sent) → OfBytes h → Whole (table_of (after fresh h))
no-contact-is-lost h b = (history-kept h b).stream.table.whole

-- Each is out of range, hovering or engaged.
pub every-contact-is-in-one-of-three-states : (h : List Sent) → OfBytes h → (id : ℕ) → state_at (table_of (after fresh h)) id ≤ engaged
every-contact-is-in-one-of-three-states h b = (history-kept h b).stream.table.states

-- A receiver that ignores has no active contact.
pub ignoring-means-no-active-contact : (h : List Sent) → OfBytes h → off (after fresh h).ignoring ≡ false → NoneActive (table_of (after fresh h))
ignoring-means-no-active-contact h b e id = rw ((history-kept h b).stream.ignoring e) (resting-state id)

-- "A contact out of range has position 0, 0."
pub out-of-range-means-position-zero : (h : List Sent) → OfBytes h → (id : ℕ) → state_at (table_of (after fresh h)) id ≡ out → place_at (table_of (after fresh h)) id ≡ origin
out-of-range-means-position-zero h b = (history-kept h b).stream.table.places

-- So where no contact is active the table is that of a fresh receiver.
pub no-active-contact-means-the-resting-table : (h : List Sent) → OfBytes h → NoneActive (table_of (after fresh h)) → table_of (after fresh h) ≡ resting
no-active-contact-means-the-resting-table h b = let t = (history-kept h b).stream.table in none-active-rests (table_of (after fresh h)) t.whole t.places

-- "The three counts add up to frameCount", of any receiver and of any message that it accepts; without frames, or refused, they are 0.
pub counts-add-up-to-frame-count : (r : Receiver) (x : Sent) → (answer_to r x).injected + (answer_to r x).ignored + (answer_to r x).cancelled ≡ length (frames_taken r x)
counts-add-up-to-frame-count = answer-counts

-- "at most maxTouchContacts contacts are active"
pub at-most-max_touch_contacts-active : (h : List Sent) → OfBytes h → count_active (after fresh h).states ≤ (after fresh h).settings.most
at-most-max_touch_contacts-active h b = (history-kept h b).stream.few

-- "Outside ignoring the set is empty."
pub running-means-an-empty-set : (h : List Sent) → OfBytes h → off (after fresh h).ignoring ≡ true → (after fresh h).held ≡ nobody
running-means-an-empty-set h b = (history-kept h b).stream.empty

-- The set has a mark for each of the 256 ids.
pub every-id-has-a-mark : (h : List Sent) → OfBytes h → length (after fresh h).held ≡ contacts
every-id-has-a-mark h b = (history-kept h b).stream.marks

-- what a fresh receiver starts from
fresh-table : table_of fresh ≡ resting
unfolding fresh
fresh-table = refl

fresh-held : fresh.held ≡ nobody
unfolding fresh
fresh-held = refl

-- ---- "WHILE IGNORING, KEEP A SET OF IDS: THOSE ACTIVE AT THE CANCEL, THE OFFENDING FRAME'S, AND THOSE OF EACH FRAME IGNORED SINCE"

-- An id is in the set that the receiver has after a history if and only if it joined by what happened in that history and has not left since.
pub the-set-is-the-sentence : (id : ℕ) → id < contacts → (h : List Sent) → OfBytes h
    → (is_held (after fresh h).held id ≡ true → InSet touch_view id (log touch_profile (stream_of fresh) (givens fresh h)))
    × (InSet touch_view id (log touch_profile (stream_of fresh) (givens fresh h)) → is_held (after fresh h).held id ≡ true)
the-set-is-the-sentence id l h b =
    let a = set.the-set-is-the-sentence touch-law id l (stream_of fresh) (givens fresh h) fresh-held (givens-proper fresh h b fresh_kept) fresh_kept.stream in
    let e = ap (λ (s : Stream Ready). is_held s.machine.held id) (stream-after fresh h) in
    (λ k. a.0 (sym e ∙ k), λ i. e ∙ a.1 i)

-- ---- "EACH CONTACT'S RECORDS ARE A LEGAL PATH THROUGH THE THREE STATES FROM OUT OF RANGE"

-- The records of each id in all that was written, from out of range at 0, 0: each is legal where the one before it led, at the stored position
-- where it has to be; and the path ends where the receiver has that contact.
pub each-contact's-records-are-a-legal-path : (id : ℕ) → id < contacts → (h : List Sent) → OfBytes h
    → path id (records_in (written fresh h)) out origin ≡ at (state_at (table_of (after fresh h)) id) (place_at (table_of (after fresh h)) id)
each-contact's-records-are-a-legal-path id l h b =
    ap (λ (s : List ℕ). path id (records_in s) out origin) (stream-written fresh h)
    ∙ (demand.each-contact's-records-are-a-legal-path touch-law id l (stream_of fresh) (givens fresh h) fresh-table fresh_kept.stream (givens-proper fresh h b fresh_kept)
    ∙ ap (λ (s : Stream Ready). at (state_at s.machine.table id) (place_at s.machine.table id)) (sym (stream-after fresh h)))

-- ---- "AFTER A CANCEL'S OWN RECORDS NOTHING IS WRITTEN UNTIL AN OPENING FRAME"

-- Every cancelled frame leaves all contacts out of range, the mode ignoring, and a set of those that were active and of its own.
pub a-cancelled-frame-leaves-rest-and-ignoring : (rules : Rules Contact) (m : Machine) (f : Frame Contact) → verdict touch_view rules m f.contacts ≡ cancelled
    → step_machine touch_view rules m f ≡ record { table = resting; running = false; held = held_after touch_view (active_ids m.table) f.contacts }
a-cancelled-frame-leaves-rest-and-ignoring = cancelled-machine touch_view

-- Frames none of which opens leave a machine that ignores as it is, but for its set, and write nothing.
pub frames-that-do-not-open-are-ignored : (rules : Rules Contact) (m : Machine) (fs : List (Frame Contact)) → m.running ≡ false → unopened touch_view rules m fs ≡ true
    → (run_bytes touch_view rules m fs ≡ []) × (run_machine touch_view rules m fs ≡ record { table = m.table; running = m.running; held = (run_machine touch_view rules m fs).held })
frames-that-do-not-open-are-ignored rules m fs h u = (quiet-bytes touch_view rules m fs h u, quiet-machine touch_view rules m fs h u)

-- Within a message: after the frames fs, the cancelled frame f writes its records; the frames gs, none of which opens, write nothing; and the
-- frames hs after them write and leave what they do to any silent receiver with the same settings and the set that those before them leave.
pub after-a-cancelled-frame-nothing-until-an-opening-one : (r : Receiver) (x : Sent) (fs : List (Frame Contact)) (f : Frame Contact) (gs hs : List (Frame Contact))
    → frames_taken r x ≡ fs ++ (f ∷ (gs ++ hs)) → CancelledAfter r fs f → UnopenedAfter r (fs ++ (f ∷ [])) gs
    → (q : Receiver) → SilentAs r (fs ++ (f ∷ gs)) q
    → (wrote r x ≡ (bytes_at r fs ++ cancels touch_view (machine_at r fs).table) ++ bytes_at q hs) × (machine_of (next r x) ≡ machine_at q hs)
after-a-cancelled-frame-nothing-until-an-opening-one r x fs f gs hs e v u q k =
    let a = demand.after-a-cancelled-frame-nothing-until-an-opening-one touch_profile (stream_of r) (given_by r x) fs f gs hs (given-frames r x ∙ e) v u (stream_of q) k in
    (stream-wrote r x ∙ a.0, ap (λ (s : Stream Ready). s.machine) (stream-next r x) ∙ a.1)

-- Over messages: a receiver that ignores and has no active contact writes nothing, dismissals included, and stays so, as long as no opening
-- frame is accepted.
pub a-silent-receiver-writes-nothing-until-an-opening-frame : (r : Receiver) (h : List Sent) → Silent r → Unopened r h → (written r h ≡ []) × Silent (after r h)
a-silent-receiver-writes-nothing-until-an-opening-frame r h k u =
    let q = a-silent-stream-writes-nothing-until-an-opening-frame touch_profile (stream_of r) (givens r h) k (givens-unopened r h u) in
    (stream-written r h ∙ q.0, subst stream.Silent (sym (stream-after r h)) q.1)

-- Also where that frame stands inside a message: of the frames gs and hs, none of gs opening, it writes what hs write to any silent receiver
-- with the same settings and the set that gs leave.
pub a-silent-receiver-passes-over-frames-that-do-not-open : (r : Receiver) (x : Sent) (gs hs : List (Frame Contact)) → Silent r → frames_taken r x ≡ gs ++ hs → UnopenedAfter r [] gs
    → (q : Receiver) → SilentAs r gs q → wrote r x ≡ bytes_at q hs
a-silent-receiver-passes-over-frames-that-do-not-open r x gs hs k e u q a =
    stream-wrote r x ∙ a-silent-stream-passes-over-frames-that-do-not-open touch_profile (stream_of r) (given_by r x) gs hs k (given-frames r x ∙ e) u (stream_of q) a

-- Both: of an accepted message x with the frames fs, f, gs, where f is cancelled and none of gs opens, and of all messages after it, as long as
-- no opening frame is accepted, nothing is written but the records of fs and the cancel's own.
pub after-a-cancel-nothing-until-an-opening-frame : (r : Receiver) (x : Sent) (h : List Sent) (fs : List (Frame Contact)) (f : Frame Contact) (gs : List (Frame Contact))
    → frames_taken r x ≡ fs ++ (f ∷ gs) → CancelledAfter r fs f → UnopenedAfter r (fs ++ (f ∷ [])) gs → Unopened (next r x) h
    → (written r (x ∷ h) ≡ bytes_at r fs ++ cancels touch_view (machine_at r fs).table) × Silent (after r (x ∷ h))
unfolding givens
after-a-cancel-nothing-until-an-opening-frame r x h fs f gs e v u k =
    let o = subst (λ (s : Stream Ready). stream.Unopened touch_profile s (givens (next r x) h)) (stream-next r x) (givens-unopened (next r x) h k) in
    let q =
    demand.after-a-cancel-nothing-until-an-opening-frame touch_profile (stream_of r) (given_by r x) (givens (next r x) h) fs f gs (given-frames r x ∙ e) v u o in
    (stream-written r (x ∷ h) ∙ q.0, subst stream.Silent (sym (stream-after r (x ∷ h))) q.1)

-- ---- "FROM ANY OPENING FRAME ACCEPTED WHILE NO CONTACT IS ACTIVE, THE RECORDS AND THE CONTACT TABLE ARE THOSE OF A RESTED RECEIVER WITH THE
-- SAME SETTINGS GIVEN THAT FRAME AND ALL THAT FOLLOWS, AS LONG AS NEITHER IS REFUSED FOR LACK OF ROOM"

-- "A rested receiver has accepted event 2, is past its first frame, is running, and has no active contact.": every receiver of which this is so
-- is the one that `rested` gives for its settings.
pub a-receiver-at-rest-is-the-rested-one : (h : List Sent) → OfBytes h → let r : Receiver = after fresh h in
    off r.ready ≡ false → off r.begun ≡ false → off r.ignoring ≡ true → NoneActive (table_of r) → r ≡ rested r.settings
a-receiver-at-rest-is-the-rested-one h b = at_rest (after fresh h) (history-kept h b)

-- r is the receiver after any history. Its next message x has the opening frame f, before which no contact is active, in either mode; the
-- rested receiver gets y instead, which begins with f; then both get the same messages, each lent whatever room.
pub from-an-opening-frame-as-if-rested : (h : List Sent) → OfBytes h → let r : Receiver = after fresh h in
    (x y : Sent) → Bytes x.message → (fs : List (Frame Contact)) (f : Frame Contact) (gs : List (Frame Contact)) → Cut r x.message y.message fs f gs → opens_after r fs f ≡ true → NoneActive (machine_at r fs).table
    → (more others : List Sent) → messages_of more ≡ messages_of others → Roomy r (x ∷ more) → Roomy (rested r.settings) (y ∷ others)
    → AsRested r x y fs more others
from-an-opening-frame-as-if-rested h b = as-rested (after fresh h) (history-kept h b)

-- There always is such a message for y: of the same encodeTime and the frames from f on.
pub a-rested-receiver-can-be-given-that-frame : (r : Receiver) (l : List ℕ) → Bytes l → (time : Milliseconds) (fs : List (Frame Contact)) (f : Frame Contact) (gs : List (Frame Contact))
    → touch_in r l ≡ got (record { time = time; frames = fs ++ (f ∷ gs) }) []
    → Cut r l (message_of (record { time = time; frames = f ∷ gs })) fs f gs
a-rested-receiver-can-be-given-that-frame r l b time fs f gs e =
    record { time = time; whole = e; part = rest-of-message r l b time fs (f ∷ gs) e }

-- ---- "REFUSED ONES AMONG THEM"

-- A refused message of a history is as none.
pub a-refused-message-is-as-none : (r : Receiver) (x : Sent) → ((answer_to r x).refusal ≡ none → ⊥) → (next r x ≡ r) × (wrote r x ≡ [])
a-refused-message-is-as-none = refused-as-none
