-- Which numbers each call refuses with, and that a refusal leaves the panel and the output as they were.
-- Assumes nothing.
use Prim.Native.Nat.{ℕ}
use mathlib.Core.Path.{◌≡◌, refl, ap, ◌∙◌}
use mathlib.Core.Bool.{true, not}
use mathlib.Core.List.{List}
use lib.Dec.{ltb, eqb}
use lib.ListN.{length, drop}
use Rattle.paper.specs.Refusals.{none, short, too_long, unexpected, bad_length, bad_field, trailing, no_room}
use Rattle.paper.specs.declared.Milliseconds.{Milliseconds}
use Rattle.slices.specs.Writing.{Draft, bytes, refuse, given, answered, left}
use Rattle.slices.specs.declared.Written.{Written}
use Rattle.formats.specs.Format.{Got, got, bad, whole}
use Rattle.formats.specs.Answer.{refusal_of}
use Rattle.formats.proofs.Refusing as reader
use Rattle.states.specs.Table.{hovering}
use Rattle.messages.specs.Header.{one_of, headed, server_ready, header_bytes, most_bytes, event_of, pdu_length}
use Rattle.messages.specs.Bodies.{version, version_listed, nothing, dismiss_draft}
use Rattle.messages.specs.declared.Ready.{Ready}
use Rattle.house.specs.declared.Contact.{Contact}
use Rattle.framing.specs.Frame.{Frame}
use Rattle.channel.specs.Marks.{off}
use Rattle.machine.specs.Table.{state_at}
use Rattle.machine.specs.Machine.{all_conform}
use Rattle.contacts.specs.Touch.{touch_view}
use Rattle.writing.specs.TouchDraft.{checked_frames}
use Rattle.writing.proofs.Checked.{checked-tame}
use Rattle.panels.specs.Panel.{panel_table, panel_machine, panel_rules, awaited, body_arrival, arrival, panel_of, Takes, Sending, may_declare, ready_sending, dismiss_sending, offset_stands, sending_draft, frames_sending, touch_sending, panel_after}
use Rattle.panels.specs.declared.Panel.{Panel}
use Rattle.panels.proofs.Drafts.{Tame, by-test, given-tame, client-ready-tame, frames-tame}
use Rattle.sending.specs.Refusing.{arrival_numbers, ready_numbers, touch_numbers, dismiss_numbers, Untaken, Unsent, Refuses, EveryPanelRefusal}

abbrev pub Listed : List ℕ → ℕ → Type 0
Listed numbers e = one_of numbers e ≡ true

-- ---- what arrives

abbrev Arriving : ℕ → Type 0
Arriving = Listed arrival_numbers

headed-tame : (events l : List ℕ) → reader.Tame Arriving (headed events l)
unfolding headed one_of
headed-tame events l =
    reader.by-test Arriving (ltb (length l) header_bytes) (bad short) _ refl
    (reader.by-test Arriving (ltb most_bytes (length l)) (bad too_long) _ refl
    (reader.by-test Arriving (one_of events (event_of l)) _ (bad unexpected)
    (reader.by-test Arriving (eqb (pdu_length l) (length l)) (got (event_of l) (drop header_bytes l)) (bad bad_length) tt refl)
    refl))

body-tame : (p : Panel) (e : ℕ) (b : List ℕ) → reader.Tame Arriving (body_arrival p e b)
unfolding one_of
body-tame p e b =
    reader.by-test Arriving (eqb e server_ready) _ _
    (reader.and-then Arriving (whole version trailing b) _ (reader.whole-tame Arriving version trailing refl (reader.such-tame Arriving _ version_listed bad_field refl (reader.little-tame Arriving refl 4)) b) (λ v t. tt))
    (reader.and-then Arriving (whole nothing trailing b) _ (reader.whole-tame Arriving nothing trailing refl (reader.done-tame Arriving tt) b) (λ u t. tt))

arrival-tame : (p : Panel) (l : List ℕ) → reader.Tame Arriving (arrival p l)
unfolding arrival
arrival-tame p l = reader.and-then Arriving (headed (awaited p) l) (body_arrival p) (headed-tame (awaited p) l) (body-tame p)

take-refuses : (p q : Panel) (message : List ℕ) (refusal : ℕ) → Takes p message q refusal → (refusal ≡ none → ⊥) → Untaken p q refusal
take-refuses p q message n c u = go (arrival p message) refl (arrival-tame p message)
  where
    go : (x : Got Panel) → arrival p message ≡ x → reader.Tame Arriving x → Untaken p q n
    go (got r t) e k = absurd (u (c.answered ∙ ap refusal_of e))
    go (bad m) e k = let z : n ≡ m = c.answered ∙ ap refusal_of e in record { number = rw z k; panel = c.kept ∙ ap (panel_of p) e }

-- ---- what is sent

sending-refuses : (numbers : List ℕ) → Listed numbers no_room → (s : Panel → Sending) → ((p : Panel) → Tame (Listed numbers) (s p).draft) → Refuses numbers s
sending-refuses numbers room s t p q w before after c u = go (given (length before) (s p).draft) refl (given-tame (Listed numbers) (length before) (s p).draft room (t p))
  where
    go : (x : Draft) → given (length before) (s p).draft ≡ x → Tame (Listed numbers) x → Unsent numbers p q w before after
    go (bytes b) e k = absurd (u (ap (λ (v : Written). v.refusal) (c.writes.answer ∙ ap answered e)))
    go (refuse n) e k =
        let a = c.writes.answer ∙ ap answered e in
        let m : w.refusal ≡ n = ap (λ (v : Written). v.refusal) a in
        record {
          number = rw m k;
          others = ap (λ (v : Written). v.bytes) a;
          panel = c.kept ∙ ap (panel_after p (s p).panel) e;
          output = c.writes.output ∙ ap (left before) e;
        }

pub ready-tame : (settings : Ready) (p : Panel) → Tame (Listed ready_numbers) (ready_sending p settings).draft
unfolding ready_sending one_of
ready-tame settings p = by-test (Listed ready_numbers) (may_declare p) _ _ (client-ready-tame (Listed ready_numbers) settings refl) refl

pub dismiss-tame : (id : ℕ) (p : Panel) → Tame (Listed dismiss_numbers) (dismiss_sending p id).draft
unfolding dismiss_sending dismiss_draft one_of
dismiss-tame id p =
    by-test (Listed dismiss_numbers) (off p.ready) _ _ refl
    (by-test (Listed dismiss_numbers) (eqb (state_at (panel_table p) id) hovering) _ _ tt refl)

-- 10 and 14
frames-sent : (time : Milliseconds) (p : Panel) (x : Got (List (Frame Contact))) → reader.Tame (Listed touch_numbers) x → Tame (Listed touch_numbers) (frames_sending p time x).draft
unfolding sending_draft one_of
frames-sent time p (bad n) k = k
frames-sent time p (got fs t) k =
    by-test (Listed touch_numbers) (off p.ready) _ _ refl
    (by-test (Listed touch_numbers) (not (off p.suspended)) _ _ refl
    (by-test (Listed touch_numbers) (not (all_conform touch_view (panel_rules p) (panel_machine p) fs)) _ _ refl
    (by-test (Listed touch_numbers) (not (offset_stands p fs)) _ _ refl
    (frames-tame (Listed touch_numbers) time fs refl refl))))

pub touch-tame : (time : Milliseconds) (records : List ℕ) (p : Panel) → Tame (Listed touch_numbers) (touch_sending p time records).draft
unfolding touch_sending one_of
touch-tame time records p = frames-sent time p (checked_frames time records) (checked-tame time records (Listed touch_numbers) refl refl)

-- ---- every call

pub every-panel-refusal : EveryPanelRefusal
unfolding one_of
every-panel-refusal =
    record {
      take = take-refuses;
      write-ready = λ settings. sending-refuses ready_numbers refl _ (ready-tame settings);
      write-touch = λ time records. sending-refuses touch_numbers refl _ (touch-tame time records);
      write-dismiss = λ id. sending-refuses dismiss_numbers refl _ (dismiss-tame id);
    }
