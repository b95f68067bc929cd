-- A touch message that a panel writes is read by a ready receiver to the same frames, and it injects them all.
-- Assumes nothing.
use Prim.Native.Nat.{ℕ}
use mathlib.Core.Path.{◌≡◌, refl, sym, ap, ◌∙◌}
use mathlib.Core.Bool.{Bool, true, false, cond, not}
use mathlib.Core.List.{List, [], ◌∷◌}
use lib.ListN.{length, drop}
use borrow.Author.Tests.{not-false}
use Rattle.paper.specs.Refusals.{not_ready, bad_offset}
use Rattle.paper.specs.Refusals as refusals
use Rattle.paper.specs.declared.Milliseconds.{Milliseconds}
use Rattle.digits.specs.Digits.{Bytes}
use Rattle.slices.specs.Writing.{bytes}
use Rattle.formats.specs.Format.{Got, got, bad}
use Rattle.fields.specs.Integers.{taken}
use Rattle.fields.proofs.Laws.{taken-law}
use Rattle.house.specs.declared.Contact.{Contact}
use Rattle.messages.specs.Header.{header_bytes, one_of, client_ready, dismiss}
use Rattle.messages.specs.Header as event
use Rattle.messages.proofs.Laws.{one-of-first}
use Rattle.framing.specs.Frame.{Frame, timed_frames, frames_bytes}
use Rattle.framing.proofs.Timed.{timed-length, timed-same}
use Rattle.framing.proofs.Judged.{first_stands, body-judged}
use Rattle.touch.specs.Limits.{touch_limits}
use Rattle.touch.specs.Touch.{Touch, contact, touch_record, body}
use Rattle.touch.specs.Touch as format
use Rattle.touch.proofs.Laws.{touch-law}
use Rattle.recordings.proofs.Records.{frames-read}
use Rattle.writing.specs.TouchDraft.{frames_draft, checked_frames, touch_draft}
use Rattle.writing.proofs.Checked.{checked-got}
use Rattle.writing.proofs.RoundTrip.{written, written-reads}
use Rattle.reading.specs.Plain.{plainly}
use Rattle.channel.specs.Marks.{off, mark, untimed_by, judged_by}
use Rattle.machine.specs.Machine.{all_conform}
use Rattle.machine.proofs.Conforming.{all_injected, all-running, all_held, all-bytes, all-counts, timed-machine, timed-conform}
use Rattle.contacts.specs.Touch.{touch_view}
use Rattle.panels.specs.Panel.{panel_rules, panel_machine, offset_stands, sending_draft, frames_sending, touch_sending, touched_by}
use Rattle.panels.specs.declared.Panel.{Panel}
use Rattle.receiver.specs.Receive.{takes, touched, effect}
use Rattle.receiver.proofs.Invariants.{touched-kept}
use Rattle.delivery.specs.Delivery.{touch, mirror, frames_of}
use Rattle.slices.proofs.Drafts.{refused, spared}
use Rattle.delivery.proofs.Understood.{Understood, opened}
use Rattle.delivery.proofs.Fitting.{recorded-fit}

-- ---- a draft that is bytes passed every check of the panel

record Passed (p : Panel) (time : Milliseconds) (fs : List (Frame Contact)) (l : List ℕ) : Type 0 where
  pub ready : off p.ready ≡ false
  pub conform : all_conform touch_view (panel_rules p) (panel_machine p) fs ≡ true
  pub stands : offset_stands p fs ≡ true
  pub draft : frames_draft time fs ≡ bytes l

passes : (p : Panel) (time : Milliseconds) (fs : List (Frame Contact)) (l : List ℕ) → sending_draft p time fs ≡ bytes l → Passed p time fs l
unfolding sending_draft
passes p time fs l h =
    let a = spared (off p.ready) _ not_ready l h in
    let b = spared (not (off p.suspended)) _ refusals.suspended l a.1 in
    let c = spared (not (all_conform touch_view (panel_rules p) (panel_machine p) fs)) _ refusals.illegal l b.1 in
    let d = spared (not (offset_stands p fs)) _ bad_offset l c.1 in
    record { ready = a.0; conform = not-false _ c.0; stands = not-false _ d.0; draft = d.1 }

-- ---- frames that all conform, at the receiver

abbrev message : Milliseconds → List (Frame Contact) → Touch
message time fs = record { time = time; frames = fs }

abbrev untimed : Panel → Bool
untimed p = untimed_by p.settings.flags

module _ (p : Panel) (time : Milliseconds) (fs : List (Frame Contact)) (c : all_conform touch_view (panel_rules p) (panel_machine p) fs ≡ true) where
  timed : all_conform touch_view (panel_rules p) (panel_machine p) (timed_frames (untimed p) fs) ≡ true
  timed = timed-conform touch_view (panel_rules p) (untimed p) (panel_machine p) fs ∙ c

  touched-counts : (touched (mirror p) (message time fs)).counts ≡ all_injected (length fs)
  unfolding touched
  touched-counts = all-counts touch_view (panel_rules p) (panel_machine p) (timed_frames (untimed p) fs) refl timed ∙ ap all_injected (timed-length (untimed p) fs)

  touched-receiver : (touched (mirror p) (message time fs)).receiver ≡ mirror (touched_by p fs)
  unfolding touched
  touched-receiver =
      let a = timed-machine touch_view (panel_rules p) (untimed p) (panel_machine p) fs in
      let r = ap (λ (b : Bool). mark (not b)) (all-running touch_view (panel_rules p) (panel_machine p) (timed_frames (untimed p) fs) refl timed) in
      let h = all_held touch_view (panel_rules p) (panel_machine p) (timed_frames (untimed p) fs) refl timed in
      λ i. record {
        ready = p.ready;
        begun = (touched_by p fs).begun;
        ignoring = r i;
        settings = p.settings;
        states = (a i).table.states;
        xs = (a i).table.xs;
        ys = (a i).table.ys;
        held = h i;
      }

  -- "those that the panel was given (offsets 0 with ready flag 2)"
  touched-bytes : (records : List ℕ) → records ≡ frames_bytes touch_record fs
      → (touched (mirror p) (message time fs)).bytes ≡ cond (untimed p) (frames_bytes touch_record (timed_frames true fs)) records
  unfolding touched
  touched-bytes records e = all-bytes touch_view (panel_rules p) (panel_machine p) (timed_frames (untimed p) fs) refl timed ∙ go (untimed p)
    where
      go : (b : Bool) → frames_bytes touch_record (timed_frames b fs) ≡ cond b (frames_bytes touch_record (timed_frames true fs)) records
      go true = refl
      go false = ap (frames_bytes touch_record) (timed-same fs) ∙ sym e

-- ---- the message

takes-touch : (p : Panel) → off p.ready ≡ false → one_of (takes (mirror p)) event.touch ≡ true
takes-touch p o =
    ap (λ (b : Bool). one_of (cond b (client_ready ∷ []) (event.touch ∷ dismiss ∷ [])) event.touch) o ∙ one-of-first event.touch (dismiss ∷ []) event.touch refl

-- 11 was judged by the panel as the receiver judges it
first-stands : (p : Panel) (fs : List (Frame Contact)) → offset_stands p fs ≡ true → first_stands (judged_by p.settings.flags p.begun) fs ≡ true
first-stands p [] h = refl
first-stands p (f ∷ fs) h = h

module _ (p : Panel) (time : Milliseconds) (records l : List ℕ) (b : Bytes records) where
  frames-written : (fs : List (Frame Contact)) (t : List ℕ) → checked_frames time records ≡ got fs t → frames_draft time fs ≡ bytes l → plainly l ≡ got (message time fs) []
  unfolding touch_draft
  frames-written fs t e d =
      let w = written time records l (rw e d) in
      let k = sym w.read ∙ (checked-got time records fs t e).read in
      let z : w.frames ≡ fs = cc in
      written-reads false time records l b w ∙ ap (λ (gs : List (Frame Contact)). got (message time gs) []) z

  frames-understood : (fs : List (Frame Contact)) (t : List ℕ) → checked_frames time records ≡ got fs t → sending_draft p time fs ≡ bytes l → Understood p (touch time records) l
  unfolding touch_sending effect
  frames-understood fs t e h =
      let m = message time fs in
      let k = passes p time fs l h in
      let c = checked-got time records fs t e in
      let r = frames-read records fs t b c.read in
      let o = opened (mirror p) event.touch (format.touch taken false) (touch-law taken taken-law false) l m (frames-written fs t e k.draft) (takes-touch p k.ready) in
      let j = body-judged taken touch_limits (contact taken) (judged_by p.settings.flags p.begun) (drop header_bytes l) m [] o.body in
      let s = first-stands p fs k.stands in
      record {
        effect = touched (mirror p) m;
        read = rw (o.head, j, s);
        counts = touched-counts p time fs k.conform ∙ ap (λ (x : Got (List (Frame Contact))). all_injected (length (frames_of x))) (sym c.read);
        receiver = touched-receiver p time fs k.conform ∙ ap (λ (x : Got (List (Frame Contact))). mirror (frames_sending p time x).panel) (sym e);
        bytes =
            touched-bytes p time fs k.conform records r.same
            ∙ ap (λ (x : Got (List (Frame Contact))). cond (untimed p) (frames_bytes touch_record (timed_frames true (frames_of x))) records) (sym c.read);
        kept = touched-kept (mirror p) m k.ready (recorded-fit fs r.fit);
      }

  pub touch-understood : (touch_sending p time records).draft ≡ bytes l → Understood p (touch time records) l
  unfolding touch_sending
  touch-understood h = go (checked_frames time records) refl h
    where
      go : (x : Got (List (Frame Contact))) → checked_frames time records ≡ x → (frames_sending p time x).draft ≡ bytes l → Understood p (touch time records) l
      go (got fs t) e h = frames-understood fs t e h
      go (bad n) e h = refused n l h
