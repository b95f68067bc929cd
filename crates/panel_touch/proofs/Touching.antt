-- What a touch message comes to, check by check: 10 and 14 with 15 and 16, then 17 and 11, then what the touch writer says.
-- Assumes nothing.
use Prim.Native.Nat.{ℕ}
use mathlib.Core.Path.{◌≡◌, refl, sym, ap, ◌∙◌}
use mathlib.Core.Bool.{Bool, true, false, cond, not}
use mathlib.Core.List.{List, []}
use lib.ListN.{length}
use Rattle.paper.specs.Refusals.{not_ready, bad_offset, suspended, illegal}
use Rattle.paper.specs.declared.Milliseconds.{Milliseconds}
use Rattle.slices.specs.Writing.{Draft, refuse}
use Rattle.formats.specs.Format.{Got, got, bad}
use Rattle.formats.proofs.Laws.{never}
use Rattle.house.specs.declared.Contact.{Contact}
use Rattle.framing.specs.Frame.{Frame, begun_by}
use Rattle.channel.specs.Marks.{off}
use Rattle.recordings.specs.Records.{frames_in}
use Rattle.recordings.specs.Answer.{counted}
use Rattle.machine.specs.Table.{Table}
use Rattle.machine.specs.Machine.{Machine, running_with, run_machine, all_conform}
use Rattle.contacts.specs.Touch.{touch_view}
use Rattle.writing.specs.TouchDraft.{checked_frames, frames_draft, draft_of, touch_draft}
use Rattle.writing.proofs.Checked.{checked-got}
use Rattle.panels.specs.Panel.{panel_rules, panel_machine, panel_of_parts, offset_stands, sending_draft, touch_sending}
use Rattle.panels.specs.declared.Panel.{Panel}
use Rattle.panels.proofs.Drafts.{Tame, Told, frames-told}
use Rattle.panel_checks.specs.Checks.{permitted}
use Rattle.panel_touch.specs.Judging.{AreFrames, fault_of}

module _ (p : Panel) (time : Milliseconds) (records : List ℕ) where
  -- frames that may be sent now
  pub record Permitted (n : ℕ) : Type 0 where
    pub frames : List (Frame Contact)
    pub rest : List ℕ
    pub checked : checked_frames time records ≡ got frames rest
    pub count : n ≡ length frames
    pub ready : off p.ready ≡ false
    pub free : off p.suspended ≡ true

  -- ---- 10, 14, 15 and 16

  pub touch-refused : (e : ℕ) → bad e ≡ counted (permitted p.ready p.suspended (checked_frames time records)) → (touch_sending p time records).draft ≡ refuse e
  unfolding touch_sending sending_draft
  touch-refused e h = go (checked_frames time records) refl (off p.ready) refl (off p.suspended) refl h
    where
      go : (x : Got (List (Frame Contact))) → checked_frames time records ≡ x → (r : Bool) → off p.ready ≡ r → (s : Bool) → off p.suspended ≡ s
          → bad e ≡ counted (permitted p.ready p.suspended x) → (touch_sending p time records).draft ≡ refuse e
      go (bad x) w r er s es h = let z : e ≡ x = cc in rw (w, z)
      go (got fs t) w true er s es h = let k : bad e ≡ bad not_ready = rw er at h in let z : e ≡ not_ready = cc in rw (w, er, z)
      go (got fs t) w false er false es h = let k : bad e ≡ bad suspended = rw (er, es) at h in let z : e ≡ suspended = cc in rw (w, er, es, z)
      go (got fs t) w false er true es h = let k : bad e ≡ got (length fs) [] = rw (er, es) at h in never e (length fs) [] k

  pub touch-permitted : (n : ℕ) → got n [] ≡ counted (permitted p.ready p.suspended (checked_frames time records)) → Permitted n
  touch-permitted n h = go (checked_frames time records) refl (off p.ready) refl (off p.suspended) refl h
    where
      go : (x : Got (List (Frame Contact))) → checked_frames time records ≡ x → (r : Bool) → off p.ready ≡ r → (s : Bool) → off p.suspended ≡ s
          → got n [] ≡ counted (permitted p.ready p.suspended x) → Permitted n
      go (bad x) w r er s es h = never x n [] (sym h)
      go (got fs t) w true er s es h = let k : got n [] ≡ bad not_ready = rw er at h in never not_ready n [] (sym k)
      go (got fs t) w false er false es h = let k : got n [] ≡ bad suspended = rw (er, es) at h in never suspended n [] (sym k)
      go (got fs t) w false er true es h =
          let k : got n [] ≡ got (length fs) [] = rw (er, es) at h in
          let z : n ≡ length fs = cc in
          record { frames = fs; rest = t; checked = w; count = z; ready = er; free = es }

  module _ (n : ℕ) (w : Permitted n) where
    pub frames-read : frames_in records ≡ got w.frames w.rest
    frames-read = (checked-got time records w.frames w.rest w.checked).read

    pub are-frames : AreFrames records
    are-frames = record { frames = w.frames; after = w.rest; read = frames-read }

    -- what is left to check
    abbrev ahead : Draft
    ahead =
        cond (not (all_conform touch_view (panel_rules p) (panel_machine p) w.frames)) (refuse illegal)
        (cond (not (offset_stands p w.frames)) (refuse bad_offset)
        (frames_draft time w.frames))

    permitted-draft : (touch_sending p time records).draft ≡ ahead
    unfolding touch_sending sending_draft
    permitted-draft = rw (w.checked, w.ready, w.free)

    -- the writer's draft
    writer's-draft : touch_draft time records ≡ frames_draft time w.frames
    unfolding touch_draft
    writer's-draft = ap (draft_of time) w.checked

    pub touch-told : Tame Told (touch_draft time records)
    touch-told = rw writer's-draft (frames-told time w.frames)

    -- ---- 17 and 11

    pub touch-fault : (e : ℕ) → bad e ≡ fault_of p w.frames → (touch_sending p time records).draft ≡ refuse e
    touch-fault e h = permitted-draft ∙ go (not (all_conform touch_view (panel_rules p) (panel_machine p) w.frames)) (not (offset_stands p w.frames)) h
      where
        go : (a b : Bool) → bad e ≡ cond a (bad illegal) (cond b (bad bad_offset) (got (tt {0}) [])) → cond a (refuse illegal) (cond b (refuse bad_offset) (frames_draft time w.frames)) ≡ refuse e
        go true b k = let z : illegal ≡ e = cc in ap refuse z
        go false true k = let z : bad_offset ≡ e = cc in ap refuse z
        go false false k = never e (tt {0}) [] k

    pub touch-due : got (tt {0}) [] ≡ fault_of p w.frames → (touch_sending p time records).draft ≡ touch_draft time records
    touch-due h = permitted-draft ∙ go (not (all_conform touch_view (panel_rules p) (panel_machine p) w.frames)) (not (offset_stands p w.frames)) h ∙ sym writer's-draft
      where
        go : (a b : Bool) → got (tt {0}) [] ≡ cond a (bad illegal) (cond b (bad bad_offset) (got (tt {0}) [])) → cond a (refuse illegal) (cond b (refuse bad_offset) (frames_draft time w.frames)) ≡ frames_draft time w.frames
        go true b k = never illegal (tt {0}) [] (sym k)
        go false true k = never bad_offset (tt {0}) [] (sym k)
        go false false k = refl

    -- the panel with this first-frame mark and this table
    abbrev parted : ℕ → Table → Panel
    parted begun t = panel_of_parts (record { greeted = p.greeted; ready = p.ready; suspended = p.suspended; begun = begun; settings = p.settings }) t

    -- the panel that it leaves
    pub touch-leaves : (b : ℕ) (u : Table) → b ≡ begun_by 1 p.begun n → running_with u ≡ run_machine touch_view (panel_rules p) (panel_machine p) w.frames
        → parted b u ≡ (touch_sending p time records).panel
    unfolding touch_sending
    touch-leaves b u e q =
        let t = ap (λ (m : Machine). m.table) q in
        let k : b ≡ begun_by 1 p.begun (length w.frames) = e ∙ ap (begun_by 1 p.begun) w.count in
        rw w.checked (λ i. parted (k i) (t i))
