-- Document 02, #101: the panel's sending side. "It keeps the suspended mark and writes client ready, touch and dismiss." What becomes of a panel,
-- what it answers and what it writes, of any call.
use Rattle.std.specs.Prelude.{ℕ, ◌≡◌, Bool, true, false, cond, not, List, [], ◌∷◌, eqb, length, Result}
use Rattle.paper.specs.Refusals.{bad_offset, trailing, not_ready}
use Rattle.paper.specs.Refusals as refusals
use Rattle.paper.specs.declared.Milliseconds.{Milliseconds}
use Rattle.paper.specs.declared.Refusal.{Refusal}
use Rattle.slices.specs.Writing.{Draft, bytes, refuse, given, Writes}
use Rattle.slices.specs.declared.Written.{Written}
use Rattle.formats.specs.Format.{Got, got, bad, and_then, whole}
use Rattle.formats.specs.Answer.{refusal_of, whole_of}
use Rattle.states.specs.Table.{hovering}
use Rattle.messages.specs.Header.{headed, server_ready, suspend, resume}
use Rattle.messages.specs.Bodies.{version, nothing, client_ready_draft, dismiss_draft}
use Rattle.messages.specs.declared.Ready.{Ready}
use Rattle.house.specs.declared.Contact.{Contact}
use Rattle.framing.specs.Frame.{Frame, begun_by}
use Rattle.channel.specs.Marks.{off, mark, judged_by}
use Rattle.machine.specs.Rules.{Rules}
use Rattle.machine.specs.Table.{Table, resting, state_at}
use Rattle.machine.specs.Machine.{Machine, running_with, run_machine, all_conform, dismiss_table}
use Rattle.contacts.specs.Touch.{touch_view, touch_rules}
use Rattle.writing.specs.TouchDraft.{frames_draft, checked_frames}
use Rattle.panels.specs.declared.Panel.{Panel}
use Rattle.panels.specs.declared.PanelMarks.{PanelMarks}
use Rattle.panels.specs.declared.Heard.{Heard}
use Rattle.panels.specs.declared.Said.{Said}

-- ---- a panel's parts

abbrev pub panel_table : Panel → Table
panel_table p = record { states = p.states; xs = p.xs; ys = p.ys }

-- a panel's machine is never ignoring: it sends no frame that does not conform
abbrev pub panel_machine : Panel → Machine
panel_machine p = running_with (panel_table p)

abbrev pub panel_rules : Panel → Rules Contact
panel_rules p = touch_rules p.settings.most

-- a panel that is lent in parts: the marks, and the contacts where they stand
abbrev pub panel_marks : Panel → PanelMarks
panel_marks p = record { greeted = p.greeted; ready = p.ready; suspended = p.suspended; begun = p.begun; settings = p.settings }

abbrev pub panel_of_parts : PanelMarks → Table → Panel
panel_of_parts m t =
    record {
      greeted = m.greeted;
      ready = m.ready;
      suspended = m.suspended;
      begun = m.begun;
      settings = m.settings;
      states = t.states;
      xs = t.xs;
      ys = t.ys;
    }

abbrev pub panel_with : Panel → Table → Panel
panel_with p t = panel_of_parts (panel_marks p) t

-- all zeros
unfoldable pub fresh_panel : Panel
fresh_panel = panel_of_parts (record { greeted = 0; ready = 0; suspended = 0; begun = 0; settings = record { flags = 0; version = 0; most = 0 } }) resting

-- ---- what arrives

-- "Before server ready it takes only 1, afterwards only 4 and 5"
abbrev pub awaited : Panel → List ℕ
awaited p = cond (off p.greeted) (server_ready ∷ []) (suspend ∷ resume ∷ [])

abbrev pub greeted_by : Panel → Panel
greeted_by p =
    record { greeted = 1; ready = p.ready; suspended = p.suspended; begun = p.begun; settings = p.settings; states = p.states; xs = p.xs; ys = p.ys }

abbrev pub suspended_by : Panel → Bool → Panel
suspended_by p on =
    record { greeted = p.greeted; ready = p.ready; suspended = mark on; begun = p.begun; settings = p.settings; states = p.states; xs = p.xs; ys = p.ys }

abbrev pub body_arrival : Panel → ℕ → List ℕ → Got Panel
body_arrival p e b =
    cond (eqb e server_ready) (and_then (whole version trailing b) (λ v t. got (greeted_by p) t))
    (and_then (whole nothing trailing b) (λ u t. got (suspended_by p (eqb e suspend)) t))

-- the panel that a message leaves, or the refusal of it
unfoldable pub arrival : Panel → List ℕ → Got Panel
arrival p l = and_then (headed (awaited p) l) (body_arrival p)

abbrev pub panel_of : Panel → Got Panel → Panel
panel_of p (got q t) = q
panel_of p (bad e) = p

-- what code that judges a message answers, of a panel with the contacts t: the marks that it leaves, or the refusal
abbrev pub heard_of : Table → Result PanelMarks Refusal → Got Panel
heard_of t r = and_then (whole_of r) (λ m l. got (panel_of_parts m t) l)

-- THE CONTRACT of what arrives
pub record Takes (p : Panel) (message : List ℕ) (panel : Panel) (refusal : ℕ) : Type 0 where
  pub kept : panel ≡ panel_of p (arrival p message)
  pub answered : refusal ≡ refusal_of (arrival p message)

-- .. of a panel with these marks, whatever its contacts are: they stay
abbrev pub TakesParts : PanelMarks → List ℕ → Heard → Type 0
TakesParts m message h = (t : Table) → Takes (panel_of_parts m t) message (panel_of_parts h.marks t) h.refusal

-- ---- what is sent: what a call would write, given room, and the panel that it leaves then

pub record Sending : Type 0 where
  pub draft : Draft
  pub panel : Panel

-- "15 NotReady (client ready before server ready was taken or a second time ..)"
abbrev pub may_declare : Panel → Bool
may_declare p = cond (off p.greeted) false (off p.ready)

abbrev pub declared_by : Panel → Ready → Panel
declared_by p s =
    record { greeted = p.greeted; ready = 1; suspended = p.suspended; begun = p.begun; settings = s; states = p.states; xs = p.xs; ys = p.ys }

-- "Client ready checks 15, 8, 13."
unfoldable pub ready_sending : Panel → Ready → Sending
ready_sending p s = record { draft = cond (may_declare p) (client_ready_draft s) (refuse not_ready); panel = declared_by p s }

-- "17 Illegal (.. a dismissal of a contact not hovering)"; "Dismiss may be sent while suspended."
unfoldable pub dismiss_sending : Panel → ℕ → Sending
dismiss_sending p id =
    record {
      draft =
          cond (off p.ready) (refuse not_ready)
          (cond (eqb (state_at (panel_table p) id) hovering) (dismiss_draft id) (refuse refusals.illegal));
      panel = panel_with p (dismiss_table (panel_table p) id);
    }

-- "11 applies to its first frame unless it sent ready flag 2"
abbrev pub offset_stands : Panel → List (Frame Contact) → Bool
offset_stands p [] = true
offset_stands p (f ∷ fs) = cond (judged_by p.settings.flags p.begun) (eqb f.offset.0 0) true

-- 15, 16, 17, 11, and then 7 and 2, as the touch writer judges them
unfoldable pub sending_draft : Panel → Milliseconds → List (Frame Contact) → Draft
sending_draft p time fs =
    cond (off p.ready) (refuse not_ready)
    (cond (not (off p.suspended)) (refuse refusals.suspended)
    (cond (not (all_conform touch_view (panel_rules p) (panel_machine p) fs)) (refuse refusals.illegal)
    (cond (not (offset_stands p fs)) (refuse bad_offset)
    (frames_draft time fs))))

abbrev pub touched_by : Panel → List (Frame Contact) → Panel
touched_by p fs =
    let t : Table = (run_machine touch_view (panel_rules p) (panel_machine p) fs).table in
    record {
      greeted = p.greeted;
      ready = p.ready;
      suspended = p.suspended;
      begun = begun_by 1 p.begun (length fs);
      settings = p.settings;
      states = t.states;
      xs = t.xs;
      ys = t.ys;
    }

abbrev pub frames_sending : Panel → Milliseconds → Got (List (Frame Contact)) → Sending
frames_sending p time (got fs t) = record { draft = sending_draft p time fs; panel = touched_by p fs }
frames_sending p time (bad e) = record { draft = refuse e; panel = p }

-- 10 and 14 come first
unfoldable pub touch_sending : Panel → Milliseconds → List ℕ → Sending
touch_sending p time records = frames_sending p time (checked_frames time records)

abbrev pub panel_after : Panel → Panel → Draft → Panel
panel_after p q (bytes s) = q
panel_after p q (refuse e) = p

-- THE CONTRACT of what is sent: every writer's, and the panel, which a refusal leaves as it was
pub record Sends (p : Panel) (s : Sending) (panel : Panel) (w : Written) (before after : List ℕ) : Type 0 where
  pub writes : Writes s.draft w before after
  pub kept : panel ≡ panel_after p s.panel (given (length before) s.draft)

-- .. of a panel in parts
abbrev pub SendsParts : Panel → Sending → Said → Table → List ℕ → List ℕ → Type 0
SendsParts p s said t before after = Sends p s (panel_of_parts said.marks t) said.written before after
