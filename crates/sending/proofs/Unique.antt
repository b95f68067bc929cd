-- Two outcomes that the contract of a call allows are equal: in the panel, or in its marks and contacts where it is lent in parts, in the answer and
-- in the output.
-- Assumes nothing.
use Prim.Native.Nat.{ℕ}
use mathlib.Core.Path.{◌≡◌, sym, ◌∙◌}
use mathlib.Core.List.{List}
use Rattle.paper.specs.declared.Milliseconds.{Milliseconds}
use Rattle.slices.specs.declared.Written.{Written}
use Rattle.slices.proofs.Laws.{writes-unique}
use Rattle.messages.specs.declared.Ready.{Ready}
use Rattle.machine.specs.Table.{Table, resting}
use Rattle.panels.specs.Panel.{panel_table, panel_marks, panel_of_parts, fresh_panel, Takes, TakesParts, Sending, ready_sending, touch_sending, dismiss_sending, Sends, SendsParts}
use Rattle.panels.specs.declared.Panel.{Panel}
use Rattle.panels.specs.declared.PanelMarks.{PanelMarks}
use Rattle.panels.specs.declared.Heard.{Heard}
use Rattle.panels.specs.declared.Said.{Said}

pub record Same (p q : Panel) (v w : Written) (s t : List ℕ) : Type 0 where
  pub panel : p ≡ q
  pub answer : v ≡ w
  pub output : s ≡ t

-- what a call that writes answers and leaves, of the panel p
abbrev pub One : Panel → Sending → Type 0
One p s = (q r : Panel) (v w : Written) (before after after' : List ℕ) → Sends p s q v before after → Sends p s r w before after' → Same q r v w after after'

sends-unique : (p : Panel) (s : Sending) → One p s
sends-unique p s q r v w before after after' x y =
    let u = writes-unique s.draft v w before after after' x.writes y.writes in
    record { panel = x.kept ∙ sym y.kept; answer = u.0; output = u.1 }

-- .. of a panel that is lent in parts
abbrev pub OneInParts : Panel → Sending → Type 0
OneInParts p s = (a b : Said) (t u : Table) (before after after' : List ℕ) → SendsParts p s a t before after → SendsParts p s b u before after' → (a ≡ b) × (t ≡ u) × (after ≡ after')

sends-parts-unique : (p : Panel) (s : Sending) → OneInParts p s
sends-parts-unique p s a b t u before after after' x y =
    let e = sends-unique p s _ _ _ _ before after after' x y in (
      λ i. record {
        marks = panel_marks (e.panel i);
        written = e.answer i;
      },
      λ i. panel_table (e.panel i),
      e.output,
    )

-- .. and of one whose contacts are not lent at all
abbrev pub OneReady : PanelMarks → Ready → Type 0
OneReady m settings =
    (a b : Said) (before after after' : List ℕ) → ((t : Table) → SendsParts (panel_of_parts m t) (ready_sending (panel_of_parts m t) settings) a t before after)
    → ((t : Table) → SendsParts (panel_of_parts m t) (ready_sending (panel_of_parts m t) settings) b t before after') → (a ≡ b) × (after ≡ after')

ready-unique : (m : PanelMarks) (settings : Ready) → OneReady m settings
ready-unique m settings a b before after after' x y =
    let e = sends-parts-unique _ _ a b resting resting before after after' (x resting) (y resting) in (e.0, e.2)

take-unique : (p : Panel) (message : List ℕ) (q r : Panel) (m n : ℕ) → Takes p message q m → Takes p message r n → (q ≡ r) × (m ≡ n)
take-unique p message q r m n x y = (x.kept ∙ sym y.kept, x.answered ∙ sym y.answered)

take-parts-unique : (m : PanelMarks) (message : List ℕ) (a b : Heard) → TakesParts m message a → TakesParts m message b → a ≡ b
take-parts-unique m message a b x y =
    let e = take-unique _ message _ _ _ _ (x resting) (y resting) in λ i. record { marks = panel_marks (e.0 i); refusal = e.1 i }

pub record Calls : Type 0 where
  pub fresh : (a b : Panel) → a ≡ fresh_panel → b ≡ fresh_panel → a ≡ b
  pub take : (p : Panel) (message : List ℕ) (q r : Panel) (m n : ℕ) → Takes p message q m → Takes p message r n → (q ≡ r) × (m ≡ n)
  pub write-ready : (p : Panel) (settings : Ready) → One p (ready_sending p settings)
  pub write-touch : (p : Panel) (time : Milliseconds) (records : List ℕ) → One p (touch_sending p time records)
  pub write-dismiss : (p : Panel) (id : ℕ) → One p (dismiss_sending p id)
  pub take-parts : (m : PanelMarks) (message : List ℕ) (a b : Heard) → TakesParts m message a → TakesParts m message b → a ≡ b
  pub write-ready-parts : (m : PanelMarks) (settings : Ready) → OneReady m settings
  pub write-touch-parts : (p : Panel) (time : Milliseconds) (records : List ℕ) → OneInParts p (touch_sending p time records)
  pub write-dismiss-parts : (p : Panel) (id : ℕ) → OneInParts p (dismiss_sending p id)

pub calls-unique : Calls
calls-unique =
    record {
      fresh = λ a b e f. e ∙ sym f;
      take = take-unique;
      write-ready = λ p settings. sends-unique p (ready_sending p settings);
      write-touch = λ p time records. sends-unique p (touch_sending p time records);
      write-dismiss = λ p id. sends-unique p (dismiss_sending p id);
      take-parts = take-parts-unique;
      write-ready-parts = ready-unique;
      write-touch-parts = λ p time records. sends-parts-unique p (touch_sending p time records);
      write-dismiss-parts = λ p id. sends-parts-unique p (dismiss_sending p id);
    }
