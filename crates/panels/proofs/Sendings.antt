-- The contract of what is sent: of a call that its own checks refuse, of one that its writer refuses, and of one that is written.
-- Assumes nothing.
use Prim.Native.Nat.{ℕ}
use mathlib.Core.Path.{◌≡◌, refl, sym, ap, ◌∙◌}
use mathlib.Core.Bool.{Bool, true, false, cond}
use mathlib.Core.List.{List}
use native.Mathlib.Omega.{arith}
use lib.ListN.{length}
use borrow.Author.Tests.{eq-eqb, ne_eqb}
use Rattle.paper.specs.Refusals.{none, not_ready, illegal}
use Rattle.slices.specs.Writing.{Draft, bytes, refuse, given, answered, Writes}
use Rattle.slices.specs.declared.Written.{Written}
use Rattle.slices.proofs.Laws.{given-refuse, writes-refuse}
use Rattle.messages.specs.Bodies.{client_ready_draft, dismiss_draft}
use Rattle.messages.specs.declared.Ready.{Ready}
use Rattle.states.specs.Table.{out, hovering}
use Rattle.channel.specs.Marks.{off}
use Rattle.machine.specs.Table.{Table, state_at, with_contact, origin}
use Rattle.machine.proofs.Machine.{dismiss-table}
use Rattle.panels.specs.Panel.{panel_table, panel_of_parts, panel_with, Sending, panel_after, Sends, SendsParts, may_declare, ready_sending, dismiss_sending}
use Rattle.panels.specs.declared.Panel.{Panel}
use Rattle.panels.specs.declared.PanelMarks.{PanelMarks}
use Rattle.panels.specs.declared.Said.{Said}
use Rattle.panels.proofs.Drafts.{Tame, Told, given-tame}

-- a refusal as it is answered
abbrev refused_as : PanelMarks → ℕ → Said
refused_as m n = record { marks = m; written = record { refusal = n; bytes = 0 } }

module _ (m : PanelMarks) (t : Table) (s : Sending) (before : List ℕ) (d : Draft) (same : s.draft ≡ d) where
  -- the panel that is lent
  abbrev lent : Panel
  lent = panel_of_parts m t

  -- what is left of the panel, by what the room leaves of the draft
  after_is : (x : Draft) → given (length before) d ≡ x → panel_after lent s.panel (given (length before) s.draft) ≡ panel_after lent s.panel x
  after_is x e = ap (λ (y : Draft). panel_after lent s.panel (given (length before) y)) same ∙ ap (panel_after lent s.panel) e

  pub sends-refused : (n : ℕ) (x : Said) → d ≡ refuse n → x ≡ refused_as m n → SendsParts lent s x t before before
  sends-refused n x e h =
      rw h
      (record {
        writes = rw (same ∙ e) (writes-refuse n _ before before refl refl);
        kept = sym (after_is (refuse n) (ap (given (length before)) e ∙ given-refuse n (length before)));
      })

  module _ (w : Written) (after : List ℕ) (writes : Writes d w before after) where
    pub sends-failed : (w.refusal ≡ none → ⊥) → (x : Said) → x ≡ refused_as m w.refusal → SendsParts lent s x t before after
    sends-failed u x h = go (given (length before) d) refl
      where
        go : (y : Draft) → given (length before) d ≡ y → SendsParts lent s x t before after
        go (bytes b) e = absurd (u (ap (λ (v : Written). v.refusal) (writes.answer ∙ ap answered e)))
        go (refuse n) e =
            let a : w ≡ record { refusal = n; bytes = 0 } = writes.answer ∙ ap answered e in
            let z : x ≡ record { marks = m; written = w } = h ∙ ap (λ (v : Written). refused_as m v.refusal) a ∙ sym (ap (λ (v : Written). record { marks = m; written = v }) a) in
            rw z (record { writes = rw same writes; kept = sym (after_is (refuse n) e) })

    pub sends-done : Tame Told d → w.refusal ≡ none → (q : Panel) → q ≡ s.panel → Sends lent s q w before after
    sends-done told u q h = go (given (length before) d) refl (given-tame Told (length before) d (λ z. omega (arith, z)) told)
      where
        go : (y : Draft) → given (length before) d ≡ y → Tame Told y → Sends lent s q w before after
        go (bytes b) e k = record { writes = rw same writes; kept = h ∙ sym (after_is (bytes b) e) }
        go (refuse n) e k = absurd (k (sym (ap (λ (v : Written). v.refusal) (writes.answer ∙ ap answered e)) ∙ u))

-- ---- client ready

module _ (p : Panel) (s : Ready) where
  pub ready-early : may_declare p ≡ false → (ready_sending p s).draft ≡ refuse not_ready
  unfolding ready_sending
  ready-early h = ap (λ (b : Bool). cond b (client_ready_draft s) (refuse not_ready)) h

  pub ready-due : may_declare p ≡ true → (ready_sending p s).draft ≡ client_ready_draft s
  unfolding ready_sending
  ready-due h = ap (λ (b : Bool). cond b (client_ready_draft s) (refuse not_ready)) h

-- ---- dismiss

module _ (p : Panel) (id : ℕ) where
  pub dismiss-early : off p.ready ≡ true → (dismiss_sending p id).draft ≡ refuse not_ready
  unfolding dismiss_sending
  dismiss-early h = rw h

  module _ (o : off p.ready ≡ false) where
    pub dismiss-illegal : (state_at (panel_table p) id ≡ hovering → ⊥) → (dismiss_sending p id).draft ≡ refuse illegal
    unfolding dismiss_sending
    dismiss-illegal h = rw (o, ne_eqb (state_at (panel_table p) id) hovering h)

    pub dismiss-due : state_at (panel_table p) id ≡ hovering → (dismiss_sending p id).draft ≡ dismiss_draft id
    unfolding dismiss_sending
    dismiss-due h = rw (o, eq-eqb (state_at (panel_table p) id) hovering h)

  -- the panel that it leaves
  pub dismiss-leaves : state_at (panel_table p) id ≡ hovering → (t : Table) → t ≡ with_contact (panel_table p) id out origin → panel_with p t ≡ (dismiss_sending p id).panel
  unfolding dismiss_sending
  dismiss-leaves h t e = ap (panel_with p) (e ∙ sym (dismiss-table (panel_table p) id h))
