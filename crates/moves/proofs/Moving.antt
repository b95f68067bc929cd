-- What a frame's contacts leave of the table, as a loop reads them, and that it is what the frame leaves where they can all be read.
-- Assumes nothing.
use Prim.Native.Nat.{ℕ}
use mathlib.Core.Path.{◌≡◌, refl, ap, ◌∙◌}
use mathlib.Core.List.{List}
use borrow.Author.Tests.{eq-eqb, ne_eqb}
use Rattle.formats.specs.Format.{got, Format}
use Rattle.framing.specs.After.{on_read, after_read}
use Rattle.framing.proofs.After.{read_all}
use Rattle.states.specs.Table.{out, next}
use Rattle.house.specs.declared.Contact.{Contact}
use Rattle.machine.specs.Table.{Table, with_contact, origin}
use Rattle.machine.specs.Conforms.{next_of, moved, table_after}
use Rattle.contacts.specs.Touch.{touch_view}
use Rattle.contacts.specs.Ruling.{contacts_by}
use Rattle.moves.specs.Moves.{Moves, behind, Applies}

-- ---- one contact

module _ (t u : Table) (c : Contact) (s : ℕ) (stepped : s ≡ next_of touch_view next t c) where
  pub moves_out : s ≡ out → u ≡ with_contact t c.id s origin → Moves c t u
  unfolding moved
  moves_out o e = e ∙ rw (← stepped, eq-eqb s out o)

  pub moves-in : (s ≡ out → ⊥) → u ≡ with_contact t c.id s c.place → Moves c t u
  unfolding moved
  moves-in o e = e ∙ rw (← stepped, ne_eqb s out o)

-- ---- contacts that are read one after the other, in whatever format

module _ (format : Format Contact) where
  -- those that can all be read, stored
  pub stored-all : (n : ℕ) (t : Table) (l : List ℕ) (cs : List Contact) (rest : List ℕ) → contacts_by format n l ≡ got cs rest → after_read (moved touch_view next) format n t l ≡ table_after touch_view next t cs
  unfolding table_after
  stored-all = read_all (moved touch_view next) format (table_after touch_view next) (λ a. refl) (λ a c ds. refl)

  pub applies-after : (n : ℕ) (l left : List ℕ) (t u : Table) (cs : List Contact) (rest : List ℕ) → Applies format n l left t u → contacts_by format n l ≡ got cs rest
      → u ≡ table_after touch_view next t cs
  applies-after n l left t u cs rest h e = h.table ∙ stored-all n t l cs rest e

  -- what is behind them
  pub behind_read : (n : ℕ) (l : List ℕ) (cs : List Contact) (t : List ℕ) → contacts_by format n l ≡ got cs t → behind format n l ≡ t
  behind_read n l cs t e = ap (on_read l (λ cs t. t)) e
