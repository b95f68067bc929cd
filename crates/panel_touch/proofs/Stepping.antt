-- A step over the frame at the front of records: of one that does not conform, and of one that is stored.
-- Assumes nothing.
use Prim.Native.Nat.{ℕ}
use mathlib.Core.Path.{◌≡◌, refl, ap, ◌∙◌}
use mathlib.Core.Bool.{Bool, true, false, cond}
use mathlib.Core.List.{List}
use native.Mathlib.Omega.{arith}
use lib.ListN.{drop}
use Rattle.std.specs.Prelude.{Option, Some, None}
use Rattle.std.specs.Borrow.{Bor}
use Rattle.digits.specs.Digits.{Bytes}
use Rattle.digits.proofs.Laws.{bytes_drop}
use Rattle.formats.specs.Format.{got}
use Rattle.states.specs.Table.{next}
use Rattle.house.specs.Layout.{record_of}
use Rattle.house.specs.declared.Contact.{Contact}
use Rattle.framing.specs.Frame.{Frame}
use Rattle.recordings.specs.Records.{contact_record, frame_records}
use Rattle.recordings.specs.Answer.{contacts_after}
use Rattle.machine.specs.Table.{Table, count_active}
use Rattle.machine.specs.Conforms.{every, table_after, conforms}
use Rattle.machine.proofs.Conforms.{in_table, after-long}
use Rattle.contacts.specs.Touch.{touch_view, touch_rules}
use Rattle.contacts.specs.Ruling.{contacts_by, of_read, Counted, judged_of, judged_from}
use Rattle.contacts.proofs.Reading.{read-ids}
use Rattle.contacts.proofs.Judgement.{judged-as-the-rules-say}
use Rattle.moves.specs.Moves.{Applies}
use Rattle.moves.proofs.Moving.{applies-after, behind_read}
use Rattle.panel_checks.proofs.Recorded.{parts}
use Rattle.panel_touch.specs.Judging.{StepsOver}

pub untrue : {P : Type 0} → false ≡ true → P
untrue e = absurd (let z : ◌≡◌ {A = ℕ} 0 1 = cc in omega arith)

-- what a judgement says, of a test and a number
abbrev Says : Bool → ℕ → Option ℕ → Type 0
Says b k (Some n) = (b ≡ true) × (n ≡ k)
Says b k None = b ≡ false

says : (b : Bool) (k : ℕ) (j : Option ℕ) → j ≡ cond b (Some k) None → Says b k j
says b k j e = rw e (go b)
  where
    go : (b : Bool) → Says b k (cond b (Some k) None)
    go true = (refl, refl)
    go false = refl

-- s is what is behind the head, and n the count in it
module _ (most : ℕ) (l : List ℕ) (f : Frame Contact) (rest : List ℕ) (e : frame_records.read l ≡ got f rest) (t : Table) (s : List ℕ) (es : s ≡ drop 21 l) (n : ℕ) (en : n ≡ contacts_after (record_of l)) (bytes : Bytes l) where
  -- ids are bytes, wherever contacts are read
  ids : of_read true (every (in_table touch_view)) (contacts_by contact_record n s) ≡ true
  ids = read-ids true n s (rw es (bytes_drop 21 l bytes))

  contacts-read : contacts_by contact_record n s ≡ got f.contacts rest
  contacts-read = rw (es, en) (parts l f rest e).contacts

  module _ (active : ℕ) (k : Counted active t.states) where
    judgement : (j : Option ℕ) → j ≡ judged_from most active t (contacts_by contact_record n s)
        → Says (conforms touch_view (touch_rules most) t f.contacts) (count_active (table_after touch_view next t f.contacts).states) j
    unfolding judged_of
    judgement j h =
        let r = judged-as-the-rules-say most t.states t.xs t.ys active k (contacts_by contact_record n s) ids in
        says _ _ j (h ∙ r ∙ ap (of_read None (judged_of (touch_rules most) t)) contacts-read)

    pub step-fails : None ≡ judged_from most active t (contacts_by contact_record n s) → (u : Table) → StepsOver (touch_rules most) f rest None t u
    step-fails h u = judgement None h

    pub step-goes : (after : ℕ) → Some after ≡ judged_from most active t (contacts_by contact_record n s) → (left : Bor (List ℕ)) (u : Table)
        → Applies contact_record n s left.now t u → StepsOver (touch_rules most) f rest (Some (after, left)) t u
    step-goes after h left u a =
        let j = judgement (Some after) h in
        let x = applies-after contact_record n s left.now t u f.contacts rest a contacts-read in (
          j.0,
          x,
          rw x (record { all = after-long touch_view next t f.contacts ∙ k.all; same = j.1 }),
          a.passed ∙ behind_read contact_record n s f.contacts rest contacts-read,
        )
