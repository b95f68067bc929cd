-- `well_formed::is_well_formed` meets its contract: each arm is the definition's case.
-- Assumes nothing.
use mathlib.Core.Path.{◌≡◌, refl, sym, ap, ◌∙◌}
use mathlib.Core.Bool.{Bool, true, false, ◌&&◌}
use mathlib.Core.List.{List, ◌∷◌}
use Prim.Native.Nat.{ℕ}
use Rattle.house.specs.Layout.{spare_zero}
use Rattle.house.specs.declared.Record.{Record}
use Rattle.well_formed.specs.WellFormed.{all, record_well, well_as}
use Rattle.well_formed.proofs.WellFormed.{ands, ands-all}
use Rattle.well_formed.proofs.is_well_formed.Goals as goal

-- the unused bits and then the rules for what was read
judged : (l : List ℕ) (spare : Bool) {read q : Record} → spare ≡ spare_zero l → read ≡ q → ands spare (record_well q) ≡ well_as l read
judged l spare {q = q} s e = ands-all spare (record_well q) ∙ (λ i. all (s i ∷ record_well (sym e i)))

refusing : (b : Bool) → false ≡ b && false
refusing true = refl
refusing false = refl

pub returns-in-Head : goal.returns-in-Head
unfolding record_well
returns-in-Head c =
    let b = c.is_spare_zero-spare_zero.result in
    ap (λ (w : Bool). b && w) c.is_head_well.ensures ∙ judged _ b c.is_spare_zero-spare_zero.ensures c.in-Head.is

pub returns-in-Contact : goal.returns-in-Contact
unfolding record_well
returns-in-Contact c =
    let b = c.is_spare_zero-spare_zero.result in
    (λ i. (b && c.is_contact_well-contact_well.ensures i) && c.is_kind_well-kind_well.ensures i) ∙ judged _ b c.is_spare_zero-spare_zero.ensures c.in-Contact.is

pub returns-in-Refused : goal.returns-in-Refused
unfolding record_well
returns-in-Refused c =
    let b = c.is_spare_zero-spare_zero.result in
    refusing b ∙ judged _ b c.is_spare_zero-spare_zero.ensures c.in-Refused.is
