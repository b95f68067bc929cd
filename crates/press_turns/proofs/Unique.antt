-- Two outcomes that the contract of `go_on` allows are equal. (Every other call's contract is an equation of its result.)
-- Assumes nothing.
use Rattle.std.proofs.Common.{◌≡◌, ℕ, Bool, List, sym, ◌∙◌}
use Rattle.presses.specs.declared.Hit.{Hit}
use Rattle.presses.specs.declared.Tally.{Tally}
use Rattle.presses.specs.Turns.{Went, went_to, went_on}

-- the tally that is answered, what is kept, and the list of choices
pub go-on-unique : (h : Hit) (l : List ℕ) (writing : Bool) (w : Went) (r r' : Tally) (s s' p p' out out' : List ℕ) → went_to s p r out ≡ went_on h l writing w → went_to s' p' r' out' ≡ went_on h l writing w
    → (r ≡ r') × (s ≡ s') × (p ≡ p') × (out ≡ out')
go-on-unique h l writing w r r' s s' p p' out out' e f =
    let same : went_to s p r out ≡ went_to s' p' r' out' = e ∙ sym f in (
      (λ i. record { at = (same i).run.at; count = (same i).run.count }),
      (λ i. (same i).run.label.states),
      (λ i. (same i).run.label.pressed),
      (λ i. (same i).out),
    )
