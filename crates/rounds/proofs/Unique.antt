-- Two rounds that the contract allows, in which as much was read, are equal in all that they answer and leave.
-- Assumes nothing.
use Prim.Native.Nat.{ℕ, ◌+◌}
use mathlib.Core.Path.{◌≡◌, sym, ap, ◌∙◌}
use mathlib.Core.List.{List}
use Rattle.feed.specs.Within.{bytes_in}
use Rattle.feed.proofs.Unique.{fill-unique}
use Rattle.intake.specs.Feeding.{TakesEntries}
use Rattle.intake.specs.declared.Fed.{Fed}
use Rattle.intake.proofs.Unique.{take-entries-unique}
use Rattle.receiver.specs.Limits.{most_output}
use Rattle.rounds.specs.Rounds.{begun, fed_in, GoesOn}
use Rattle.rounds.specs.declared.Round.{Round}

pub begin-unique : (r q : Round) → r ≡ begun → q ≡ begun → r ≡ q
begin-unique r q x y = x ∙ sym y

pub go-on-unique : (b r q : Round) (s₀ s a₀ a c o₀ o p : List ℕ) (x : GoesOn b r s₀ s a₀ a o₀ o) (y : GoesOn b q s₀ s a₀ c o₀ p) → x.filled.end ≡ y.filled.end → (r ≡ q) × (a ≡ c) × (o ≡ p)
go-on-unique b r q s₀ s a₀ a c o₀ o p x y k =
    let e = fill-unique b.window x.filled y.filled s₀ s x.fills y.fills k in
    let z : TakesEntries most_output b.receiver (bytes_in x.filled s) (fed_in q y.used) a₀ c o₀ p = rw e y.fed in
    let u = take-entries-unique most_output b.receiver (bytes_in x.filled s) (fed_in r x.used) (fed_in q y.used) a₀ a c o₀ o p x.fed z in
    let n = ap (λ (f : Fed). f.used) u.0 in
    let w : r.window ≡ q.window = x.rest ∙ ((λ i. record { at = (e i).at + n i; end = (e i).end }) ∙ sym y.rest) in (
      λ i. record { receiver = (u.0 i).receiver; window = w i; entries = (u.0 i).entries; records = (u.0 i).records },
      u.1,
      u.2,
    )
