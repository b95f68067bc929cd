-- Two answers that the contract of `rule` allows are equal. (The contract of every other call is an equation of its result.)
-- Assumes nothing.
use Rattle.std.proofs.Common.{◌≡◌, ℕ, List, Result, Ok, Err, refl, sym, ap, ◌∙◌}
use Rattle.paper.specs.declared.Refusal.{Refusal}
use Rattle.paper.proofs.Numbers.{number-once, number-some}
use Rattle.presses.specs.Turns.{ruling_number, ruled}

-- the number tells whether records are refused, and with what
ruling-once : (x y : Result (Unit {0}) Refusal) → ruling_number x ≡ ruling_number y → x ≡ y
ruling-once (Ok u) (Ok v) h = refl
ruling-once (Ok u) (Err f) h = number-some f (sym h)
ruling-once (Err e) (Ok v) h = number-some e h
ruling-once (Err e) (Err f) h = ap Err (number-once e f h)

pub rule-unique : (states records : List ℕ) (count numbers : ℕ) (x y : Result (Unit {0}) Refusal) → ruling_number x ≡ ruled states records count numbers → ruling_number y ≡ ruled states records count numbers
    → x ≡ y
rule-unique states records count numbers x y e f = ruling-once x y (e ∙ sym f)
