-- Two outcomes that the contracts allow are equal; of what is read, where as much was read.
-- Assumes nothing.
use Prim.Native.Nat.{ℕ}
use mathlib.Core.Path.{◌≡◌, sym, ap, ◌∙◌}
use mathlib.Core.List.{List}
use Rattle.feed.specs.declared.Next.{Next}
use Rattle.feed.proofs.Unique.{next-entry-unique}
use Rattle.turns.specs.declared.Stand.{Stand}
use Rattle.turns.specs.declared.Turn.{Turn}
use Rattle.turns.specs.Turns.{begun, turn_of, page_of, Turns, EndsLine}

pub begin-unique : (r q : Stand) → r ≡ begun → q ≡ begun → r ≡ q
begin-unique r q x y = x ∙ sym y

pub next-turn-unique : (b : Stand) (most : ℕ) (s₀ s p₀ p o : List ℕ) (r q : Turn) (x : Turns b most s₀ s p₀ p r) (y : Turns b most s₀ s p₀ o q)
    → x.read.filled.end ≡ y.read.filled.end → (r ≡ q) × (p ≡ o)
next-turn-unique b most s₀ s p₀ p o r q x y e =
    let n = next-entry-unique b.window x.next y.next s₀ s x.read y.read e in (
      x.turn ∙ (ap (λ (z : Next). turn_of b most z p₀) n ∙ sym y.turn),
      x.page ∙ (ap (λ (z : Next). page_of b most z p₀) n ∙ sym y.page),
    )

pub end-line-unique : (b : Stand) (place : ℕ) (p₀ p o : List ℕ) (r q : Stand) → EndsLine b place p₀ p r → EndsLine b place p₀ o q → (r ≡ q) × (p ≡ o)
end-line-unique b place p₀ p o r q x y = (x.stand ∙ sym y.stand, x.page ∙ sym y.page)
