-- The number of active contacts after a frame, by its contacts' states before and after.
-- Assumes nothing.
use Prim.Native.Nat.{ℕ, ◌+◌}
use mathlib.Core.Path.{◌≡◌, refl, ap, ◌∙◌}
use mathlib.Core.Bool.{true}
use mathlib.Core.List.{List, [], ◌∷◌}
use native.Mathlib.Omega.{arith}
use borrow.Author.Tests.{ltb-true}
use lib.ListN.{length}
use Rattle.house.specs.declared.Contact.{Contact}
use Rattle.machine.specs.Table.{Table, contacts, state_at, active, one, count_active}
use Rattle.machine.specs.Conforms.{every, other_id, distinct, moved, table_after}
use Rattle.machine.proofs.Conforms.{every_first, every-others, distinct-first, distinct-others, in_table, moved_other, moved-count, moved-long}
use Rattle.contacts.specs.Touch.{touch_view}
use Rattle.contacts.specs.Ruling.{came, gone}

module _ (next : ℕ → ℕ → ℕ) where
  module _ (t : Table) (c : Contact) where
    came-behind : (cs : List Contact) → every (other_id touch_view c.id) cs ≡ true → came next (moved touch_view next t c).states cs ≡ came next t.states cs
    unfolding came state_at
    came-behind [] h = refl
    came-behind (d ∷ cs) h =
        let e = ap (λ s. one (active (next d.flags s))) (moved_other touch_view next t c d (every_first (other_id touch_view c.id) d cs h)) in
        let k = came-behind cs (every-others (other_id touch_view c.id) d cs h) in
        λ i. e i + k i

    gone-behind : (cs : List Contact) → every (other_id touch_view c.id) cs ≡ true → gone (moved touch_view next t c).states cs ≡ gone t.states cs
    unfolding gone state_at
    gone-behind [] h = refl
    gone-behind (d ∷ cs) h =
        let e = ap (λ s. one (active s)) (moved_other touch_view next t c d (every_first (other_id touch_view c.id) d cs h)) in
        let k = gone-behind cs (every-others (other_id touch_view c.id) d cs h) in
        λ i. e i + k i

  pub after-count : (t : Table) (cs : List Contact) → distinct touch_view cs ≡ true → every (in_table touch_view) cs ≡ true → length t.states ≡ contacts
      → count_active (table_after touch_view next t cs).states + gone t.states cs ≡ count_active t.states + came next t.states cs
  unfolding table_after came gone state_at
  after-count t [] h k w = refl
  after-count t (c ∷ cs) h k w =
      let o = distinct-first touch_view c cs h in
      let i = after-count (moved touch_view next t c) cs (distinct-others touch_view c cs h) (every-others (in_table touch_view) c cs k) (moved-long touch_view next t c ∙ w) in
      let m = moved-count touch_view next t c w (ltb-true c.id contacts (every_first (in_table touch_view) c cs k)) in
      let e = rw (came-behind t c cs o, gone-behind t c cs o) at i in
      omega (arith, e, m)
