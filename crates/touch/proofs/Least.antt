-- A contact takes five bytes at least: over any integers of a byte or more.
-- Assumes nothing.
use Prim.Native.Nat.{ℕ}
use Rattle.formats.proofs.Least.{Takes, takes-done, takes_field, takes-such, takes-when, takes-byte}
use Rattle.fields.specs.Integers.{Integers}
use Rattle.fields.proofs.Least.{IntegersLeast}
use Rattle.house.specs.Fits.{no_sides}
use Rattle.well_formed.specs.WellFormed.{has}
use Rattle.touch.specs.Touch.{optional_of, point, sides, orientation, pressure, optional, contact}

module _ (i : Integers) (h : IntegersLeast i) where
  takes-point : Takes 2 (point i)
  unfolding point
  takes-point =
      takes_field _ (λ p. p.x) _ 1 1 h.s4 λ x.
      takes_field _ (λ p. p.y) _ 1 0 h.s4 λ y.
      takes-done _

  takes-sides : Takes 4 (sides i)
  unfolding sides
  takes-sides =
      takes_field _ (λ s. s.left) _ 1 3 h.s2 λ left.
      takes_field _ (λ s. s.top) _ 1 2 h.s2 λ top.
      takes_field _ (λ s. s.right) _ 1 1 h.s2 λ right.
      takes_field _ (λ s. s.bottom) _ 1 0 h.s2 λ bottom.
      takes-done _

  takes-optional : (p : ℕ) → Takes 0 (optional i p)
  unfolding optional
  takes-optional p =
      takes_field _ (λ o. o.sides) _ 0 0 (takes-when (sides i) no_sides (has 1 p) 4 takes-sides) λ s.
      takes_field _ (λ o. o.orientation) _ 0 0 (takes-when (orientation i) 0 (has 2 p) 1 (takes-such _ _ _ 1 h.u4)) λ a.
      takes_field _ (λ o. o.pressure) _ 0 0 (takes-when (pressure i) 0 (has 4 p) 1 (takes-such _ _ _ 1 h.u4)) λ r.
      takes-done _

  pub takes-contact : Takes 5 (contact i)
  unfolding contact
  takes-contact =
      takes_field _ (λ c. c.id) _ 1 4 takes-byte λ id.
      takes_field _ (λ c. c.present) _ 1 3 (takes-such _ _ _ 1 h.u2) λ p.
      takes_field _ (λ c. c.place) _ 2 1 takes-point λ place.
      takes_field _ (λ c. c.flags) _ 1 0 (takes-such _ _ _ 1 h.u4) λ f.
      takes_field _ optional_of _ 0 0 (takes-optional p) λ o.
      takes-done _
