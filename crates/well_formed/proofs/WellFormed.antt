-- What it is for all of some tests to hold, and what a well-formed contact promises of its values.
-- Assumes nothing.
use mathlib.Core.Path.{◌≡◌, refl, sym, ap, ◌∙◌}
use mathlib.Core.Bool.{Bool, true, false, cond, ◌&&◌, ◌||◌}
use mathlib.Core.List.{List, [], ◌∷◌, ◌++◌}
use Prim.Native.Nat.{ℕ, ◌≤◌}
use native.Mathlib.Omega.{arith}
use lib.Dec.{lit≤}
use lib.IntN.{ℤ, pos, negsuc, nat_abs}
use lib.Signed.{mag}
use borrow.Author.Tests.{ltb-true, leb-true, eqb-true}
use Rattle.states.specs.Table.{listed}
use Rattle.house.specs.Twos.{Holds}
use Rattle.house.specs.Fits.{ContactFits, no_sides}
use Rattle.house.specs.declared.Contact.{Contact}
use Rattle.house.specs.declared.Sides.{Sides}
use Rattle.well_formed.specs.WellFormed.{place_most, side_most, orientation_most, pressure_most, all, has, above, place_well, side_well, zero?, sides_well, at_most, contact_well}
use Rattle.well_formed.specs.Range.{InRange}

-- tests joined from the left
abbrev pub ands : Bool → List Bool → Bool
ands b [] = b
ands b (c ∷ cs) = ands (b && c) cs

pub ands-all : (b : Bool) (bs : List Bool) → ands b bs ≡ all (b ∷ bs)
unfolding all
ands-all true [] = refl
ands-all false [] = refl
ands-all true (c ∷ cs) = ands-all c cs
ands-all false (c ∷ cs) = ands-all false cs

-- one of the tests may be of several
pub all-all : (bs cs : List Bool) → all (all bs ∷ cs) ≡ all (bs ++ cs)
unfolding all
all-all [] cs = refl
all-all (true ∷ bs) cs = all-all bs cs
all-all (false ∷ bs) cs = refl

pub or-cond : (b c : Bool) → b || c ≡ cond b true c
or-cond true c = refl
or-cond false c = refl

-- ---- what holds where all do

-- a test is not both
pub never : {A : Type 0} {b : Bool} → b ≡ true → b ≡ false → A
never {b = b} e f =
    let v : ◌≡◌ {A = ℕ} 0 1 = cc in
    absurd (omega (arith, v))

pub all_none : all [] ≡ true
unfolding all
all_none = refl

pub all_split : (b : Bool) (bs : List Bool) → all (b ∷ bs) ≡ true → (b ≡ true) × (all bs ≡ true)
unfolding all
all_split true bs h = (refl, h)
all_split false bs h = never h refl

pub all_join : (b : Bool) (bs : List Bool) → b ≡ true → all bs ≡ true → all (b ∷ bs) ≡ true
unfolding all
all_join b bs h k = rw (h, k)

-- ---- ranges

pub above_most : (n : ℕ) (z : ℤ) → above n z ≡ true → mag z ≤ n → nat_abs z ≤ n
unfolding above
above_most n (pos m) h k = k
above_most n (negsuc m) h k = ltb-true m n h

pub place-most : (z : ℤ) → place_well z ≡ true → Holds 30 z → nat_abs z ≤ place_most
place-most z h k = above_most place_most z h (omega (arith, k.holds))

pub side-most : (z : ℤ) → side_well z ≡ true → Holds 15 z → nat_abs z ≤ side_most
side-most z h k = above_most side_most z h (omega (arith, k.holds))

pub zero_is : (z : ℤ) → zero? z ≡ true → z ≡ pos 0
zero_is (pos n) h = ap pos (eqb-true n 0 h)
zero_is (negsuc n) h = never h refl

-- four tests of a side each
record Each (P : ℤ → Type 0) (s : Sides) : Type 0 where
  left : P s.left
  top : P s.top
  right : P s.right
  bottom : P s.bottom

each : (f : ℤ → Bool) (s : Sides) → all (f s.left ∷ f s.top ∷ f s.right ∷ f s.bottom ∷ []) ≡ true → Each (λ (z : ℤ). f z ≡ true) s
each f s h =
    let l = all_split (f s.left) (f s.top ∷ f s.right ∷ f s.bottom ∷ []) h in
    let t = all_split (f s.top) (f s.right ∷ f s.bottom ∷ []) l.1 in
    let r = all_split (f s.right) (f s.bottom ∷ []) t.1 in
    let b = all_split (f s.bottom) [] r.1 in
    record { left = l.0; top = t.0; right = r.0; bottom = b.0 }

sides-absent : (s : Sides) → sides_well false s ≡ true → s ≡ no_sides
unfolding sides_well
sides-absent s h =
    let e = each zero? s h in
    λ i. record {
      left = zero_is s.left e.left i;
      top = zero_is s.top e.top i;
      right = zero_is s.right e.right i;
      bottom = zero_is s.bottom e.bottom i;
    }

sides-most : (b : Bool) (s : Sides) → sides_well b s ≡ true → Each (Holds 15) s → Each (λ (z : ℤ). nat_abs z ≤ side_most) s
unfolding sides_well
sides-most true s h k =
    let e = each side_well s h in
    record {
      left = side-most _ e.left k.left;
      top = side-most _ e.top k.top;
      right = side-most _ e.right k.right;
      bottom = side-most _ e.bottom k.bottom;
    }
sides-most false s h k =
    let z : 0 ≤ side_most = lit≤ tt in
    rw (sides-absent s h) (record { left = z; top = z; right = z; bottom = z })

at-most : (b : Bool) (n v : ℕ) → at_most b n v ≡ true → v ≤ n
at-most true n v h = leb-true v n h
at-most false n v h = omega (arith, leb-true v 0 h)

at-absent : (b : Bool) (n v : ℕ) → at_most b n v ≡ true → b ≡ false → v ≡ 0
at-absent true n v h e = never refl e
at-absent false n v h e = omega (arith, leb-true v 0 h)

-- A WELL-FORMED CONTACT'S VALUES ARE IN THE MESSAGE'S RANGE
pub in-range : (c : Contact) → ContactFits c → contact_well c ≡ true → InRange c
unfolding contact_well
in-range c f h =
    let s₁ = has 1 c.present in
    let s₂ = has 2 c.present in
    let s₄ = has 4 c.present in
    let e5 = at_most s₄ pressure_most c.pressure ∷ [] in
    let e4 = at_most s₂ orientation_most c.orientation ∷ e5 in
    let e3 = sides_well s₁ c.sides ∷ e4 in
    let e2 = place_well c.place.y ∷ e3 in
    let e1 = place_well c.place.x ∷ e2 in
    let fl = all_split (listed c.flags) e1 h in
    let x = all_split (place_well c.place.x) e2 fl.1 in
    let y = all_split (place_well c.place.y) e3 x.1 in
    let s = all_split (sides_well s₁ c.sides) e4 y.1 in
    let o = all_split (at_most s₂ orientation_most c.orientation) e5 s.1 in
    let p = all_split (at_most s₄ pressure_most c.pressure) [] o.1 in
    let m = sides-most s₁ c.sides s.0 (record { left = f.left; top = f.top; right = f.right; bottom = f.bottom }) in
    record {
      flags = fl.0;
      x = place-most _ x.0 f.x;
      y = place-most _ y.0 f.y;
      left = m.left;
      top = m.top;
      right = m.right;
      bottom = m.bottom;
      orientation = at-most s₂ orientation_most c.orientation o.0;
      pressure = at-most s₄ pressure_most c.pressure p.0;
      absent_sides = λ e. sides-absent c.sides (sym (ap (λ (b : Bool). sides_well b c.sides) e) ∙ s.0);
      absent_orientation = at-absent s₂ orientation_most c.orientation o.0;
      absent_pressure = at-absent s₄ pressure_most c.pressure p.0;
    }
