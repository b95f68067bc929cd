-- A run over all records, turn by turn.
-- Assumes nothing.
use Prim.Native.Nat.{ℕ, suc, ◌+◌, ◌-◌, ◌/◌, ◌<◌, ◌≤◌}
use mathlib.Core.Path.{◌≡◌, refl, ap}
use mathlib.Core.Bool.{Bool, true, false, cond}
use mathlib.Core.List.{List}
use native.Mathlib.Omega.{arith}
use borrow.Author.Tests.{leb-true, leb-false}
use lib.Dec.{leb}
use lib.ListN.{length}
use Rattle.house.specs.Fields.{record_bytes}
use Rattle.house.specs.declared.Point.{Point}
use Rattle.presses.specs.declared.Hit.{Hit}
use Rattle.presses.specs.Turns.{hit_at, Went, next_at, turned_by, went_on, turns, driven}

-- ---- where the next record stands

pub next-is : (n at : ℕ) → at < n → (at < next_at n at) × (next_at n at ≤ n) × ((n - at + 20) / 21 ≡ suc ((n - next_at n at + 20) / 21))
next-is n at h = go (leb (at + record_bytes) n) refl
  where
    go : (b : Bool) → leb (at + record_bytes) n ≡ b → (at < cond b (at + record_bytes) n) × (cond b (at + record_bytes) n ≤ n) × ((n - at + 20) / 21 ≡ suc ((n - cond b (at + record_bytes) n + 20) / 21))
    go true e = let k : at + 21 ≤ n = leb-true _ _ e in (omega arith, k, omega (arith, k, h))
    go false e = let k : n < at + 21 = leb-false _ _ e in (h, omega arith, omega (arith, k, h))

module _ (hit : Point → Hit) (l : List ℕ) (writing : Bool) where
  abbrev pub turn : Went → Went
  turn w = went_on (hit_at hit l w.run.at) l writing w

  turn_at : (w : Went) → (turn w).run.at ≡ next_at (length l) w.run.at
  unfolding went_on turned_by
  turn_at w = refl

  -- a turn that is due, and none
  pub driven-on : (w : Went) → w.run.at < length l → driven hit l writing w ≡ driven hit l writing (turn w)
  unfolding driven turns went_on turned_by
  driven-on w h = ap (λ (n : ℕ). turns n hit l writing w) (next-is (length l) w.run.at h).2

  pub driven-done : (w : Went) → length l ≤ w.run.at → driven hit l writing w ≡ w
  unfolding driven turns
  driven-done w h =
      let k : (length l - w.run.at + 20) / 21 ≡ 0 = omega (arith, h) in
      ap (λ (n : ℕ). turns n hit l writing w) k

  -- which is nearer to the end
  pub turn-nearer : (w : Went) → w.run.at < length l → length l - (turn w).run.at < length l - w.run.at
  turn-nearer w h =
      let k = next-is (length l) w.run.at h in
      rw (turn_at w) (omega (arith, h, k.0))
