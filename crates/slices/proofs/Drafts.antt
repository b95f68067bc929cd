-- A draft that is bytes passed every check.
-- Assumes nothing.
use Prim.Native.Nat.{ℕ}
use mathlib.Core.Path.{◌≡◌, refl}
use mathlib.Core.Bool.{Bool, true, false, cond}
use mathlib.Core.List.{List}
use native.Mathlib.Omega.{arith}
use lib.Dec.{leb}
use lib.ListN.{length}
use Rattle.paper.specs.Refusals.{no_room}
use Rattle.slices.specs.Writing.{Draft, bytes, refuse, given}

pub refused : {A : Type 0} (e : ℕ) (s : List ℕ) → refuse e ≡ bytes s → A
refused e s h = absurd (let z : ◌≡◌ {A = ℕ} 0 1 = cc in omega arith)

pub passed : (b : Bool) (d : Draft) (e : ℕ) (s : List ℕ) → cond b d (refuse e) ≡ bytes s → (b ≡ true) × (d ≡ bytes s)
passed true d e s h = (refl, h)
passed false d e s h = refused e s h

-- the same, where the test is for what is refused
pub spared : (b : Bool) (d : Draft) (e : ℕ) (s : List ℕ) → cond b (refuse e) d ≡ bytes s → (b ≡ false) × (d ≡ bytes s)
spared true d e s h = refused e s h
spared false d e s h = (refl, h)

-- 13 too
pub given-bytes : (room : ℕ) (d : Draft) (s : List ℕ) → given room d ≡ bytes s → d ≡ bytes s
unfolding given
given-bytes room (bytes t) s h = (passed (leb (length t) room) (bytes t) no_room s h).1
given-bytes room (refuse e) s h = h
