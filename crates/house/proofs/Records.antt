-- Records in bytes, one after the other.
-- Assumes nothing.
use Prim.Native.Nat.{ℕ, zero, suc, ◌+◌, ◌/◌, ◌<◌, ◌-◌}
use mathlib.Core.Path.{◌≡◌, refl, ap, ◌∙◌}
use mathlib.Core.List.{List, ◌∷◌, ◌++◌}
use native.Mathlib.Omega.{arith}
use lib.ListN.{length, length-append, length-drop, drop}
use lib.Seq.{drop_at}
use Rattle.house.specs.Fields.{record_bytes}
use Rattle.house.specs.Records.{records_from, records_in}

-- the first, and those behind it
pub records-step : {R : Type 0} (read : List ℕ → R) (l : List ℕ) → 0 < length l → records_in read l ≡ read l ∷ records_in read (drop record_bytes l)
unfolding records_in records_from
records-step read l h =
    let m : length (drop record_bytes l) ≡ length l - record_bytes = length-drop record_bytes l in
    let n : (length l + 20) / record_bytes ≡ suc ((length (drop record_bytes l) + 20) / record_bytes) = omega (arith, h, m) in
    rw n refl

pub records-one : {R : Type 0} (read : List ℕ → R) (s t : List ℕ) → length s ≡ record_bytes → records_in read (s ++ t) ≡ read (s ++ t) ∷ records_in read t
records-one read s t h =
    records-step read (s ++ t) (rw (length-append s t) (omega (arith, h))) ∙ ap (λ (l : List ℕ). read (s ++ t) ∷ records_in read l) (drop_at s t record_bytes h)

-- how many there are
from-many : {R : Type 0} (read : List ℕ → R) (n : ℕ) (l : List ℕ) → length (records_from read n l) ≡ n
unfolding records_from
from-many read zero l = refl
from-many read (suc n) l = ap suc (from-many read n (drop record_bytes l))

pub records-many : {R : Type 0} (read : List ℕ → R) (l : List ℕ) → length (records_in read l) ≡ (length l + 20) / record_bytes
unfolding records_in
records-many read l = from-many read ((length l + 20) / record_bytes) l
