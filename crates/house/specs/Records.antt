-- Records in bytes, one after the other, over what is read at the front of a slice.
use Rattle.std.specs.Prelude.{ℕ, zero, suc, ◌+◌, ◌/◌, List, [], ◌∷◌, length, drop}
use Rattle.house.specs.Fields.{record_bytes}

module _ {R : Type 0} (read : List ℕ → R) where
  -- n records, each of 21 bytes
  unfoldable pub records_from : ℕ → List ℕ → List R
  records_from zero l = []
  records_from (suc n) l = read l ∷ records_from n (drop record_bytes l)

  -- as many as bytes hold, a last one that is not whole too
  unfoldable pub records_in : List ℕ → List R
  records_in l = records_from ((length l + 20) / record_bytes) l
