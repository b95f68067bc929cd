-- Records that are taken, one after the other.
-- Assumes nothing.
use Prim.Native.Nat.{ℕ, ◌<◌}
use mathlib.Core.Path.{◌≡◌, refl, sym, ◌∙◌}
use mathlib.Core.Bool.{Bool, true, false, cond, not, beq}
use mathlib.Core.List.{List, [], ◌∷◌}
use native.Mathlib.Omega.{arith}
use lib.Dec.{eqb}
use lib.ListN.{length, drop}
use Rattle.house.specs.Fields.{record_bytes}
use Rattle.house.specs.Layout.{record_of}
use Rattle.house.specs.declared.Record.{Record}
use Rattle.house.specs.Records as house
use Rattle.house.proofs.Records.{records-step}
use Rattle.well_formed.specs.WellFormed.{all, well_as, well_formed}
use Rattle.well_formed.proofs.Front.{well-read}
use Rattle.presses.specs.Choosing.{may_stand, due_after, in_frames, is_legal, states_after, by_table, is_taken_from}

-- a contact of a frame stands where one is due
pub due-is : (here none : Bool) → beq here (not none) ≡ cond none (not here) here
due-is true true = refl
due-is true false = refl
due-is false true = refl
due-is false false = refl

same : (b : Bool) → cond b true false ≡ b
same true = refl
same false = refl

-- what was read at the front is judged as what stands there
pub judged-is : (l : List ℕ) (found : Record) (b : Bool) → b ≡ well_as l found → found ≡ record_of l → well_formed l ≡ b
judged-is l found b e f = sym (e ∙ well-read l found f)

-- the end: none is due
pub taken-end : (due : ℕ) (states l : List ℕ) → length l < 1 → is_taken_from due states l ≡ eqb due 0
unfolding is_taken_from all in_frames by_table house.records_in house.records_from
taken-end due states [] h = same (eqb due 0)
taken-end due states (x ∷ l) h = absurd (omega arith)

-- three tests of the first, and three of the others
sorted : (w m g ws ms gs : Bool) → all (cond w ws false ∷ cond m ms false ∷ cond g gs false ∷ []) ≡ all (w ∷ m ∷ g ∷ all (ws ∷ ms ∷ gs ∷ []) ∷ [])
unfolding all
sorted false m g ws ms gs = refl
sorted true false g true ms gs = refl
sorted true false g false ms gs = refl
sorted true true false true true gs = refl
sorted true true false true false gs = refl
sorted true true false false ms gs = refl
sorted true true true true true true = refl
sorted true true true true true false = refl
sorted true true true true false gs = refl
sorted true true true false ms gs = refl

module _ (due : ℕ) (states l : List ℕ) (h : 0 < length l) where
  -- the first record, and those behind it
  taken-front : let r = record_of l in
      is_taken_from due states l ≡ all (well_formed l ∷ may_stand due r ∷ is_legal states r ∷ is_taken_from (due_after due r) (states_after states r) (drop record_bytes l) ∷ [])
  unfolding is_taken_from all in_frames by_table
  taken-front =
      let r = record_of l in
      let rs = house.records_in record_of (drop record_bytes l) in
      rw (records-step well_formed l h, records-step record_of l h)
      (sorted (well_formed l) (may_stand due r) (is_legal states r) (all (house.records_in well_formed (drop record_bytes l))) (in_frames (due_after due r) rs) (by_table (states_after states r) rs))

  -- one that is not well formed, one that may not stand there, and one that breaks the state table
  pub taken-ill : well_formed l ≡ false → is_taken_from due states l ≡ false
  unfolding all
  taken-ill w = rw (taken-front, w) refl

  pub taken-astray : well_formed l ≡ true → may_stand due (record_of l) ≡ false → is_taken_from due states l ≡ false
  unfolding all
  taken-astray w m = rw (taken-front, w, m) refl

  pub taken-illegal : well_formed l ≡ true → may_stand due (record_of l) ≡ true → is_legal states (record_of l) ≡ false → is_taken_from due states l ≡ false
  unfolding all
  taken-illegal w m g = rw (taken-front, w, m, g) refl

  -- any other
  pub taken-on : well_formed l ≡ true → may_stand due (record_of l) ≡ true → is_legal states (record_of l) ≡ true
      → is_taken_from due states l ≡ is_taken_from (due_after due (record_of l)) (states_after states (record_of l)) (drop record_bytes l)
  unfolding all
  taken-on w m g = rw (taken-front, w, m, g) (same (is_taken_from (due_after due (record_of l)) (states_after states (record_of l)) (drop record_bytes l)))
