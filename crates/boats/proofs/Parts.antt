-- Records in two parts, cut between frames: what each part is judged by, keeps and chooses.
-- Assumes nothing.
use Prim.Native.Nat.{ℕ, zero, suc, ◌*◌, ◌≤◌}
use mathlib.Core.Path.{◌≡◌, refl, sym, ap, ◌∙◌}
use mathlib.Core.Bool.{Bool, true, false, cond}
use mathlib.Core.List.{List, [], ◌∷◌, ◌++◌, append_assoc}
use native.Mathlib.Omega.{arith}
use borrow.Author.Tests.{eqb-true}
use lib.ListN.{length, drop, length-append, length-drop}
use lib.Seq.{drop-append-le}
use Rattle.house.specs.Fields.{record_bytes}
use Rattle.house.specs.Records as house
use Rattle.house.specs.declared.Point.{Point}
use Rattle.house.specs.declared.Record.{Record}
use Rattle.house.proofs.Records.{records-step}
use Rattle.well_formed.proofs.WellFormed.{never}
use Rattle.presses.specs.Choosing.{Choice, may_stand, due_after, in_frames, is_legal, states_after, by_table, kept_of, chosen_in, record_kept, record_chosen, point_of, numbers_of}
use Rattle.presses.specs.declared.Hit.{Hit}
use Rattle.presses.specs.declared.Label.{Label}

-- ---- bytes in whole records

module _ {R : Type 0} (read : List ℕ → R) (alone : (s t : List ℕ) → record_bytes ≤ length s → read (s ++ t) ≡ read s) (back : List ℕ) where
  records-on : (front : List ℕ) → record_bytes ≤ length front → house.records_in read (drop record_bytes front ++ back) ≡ house.records_in read (drop record_bytes front) ++ house.records_in read back
      → house.records_in read (front ++ back) ≡ house.records_in read front ++ house.records_in read back
  records-on front h more =
      records-step read (front ++ back) (rw length-append (omega (arith, h)))
      ∙ ((λ i. alone front back h i ∷ house.records_in read (drop-append-le record_bytes front back h i))
      ∙ (ap (λ (l : List R). read front ∷ l) more ∙ ap (λ (l : List R). l ++ house.records_in read back) (sym (records-step read front (omega (arith, h))))))

  pub records-append : (n : ℕ) (front : List ℕ) → length front ≡ record_bytes * n → house.records_in read (front ++ back) ≡ house.records_in read front ++ house.records_in read back
  unfolding house.records_in house.records_from
  records-append zero [] h = refl
  records-append zero (b ∷ front) h = absurd (omega (arith, h))
  records-append (suc n) front h =
      records-on front (omega (arith, h)) (records-append n (drop record_bytes front) (length-drop record_bytes front ∙ omega (arith, h)))

-- ---- records in two parts

pub frames-append : (due : ℕ) (rs qs : List Record) → in_frames due rs ≡ true → in_frames due (rs ++ qs) ≡ in_frames 0 qs
unfolding in_frames
frames-append due [] qs h = ap (λ (n : ℕ). in_frames n qs) (eqb-true due 0 h)
frames-append due (r ∷ rs) qs h = go (may_stand due r) h (frames-append (due_after due r) rs qs)
  where
    go : (may : Bool) → cond may (in_frames (due_after due r) rs) false ≡ true → (in_frames (due_after due r) rs ≡ true → in_frames (due_after due r) (rs ++ qs) ≡ in_frames 0 qs)
        → cond may (in_frames (due_after due r) (rs ++ qs)) false ≡ in_frames 0 qs
    go true k more = more k
    go false k more = never k refl

pub choices-append : (cs ds : List Choice) → numbers_of (cs ++ ds) ≡ numbers_of cs ++ numbers_of ds
unfolding numbers_of
choices-append [] ds = refl
choices-append (c ∷ cs) ds = ap (λ (l : List ℕ). c.id ∷ c.item ∷ l) (choices-append cs ds)

module _ (hit : Point → Hit) (qs : List Record) where
  pub kept_append : (l : Label) (rs : List Record) → kept_of hit l (rs ++ qs) ≡ kept_of hit (kept_of hit l rs) qs
  unfolding kept_of
  kept_append l [] = refl
  kept_append l (r ∷ rs) = kept_append (record_kept (hit (point_of r)) l r) rs

  pub chosen-append : (l : Label) (rs : List Record) → chosen_in hit l (rs ++ qs) ≡ chosen_in hit l rs ++ chosen_in hit (kept_of hit l rs) qs
  unfolding chosen_in kept_of
  chosen-append l [] = refl
  chosen-append l (r ∷ rs) =
      let after = record_kept (hit (point_of r)) l r in
      let cs = record_chosen (hit (point_of r)) l.pressed r in
      ap (λ (ds : List Choice). cs ++ ds) (chosen-append after rs) ∙ sym (append_assoc cs (chosen_in hit after rs) (chosen_in hit (kept_of hit after rs) qs))

  pub table-append : (l : Label) (rs : List Record) → by_table l.states (rs ++ qs) ≡ true → (by_table l.states rs ≡ true) × (by_table (kept_of hit l rs).states qs ≡ true)
  unfolding by_table kept_of
  table-append l [] h = (refl, h)
  table-append l (r ∷ rs) h = go (is_legal l.states r) h (table-append (record_kept (hit (point_of r)) l r) rs)
    where
      go : let states = states_after l.states r in let last = (kept_of hit l (r ∷ rs)).states in
          (legal : Bool) → cond legal (by_table states (rs ++ qs)) false ≡ true → (by_table states (rs ++ qs) ≡ true → (by_table states rs ≡ true) × (by_table last qs ≡ true))
          → (cond legal (by_table states rs) false ≡ true) × (by_table last qs ≡ true)
      go true k more = more k
      go false k more = never k refl
