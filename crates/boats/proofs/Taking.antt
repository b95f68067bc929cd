-- What a call comes to: it takes its records, or leaves everything as it was.
-- Assumes nothing.
use Prim.Native.Nat.{ℕ}
use mathlib.Core.Path.{◌≡◌, refl, sym, ap, ◌∙◌}
use mathlib.Core.Bool.{Bool, true, false, cond}
use mathlib.Core.List.{List}
use borrow.Author.Tests.{eqb-true}
use lib.Dec.{eqb}
use lib.ListN.{length}
use Rattle.paper.specs.Refusals.{none}
use Rattle.slices.specs.Writing.{laid}
use Rattle.house.specs.declared.Point.{Point}
use Rattle.presses.specs.Choosing.{Choice, records_in, kept_of, chosen_in, numbers_of, refusal_of, decided, list_after, Chooses}
use Rattle.presses.specs.declared.Hit.{Hit}
use Rattle.presses.specs.declared.Label.{Label}
use Rattle.presses.specs.declared.Chosen.{Chosen}

pub record Takes (hit : Point → Hit) (l : Label) (records : List ℕ) (x : Chosen) (before after : List ℕ) : Type 0 where
  pub label : x.label ≡ kept_of hit l (records_in records)
  pub count : x.count ≡ length (chosen_in hit l (records_in records))
  pub list : after ≡ laid before (numbers_of (chosen_in hit l (records_in records)))

pub record Leaves (l : Label) (x : Chosen) : Type 0 where
  pub label : x.label ≡ l
  pub count : x.count ≡ 0

-- the answer, by whether there was a refusal
abbrev answered_by : Bool → ℕ → Label → Label → List Choice → Chosen
answered_by accepted e l kept cs = cond accepted (record { label = kept; refusal = none; count = length cs }) (record { label = l; refusal = e; count = 0 })

refusal-answered : (e : ℕ) (l kept : Label) (cs : List Choice) → (decided e l kept cs).refusal ≡ e
refusal-answered e l kept cs = go (eqb e none) refl
  where
    go : (accepted : Bool) → eqb e none ≡ accepted → (answered_by accepted e l kept cs).refusal ≡ e
    go true f = sym (eqb-true e none f)
    go false f = refl

module _ (hit : Point → Hit) (l : Label) (records : List ℕ) (x : Chosen) (before after : List ℕ) (k : Chooses hit l records x before after) where
  -- what it refuses with
  pub refuses : x.refusal ≡ refusal_of hit l records (length before)
  refuses = ap (λ (y : Chosen). y.refusal) k.answer ∙ refusal-answered (refusal_of hit l records (length before)) l (kept_of hit l (records_in records)) (chosen_in hit l (records_in records))

  pub takes : x.refusal ≡ none → Takes hit l records x before after
  takes a =
      let e = sym refuses ∙ a in
      let kept = kept_of hit l (records_in records) in
      let cs = chosen_in hit l (records_in records) in
      let y : x ≡ decided none l kept cs = k.answer ∙ ap (λ (n : ℕ). decided n l kept cs) e in
      record {
        label = ap (λ (z : Chosen). z.label) y;
        count = ap (λ (z : Chosen). z.count) y;
        list = k.output ∙ ap (λ (n : ℕ). list_after n before cs) e;
      }

  pub leaves : eqb x.refusal none ≡ false → Leaves l x
  leaves a =
      let e = ap (λ (n : ℕ). eqb n none) (sym refuses) ∙ a in
      let y = k.answer ∙ ap (λ (b : Bool). answered_by b (refusal_of hit l records (length before)) l (kept_of hit l (records_in records)) (chosen_in hit l (records_in records))) e in
      record { label = ap (λ (z : Chosen). z.label) y; count = ap (λ (z : Chosen). z.count) y }
