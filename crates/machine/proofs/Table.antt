-- The table of contacts: what stands at an id once a contact is put, and how many contacts are active.
-- Assumes nothing.
use Prim.Native.Nat.{ℕ, zero, suc, ◌+◌, ◌≤◌, ◌<◌}
use mathlib.Core.Path.{◌≡◌, refl, ap, ◌∙◌}
use mathlib.Core.Bool.{Bool, true, false}
use mathlib.Core.List.{List, [], ◌∷◌}
use native.Mathlib.Nat.{zero-add}
use native.Mathlib.Omega.{arith}
use lib.IntN.{pos}
use lib.ListN.{length, get_or, set, take, drop, replicate, length-set, length-replicate}
use lib.Seq.{take_all, get_or-set_same, get_or-set_other}
use Rattle.states.specs.Table.{out}
use Rattle.house.specs.declared.Point.{Point}
use Rattle.machine.specs.Table.{Table, contacts, state_at, place_at, with_contact, origin, resting, active, one, count_active}

-- a table of 256 contacts
pub record Whole (t : Table) : Type 0 where
  pub states : length t.states ≡ contacts
  pub xs : length t.xs ≡ contacts
  pub ys : length t.ys ≡ contacts

-- ---- the three laws: the contact that was put, any other, and no contact is lost

module _ (t : Table) (id s : ℕ) (p : Point) where
  pub state-same : Whole t → id < contacts → state_at (with_contact t id s p) id ≡ s
  unfolding state_at with_contact
  state-same w h = get_or-set_same t.states id s out (omega (arith, w.states))

  pub place_same : Whole t → id < contacts → place_at (with_contact t id s p) id ≡ p
  unfolding place_at with_contact
  place_same w h =
      let x = get_or-set_same t.xs id p.x (pos 0) (omega (arith, w.xs)) in
      let y = get_or-set_same t.ys id p.y (pos 0) (omega (arith, w.ys)) in
      λ i. record { x = x i; y = y i }

  pub state-other : (k : ℕ) → (k ≡ id → ⊥) → state_at (with_contact t id s p) k ≡ state_at t k
  unfolding state_at with_contact
  state-other k h = get_or-set_other t.states id k s out h

  pub place_other : (k : ℕ) → (k ≡ id → ⊥) → place_at (with_contact t id s p) k ≡ place_at t k
  unfolding place_at with_contact
  place_other k h =
      let x = get_or-set_other t.xs id k p.x (pos 0) h in
      let y = get_or-set_other t.ys id k p.y (pos 0) h in
      λ i. record { x = x i; y = y i }

  pub with-whole : Whole t → Whole (with_contact t id s p)
  unfolding with_contact
  with-whole w =
      record {
        states = length-set t.states id s ∙ w.states;
        xs = length-set t.xs id p.x ∙ w.xs;
        ys = length-set t.ys id p.y ∙ w.ys;
      }

-- ---- how many are active

pub one-le : (b : Bool) → one b ≤ 1
one-le true = omega arith
one-le false = omega arith

pub count-le : (ss : List ℕ) → count_active ss ≤ length ss
unfolding count_active
count-le [] = omega arith
count-le (s ∷ ss) = omega (arith, one-le (active s), count-le ss)

-- one state put for another
pub count_set : (ss : List ℕ) (id s : ℕ) → id < length ss → count_active (set ss id s) + one (active (get_or ss id out)) ≡ count_active ss + one (active s)
unfolding count_active
count_set [] id s h = absurd (omega arith)
count_set (x ∷ ss) zero s h = omega arith
count_set (x ∷ ss) (suc id) s h = omega (arith, count_set ss id s (omega arith))

-- in the shape that a loop over the states asks for: past the end of a list every state is out
pub count-step : (k : ℕ) (ss : List ℕ) (i : ℕ) → count_active (take (suc k) (drop i ss)) ≡ one (active (get_or ss i out)) + count_active (take k (drop (suc i) ss))
unfolding count_active
count-step zero [] zero = refl
count-step zero [] (suc i) = refl
count-step (suc k) [] zero = refl
count-step (suc k) [] (suc i) = refl
count-step k (s ∷ ss) zero = refl
count-step k (s ∷ ss) (suc i) = count-step k ss i

-- the states of a table are all that there are
pub count-all : (ss : List ℕ) → length ss ≡ contacts → count_active (take contacts ss) ≡ count_active ss
count-all ss h = ap count_active (take_all contacts ss (omega (arith, h)))

-- ---- every contact out of range

get_d-same : {A : Type 0} (n i : ℕ) (a : A) → get_or (replicate n a) i a ≡ a
get_d-same zero i a = refl
get_d-same (suc n) zero a = refl
get_d-same (suc n) (suc i) a = get_d-same n i a

pub resting-whole : Whole resting
unfolding resting
resting-whole =
    record {
      states = length-replicate contacts out;
      xs = length-replicate contacts (pos 0);
      ys = length-replicate contacts (pos 0);
    }

pub resting-state : (id : ℕ) → state_at resting id ≡ out
unfolding resting state_at
resting-state id = get_d-same contacts id out

pub resting-place : (id : ℕ) → place_at resting id ≡ origin
unfolding resting place_at
resting-place id = let z = get_d-same contacts id (pos 0) in λ i. record { x = z i; y = z i }

count-out : (n : ℕ) → count_active (replicate n out) ≡ 0
unfolding count_active
count-out zero = refl
count-out (suc n) = zero-add (count_active (replicate n out)) ∙ count-out n

pub resting-count : count_active resting.states ≡ 0
unfolding resting
resting-count = count-out contacts
