-- When a frame conforms, contact by contact; and what a frame of distinct ids leaves.
-- Assumes nothing.
use Prim.Native.Nat.{ℕ, ◌+◌, ◌<◌}
use mathlib.Core.Path.{◌≡◌, refl, ap, ◌∙◌}
use mathlib.Core.Bool.{Bool, true, false, cond, not}
use mathlib.Core.List.{List, [], ◌∷◌}
use native.Mathlib.Omega.{arith}
use borrow.Author.Tests.{eqb-false, not-true}
use lib.Dec.{eqb, ltb}
use lib.ListN.{length, length-set}
use Rattle.states.specs.Table.{illegal}
use Rattle.machine.specs.Table.{Table, contacts, state_at, place_at, with_contact, active, one, count_active}
use Rattle.machine.specs.Rules.{View}
use Rattle.machine.specs.Conforms.{every, other_id, distinct, next_of, legal, stays, place_in, moved, table_after}
use Rattle.machine.proofs.Table.{state-other, place_other, count_set}

-- ---- both of two tests

pub both_left : (a b : Bool) → cond a b false ≡ true → a ≡ true
both_left true b h = refl
both_left false b h = h

pub both_right : (a b : Bool) → cond a b false ≡ true → b ≡ true
both_right true b h = h
both_right false b h = absurd (let z : ◌≡◌ {A = ℕ} 0 1 = cc in omega arith)

swap : (a b c d : Bool) → cond (cond a b false) (cond c d false) false ≡ cond (cond a c false) (cond b d false) false
swap true true c d = refl
swap true false true d = refl
swap true false false d = refl
swap false b c d = refl

-- ---- a list of contacts, one longer

module _ {A : Type 0} (p : A → Bool) (a : A) where
  pub every-on : p a ≡ true → (more : List A) → every p (a ∷ more) ≡ every p more
  unfolding every
  every-on h more = rw h

  pub every-off : p a ≡ false → (more : List A) → every p (a ∷ more) ≡ false
  unfolding every
  every-off h more = rw h

  pub every_first : (more : List A) → every p (a ∷ more) ≡ true → p a ≡ true
  unfolding every
  every_first more h = both_left (p a) (every p more) h

  pub every-others : (more : List A) → every p (a ∷ more) ≡ true → every p more ≡ true
  unfolding every
  every-others more h = both_right (p a) (every p more) h

-- a test that is two
pub every-both : {A : Type 0} (p q r : A → Bool) → ((a : A) → p a ≡ cond (q a) (r a) false) → (l : List A) → every p l ≡ cond (every q l) (every r l) false
unfolding every
every-both p q r h [] = refl
every-both p q r h (a ∷ l) = rw (h a, every-both p q r h l) (swap (q a) (r a) (every q l) (every r l))

-- a test that all pass
pub every_true : {A : Type 0} (l : List A) → every (λ (a : A). true) l ≡ true
unfolding every
every_true [] = refl
every_true (a ∷ l) = every_true l

-- two tests that agree
pub every-same : {A : Type 0} (q p r : A → Bool) → ((a : A) → q a ≡ true → p a ≡ r a) → (l : List A) → every q l ≡ true → every p l ≡ every r l
unfolding every
every-same q p r h [] e = refl
every-same q p r h (a ∷ l) e = rw (h a (both_left (q a) (every q l) e), every-same q p r h l (both_right (q a) (every q l) e))

-- ---- a frame, over what the machine sees of its contacts and over the next state

module _ {C : Type 0} (view : View C) where
  pub distinct-first : (c : C) (cs : List C) → distinct view (c ∷ cs) ≡ true → every (other_id view (view.id c)) cs ≡ true
  unfolding distinct
  distinct-first c cs h = both_left (every (other_id view (view.id c)) cs) (distinct view cs) h

  pub distinct-others : (c : C) (cs : List C) → distinct view (c ∷ cs) ≡ true → distinct view cs ≡ true
  unfolding distinct
  distinct-others c cs h = both_right (every (other_id view (view.id c)) cs) (distinct view cs) h

  pub other-id : (id : ℕ) (c : C) → other_id view id c ≡ true → view.id c ≡ id → ⊥
  other-id id c h = eqb-false (view.id c) id (not-true (eqb (view.id c) id) h)

  -- an id of the table
  abbrev pub in_table : C → Bool
  in_table c = ltb (view.id c) contacts

  module _ (next : ℕ → ℕ → ℕ) where
    module _ (t : Table) (c : C) where
      -- a contact goes from its state before the frame, also behind others
      pub moved_other : (d : C) → other_id view (view.id c) d ≡ true → state_at (moved view next t c) (view.id d) ≡ state_at t (view.id d)
      unfolding moved
      moved_other d h =
          state-other t (view.id c) (next_of view next t c) (place_in (next_of view next t c) (view.place c)) (view.id d) (other-id (view.id c) d h)

      moved-place : (d : C) → other_id view (view.id c) d ≡ true → place_at (moved view next t c) (view.id d) ≡ place_at t (view.id d)
      unfolding moved
      moved-place d h =
          place_other t (view.id c) (next_of view next t c) (place_in (next_of view next t c) (view.place c)) (view.id d) (other-id (view.id c) d h)

      pub legal-behind : (cs : List C) → every (other_id view (view.id c)) cs ≡ true → every (legal view next (moved view next t c)) cs ≡ every (legal view next t) cs
      legal-behind =
          every-same (other_id view (view.id c)) (legal view next (moved view next t c)) (legal view next t)
          (λ d h. ap (λ s. not (eqb (next (view.flags d) s) illegal)) (moved_other d h))

      pub stays-behind : (cs : List C) → every (other_id view (view.id c)) cs ≡ true → every (stays view (moved view next t c)) cs ≡ every (stays view t) cs
      stays-behind = every-same (other_id view (view.id c)) (stays view (moved view next t c)) (stays view t) (λ d h. rw (moved-place d h))

      -- how a contact changes the number of active contacts
      pub moved-count : length t.states ≡ contacts → view.id c < contacts
          → count_active (moved view next t c).states + one (active (state_at t (view.id c))) ≡ count_active t.states + one (active (next_of view next t c))
      unfolding moved with_contact state_at
      moved-count w h = count_set t.states (view.id c) (next_of view next t c) (omega (arith, w))

      pub moved-long : length (moved view next t c).states ≡ length t.states
      unfolding moved with_contact
      moved-long = length-set t.states (view.id c) (next_of view next t c)

    -- a frame leaves a table as long as it was
    pub after-long : (t : Table) (cs : List C) → length (table_after view next t cs).states ≡ length t.states
    unfolding table_after
    after-long t [] = refl
    after-long t (c ∷ cs) = after-long (moved view next t c) cs ∙ moved-long t c
