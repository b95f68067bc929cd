-- One pass over the contacts of a frame: what is found of those that are left, with what was marked and counted before, is what is found of all.
-- Assumes nothing.
use Prim.Native.Nat.{ℕ, ◌+◌, ◌<◌}
use mathlib.Core.Path.{◌≡◌, refl}
use mathlib.Core.Bool.{Bool, true, false, cond}
use mathlib.Core.List.{List, [], ◌∷◌}
use native.Mathlib.Nat.{zero-add, add-zero}
use lib.IntN.{ℤ}
use lib.ListN.{length, get_or, set, replicate}
use Rattle.std.specs.Prelude.{Option, Some, None}
use Rattle.states.specs.Table.{out, next}
use Rattle.house.specs.declared.Contact.{Contact}
use Rattle.machine.specs.Table.{active, one}
use Rattle.machine.specs.Conforms.{every}
use Rattle.contacts.specs.Ruling.{allowed_in, came, gone, surveyed}
use Rattle.contacts.specs.declared.Survey.{Survey}
use Rattle.machine.proofs.Conforms.{every-on, every-off}
use Rattle.contacts.proofs.Seen.{clear, clear-start, clear-on, clear-off, clear-end}
use Rattle.contacts.proofs.Judgement.{came-on, gone-on}

never_both : (b : Bool) → cond b false false ≡ false
never_both true = refl
never_both false = refl

module _ (states : List ℕ) (xs ys : List ℤ) where
  -- the ids in `seen` and a and b contacts counted before
  unfoldable pub surveyed_from : List Bool → ℕ → ℕ → List Contact → Option Survey
  surveyed_from seen a b cs =
      cond (cond (clear seen cs) (every (allowed_in states xs ys) cs) false) (Some (record { came = a + came next states cs; gone = b + gone states cs })) None

  pub survey-start : (cs : List Contact) → surveyed_from (replicate 256 false) 0 0 cs ≡ surveyed states xs ys cs
  unfolding surveyed_from surveyed
  survey-start cs = rw (clear-start 256 cs, zero-add (came next states cs), zero-add (gone states cs))

  module _ (seen : List Bool) (a b : ℕ) where
    pub survey-end : Some (record { came = a; gone = b }) ≡ surveyed_from seen a b []
    unfolding surveyed_from every came gone
    survey-end = rw (clear-end seen, add-zero a, add-zero b)

    module _ (c : Contact) where
      pub survey-on : (r q : ℕ) → c.id < length seen → get_or seen c.id false ≡ false → allowed_in states xs ys c ≡ true
          → r ≡ one (active (next c.flags (get_or states c.id out))) → q ≡ one (active (get_or states c.id out))
          → (cs : List Contact) → surveyed_from seen a b (c ∷ cs) ≡ surveyed_from (set seen c.id true) (a + r) (b + q) cs
      unfolding surveyed_from
      survey-on r q h s w up down cs =
          rw (clear-on seen c h s cs, every-on (allowed_in states xs ys) c w cs, came-on states a r c up cs, gone-on states b q c down cs)

      pub survey-twice : get_or seen c.id false ≡ true → (cs : List Contact) → surveyed_from seen a b (c ∷ cs) ≡ None
      unfolding surveyed_from
      survey-twice s cs = rw (clear-off seen c s cs)

      pub survey-off : allowed_in states xs ys c ≡ false → (cs : List Contact) → surveyed_from seen a b (c ∷ cs) ≡ None
      unfolding surveyed_from
      survey-off w cs = rw (every-off (allowed_in states xs ys) c w cs, never_both (clear seen (c ∷ cs)))
