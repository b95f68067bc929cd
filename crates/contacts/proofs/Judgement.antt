-- How what one pass over a frame's contacts finds makes up the judgement of the frame.
-- Assumes nothing.
use Prim.Native.Nat.{ℕ, ◌+◌, ◌-◌}
use mathlib.Core.Path.{◌≡◌, refl, sym, ap, ◌∙◌}
use mathlib.Core.Bool.{Bool, true, false, cond}
use mathlib.Core.List.{List, ◌∷◌}
use native.Mathlib.Omega.{arith}
use borrow.Author.Tests.{le-leb}
use lib.Dec.{leb}
use lib.IntN.{ℤ}
use lib.ListN.{get_or}
use Rattle.std.specs.Prelude.{Option, Some, None}
use Rattle.formats.specs.Format.{Got, got, bad}
use Rattle.states.specs.Table.{out, next}
use Rattle.house.specs.declared.Contact.{Contact}
use Rattle.machine.specs.Table.{Table, resting, state_at, place_at, active, one, count_active}
use Rattle.machine.specs.Rules.{Rules}
use Rattle.machine.specs.Conforms.{every, distinct, table_after, conforms}
use Rattle.machine.specs.Machine.{Verdict, injected, ignored, cancelled, verdict_by}
use Rattle.contacts.specs.Touch.{touch_view, touch_rules}
use Rattle.contacts.specs.Ruling.{of_read, table_from, legal_in, stays_in, allowed_in, came, gone, surveyed, Counted, judged_as, judged_of, ruling_as, ruling_of, unread, judged_on, judged_from, ruling_by}
use Rattle.contacts.specs.declared.Survey.{Survey}
use Rattle.contacts.specs.declared.Ruling.{Ruling}
use Rattle.machine.proofs.Conforms.{in_table, both_left, every-both, every_true}
use Rattle.contacts.proofs.Counting.{after-count}
use Rattle.machine.proofs.Table.{resting-whole, resting-count}

-- one contact more, counted
module _ (states : List ℕ) (a r : ℕ) (c : Contact) where
  pub came-on : r ≡ one (active (next c.flags (get_or states c.id out))) → (cs : List Contact) → a + came next states (c ∷ cs) ≡ (a + r) + came next states cs
  unfolding came
  came-on h cs = omega (arith, h)

  pub gone-on : r ≡ one (active (get_or states c.id out)) → (cs : List Contact) → a + gone states (c ∷ cs) ≡ (a + r) + gone states cs
  unfolding gone
  gone-on h cs = omega (arith, h)

-- three tests and a fifth, where the fourth passes: the second and the third together or one after the other
nest : (d l s p f : Bool) → p ≡ true → cond d (cond l (cond s (cond p f false) false) false) false ≡ cond (cond d (cond l s false) false) f false
nest true true s p f h = rw h
nest true false s p f h = refl
nest false l s p f h = refl

-- ---- the judgement, of the contacts that are read as x

module _ (most : ℕ) (states : List ℕ) (xs ys : List ℤ) where
  -- of what one pass over them finds
  pub judged-on-read : (k : ℕ) (x : Got (List Contact)) (v : Option Survey) → v ≡ of_read None (surveyed states xs ys) x → judged_on most k v ≡ judged_from most k (table_from states xs ys) x
  unfolding judged_on
  judged-on-read k (got cs t) v e = rw e
  judged-on-read k (bad y) v e = rw e

  -- the two rules of single contacts, each by itself
  allowed : (cs : List Contact) → every (allowed_in states xs ys) cs ≡ cond (every (legal_in states) cs) (every (stays_in xs ys) cs) false
  allowed cs = every-both (allowed_in states xs ys) (legal_in states) (stays_in xs ys) (λ c. refl) cs

  abbrev after : List Contact → ℕ
  after cs = count_active (table_after touch_view next (table_from states xs ys) cs).states

  -- conforming, where the pass finds nothing and the count decides
  conforming : (cs : List Contact) → conforms touch_view (touch_rules most) (table_from states xs ys) cs
      ≡ cond (cond (distinct touch_view cs) (every (allowed_in states xs ys) cs) false) (leb (after cs) most) false
  unfolding conforms state_at place_at
  conforming cs = rw (allowed cs) (nest (distinct touch_view cs) (every (legal_in states) cs) (every (stays_in xs ys) cs) (every (λ (c : Contact). true) cs) _ (every_true cs))

  module _ (k : ℕ) (q : Counted k states) where
    -- where the pass finds nothing: so many come and so many go as the table says
    lawful-count : (cs : List Contact) → distinct touch_view cs ≡ true → every (in_table touch_view) cs ≡ true
        → cond (leb (gone states cs) (k + came next states cs)) (judged_as most (k + came next states cs - gone states cs)) None ≡ judged_as most (after cs)
    lawful-count cs d i =
        let n = after-count next (table_from states xs ys) cs d i q.all in
        let m : k + came next states cs - gone states cs ≡ after cs = omega (arith, n, q.same) in
        rw (le-leb (gone states cs) (k + came next states cs) (omega (arith, n, q.same)), m)

    -- a judgement is what the rules say, where the number of active contacts is the table's
    pub judged-as-the-rules-say : (x : Got (List Contact)) → of_read true (every (in_table touch_view)) x ≡ true
        → judged_from most k (table_from states xs ys) x ≡ of_read None (judged_of (touch_rules most) (table_from states xs ys)) x
    unfolding judged_of judged_on surveyed
    judged-as-the-rules-say (bad y) i = refl
    judged-as-the-rules-say (got cs t) i = rw (conforming cs) (go (cond (distinct touch_view cs) (every (allowed_in states xs ys) cs) false) refl)
      where
        go : (b : Bool) → cond (distinct touch_view cs) (every (allowed_in states xs ys) cs) false ≡ b
            → judged_on most k (cond b (Some (record { came = came next states cs; gone = gone states cs })) None)
            ≡ cond (cond b (leb (after cs) most) false) (Some (after cs)) None
        go true w = lawful-count cs (both_left (distinct touch_view cs) _ w) i
        go false w = refl

    -- .. and so is a ruling
    pub ruled-as-the-rules-say : (judged : Bool) (x : Got (List Contact)) → of_read true (every (in_table touch_view)) x ≡ true
        → ruling_by judged (judged_from most k (table_from states xs ys) x) ≡ of_read (unread judged) (ruling_of judged (touch_rules most) (table_from states xs ys)) x
    unfolding judged_of ruling_of
    ruled-as-the-rules-say judged x i = ap (ruling_by judged) (judged-as-the-rules-say x i) ∙ go judged x
      where
        one : (b : Bool) (n : ℕ) → ruling_by true (cond b (Some n) None) ≡ ruling_as (cond b injected cancelled) n
        one true n = refl
        one false n = refl

        go : (judged : Bool) (x : Got (List Contact)) → ruling_by judged (of_read None (judged_of (touch_rules most) (table_from states xs ys)) x)
            ≡ of_read (unread judged) (ruling_of judged (touch_rules most) (table_from states xs ys)) x
        go true (got cs t) = one (conforms touch_view (touch_rules most) (table_from states xs ys) cs) (after cs)
        go true (bad y) = refl
        go false (got cs t) = refl
        go false (bad y) = refl

-- ---- what a caller learns of a ruling

module _ (judged : Bool) (rules : Rules Contact) (t : Table) (cs : List Contact) where
  abbrev then : ℕ
  then = count_active (table_after touch_view rules.next t cs).states

  -- the number of active contacts after an injected frame
  pub record Injection (k : ℕ) : Type 0 where
    pub verdict : verdict_by touch_view judged rules t cs ≡ injected
    pub active : k ≡ count_active (table_after touch_view rules.next t cs).states

  pub ruled-injected : (k : ℕ) → Ruling.Injected k ≡ ruling_of judged rules t cs → Injection k
  unfolding ruling_of
  ruled-injected k e = go (verdict_by touch_view judged rules t cs) refl e
    where
      go : (v : Verdict) → verdict_by touch_view judged rules t cs ≡ v → Ruling.Injected k ≡ ruling_as v then → Injection k
      go injected w e = record { verdict = w; active = cc }
      go ignored w e = absurd (let z : ◌≡◌ {A = ℕ} 0 1 = cc in omega arith)
      go cancelled w e = absurd (let z : ◌≡◌ {A = ℕ} 0 1 = cc in omega arith)

  pub ruled-ignored : Ruling.Ignored ≡ ruling_of judged rules t cs → verdict_by touch_view judged rules t cs ≡ ignored
  unfolding ruling_of
  ruled-ignored e = go (verdict_by touch_view judged rules t cs) e
    where
      go : (v : Verdict) → Ruling.Ignored ≡ ruling_as v then → v ≡ ignored
      go injected e = absurd (let z : ◌≡◌ {A = ℕ} 0 1 = cc in omega arith)
      go ignored e = refl
      go cancelled e = absurd (let z : ◌≡◌ {A = ℕ} 0 1 = cc in omega arith)

  pub ruled-cancelled : Ruling.Cancelled ≡ ruling_of judged rules t cs → verdict_by touch_view judged rules t cs ≡ cancelled
  unfolding ruling_of
  ruled-cancelled e = go (verdict_by touch_view judged rules t cs) e
    where
      go : (v : Verdict) → Ruling.Cancelled ≡ ruling_as v then → v ≡ cancelled
      go injected e = absurd (let z : ◌≡◌ {A = ℕ} 0 1 = cc in omega arith)
      go ignored e = absurd (let z : ◌≡◌ {A = ℕ} 0 1 = cc in omega arith)
      go cancelled e = refl

-- a table at rest has none active
pub counted-resting : Counted 0 resting.states
counted-resting = record { all = resting-whole.states; same = sym resting-count }
