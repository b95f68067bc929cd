-- The set of ids that is kept while ignoring: who is in it, and when a frame is opening.
-- Assumes nothing.
use Prim.Native.Nat.{ℕ, zero, suc, ◌≤◌, ◌<◌}
use mathlib.Core.Path.{◌≡◌, refl, sym, ap, ◌∙◌}
use mathlib.Core.Bool.{Bool, true, false, cond, not}
use mathlib.Core.List.{List, [], ◌∷◌, map}
use native.Mathlib.Omega.{arith}
use borrow.Author.Tests.{not-false, eqb-true, eqb-false, ltb-true, ltb-false}
use lib.Dec.{eqb, ltb}
use lib.ListN.{length, get_or, set, replicate, length-set, length-replicate, get_or-replicate, get_or-eq_default}
use lib.Seq.{ext_get_or, get_or-set_same, get_or-set_other}
use Rattle.states.specs.Table.{out}
use Rattle.machine.specs.Table.{Table, contacts, state_at, active, one}
use Rattle.machine.specs.Rules.{View}
use Rattle.machine.specs.Conforms.{every}
use Rattle.machine.specs.Held.{is_held, nobody, active_ids, leaving, held_without, with_listing, held_after, is_down, is_hover, is_free, opening}
use Rattle.machine.proofs.Conforms.{every_first, every-others}

-- ---- a mark that is put, and the others

module _ (held : List ℕ) (id n : ℕ) where
  mark-same : id < length held → is_held (set held id n) id ≡ not (eqb n 0)
  unfolding is_held
  mark-same h = ap (λ k. not (eqb k 0)) (get_or-set_same held id n 0 h)

  mark-other : (k : ℕ) → (k ≡ id → ⊥) → is_held (set held id n) k ≡ is_held held k
  unfolding is_held
  mark-other k h = ap (λ m. not (eqb m 0)) (get_or-set_other held id k n 0 h)

one-mark : (b : Bool) → not (eqb (one b) 0) ≡ b
one-mark true = refl
one-mark false = refl

-- ---- nobody

pub nobody-held : (id : ℕ) → is_held nobody id ≡ false
unfolding is_held nobody
nobody-held id = ap (λ k. not (eqb k 0)) (go (ltb id contacts) refl)
  where
    go : (b : Bool) → ltb id contacts ≡ b → ◌≡◌ {A = ℕ} (get_or (replicate contacts 0) id 0) 0
    go true h = get_or-replicate contacts id 0 0 (ltb-true _ _ h)
    go false h = let k : contacts ≤ id = ltb-false _ _ h in get_or-eq_default (replicate contacts 0) 0 {n = id} (omega (arith, length-replicate {A = ℕ} contacts 0))

pub nobody-length : length nobody ≡ contacts
unfolding nobody
nobody-length = length-replicate {A = ℕ} contacts 0

-- marks that are 0 are all alike
pub none-held : (held : List ℕ) → length held ≡ contacts → ((id : ℕ) → id < contacts → is_held held id ≡ false) → held ≡ nobody
unfolding is_held nobody
none-held held w h =
    ext_get_or 0 held (replicate contacts 0) (w ∙ sym (length-replicate {A = ℕ} contacts 0))
    (λ k b. zero-mark (get_or held k 0) (h k (omega (arith, w))) ∙ sym (get_or-replicate contacts k 0 0 (omega (arith, w))))
  where
    zero-mark : (n : ℕ) → not (eqb n 0) ≡ false → n ≡ 0
    zero-mark n e = eqb-true n 0 (not-false (eqb n 0) e)

-- ---- those active

pub active-held : (t : Table) (id : ℕ) → is_held (active_ids t) id ≡ active (state_at t id)
unfolding is_held active_ids state_at
active-held t id = go t.states id
  where
    go : (states : List ℕ) (k : ℕ) → not (eqb (get_or (map (λ s. one (active s)) states) k 0) 0) ≡ active (get_or states k out)
    go [] k = refl
    go (s ∷ states) zero = one-mark (active s)
    go (s ∷ states) (suc k) = go states k

pub active-length : (t : Table) → length (active_ids t) ≡ length t.states
unfolding active_ids
active-length t = go t.states
  where
    go : (states : List ℕ) → length (map (λ s. one (active s)) states) ≡ length states
    go [] = refl
    go (s ∷ states) = ap suc (go states)

-- ---- a dismissal

module _ (held : List ℕ) (id : ℕ) where
  pub without-same : id < length held → is_held (held_without held id) id ≡ false
  unfolding held_without
  without-same h = mark-same held id 0 h

  pub without_other : (k : ℕ) → (k ≡ id → ⊥) → is_held (held_without held id) k ≡ is_held held k
  unfolding held_without
  without_other k h = mark-other held id 0 k h

  pub without-length : length (held_without held id) ≡ length held
  unfolding held_without
  without-length = length-set held id 0

pub without-nobody : (id : ℕ) → held_without nobody id ≡ nobody
without-nobody id = none-held (held_without nobody id) (without-length nobody id ∙ nobody-length) (λ k b. go k b (eqb k id) refl)
  where
    go : (k : ℕ) → k < contacts → (c : Bool) → eqb k id ≡ c → is_held (held_without nobody id) k ≡ false
    go k b true e = let z : k ≡ id = eqb-true _ _ e in rw z (without-same nobody id (omega (arith, nobody-length)))
    go k b false e = without_other nobody id k (eqb-false _ _ e) ∙ nobody-held k

module _ {C : Type 0} (view : View C) where
  -- ---- a frame that is ignored or cancelled

  module _ (held : List ℕ) (c : C) where
    pub listing-same : view.id c < length held → is_held (with_listing view held c) (view.id c) ≡ not (leaving (view.flags c))
    unfolding with_listing
    listing-same h = mark-same held (view.id c) (one (not (leaving (view.flags c)))) h ∙ one-mark (not (leaving (view.flags c)))

    pub listing-other : (k : ℕ) → (k ≡ view.id c → ⊥) → is_held (with_listing view held c) k ≡ is_held held k
    unfolding with_listing
    listing-other k h = mark-other held (view.id c) (one (not (leaving (view.flags c)))) k h

    pub listing-length : length (with_listing view held c) ≡ length held
    unfolding with_listing
    listing-length = length-set held (view.id c) (one (not (leaving (view.flags c))))

  pub after-length : (held : List ℕ) (cs : List C) → length (held_after view held cs) ≡ length held
  unfolding held_after
  after-length held [] = refl
  after-length held (c ∷ cs) = after-length (with_listing view held c) cs ∙ listing-length held c

  -- ---- a frame that hovers, of ids that are not in the set

  hover-free : (c : C) → is_hover view c ≡ true → is_free view nobody c ≡ true
  hover-free c e = rw (e, nobody-held (view.id c)) (go (eqb (view.flags c) 0x19))
    where
      go : (a : Bool) → cond (cond a true true) true false ≡ true
      go true = refl
      go false = refl

  hovers-free : (cs : List C) → every (is_hover view) cs ≡ true → every (is_free view nobody) cs ≡ true
  unfolding every
  hovers-free [] e = refl
  hovers-free (c ∷ cs) e =
      rw (hover-free c (every_first (is_hover view) c cs e)) (hovers-free cs (every-others (is_hover view) c cs e))

  pub hovering-opens : (c : C) (cs : List C) → every (is_hover view) (c ∷ cs) ≡ true → opening view nobody (c ∷ cs) ≡ true
  unfolding opening
  hovering-opens c cs h = go (every (is_down view) (c ∷ cs)) (every (is_free view nobody) (c ∷ cs)) (hovers-free (c ∷ cs) h)
    where
      go : (a b : Bool) → b ≡ true → cond a true b ≡ true
      go true b e = refl
      go false b e = e
