-- What a frame's contacts leave, as a loop reads them, and that it is what the list of them leaves where they can all be read.
-- Assumes nothing.
use Prim.Native.Nat.{ℕ, zero, suc, ◌-◌, ◌≤◌, ◌<◌}
use mathlib.Core.Path.{◌≡◌, refl, sym, ap, ◌∙◌}
use mathlib.Core.List.{List, [], ◌∷◌}
use native.Mathlib.Numerals.{sub-one}
use native.Mathlib.Omega.{arith}
use Rattle.formats.specs.Format.{Got, got, bad, and_then, Format, times, read_series}
use Rattle.formats.proofs.Laws.{never}
use Rattle.framing.specs.After.{on_read, after_read}

same : {A : Type 0} (a b : A) (l m : List ℕ) → got a l ≡ got b m → a ≡ b
same a b l m h = cc

module _ {A C : Type 0} (step : A → C → A) (format : Format C) where
  -- ---- one turn of a loop over the contacts

  module _ (a : A) where
    pub read-end : (k : ℕ) (l : List ℕ) → k ≤ 0 → after_read step format k a l ≡ a
    unfolding after_read
    read-end zero l h = refl
    read-end (suc k) l h = absurd (omega arith)

    pub read-bad : (k : ℕ) (l : List ℕ) (e : ℕ) → 0 < k → format.read l ≡ bad e → after_read step format k a l ≡ a
    unfolding after_read
    read-bad zero l e h w = absurd (omega arith)
    read-bad (suc k) l e h w = rw w

  -- a contact's step, and the others still to be read
  pub read-on : (a b : A) (k : ℕ) (l : List ℕ) (c : C) (t : List ℕ) → 0 < k → format.read l ≡ got c t → b ≡ step a c
      → after_read step format (k - 1) b t ≡ after_read step format k a l
  unfolding after_read
  read-on a b zero l c t h w m = absurd (omega arith)
  read-on a b (suc k) l c t h w m = rw (w, sub-one, m)

  -- ---- contacts that can all be read: what is left is what the list of them leaves, by a function that takes them one by one

  module _ (after : A → List C → A) (none : (a : A) → after a [] ≡ a) (some : (a : A) (c : C) (cs : List C) → after a (c ∷ cs) ≡ after (step a c) cs) where
    abbrev Leads : ℕ → Type 0
    Leads n = (a : A) (l : List ℕ) (cs : List C) (rest : List ℕ) → (times n format).read l ≡ got cs rest → after_read step format n a l ≡ after a cs

    one_more : (n : ℕ) → Leads n → Leads (suc n)
    unfolding after_read read_series
    one_more n leads a l cs rest e = first (format.read l) e
      where
        others : (c : C) (m : List ℕ) (y : Got (List C)) → (times n format).read m ≡ y → and_then y (λ ds v. got (c ∷ ds) v) ≡ got cs rest
            → after_read step format n (step a c) m ≡ after a cs
        others c m (got ds v) q h = leads (step a c) m ds v q ∙ (sym (some a c ds) ∙ ap (after a) (same (c ∷ ds) cs v rest h))
        others c m (bad x) q h = never x cs rest h

        first : (x : Got C) → and_then x (λ c m. and_then ((times n format).read m) (λ ds v. got (c ∷ ds) v)) ≡ got cs rest
            → on_read a (λ c m. after_read step format n (step a c) m) x ≡ after a cs
        first (got c m) h = others c m ((times n format).read m) refl h
        first (bad x) h = never x cs rest h

    pub read_all : (n : ℕ) → Leads n
    unfolding after_read read_series
    read_all zero a l cs rest e = sym (none a) ∙ ap (after a) (same [] cs l rest e)
    read_all (suc n) a l cs rest e = one_more n (read_all n) a l cs rest e
