-- The rule of the constant table: each of its 24 entries is what document 01's table says, by one test over the whole.
-- Assumes nothing.
use mathlib.Core.Path.{◌≡◌, refl, ◌∙◌}
use mathlib.Core.Bool.{Bool, true, false, cond}
use mathlib.Core.List.{List, [], ◌∷◌}
use Prim.Native.Nat.{ℕ, ◌+◌, ◌*◌, ◌/◌, ◌%◌, ◌<◌, ◌≤◌}
use native.Mathlib.Omega.{arith}
use lib.Dec.{eqb, ltb}
use lib.ListN.{get_or, get_or-eq_default}
use borrow.Author.Tests.{ne_eqb, ltb-true, ltb-false}
use Rattle.states.specs.Table.{Row, table, unlisted, from, illegal, listed, place_of, out, hovering, engaged}
use Rattle.tables.proofs.Below.{below_equal}

-- the entries of `NEXT`
abbrev pub entries : List ℕ
entries =
    1 ∷ 1 ∷ 3 ∷ 2 ∷ 2 ∷ 3 ∷ 3 ∷ 3 ∷ 2 ∷ 3 ∷ 3 ∷ 1 ∷ 3 ∷ 3 ∷ 0 ∷ 3 ∷ 3 ∷ 0 ∷ 3 ∷ 0 ∷ 3 ∷ 3 ∷ 0 ∷ 3 ∷ []

-- the entry at k is that of row k / 3 and state k % 3
entry : (k : ℕ) → k < 24 → get_or entries k 0 ≡ from (k % 3) (get_or table (k / 3) unlisted)
unfolding from
entry = below_equal 24 (λ k. get_or entries k 0) (λ k. from (k % 3) (get_or table (k / 3) unlisted)) tt

pub rule : (k s : ℕ) → k < 8 → s ≤ 2 → get_or entries (3 * k + s) 0 ≡ from s (get_or table k unlisted)
rule k s hk hs =
    let q : (3 * k + s) / 3 ≡ k = omega arith in
    let r : (3 * k + s) % 3 ≡ s = omega arith in
    entry (3 * k + s) (omega arith) ∙ rw (q, r)

-- a number that is no state has no legal flags
pub no-state : (s : ℕ) (r : Row) → 2 < s → from s r ≡ illegal
unfolding from
no-state s r h =
    rw (ne_eqb s out (λ e. omega arith), ne_eqb s hovering (λ e. omega arith), ne_eqb s engaged (λ e. omega arith))

-- flags that the table does not have lead nowhere
either : (b : Bool) (x : ℕ) → cond b x x ≡ x
either true x = refl
either false x = refl

pub no_row : (k s : ℕ) → 8 ≤ k → from s (get_or table k unlisted) ≡ illegal
unfolding from
no_row k s h =
    rw (get_or-eq_default table unlisted {n = k} h, either (eqb s engaged) illegal, either (eqb s hovering) illegal, either (eqb s out) illegal)

-- flags that the table has are of six bits
unlisted-great : (f : ℕ) → 64 ≤ f → listed f ≡ false
unfolding listed place_of
unlisted-great f h =
    rw (
      ne_eqb f 0x0A (λ e. omega arith),
      ne_eqb f 0x19 (λ e. omega arith),
      ne_eqb f 0x1A (λ e. omega arith),
      ne_eqb f 0x0C (λ e. omega arith),
      ne_eqb f 0x04 (λ e. omega arith),
      ne_eqb f 0x24 (λ e. omega arith),
      ne_eqb f 0x02 (λ e. omega arith),
      ne_eqb f 0x22 (λ e. omega arith),
    )

pub listed_small : (f : ℕ) → listed f ≡ true → f < 64
listed_small f h = go (ltb f 64) refl
  where
    go : (b : Bool) → ltb f 64 ≡ b → f < 64
    go true e = ltb-true f 64 e
    go false e =
        let w : listed f ≡ false = unlisted-great f (ltb-false f 64 e) in
        let z : ◌≡◌ {A = ℕ} 0 1 = cc in
        absurd (omega arith)
