-- `integers::reader::read` meets its contract: what was decoded, in its form; it is in the range of the kind, so that it is the value's sign and
-- magnitude.
-- Assumes nothing.
use Prim.Native.Nat.{ℕ, ◌+◌, ◌≤◌, ◌%◌}
use mathlib.Core.Path.{◌≡◌, sym, ap, ◌∙◌}
use mathlib.Core.Bool.{Bool, true, false, cond}
use mathlib.Core.List.{List}
use native.Mathlib.Nat.{mod-eq_of_lt}
use native.Mathlib.Omega.{arith}
use Rattle.std.proofs.lemmas.Result.{err_from_is_err_and}
use Rattle.paper.specs.Refusals.{not_shortest}
use Rattle.digits.specs.Digits.{Bytes}
use Rattle.integers.specs.Integer.{value, refused, tops, signs, limit, sign_over, decoded, decoded_by, only, any, reading_by}
use Rattle.integers.proofs.ByteOne.{shares, signs-pos}
use Rattle.integers.proofs.Laws.{decoded-sign, only-value, sign_same, reading-ranged}
use Rattle.integers.proofs.reader.read.Goals as goal
use Rattle.integers.proofs.reader.read.Goals.{else-strictly-via-then-strictly+else-not-is_only_form, else-strictly-via-else-strictly}

module _ (k g : ℕ) (l : List ℕ) where
  -- cut short
  early : (b : Bool) (e : ℕ) → refused e ≡ decoded (tops k g) (signs g) l → refused e ≡ reading_by b k g l
  unfolding decoded_by only any
  early true e d = ap (only (tops k g)) d
  early false e d = ap any d

  module _ (s m n : ℕ) (d : value s m n ≡ decoded (tops k g) (signs g) l) where
    -- in its only form, which was asked for
    formed : (b r : Bool) → b ≡ true → r ≡ true → only (tops k g) (value s m n) ≡ cond r (value s m n) (refused not_shortest) → value (sign_over s m) m n ≡ reading_by b k g l
    unfolding decoded_by
    formed true true e h o =
        let p = (only-value (tops k g) (value s m n) s m n o).plain in
        rw (sign_same s m p) (sym o ∙ ap (only (tops k g)) d)
    formed true false e h o = absurd (cc)
    formed false r e h o = absurd (cc)

    -- in any
    loose : (b : Bool) → b ≡ false → value (sign_over s m) m n ≡ reading_by b k g l
    unfolding decoded_by any
    loose false e = ap any d
    loose true e = absurd (cc)

    -- in another than its only form
    padded : (b r : Bool) → b ≡ true → r ≡ false → only (tops k g) (value s m n) ≡ cond r (value s m n) (refused not_shortest) → refused not_shortest ≡ reading_by b k g l
    unfolding decoded_by
    padded true false e h o = sym o ∙ ap (only (tops k g)) d
    padded true true e h o = absurd (cc)
    padded false r e h o = absurd (cc)

    -- x and y are the sign and the magnitude of the value that is joined
    taken : (b : Bool) (x y : ℕ) → k + g ≤ 8 → Bytes l → value (sign_over s m) m n ≡ reading_by b k g l → x ≡ sign_over (s % signs g) y → y ≡ m % limit k g → value x y n ≡ reading_by b k g l
    taken b x y h hl same ex ey =
        let range = reading-ranged b k g l (sign_over s m) m n h hl (sym same) in
        let sign = decoded-sign (tops k g) (signs g) (signs-pos g) l s m n (sym d) in
        rw (ex, ey, mod-eq_of_lt range.size, mod-eq_of_lt sign) same

pub decode-requires : goal.decode-requires
decode-requires g c =
    let shared = g.met.T.Integer.shared in
    let h = shares g.T.Integer.COUNT_BITS g.T.Integer.SIGN_BITS shared.0 shared.1 (omega (arith, shared)) in
    rw (c.tops-tops.ensures, c.signs.ensures) (h.some, h.most, h.signed, h.counted)

pub returns-in_err-sign : goal.returns-in_err-sign
returns-in_err-sign g c =
    let p = err_from_is_err_and c.from_residual.result c.from_residual.ensures.1 in
    rw (p.1, p.2) (early _ _ _ _ _ (rw (c.tops-tops.ensures, c.signs.ensures) at c.in_err-sign.ensures))

pub returns-then-not-is_only_form : goal.returns-then-not-is_only_form
returns-then-not-is_only_form g c =
    padded _ _ _ _ _ _ (rw (c.tops-tops.ensures, c.signs.ensures) at c.in_ok-sign.ensures) _ _ c.if-strictly.true c.if-not-is_only_form.true
    (rw c.tops-tops.ensures at c.is_only_form.ensures)

pub returns : goal.returns
returns g c =
    let shared = g.met.T.Integer.shared in
    let d = rw (c.tops-tops.ensures, c.signs.ensures) at c.in_ok-sign.ensures in
    taken _ _ _ _ _ _ d _ _ _ (omega (arith, shared)) (λ i. (c.type_inv.rest i).fits)
    (elim c.else-strictly.branch [
      | else-strictly-via-then-strictly+else-not-is_only_form w ↦ formed _ _ _ _ _ _ d _ _ w.if-strictly.true w.if-not-is_only_form.false (rw c.tops-tops.ensures at w.is_only_form.ensures)
      | else-strictly-via-else-strictly w ↦ loose _ _ _ _ _ _ d _ w.if-strictly.false
    ])
    c.join.ensures.0 c.join.ensures.1
