-- A pass that writes as it reads: what is still to come of a series, read at the front of what is left and written from one place on, ends as the
-- whole does.
-- Assumes nothing.
use Prim.Native.Nat.{ℕ, ◌+◌, ◌-◌, ◌≤◌}
use mathlib.Core.Path.{◌≡◌, sym, ap, ◌∙◌}
use mathlib.Core.Bool.{Bool, false}
use mathlib.Core.List.{List, [], ◌∷◌, ◌++◌}
use native.Mathlib.Omega.{arith}
use lib.ListN.{length, length-append, length-drop}
use borrow.Rule.Slice.PartMut.{mid_of, put_mid}
use Rattle.slices.specs.Writing.{laid}
use Rattle.slices.proofs.Tails.{laid_at, laid_none, tail-is, wrote}
use Rattle.formats.specs.Format.{got, Format, read_series}
use Rattle.formats.proofs.Steps.{series-end}

-- values of the formats f, and the bytes b that are written of them
module _ {A : Type 0} (f : Bool → Format A) (b : List A → List ℕ) where
  -- d is written: of the whole, with t behind it, k values are to come, read at the front of `left` and written from `pos` on
  pub record Ahead (d : List ℕ) (whole : List A) (t : List ℕ) (out : List ℕ) (pos : ℕ) (left : List ℕ) (k : ℕ) : Type 0 where
    pub more : List A
    pub read : read_series (λ i. (f i).read) false k left ≡ got more t
    pub room : pos + length (b more) ≤ length out
    pub long : length out ≡ length d
    pub same : laid_at out pos (b more) ≡ laid d (b whole)

  module _ (d : List ℕ) (whole : List A) (t : List ℕ) where
    module _ (out : List ℕ) (pos : ℕ) (left : List ℕ) (k : ℕ) (h : Ahead d whole t out pos left k) where
      -- a is the next value, whose bytes are s
      module _ (a : A) (s : List ℕ) (others : List A) (all : h.more ≡ a ∷ others) (cons : (more : List A) → b (a ∷ more) ≡ s ++ b more) where
        -- there is room for them
        pub ahead-room : length s ≤ length (mid_of pos (length out - pos) out)
        ahead-room =
            let e : length (b h.more) ≡ length s + length (b others) = ap length (ap b all ∙ cons others) ∙ length-append s (b others) in
            rw (tail-is out pos, length-drop pos out) (omega (arith, h.room))

        -- they were written through the tail that was lent, which came back as w
        pub ahead-next : (u w : List ℕ) (n j : ℕ) → read_series (λ i. (f i).read) false j u ≡ got others t → w ≡ laid (mid_of pos (length out - pos) out) s → n ≡ length s
            → Ahead d whole t (put_mid pos (length out - pos) out w) (pos + n) u j
        ahead-next u w n j r ew en =
            let e : b h.more ≡ s ++ b others = ap b all ∙ cons others in
            let v = wrote out pos n w s (b others) ew en (rw e at h.room) in
            record { more = others; read = r; room = v.room; long = v.long ∙ h.long; same = v.same ∙ rw e at h.same }

      pub ahead-done : k ≤ 0 → b [] ≡ [] → out ≡ laid d (b whole)
      ahead-done i none =
          let p : got [] left ≡ got h.more t = sym (series-end (λ i. (f i).read) false k left i) ∙ h.read in
          let e : h.more ≡ [] = cc in
          sym (laid_none out pos) ∙ rw (e, none) at h.same
