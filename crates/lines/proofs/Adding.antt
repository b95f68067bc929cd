-- Texts that are added to a page: one of them, through the page's lent tail or as a byte, and several after each other.
-- Assumes nothing.
use Prim.Native.Nat.{ℕ, ◌+◌, ◌-◌, ◌≤◌, ◌<◌}
use mathlib.Core.Path.{◌≡◌, refl, sym, ap, ◌∙◌}
use mathlib.Core.Bool.{Bool, true, false, cond}
use mathlib.Core.List.{List, [], ◌∷◌, ◌++◌, append_assoc}
use native.Mathlib.Nat.{add-zero}
use native.Mathlib.Omega.{arith}
use lib.Dec.{leb}
use lib.ListN.{length, take, drop, set, length-append, length-drop}
use lib.Seq.{set_split, drop-drop}
use native.Mathlib.Numerals.{add-one}
use borrow.Author.Tests.{le-leb, lt-leb, leb-true, leb-false}
use borrow.Rule.Slice.PartMut.{mid_of, put_mid}
use Rattle.slices.specs.Writing.{laid, bytes, Writes, answered, left}
use Rattle.slices.specs.declared.Written.{Written}
use Rattle.slices.proofs.Laws.{given-room, given-none}
use Rattle.slices.proofs.Tails.{laid_at, laid-length, laid_none, laid_next, put_back, tail-is}
use Rattle.lines.specs.Page.{Placed, add_to, add_all, text_of, Added}

-- ---- one text

module _ (s : List ℕ) (at next : ℕ) (before after : List ℕ) where
  pub added-yes : at + length s ≤ length before → next ≡ at + length s → after ≡ laid_at before at s → Added (s ∷ []) at next before after
  unfolding add_all add_to
  added-yes h en ea =
      record { all = rw (le-leb _ _ h) (λ i. record { at = en i; page = ea i }); long = ap length ea ∙ laid-length before s at h; inside = λ k. omega arith }

  pub added-no : length before < at + length s → next ≡ at → after ≡ before → Added (s ∷ []) at next before after
  unfolding add_all add_to
  added-no h en ea = record { all = rw (lt-leb _ _ h) (λ i. record { at = en i; page = ea i }); long = ap length ea; inside = λ k. omega arith }

-- what is added is as the definition says, whether there is room or not
pub added-to : (s : List ℕ) (at : ℕ) (d : List ℕ) → let p : Placed = add_to s (record { at = at; page = d }) in Added (s ∷ []) at p.at d p.page
unfolding add_to
added-to s at d = go (leb (at + length s) (length d)) refl
  where
    go : (b : Bool) → leb (at + length s) (length d) ≡ b → let p : Placed = cond b (record { at = at + length s; page = laid_at d at s }) (record { at = at; page = d }) in Added (s ∷ []) at p.at d p.page
    go true e = added-yes s at _ d _ (leb-true _ _ e) refl refl
    go false e = added-no s at _ d _ (leb-false _ _ e) refl refl

-- a place behind the page holds nothing, not even no text at all
pub added-behind : (s : List ℕ) (at : ℕ) (d : List ℕ) → length d < at → Added (s ∷ []) at at d d
added-behind s at d h = added-no s at at d d (omega arith) refl refl

pub added-tail : (s : List ℕ) (at : ℕ) (d l : List ℕ) (w : Written) → at ≤ length d → Writes (bytes s) w (mid_of at (length d - at) d) l → Added (s ∷ []) at (at + w.bytes) d (put_mid at (length d - at) d l)
added-tail s at d l w h k = go (leb (length s) (length d - at)) refl
  where
    room : length (mid_of at (length d - at) d) ≡ length d - at
    room = ap length (tail-is d at) ∙ length-drop at d

    go : (b : Bool) → leb (length s) (length d - at) ≡ b → Added (s ∷ []) at (at + w.bytes) d (put_mid at (length d - at) d l)
    go true e =
        let r : length s ≤ length d - at = leb-true _ _ e in
        let g = given-room s (length (mid_of at (length d - at) d)) (rw room r) in
        let n : w.bytes ≡ length s = ap (λ (x : Written). x.bytes) (k.answer ∙ ap answered g) in
        let o : l ≡ laid (mid_of at (length d - at) d) s = k.output ∙ ap (left (mid_of at (length d - at) d)) g in
        added-yes s at (at + w.bytes) d _ (omega arith) (rw n) (rw o (put_back d s at))
    go false e =
        let r : length d - at < length s = leb-false _ _ e in
        let g = given-none s (length (mid_of at (length d - at) d)) (rw room r) in
        let n : w.bytes ≡ 0 = ap (λ (x : Written). x.bytes) (k.answer ∙ ap answered g) in
        let o : l ≡ mid_of at (length d - at) d = k.output ∙ ap (left (mid_of at (length d - at) d)) g in
        added-no s at (at + w.bytes) d _ (omega arith) (rw (n, add-zero)) (rw o (put_back d [] at ∙ laid_none d at))

-- one byte, stored at its place
pub byte-stored : (d : List ℕ) (at b : ℕ) → at < length d → set d at b ≡ take at d ++ laid (drop at d) (b ∷ [])
byte-stored d at b h = rw (drop-drop 1 at d, add-one at) (set_split d at b h)

-- ---- several

-- no text adds nothing
pub added_none : (at : ℕ) (d : List ℕ) → Added [] at at d d
unfolding add_all
added_none at d = record { all = refl; long = refl; inside = λ h. h }

pub all_append : (ss ts : List (List ℕ)) (p : Placed) → add_all (ss ++ ts) p ≡ add_all ts (add_all ss p)
unfolding add_all
all_append [] ts p = refl
all_append (s ∷ ss) ts p = all_append ss ts (add_to s p)

-- texts after texts are texts
pub added_then : {ss ts : List (List ℕ)} {at m n : ℕ} {b c d : List ℕ} → Added ss at m b c → Added ts m n c d → Added (ss ++ ts) at n b d
added_then {ss} {ts} {at} {m} {n} {b} {c} {d} h k =
    record {
      all = k.all ∙ (ap (add_all ts) h.all ∙ sym (all_append ss ts (record { at = at; page = b })));
      long = k.long ∙ h.long;
      inside = λ i. omega (arith, k.inside (omega (arith, h.inside i, h.long)), h.long);
    }

pub text-append : (ss ts : List (List ℕ)) → text_of (ss ++ ts) ≡ text_of ss ++ text_of ts
text-append [] ts = refl
text-append (s ∷ ss) ts = ap (λ (l : List ℕ). s ++ l) (text-append ss ts) ∙ sym (append_assoc s (text_of ss) (text_of ts))

-- where there is room for all, they stand one after the other
pub all-with-room : (ss : List (List ℕ)) (at : ℕ) (d : List ℕ) → at + length (text_of ss) ≤ length d
    → add_all ss (record { at = at; page = d }) ≡ record { at = at + length (text_of ss); page = laid_at d at (text_of ss) }
unfolding add_all add_to
all-with-room [] at d h = λ i. record { at = sym (add-zero at) i; page = sym (laid_none d at) i }
all-with-room (s ∷ ss) at d h =
    let n = length-append s (text_of ss) in
    let l = laid-length d s at (omega arith) in
    let a : at + length s + length (text_of ss) ≡ at + length (s ++ text_of ss) = omega arith in
    let o = laid_next d s (text_of ss) at (length s) refl (omega arith) in
    let r : at + length s ≤ length d = omega arith in
    rw (le-leb _ _ r) (all-with-room ss (at + length s) (laid_at d at s) (omega arith) ∙ λ i. record { at = a i; page = o i })
