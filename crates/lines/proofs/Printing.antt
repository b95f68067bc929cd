-- Texts that are printed page by page: nothing is lost where each finds room on a page.
-- Assumes nothing.
use Prim.Native.Nat.{ℕ, ◌+◌, ◌≤◌, ◌<◌}
use mathlib.Core.Path.{◌≡◌, refl, sym, ap, ◌∙◌}
use mathlib.Core.Bool.{Bool, true, false, cond}
use mathlib.Core.List.{List, [], ◌++◌, append-nil, append_assoc}
use native.Mathlib.Omega.{arith}
use lib.Dec.{leb}
use lib.ListN.{length, take, drop, length-append}
use lib.Seq.{take_at, length-take-le}
use borrow.Author.Tests.{le-leb, lt-leb, leb-true}
use Rattle.slices.proofs.Tails.{laid_at}
use Rattle.lines.specs.Page.{Placed, text_of, Added, turned_to, Prints}
use Rattle.lines.proofs.Adding.{all-with-room}

-- ---- a page is turned over

pub turned-not : (need at : ℕ) (page : List ℕ) → at + need ≤ length page → at ≡ turned_to need at page
unfolding turned_to
turned-not need at page h = rw (le-leb _ _ h)

pub turned-over : (need at : ℕ) (page : List ℕ) → length page < at + need → 0 ≡ turned_to need at page
unfolding turned_to
turned-over need at page h = rw (lt-leb _ _ h)

-- there is room then, where a page has so much
pub turned-has-room : (need at : ℕ) (page : List ℕ) → need ≤ length page → turned_to need at page + need ≤ length page
unfolding turned_to
turned-has-room need at page h = go (leb (at + need) (length page)) refl
  where
    go : (b : Bool) → leb (at + need) (length page) ≡ b → cond b at 0 + need ≤ length page
    go true e = leb-true _ _ e
    go false e = omega arith

-- no text
pub prints-none : (at : ℕ) (page : List ℕ) → at ≤ length page → Prints [] at at page page
prints-none at page h = record { printed = []; all = sym (append-nil (take at page)); inside = h; long = refl }

pub turned-prints : (need at : ℕ) (page : List ℕ) → at ≤ length page → Prints [] at (turned_to need at page) page page
unfolding turned_to
turned-prints need at page h = go (leb (at + need) (length page))
  where
    go : (b : Bool) → Prints [] at (cond b at 0) page page
    go true = prints-none at page h
    go false = record { printed = take at page; all = refl; inside = omega arith; long = refl }

-- ---- texts

-- texts for which there is room are all there
pub added-prints : (ss : List (List ℕ)) (at next : ℕ) (before after : List ℕ) → at + length (text_of ss) ≤ length before → Added ss at next before after → Prints (text_of ss) at next before after
added-prints ss at next before after h a =
    let t = text_of ss in
    let e = a.all ∙ all-with-room ss at before h in
    let n : next ≡ at + length t = ap (λ (p : Placed). p.at) e in
    let o : after ≡ laid_at before at t = ap (λ (p : Placed). p.page) e in
    let k : length (take at before ++ t) ≡ at + length t = length-append (take at before) t ∙ ap (λ (m : ℕ). m + length t) (length-take-le at before (omega arith)) in
    let f : take (at + length t) (laid_at before at t) ≡ take at before ++ t =
    ap (take (at + length t)) (sym (append_assoc (take at before) t (drop (length t) (drop at before)))) ∙ take_at (take at before ++ t) (drop (length t) (drop at before)) (at + length t) k in
    record { printed = []; all = rw (n, o) f; inside = omega (arith, a.long); long = a.long }

-- a text after a text
pub prints-then : {s t : List ℕ} {at m n : ℕ} {b c d : List ℕ} → Prints s at m b c → Prints t m n c d → Prints (s ++ t) at n b d
prints-then {s} {t} {at} {m} {n} {b} {c} {d} h k =
    record {
      printed = h.printed ++ k.printed;
      all =
          append_assoc h.printed k.printed (take n d)
          ∙ (ap (λ (l : List ℕ). h.printed ++ l) k.all
          ∙ (sym (append_assoc h.printed (take m c) t) ∙ (ap (λ (l : List ℕ). l ++ t) h.all ∙ append_assoc (take at b) s t)));
      inside = k.inside;
      long = k.long ∙ h.long;
    }

-- texts before which the page is turned over where the longest has no room
pub turned-adds : (ss : List (List ℕ)) (need place at next : ℕ) (before after : List ℕ) → at ≡ turned_to need place before → place ≤ length before → need ≤ length before
    → length (text_of ss) ≤ need → Added ss at next before after → Prints (text_of ss) place next before after
turned-adds ss need place at next before after t h k l a =
    let r = turned-has-room need place before k in
    let x : Prints [] place at before before = rw t (turned-prints need place before h) in
    prints-then x (added-prints ss at next before after (omega (arith, t, r)) a)
