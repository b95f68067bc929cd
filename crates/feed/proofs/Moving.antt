-- Bytes moved to the front of a space, and read on behind them.
-- Assumes nothing.
use Rattle.std.specs.Prelude.{Some, None}
use Prim.Native.Nat.{ℕ, suc, ◌+◌, ◌-◌, ◌≤◌, ◌<◌}
use mathlib.Core.Path.{◌≡◌, refl, sym, ap, ◌∙◌}
use mathlib.Core.Bool.{Bool, true, false, cond}
use mathlib.Core.List.{List, [], ◌∷◌, ◌++◌}
use native.Mathlib.Nat.{add-zero, sub-zero}
use native.Mathlib.Numerals.{add-one}
use native.Mathlib.Omega.{arith}
use borrow.Author.Tests.{le-leb, lt-leb}
use borrow.Rule.Slice.PartMut.{put_mid}
use lib.Dec.{leb}
use lib.ListN.{length, get_or, set, take, drop, length-set, length-drop, take-append-drop}
use lib.Seq.{take-suc, take-suc-set, drop-set-lt, drop-drop, get_or-drop, take-take, take_at, length-take-le}
use Rattle.entries.specs.Entries.{front_of}
use Rattle.feed.specs.declared.Window.{Window}
use Rattle.feed.specs.Within.{Inside, is_inside, bytes_in, Moves, ReadsOn, Fills}

-- ---- byte by byte

-- `to` bytes from `at` on of what the space held stand at its front; from `from` on it is as it was
pub record Moving (at : ℕ) (before : List ℕ) (from to : ℕ) (now : List ℕ) : Type 0 where
  pub place : from ≡ at + to
  pub front : take to now ≡ take to (drop at before)
  pub rest : drop from now ≡ drop from before
  pub long : length now ≡ length before

pub moving-first : (at : ℕ) (before : List ℕ) → Moving at before at 0 before
moving-first at before = record { place = omega arith; front = refl; rest = refl; long = refl }

module _ (at : ℕ) (before : List ℕ) (from to : ℕ) (now : List ℕ) (m : Moving at before from to now) (h : from < length now) where
  -- the byte that is moved is the one that stood there
  byte-is : get_or now from 0 ≡ get_or (drop at before) to 0
  byte-is =
      let a : get_or (drop from now) 0 0 ≡ get_or now from 0 = get_or-drop from now 0 0 ∙ ap (λ (k : ℕ). get_or now k 0) (add-zero from) in
      let b : get_or (drop from before) 0 0 ≡ get_or before from 0 = get_or-drop from before 0 0 ∙ ap (λ (k : ℕ). get_or before k 0) (add-zero from) in
      let c : get_or before from 0 ≡ get_or (drop at before) to 0 = ap (λ (k : ℕ). get_or before k 0) m.place ∙ sym (get_or-drop at before to 0) in
      sym a ∙ (ap (λ (l : List ℕ). get_or l 0 0) m.rest ∙ (b ∙ c))

  pub moving-next : Moving at before (from + 1) (to + 1) (set now to (get_or now from 0))
  moving-next =
      let v = get_or now from 0 in
      let f : take (suc to) (set now to v) ≡ take (suc to) (drop at before) =
      take-suc-set now to v (omega (arith, m.place))
      ∙ ((λ i. m.front i ++ (byte-is i ∷ [])) ∙ sym (take-suc (drop at before) to 0 (omega (arith, m.place, m.long, length-drop at before)))) in
      let r : drop (from + 1) (set now to v) ≡ drop (from + 1) before =
      drop-set-lt (from + 1) now to v (omega (arith, m.place)) ∙ (sym (drop-drop 1 from now) ∙ (ap (drop 1) m.rest ∙ drop-drop 1 from before)) in
      record { place = omega (arith, m.place); front = rw (add-one to) f; rest = r; long = simp length-set m.long }

pub moving-last : (w : Window) (before : List ℕ) (from to : ℕ) (now : List ℕ) → Moving w.at before from to now → from ≡ w.end → Moves w to before now
moving-last w before from to now m e =
    let n : to ≡ w.end - w.at = omega (arith, m.place) in
    record { count = n; front = m.front ∙ ap (λ (k : ℕ). take k (drop w.at before)) n; long = m.long }

-- ---- read on

-- a tail lent and given back leaves what stands before it
pub before-tail : (d l : List ℕ) (kept : ℕ) → kept ≤ length d → take kept (put_mid kept (length d - kept) d l) ≡ take kept d
before-tail d l kept h = take_at (take kept d) _ kept (length-take-le kept d h)

-- ---- filled

abbrev nothing : Window
nothing = record { at = 0; end = 0 }

pub is-inside : (n : ℕ) (w : Window) → Inside n w → is_inside n w ≡ true
is-inside n w h = rw (le-leb _ _ h.order, le-leb _ _ h.inside)

-- a window that ends before it begins, or behind the space, is not the space's
pub is_turned : (n : ℕ) (w : Window) → w.end < w.at → is_inside n w ≡ false
is_turned n w h = rw (lt-leb _ _ h)

pub is-beyond : (n : ℕ) (w : Window) → n < w.end → is_inside n w ≡ false
is-beyond n w h = rw (lt-leb w.end n h) (go (leb w.at w.end))
  where
    go : (b : Bool) → cond b false false ≡ false
    go true = refl
    go false = refl

pub filled_none : (w r : Window) (before : List ℕ) → r ≡ nothing → is_inside (length before) w ≡ false → Fills w r before before
filled_none w r before e u =
    let i : Inside (length before) nothing = record { order = omega arith; inside = omega arith } in
    record { by = rw u (e, refl); window = rw e i; long = refl }

pub filled-same : (w : Window) (before : List ℕ) (n : ℕ) → Inside (length before) w → front_of (bytes_in w before) ≡ Some n → Fills w w before before
filled-same w before n h e = record { by = rw (is-inside (length before) w h, e) (refl, refl); window = h; long = refl }

pub filled_on : (w : Window) (kept end : ℕ) (before moved after : List ℕ) → Inside (length before) w → front_of (bytes_in w before) ≡ None
    → Moves w kept before moved → ReadsOn kept end moved after → Fills w (record { at = 0; end = end }) before after
filled_on w kept end before moved after h p m n =
    let e : take kept (take end after) ≡ bytes_in w before = take-take kept end after n.order ∙ (n.front ∙ m.front) in
    let all : take end after ≡ bytes_in w before ++ drop kept (take end after) = sym (take-append-drop kept (take end after)) ∙ ap (λ (l : List ℕ). l ++ drop kept (take end after)) e in
    record {
      by = rw (is-inside (length before) w h, p) (record { begins = refl; read = drop kept (take end after); kept = simp sub-zero all });
      window = record { order = omega arith; inside = n.inside };
      long = n.long ∙ m.long;
    }
